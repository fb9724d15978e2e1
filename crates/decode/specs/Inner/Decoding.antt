-- A table filled with a program's rows, or the refusal.
use Rattle.std.specs.Prelude.{ℕ, ◌*◌, List, ◌≡◌, leb, length, Result as Answer}
use Rattle.formats.specs.Refusals.{space_too_short}
use Rattle.formats.specs.Results.{Result, done, refusal, and_then, verdict, value_if}
use Rattle.formats.specs.Inner.Limits.{most_records}
use Rattle.formats.specs.Rows.{read_program}
use Rattle.refusal.specs.Inner.Verdicts.{verdict_result}
use Rattle.refusal.specs.declared.Refused.{Refused}
use Rattle.rules.specs.PassOne.{pass_one}
use Rattle.stepwise.specs.Inner.Rows.{row_words, tabled}

-- How many words a table has: a row for each of the most records, 8,456 words in all.
abbrev pub table_words : ℕ
table_words = row_words * most_records

-- The table with the rows of a program that passes pass one. Else the first refusal: of the checks
-- of the records, header to prefix form, then of pass one, and last 13 where the table is too
-- short.
unfoldable pub decoded : List ℕ → List ℕ → Result (List ℕ)
decoded s table =
    and_then
    (read_program s)
    (λ program. and_then
    (pass_one program)
    (λ u. value_if (leb table_words (length table)) space_too_short 0 (tabled table program)))

-- The value, or else what was there before.
unfoldable pub or_else : {A : Type 0} → Result A → A → A
or_else (done x) before = x
or_else (refusal number position) before = before

-- The verdict, and every word of the table.
pub record Decodes (s table after : List ℕ) (r : Answer (Unit {0}) Refused) : Type 0 where
  pub said_so : verdict_result r ≡ verdict (decoded s table)
  pub after_is : after ≡ or_else (decoded s table) table
