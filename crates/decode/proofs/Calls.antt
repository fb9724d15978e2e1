-- `decode`: a law for each way out.
use Prim.Native.Nat.{ℕ, ◌≤◌, ◌<◌}
use mathlib.Core.List.{List}
use mathlib.Core.Path.{◌≡◌, sym, ap, ◌∙◌}
use borrow.Author.Tests.{le-leb, lt-leb}
use lib.Dec.{leb}
use lib.ListN.{length}
use Rattle.std.specs.Prelude.{Result as Answer, Ok, Err}
use Rattle.formats.specs.Refusals.{space_too_short}
use Rattle.formats.specs.Results.{Result, done, refusal, verdict, value_if, and_then}
use Rattle.formats.specs.Rows.{read_program}
use Rattle.formats.proofs.Results.{Followed, by_result, then_done, then_refused, then_inv}
use Rattle.refusal.specs.Inner.Numbers.{number}
use Rattle.refusal.specs.Inner.Verdicts.{verdict_result}
use Rattle.refusal.specs.declared.Refusal.TheVariants.{SpaceTooShort}
use Rattle.refusal.specs.declared.Refused.{Refused}
use Rattle.rules.specs.PassOne.{pass_one}
use Rattle.rules.specs.Inner.Checks.{check_one}
use Rattle.stepwise.specs.Inner.Rows.{tabled}
use Rattle.decode.specs.Inner.Decoding.{table_words, decoded, or_else, Decodes}
use Rattle.decode.specs.Inner.Walk.{TableReady, FillsAll}

module _ (s table : List ℕ) where
  -- the refusal that is reported
  refused : (r : Refused) → decoded s table ≡ refusal (number r.why) r.position → Decodes s table table (Err r)
  unfolding or_else
  refused r e = record { said_so = sym (ap verdict e); after_is = sym (rw (e, or_else)) }

  -- a refusal of the checks is one of the whole
  checks_refuse : (n location : ℕ) → check_one s ≡ refusal n location → decoded s table ≡ refusal n location
  unfolding check_one decoded
  checks_refuse n location e =
      by_result (read_program s)
      (λ program is. then_done _ is ∙ then_refused _ (sym (then_done pass_one is) ∙ e))
      (λ m at is. then_refused _ is ∙ ap (λ (r : Result (Unit {0})). and_then {B = List ℕ} r (λ u. refusal n location)) (sym (then_refused pass_one is) ∙ e))

  module _ (checks : Answer (Unit {0}) Refused) (reported : verdict_result checks ≡ check_one s) where
    pub decode_refused : (r : Refused) → checks ≡ Err r → Decodes s table table (Err r)
    decode_refused r case = refused r (checks_refuse (number r.why) r.position (sym reported ∙ ap verdict_result case))

    module _ (passes : checks ≡ Ok tt) where
      -- the program that passes, and its rows
      the_program : Followed (read_program s) pass_one tt
      unfolding check_one
      the_program = then_inv (read_program s) pass_one tt (sym reported ∙ ap verdict_result passes)

      into : decoded s table ≡ value_if (leb table_words (length table)) space_too_short 0 (tabled table the_program.value)
      unfolding decoded
      into = then_done _ the_program.first ∙ then_done _ the_program.second

      pub decode_short : (r : Refused) → length table < table_words → r ≡ record { why = SpaceTooShort; position = 0 } → Decodes s table table (Err r)
      decode_short r short is = rw is (refused (record { why = SpaceTooShort; position = 0 }) (into ∙ simp (lt-leb _ _ short)))

      pub decode_ready : table_words ≤ length table → TableReady s table
      decode_ready room = record { is_read = ap verdict the_program.first; room = room }

      pub decode_done : (after : List ℕ) → table_words ≤ length table → FillsAll s table after → Decodes s table after (Ok tt)
      unfolding or_else
      decode_done after room l =
          let all : decoded s table ≡ done (tabled table the_program.value) = into ∙ simp (le-leb _ _ room) in
          record { said_so = sym (ap verdict all); after_is = l.is the_program.value the_program.first ∙ sym (rw (all, or_else)) }

pub ruleset ways = (decode_refused, decode_short, decode_ready, decode_done)
