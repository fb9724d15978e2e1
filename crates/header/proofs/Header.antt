-- The row "header": a law for each way out of its functions.
use Prim.Native.Nat.{ℕ, suc, ◌+◌, ◌*◌, ◌≤◌, ◌<◌}
use mathlib.Core.Bool.{Bool, true, false, not, ◌&&◌, and-false}
use mathlib.Core.List.{List}
use mathlib.Core.Logic.{◌≢◌}
use mathlib.Core.Path.{◌≡◌, sym, ap, ◌∙◌}
use native.Mathlib.Omega.{arith}
use borrow.Author.Tests.{not-true, not-false, le-leb, lt-leb, eq-eqb, ne_eqb}
use lib.Dec.{eqb, leb}
use lib.ListN.{length, get_or}
use Rattle.formats.specs.Numbers.{number_at}
use Rattle.formats.specs.Refusals.{header_field}
use Rattle.formats.specs.Results.{value_if, done, refusal, verdict}
use Rattle.formats.specs.Records.{fields, record_at, record_bytes}
use Rattle.formats.specs.Programs.{Header, first_edition, most_functions, most_nodes}
use Rattle.formats.specs.Rows.{header_from, header_row}
use Rattle.formats.specs.Inner.Fields.{header_in}
use Rattle.refusal.specs.Inner.Numbers.{number}
use Rattle.refusal.specs.declared.Refusal.TheVariants.{HeaderField}
use Rattle.refusal.specs.declared.Refused.{Refused}
use Rattle.formats.proofs.Results.{check_said, test_holds, test_fails}

-- ---- the fields of a header, one test after the other

module _ (bytes edition f n i : ℕ) where
  -- what the answer says of the header with these fields
  abbrev pub Says : Bool → Type 0
  Says fits = value_if fits header_field 0 tt ≡ verdict (header_from bytes (fields edition f n i))

  pub wrong_edition : edition ≢ first_edition → Says false
  unfolding header_from
  wrong_edition h = simp (header_from, ne_eqb _ _ h)

  pub no_functions : f < 1 → Says false
  unfolding header_from
  no_functions h = simp (header_from, lt-leb _ _ h, and-false)

  pub many_functions : most_functions < f → Says false
  unfolding header_from
  many_functions h = simp (header_from, lt-leb _ _ h, and-false)

  pub no_nodes : n < 1 → Says false
  unfolding header_from
  no_nodes h = simp (header_from, lt-leb _ _ h, and-false)

  pub many_nodes : most_nodes < n → Says false
  unfolding header_from
  many_nodes h = simp (header_from, lt-leb _ _ h, and-false)

  pub rest_not_zero : i ≢ 0 → Says false
  unfolding header_from
  rest_not_zero h = simp (header_from, ne_eqb _ _ h, and-false)

  -- all fields are right: the record count decides
  pub record_count :
      edition ≡ first_edition
      → 1 ≤ f
      → f ≤ most_functions
      → 1 ≤ n
      → n ≤ most_nodes
      → i ≡ 0
      → Says (eqb bytes (record_bytes * (1 + f + n)))
  unfolding header_from
  record_count e f₁ f₂ n₁ n₂ z =
      let count : record_bytes * (1 + f + n) ≡ record_bytes * suc (f + n) = omega arith in
      let header : Header = record { edition = edition; functions = f; nodes = n } in
      simp (header_from, eq-eqb _ _ e, le-leb _ _ f₁, le-leb _ _ f₂, le-leb _ _ n₁, le-leb _ _ n₂, eq-eqb _ _ z, count)
      (check_said (eqb bytes (record_bytes * suc (f + n))) header_field 0 header)

pub ruleset header_fields = (wrong_edition, no_functions, many_functions, no_nodes, many_nodes, rest_not_zero, record_count)

-- ---- `header_row`

module _ (s : List ℕ) (edition f n i : ℕ) (fits : Bool)
    (e : edition ≡ get_or s 0 0) (ef : f ≡ (header_in s).functions) (en : n ≡ (header_in s).nodes) (ei : i ≡ number_at 4 s 4)
    (reported :
    fits
    ≡ (eqb edition first_edition
    && ((leb 1 f && leb f most_functions) && ((leb 1 n && leb n most_nodes) && (eqb i 0 && eqb (length s) (record_bytes * (1 + f + n)))))))
  where
    -- what the row says of the fields that were read
    header_from_fields : header_row s ≡ header_from (length s) (fields edition f n i)
    unfolding header_row header_in record_at
    header_from_fields = cc

    header_reported : value_if fits header_field 0 tt ≡ verdict (header_row s)
    unfolding header_from
    header_reported =
        let count : record_bytes * suc (f + n) ≡ record_bytes * (1 + f + n) = omega arith in
        let header : Header = record { edition = edition; functions = f; nodes = n } in
        check_said fits header_field 0 header ∙ sym (ap verdict header_from_fields ∙ (simp (header_from, count, ← reported)))

    pub header_passed : not fits ≡ false → done tt ≡ verdict (header_row s)
    header_passed h = test_holds fits header_field 0 _ header_reported (not-false fits h)

    pub header_refused : (r : Refused) → r ≡ record { why = HeaderField; position = 0 } → not fits ≡ true → refusal (number r.why) r.position ≡ verdict (header_row s)
    header_refused r at h = rw at (test_fails fits header_field 0 _ header_reported (not-true fits h))

pub ruleset header_said = (header_passed, header_refused)
