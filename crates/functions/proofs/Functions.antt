-- The row "functions": a law for each way out of its functions.
use Prim.Native.Nat.{ℕ, zero, suc, ◌+◌, ◌-◌, ◌*◌, ◌≤◌, ◌<◌, ◌^◌}
use mathlib.Core.Bool.{Bool, true, false, not, ◌&&◌, and-false}
use mathlib.Core.List.{List}
use mathlib.Core.Logic.{◌≢◌}
use mathlib.Core.Path.{◌≡◌, refl, sym, ap, ap₂, ◌∙◌}
use native.Mathlib.Nat.{add_assoc, add-zero, zero-add, sub-zero}
use native.Mathlib.Numerals.{add-one}
use native.Mathlib.Omega.{arith}
use borrow.Author.Tests.{leb-true, leb-false, not-true, not-false, le-leb, lt-leb, eq-eqb, ne_eqb}
use lib.Dec.{leb, eqb}
use Rattle.formats.specs.Numbers.{number_at}
use Rattle.formats.specs.Refusals.{function_field}
use Rattle.formats.specs.Results.{and_then, value_if, done, refusal, verdict, each}
use Rattle.formats.specs.Records.{fields, record_at, record_bytes, nth}
use Rattle.formats.specs.Programs.{Signature, number_valued, tree_valued, sum_of_counts, most_parameters}
use Rattle.formats.specs.Rows.{sorts, function_from, function_at, function_row}
use Rattle.formats.specs.Inner.Fields.{header_in, function_in, sort_in, arity_in, count_in}
use Rattle.formats.proofs.Results.{then_done, then_refused, each_inv, each_none, check_said, test_holds, test_fails, passed_is, refused_is, Passing, pass_more, pass_refused, pass_all}
use Rattle.formats.proofs.Rows.{function_read}
use Rattle.refusal.specs.Inner.Numbers.{number}
use Rattle.refusal.specs.Inner.Verdicts.{verdict_result}
use Rattle.refusal.specs.declared.Refusal.TheVariants.{FunctionField}
use Rattle.refusal.specs.declared.Refused.{Refused}
use Rattle.std.specs.Prelude.{Result as Answer, Ok, Err}
use Rattle.functions.specs.Inner.Counts.{counts_from}
use Rattle.std.specs.List.{fold, sum_by, range_with_len}
use Rattle.formats.specs.Numbers.{Bytes}
use Rattle.formats.proofs.Numbers.{number_at_fits}

-- ---- `most_parameters`

pub parameters_first : (j : ℕ) → j ≡ 0 → 0 ≡ most_parameters j
unfolding most_parameters
parameters_first zero e = refl
parameters_first (suc j) e = absurd (omega arith)

pub parameters_other : (j : ℕ) → j ≢ 0 → 4 ≡ most_parameters j
unfolding most_parameters
parameters_other zero n = absurd (n refl)
parameters_other (suc j) n = refl

pub ruleset parameters = (parameters_first, parameters_other)

-- ---- `function_fits`

-- a record whose sort is right ..
right_sort :
    (edition j x a n i : ℕ)
    → x ≤ 1
    → value_if (leb a (most_parameters j) && (leb 1 n && eqb i 0)) function_field (suc j) tt ≡ verdict (function_from edition j (fields x a n i))
unfolding function_from sorts nth
right_sort edition j zero a n i h =
    let g : Signature = record { sort = number_valued; parameters = a; count = n } in
    check_said (leb a (most_parameters j) && (leb 1 n && eqb i 0)) function_field (suc j) g
right_sort edition j (suc zero) a n i h =
    let g : Signature = record { sort = tree_valued; parameters = a; count = n } in
    check_said (leb a (most_parameters j) && (leb 1 n && eqb i 0)) function_field (suc j) g
right_sort edition j (suc (suc x)) a n i h = absurd (omega arith)

-- .. and one whose sort is not
wrong_sort_from : (edition j x a n i : ℕ) → 1 < x → value_if false function_field (suc j) tt ≡ verdict (function_from edition j (fields x a n i))
unfolding function_from sorts nth
wrong_sort_from edition j zero a n i h = absurd (omega arith)
wrong_sort_from edition j (suc zero) a n i h = absurd (omega arith)
wrong_sort_from edition j (suc (suc x)) a n i h = refl

module _ (s : List ℕ) (j : ℕ) where
  -- what the answer says of function j
  abbrev pub Says : Bool → Type 0
  Says fits = value_if fits function_field (suc j) tt ≡ verdict (function_in s j)

  -- function j is read from the fields of its record
  function_is :
      (x a n i : ℕ)
      → x ≡ sort_in s j
      → a ≡ arity_in s j
      → n ≡ count_in s j
      → i ≡ number_at 4 s (record_bytes * (1 + j) + 4)
      → function_in s j ≡ function_from (header_in s).edition j (fields x a n i)
  unfolding function_in function_at sort_in arity_in count_in record_at
  function_is x a n i ex ea en ei =
      let position : record_bytes * (1 + j) ≡ record_bytes * suc j = omega arith in
      cc

  -- the tests of all its fields decide
  fields_decide :
      (fits : Bool)
      → fits ≡ (leb (sort_in s j) 1 && (leb (arity_in s j) (most_parameters j) && (leb 1 (count_in s j) && eqb (number_at 4 s (record_bytes * (1 + j) + 4)) 0)))
      → Says fits
  fields_decide fits e = by_sort (leb (sort_in s j) 1) refl
    where
      own : (answer : Bool) → value_if answer function_field (suc j) tt ≡ verdict (function_from (header_in s).edition j (fields (sort_in s j) (arity_in s j) (count_in s j) (number_at 4 s (record_bytes * (1 + j) + 4)))) → Says answer
      own answer h = h ∙ sym (ap verdict (function_is _ _ _ _ refl refl refl refl))

      by_sort : (right : Bool) → leb (sort_in s j) 1 ≡ right → Says fits
      by_sort true h = own fits (simp (e, h) (right_sort _ j (sort_in s j) _ _ _ (leb-true _ _ h)))
      by_sort false h = own fits (simp (e, h) (wrong_sort_from _ j (sort_in s j) _ _ _ (leb-false _ _ h)))

  -- what its fields say, one test after the other
  module _ (x : ℕ) (ex : x ≡ sort_in s j) where
    pub wrong_sort : 1 < x → Says false
    wrong_sort h = wrong_sort_from _ j x _ _ _ h ∙ sym (ap verdict (function_is x _ _ _ ex refl refl refl))

    module _ (a : ℕ) (ea : a ≡ arity_in s j) (right : x ≤ 1) where
      -- where the sort is right, the other fields decide
      others_decide :
          (n i : ℕ) (test : Bool)
          → n ≡ count_in s j
          → i ≡ number_at 4 s (record_bytes * (1 + j) + 4)
          → (leb a (most_parameters j) && (leb 1 n && eqb i 0)) ≡ test
          → Says test
      others_decide n i test en ei e =
          ap (λ t. value_if t function_field (suc j) tt) (sym e) ∙ right_sort _ j x a n i right ∙ sym (ap verdict (function_is x a n i ex ea en ei))

      pub many_parameters : (most : ℕ) → most ≡ most_parameters j → most < a → Says false
      many_parameters most em h = others_decide _ _ false refl refl (simp (← em, lt-leb _ _ h))

      module _ (n : ℕ) (en : n ≡ count_in s j) where
        pub no_count : n ≡ 0 → Says false
        no_count z = others_decide n _ false en refl (simp (lt-leb 1 n (omega arith), and-false))

        pub rest_decides :
            (i most : ℕ)
            → i ≡ number_at 4 s (record_bytes * (1 + j) + 4)
            → most ≡ most_parameters j
            → a ≤ most
            → n ≢ 0
            → Says (eqb i 0)
        rest_decides i most ei em few h = others_decide n i (eqb i 0) en ei (simp (← em, le-leb _ _ few, le-leb 1 n (omega arith)))

pub ruleset function_fields = (wrong_sort, many_parameters, no_count, rest_decides)

-- ---- `count_sum`

-- the counts from function j on, added one after the other
counts_added : (s : List ℕ) (n j sum : ℕ) → fold (λ m k. m + count_in s k) sum (range_with_len j n) ≡ sum + counts_from n s j
unfolding counts_from
counts_added s zero j sum = sym (add-zero sum)
counts_added s (suc n) j sum =
    let next : counts_from n s (j + 1) ≡ counts_from n s (suc j) = ap (counts_from n s) (add-one j) in
    omega (arith, counts_added s n (j + 1) (sum + count_in s j), next)

pub counts_are : (s : List ℕ) (n : ℕ) → sum_by (count_in s) (range_with_len 0 n) ≡ counts_from n s 0
counts_are s n = counts_added s n 0 0 ∙ zero-add (counts_from n s 0)

-- a count has 16 bits ..
count_small : (s : List ℕ) (j : ℕ) → Bytes s → count_in s j < 256 ^ 2
unfolding count_in record_at
count_small s j bytes = number_at_fits 2 s (record_bytes * suc j + 2) bytes

-- .. so the sum of fewer than 65,536 counts has no more than 32
counts_small : (s : List ℕ) (n j : ℕ) → Bytes s → counts_from n s j ≤ 65535 * n
unfolding counts_from
counts_small s zero j bytes = omega arith
counts_small s (suc n) j bytes = omega (arith, count_small s j bytes, counts_small s n (suc j) bytes)

pub counts_fit : (s : List ℕ) (n : ℕ) → Bytes s → n < 2 ^ 16 → sum_by (count_in s) (range_with_len 0 n) < 2 ^ 64
counts_fit s n bytes few = rw (counts_are s n) (omega (arith, counts_small s n 0 bytes))

-- the counts summed one by one: of the first j functions, which the others make whole
pub record Summed (s : List ℕ) (functions sum j : ℕ) : Type 0 where
  pub small : sum ≤ 65535 * j
  pub left : counts_from functions s 0 ≡ sum + counts_from (functions - j) s j

pub sum_none : (s : List ℕ) (functions : ℕ) → Summed s functions 0 0
sum_none s functions = record { small = omega arith; left = simp (zero-add, sub-zero) }

pub sum_more :
    (s : List ℕ) (functions sum j n : ℕ)
    → j < functions
    → Summed s functions sum j
    → n ≡ count_in s j
    → n < 65536
    → Summed s functions (sum + n) (j + 1)
unfolding counts_from
sum_more s functions sum j n more c e small =
    let next : functions - j ≡ suc (functions - (j + 1)) = omega arith in
    record {
      small = omega (arith, c.small);
      left =
          c.left
          ∙ ap (λ m. sum + counts_from m s j) next
          ∙ ap (λ m. sum + (m + counts_from (functions - (j + 1)) s (suc j))) (sym e)
          ∙ sym (add_assoc sum n _)
          ∙ ap (λ m. sum + n + counts_from (functions - (j + 1)) s m) (sym (add-one j));
    }

pub sum_all : (s : List ℕ) (functions sum j : ℕ) → functions ≤ j → Summed s functions sum j → sum ≡ counts_from functions s 0
unfolding counts_from
sum_all s functions sum j all c =
    let none : functions - j ≡ 0 = omega arith in
    sym (c.left ∙ ap (λ m. sum + counts_from m s j) none ∙ add-zero sum)

pub ruleset summed = (sum_none, sum_more, sum_all)

-- ---- `function_fields`

module _ (s : List ℕ) (functions : ℕ) where
  pub fields_none : Passing (function_in s) (verdict (each (function_in s) functions 0)) functions 0
  fields_none = record { left = simp sub-zero }

  module _ (j : ℕ) (more : j < functions) (p : Passing (function_in s) (verdict (each (function_in s) functions 0)) functions j)
      (fits : Bool)
      (tested : fits ≡ (leb (sort_in s j) 1 && (leb (arity_in s j) (most_parameters j) && (leb 1 (count_in s j) && eqb (number_at 4 s (record_bytes * (1 + j) + 4)) 0))))
    where
      pub fields_more : not fits ≡ false → Passing (function_in s) (verdict (each (function_in s) functions 0)) functions (j + 1)
      fields_more u = pass_more _ _ functions j more p (sym (test_holds fits function_field (suc j) _ (fields_decide s j fits tested) (not-false fits u)))

      pub fields_refused : (r : Refused) → r ≡ record { why = FunctionField; position = j + 1 } → not fits ≡ true
          → refusal (number r.why) r.position ≡ verdict (each (function_in s) functions 0)
      fields_refused r at u =
          rw at
          (ap (refusal function_field) (add-one j)
          ∙ pass_refused _ _ functions j function_field (suc j) more p (sym (test_fails fits function_field (suc j) _ (fields_decide s j fits tested) (not-true fits u))))

pub ruleset fields_checked = (fields_none, fields_more, fields_refused, pass_all)

-- ---- `function_row`

-- the sum of the counts of functions that were read
pub total_is : (s : List ℕ) (n j : ℕ) (gs : List Signature) → each (function_in s) n j ≡ done gs → sum_of_counts gs ≡ counts_from n s j
unfolding sum_of_counts counts_from
total_is s zero j gs e = ap sum_of_counts (each_none (function_in s) j gs e)
total_is s (suc n) j gs e =
    let i = each_inv (function_in s) n j gs e in
    ap sum_of_counts i.both ∙ ap₂ ◌+◌ (function_read s j i.head i.here).count (total_is s n (suc j) i.tail i.later)

module _ (s : List ℕ) (functions nodes : ℕ) (ef : functions ≡ (header_in s).functions) (en : nodes ≡ (header_in s).nodes) where
  -- the row, by the numbers that were read
  row_is :
      function_row (header_in s) s
      ≡ and_then (each (function_in s) functions 0) (λ gs. value_if (eqb (sum_of_counts gs) nodes) function_field functions gs)
  unfolding function_row header_in record_at function_in
  row_is = rw (ef, en)

  module _ (read : Answer (Unit {0}) Refused) (reported : verdict_result read ≡ verdict (each (function_in s) functions 0)) where
    pub row_field : (r : Refused) → read ≡ Err r → refusal (number r.why) r.position ≡ verdict (function_row (header_in s) s)
    row_field r case =
        sym (ap verdict (row_is ∙ then_refused _ (refused_is (each (function_in s) functions 0) (number r.why) r.position (sym reported ∙ ap verdict_result case))))

    -- the sum of the counts decides
    sum_decides :
        (sum : ℕ)
        → read ≡ Ok tt
        → sum ≡ counts_from functions s 0
        → value_if (eqb sum nodes) function_field functions tt ≡ verdict (function_row (header_in s) s)
    sum_decides sum case es =
        let v = passed_is (each (function_in s) functions 0) (sym reported ∙ ap verdict_result case) in
        ap (λ n. value_if (eqb n nodes) function_field functions tt) (es ∙ sym (total_is s functions 0 v.value v.is))
        ∙ check_said (eqb (sum_of_counts v.value) nodes) function_field functions v.value
        ∙ sym (ap verdict (row_is ∙ then_done _ v.is))

    pub row_passed : (sum : ℕ) → read ≡ Ok tt → sum ≡ counts_from functions s 0 → sum ≡ nodes → done tt ≡ verdict (function_row (header_in s) s)
    row_passed sum case es e = test_holds (eqb sum nodes) function_field functions _ (sum_decides sum case es) (eq-eqb sum nodes e)

    pub row_sum : (sum : ℕ) → read ≡ Ok tt → sum ≡ counts_from functions s 0 → sum ≢ nodes → (r : Refused) → r ≡ record { why = FunctionField; position = functions }
        → refusal (number r.why) r.position ≡ verdict (function_row (header_in s) s)
    row_sum sum case es n r at = rw at (test_fails (eqb sum nodes) function_field functions _ (sum_decides sum case es) (ne_eqb sum nodes n))

pub ruleset function_said = (row_field, row_passed, row_sum)
