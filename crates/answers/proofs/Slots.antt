-- Answers with any number of slots: a law for each way out of the functions that report them.
use Prim.Native.Nat.{ℕ, ◌+◌, ◌≤◌, ◌<◌}
use mathlib.Core.Bool.{true, false}
use mathlib.Core.List.{List}
use mathlib.Core.Path.{◌≡◌, refl, sym, ap, ◌∙◌}
use native.Mathlib.Nat.{zero-add}
use native.Mathlib.Omega.{arith}
use borrow.Author.Tests.{lt-ltb, le-ltb}
use lib.Dec.{ltb}
use lib.ListN.{length, get_or, set}
use Rattle.formats.specs.Refusals.{space_too_short}
use Rattle.formats.specs.Results.{Result}
use Rattle.formats.specs.Written.{written}
use Rattle.formats.proofs.Written.{written_short}
use Rattle.writing.proofs.Copied.{Copied, copy_none, copy_more, copy_all}
use Rattle.std.specs.Prelude.{Result as Answer, Ok, Err}
use Rattle.refusal.specs.Inner.Numbers.{number}
use Rattle.refusal.specs.Inner.Verdicts.{verdict_result}
use Rattle.refusal.specs.declared.Refused.{Refused}
use Rattle.answers.specs.Slots.{refusal_of, position_of, Answered}
use Rattle.answers.specs.Inner.Stores.{Stored}

-- ---- `store_row`

module _ (row : List ℕ) (n : ℕ) (before : List ℕ) where
  -- too few slots
  pub stored_short : (r : ℕ) → length before < length row → r ≡ space_too_short → Stored row n before before r
  stored_short r h e = record { given = rw (lt-ltb _ _ h) e; slots = sym (written_short before 0 row (omega arith)) }

  -- the first words of the row stand in the first slots, and the others are as they were
  pub row_none : Copied before 0 row before 0
  row_none = copy_none before 0 row

  pub row_more : (slots : List ℕ) (k : ℕ) → length row ≤ length before → k < length row → Copied before 0 row slots k → Copied before 0 row (set slots k (get_or row k 0)) (k + 1)
  row_more slots k room more c = rw (zero-add k) at (copy_more before 0 row slots k room (omega arith) more c)

  pub row_slot : (slots : List ℕ) (k : ℕ) → length row ≤ length before → k < length row → Copied before 0 row slots k → k < length slots
  row_slot slots k room more c = omega (arith, c.same_length)

  pub row_length : (slots : List ℕ) (k : ℕ) → Copied before 0 row slots k → length slots ≡ length before
  row_length slots k c = c.same_length

  -- all of the row stands there
  pub row_stored : (slots : List ℕ) (k : ℕ) → length row ≤ length before → length row ≤ k → Copied before 0 row slots k → Stored row n before slots n
  row_stored slots k room all c = record { given = rw (le-ltb _ _ room) refl; slots = copy_all before 0 row slots k all c }

pub ruleset rows = (stored_short, row_none, row_more, row_slot, row_length, row_stored)

-- ---- the answers

-- too few slots for an answer
pub reported_short : (count : ℕ) (row : ℕ → List ℕ) (outcome : Result (Unit {0})) (before : List ℕ) (r : ℕ) → length (row (position_of outcome)) ≡ count
    → length before < count → r ≡ space_too_short → Answered count row outcome before before r
reported_short count row outcome before r long h e =
    record { number = rw (lt-ltb _ _ h) e; slots = sym (written_short before 0 (row (position_of outcome)) (omega arith)) }

module _ (count : ℕ) (row : ℕ → List ℕ) (long : (position : ℕ) → length (row position) ≡ count) (before after : List ℕ) (r : ℕ) where
  -- what is stored is what the outcome says
  pub stored_reported : (outcome : Result (Unit {0})) (n position : ℕ) → n ≡ refusal_of outcome → position ≡ position_of outcome
      → Stored (row position) n before after r
      → Answered count row outcome before after r
  stored_reported outcome n position is there s =
      record {
        number = (rw (long position) at s.given) ∙ ap (λ k. elim (ltb (length before) count) [ true ↦ space_too_short | false ↦ k ]) is;
        slots = s.slots ∙ ap (λ p. written before 0 (row p)) there;
      }

  -- of a check: passed, or refused
  module _ (v : Answer (Unit {0}) Refused) where
    pub reported_ended : v ≡ Ok tt → Stored (row 0) 0 before after r → Answered count row (verdict_result v) before after r
    unfolding refusal_of position_of
    reported_ended case = stored_reported (verdict_result v) 0 0 (sym (ap (λ w. refusal_of (verdict_result w)) case)) (sym (ap (λ w. position_of (verdict_result w)) case))

    pub reported_refused : (e : Refused) (n : ℕ) → v ≡ Err e → n ≡ number e.why → Stored (row e.position) n before after r
        → Answered count row (verdict_result v) before after r
    unfolding refusal_of position_of
    reported_refused e n case is =
        stored_reported (verdict_result v) n e.position (is ∙ sym (ap (λ w. refusal_of (verdict_result w)) case)) (sym (ap (λ w. position_of (verdict_result w)) case))
