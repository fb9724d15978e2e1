-- The pending trees: what their list is, and a law for each way out of the functions on them.
use Prim.Native.Nat.{ℕ, zero, suc, ◌+◌, ◌-◌, ◌≤◌, ◌<◌}
use mathlib.Core.Bool.{Bool, true, false, ◌&&◌, and-false}
use mathlib.Core.List.{List, [], ◌∷◌, ◌++◌}
use mathlib.Core.Logic.{◌≢◌}
use mathlib.Core.Path.{◌≡◌, refl, sym, ap, ap₂, ◌∙◌}
use native.Mathlib.Decide.{dec_le}
use native.Mathlib.Omega.{arith}
use native.Mathlib.Numerals.{towards_suc}
use borrow.Author.Tests.{eq-eqb, ne_eqb, eqb-true, eqb-false, le-leb, lt-leb}
use lib.Dec.{leb, eqb}
use lib.ListN.{length, get_or, take, replicate, set, length-set}
use lib.Seq.{get_or-take}
use Rattle.formats.specs.Inner.Buffers.{from_last}
use Rattle.formats.specs.Refusals.{out_of_order}
use Rattle.formats.specs.Results.{done, refusal, value_if}
use Rattle.formats.proofs.Buffers.{length_from, from_top}
use Rattle.formats.proofs.Results.{done_injective, done_not}
use Rattle.rules.specs.Limits.{most_pending}
use Rattle.rules.specs.PassTwo.{take_head, same_names}
use Rattle.rules.proofs.PassTwo.{same-names, names_same}
use Rattle.std.specs.Bool.{Decides, one_answer}
use Rattle.std.proofs.lemmas.Bool.Decides.{Decides-eqb}
use Rattle.std.proofs.lemmas.Slice.Eq.{slice_eq-Decides}
use lib.Pointwise.{pointwise}
use Rattle.std.proofs.lemmas.List.{length-take}
use Rattle.std.specs.List.{list_all, zip}
use Rattle.std.specs.Prelude.{Option, Some, None}
use Rattle.std.proofs.Math.Seq.{take-suc}
use Rattle.pending.specs.declared.Pending.{Pending}
use Rattle.pending.specs.Inner.List.{length_of, list_of, parameter_alone, Alone, is_head, head_taken, taken_result, Took, put_two, two_after, two_put, InFront}

-- ---- the list

length_list : (p : Pending) → length (list_of p) ≡ length_of p
unfolding list_of
length_list p = length_from p.names (length_of p)

-- the list has as many names as are counted
pub counted_list : (p : Pending) (l : ℕ) → l ≡ length_of p → list_of p ≡ from_last p.names l
unfolding list_of
counted_list p l counted = ap (from_last p.names) (sym counted)

short_list : (names : List ℕ) (l : ℕ) → l ≤ most_pending → list_of (record { names = names; len = l }) ≡ from_last names l
short_list names l short = counted_list _ l (omega arith)

-- the list by its head
pub by_head : (p : Pending) (l : ℕ) → l ≡ length_of p → l ≢ 0 → list_of p ≡ get_or p.names (l - 1) 0 ∷ from_last p.names (l - 1)
unfolding from_last
by_head p l counted some = let next : l ≡ suc (l - 1) = omega arith in counted_list p l counted ∙ ap (from_last p.names) next

-- ---- `parameter_alone`

pub alone_first : Alone parameter_alone
unfolding from_last
alone_first = record { whole = refl; list = short_list (replicate most_pending 0) 1 (omega arith) }

-- ---- `take-head`

module _ (p : Pending) (a l : ℕ) (counted : l ≡ length_of p) where
  not_head : is_head a (list_of p) ≡ false → None ≡ head_taken p a
  unfolding head_taken
  not_head other = sym (rw (other, head_taken))

  pub took_none : (1 ≤ l → ⊥) → Took p a None
  unfolding from_last take_head
  took_none nothing =
      let none : l ≡ 0 = elim (dec_le 1 l) [ yes some ↦ absurd (nothing some) | no few ↦ omega arith ] in
      let empty : list_of p ≡ [] = counted_list p l counted ∙ ap (from_last p.names) none in
      record { whole = not_head (ap (is_head a) empty); reports = λ k. ap (take_head a k) empty }

  module _ (name top : ℕ) (is_name : name ≡ a) (some : 1 ≤ l) (is_top : top ≡ l - 1) where
    -- the list by its head
    head_on_top : list_of p ≡ get_or p.names top 0 ∷ from_last p.names top
    head_on_top = rw is_top (by_head p l counted (λ none. absurd (omega arith)))

    head_test : is_head a (list_of p) ≡ eqb (get_or p.names top 0) a
    head_test = ap (is_head a) head_on_top

    -- taking is a test of the head
    tested : (k : ℕ) → take_head a k (list_of p) ≡ value_if (eqb (get_or p.names top 0) a) out_of_order k (from_last p.names top)
    unfolding take_head
    tested k = ap (take_head a k) head_on_top

    pub took_other : get_or p.names top 0 ≢ name → Took p a None
    took_other named =
        let other : get_or p.names top 0 ≢ a = rw is_name at named in
        record { whole = not_head (head_test ∙ ne_eqb _ _ other); reports = λ k. tested k ∙ rw (ne_eqb _ _ other) }

    pub took_head : get_or p.names top 0 ≡ name → Took p a (Some (record { names = p.names; len = top }))
    unfolding head_taken
    took_head named =
        let test : is_head a (list_of p) ≡ true = head_test ∙ eq-eqb _ _ (named ∙ is_name) in
        let less : length_of p - 1 ≡ top = omega arith in
        record {
          whole = sym (rw (test, head_taken, less));
          reports = λ k. tested k ∙ rw (eq-eqb _ _ (named ∙ is_name), short_list p.names top (omega arith));
        }

    -- .. with as many left as lie below it
    pub took_below : get_or p.names top 0 ≡ name → (len : ℕ) → len ≡ top → Took p a (Some (record { names = p.names; len = len }))
    took_below named len is = rw is (took_head named)

pub ruleset heads = (took_none, took_other, took_below)

-- ---- `is_full`

pub full_counted : (p : Pending) (l : ℕ) → l ≡ length_of p → leb most_pending l ≡ leb most_pending (length (list_of p))
full_counted p l counted = ap (leb most_pending) (counted ∙ sym (length_list p))

-- ---- `put_two`

module _ (p : Pending) (left right l : ℕ) (counted : l ≡ length_of p) where
  pub put_full : most_pending < l + 2 → InFront p left right p
  unfolding put_two two_put
  put_full full = record {
    whole = sym (rw (lt-leb (length_of p + 2) most_pending (omega arith), two_put));
    list = sym (rw (lt-leb (length (list_of p) + 2) most_pending (omega (arith, length_list p)), put_two));
  }

  pub put_names : l + 2 ≤ most_pending → length p.names ≡ most_pending → InFront p left right (two_after p left right l)
  unfolding put_two two_put
  put_names room long =
      let one = set p.names l right in
      let inside : suc l < length one = rw (length-set p.names l right) (omega arith) in
      let new : from_last (set one (l + 1) left) (l + 2) ≡ left ∷ (right ∷ from_last p.names l) =
      simp towards_suc (from_top one (suc l) left inside ∙ ap (λ k. left ∷ k) (from_top p.names l right (omega arith))) in
      record {
        whole = ap (two_after p left right) counted ∙ sym (rw (le-leb (length_of p + 2) most_pending (omega arith), two_put));
        list = short_list _ (l + 2) room ∙ new
            ∙ sym (rw (le-leb (length (list_of p) + 2) most_pending (omega (arith, length_list p)), put_two, counted_list p l counted));
      }

pub ruleset puts = (put_full, put_names)

-- ---- `is_same`

-- lists of different lengths are not the same
not_same : (xs ys : List ℕ) → length xs ≢ length ys → same_names xs ys ≡ false
unfolding same_names
not_same [] [] h = absurd (h refl)
not_same [] (y ∷ ys) h = refl
not_same (x ∷ xs) [] h = refl
not_same (x ∷ xs) (y ∷ ys) h = ap (λ t. eqb x y && t) (not_same xs ys (λ e. h (ap suc e))) ∙ and-false (eqb x y)

-- the first l names decide the list from the last of them ..
from_taken : (names : List ℕ) (n l : ℕ) → l ≤ n → from_last (take n names) l ≡ from_last names l
unfolding from_last
from_taken names n zero h = refl
from_taken names n (suc l) h = ap₂ ◌∷◌ (get_or-take n names l 0 (omega arith)) (from_taken names n l (omega arith))

-- .. and the list decides them
taken_from : (these those : List ℕ) (l : ℕ) → l ≤ length these → l ≤ length those → from_last these l ≡ from_last those l → take l these ≡ take l those
unfolding from_last
taken_from these those zero _ _ e = refl
taken_from these those (suc l) h k e =
    let last : get_or these l 0 ≡ get_or those l 0 = cc in
    let before : from_last these l ≡ from_last those l = cc in
    rw (take-suc these l 0 (omega arith), take-suc those l 0 (omega arith))
    (ap₂ (λ names name. names ++ name ∷ []) (taken_from these those l (omega arith) (omega arith) before) last)

-- names compared pair by pair are compared as lists of one length are
zip_told : (xs ys : List ℕ) → length xs ≡ length ys → list_all (λ p. eqb p.0 p.1) (zip xs ys) ≡ pointwise eqb xs ys
zip_told [] [] e = refl
zip_told [] (y ∷ ys) e = absurd (omega arith)
zip_told (x ∷ xs) [] e = absurd (omega arith)
zip_told (x ∷ xs) (y ∷ ys) e = ap (λ t. eqb x y && t) (zip_told xs ys (omega arith))

pub pairs_told : (these those : List ℕ) (l : ℕ) → length these ≡ most_pending → length those ≡ most_pending
    → list_all (λ p. eqb p.0 p.1) (zip (take l these) (take l those)) ≡ pointwise eqb (take l these) (take l those)
pairs_told these those l h k = zip_told (take l these) (take l those) (omega (arith, length-take {A = ℕ}))

-- what tells whether the first l names of both are the same tells it of their lists
names_told : (these those : List ℕ) (l : ℕ) (r : Bool) → l ≤ length these → l ≤ length those → Decides r (take l these ≡ take l those)
    → r ≡ same_names (from_last these l) (from_last those l)
names_told these those l r h k told =
    one_answer r _ told (
      λ same. taken_from these those l h k (same-names _ _ same),
      λ same. names_same _ _ (sym (from_taken these l l (omega arith)) ∙ ap (λ names. from_last names l) same ∙ from_taken those l l (omega arith)),
    )

module _ (one other : Pending) (l m : ℕ) (counted : l ≡ length_of one) (counted' : m ≡ length_of other) where
  pub same_lengths : l ≢ m → false ≡ same_names (list_of one) (list_of other)
  same_lengths h = sym (not_same (list_of one) (list_of other) (λ e. h (omega (arith, length_list one, length_list other))))

  pub same_told : l ≡ m → length one.names ≡ most_pending → length other.names ≡ most_pending → (r : Bool) → r ≡ pointwise eqb (take l one.names) (take l other.names)
      → r ≡ same_names (list_of one) (list_of other)
  same_told e long long' r told =
      names_told one.names other.names l r (omega arith) (omega arith) (slice_eq-Decides Decides-eqb _ _ r told)
      ∙ sym (ap₂ same_names (counted_list one l counted) (counted_list other l (e ∙ counted')))

pub ruleset compared = (same_lengths, same_told)

-- name by name
module _ (these those : List ℕ) where
  -- the first i names of both are the same
  pub record Alike (l i : ℕ) : Type 0 where
    pub within : i ≤ l
    pub same : same_names (from_last these i) (from_last those i) ≡ true

  pub same_none : (l : ℕ) → Alike l 0
  unfolding from_last same_names
  same_none l = record { within = omega arith; same = refl }

  pub same_more : (l i : ℕ) → i < l → get_or these i 0 ≡ get_or those i 0 → Alike l i → Alike l (i + 1)
  unfolding from_last same_names
  same_more l i more e a = record { within = omega arith; same = simp towards_suc (ap₂ ◌&&◌ (eq-eqb _ _ e) a.same) }

  -- lists that differ in one name are not the same
  differ : (l i : ℕ) → i < l → get_or these i 0 ≢ get_or those i 0 → same_names (from_last these l) (from_last those l) ≡ false
  unfolding from_last same_names
  differ zero i h ne = absurd (omega arith)
  differ (suc l) i h ne = here (eqb i l) refl (λ below. differ l i below ne)
    where
      here : (t : Bool) → eqb i l ≡ t → (i < l → same_names (from_last these l) (from_last those l) ≡ false)
          → (eqb (get_or these l 0) (get_or those l 0) && same_names (from_last these l) (from_last those l)) ≡ false
      here true e later = let is : i ≡ l = eqb-true i l e in rw (ne_eqb _ _ (rw is at ne))
      here false e later =
          let other : i ≢ l = eqb-false i l e in
          simp (later (omega arith), and-false)

module _ (one other : Pending) (l m : ℕ) (counted : l ≡ length_of one) (counted' : m ≡ length_of other) where
  module _ (e : l ≡ m) (i : ℕ) where
    -- both lists have l names
    both : same_names (from_last one.names l) (from_last other.names l) ≡ same_names (list_of one) (list_of other)
    both = sym (ap₂ same_names (counted_list one l counted) (counted_list other l (e ∙ counted')))

    pub same_differ : i < l → get_or one.names i 0 ≢ get_or other.names i 0 → false ≡ same_names (list_of one) (list_of other)
    same_differ h ne = sym (differ one.names other.names l i h ne) ∙ both

    pub same_all : l ≤ i → Alike one.names other.names l i → true ≡ same_names (list_of one) (list_of other)
    same_all over a = let all : i ≡ l = omega arith in sym (rw all at a.same) ∙ both

-- ---- for callers: what taking the head gives; and two names fit after it, if the list was not
-- full

head_less : (a k : ℕ) (Δ rest : List ℕ) → take_head a k Δ ≡ done rest → length Δ ≡ suc (length rest)
unfolding take_head
head_less a k [] rest e = done_not e refl
head_less a k (x ∷ xs) rest e = by (eqb x a) e
  where
    by : (t : Bool) → value_if t out_of_order k xs ≡ done rest → suc (length xs) ≡ suc (length rest)
    by true e = ap (λ l. suc (length l)) (done_injective e)
    by false e = done_not e refl

module _ (p : Pending) (a k : ℕ) (r : Option Pending) (took : Took p a r) where
  pub not_taken : r ≡ None → take_head a k (list_of p) ≡ refusal out_of_order k
  not_taken other = took.reports k ∙ ap (taken_result k) other

  module _ (taken : Pending) (head : r ≡ Some taken) where
    pub is_taken : take_head a k (list_of p) ≡ done (list_of taken)
    is_taken = took.reports k ∙ ap (taken_result k) head

    pub two_fit : (left right : ℕ) → length (list_of p) < most_pending → put_two left right (list_of taken) ≡ left ∷ (right ∷ list_of taken)
    unfolding put_two
    two_fit left right fits =
        let one_less = head_less a k (list_of p) (list_of taken) is_taken in
        rw (le-leb (length (list_of taken) + 2) most_pending (omega arith), put_two)
