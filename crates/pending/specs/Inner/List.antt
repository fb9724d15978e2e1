-- The list of pending trees that a `Pending` is, and what the functions on it answer.
use Rattle.std.specs.Prelude.{ℕ, ◌+◌, ◌-◌, min, Bool, true, false, List, [], ◌∷◌, ◌≡◌, leb, eqb, length, replicate, set, Option, Some, None}
use Rattle.formats.specs.Inner.Buffers.{from_last}
use Rattle.formats.specs.Refusals.{out_of_order}
use Rattle.formats.specs.Results.{Result, done, refusal}
use Rattle.rules.specs.Limits.{most_pending}
use Rattle.rules.specs.PassTwo.{take_head}
use Rattle.pending.specs.declared.Pending.{Pending}

-- 01, Pass two: "The pending trees are a list of at most 16 numbers". How many there are, and their
-- list, the head first.
abbrev pub length_of : Pending → ℕ
length_of p = min p.len most_pending

unfoldable pub list_of : Pending → List ℕ
list_of p = from_last p.names (length_of p)

-- 01, Pass two: "at first the parameter alone". All names are 0, and one of them counts.
abbrev pub parameter_alone : Pending
parameter_alone = record { names = replicate most_pending 0; len = 1 }

-- The parameter alone is pending.
pub record Alone (r : Pending) : Type 0 where
  pub whole : r ≡ parameter_alone
  pub list : list_of r ≡ 0 ∷ []

-- Whether tree a is the head of a list.
abbrev pub is_head : ℕ → List ℕ → Bool
is_head a [] = false
is_head a (x ∷ Δ) = eqb x a

-- A tree that is the head is taken: one less counts, and the names stay. No other tree is taken.
unfoldable pub head_taken : Pending → ℕ → Option Pending
head_taken p a =
    elim (is_head a (list_of p)) [
      | true ↦ Some (record { names = p.names; len = length_of p - 1 })
      | false ↦ None
    ]

-- What taking a tree gives: the list then pending, or that the tree is not the head, with the
-- record that takes it.
abbrev pub taken_result : ℕ → Option Pending → Result (List ℕ)
taken_result k (Some p) = done (list_of p)
taken_result k None = refusal out_of_order k

-- 01, Pass two: "11 not the head", whichever record takes tree a.
pub record Took (p : Pending) (a : ℕ) (r : Option Pending) : Type 0 where
  pub whole : r ≡ head_taken p a
  pub reports : (k : ℕ) → take_head a k (list_of p) ≡ taken_result k r

-- 01, Pass two: "puts its two names in front", where they fit.
unfoldable pub put_two : ℕ → ℕ → List ℕ → List ℕ
put_two left right Δ = elim (leb (length Δ + 2) most_pending) [ true ↦ left ∷ (right ∷ Δ) | false ↦ Δ ]

-- Two names written after the first l names of the array, the head last.
abbrev pub two_after : Pending → ℕ → ℕ → ℕ → Pending
two_after p left right l = record { names = set (set p.names l right) (l + 1) left; len = l + 2 }

-- Two names that fit are written after those that count. Else nothing changes.
unfoldable pub two_put : Pending → ℕ → ℕ → Pending
two_put p left right = elim (leb (length_of p + 2) most_pending) [ true ↦ two_after p left right (length_of p) | false ↦ p ]

-- The pending trees with two more in front, where they fit.
pub record InFront (p : Pending) (left right : ℕ) (r : Pending) : Type 0 where
  pub whole : r ≡ two_put p left right
  pub list : list_of r ≡ put_two left right (list_of p)
