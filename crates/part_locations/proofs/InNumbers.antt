-- Where parts stand, in numbers: `inside` answers the role that has the number, whatever role the
-- location has that it is given.
use Prim.Native.Nat.{ℕ, zero, suc, ◌+◌, ◌-◌}
use mathlib.Core.Bool.{Bool, true, false}
use mathlib.Core.Path.{◌≡◌, refl, ap}
use lib.Dec.{eqb}
use Rattle.formats.specs.Arithmetic.{plus}
use Rattle.formats.specs.Records.{Kind, Const, Var, Compute, IfZero, Let, Leaf, Node, Case, Call, Part}
use Rattle.stepwise.specs.Inner.Rows.{kept, last_argument, last_word, role_of, slot_of, second_of}
use Rattle.frames.specs.declared.Role.{Role}
use Rattle.frames.specs.Inner.Named.{role_number, role_of_number}
use Rattle.part_locations.specs.declared.Location.{Location}
use Rattle.part_locations.specs.declared.LocationInNumbers.{LocationInNumbers}
use Rattle.part_locations.specs.Inner.Locations as Of_role
use Rattle.part_locations.specs.Inner.InNumbers.{part_in}
use Rattle.part_locations.proofs.Parts.{placed}

-- A location in numbers with these fields.
abbrev placed_at : (role parent slot names keeps depth : ℕ) → LocationInNumbers
placed_at role parent slot names keeps depth =
    record { role = role; parent = parent; slot = slot; names = names; keeps = keeps; depth = depth }

-- The numbers of a location.
abbrev numbers_of : Location → LocationInNumbers
numbers_of p = placed_at (role_number p.role) p.parent p.slot p.names p.keeps p.depth

-- A location in numbers, with a role in place of the number.
abbrev with_role : LocationInNumbers → Role → Location
with_role p role = placed role p.parent p.slot p.names p.keeps p.depth

-- an argument's role, the last one or not
argument : (b : Bool) → role_number (role_of_number (elim b [ true ↦ last_argument | false ↦ kept ])) ≡ elim b [ true ↦ last_argument | false ↦ kept ]
unfolding role_of_number
argument true = refl
argument false = refl

module _ (part : Part) (r count : ℕ) (role : Role) (p : LocationInNumbers) where
  same_inside : (kind : Kind) (i : ℕ) → numbers_of (Of_role.part_in part kind r i count (with_role p role)) ≡ part_in part kind r i count p
  unfolding part_in Of_role.part_in role_of slot_of second_of role_of_number
  same_inside (Const c) i = refl
  same_inside (Var a) i = refl
  same_inside (Compute plus) zero = refl
  same_inside (Compute plus) (suc i) = refl
  same_inside IfZero zero = refl
  same_inside IfZero (suc i) = refl
  same_inside Let zero = refl
  same_inside Let (suc i) = refl
  same_inside Leaf i = refl
  same_inside Node zero = refl
  same_inside Node (suc i) = refl
  same_inside (Case a) i = refl
  same_inside (Call a b) i =
      ap (λ x. placed_at x r (last_word - (p.keeps + i)) (Of_role.names_inside part p.names) (Of_role.keeps_inside (Call a b) i p.keeps) (Of_role.depth_inside part p.depth))
      (argument (eqb (suc i) count))

  pub numbers_inside : (kind : Kind) (i : ℕ) (q : Location) (n : ℕ)
      → q ≡ Of_role.part_in part kind r i count (with_role p role)
      → n ≡ role_number q.role
      → placed_at n q.parent q.slot q.names q.keeps q.depth ≡ part_in part kind r i count p
  numbers_inside kind i q n is role_is = rw (role_is, is) (same_inside kind i)

pub ruleset numbered = (numbers_inside)
