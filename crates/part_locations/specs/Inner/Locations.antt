-- Where the parts of a record stand, whatever its own location: what `stepwise/specs/Inner/Rows`
-- says of them, with counts that are 64-bit numbers.
use Rattle.std.specs.Prelude.{ℕ, zero, suc, ◌+◌, ◌-◌, ◌%◌, ◌^◌, min, List, [], set, take}
use Rattle.formats.specs.Records.{Kind, Const, Var, Compute, IfZero, Let, Leaf, Node, Case, Call, Part, a_number, a_tree, as_whole, under_number, under_trees}
use Rattle.stepwise.specs.Inner.Rows.{role_of, slot_of, Location as LocationThere}
use Rattle.frames.specs.declared.Role.{Role}
use Rattle.frames.specs.Inner.Named.{role_number, role_of_number}
use Rattle.part_locations.specs.declared.Location.{Location}

-- The largest 64-bit number. Sums stop there.
abbrev pub largest : ℕ
largest = 2 ^ 64 - 1

abbrev pub capped : ℕ → ℕ
capped n = min n largest

-- A location as `stepwise` has it, with the Cases taken from the stack.
abbrev pub location_with : Location → List ℕ → LocationThere
location_with p cases =
    record { role = role_number p.role; parent = p.parent; slot = p.slot; names = p.names; keeps = p.keeps; cases = take p.depth cases }

-- How many numbers are named in a part, by what the part is. At its record `names` are named.
unfoldable pub names_inside : Part → ℕ → ℕ
names_inside a_number names = names
names_inside a_tree names = names
names_inside as_whole names = names
names_inside under_number names = capped (names + 1)
names_inside under_trees names = names

-- In how many node parts of Cases a part stands. Its record stands in `depth` of them.
unfoldable pub depth_inside : Part → ℕ → ℕ
depth_inside a_number depth = depth
depth_inside a_tree depth = depth
depth_inside as_whole depth = depth
depth_inside under_number depth = depth
depth_inside under_trees depth = capped (depth + 1)

-- How many numbers are kept on entering part i of a record of this kind. At the record `keeps` are
-- kept.
unfoldable pub keeps_inside : Kind → (i keeps : ℕ) → ℕ
keeps_inside (Const c) i keeps = keeps
keeps_inside (Var a) i keeps = keeps
keeps_inside (Compute op) zero keeps = keeps
keeps_inside (Compute op) (suc i) keeps = capped (keeps + 1)
keeps_inside IfZero i keeps = keeps
keeps_inside Let i keeps = keeps
keeps_inside Leaf i keeps = keeps
keeps_inside Node i keeps = keeps
keeps_inside (Case a) i keeps = keeps
keeps_inside (Call a b) i keeps = capped (keeps + i)

-- What part i of a record of this kind is for, which has `count` parts, and on which word. (A
-- function matters by its arity alone, and the Cases of the location do not matter.)
abbrev pub role_inside : Kind → (i count : ℕ) → Role
role_inside kind i count = role_of_number (role_of (λ b. 0) (λ b. count) kind i)

abbrev pub slot_inside : Kind → (i count : ℕ) → Location → ℕ
slot_inside kind i count p = slot_of (λ b. 0) (λ b. count) (location_with p []) kind i

-- The three that go by the record's kind.
unfoldable pub used_in : Kind → (i count : ℕ) → Location → Role × ℕ × ℕ
used_in kind i count p = (role_inside kind i count, slot_inside kind i count p, keeps_inside kind i p.keeps)

-- Where part i of the record r stands, which has `count` parts: by what the part is, and by the
-- record's kind.
unfoldable pub part_in : Part → Kind → (r i count : ℕ) → Location → Location
part_in part kind r i count p =
    record {
      role = role_inside kind i count;
      parent = r;
      slot = slot_inside kind i count p;
      names = names_inside part p.names;
      keeps = keeps_inside kind i p.keeps;
      depth = depth_inside part p.depth;
    }

-- The stack of Cases on entering a part of the record r, which itself stands in `depth` node parts
-- of Cases.
unfoldable pub noted : Part → (r depth : ℕ) → List ℕ → List ℕ
noted a_number r depth cases = cases
noted a_tree r depth cases = cases
noted as_whole r depth cases = cases
noted under_number r depth cases = cases
noted under_trees r depth cases = set cases depth (r % 65536)
