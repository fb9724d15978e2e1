-- Where the parts of a record stand, of a location in numbers, whatever its role is.
use Rattle.std.specs.Prelude.{ℕ, List, [], take}
use Rattle.formats.specs.Records.{Kind, Part}
use Rattle.stepwise.specs.Inner.Rows.{role_of, slot_of, Location as LocationThere}
use Rattle.part_locations.specs.declared.LocationInNumbers.{LocationInNumbers}
use Rattle.part_locations.specs.Inner.Locations.{names_inside, keeps_inside, depth_inside}

-- A location as `stepwise` has it, with the Cases taken from the stack.
abbrev pub location_with : LocationInNumbers → List ℕ → LocationThere
location_with p cases =
    record { role = p.role; parent = p.parent; slot = p.slot; names = p.names; keeps = p.keeps; cases = take p.depth cases }

-- Where part i of the record r stands, which has `count` parts: by what the part is, and by the
-- record's kind. (A function matters by its arity alone, and the Cases of the location do not
-- matter.)
unfoldable pub part_in : Part → Kind → (r i count : ℕ) → LocationInNumbers → LocationInNumbers
part_in part kind r i count p =
    record {
      role = role_of (λ b. 0) (λ b. count) kind i;
      parent = r;
      slot = slot_of (λ b. 0) (λ b. count) (location_with p []) kind i;
      names = names_inside part p.names;
      keeps = keeps_inside kind i p.keeps;
      depth = depth_inside part p.depth;
    }
