-- How many parts a record has.
use Rattle.std.specs.Prelude.{ℕ, List}
use Rattle.formats.specs.Results.{done, refusal}
use Rattle.formats.specs.Records.{parts_of, part_count}
use Rattle.formats.specs.Inner.Fields.{arity_in, node_in}

-- How many parts record k has; 0 where it is no node.
unfoldable pub parts_in : List ℕ → ℕ → ℕ
parts_in s k = elim (node_in s k) [ done kind ↦ part_count (arity_in s) (parts_of kind) | refusal number position ↦ 0 ]
