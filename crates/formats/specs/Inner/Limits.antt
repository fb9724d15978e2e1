-- Limits that follow from those of a program.
use Rattle.std.specs.Prelude.{ℕ, ◌+◌}
use Rattle.formats.specs.Programs.{most_nodes, most_functions}

-- The header, the functions' records and the nodes': 1,057.
abbrev pub most_records : ℕ
most_records = 1 + most_functions + most_nodes
