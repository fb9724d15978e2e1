-- How large the counts of a walk may get. Nothing is refused at these bounds: they follow from the
-- number of records, and say that no sum leaves its width.
use Rattle.std.specs.Prelude.{ℕ, ◌+◌, ◌*◌}
use Rattle.formats.specs.Programs.{most_functions}
use Rattle.formats.specs.Inner.Limits.{most_records}

-- The most number parameters of any function: function 0 has none, the others have these at most
-- (formats/specs/Programs: `most_parameters`).
abbrev pub parameters_of_any : ℕ
parameters_of_any = 4

-- A count that begins with a function's parameters, or with none, and grows by one at most at each
-- record: number names, words above the frame's base, numbers kept, Cases around.
abbrev pub most_count : ℕ
most_count = parameters_of_any + most_records

-- Tree names: the parameter, and two more at most at each record.
abbrev pub most_tree_names : ℕ
most_tree_names = 1 + 2 * most_records

-- Instructions of a record: at most two before each of its first three parts, and two after the
-- last one.
abbrev pub record_instructions : ℕ
record_instructions = 8

-- Instructions of all records, and a return for each function. (A program's code has at most 4,128:
-- this bound goes by the number of records alone.)
abbrev pub most_emitted : ℕ
most_emitted = record_instructions * most_records + most_functions
