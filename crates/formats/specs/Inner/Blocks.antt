-- Sizes of flat records, and flat records that go into a lent buffer.
use Rattle.std.specs.Prelude.{ℕ, ◌*◌, List}
use Rattle.formats.specs.Results.{Result, and_then}
use Rattle.formats.specs.Blocks.{records_bytes, program_records, most_blocks, in_room}

-- The most bytes of flat records: those of 17 full blocks.
abbrev pub most_bytes : ℕ
most_bytes = records_bytes * most_blocks

-- 01, Blocks: "510–511: check".
abbrev pub check_offset : ℕ
check_offset = 510

-- The flat records r, where they are a program and fit a buffer of `room` bytes.
unfoldable pub program_into : ℕ → List ℕ → Result (List ℕ)
program_into room r = and_then (program_records r) (in_room room)
