-- Pass one over flat records.
use Rattle.std.specs.Prelude.{ℕ, List}
use Rattle.formats.specs.Results.{Result, and_then}
use Rattle.formats.specs.Rows.{read_program}
use Rattle.rules.specs.PassOne.{pass_one}

-- Flat records: the rows header to prefix form, then pass one. 01, Checking: "The source run needs
-- pass one only".
unfoldable pub check_one : List ℕ → Result (Unit {0})
check_one s = and_then (read_program s) pass_one
