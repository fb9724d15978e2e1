-- `functions::function_fields` meets its contract. Before each turn of the loop the functions below
-- j have passed, so those from j on decide.
use Rattle.formats.specs.Results.{verdict, each}
use Rattle.formats.proofs.Results.{Passing}
use Rattle.formats.specs.Inner.Fields.{function_in}
use Rattle.functions.proofs.function_fields.Given as goal

abbrev pub invariant-loop-j : goal.invariant-loop-j
invariant-loop-j l = Passing (function_in l.flat) (verdict (each (function_in l.flat) l.functions 0)) l.functions l.j
