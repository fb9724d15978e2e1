-- `program::prefix_row` meets its contract. Before each turn of the loop the functions below j are
-- one expression each, so those from j on, whose records begin at the first, decide.
use Rattle.program.proofs.Bodies.{Bodied}
use Rattle.program.proofs.prefix_row.Given as goal

abbrev pub invariant-loop-j : goal.invariant-loop-j
invariant-loop-j l = Bodied l.flat l.functions l.first l.j
