-- `decode::decode_all` meets its contract: before each turn the rows of the functions below j are
-- written.
use Rattle.decode.proofs.All.{Filling}
use Rattle.decode.proofs.decode_all.Given as goal

abbrev pub invariant-loop-j : goal.invariant-loop-j
invariant-loop-j l = Filling l.flat l.functions l.walk.end l.initial.table l.table l.cases l.k l.j
