-- `translate::emit_all` meets its contract: the entries of the functions before j are in the table,
-- and these functions are emitted where there is room.
use Rattle.translate.proofs.Loops.{EmittingAll}
use Rattle.translate.proofs.emit_all.Given as goal

abbrev pub invariant-loop-j : goal.invariant-loop-j
invariant-loop-j l = EmittingAll l.flat l.entries l.j-end l.end l.initial.code l.code l.table l.k l.j
