-- `source_walk::walk` meets its contract: before each turn `begun` expressions have begun.
use Rattle.source_walk.proofs.Loop.{Walking}
use Rattle.source_walk.proofs.walk.Given as goal

abbrev pub invariant-loop-begun : goal.invariant-loop-begun
invariant-loop-begun l = Walking l.table l.input l.first l.fuel l.initial.output l.initial.values l.initial.returns l.output l.values l.returns l.r l.s l.begun
