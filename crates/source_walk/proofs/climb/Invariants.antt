-- `source_walk::climb` meets its contract: what holds before a turn of the loop holds after it, and
-- the weight falls.
use Rattle.source_walk.specs.Inner.Loop.{weight_of}
use Rattle.source_walk.proofs.Loop.{Climbing}
use Rattle.source_walk.proofs.climb.Given as goal

abbrev pub invariant-loop-s : goal.invariant-loop-s
invariant-loop-s l = Climbing l.table l.input l.returns l.initial.output l.output l.initial.values l.values l.initial.s l.s

abbrev pub decreases-loop-s : goal.decreases-loop-s
decreases-loop-s l = weight_of l.s
