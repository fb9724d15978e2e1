-- `source_walk::climb` meets its contract: a step at which the weight does not fall.
use Rattle.source_walk.proofs.Loop.{climb_more, climb_stuck}
use Rattle.source_walk.proofs.climb.Goals as goal

pub returns-then-weight_of : goal.returns-then-weight_of
returns-then-weight_of c = search climb_stuck

pub loop-s-preserved : goal.loop-s-preserved
loop-s-preserved c = search climb_more
