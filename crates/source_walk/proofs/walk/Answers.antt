-- `source_walk::walk` meets its contract: a turn after which no expression begins.
use Rattle.source_walk.proofs.Loop.{walk_more, walk_stops}
use Rattle.source_walk.proofs.walk.Goals as goal

pub returns-in_default : goal.returns-in_default
returns-in_default c = search walk_stops

pub loop-begun-preserved : goal.loop-begun-preserved
loop-begun-preserved c = search walk_more
