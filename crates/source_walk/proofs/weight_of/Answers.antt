-- `source_walk::weight_of` meets its contract: a record is finished.
use Rattle.source_walk.proofs.Loop.{weight_finished, weight_none}
use Rattle.source_walk.proofs.weight_of.Goals as goal

pub returns-in-Finished : goal.returns-in-Finished
returns-in-Finished c = weight_finished c.args.s c.in-Finished.r _ c.from.result c.from-in-Finished.result c.in-Finished.is c.from.ensures c.from-in-Finished.ensures

pub returns-in_default : goal.returns-in_default
returns-in_default c = search weight_none
