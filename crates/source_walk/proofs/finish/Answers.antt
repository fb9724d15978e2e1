-- `source_walk::finish` meets its contract: an operation has no result.
use Rattle.source_walk.proofs.Loop.{finish_broken}
use Rattle.source_walk.proofs.finish.Goals as goal

pub returns-in-Broken : goal.returns-in-Broken
returns-in-Broken c = finish_broken c.args.s c.in-Broken.r c.from.result c.at.result c.in-Broken.is c.from.ensures c.at.ensures
