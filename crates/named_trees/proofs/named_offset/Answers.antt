-- `named_trees::named_offset` meets its contract.
use Rattle.named_trees.proofs.Offsets.{named_trees}
use Rattle.named_trees.proofs.named_offset.Goals as goal

pub returns : goal.returns
returns c = search named_trees
