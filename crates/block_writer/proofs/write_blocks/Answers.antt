-- `block_writer::write_blocks` meets its contract. Before each turn of the loop the blocks passed
-- stand one after the other.
use Rattle.block_writer.proofs.Stored.{stored, storing_none}
use Rattle.block_writer.proofs.write_blocks.Goals as goal

pub loop-j-init : goal.loop-j-init
loop-j-init c = storing_none _ _ _ _ _ _ (cc) (cc) (cc)

pub loop-j-preserved : goal.loop-j-preserved
loop-j-preserved c = search (stored, c.in-Some.ensures.steps)

pub returns : goal.returns
returns c = search (stored, c.in-None.ensures.steps)
