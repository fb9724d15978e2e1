-- `block_reader::gather` meets its contract. Before each turn of the loop the parts of the blocks
-- passed stand one after the other.
use Rattle.block_reader.proofs.Gathered.{gathered}
use Rattle.block_reader.proofs.gather.Goals as goal

pub loop-j-preserved : goal.loop-j-preserved
loop-j-preserved c = search gathered

pub returns : goal.returns
returns c = search gathered
