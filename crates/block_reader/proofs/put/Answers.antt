-- `block_reader::put` meets its contract. Before each turn of the loop the first k bytes are
-- written.
use Rattle.writing.proofs.Copied.{copied}
use Rattle.block_reader.proofs.put.Goals as goal

pub loop-k-preserved : goal.loop-k-preserved
loop-k-preserved c = search copied
