-- `block_reader::from_blocks` meets its contract: the block rows refuse, or all flat records are
-- written. Each way out is a law of proofs/Gathered.antt.
use Rattle.block_reader.proofs.Gathered.{taken_out}
use Rattle.block_reader.proofs.from_blocks.Goals as goal

pub returns-in_err-block_rows : goal.returns-in_err-block_rows
returns-in_err-block_rows c = search (taken_out, c.in_err-block_rows.was)
