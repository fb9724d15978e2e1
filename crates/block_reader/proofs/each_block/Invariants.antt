-- `block_reader::each_block` meets its contract. Before each turn of the loop the blocks passed are
-- right, so those left decide.
use Rattle.block_reader.proofs.Rows.{RowsLeft}
use Rattle.block_reader.proofs.each_block.Given as goal

abbrev pub invariant-loop-j : goal.invariant-loop-j
invariant-loop-j l = RowsLeft l.file l.blocks l.j
