-- `block_reader::gather` meets its contract. Before each turn of the loop the parts of the blocks
-- passed stand one after the other.
use Rattle.block_reader.proofs.Gathered.{Gathered}
use Rattle.block_reader.proofs.gather.Given as goal

abbrev pub invariant-loop-j : goal.invariant-loop-j
invariant-loop-j l = Gathered l.file l.initial.flat l.flat l.j
