-- `block_reader::put` meets its contract. Before each turn of the loop the first k bytes are
-- written.
use Rattle.writing.proofs.Copied.{Copied}
use Rattle.block_reader.proofs.put.Given as goal

abbrev pub invariant-loop-k : goal.invariant-loop-k
invariant-loop-k l = Copied l.initial.flat l.at l.from l.flat l.k
