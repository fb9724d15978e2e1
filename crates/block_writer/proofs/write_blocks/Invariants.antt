-- `block_writer::write_blocks` meets its contract. Before each turn of the loop the blocks passed
-- stand one after the other.
use Rattle.std.specs.Slice.Iter.{chunks_rest, chunks_size}
use Rattle.std.specs.Iterator.Adapters.{enumerate_source, enumerate_count}
use Rattle.block_writer.proofs.Stored.{Storing}
use Rattle.block_writer.proofs.write_blocks.Given as goal

abbrev pub invariant-loop-j : goal.invariant-loop-j
invariant-loop-j l =
    let cut = enumerate_source l.j-iterator in
    Storing l.flat l.initial.file l.file l.blocks (chunks_rest cut) (chunks_size cut) (enumerate_count l.j-iterator)
