-- `block_writer::to_blocks` meets its contract: the buffer is too short, or the file is written.
-- Each way out is a law of proofs/Stored.antt.
use Rattle.block_writer.proofs.Stored.{stored_out, store_room}
use Rattle.block_writer.proofs.to_blocks.Goals as goal

pub returns-then-file-blocks : goal.returns-then-file-blocks
returns-then-file-blocks c = search stored_out

pub write_blocks-requires : goal.write_blocks-requires
write_blocks-requires c = store_room c.args.flat.now c.args.file.now _ c.div_ceil-blocks.ensures c.if-file-blocks.false

pub returns : goal.returns
returns c = search stored_out
