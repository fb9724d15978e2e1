-- `block_writer::write_block` meets its contract: five writes over zeros are one.
use Rattle.std.proofs.Common.{◌∙◌, ap}
use Rattle.formats.specs.Written.{written}
use Rattle.block_writer.proofs.Stored.{block_summed, block_made}
use Rattle.block_writer.proofs.write_block.Goals as goal

pub slice_bounds-word_sum-end : goal.slice_bounds-word_sum-end
slice_bounds-word_sum-end c = search block_summed

pub returns : goal.returns
returns c = c.write_bytes-2.ensures ∙ ap (written c.args.file.now c.args.at) (search block_made)
