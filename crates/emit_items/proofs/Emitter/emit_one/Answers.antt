-- `Emitter::emit_one` meets its contract: the instruction is written.
use Rattle.emit_items.proofs.Operations.{emit_one}
use Rattle.emit_items.proofs.Emitter.emit_one.Goals as goal

pub returns : goal.returns
returns c = search emit_one
