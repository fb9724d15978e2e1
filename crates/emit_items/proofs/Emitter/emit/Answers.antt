-- `Emitter::emit` meets its contract: one item after the other.
use Rattle.emit_items.proofs.Operations.{items_ways}
use Rattle.emit_items.proofs.Emitter.emit.Goals as goal

pub returns-in-Two : goal.returns-in-Two
returns-in-Two c = search items_ways
