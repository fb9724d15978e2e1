-- `Emission::emit` and `Emission::emit_parts` meet their contracts. Each way out is a law of
-- proofs/Walk.
use Rattle.translate.proofs.Walk.{expressions, parts}
use Rattle.translate.proofs.Emission.+emitting.Goals as goal

pub emit-returns-in_err-read : goal.emit-returns-in_err-read
emit-returns-in_err-read t c = rw c.from_residual.ensures (search (expressions, c.in_err-read.was))

pub emit-returns : goal.emit-returns
emit-returns t c = search (expressions, c.in_ok-read.was)

pub emit_parts-returns-in_err-part : goal.emit_parts-returns-in_err-part
emit_parts-returns-in_err-part t c = rw c.from_residual.ensures (search (parts, c.in_err-part.was))

pub emit_parts-emit_parts-requires : goal.emit_parts-emit_parts-requires
emit_parts-emit_parts-requires t c = search (parts, c.in_ok-part.was)

pub emit_parts-returns-in_err-rest : goal.emit_parts-returns-in_err-rest
emit_parts-returns-in_err-rest t c =
    rw c.from_residual-in_err-rest.ensures (search (parts, c.in_ok-part.was, c.in_err-rest.was))

pub emit_parts-emit_items-requires-2 : goal.emit_parts-emit_items-requires-2
emit_parts-emit_items-requires-2 t c = search (parts, c.in_ok-part.was, c.in_ok-rest.was)
