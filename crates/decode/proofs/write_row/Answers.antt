-- `decode::write_row` meets its contract: the row's words are written as bytes are. A record whose
-- offset is cut is past the table's end.
use Rattle.std.proofs.Common.{◌*◌, ◌∙◌, arith}
use Rattle.writing.proofs.Placed.{as_bytes, written_cut}
use Rattle.decode.specs.Inner.Walk.{row_in}
use Rattle.decode.proofs.write_row.Goals as goal

pub returns : goal.returns
returns c =
    let table = c.args.table.now in
    (rw (c.saturating_mul.ensures, c.from.ensures, c.from-2.ensures) at c.write_items.ensures)
    ∙ as_bytes table _ _
    ∙ written_cut table (8 * c.args.k) _ (row_in c.args.own c.args.location c.args.after) (omega arith)
