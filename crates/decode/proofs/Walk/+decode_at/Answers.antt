-- `Walk::decode_at` meets its contract. Each way out is a law of proofs/Expressions.
use Rattle.std.proofs.Common.{sym, ap, ◌∙◌, take}
use native.Mathlib.Omega.{arith}
use Rattle.decode.proofs.Locations.{few_part}
use Rattle.decode.proofs.Expressions.{read_ok, fill_past, fill_unread, falls, fill_all, fill_stuck, going_more}
use Rattle.decode.proofs.Walk.+decode_at.Goals as goal

pub returns-then-self-k : goal.returns-then-self-k
returns-then-self-k t c = fill_past _ _ _ _ _ _ c.if-self-k.true

pub returns-in_err-node : goal.returns-in_err-node
returns-in_err-node t c = rw c.from_residual.ensures (fill_unread _ _ _ _ _ _ _ c.record_at.ensures (sym c.ok.ensures.value ∙ c.in_err-node.was))

pub decode_at-requires : goal.decode_at-requires
decode_at-requires t c =
    (falls _ _ _ _ _ _ _ _ _ _ _ _ _ c.loop-i.invariant t c.decreases, few_part _ _ _ _ _ _ _ _ _ c.loop-i.invariant.small c.inside-inner.ensures)

pub returns-in_err-next : goal.returns-in_err-next
returns-in_err-next t c =
    rw c.from_residual-in_err-next.ensures
    (fill_stuck _ _ _ _ _ _ _ _ _ _ _ _ _ c.loop-i.invariant _ c.record_at.ensures c.in_ok-node.field-0.template (read_ok _ _ (sym c.ok.ensures.value ∙ c.in_ok-node.was)) c.part_count-count.ensures c.requires (omega arith)
    c.nth_part-part.result c.nth_part-part.ensures _ _ _ _ _ c.inside-inner.ensures c.note_case.ensures c.decode_at.ensures c.loop-i-test.true
    c.in_err-next.was)

pub loop-i-preserved : goal.loop-i-preserved
loop-i-preserved t c =
    going_more _ _ _ _ _ _ _ _ _ _ _ _ _ c.loop-i.invariant c.nth_part-part.result c.nth_part-part.ensures _ _ _ _ _ c.inside-inner.ensures c.note_case.ensures
    c.decode_at.ensures c.loop-i-test.true _ c.in_ok-next.was

pub returns : goal.returns
returns t c =
    fill_all _ _ _ _ _ _ _ _ _ _ _ _ _ c.loop-i.invariant _ c.record_at.ensures c.in_ok-node.field-0.template (read_ok _ _ (sym c.ok.ensures.value ∙ c.in_ok-node.was)) c.part_count-count.ensures c.requires (omega arith)
    _ _ _ (ap (λ n. take n c.args.cases.now) c.min.ensures) c.own_of-own.ensures c.loop-i-test.false c.write_row.ensures
