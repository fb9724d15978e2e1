-- `Pending::take_head` meets its contract: no tree is pending, another is the head, or this one is.
use Rattle.std.proofs.Common.{rules, arith}
use Rattle.pending.proofs.Laws.{heads, took_below}
use Rattle.pending.proofs.Pending.take_head.Goals as goal

pub returns-in_err-top : goal.returns-in_err-top
returns-in_err-top c = rw c.from_residual.ensures (search (heads, c.in_err-top.ensures))

pub returns-then-self-top : goal.returns-then-self-top
returns-then-self-top c = search (heads, c.in_ok-top.ensures)

pub returns : goal.returns
returns c =
    took_below c.args.self c.args.a c.count.result (search rules) c.from.result c.in_ok-top.top (search rules) (omega (arith, c.in_ok-top.ensures)) (omega (arith, c.in_ok-top.ensures)) (search rules) _ (omega arith)
