-- The functions of pass two meet their contracts. Each way out is a law of proofs/Branches or
-- proofs/Expressions.
use Rattle.pass_two.proofs.Branches.{ifs, cases}
use Rattle.pass_two.proofs.Expressions.{ats, calls, lists}
use Rattle.pass_two.proofs.Walk.+ordering.Goals as goal

pub order_at-returns-then-self-k : goal.order_at-returns-then-self-k
order_at-returns-then-self-k t c = search ats

pub order_at-returns-in_err-node : goal.order_at-returns-in_err-node
order_at-returns-in_err-node t c = search (ats, c.in_err-node.was)

pub order_at-returns-in-IfZero : goal.order_at-returns-in-IfZero
order_at-returns-in-IfZero t c = search (ats, c.in_ok-node.was)

pub order_at-returns-in-Case : goal.order_at-returns-in-Case
order_at-returns-in-Case t c = search (ats, c.in_ok-node.was)

pub order_at-returns-in-Call : goal.order_at-returns-in-Call
order_at-returns-in-Call t c = search (ats, c.in_ok-node.was)

pub order_at-returns-in_default : goal.order_at-returns-in_default
order_at-returns-in_default t c = search (ats, c.in_ok-node.was, c.in_default.not-IfZero, c.in_default.not-Case, c.in_default.not-Call)

pub order_call-returns-in_err-after : goal.order_call-returns-in_err-after
order_call-returns-in_err-after t c = search (calls, c.in_err-after.was)

pub order_call-returns-in_err-rest : goal.order_call-returns-in_err-rest
order_call-returns-in_err-rest t c = search (calls, c.in_ok-after.was, c.in_err-rest.was)

pub order_call-returns : goal.order_call-returns
order_call-returns t c = search (calls, c.in_ok-after.was, c.in_ok-rest.was)

pub order_case-returns-in_err-rest : goal.order_case-returns-in_err-rest
order_case-returns-in_err-rest t c = search (cases, c.in_err-rest.was)

pub order_case-returns-then-is_full : goal.order_case-returns-then-is_full
order_case-returns-then-is_full t c = search (cases, c.in_ok-rest.was)

pub order_case-returns-in_err-leaf : goal.order_case-returns-in_err-leaf
order_case-returns-in_err-leaf t c = search (cases, c.in_ok-rest.was, c.in_err-leaf.was)

pub order_case-returns-in_err-node : goal.order_case-returns-in_err-node
order_case-returns-in_err-node t c = search (cases, c.in_ok-rest.was, c.in_ok-leaf.was, c.in_err-node.was)

pub order_case-returns : goal.order_case-returns
order_case-returns t c = search (cases, c.in_ok-rest.was, c.in_ok-leaf.was, c.in_ok-node.was)

pub order_if-returns-in_err-test : goal.order_if-returns-in_err-test
order_if-returns-in_err-test t c = search (ifs, c.in_err-test.was)

pub order_if-returns-in_err-zero : goal.order_if-returns-in_err-zero
order_if-returns-in_err-zero t c = search (ifs, c.in_ok-test.was, c.in_err-zero.was)

pub order_if-returns-in_err-other : goal.order_if-returns-in_err-other
order_if-returns-in_err-other t c = search (ifs, c.in_ok-test.was, c.in_ok-zero.was, c.in_err-other.was)

pub order_if-returns : goal.order_if-returns
order_if-returns t c = search (ifs, c.in_ok-test.was, c.in_ok-zero.was, c.in_ok-other.was)

pub order_list-order_at-requires : goal.order_list-order_at-requires
order_list-order_at-requires t c = (search lists, search lists)

pub order_list-returns-in_err-after : goal.order_list-returns-in_err-after
order_list-returns-in_err-after t c = search (lists, c.in_err-after.was)

pub order_list-loop-i-preserved : goal.order_list-loop-i-preserved
order_list-loop-i-preserved t c = search (lists, c.in_ok-after.was)

pub order_list-returns : goal.order_list-returns
order_list-returns t c = search lists
