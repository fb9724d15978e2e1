-- Before each turn of the loop of `order_list` the parts from part i on decide. The measure of the
-- calls {order_at, order_call, order_case, order_if, order_list}: the records left, three times, so
-- that at the same record a list is above its first expression, and an expression above the Call,
-- Case or IfZero that it is.
use Rattle.std.proofs.Common.{◌+◌, ◌-◌, ◌*◌}
use Rattle.pass_two.proofs.Expressions.{Ordering}
use Rattle.pass_two.proofs.Walk.+ordering.Given as goal

abbrev pub invariant-order_list-loop-i : goal.invariant-order_list-loop-i
invariant-order_list-loop-i l = Ordering l.self.flat.now l._i l.count l.k l.self.end l.trees l.fn.pending l.after

abbrev pub decreases-order_at : goal.decreases-order_at
decreases-order_at l = 3 * (l.self.now.end - l.k) + 1

abbrev pub decreases-order_call : goal.decreases-order_call
decreases-order_call l = 3 * (l.self.now.end - l.k)

abbrev pub decreases-order_case : goal.decreases-order_case
decreases-order_case l = 3 * (l.self.now.end - l.k)

abbrev pub decreases-order_if : goal.decreases-order_if
decreases-order_if l = 3 * (l.self.now.end - l.k)

abbrev pub decreases-order_list : goal.decreases-order_list
decreases-order_list l = 3 * (l.self.now.end - l.k) + 2
