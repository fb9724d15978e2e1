-- `Walk::order_function` meets its contract: the body leaves trees, or leaves none.
use Rattle.pass_two.proofs.Expressions.{functions}
use Rattle.pass_two.proofs.Walk.order_function.Goals as goal

pub returns-then-body-ne0 : goal.returns-then-body-ne0
returns-then-body-ne0 c = search (functions, c.in_ok-body.was)

pub returns : goal.returns
returns c = search (functions, c.in_ok-body.was)
