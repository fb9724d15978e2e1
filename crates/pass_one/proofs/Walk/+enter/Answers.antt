-- `Walk::enter` meets its contract. Each way out is a law of proofs/Expressions.antt.
use Rattle.pass_one.proofs.Expressions.{entering}
use Rattle.pass_one.proofs.Walk.+enter.Goals as goal

pub returns-in_err-node : goal.returns-in_err-node
returns-in_err-node t c = search (entering, c.in_err-node.was)

pub returns-in_err-tests : goal.returns-in_err-tests
returns-in_err-tests t c = search (entering, c.in_ok-node.was, c.in_err-tests.was)

pub loop-i-init : goal.loop-i-init
loop-i-init t c = search (entering, c.in_ok-node.was, c.in_ok-tests.was)

pub returns-in_err-next : goal.returns-in_err-next
returns-in_err-next t c = search (entering, c.in_err-next.was)

pub loop-i-preserved : goal.loop-i-preserved
loop-i-preserved t c = search (entering, c.in_ok-next.was)

pub enter-requires : goal.enter-requires
enter-requires t c = (search entering, search entering)

pub returns : goal.returns
returns t c = search entering
