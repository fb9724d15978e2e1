-- `Walk::enter` meets its contract: before each turn the parts before part i have passed, so those
-- from i on decide. The measure is the number of records left.
use Rattle.std.proofs.Common.{◌-◌}
use Rattle.pass_one.proofs.Expressions.{Entering}
use Rattle.pass_one.proofs.Walk.+enter.Given as goal

abbrev pub invariant-loop-i : goal.invariant-loop-i
invariant-loop-i l = Entering l.self.flat.now l.parts l.i l.count l.next l.k l.self.end l.scope

abbrev pub decreases-enter : goal.decreases-enter
decreases-enter l = l.self.now.end - l.k
