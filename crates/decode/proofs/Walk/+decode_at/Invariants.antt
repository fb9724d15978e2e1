-- `Walk::decode_at` meets its contract: before each turn the rows of the parts before part i are
-- written. The measure is the number of records left.
use Rattle.std.proofs.Common.{◌-◌}
use Rattle.decode.proofs.Expressions.{Going}
use Rattle.decode.proofs.Walk.+decode_at.Given as goal

abbrev pub invariant-loop-i : goal.invariant-loop-i
invariant-loop-i l = Going l.self.flat.now l.initial.table l.initial.cases l.node l.parts l.k l.count l.self.end l.location l.i l.next l.table l.cases

abbrev pub decreases-decode_at : goal.decreases-decode_at
decreases-decode_at l = l.self.now.end - l.k
