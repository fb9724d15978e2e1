-- `tree::walk` meets its contract: before each tag `Walking` holds, and the bytes left fall. Each
-- way through the loop is a law of proofs/Marks.antt.
use Prim.Native.Nat.{◌-◌}
use lib.ListN.{length}
use Rattle.tree.proofs.Marks.{Walking}
use Rattle.tree.proofs.walk.Given as goal

abbrev pub invariant-loop-at : goal.invariant-loop-at
invariant-loop-at l = Walking l.width l.input l.marks l.above l.above_next l.deepest l.at

abbrev pub decreases-loop-at : goal.decreases-loop-at
decreases-loop-at l = length l.input - l.at
