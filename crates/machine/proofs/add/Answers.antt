-- `machine::add` meets its contract: words are missing, or the sum of the two top words replaces
-- them or is out of range.
use Prim.Native.Nat.{◌≤◌}
use native.Mathlib.Omega.{arith}
use lib.ListN.{length}
use Rattle.meaning.specs.Running.{value_words}
use Rattle.operations.proofs.StackLaws.{adds}
use Rattle.operations.proofs.CheckedLaws.{tests}
use Rattle.machine.proofs.add.Goals as goal

pub returns-then-lacks : goal.returns-then-lacks
returns-then-lacks g c = search (tests, adds)

pub returns-in-Some : goal.returns-in-Some
returns-in-Some g c =
    let long : value_words ≤ length c.args.values.now = omega arith in
    search (tests, adds)

pub returns-in-None : goal.returns-in-None
returns-in-None g c = search (tests, adds)
