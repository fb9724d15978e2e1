-- `machine::slide` meets its contract: words are missing, or the top word replaces the one under
-- it.
use Prim.Native.Nat.{◌≤◌}
use native.Mathlib.Omega.{arith}
use lib.ListN.{length}
use Rattle.meaning.specs.Running.{value_words}
use Rattle.operations.proofs.StackLaws.{slides}
use Rattle.operations.proofs.CheckedLaws.{tests}
use Rattle.machine.proofs.slide.Goals as goal

pub returns-then-lacks : goal.returns-then-lacks
returns-then-lacks g c = search (tests, slides)

pub returns : goal.returns
returns g c =
    let long : value_words ≤ length c.args.values.now = omega arith in
    search (tests, slides)
