-- `machine::get` meets its contract: the frame does not hold the word, there is no room, or the
-- word that it holds is put on top.
use Rattle.operations.proofs.StackLaws.{pushes, gets}
use Rattle.operations.proofs.CheckedLaws.{tests, standing}
use Rattle.machine.proofs.get.Goals as goal

pub returns-then-lacks : goal.returns-then-lacks
returns-then-lacks g c = search (tests, standing, gets)

pub returns-then-is_full : goal.returns-then-is_full
returns-then-is_full g c = search (tests, standing, gets, pushes)

pub returns : goal.returns
returns g c = search (tests, standing, gets)
