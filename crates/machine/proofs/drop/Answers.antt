-- `machine::drop` meets its contract: no word is there, or the top word goes.
use Rattle.operations.proofs.StackLaws.{drops}
use Rattle.operations.proofs.CheckedLaws.{tests, standing}
use Rattle.machine.proofs.drop.Goals as goal

pub returns-then-lacks : goal.returns-then-lacks
returns-then-lacks g c = search (tests, standing, drops)

pub returns : goal.returns
returns g c = search (tests, standing, drops)
