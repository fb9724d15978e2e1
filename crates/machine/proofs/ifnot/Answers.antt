-- `machine::ifnot` meets its contract: no word is there, or the top word is taken, and the run goes
-- to the address or on.
use Rattle.operations.proofs.StackLaws.{ifnots}
use Rattle.operations.proofs.CheckedLaws.{tests, standing}
use Rattle.machine.proofs.ifnot.Goals as goal

pub returns-then-lacks : goal.returns-then-lacks
returns-then-lacks g c = search (tests, standing, ifnots)

pub returns-then-values-top-ne0 : goal.returns-then-values-top-ne0
returns-then-values-top-ne0 g c = search (tests, standing, ifnots)

pub returns-else-values-top-ne0 : goal.returns-else-values-top-ne0
returns-else-values-top-ne0 g c = search (tests, standing, ifnots)
