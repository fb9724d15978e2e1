-- `machine::call` meets its contract: words are missing, too many calls are open, or the frame
-- waits below the arguments.
use Rattle.operations.proofs.CallLaws.{called_so}
use Rattle.operations.proofs.CheckedLaws.{tests}
use Rattle.machine.proofs.call.Goals as goal

pub returns-then-lacks : goal.returns-then-lacks
returns-then-lacks g c = search (tests, called_so)

pub returns-then-saved-ge-MOST_SAVED : goal.returns-then-saved-ge-MOST_SAVED
returns-then-saved-ge-MOST_SAVED g c = search (tests, called_so)

pub returns : goal.returns
returns g c = search (tests, called_so)
