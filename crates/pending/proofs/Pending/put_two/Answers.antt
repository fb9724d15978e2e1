-- `Pending::put_two` meets its contract: where two more do not fit, nothing changes.
use Rattle.pending.proofs.Laws.{puts}
use Rattle.pending.proofs.Pending.put_two.Goals as goal

pub returns-then-len-gt-MOST_PENDING : goal.returns-then-len-gt-MOST_PENDING
returns-then-len-gt-MOST_PENDING c = search puts
