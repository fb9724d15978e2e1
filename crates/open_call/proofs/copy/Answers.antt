-- `open_call::copy` meets its contract: as many arguments are copied as turns are made.
use Rattle.open_call.proofs.Opens.{copying}
use Rattle.open_call.proofs.copy.Goals as goal

pub loop-n-init : goal.loop-n-init
loop-n-init c = search copying

pub loop-n-preserved : goal.loop-n-preserved
loop-n-preserved c = search copying
