-- `result_bytes::emit_last` meets its contract.
use Rattle.result_bytes.proofs.Bytes.{saying}
use Rattle.result_bytes.proofs.emit_last.Goals as goal

pub returns-in_default : goal.returns-in_default
returns-in_default c = search saying

pub returns : goal.returns
returns c = search saying
