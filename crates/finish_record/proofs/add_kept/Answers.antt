-- `finish_record::add_kept` meets its contract.
use Rattle.finish_record.proofs.Rises.{additions}
use Rattle.finish_record.proofs.add_kept.Goals as goal

pub returns-in-Some : goal.returns-in-Some
returns-in-Some c = search additions
