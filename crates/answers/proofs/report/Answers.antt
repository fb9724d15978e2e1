-- `answers::report` meets its contract: the refusal's number and position are stored, and the
-- bytes.
use Rattle.answers.proofs.Laws.{filled_reported}
use Rattle.answers.proofs.report.Goals as goal

pub returns : goal.returns
returns c = search filled_reported
