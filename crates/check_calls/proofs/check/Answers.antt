-- `check_calls::check` meets its contract: what the order checker says is answered.
use Rattle.answers.proofs.Calls.{verdict_reported}
use Rattle.check_calls.proofs.check.Goals as goal

pub returns : goal.returns
returns c = search verdict_reported
