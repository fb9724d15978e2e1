-- `check_calls::check_records` meets its contract: what the order checker says is answered.
use Rattle.answers.proofs.Calls.{verdict_reported}
use Rattle.check_calls.proofs.check_records.Goals as goal

pub returns : goal.returns
returns c = search verdict_reported
