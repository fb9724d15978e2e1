-- `machine_state::MachineInNumbers::report_checked` meets its contract: the stop that the number
-- names has the same answer.
use Rattle.machine_state.proofs.InNumbers.{checked_reported}
use Rattle.machine_state.proofs.MachineInNumbers.report_checked.Goals as goal

pub returns : goal.returns
returns c = search checked_reported
