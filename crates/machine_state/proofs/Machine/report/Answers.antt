-- `machine_state::Machine::report` meets its contract: the run has ended, with the word kept; or it
-- is refused, with 19 where the machine goes on.
use Rattle.machine_state.proofs.Laws.{reported}
use Rattle.machine_state.proofs.Machine.report.Goals as goal

pub returns-in-Ended : goal.returns-in-Ended
returns-in-Ended c = record { reports = search reported; wrapped = search reported }

pub returns-in-Refused : goal.returns-in-Refused
returns-in-Refused c = record { reports = search reported; wrapped = search reported }

pub returns-in-GoesOn : goal.returns-in-GoesOn
returns-in-GoesOn c = record { reports = search reported; wrapped = search reported }
