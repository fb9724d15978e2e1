-- `machine_state::MachineInNumbers::report` meets its contract: 14 is reported as 19, and every
-- other stop as that of a run of checked code.
use Rattle.machine_state.proofs.InNumbers.{reported}
use Rattle.machine_state.proofs.MachineInNumbers.report.Goals as goal

pub returns-then-self-eq-FUEL_USED_UP : goal.returns-then-self-eq-FUEL_USED_UP
returns-then-self-eq-FUEL_USED_UP c = record { reports = search reported; wrapped = search reported }

pub returns : goal.returns
returns c = record { reports = search reported; wrapped = search reported }
