-- `machine::run_checked_in` meets its contract. Before each turn as many steps as units lead from
-- the start to the machine's state, so the instruction there is not refused with 19; the fuel left
-- falls.
use Prim.Native.Nat.{◌-◌}
use Rattle.operations.proofs.RunLaws.{Running}
use Rattle.machine.proofs.run_checked_in.Given as goal

abbrev pub invariant-loop-s : goal.invariant-loop-s
invariant-loop-s l = Running l.code.code.now l.input l.fuel l.initial.output l.initial.values l.initial.returns l.output l.values l.returns l.s l.units

abbrev pub decreases-loop-s : goal.decreases-loop-s
decreases-loop-s l = l.fuel - l.units
