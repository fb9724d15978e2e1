-- `machine::perform_in` meets its contract. Before each turn as many steps as units lead from the
-- start to the machine's state.
use Rattle.operations.proofs.RunLaws.{Running}
use Rattle.machine.proofs.perform_in.Given as goal

abbrev pub invariant-loop-units : goal.invariant-loop-units
invariant-loop-units l = Running l.code l.input l.fuel l.initial.output l.initial.values l.initial.returns l.output l.values l.returns l.s l.units
