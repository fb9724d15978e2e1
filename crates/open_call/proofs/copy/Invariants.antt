-- `open_call::copy` meets its contract: as many arguments are copied as turns are made.
use Rattle.open_call.proofs.Opens.{Copying}
use Rattle.open_call.proofs.copy.Given as goal

abbrev pub invariant-loop-n : goal.invariant-loop-n
invariant-loop-n l = Copying l.initial.values l.calls l.slot l.count l.values l.n
