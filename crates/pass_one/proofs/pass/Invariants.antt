-- `pass_one::pass` meets its contract: the bodies before function j have passed, so those from j
-- on, the first of them at record k, decide.
use Rattle.pass_one.proofs.Functions.{Walking}
use Rattle.pass_one.proofs.pass.Given as goal

abbrev pub invariant-loop-j : goal.invariant-loop-j
invariant-loop-j l = Walking l.flat l.functions l.walk.end l.k l.j
