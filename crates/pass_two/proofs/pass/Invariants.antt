-- `pass_two::pass` meets its contract: the functions before j have passed, so those from j on
-- decide.
use Rattle.pass_two.proofs.Rows.{Walking}
use Rattle.pass_two.proofs.pass.Given as goal

abbrev pub invariant-loop-j : goal.invariant-loop-j
invariant-loop-j l = Walking l.flat l.functions l.walk.end l.k l._j
