-- `pass_two::pass` meets its contract: the functions before j have passed, so those from j on
-- decide.
use native.Mathlib.Omega.{arith}
use Rattle.pass_two.proofs.Rows.{walk_first, passed_over}
use Rattle.pass_two.proofs.pass.Goals as goal

pub loop-j-init : goal.loop-j-init
loop-j-init c = walk_first _ _ _ _ (λ i. omega (arith, c.type_inv.flat i)) c.requires (cc) (cc) (cc)

pub returns-in_err-k : goal.returns-in_err-k
returns-in_err-k c = search (passed_over, c.in_err-k.was)

pub loop-j-preserved : goal.loop-j-preserved
loop-j-preserved c = search (passed_over, c.in_ok-k.was)

pub returns : goal.returns
returns c = search passed_over
