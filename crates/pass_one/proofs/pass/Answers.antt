-- `pass_one::pass` meets its contract: the bodies before function j have passed, so those from j
-- on, the first of them at record k, decide.
use native.Mathlib.Omega.{arith}
use Rattle.pass_one.proofs.Functions.{walk_none, walking}
use Rattle.pass_one.proofs.pass.Goals as goal

pub loop-j-init : goal.loop-j-init
loop-j-init c = walk_none _ _ _ _ (λ i. omega (arith, c.type_inv.flat i)) c.requires (cc) (cc) (cc)

pub returns-in_err-k : goal.returns-in_err-k
returns-in_err-k c = search (walking, c.in_err-k.was)

pub loop-j-preserved : goal.loop-j-preserved
loop-j-preserved c = search (walking, c.in_ok-k.was)

pub enter-requires : goal.enter-requires
enter-requires c = search walking

pub returns : goal.returns
returns c = search walking
