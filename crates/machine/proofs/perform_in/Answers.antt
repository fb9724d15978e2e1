-- `machine::perform_in` meets its contract: before each turn as many steps as units lead from the
-- start to the machine's state. So the turn that stops is the whole run's last, and where none
-- does, the fuel is used up.
use native.Mathlib.Omega.{arith}
use Rattle.operations.proofs.RunLaws.{running, run_first}
use Rattle.machine.proofs.perform_in.Goals as goal

pub loop-units-init : goal.loop-units-init
loop-units-init c = run_first _ _ _ _ _ _ (omega arith) (omega arith)

-- a turn, and the answer where it stops
pub turn-s-requires : goal.turn-s-requires
turn-s-requires c = search running

-- the answer where a turn stops; that the fuel has 64 bits is brought near
pub returns-in_default : goal.returns-in_default
returns-in_default c = let wide = c.ranges.fuel in search running

-- the next turn
pub loop-units-preserved : goal.loop-units-preserved
loop-units-preserved c = search running

-- the fuel is used up
pub returns : goal.returns
returns c = let wide = c.ranges.fuel in search running
