-- `machine::run_checked_in` meets its contract: before each turn as many steps as units lead from
-- the start to the machine's state. So the instruction there is not refused with 19, and the turn
-- that stops is the whole run's last.
use native.Mathlib.Omega.{arith}
use lib.ListN.{length}
use Rattle.formats.specs.Numbers.{Bytes}
use Rattle.meaning.specs.Running.{of_code}
use Rattle.operations.specs.Inner.Checked.{Safe}
use Rattle.operations.proofs.RunLaws.{run_first}
use Rattle.operations.proofs.CheckedRun.{checked_run, step_sound, step_able}
use Rattle.machine.proofs.run_checked_in.Goals as goal

pub loop-s-init : goal.loop-s-init
loop-s-init c = run_first _ _ _ _ _ _ (omega arith) (omega arith)

-- a turn: the instruction at the address, performed if fuel is left; that no state is refused with
-- 19, and that the fuel has 64 bits, is brought near
pub fetch-i-requires : goal.fetch-i-requires
fetch-i-requires c =
    let input : Bytes c.args.input.now = λ i. omega (arith, c.type_inv.input i) in
    let safe : Safe (of_code c.args.code.code.now c.args.input.now (length c.args.output.now)) = c.args.code.never_19.safe _ _ input in
    search checked_run

pub step-s-requires-clause-sound : goal.step-s-requires-clause-sound
step-s-requires-clause-sound c =
    let input : Bytes c.args.input.now = λ i. omega (arith, c.type_inv.input i) in
    let safe : Safe (of_code c.args.code.code.now c.args.input.now (length c.args.output.now)) = c.args.code.never_19.safe _ _ input in
    search step_sound

pub step-s-requires-clause-able : goal.step-s-requires-clause-able
step-s-requires-clause-able c =
    let input : Bytes c.args.input.now = λ i. omega (arith, c.type_inv.input i) in
    let safe : Safe (of_code c.args.code.code.now c.args.input.now (length c.args.output.now)) = c.args.code.never_19.safe _ _ input in
    search step_able

-- the answer where it stops
pub returns-in_default : goal.returns-in_default
returns-in_default c =
    let input : Bytes c.args.input.now = λ i. omega (arith, c.type_inv.input i) in
    let safe : Safe (of_code c.args.code.code.now c.args.input.now (length c.args.output.now)) = c.args.code.never_19.safe _ _ input in
    let wide = c.ranges.fuel in
    search checked_run

-- the next turn: fuel was left
pub loop-s-preserved : goal.loop-s-preserved
loop-s-preserved c =
    let input : Bytes c.args.input.now = λ i. omega (arith, c.type_inv.input i) in
    let safe : Safe (of_code c.args.code.code.now c.args.input.now (length c.args.output.now)) = c.args.code.never_19.safe _ _ input in
    search checked_run
