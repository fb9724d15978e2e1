-- `runner::run` meets its contract: the call is refused before its run, or the code that was
-- prepared is run. That file and input hold bytes is brought near.
use borrow.Author.Rules.{rules}
use native.Mathlib.Omega.{arith}
use lib.Seq.{length-take-le}
use Rattle.formats.specs.Numbers.{Bytes}
use Rattle.runner.proofs.Laws.{run_ways, run_safe}
use Rattle.runner.proofs.run.Goals as goal

-- the code lies in its buffer
pub slice_bounds-translated-end : goal.slice_bounds-translated-end
slice_bounds-translated-end c = search (rules, run_ways)

pub slice_bounds-translated-end-in-Ok : goal.slice_bounds-translated-end-in-Ok
slice_bounds-translated-end-in-Ok c = search (rules, length-take-le, run_ways)

-- and is a checked program's
pub invariant_of-own : goal.invariant_of-own
invariant_of-own c =
    let file : Bytes c.args.file.now = λ i. omega (arith, c.type_inv.file i) in
    record { never_19 = search run_safe }

-- refused before the run, or run
pub returns-in-Err : goal.returns-in-Err
returns-in-Err c =
    let file : Bytes c.args.file.now = λ i. omega (arith, c.type_inv.file i) in
    let input : Bytes c.args.input.now = λ i. omega (arith, c.type_inv.input i) in
    search run_ways

pub returns-in-Ok : goal.returns-in-Ok
returns-in-Ok c =
    let file : Bytes c.args.file.now = λ i. omega (arith, c.type_inv.file i) in
    let input : Bytes c.args.input.now = λ i. omega (arith, c.type_inv.input i) in
    search run_ways
