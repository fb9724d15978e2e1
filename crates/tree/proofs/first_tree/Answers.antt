-- `tree::first_tree` meets its contract: the bytes up to the end that `tree_answer` gives are the
-- first tree's own, since each element of the input is a byte.
use borrow.Author.Rules.{rules}
use native.Mathlib.Omega.{arith}
use lib.Seq.{length-take-le}
use Rattle.formats.specs.Numbers.{Bytes}
use Rattle.tree.proofs.Laws.{first_found}
use Rattle.tree.proofs.first_tree.Goals as goal

pub slice_bounds-result-end : goal.slice_bounds-result-end
slice_bounds-result-end c = search (rules, first_found, length-take-le)

pub returns-in-Ok : goal.returns-in-Ok
returns-in-Ok c = let bytes : Bytes c.args.input.now = λ i. omega (arith, c.type_inv.input i) in
    search first_found

pub returns-in-Err : goal.returns-in-Err
returns-in-Err c = search first_found
