-- `machine::give_back` meets its contract: no word is kept, more than one is asked for, none is
-- there, or the top one is kept.
use Prim.Native.Nat.{◌≤◌}
use borrow.Author.Rules.{rules}
use native.Mathlib.Omega.{arith}
use lib.ListN.{length}
use Rattle.meaning.specs.Running.{value_words}
use Rattle.operations.proofs.CallLaws.{returns as return_laws}
use Rattle.operations.proofs.CheckedLaws.{tests, standing, keeping, kept_words}
use Rattle.machine.proofs.give_back.Goals as goal

pub returns-then-kept-eq0 : goal.returns-then-kept-eq0
returns-then-kept-eq0 g c = search (tests, standing, keeping, return_laws)

pub returns-then-keeps_more : goal.returns-then-keeps_more
returns-then-keeps_more g c = search (tests, standing, keeping, return_laws)

pub returns-then-lacks : goal.returns-then-lacks
returns-then-lacks g c = search (tests, standing, keeping, return_laws)

pub returns : goal.returns
returns g c =
    let long : value_words ≤ length c.args.values.now = omega arith in
    search (tests, standing, keeping, return_laws)

pub lacks-requires-clause-words : goal.lacks-requires-clause-words
lacks-requires-clause-words g c = λ plain. kept_words c.args.kept c.args.s (search rules) (c.requires.words plain)
