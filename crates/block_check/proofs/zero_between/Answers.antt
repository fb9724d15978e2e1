-- `block_check::zero_between` meets its contract: the bytes from the one offset up to the other are
-- tested one by one.
use Rattle.std.proofs.Common.{rules, ◌∙◌, eqb, ap, refl}
use borrow.Author.Tests.{tests}
use Rattle.std.proofs.lemmas.Iterator.{YieldsList-from_slice}
use Rattle.std.proofs.lemmas.Iterator.Search.{all_from_yields_List}
use Rattle.formats.specs.Blocks.{zeros}
use Rattle.block_check.proofs.Checks.{zeros_is, part_is}
use Rattle.block_check.proofs.zero_between.Goals as goal

pub returns : goal.returns
returns c =
    all_from_yields_List (λ byte. eqb byte 0) _ _ c.all.result c.all.ensures.ran (YieldsList-from_slice _ c.iter.ensures.rest) (λ x b q k. search (rules, tests))
    ∙ zeros_is _
    ∙ ap zeros (part_is c.args.s.now _ c.args.from c.args.to c.min.result c.min-end.result c.min-end.ensures c.min.ensures refl)
