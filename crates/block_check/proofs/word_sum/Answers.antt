-- `block_check::word_sum` meets its contract: the sum goes over the bytes two by two.
use Rattle.std.proofs.Common.{rules, arith}
use Rattle.block_check.proofs.Checks.{words_in_order, pairs_summed}
use Rattle.block_check.proofs.word_sum.Goals as goal

pub returns : goal.returns
returns c =
    let run = c.fold.ensures.runs in
    pairs_summed _ c.args.s.now _ c.fold.result run.0 run.1 c.fold.ensures.ran (omega arith) (search words_in_order) (λ sum word next q k. search rules)
