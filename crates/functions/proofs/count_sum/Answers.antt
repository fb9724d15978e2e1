-- `functions::count_sum` meets its contract: the counts are summed one after the other, and their
-- sum fits.
use Rattle.std.proofs.Common.{rules, of_calls, ◌≡◌, ◌∙◌, arith}
use Rattle.std.specs.List.{range_with_len}
use Rattle.std.proofs.lemmas.Iterator.{YieldsList-from_range, YieldsList-from_map}
use Rattle.std.proofs.lemmas.Iterator.Consumers.{sum_by_from_yields_List, fits_by_from_yields_list}
use Rattle.formats.specs.Inner.Fields.{count_in}
use Rattle.functions.specs.Inner.Counts.{counts_from}
use Rattle.functions.proofs.Functions.{counts_are, counts_fit}
use Rattle.functions.proofs.count_sum.Goals as goal

pub sum-requires : goal.sum-requires
sum-requires c =
    let s = c.args.flat.now in
    let n = c.args.functions in
    record {
      can = search of_calls;
      finite = search of_calls;
      fits =
          fits_by_from_yields_list (count_in s) (range_with_len 0 n) c.map.result _
          (YieldsList-from_map _ (count_in s) (YieldsList-from_range 0 n n (cc) (omega arith)) c.map.ensures.closure (λ x r q k. search rules))
          (counts_fit s n (λ k. (c.type_inv.flat k).fits) c.ranges.functions.fits);
    }

pub returns : goal.returns
returns c =
    let s = c.args.flat.now in
    let n = c.args.functions in
    let total : c.sum.result ≡ counts_from n s 0 =
    sum_by_from_yields_List (count_in s) (range_with_len 0 n) c.map.result c.sum.result c.sum.ensures.ran
    (YieldsList-from_map _ (count_in s) (YieldsList-from_range 0 n n (cc) (omega arith)) c.map.ensures.closure (λ x r q k. search rules))
    ∙ counts_are s n in
    omega arith
