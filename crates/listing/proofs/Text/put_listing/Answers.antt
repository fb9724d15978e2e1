-- `Text::put_listing` meets its contract: what the translator answers is what the definition
-- asks for, and its code stands at the start of its buffer.
use borrow.Author.Rules.{rules}
use lib.Seq.{length-take-le}
use Rattle.listing.proofs.Texts.{listing_ways}
use Rattle.listing.proofs.Text.put_listing.Goals as goal

pub slice_bounds-code-end : goal.slice_bounds-code-end
slice_bounds-code-end c = search listing_ways

pub slice_bounds-put_code-end : goal.slice_bounds-put_code-end
slice_bounds-put_code-end c = search (rules, length-take-le, listing_ways)

pub put_code-requires : goal.put_code-requires
put_code-requires c = search (rules, listing_ways)

pub returns-in-Err : goal.returns-in-Err
returns-in-Err c = search listing_ways

pub returns-in-Ok : goal.returns-in-Ok
returns-in-Ok c = search listing_ways
