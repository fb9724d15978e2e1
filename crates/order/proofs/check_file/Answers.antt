-- `order::check_file` meets its contract: the flat records from the blocks stand at the start of
-- the array `flat`, and the checks are made on these.
use borrow.Author.Rules.{rules}
use lib.Seq.{length-take-le}
use Rattle.order.proofs.Laws.{check_ways}
use Rattle.order.proofs.check_file.Goals as goal

pub slice_bounds-flat-end : goal.slice_bounds-flat-end
slice_bounds-flat-end c = search (check_ways, c.in_ok-bytes.was)

pub slice_bounds-records-end : goal.slice_bounds-records-end
slice_bounds-records-end c = search (rules, length-take-le, check_ways, c.in_ok-bytes.was)

pub returns-in_err-bytes : goal.returns-in_err-bytes
returns-in_err-bytes c = search (check_ways, c.in_err-bytes.was)

pub returns : goal.returns
returns c = search (check_ways, c.in_ok-bytes.was)
