-- `translate::translate_file` meets its contract: the flat records from the blocks stand at the
-- start of the array `flat`, and these are translated.
use borrow.Author.Rules.{rules}
use lib.Seq.{length-take-le}
use Rattle.translate.proofs.Calls.{file_ways}
use Rattle.translate.proofs.translate_file.Goals as goal

pub returns-in_err-bytes : goal.returns-in_err-bytes
returns-in_err-bytes c = search (file_ways, c.in_err-bytes.was)

pub slice_bounds-flat-end : goal.slice_bounds-flat-end
slice_bounds-flat-end c = search (file_ways, c.in_ok-bytes.was)

pub slice_bounds-translate_records-end : goal.slice_bounds-translate_records-end
slice_bounds-translate_records-end c = search (rules, length-take-le, file_ways, c.in_ok-bytes.was)

pub returns : goal.returns
returns c = search (file_ways, c.in_ok-bytes.was)
