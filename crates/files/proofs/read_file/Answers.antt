-- `files::read_file` meets its contract: what the blocks gave stands at the start of the reader's
-- own buffer, and the rows header to prefix form are tested there.
use borrow.Author.Rules.{rules}
use lib.Seq.{length-take-le}
use Rattle.files.proofs.Laws.{read_ways}
use Rattle.files.proofs.read_file.Goals as goal

pub slice_bounds-flat-end : goal.slice_bounds-flat-end
slice_bounds-flat-end c = search (read_ways, c.in_ok-bytes.was)

pub slice_bounds-put_program-end : goal.slice_bounds-put_program-end
slice_bounds-put_program-end c = search (rules, length-take-le, read_ways, c.in_ok-bytes.was)

pub returns-in_err-bytes : goal.returns-in_err-bytes
returns-in_err-bytes c = search (read_ways, c.in_err-bytes.was)

pub returns : goal.returns
returns c = search (read_ways, c.in_ok-bytes.was)
