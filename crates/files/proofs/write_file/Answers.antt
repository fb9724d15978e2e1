-- `files::write_file` meets its contract: the rows refuse, or the file is written block by block.
use Rattle.files.proofs.Laws.{write_ways}
use Rattle.files.proofs.write_file.Goals as goal

pub returns-in_err-check_rows : goal.returns-in_err-check_rows
returns-in_err-check_rows c = search (write_ways, c.in_err-check_rows.was)

pub returns : goal.returns
returns c = search (write_ways, c.in_ok-check_rows.was)
