-- `files::put_program` meets its contract: the rows refuse, the buffer is too short, or the records
-- are copied.
use Rattle.files.proofs.Laws.{program_ways}
use Rattle.files.proofs.put_program.Goals as goal

pub returns-in_err-check_records : goal.returns-in_err-check_records
returns-in_err-check_records c = search (program_ways, c.in_err-check_records.was)

pub returns-then-records-flat : goal.returns-then-records-flat
returns-then-records-flat c = search (program_ways, c.in_ok-check_records.was)

pub returns : goal.returns
returns c = search (program_ways, c.in_ok-check_records.was)
