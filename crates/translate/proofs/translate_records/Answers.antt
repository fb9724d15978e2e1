-- `translate::translate_records` meets its contract: the checks refuse, the buffer is too short, or
-- all functions are emitted.
use Rattle.translate.proofs.Calls.{records_ways}
use Rattle.translate.proofs.translate_records.Goals as goal

pub returns-in_err-check_records : goal.returns-in_err-check_records
returns-in_err-check_records c = search (records_ways, c.in_err-check_records.was)

pub emit_all-table-requires : goal.emit_all-table-requires
emit_all-table-requires c = search (records_ways, c.in_ok-check_records.was)

pub returns-then-code-bytes : goal.returns-then-code-bytes
returns-then-code-bytes c = search (records_ways, c.in_ok-check_records.was)

pub emit_all-requires : goal.emit_all-requires
emit_all-requires c = search (records_ways, c.in_ok-check_records.was)

pub returns : goal.returns
returns c = search (records_ways, c.in_ok-check_records.was)
