-- `decode::decode` meets its contract: the checks refuse, or the table is too short.
use Rattle.refusal.proofs.Raised.{raised}
use Rattle.decode.proofs.Calls.{ways}
use Rattle.decode.proofs.decode.Goals as goal

pub returns-in_err-check_pass_one : goal.returns-in_err-check_pass_one
returns-in_err-check_pass_one c =
    rw (raised c.from_residual.result c.from_residual.ensures.1) (search (ways, c.in_err-check_pass_one.was))

pub returns-then-table-lt-TABLE_WORDS : goal.returns-then-table-lt-TABLE_WORDS
returns-then-table-lt-TABLE_WORDS c = search (ways, c.in_ok-check_pass_one.was)
