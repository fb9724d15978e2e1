-- `source_calls::source` meets its contract: too few slots.
use Rattle.source_calls.proofs.Laws.{not_run}
use Rattle.source_calls.proofs.source.Goals as goal

pub returns-then-not-has_room : goal.returns-then-not-has_room
returns-then-not-has_room c = search not_run
