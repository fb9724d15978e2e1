-- `run_calls::run` meets its contract: too few slots, or the run's answer is stored.
use Rattle.run_calls.proofs.Laws.{ways}
use Rattle.run_calls.proofs.run.Goals as goal

-- too few slots
pub returns-then-not-has_room : goal.returns-then-not-has_room
returns-then-not-has_room c = search ways

-- the run, and its answer stored
pub returns : goal.returns
returns c = search ways
