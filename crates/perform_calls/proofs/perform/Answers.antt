-- `perform_calls::perform` meets its contract: too few slots, or the run's answer is stored.
use Rattle.perform_calls.proofs.Laws.{ways}
use Rattle.perform_calls.proofs.perform.Goals as goal

-- too few slots
pub returns-then-not-has_room : goal.returns-then-not-has_room
returns-then-not-has_room c = search ways

-- the run, and its answer stored
pub returns : goal.returns
returns c = search ways
