-- `file_calls::pack` meets its contract: too few slots, or what was written is answered.
use Rattle.answers.proofs.Calls.{call_ways}
use Rattle.file_calls.proofs.pack.Goals as goal

-- too few slots
pub returns-then-not-has_room : goal.returns-then-not-has_room
returns-then-not-has_room c = search call_ways

-- the call, and its answer stored
pub returns : goal.returns
returns c = search call_ways
