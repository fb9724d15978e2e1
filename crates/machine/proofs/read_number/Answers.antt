-- `machine::read_number` meets its contract: there is no room for a word, the input has ended, or
-- the number of its next four bytes is pushed.
use Rattle.operations.proofs.StreamLaws.{numbers_in}
use Rattle.operations.proofs.CheckedLaws.{tests}
use Rattle.machine.proofs.read_number.Goals as goal

pub returns-then-is_full : goal.returns-then-is_full
returns-then-is_full g c = search (tests, numbers_in)

pub returns-in_default : goal.returns-in_default
returns-in_default g c = let cut = c.in_default.ensures.cases in search (tests, numbers_in)

pub returns : goal.returns
returns g c =
    let front = c.in-Some.ensures.cases in
    let inside = c.requires.read_in_bounds in
    let read = c.from_le_bytes.ensures in
    search (tests, numbers_in)
