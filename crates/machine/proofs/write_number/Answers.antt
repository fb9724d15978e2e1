-- `machine::write_number` meets its contract: no word is there, the output is full, or the word's
-- four bytes are written after the others.
use Rattle.operations.proofs.StreamLaws.{numbers_out}
use Rattle.operations.proofs.CheckedLaws.{tests, standing}
use Rattle.machine.proofs.write_number.Goals as goal

pub returns-then-lacks : goal.returns-then-lacks
returns-then-lacks g c = search (tests, standing, numbers_out)

pub returns-then-output-written-lt-LABEL_BYTES : goal.returns-then-output-written-lt-LABEL_BYTES
returns-then-output-written-lt-LABEL_BYTES g c = search (tests, standing, numbers_out)

pub returns : goal.returns
returns g c = search (tests, standing, numbers_out)
