-- `answers::store_row` meets its contract: there are too few slots, or the row is copied.
use Rattle.answers.proofs.Slots.{rows}
use Rattle.answers.proofs.store_row.Goals as goal

pub loop-k-preserved : goal.loop-k-preserved
loop-k-preserved c = search rows

pub returns-then-answer-n : goal.returns-then-answer-n
returns-then-answer-n c = search rows

pub returns : goal.returns
returns c = search rows
