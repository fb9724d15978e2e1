-- `program::one_expression` meets its contract. Before each turn of the loop the records from k up
-- to the end are as many expressions as stand. Where too few stand for the parts of the record in
-- front, there are none in the end.
use Rattle.program.proofs.Expressions.{walked}
use Rattle.program.proofs.one_expression.Goals as goal

pub loop-k-init : goal.loop-k-init
loop-k-init c = search walked

pub returns-in_default : goal.returns-in_default
returns-in_default c = search (walked, c.in_default.ensures)

pub loop-k-preserved : goal.loop-k-preserved
loop-k-preserved c = search (walked, c.in-Some.ensures.0, c.in-Some.ensures.1)

pub returns : goal.returns
returns c = search walked
