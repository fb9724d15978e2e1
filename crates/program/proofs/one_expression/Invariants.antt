-- `program::one_expression` meets its contract. Before each turn of the loop the records from k up
-- to the end are as many expressions as stand. Where too few stand for the parts of the record in
-- front, there are none in the end.
use Rattle.program.proofs.Expressions.{Standing}
use Rattle.program.proofs.one_expression.Given as goal

abbrev pub invariant-loop-k : goal.invariant-loop-k
invariant-loop-k l = Standing l.flat l.first l.end l.k l.standing
