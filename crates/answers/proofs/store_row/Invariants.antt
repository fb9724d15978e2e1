-- `answers::store_row` meets its contract. Before each turn of the loop the first k words are
-- stored.
use Rattle.writing.proofs.Copied.{Copied}
use Rattle.answers.proofs.store_row.Given as goal

abbrev pub invariant-loop-k : goal.invariant-loop-k
invariant-loop-k l = Copied l.initial.answer 0 l.row l.answer l.k
