-- `named_trees::offset_of` meets its contract. Each way out is a law of proofs/Offsets.antt.
use Rattle.named_trees.proofs.Offsets.{placed}
use Rattle.named_trees.proofs.+offset_of.Goals as goal

pub returns-then-code-eq0 : goal.returns-then-code-eq0
returns-then-code-eq0 t c = search placed

pub returns-then-code-outer : goal.returns-then-code-outer
returns-then-code-outer t c = search placed

pub returns : goal.returns
returns t c = search placed
