-- `tree::tree_answer` meets its contract: a leaf that stands whole at the start is the first tree;
-- else, with labels of 4 bytes, what the walk finds is the end of the first tree, or its refusal.
use Rattle.tree.proofs.Laws.{answers_first}
use Rattle.tree.proofs.tree_answer.Goals as goal

pub returns-then-input-eq-LEAF_TAG : goal.returns-then-input-eq-LEAF_TAG
returns-then-input-eq-LEAF_TAG c = search answers_first

pub returns : goal.returns
returns c = search answers_first
