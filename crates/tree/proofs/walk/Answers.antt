-- `tree::walk` meets its contract: before each tag `Walking` holds, and the bytes left fall. Each
-- way through the loop is a law of proofs/Marks.antt.
use native.Mathlib.Omega.{arith}
use Rattle.tree.proofs.Marks.{walk_first, walks}
use Rattle.tree.proofs.walk.Goals as goal

pub loop-at-init : goal.loop-at-init
loop-at-init c = walk_first _ _ _ (omega arith)

-- a node too deep
pub returns-then-above-eq-MOST_DEPTH : goal.returns-then-above-eq-MOST_DEPTH
returns-then-above-eq-MOST_DEPTH c = search walks

-- a node that is opened
pub loop-at-preserved-then-tag-eq-NODE_TAG : goal.loop-at-preserved-then-tag-eq-NODE_TAG
loop-at-preserved-then-tag-eq-NODE_TAG c = search walks

-- a byte that is no tag
pub returns-then-tag-ne-LEAF_TAG : goal.returns-then-tag-ne-LEAF_TAG
returns-then-tag-ne-LEAF_TAG c = search walks

-- a label that is cut
pub returns-then-whole-at : goal.returns-then-whole-at
returns-then-whole-at c = search walks

-- it ends the tree
pub returns-then-above_next-eq0 : goal.returns-then-above_next-eq0
returns-then-above_next-eq0 c = search walks

pub loop-at-preserved : goal.loop-at-preserved
loop-at-preserved c = search walks

-- no byte where a tag is due
pub returns : goal.returns
returns c = search walks
