-- The measure of `offset_of`: the code. That of the tree which the Case looks at is smaller.
use Rattle.named_trees.proofs.+offset_of.Given as goal

abbrev pub decreases-offset_of : goal.decreases-offset_of
decreases-offset_of l = l.code
