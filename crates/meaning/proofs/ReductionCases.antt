-- Closed cases of the reductions of 000, Figure 3: a redex for each rule, and what it becomes; sums
-- that are stuck.
use mathlib.Core.Path.{refl}
use Rattle.formats.specs.Numbers.{signed32}
use Rattle.formats.specs.Arithmetic.{plus, unbounded, word_for, result_of}
use Rattle.formats.specs.Records.{nth}
use Rattle.formats.specs.Programs.{Function}
use Rattle.rules.specs.Printed.{number_name, tree_name, function_name, int, lam, name, app, compute_term, fix, leaf_term, node_term, case, let_01, if_zero_01}
use Rattle.rules.specs.Printed.{term_of, applied, lams, function_term}
use Rattle.rules.proofs.Cases.{numbered, program_of, on}
use Rattle.meaning.specs.Reductions.{leaf_value, an_integer, same_name, only, both, without, replaced, substitute, fix_of, fixes, fixing}
use Rattle.meaning.specs.Reductions.{Redex, Es-Plus, Es-App, Es-App-let, Es-Fix, Es-Case1, Es-Case2, IfZero-zero, IfZero-other, hole, plus_right, in_leaf, plug, StuckAt, at_sum}
use Rattle.meaning.proofs.MeaningCases.{again}

-- 1 and −1 make 0: 4294967295 is the word of −1.
plus_reduces : Redex again (compute_term plus (int 1) (int 4294967295)) (int 0)
unfolding result_of unbounded word_for signed32
plus_reduces = Es-Plus refl

-- Where the result is the largest or the least in range, the sum reduces ..
most_reduces : Redex again (compute_term plus (int 2147483647) (int 0)) (int 2147483647)
unfolding result_of unbounded word_for signed32
most_reduces = Es-Plus refl

least_reduces : Redex again (compute_term plus (int 2147483649) (int 4294967295)) (int 2147483648)
unfolding result_of unbounded word_for signed32
least_reduces = Es-Plus refl

-- .. and where it is one more, or one less, it is stuck: 2147483648 is the word of −2147483648.
above_stuck : StuckAt plus 2147483647 1 (compute_term plus (int 2147483647) (int 1))
unfolding result_of unbounded word_for signed32 plug
above_stuck = at_sum hole refl

below_stuck : StuckAt plus 2147483648 4294967295 (compute_term plus (int 2147483648) (int 4294967295))
unfolding result_of unbounded word_for signed32 plug
below_stuck = at_sum hole refl

-- The term around it is stuck there too.
around_stuck : StuckAt plus 2147483647 1 (leaf_term (compute_term plus (int 5) (compute_term plus (int 2147483647) (int 1))))
unfolding result_of unbounded word_for signed32 plug
around_stuck = at_sum (in_leaf (plus_right plus 5 hole)) refl

-- The number is put in for its own name, and for no other.
app_reduces : Redex again (app (lam (number_name 0) (compute_term plus (name (number_name 0)) (name (tree_name 0)))) (int 3)) (compute_term plus (int 3) (name (tree_name 0)))
unfolding substitute replaced only same_name
app_reduces = Es-App an_integer

-- Where the name is bound again, by λ, let or case, it is not replaced.
bound_again : Redex again (app (lam (number_name 0) (lam (number_name 0) (name (number_name 0)))) (int 3)) (lam (number_name 0) (name (number_name 0)))
unfolding substitute replaced only without same_name
bound_again = Es-App an_integer

let_bound_again :
    Redex again
    (app (lam (number_name 0) (let_01 (number_name 0) (name (number_name 0)) (name (number_name 0)))) (int 3))
    (let_01 (number_name 0) (int 3) (name (number_name 0)))
unfolding substitute replaced only without same_name
let_bound_again = Es-App an_integer

case_bound_again :
    Redex again
    (case (node_term (leaf_term (int 5)) (leaf_term (int 7))) (number_name 0) (int 9) (tree_name 1) (tree_name 2)
    (case (name (tree_name 1)) (number_name 0) (name (tree_name 2)) (tree_name 1) (tree_name 2) (node_term (name (tree_name 1)) (name (tree_name 2)))))
    (case (leaf_term (int 5)) (number_name 0) (leaf_term (int 7)) (tree_name 1) (tree_name 2) (node_term (name (tree_name 1)) (name (tree_name 2))))
unfolding substitute replaced only both without same_name
case_bound_again = Es-Case2 leaf_value leaf_value

let_reduces : Redex again (let_01 (number_name 0) (int 3) (leaf_term (name (number_name 0)))) (leaf_term (int 3))
unfolding substitute replaced only same_name
let_reduces = Es-App-let (Es-App an_integer)

-- Call 0 on 0: the function's name becomes its fixed point.
calls_itself : Function
calls_itself = numbered (on 0 0)

fix_reduces : Redex again (fix_of 0 calls_itself) (lam (tree_name 0) (app (fix_of 0 calls_itself) (name (tree_name 0))))
unfolding substitute replaced without same_name fixing fixes fix_of nth function_term lams term_of applied numbered on calls_itself
fix_reduces = Es-Fix

-- The fix of a function that the program does not have is the paper's alone.
other_fix_reduces : Redex again (fix (function_name 9) (lam (tree_name 0) (name (function_name 9)))) (lam (tree_name 0) (fix (function_name 9) (lam (tree_name 0) (name (function_name 9)))))
unfolding substitute replaced without same_name fixing
other_fix_reduces = Es-Fix

-- A function's name that is not bound by this fix is replaced by that function's own.
other_function_reduces : Redex again (fix (function_name 9) (name (function_name 0))) (fix_of 0 calls_itself)
unfolding substitute replaced without same_name fixing fixes nth again numbered program_of on calls_itself
other_function_reduces = Es-Fix

leaf_reduces : Redex again (case (leaf_term (int 5)) (number_name 0) (name (number_name 0)) (tree_name 1) (tree_name 2) (int 9)) (int 5)
unfolding substitute replaced only same_name
leaf_reduces = Es-Case1

-- The first name is the left tree's.
node_reduces :
    Redex again
    (case (node_term (leaf_term (int 5)) (leaf_term (int 7))) (number_name 0) (int 9) (tree_name 1) (tree_name 2) (node_term (name (tree_name 2)) (name (tree_name 1))))
    (node_term (leaf_term (int 7)) (leaf_term (int 5)))
unfolding substitute replaced both only same_name
node_reduces = Es-Case2 leaf_value leaf_value

zero_reduces : Redex again (if_zero_01 (int 0) (int 1) (int 2)) (int 1)
zero_reduces = IfZero-zero

other_reduces : Redex again (if_zero_01 (int 9) (int 1) (int 2)) (int 2)
other_reduces = IfZero-other
