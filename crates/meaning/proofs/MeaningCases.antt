-- Closed cases of what a program means, proved by computation. Each row of a table is a program, a
-- tree, and the outcome.
use Prim.Native.Nat.{ℕ, suc}
use mathlib.Core.List.{List, [], ◌∷◌, ◌++◌, map}
use mathlib.Core.Option.{some-injective}
use mathlib.Core.Path.{◌≡◌, refl, sym, subst}
use Rattle.formats.specs.Numbers.{bytes_of, signed32}
use Rattle.formats.specs.Arithmetic.{plus, unbounded, word_for, result_of}
use Rattle.formats.specs.Tokens.{Tree, leaf, node, tokens}
use Rattle.formats.specs.Records.{nth}
use Rattle.formats.specs.Programs.{Expr, const, var, if_zero, let_in, leaf_of, node_of, case_of, call, no_args, arg, prefix, prefixes, size}
use Rattle.formats.specs.Inner.Expressions.{add}
use Rattle.formats.specs.Programs.{number_valued, signature_of, sum_of_counts, Program}
use Rattle.formats.proofs.ProgramCases.{grow}
use Rattle.rules.proofs.Cases.{numbered, treed, taking, program_of, on, with_one, swap}
use Rattle.meaning.specs.Levels.{at_level}
use Rattle.meaning.specs.Running.{most_calls}
use Rattle.meaning.specs.Evaluation.{Value, number, tree, Environment, picked, in_call, branch, in_branch, Takes, Const, Var, Compute, IfZero, Let, Leaf, Node, Case, Call, no_more, one_more, if_zero_units, case_units, counted, units_in, result_number}
use Rattle.meaning.specs.OpenCalls.{Reason, no_fuel, no_call, no_result, Outcome, gives, stops, begins, followed_by, number_or, tree_or, result_tree, computed, evaluate, evaluate_args, first_record, called, evaluation, with_fuel}
use Rattle.meaning.specs.Unfinished.{picked_record, branch_record, StopsIn, out-of-range, in_first, in_second, in_test, in_picked, in_named, in_body, in_label, in_left, in_right, in-branch, in_arguments, too_many, in-call, in_this, in_later, branch_units, units_until, bytes_until}

-- ---- programs

-- A number-valued function 0, and function 1 with two number parameters besides its tree.
with_two : Expr → Expr → Program
with_two body helper = program_of (numbered body ∷ record { sort = number_valued; parameters = 2; body = helper } ∷ [])

-- Function 1 on tree a with two numbers.
unfoldable pub on_two : ℕ → Expr → Expr → Expr
on_two a x y = call a 1 (arg x (arg y no_args))

-- 01, Worked programs: "Call 0 on 0"; "Sum (Case 0, Var 0, Add, Call 0 on 1, Call 0 on 2)".
unfoldable pub again : Program
again = program_of (numbered (on 0 0) ∷ [])

unfoldable pub sum : Program
sum = program_of (numbered (case_of 0 (var 0) (add (on 0 1) (on 0 2))) ∷ [])

-- A sum that is out of range: 2147483648.
too_large : Expr
too_large = add (const 2147483647) (const 1)

-- Tree T.
unfoldable pub two_leaves : Tree
two_leaves = node (leaf 5) (leaf 7)

-- ---- the evaluation with a bound on the open calls

-- What an evaluation comes to, and how many expressions begin.
data Reported : Type 0 where
  value : ℕ → Value → Reported
  stop : ℕ → Reason → ℕ → Reported

reported_from : ℕ → Outcome Value → Reported
reported_from n (gives v) = value n v
reported_from n (stops why r) = stop n why r
reported_from n (begins o) = reported_from (suc n) o

record Row : Type 0 where
  runs : Program
  calls : ℕ
  on : Tree
  reports : Reported

row : Program → ℕ → Tree → Reported → Row
row runs calls on reports = record { runs = runs; calls = calls; on = on; reports = reports }

evaluated : Row → Reported
evaluated r = reported_from 0 (evaluation r.runs r.calls r.on)

-- Grow on T begins 14 expressions and opens 2 calls at once. The swapped program gives labels 7 and
-- 5. Sum of 2147483647 and 1 breaks at its Add, when both are found. Call 0 on 0 is stopped at
-- 1,024, at its only Call.
worked : List Row
worked =
    row grow most_calls two_leaves (value 14 (tree (node (leaf 6) (leaf 8))))
    ∷ row grow 2 two_leaves (value 14 (tree (node (leaf 6) (leaf 8))))
    ∷ row grow 1 two_leaves (stop 3 no_call 8)
    ∷ row swap most_calls two_leaves (value 10 (tree (node (leaf 7) (leaf 5))))
    ∷ row sum most_calls two_leaves (value 8 (number 12))
    ∷ row sum most_calls (node (leaf 2147483647) (leaf 1)) (stop 8 (no_result plus 2147483647 1) 4)
    ∷ row sum 2 (node (leaf 2147483647) (leaf 1)) (stop 8 (no_result plus 2147483647 1) 4)
    ∷ row sum 1 (node (leaf 2147483647) (leaf 1)) (stop 3 no_call 5)
    ∷ row again most_calls two_leaves (stop 1024 no_call 2)
    ∷ []

-- A number-valued function 0 with this body, on T, with one call open; and what it gives.
in_number : Expr → Reported → Row
in_number body reports = row (program_of (numbered body ∷ [])) 1 two_leaves reports

of_number : Expr → ℕ → ℕ → Row
of_number body n i = in_number body (value n (number i))

of_tree : Expr → ℕ → Tree → Row
of_tree body n t = row (program_of (treed body ∷ [])) 1 two_leaves (value n (tree t))

-- Each kind. Sums are of signed numbers, and reach both ends of the range; a name is the one that
-- was bound there, whatever was bound after it; a Case's left tree comes before its right one; a
-- Call's arguments are named in order, and its tree is the function's tree 0.
each_kind : List Row
each_kind =
    of_number (const 7) 1 7
    ∷ of_number (let_in (const 3) (let_in (const 4) (var 0))) 5 3
    ∷ of_number (let_in (const 3) (let_in (const 4) (var 1))) 5 4
    ∷ of_number (add (const 4294967295) (const 5)) 3 4
    ∷ of_number (add (const 2147483647) (const 0)) 3 2147483647
    ∷ of_number (add (const 2147483648) (const 0)) 3 2147483648
    ∷ of_number (add (const 2147483647) (const 2147483648)) 3 4294967295
    ∷ of_number (if_zero (const 0) (const 1) (const 2)) 3 1
    ∷ of_number (if_zero (const 9) (const 1) (const 2)) 3 2
    ∷ of_tree (leaf_of (const 3)) 2 (leaf 3)
    ∷ of_tree (node_of (leaf_of (const 3)) (leaf_of (const 4))) 5 (node (leaf 3) (leaf 4))
    ∷ of_number (case_of 0 (const 9) (case_of 1 (var 0) (const 9))) 3 5
    ∷ of_number (case_of 0 (const 9) (case_of 2 (var 0) (const 9))) 3 7
    ∷ row (with_two (on_two 0 (const 0) (const 8)) (if_zero (var 0) (var 1) (const 9))) 2 two_leaves (value 6 (number 8))
    ∷ row (with_two (case_of 0 (const 9) (on_two 2 (const 3) (const 4))) (case_of 0 (var 2) (const 9))) 2 two_leaves (value 6 (number 7))
    ∷ []

-- Where an evaluation stops, and at which record: in each part of each kind, with one open call
-- allowed. Add takes its left part first. A call's depth is tested after its arguments. In function
-- 1 two calls are open.
each_stop : List Row
each_stop =
    in_number (add (on 0 0) (on 0 0)) (stop 2 no_call 3)
    ∷ in_number (add (const 1) (on 0 0)) (stop 3 no_call 4)
    ∷ in_number (if_zero (on 0 0) (const 1) (const 2)) (stop 2 no_call 3)
    ∷ in_number (if_zero (const 0) (on 0 0) (const 2)) (stop 3 no_call 4)
    ∷ in_number (if_zero (const 1) (const 2) (on 0 0)) (stop 3 no_call 5)
    ∷ in_number (let_in (on 0 0) (const 1)) (stop 2 no_call 3)
    ∷ in_number (let_in (const 1) (on 0 0)) (stop 3 no_call 4)
    ∷ row (program_of (treed (leaf_of (on 1 0)) ∷ numbered (const 9) ∷ [])) 1 two_leaves (stop 2 no_call 4)
    ∷ row (program_of (treed (node_of (on 0 0) (leaf_of (const 1))) ∷ [])) 1 two_leaves (stop 2 no_call 3)
    ∷ row (program_of (treed (node_of (leaf_of (const 1)) (on 0 0)) ∷ [])) 1 two_leaves (stop 4 no_call 5)
    ∷ row (program_of (numbered (case_of 0 (on 0 0) (const 1)) ∷ [])) 1 (leaf 5) (stop 2 no_call 3)
    ∷ in_number (case_of 0 (const 1) (on 0 1)) (stop 2 no_call 4)
    ∷ row (with_two (on_two 0 (on 0 0) (const 2)) (const 9)) 1 two_leaves (stop 2 no_call 4)
    ∷ row (with_two (on_two 0 (const 1) (on 0 0)) (const 9)) 1 two_leaves (stop 3 no_call 5)
    ∷ row (with_two (on_two 0 (const 1) (const 2)) (const 9)) 1 two_leaves (stop 3 no_call 3)
    ∷ row (with_two (on_two 0 (const 1) (const 2)) (on 0 0)) 2 two_leaves (stop 4 no_call 6)
    ∷ row grow 0 two_leaves (stop 0 no_call 0)
    ∷ []

-- An evaluation that breaks at this record, after so many expressions, on 2147483647 and 1.
at_too_large : (n r : ℕ) → Reported
at_too_large n r = stop n (no_result plus 2147483647 1) r

-- Where an evaluation breaks, and at which record: in each part of each kind. Of two sums out of
-- range the left one breaks; the part that an IfZero does not pick is not taken. A sum breaks in an
-- argument before its call is one too many; of a break and a call too many, the first stops.
each_break : List Row
each_break =
    in_number too_large (at_too_large 3 2)
    ∷ in_number (add (const 2147483648) (const 4294967295)) (stop 3 (no_result plus 2147483648 4294967295) 2)
    ∷ in_number (add too_large (add (const 2147483647) (const 2))) (at_too_large 4 3)
    ∷ in_number (add (const 1) too_large) (at_too_large 5 4)
    ∷ in_number (add too_large (on 0 0)) (at_too_large 4 3)
    ∷ in_number (add (on 0 0) too_large) (stop 2 no_call 3)
    ∷ in_number (if_zero too_large (const 1) (const 2)) (at_too_large 4 3)
    ∷ in_number (if_zero (const 0) too_large (const 2)) (at_too_large 5 4)
    ∷ in_number (if_zero (const 1) (const 2) too_large) (at_too_large 5 5)
    ∷ in_number (if_zero (const 1) too_large (const 2)) (value 3 (number 2))
    ∷ in_number (let_in too_large (const 1)) (at_too_large 4 3)
    ∷ in_number (let_in (const 2147483647) (add (var 0) (const 1))) (at_too_large 5 4)
    ∷ row (program_of (treed (leaf_of too_large) ∷ [])) 1 two_leaves (at_too_large 4 3)
    ∷ row (program_of (treed (node_of (leaf_of too_large) (leaf_of (const 1))) ∷ [])) 1 two_leaves (at_too_large 5 4)
    ∷ row (program_of (treed (node_of (leaf_of (const 1)) (leaf_of too_large)) ∷ [])) 1 two_leaves (at_too_large 7 6)
    ∷ row (program_of (numbered (case_of 0 (add (var 0) (const 1)) (const 1)) ∷ [])) 1 (leaf 2147483647) (at_too_large 4 3)
    ∷ in_number (case_of 0 (const 1) too_large) (at_too_large 4 4)
    ∷ row (with_two (on_two 0 too_large (const 2)) (const 9)) 1 two_leaves (at_too_large 4 4)
    ∷ row (with_two (on_two 0 (const 1) too_large) (const 9)) 1 two_leaves (at_too_large 5 5)
    ∷ row (with_two (on_two 0 (const 2147483647) (const 1)) (add (var 0) (var 1))) 2 two_leaves (at_too_large 6 6)
    ∷ row (with_two (on_two 0 (const 2147483647) (const 1)) (add (var 0) (var 1))) 1 two_leaves (stop 3 no_call 3)
    ∷ []

cases : List Row
cases = worked ++ (each_kind ++ (each_stop ++ each_break))

as_reported : map evaluated cases ≡ map (λ r. r.reports) cases
unfolding evaluation called evaluate evaluate_args followed_by result_number result_tree number_or tree_or at_level signed32 unbounded word_for result_of computed nth first_record sum_of_counts signature_of size prefix prefixes numbered treed program_of on with_two on_two grow swap again sum too_large two_leaves reported_from row evaluated worked in_number of_number of_tree each_kind each_stop at_too_large each_break cases
as_reported = refl

-- Grow on T with fuel for 14 expressions, and for 13; Call 0 on 0 with fuel for 1,024, and for
-- 1,023; Sum of 2147483647 and 1 with fuel for 8, and for 7. When both numbers stand, no fuel is
-- looked at.
fuelled :
    map (reported_from 0)
    (with_fuel 14 (evaluation grow most_calls two_leaves)
    ∷ with_fuel 13 (evaluation grow most_calls two_leaves)
    ∷ with_fuel 1024 (evaluation again most_calls two_leaves)
    ∷ with_fuel 1023 (evaluation again most_calls two_leaves)
    ∷ with_fuel 0 (evaluation grow most_calls two_leaves)
    ∷ with_fuel 8 (evaluation sum most_calls (node (leaf 2147483647) (leaf 1)))
    ∷ with_fuel 7 (evaluation sum most_calls (node (leaf 2147483647) (leaf 1)))
    ∷ [])
    ≡ value 14 (tree (node (leaf 6) (leaf 8)))
    ∷ stop 13 no_fuel 0
    ∷ stop 1024 no_call 2
    ∷ stop 1023 no_fuel 0
    ∷ stop 0 no_fuel 0
    ∷ at_too_large 8 4
    ∷ stop 7 no_fuel 0
    ∷ []
unfolding with_fuel evaluation called evaluate evaluate_args followed_by result_number result_tree number_or tree_or at_level signed32 unbounded word_for result_of computed nth first_record sum_of_counts signature_of size prefix prefixes numbered program_of on grow again sum at_too_large two_leaves reported_from
fuelled = refl

-- ---- derivations by hand

-- A number and two trees are named.
named : Environment
named = record { numbers = 6 ∷ []; trees = leaf 8 ∷ (leaf 7 ∷ []) }

-- One for each kind, in an environment where number 0 is 6, tree 0 a leaf 7 and tree 1 a leaf 8. A
-- Call opens one call more.
const_derived : Takes sum named (const 7) 1 1 (number 7)
const_derived = Const

var_derived : Takes sum named (var 0) 1 1 (number 6)
unfolding at_level named
var_derived = Var refl

add_derived : Takes sum named (add (const 4294967295) (const 5)) 1 3 (number 4)
unfolding signed32 unbounded word_for result_of
add_derived = Compute Const Const refl

zero_derived : Takes sum named (if_zero (const 0) (const 1) (const 2)) 1 3 (number 1)
unfolding picked
zero_derived = IfZero Const Const

other_derived : Takes sum named (if_zero (const 9) (const 1) (const 2)) 1 3 (number 2)
unfolding picked
other_derived = IfZero Const Const

let_derived : Takes sum named (let_in (const 3) (var 1)) 1 3 (number 3)
unfolding at_level named
let_derived = Let Const (Var refl)

leaf_derived : Takes sum named (leaf_of (const 3)) 1 2 (tree (leaf 3))
leaf_derived = Leaf Const

node_derived : Takes sum named (node_of (leaf_of (const 3)) (leaf_of (const 4))) 1 5 (tree (node (leaf 3) (leaf 4)))
node_derived = Node (Leaf Const) (Leaf Const)

case_derived : Takes sum named (case_of 1 (var 1) (const 9)) 1 2 (number 8)
unfolding at_level named branch in_branch
case_derived = Case refl (Var refl)

right_derived : Takes sum (record { numbers = []; trees = two_leaves ∷ [] }) (case_of 0 (const 9) (case_of 2 (var 0) (const 9))) 1 3 (number 7)
unfolding at_level two_leaves branch in_branch
right_derived = Case refl (Case refl (Var refl))

call_derived : Takes sum named (on 0 1) 2 3 (number 8)
unfolding at_level nth named sum numbered program_of on branch in_branch
call_derived = Call no_more refl refl (Case refl (Var refl))

-- With no call open not even a number's name is taken. So Sum's body on a leaf needs one call open,
-- and a Call of Sum needs two.
var_needs_one : {program : Program} {E : Environment} {a n : ℕ} {v : Value} → Takes program E (var a) 0 n v → ⊥
var_needs_one d = elim d [ ]

leaf_needs_one : (n : ℕ) (v : Value) → Takes sum (in_call [] (leaf 8)) (case_of 0 (var 0) (add (on 0 1) (on 0 2))) 0 n v → ⊥
unfolding at_level branch in_branch
leaf_needs_one n v (Case {n = m} is_tree d) =
    var_needs_one
    (subst
    (λ t. Takes sum (in_branch t (in_call [] (leaf 8))) (branch t (var 0) (add (on 0 1) (on 0 2))) 0 m v)
    (sym (some-injective (leaf 8) _ is_tree))
    d)

call_needs_two : (n : ℕ) (v : Value) → Takes sum named (on 0 1) 1 n v → ⊥
unfolding at_level nth named sum numbered program_of on
call_needs_two n v (Call {m = m} {t = t} {f = f} no_more is_tree known d) =
    let Body : Tree → Expr → Type 0 = λ t e. Takes sum (in_call [] t) e 0 m v in
    let on_leaf : Body (leaf 8) f.body = subst (λ t. Body t f.body) (sym (some-injective (leaf 8) t is_tree)) d in
    leaf_needs_one m v (subst (λ f. Body (leaf 8) f.body) (sym (some-injective _ f known)) on_leaf)

-- function 1 takes a number and gives it
picks : Program
picks = program_of (numbered (const 9) ∷ taking (var 0) ∷ [])

argument_derived : Takes picks named (with_one 1 0 (var 0)) 2 3 (number 6)
unfolding at_level nth named picks numbered taking program_of with_one
argument_derived = Call (one_more (Var refl) no_more) refl refl (Var refl)

-- The units of each: the table's column "units", summed over the expressions begun.
units_summed :
    (units_in const_derived
    ∷ units_in var_derived
    ∷ units_in add_derived
    ∷ units_in zero_derived
    ∷ units_in other_derived
    ∷ units_in let_derived
    ∷ units_in leaf_derived
    ∷ units_in node_derived
    ∷ units_in case_derived
    ∷ units_in right_derived
    ∷ units_in call_derived
    ∷ units_in argument_derived
    ∷ [])
    ≡ 1 ∷ 1 ∷ 3 ∷ 4 ∷ 3 ∷ 3 ∷ 3 ∷ 7 ∷ 5 ∷ 6 ∷ 7 ∷ 4 ∷ []
unfolding counted if_zero_units case_units const_derived var_derived add_derived zero_derived other_derived let_derived leaf_derived node_derived case_derived right_derived call_derived argument_derived
units_summed = refl

-- ---- stops by hand

-- The sum out of range, with one call open.
broken : {program : Program} {E : Environment} {r : ℕ} → StopsIn program E r too_large 1 3 (no_result plus 2147483647 1) r
unfolding signed32 unbounded word_for result_of too_large
broken = out-of-range Const Const refl

-- An expression at record 2 breaks there after n expressions, at record x.
abbrev Broken : Expr → (n x : ℕ) → Type 0
Broken e n x = StopsIn sum named 2 e 1 n (no_result plus 2147483647 1) x

-- One for each part of each kind.
first_broken : Broken (add too_large (const 9)) 4 3
first_broken = in_first broken

second_broken : Broken (add (const 9) too_large) 5 4
unfolding size prefix
second_broken = in_second Const broken

test_broken : Broken (if_zero too_large (const 1) (const 2)) 4 3
test_broken = in_test broken

zero_broken : Broken (if_zero (const 0) too_large (const 2)) 5 4
unfolding picked picked_record size prefix
zero_broken = in_picked Const broken

other_broken : Broken (if_zero (const 9) (const 1) too_large) 5 5
unfolding picked picked_record size prefix
other_broken = in_picked Const broken

named_broken : Broken (let_in too_large (const 1)) 4 3
named_broken = in_named broken

body_broken : Broken (let_in (const 9) too_large) 5 4
unfolding size prefix
body_broken = in_body Const broken

label_broken : Broken (leaf_of too_large) 4 3
label_broken = in_label broken

left_broken : Broken (node_of (leaf_of too_large) (leaf_of (const 4))) 5 4
left_broken = in_left (in_label broken)

right_broken : Broken (node_of (leaf_of (const 3)) (leaf_of too_large)) 7 6
unfolding size prefix
right_broken = in_right (Leaf Const) (in_label broken)

leaf_broken : Broken (case_of 1 too_large (const 9)) 4 3
unfolding at_level named branch branch_record in_branch
leaf_broken = in-branch refl broken

node_broken : StopsIn sum (in_call [] two_leaves) 2 (case_of 0 (const 9) too_large) 1 4 (no_result plus 2147483647 1) 4
unfolding at_level two_leaves branch branch_record in_branch size prefix
node_broken = in-branch refl broken

argument_broken : Broken (on_two 0 too_large (const 9)) 4 3
unfolding on_two
argument_broken = in_arguments (in_this broken)

later_broken : Broken (on_two 0 (const 9) too_large) 5 4
unfolding on_two size prefix
later_broken = in_arguments (in_later Const (in_this broken))

-- A Call where no more may be open: it is one too many after its arguments.
call_too_many : StopsIn sum named 2 (on_two 0 (const 9) (const 8)) 1 3 no_call 2
unfolding on_two
call_too_many = too_many (one_more Const (one_more Const no_more))

-- In the body that a Call opens, function 1's: its record is 5.
breaking : Program
breaking = program_of (numbered (with_one 1 0 (const 9)) ∷ taking too_large ∷ [])

call_broken : StopsIn breaking named 3 (with_one 1 0 (const 9)) 2 5 (no_result plus 2147483647 1) 5
unfolding at_level nth first_record sum_of_counts signature_of size prefix prefixes named breaking numbered taking program_of with_one
call_broken = in-call (one_more Const no_more) refl refl broken

-- The units until then: those of the parts taken, and the instructions before the part that stops.
units-until :
    (units_until (broken {program = sum} {E = named} {r = 2})
    ∷ units_until first_broken
    ∷ units_until second_broken
    ∷ units_until test_broken
    ∷ units_until zero_broken
    ∷ units_until other_broken
    ∷ units_until named_broken
    ∷ units_until body_broken
    ∷ units_until label_broken
    ∷ units_until left_broken
    ∷ units_until right_broken
    ∷ units_until leaf_broken
    ∷ units_until node_broken
    ∷ units_until argument_broken
    ∷ units_until later_broken
    ∷ units_until call_too_many
    ∷ units_until call_broken
    ∷ [])
    ≡ 2 ∷ 2 ∷ 3 ∷ 2 ∷ 4 ∷ 4 ∷ 2 ∷ 3 ∷ 3 ∷ 4 ∷ 7 ∷ 4 ∷ 3 ∷ 2 ∷ 3 ∷ 2 ∷ 4 ∷ []
unfolding units_until branch_units counted broken first_broken second_broken test_broken zero_broken other_broken named_broken body_broken label_broken left_broken right_broken leaf_broken node_broken argument_broken later_broken call_too_many call_broken
units-until = refl

-- The bytes written until then: the tags begun, and the left part of a Node whole.
bytes-until :
    (bytes_until first_broken ∷ bytes_until label_broken ∷ bytes_until left_broken ∷ bytes_until right_broken ∷ bytes_until call_broken ∷ [])
    ≡ [] ∷ (1 ∷ []) ∷ (2 ∷ 1 ∷ []) ∷ (2 ∷ 1 ∷ 3 ∷ 0 ∷ 0 ∷ 0 ∷ 1 ∷ []) ∷ [] ∷ []
unfolding bytes_until tokens bytes_of broken first_broken label_broken left_broken right_broken call_broken
bytes-until = refl
