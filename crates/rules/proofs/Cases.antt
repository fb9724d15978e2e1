-- Closed cases of pass one and pass two, proved by computation. Each row of a table is a program
-- and its outcome.
use Prim.Native.Nat.{ℕ, zero, suc}
use mathlib.Core.List.{List, [], ◌∷◌, ◌++◌, map}
use mathlib.Core.Logic.{inl, inr}
use mathlib.Core.Path.{◌≡◌, refl}
use lib.Dec.{lit<, lit≤}
use Rattle.formats.specs.Results.{Result, done, refusal}
use Rattle.formats.specs.Records.{Kind, Var, Leaf, Node, Case, Part, a_number, a_tree, as_whole, under_number, under_trees, nth, parts_of, nth_part}
use Rattle.formats.specs.Programs.{Expr, const, var, if_zero, let_in, leaf_of, node_of, case_of, call, no_args, arg, prefix, prefixes, size, number_valued, tree_valued, Signature, signature_of, Function, Program, signatures}
use Rattle.formats.specs.Inner.Expressions.{add}
use Rattle.formats.specs.Programs.{Lawful, arity_of, count_args, most_parameters, sum_of_counts}
use Rattle.formats.proofs.ProgramCases.{grow, grow_lawful}
use Rattle.rules.specs.Types.{Int, Tree⁺, result_type, arrows, function_type, is_int, is_output_tree, has_type}
use Rattle.rules.specs.Typing.{TypesName, Types, to_tree}
use Rattle.rules.specs.Scopes.{scope, start_of, inside, part_scope, entry, entered, entered_args, entered_all}
use Rattle.rules.specs.PassOne.{name_bound, type_fits, bare_number, words_tested, has_room, at_entry, pass_over, pass_one, words_with_value, words_of, words_of_args}
use Rattle.rules.specs.PassTwo.{take_head, same_names, equal_branches, walk, walk_args, none_left, walk_all, pass_two, both_passes}
use Rattle.rules.specs.FirstFault.{FirstFault}
use Rattle.rules.specs.OrderChecker.{Admitted, first_node, Untyped}
use Rattle.rules.proofs.OrderChecker.{order_checker}

-- ---- programs

unfoldable pub numbered : Expr → Function
numbered body = record { sort = number_valued; parameters = 0; body = body }

unfoldable pub treed : Expr → Function
treed body = record { sort = tree_valued; parameters = 0; body = body }

-- A function with one number parameter.
unfoldable pub taking : Expr → Function
taking body = record { sort = number_valued; parameters = 1; body = body }

unfoldable pub program_of : List Function → Program
program_of fs = record { edition = 1; functions = fs }

-- Function b on tree a, with no numbers; with one.
unfoldable pub on : ℕ → ℕ → Expr
on b a = call a b no_args

unfoldable pub with_one : ℕ → ℕ → Expr → Expr
with_one b a x = call a b (arg x no_args)

-- So many Lets around a body; so many Cases, each in the node part of the one before it, on the
-- tree at the head.
unfoldable pub lets : ℕ → Expr → Expr
lets zero body = body
lets (suc k) body = let_in (const 1) (lets k body)

cases : ℕ → ℕ → Expr
cases zero a = const 1
cases (suc k) zero = case_of zero (const 1) (cases k 1)
cases (suc k) (suc a) = case_of (suc a) (const 1) (cases k (suc (suc (suc a))))

-- Cases one inside the other, each on the left tree of the one around it, whose right tree waits.
left_cases : ℕ → ℕ → ℕ → Expr
left_cases zero n a = on 0 a
left_cases (suc k) n a = case_of a (const 1) (add (left_cases k (suc (suc n)) n) (on 0 (suc n)))

-- A program's functions, and what the order checker says of it.
record Row : Type 0 where
  functions : List Function
  verdict : Result (Unit {0})

says : Result (Unit {0}) → List Function → Row
says verdict functions = record { functions = functions; verdict = verdict }

-- ---- 01, Worked programs and 01, Traps. A single function's first node is record 2, two
-- functions' record 3.

worked : List Row
worked =
    -- Grow
    says (done tt) (treed (case_of 0 (leaf_of (add (var 0) (const 1))) (node_of (on 0 1) (on 0 2))) ∷ [])
    -- its parts swapped: the first Call is not on the head
    ∷ says (refusal 11 6) (treed (case_of 0 (leaf_of (var 0)) (node_of (on 0 2) (on 0 1))) ∷ [])
    -- a branch that leaves a tree, where the other has none to leave
    ∷ says (refusal 11 2) (numbered (case_of 0 (const 1) (on 0 1)) ∷ [])
    -- Call 0 on 0
    ∷ says (done tt) (numbered (on 0 0) ∷ [])
    -- Sum; 000, Figure 5, right part first
    ∷ says (done tt) (numbered (case_of 0 (var 0) (add (on 0 1) (on 0 2))) ∷ [])
    ∷ says (refusal 11 5) (numbered (case_of 0 (var 0) (add (on 0 2) (on 0 1))) ∷ [])
    -- a Call's tree is taken after its arguments: g on 1 as argument, then f on 2
    ∷ says (done tt) (numbered (case_of 0 (var 0) (with_one 1 2 (on 0 1))) ∷ taking (with_one 1 0 (const 1)) ∷ [])
    ∷ says (refusal 11 6) (numbered (case_of 0 (var 0) (with_one 1 1 (on 0 2))) ∷ taking (with_one 1 0 (const 1)) ∷ [])
    -- a fault in the second branch is reported before unequal lists
    ∷ says (refusal 11 6) (numbered (case_of 0 (const 1) (add (on 0 1) (on 0 1))) ∷ [])
    ∷ []

-- ---- pass two, condition by condition

pass-two : List Row
pass-two =
    -- both parts of IfZero begin with what its test left
    says (done tt) (numbered (case_of 0 (const 1) (if_zero (on 0 1) (on 0 2) (on 0 2))) ∷ [])
    -- unequal lists at IfZero, whichever part leaves the tree
    ∷ says (refusal 11 2) (numbered (if_zero (const 1) (on 0 0) (const 1)) ∷ [])
    ∷ says (refusal 11 2) (numbered (if_zero (const 1) (const 1) (on 0 0)) ∷ [])
    -- Let's body goes on with what its number left
    ∷ says (done tt) (numbered (case_of 0 (const 1) (let_in (on 0 1) (on 0 2))) ∷ [])
    -- a Case not on the head; with none pending
    ∷ says (refusal 11 4) (numbered (case_of 0 (const 1) (case_of 2 (const 1) (const 1))) ∷ [])
    ∷ says (refusal 11 4) (numbered (add (on 0 0) (case_of 0 (const 1) (const 1))) ∷ [])
    -- a tree left, in the second function
    ∷ says (refusal 11 4) (numbered (on 0 0) ∷ numbered (const 1) ∷ [])
    -- fifteen Cases deep, 15 pending at the last, whose parts leave unequal lists; sixteen deep, 16
    -- pending
    ∷ says (refusal 11 30) (numbered (cases 15 0) ∷ [])
    ∷ says (refusal 12 32) (numbered (cases 16 0) ∷ [])
    -- fifteen and sixteen deep, nothing else being wrong
    ∷ says (done tt) (numbered (left_cases 15 1 0) ∷ [])
    ∷ says (refusal 12 47) (numbered (left_cases 16 1 0) ∷ [])
    ∷ []

-- ---- pass one, condition by condition

pass-one : List Row
pass-one =
    -- names: a number name, a tree name, and 9 before 8
    says (refusal 9 2) (numbered (var 0) ∷ [])
    ∷ says (refusal 9 2) (numbered (on 0 1) ∷ [])
    ∷ says (refusal 9 2) (treed (var 0) ∷ [])
    -- Let's first part does not see its name; a leaf's label is a number name, a node's trees are
    -- tree names
    ∷ says (refusal 9 3) (numbered (let_in (var 0) (on 0 0)) ∷ [])
    ∷ says (refusal 9 3) (numbered (case_of 0 (on 0 1) (on 0 1)) ∷ [])
    -- types: a number, a leaf, a Call
    ∷ says (refusal 8 2) (treed (const 1) ∷ [])
    ∷ says (refusal 8 2) (numbered (leaf_of (const 1)) ∷ [])
    ∷ says (refusal 8 3) (treed (on 1 0) ∷ numbered (on 1 0) ∷ [])
    -- words: sixteen Lets around a Call that leaves none; a Const, a Case, a number-valued Call on
    -- the sixteenth
    ∷ says (done tt) (treed (lets 16 (on 0 0)) ∷ [])
    ∷ says (done tt) (numbered (lets 15 (on 0 0)) ∷ [])
    ∷ says (refusal 10 34) (numbered (lets 16 (const 1)) ∷ [])
    ∷ says (refusal 10 34) (treed (lets 16 (case_of 0 (on 0 0) (on 0 0))) ∷ [])
    ∷ says (refusal 10 34) (numbered (lets 16 (on 0 0)) ∷ [])
    -- pass one of the last function comes before pass two of the first
    ∷ says (refusal 9 4) (numbered (const 1) ∷ numbered (var 0) ∷ [])
    ∷ []

-- ---- the tables are right

verdicts : map (λ row. both_passes (program_of row.functions)) (worked ++ (pass-two ++ pass-one)) ≡ map (λ row. row.verdict) (worked ++ (pass-two ++ pass-one))
unfolding both_passes pass_one pass_over at_entry has_room words_tested bare_number type_fits name_bound entered_all entered entered_args inside start_of pass_two walk_all none_left walk walk_args equal_branches same_names take_head result_type is_int is_output_tree has_type size prefix prefixes nth signature_of numbered treed taking program_of on with_one lets cases left_cases says worked pass-two pass-one
verdicts = refl

-- ---- what a part is decides what is said of it

-- What is said on entering a record of this kind, record 3, as part 0 of another, of which a tree
-- is expected; tree 0 alone is named around it.
unfoldable pub as_part : Kind → Part → Result (Unit {0})
as_part kind p = at_entry [] (entry (part_scope p 0 (scope 0 1 0 Tree⁺)) 3 kind)

-- A Leaf may be Node's first part; it is refused where the part is a number. A number name is bound
-- in a part under one, tree name 2 in one under two more.
pub by_part : (as_part Leaf (nth_part (parts_of Node) 0) ≡ done tt)
    × (map (as_part Leaf) (a_number ∷ a_tree ∷ as_whole ∷ under_number ∷ under_trees ∷ []) ≡ refusal 8 3 ∷ done tt ∷ done tt ∷ done tt ∷ done tt ∷ [])
    × (map (as_part (Var 0)) (a_number ∷ a_tree ∷ as_whole ∷ under_number ∷ under_trees ∷ []) ≡ refusal 9 3 ∷ refusal 9 3 ∷ refusal 9 3 ∷ refusal 8 3 ∷ refusal 9 3 ∷ [])
    × (map (as_part (Case 2)) (a_number ∷ a_tree ∷ as_whole ∷ under_number ∷ under_trees ∷ []) ≡ refusal 9 3 ∷ refusal 9 3 ∷ refusal 9 3 ∷ refusal 9 3 ∷ done tt ∷ [])
unfolding as_part at_entry has_room words_tested type_fits name_bound part_scope nth_part parts_of nth is_int is_output_tree
by_part = (refl, refl, refl, refl)

-- ---- Figure 6 has neither of the two limits

one_number : List Signature
one_number = record { sort = number_valued; parameters = 0; count = 1 } ∷ []

call_typed : (g n a : ℕ) → Types one_number g n (a ∷ []) (on 0 a) Int
unfolding on one_number nth function_type arrows result_type
call_typed g n a = Types.T-App refl (to_tree TypesName.T-Var1)

-- however deep, each is typed with its own tree alone, though the table `pass-two` has the
-- sixteenth refused
left_typed : (k g n a : ℕ) → Types one_number g n (a ∷ []) (left_cases k n a) Int
unfolding left_cases
left_typed zero g n a = call_typed g n a
left_typed (suc k) g n a =
    Types.T-Case {Δ₂ = []} TypesName.T-Var1 Types.T-Int (Types.T-Plus {Δ₁ = n ∷ []} (left_typed k g (suc (suc n)) n) (call_typed g (suc (suc n)) (suc n)))

-- however many words its body takes, so is a function of Lets, though the table `pass-one` has the
-- Call in sixteen Lets refused
lets_typed : (k g n a : ℕ) → Types one_number g n (a ∷ []) (lets k (on 0 a)) Int
unfolding lets
lets_typed zero g n a = call_typed g n a
lets_typed (suc k) g n a = Types.Let-01 {Δ₁ = []} Types.T-Int (lets_typed k (suc g) n a)

-- ---- witnesses

-- Grow is within the limits and passes: what is proved of such programs is not empty.
pub grow_passes : both_passes grow ≡ done tt
unfolding both_passes pass_one pass_over at_entry has_room words_tested bare_number type_fits name_bound entered_all entered entered_args inside start_of pass_two walk_all none_left walk walk_args equal_branches same_names take_head result_type is_int is_output_tree has_type size prefix prefixes nth signature_of grow
grow_passes = refl

grow_admitted : Admitted grow
grow_admitted = (order_checker.passes grow grow_lawful).0 grow_passes

-- Its parts exchanged, it is within the limits and passes pass one; the first fault is the first
-- Call, 11 at record 6.
unfoldable pub swap : Program
swap = program_of (treed (case_of 0 (leaf_of (var 0)) (node_of (on 0 2) (on 0 1))) ∷ [])

pub swap_lawful : Lawful swap
unfolding swap program_of treed on sum_of_counts signature_of size prefix prefixes arity_of nth most_parameters count_args
swap_lawful = record {
  edition = refl;
  some_function = lit≤ tt;
  few_functions = lit≤ tt;
  few_nodes = lit≤ tt;
  functions = (
    record {
      few_parameters = lit≤ tt;
      in_range = (lit< tt, (tt, (lit< tt, (tt, ((lit< tt, lit< tt), ((lit< tt, lit< tt), tt))))));
      applied = (tt, ((refl, tt), (refl, tt)));
    },
    tt,
  );
}

pub swap_verdicts : (pass_one swap ≡ done tt) × (pass_two swap ≡ refusal 11 6)
unfolding pass_one pass_over at_entry has_room words_tested bare_number type_fits name_bound entered_all entered entered_args inside start_of pass_two walk_all none_left walk walk_args equal_branches same_names take_head result_type is_int is_output_tree has_type size prefix prefixes nth signature_of swap program_of treed on
swap_verdicts = (refl, refl)

swap_fault : FirstFault (signatures swap) (first_node swap) swap.functions 11 6
swap_fault = (order_checker.pass-two swap 11 6 swap_lawful swap_verdicts.0).0 swap_verdicts.1

-- A number name that is not bound, and a number where a tree is expected: 9 and 8, and the function
-- has no derivation.
unfoldable pub unbound : Program
unbound = program_of (numbered (var 0) ∷ [])

unfoldable pub mistyped : Program
mistyped = program_of (treed (const 1) ∷ [])

one_verdicts : (pass_one unbound ≡ refusal 9 2) × (pass_one mistyped ≡ refusal 8 2)
unfolding pass_one pass_over at_entry type_fits name_bound entered_all entered start_of result_type is_int is_output_tree signature_of unbound mistyped program_of numbered treed
one_verdicts = (refl, refl)

unbound_untyped : Untyped (signatures unbound) 2 (first_node unbound) unbound.functions
unbound_untyped = order_checker.pass_one_untyped_there unbound 9 2 one_verdicts.0 (inl refl)

mistyped_untyped : Untyped (signatures mistyped) 2 (first_node mistyped) mistyped.functions
mistyped_untyped = order_checker.pass_one_untyped_there mistyped 8 2 one_verdicts.1 (inr refl)

-- ---- words

-- the most words: a temporary below a Let, a leaf's label, arguments one above the other
words-of : map (words_of (map signature_of (numbered (const 1) ∷ treed (on 1 0) ∷ taking (const 1) ∷ [])) 3) (
    const 1 ∷ add (const 1) (let_in (const 1) (var 0)) ∷ case_of 0 (on 1 0) (on 1 0) ∷ on 0 0 ∷ on 1 0 ∷ with_one 2 0 (add (const 1) (const 1)) ∷ [])
    ≡ 4 ∷ 6 ∷ 4 ∷ 4 ∷ 3 ∷ 5 ∷ []
unfolding words_of words_of_args words_with_value nth signature_of size prefix prefixes numbered treed taking on with_one
words-of = refl
