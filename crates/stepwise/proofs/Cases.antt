-- Closed cases of the rows of a program and of the steps over them, proved by computation.
use Prim.Native.Nat.{ℕ, zero, suc, ◌*◌, ◌≤◌, ◌<◌}
use mathlib.Core.List.{List, [], ◌∷◌, map}
use mathlib.Core.Path.{◌≡◌, refl}
use lib.Dec.{lit<}
use lib.ListN.{length}
use Rattle.formats.specs.Numbers.{Bytes, bytes_of, number_of, number_at, signed32}
use Rattle.formats.specs.Arithmetic.{plus, unbounded, word_for, result_of}
use Rattle.formats.specs.Results.{done}
use Rattle.formats.specs.Tokens.{tokens, tag_of, tag_at, label_at, branches_at, tree_by_tag, tree_at, first_tree}
use Rattle.formats.specs.Records.{nth}
use Rattle.formats.specs.Programs.{const, var, if_zero, let_in, call, no_args, arg, prefix, prefixes, size}
use Rattle.formats.specs.Inner.Expressions.{add}
use Rattle.formats.specs.Programs.{number_valued, arity_of, sum_of_counts, signature_of, Program, Every}
use Rattle.formats.specs.Inner.Limits.{most_records}
use Rattle.formats.proofs.ProgramCases.{grow, grow_lawful}
use Rattle.formats.proofs.Results.{then_inv}
use Rattle.rules.specs.PassOne.{pass_one}
use Rattle.rules.specs.PassTwo.{both_passes}
use Rattle.rules.proofs.Cases.{numbered, program_of, grow_passes}
use Rattle.meaning.specs.Levels.{at_level}
use Rattle.meaning.specs.Running.{value_words, return_words, most_calls}
use Rattle.meaning.specs.Evaluation.{result_bytes, result_number}
use Rattle.meaning.specs.OpenCalls.{gives, after_begun, followed_by, number_or, tree_or, result_tree, computed, evaluate, evaluate_args, first_record, called, evaluation}
use Rattle.meaning.specs.Meaning.{PassesOne}
use Rattle.meaning.proofs.MeaningCases.{two_leaves}
use Rattle.stepwise.specs.Inner.Rows.{calls_function, action_of, naming_code, second_of, role_of, slot_of, names_in, keeps_in, cases_in, operand_of, tree_of, more_of, rows_of, rows_of_args, after_args}
use Rattle.stepwise.specs.Inner.Rows.{rows_of_all, row_words, rows_in, tabled}
use Rattle.stepwise.specs.Inner.Steps.{begin, State, finished, deep, broken, beginning, computing, opening}
use Rattle.stepwise.specs.Inner.Outcomes.{reported, reported_of, Comes}
use Rattle.stepwise.proofs.Whole.{comes}

-- ---- rows

-- The rows of Grow, one a line: action, operand, tree, more; role, parent, slot, the record after.
-- The Case is record 2, Leaf 3, Add 4, Node 7.
grow_rows : rows_in grow
    ≡ 4 ∷ 0 ∷ 0 ∷ 0 ∷ 0 ∷ 0 ∷ 0 ∷ 10
    ∷ 2 ∷ 0 ∷ 0 ∷ 0 ∷ 4 ∷ 2 ∷ 0 ∷ 7
    ∷ 2 ∷ 0 ∷ 0 ∷ 0 ∷ 5 ∷ 3 ∷ 0 ∷ 7
    ∷ 1 ∷ 0 ∷ 0 ∷ 0 ∷ 1 ∷ 4 ∷ 15 ∷ 6
    ∷ 0 ∷ 1 ∷ 0 ∷ 0 ∷ 2 ∷ 4 ∷ 15 ∷ 7
    ∷ 3 ∷ 0 ∷ 0 ∷ 0 ∷ 4 ∷ 2 ∷ 0 ∷ 10
    ∷ 5 ∷ 2 ∷ 5 ∷ 0 ∷ 6 ∷ 7 ∷ 0 ∷ 9
    ∷ 5 ∷ 2 ∷ 6 ∷ 0 ∷ 4 ∷ 7 ∷ 0 ∷ 10
    ∷ []
unfolding grow rows_of_all rows_of action_of naming_code second_of role_of slot_of names_in keeps_in cases_in operand_of tree_of more_of first_record arity_of nth sum_of_counts signature_of size prefix
grow_rows = refl

-- A Call of two arguments, with one number kept: the first argument's word is below that of the
-- kept number. A Let over two parameters, with an IfZero in its body.
pair : Program
pair = program_of
    (numbered (add (const 70000) (call 0 1 (arg (const 3) (arg (const 4) no_args))))
    ∷ record { sort = number_valued; parameters = 2; body = let_in (add (var 0) (var 1)) (if_zero (var 2) (var 0) (var 1)) } ∷ [])

pair_rows : rows_in pair
    ≡ 2 ∷ 0 ∷ 0 ∷ 0 ∷ 0 ∷ 0 ∷ 0 ∷ 8
    ∷ 0 ∷ 4464 ∷ 0 ∷ 1 ∷ 1 ∷ 3 ∷ 15 ∷ 5
    ∷ 5 ∷ 8 ∷ 0 ∷ 2 ∷ 2 ∷ 3 ∷ 15 ∷ 8
    ∷ 0 ∷ 3 ∷ 0 ∷ 0 ∷ 1 ∷ 5 ∷ 14 ∷ 7
    ∷ 0 ∷ 4 ∷ 0 ∷ 0 ∷ 7 ∷ 5 ∷ 13 ∷ 8
    ∷ 2 ∷ 0 ∷ 0 ∷ 0 ∷ 0 ∷ 0 ∷ 0 ∷ 16
    ∷ 2 ∷ 0 ∷ 0 ∷ 0 ∷ 1 ∷ 8 ∷ 2 ∷ 12
    ∷ 1 ∷ 0 ∷ 0 ∷ 0 ∷ 1 ∷ 9 ∷ 15 ∷ 11
    ∷ 1 ∷ 1 ∷ 0 ∷ 0 ∷ 2 ∷ 9 ∷ 15 ∷ 12
    ∷ 2 ∷ 0 ∷ 0 ∷ 0 ∷ 4 ∷ 8 ∷ 2 ∷ 16
    ∷ 1 ∷ 2 ∷ 0 ∷ 0 ∷ 3 ∷ 12 ∷ 0 ∷ 14
    ∷ 1 ∷ 0 ∷ 0 ∷ 0 ∷ 4 ∷ 12 ∷ 0 ∷ 15
    ∷ 1 ∷ 1 ∷ 0 ∷ 0 ∷ 4 ∷ 12 ∷ 0 ∷ 16
    ∷ []
unfolding pair program_of numbered rows_of_all rows_of rows_of_args after_args action_of naming_code second_of role_of slot_of names_in keeps_in cases_in operand_of tree_of more_of first_record arity_of nth sum_of_counts signature_of size prefix prefixes
pair_rows = refl

-- the codes of the trees named inside two Cases, at records 2 and 5: the frame's tree, the left and
-- the right tree of the first Case, then those of the second
codes : map (naming_code (2 ∷ 5 ∷ [])) (0 ∷ 1 ∷ 2 ∷ 3 ∷ 4 ∷ []) ≡ 0 ∷ 5 ∷ 6 ∷ 11 ∷ 12 ∷ []
unfolding naming_code
codes = refl

-- ---- the steps

-- Trees with the leaves 5 and 7, and 6 and 8.
five_seven : List ℕ
five_seven = 2 ∷ 1 ∷ 5 ∷ 0 ∷ 0 ∷ 0 ∷ 1 ∷ 7 ∷ 0 ∷ 0 ∷ 0 ∷ []

six_eight : List ℕ
six_eight = 2 ∷ 1 ∷ 6 ∷ 0 ∷ 0 ∷ 0 ∷ 1 ∷ 8 ∷ 0 ∷ 0 ∷ 0 ∷ []

-- a list of numbers below 256 is a list of bytes
each_byte : (s : List ℕ) → Every (λ x. x < 256) s → Bytes s
each_byte [] h i = lit< tt
each_byte (x ∷ s) h zero = h.0
each_byte (x ∷ s) h (suc i) = each_byte s h.1 i

-- the first is the tree that Grow is run on
five_seven_read : first_tree five_seven ≡ done two_leaves
unfolding five_seven two_leaves first_tree tree_at tree_by_tag branches_at label_at tag_at tag_of number_at number_of tokens bytes_of
five_seven_read = refl

-- Grow passes pass one
grow_one : PassesOne grow
unfolding both_passes
grow_one = record { lawful = grow_lawful; passes = (then_inv (pass_one grow) _ tt grow_passes).first }

-- its evaluation begins 14 expressions, and the result is the second tree
grow_reported : followed_by (evaluation grow most_calls two_leaves) reported_of ≡ after_begun 14 (gives (reported 0 six_eight))
unfolding evaluation called evaluate evaluate_args followed_by after_begun result_number result_tree result_bytes number_or tree_or at_level computed result_of word_for unbounded signed32 nth first_record sum_of_counts signature_of size prefix prefixes grow two_leaves tokens bytes_of six_eight
grow_reported = refl

-- the steps come to the same, whatever the words and return words hold
grow_steps : (table words returns : List ℕ)
    → row_words * most_records ≤ length table
    → value_words ≤ length words
    → return_words ≤ length returns
    → Comes (tabled table grow) five_seven [] (begin 2 (record { words = words; returns = returns; calls = 0; tree = 0; known = 0; end = 0 }))
    (after_begun 14 (gives (reported 0 six_eight)))
unfolding grow five_seven
grow_steps table words returns room values returns_lent =
    rw grow_reported at
    (comes grow five_seven table words returns two_leaves grow_one
    (each_byte five_seven (lit< tt, (lit< tt, (lit< tt, (lit< tt, (lit< tt, (lit< tt, (lit< tt, (lit< tt, (lit< tt, (lit< tt, (lit< tt, tt))))))))))))
    five_seven_read room values returns_lent)

-- ---- one step

-- A Call of one argument at record 1, its frame the last that may be open.
last_frame : State
last_frame = record { words = []; returns = []; calls = 1023; tree = 0; known = 0; end = 0 }

-- its argument begins all the same
deep_arguments : beginning (0 ∷ 0 ∷ 0 ∷ 0 ∷ 0 ∷ 0 ∷ 0 ∷ 0 ∷ calls_function ∷ 5 ∷ 0 ∷ 1 ∷ []) [] 0 1 last_frame ≡ begin 2 last_frame
unfolding beginning last_frame
deep_arguments = refl

-- and then the call is one too many
deep_call : opening (0 ∷ 0 ∷ 0 ∷ 0 ∷ 0 ∷ 0 ∷ 0 ∷ 0 ∷ calls_function ∷ 5 ∷ 0 ∷ 1 ∷ []) 0 1 last_frame ≡ deep 1
unfolding opening last_frame
deep_call = refl

-- the operation at record 4: a sum that fits, and one that does not
fitting_sum : computing plus 2147483647 4294967295 4 last_frame ≡ finished 4 2147483646 last_frame
unfolding computing result_of word_for unbounded signed32
fitting_sum = refl

broken_sum : computing plus 2147483647 1 4 last_frame ≡ broken plus 2147483647 1 4
unfolding computing result_of word_for unbounded signed32
broken_sum = refl
