-- Closed cases of a program's code and of its runs, proved by computation. Each row of a table is a
-- program and its listing, or a call and what it gives.
use Prim.Native.Nat.{ℕ}
use mathlib.Core.List.{List, [], ◌∷◌, map}
use mathlib.Core.Path.{◌≡◌, refl}
use lib.IntN.{pos, negsuc}
use lib.ListN.{replicate}
use Rattle.formats.specs.Numbers.{bytes_of, number_of, number_at, signed32}
use Rattle.formats.specs.Arithmetic.{unbounded, word_for, result_of}
use Rattle.formats.specs.Results.{done}
use Rattle.formats.specs.Tokens.{Tree, leaf, node, tokens, tag_of, tag_at}
use Rattle.formats.specs.Records.{bytes_of_record, flat, record_at, nth}
use Rattle.formats.specs.Programs.{Expr, const, var, if_zero, let_in, leaf_of, node_of, case_of, prefix, prefixes, size, count_args, signature_of}
use Rattle.formats.specs.Inner.Expressions.{add}
use Rattle.formats.specs.Programs.{number_valued, tree_valued, Function, Program}
use Rattle.formats.specs.Written.{written}
use Rattle.formats.specs.Characters.{ascii}
use Rattle.formats.specs.Decimal.{digits, decimal}
use Rattle.formats.proofs.ProgramCases.{grow}
use Rattle.rules.specs.Types.{is_int, is_output_tree, has_type, result_type}
use Rattle.rules.specs.Scopes.{inside, start_of, entered, entered_args, entered_all}
use Rattle.rules.specs.PassOne.{name_bound, type_fits, bare_number, words_tested, has_room, at_entry, pass_over, pass_one}
use Rattle.rules.specs.PassTwo.{take_head, same_names, equal_branches, walk, walk_args, none_left, walk_all, pass_two, both_passes}
use Rattle.rules.proofs.Cases.{numbered, treed, program_of, on, with_one}
use Rattle.meaning.specs.Levels.{at_level}
use Rattle.meaning.specs.Instructions.{Operation, Push, Get, Add, Ifnot, Jump, Slide, Drop, LeafTag, NodeTag, WriteNumber, ReadTag, ReadNumber, Call, Return}
use Rattle.meaning.specs.Instructions.{held_by, operations, operation_of, instruction_of}
use Rattle.meaning.specs.Performing.{words_below, words_standing, calls_open, pop_one, pop_two, if_room, push_word, push_result, write}
use Rattle.meaning.specs.Performing.{on_tag, take_number, open_call, kept, number_kept, leave, operate, perform, step}
use Rattle.meaning.specs.Running.{Ran, run, outcome_of, number_reported, stream_run, value_words, return_words}
use Rattle.meaning.specs.Evaluation.{tree, branch, in_branch, Const as Literal, Var as Named, Compute as Plus, Leaf as LeafOf, Case as CaseOn, Ends, case_units, counted}
use Rattle.meaning.proofs.Cases.{blank, ended_with, refused-with}
use Rattle.meaning.proofs.MeaningCases.{again, sum, two_leaves, on_two}
use Rattle.translation.specs.EveryRun.{evaluation_units}
use Rattle.translation.specs.Listing.{listing_line, listed}
use Rattle.translation.specs.ListingText.{field, signed_field, line_text, lines_text, code_word, text}
use Rattle.translation.specs.Templates.{code_end, args_end, word_of, first_words, end_of, code, code_args, words_kept}
use Rattle.translation.specs.Templates.{function_code, function_end, entry_from, functions_code, entry_of, operations_of, code_of}

-- ---- programs

-- A leaf gives the number e, its label being number 0; a node gives the sum over its two trees.
summing : Expr → Program
summing e = program_of (numbered (case_of 0 e (add (on 0 1) (on 0 2))) ∷ [])

-- A leaf gives the tree e; a node gives a node.
growing : Expr → Program
growing e = program_of (treed (case_of 0 e (node_of (on 0 1) (on 0 2))) ∷ [])

-- IfZero where a number is expected, and where a tree is.
zero_counted : Program
zero_counted = summing (if_zero (var 0) (const 1) (const 2))

zero_marked : Program
zero_marked = growing (if_zero (var 0) (leaf_of (const 1)) (node_of (leaf_of (const 2)) (leaf_of (const 3))))

-- Let where a number is expected, and where a tree is.
let_number : Program
let_number = summing (let_in (const 7) (add (var 0) (var 1)))

let_tree : Program
let_tree = growing (let_in (const 7) (leaf_of (var 1)))

-- Names above a temporary: number 0, Let's, stands on word 1; number 1, the label, on word 2.
under_temporary : Program
under_temporary = program_of (numbered (add (const 1) (let_in (const 2) (case_of 0 (add (var 0) (var 1)) (add (on 0 1) (on 0 2))))) ∷ [])

-- Function 0 calls function 1 with two numbers; the Let in the second stands above the word of the
-- first. Function 2 is Sum.
three_functions : Program
three_functions =
    program_of
    (numbered (on_two 0 (const 5) (let_in (const 3) (var 0)))
    ∷ record { sort = number_valued; parameters = 2; body = if_zero (var 0) (on 2 0) (add (var 1) (on 2 0)) }
    ∷ numbered (case_of 0 (var 0) (add (on 2 1) (on 2 2)))
    ∷ [])

-- Names bound by a Let in each part that begins with words of its own count: both parts of an
-- IfZero, Leaf's, Node's, Case's node part (two Lets), and the body of a function with a number.
names_in_parts : Program
names_in_parts =
    program_of
    (treed
    (case_of 0
    (if_zero (var 0)
    (leaf_of (let_in (const 7) (var 1)))
    (node_of (let_in (const 8) (leaf_of (var 1))) (let_in (const 9) (leaf_of (var 1)))))
    (let_in (const 5) (let_in (const 6) (node_of (with_one 1 1 (var 1)) (on 0 2)))))
    ∷ record {
      sort = tree_valued;
      parameters = 1;
      body = let_in (const 4) (case_of 0 (leaf_of (add (var 1) (var 2))) (node_of (with_one 1 1 (var 0)) (with_one 1 2 (var 1))));
    }
    ∷ [])

-- What an optimiser would leave out: a test of a constant, a Let of a name, a function that is
-- written twice, one that is never called.
doubled : Function
doubled = numbered (case_of 0 (let_in (var 0) (add (var 0) (var 1))) (add (on 1 1) (on 2 2)))

as_written : Program
as_written = program_of (numbered (if_zero (const 0) (on 1 0) (on 2 0)) ∷ doubled ∷ doubled ∷ numbered (on 3 0) ∷ [])

-- ---- listings

-- A program and its instructions, in order.
record Listing : Type 0 where
  of : Program
  lines : List Operation

lists : Program → List Operation → Listing
lists of lines = record { of = of; lines = lines }

-- 01, Worked programs: Grow's listing; and those of the programs above.
listings : List Listing
listings =
    lists grow
    (ReadTag 9 ∷ ReadNumber ∷ LeafTag ∷ Get 0 ∷ Push 1 ∷ Add ∷ WriteNumber ∷ Drop ∷ Jump 12 ∷ NodeTag ∷ Call 0 0 ∷ Call 0 0 ∷ Return 0 ∷ [])
    ∷ lists sum (ReadTag 5 ∷ ReadNumber ∷ Get 0 ∷ Slide ∷ Jump 8 ∷ Call 0 0 ∷ Call 0 0 ∷ Add ∷ Return 1 ∷ [])
    ∷ lists zero_counted
    (ReadTag 9 ∷ ReadNumber ∷ Get 0 ∷ Ifnot 6 ∷ Push 1 ∷ Jump 7 ∷ Push 2 ∷ Slide ∷ Jump 12 ∷ Call 0 0 ∷ Call 0 0 ∷ Add ∷ Return 1 ∷ [])
    ∷ lists zero_marked
    (ReadTag 17 ∷ ReadNumber ∷ Get 0 ∷ Ifnot 8 ∷ LeafTag ∷ Push 1 ∷ WriteNumber ∷ Jump 15
    ∷ NodeTag ∷ LeafTag ∷ Push 2 ∷ WriteNumber ∷ LeafTag ∷ Push 3 ∷ WriteNumber ∷ Drop ∷ Jump 20 ∷ NodeTag ∷ Call 0 0 ∷ Call 0 0 ∷ Return 0 ∷ [])
    ∷ lists let_number
    (ReadTag 9 ∷ ReadNumber ∷ Push 7 ∷ Get 0 ∷ Get 1 ∷ Add ∷ Slide ∷ Slide ∷ Jump 12 ∷ Call 0 0 ∷ Call 0 0 ∷ Add ∷ Return 1 ∷ [])
    ∷ lists let_tree
    (ReadTag 9 ∷ ReadNumber ∷ Push 7 ∷ LeafTag ∷ Get 1 ∷ WriteNumber ∷ Drop ∷ Drop ∷ Jump 12 ∷ NodeTag ∷ Call 0 0 ∷ Call 0 0 ∷ Return 0 ∷ [])
    ∷ lists under_temporary
    (Push 1 ∷ Push 2 ∷ ReadTag 9 ∷ ReadNumber ∷ Get 1 ∷ Get 2 ∷ Add ∷ Slide ∷ Jump 12 ∷ Call 0 0 ∷ Call 0 0 ∷ Add ∷ Slide ∷ Add ∷ Return 1 ∷ [])
    ∷ lists three_functions
    (Push 5 ∷ Push 3 ∷ Get 1 ∷ Slide ∷ Call 6 2 ∷ Return 1
    ∷ Get 0 ∷ Ifnot 10 ∷ Call 14 0 ∷ Jump 13 ∷ Get 1 ∷ Call 14 0 ∷ Add ∷ Return 1
    ∷ ReadTag 19 ∷ ReadNumber ∷ Get 0 ∷ Slide ∷ Jump 22 ∷ Call 14 0 ∷ Call 14 0 ∷ Add ∷ Return 1 ∷ [])
    ∷ lists again (Call 0 0 ∷ Return 1 ∷ [])
    ∷ lists names_in_parts
    (ReadTag 23 ∷ ReadNumber ∷ Get 0 ∷ Ifnot 10 ∷ LeafTag ∷ Push 7 ∷ Get 1 ∷ Slide ∷ WriteNumber ∷ Jump 21
    ∷ NodeTag ∷ Push 8 ∷ LeafTag ∷ Get 1 ∷ WriteNumber ∷ Drop ∷ Push 9 ∷ LeafTag ∷ Get 1 ∷ WriteNumber ∷ Drop ∷ Drop ∷ Jump 31
    ∷ Push 5 ∷ Push 6 ∷ NodeTag ∷ Get 1 ∷ Call 32 1 ∷ Call 0 0 ∷ Drop ∷ Drop ∷ Return 0
    ∷ Push 4 ∷ ReadTag 42 ∷ ReadNumber ∷ LeafTag ∷ Get 1 ∷ Get 2 ∷ Add ∷ WriteNumber ∷ Drop ∷ Jump 47
    ∷ NodeTag ∷ Get 0 ∷ Call 32 1 ∷ Get 1 ∷ Call 32 1 ∷ Drop ∷ Return 0 ∷ [])
    ∷ lists as_written
    (Push 0 ∷ Ifnot 4 ∷ Call 6 0 ∷ Jump 5 ∷ Call 19 0 ∷ Return 1
    ∷ ReadTag 15 ∷ ReadNumber ∷ Get 0 ∷ Get 0 ∷ Get 1 ∷ Add ∷ Slide ∷ Slide ∷ Jump 18 ∷ Call 6 0 ∷ Call 19 0 ∷ Add ∷ Return 1
    ∷ ReadTag 28 ∷ ReadNumber ∷ Get 0 ∷ Get 0 ∷ Get 1 ∷ Add ∷ Slide ∷ Slide ∷ Jump 31 ∷ Call 6 0 ∷ Call 19 0 ∷ Add ∷ Return 1
    ∷ Call 32 0 ∷ Return 1 ∷ [])
    ∷ []

as_listed : map (λ l. operations_of l.of) listings ≡ map (λ l. l.lines) listings
unfolding operations_of entry_of functions_code entry_from function_end function_code words_kept code code_args end_of first_words word_of code_end args_end at_level count_args grow sum again numbered treed program_of on on_two summing growing zero_counted zero_marked let_number let_tree under_temporary three_functions names_in_parts doubled as_written with_one lists listings
as_listed = refl

-- both passes accept these programs
all_pass : map (λ l. both_passes l.of) listings ≡ replicate 11 (done tt)
unfolding both_passes pass_one pass_over at_entry has_room words_tested bare_number type_fits name_bound entered_all entered entered_args inside start_of pass_two walk_all none_left walk walk_args equal_branches same_names take_head result_type is_int is_output_tree has_type size prefix prefixes nth signature_of grow sum again numbered treed program_of on on_two summing growing zero_counted zero_marked let_number let_tree under_temporary three_functions names_in_parts doubled as_written with_one lists listings
all_pass = refl

-- Grow's code: 8 bytes for each instruction.
grow_bytes :
    code_of grow
    ≡ 10 ∷ 0 ∷ 9 ∷ 0 ∷ 0 ∷ 0 ∷ 0 ∷ 0
    ∷ 11 ∷ 0 ∷ 0 ∷ 0 ∷ 0 ∷ 0 ∷ 0 ∷ 0
    ∷ 7 ∷ 0 ∷ 0 ∷ 0 ∷ 0 ∷ 0 ∷ 0 ∷ 0
    ∷ 1 ∷ 0 ∷ 0 ∷ 0 ∷ 0 ∷ 0 ∷ 0 ∷ 0
    ∷ 0 ∷ 0 ∷ 0 ∷ 0 ∷ 1 ∷ 0 ∷ 0 ∷ 0
    ∷ 2 ∷ 0 ∷ 0 ∷ 0 ∷ 0 ∷ 0 ∷ 0 ∷ 0
    ∷ 9 ∷ 0 ∷ 0 ∷ 0 ∷ 0 ∷ 0 ∷ 0 ∷ 0
    ∷ 6 ∷ 0 ∷ 0 ∷ 0 ∷ 0 ∷ 0 ∷ 0 ∷ 0
    ∷ 4 ∷ 0 ∷ 12 ∷ 0 ∷ 0 ∷ 0 ∷ 0 ∷ 0
    ∷ 8 ∷ 0 ∷ 0 ∷ 0 ∷ 0 ∷ 0 ∷ 0 ∷ 0
    ∷ 12 ∷ 0 ∷ 0 ∷ 0 ∷ 0 ∷ 0 ∷ 0 ∷ 0
    ∷ 12 ∷ 0 ∷ 0 ∷ 0 ∷ 0 ∷ 0 ∷ 0 ∷ 0
    ∷ 13 ∷ 0 ∷ 0 ∷ 0 ∷ 0 ∷ 0 ∷ 0 ∷ 0
    ∷ []
unfolding code_of operations_of entry_of functions_code entry_from function_end function_code words_kept code code_args end_of first_words word_of code_end args_end at_level count_args instruction_of flat bytes_of_record bytes_of grow
grow_bytes = refl

-- ---- runs

-- A call on a tree's tokens, with the work space of 01, Work words.
record Row : Type 0 where
  runs : Program
  on : Tree
  fuel : ℕ
  space : ℕ
  gives : Ran

row : Program → Tree → (fuel space : ℕ) → Ran → Row
row runs on fuel space gives = record { runs = runs; on = on; fuel = fuel; space = space; gives = gives }

ran_on : Row → Ran
ran_on r = stream_run (code_of r.runs) (tokens r.on) (blank r.space) r.fuel value_words return_words

-- The same programs; both parts of IfZero and of Case are taken, where a number is expected and
-- where a tree is. Where a run ends, it has just enough fuel.
runs : List Row
runs =
    row grow two_leaves 25 12 (ended_with 25 11 0 (2 ∷ 1 ∷ 6 ∷ 0 ∷ 0 ∷ 0 ∷ 1 ∷ 8 ∷ 0 ∷ 0 ∷ 0 ∷ []) (blank 1))
    ∷ row grow two_leaves 24 12 (refused-with 14 24 11 (2 ∷ 1 ∷ 6 ∷ 0 ∷ 0 ∷ 0 ∷ 1 ∷ 8 ∷ 0 ∷ 0 ∷ 0 ∷ []) (blank 1))
    ∷ row grow two_leaves 25 10 (refused-with 17 20 11 (2 ∷ 1 ∷ 6 ∷ 0 ∷ 0 ∷ 0 ∷ 1 ∷ []) (blank 3))
    ∷ row grow (leaf 5) 10 6 (ended_with 10 5 0 (1 ∷ 6 ∷ 0 ∷ 0 ∷ 0 ∷ []) (blank 1))
    ∷ row sum (node (leaf 2147483646) (leaf 1)) 17 2 (ended_with 17 11 2147483647 [] (blank 2))
    ∷ row sum (node (leaf 2147483647) (leaf 1)) 16 2 (refused-with 21 15 11 [] (blank 2))
    ∷ row sum (node (leaf 2147483647) (leaf 1)) 15 2 (refused-with 14 15 11 [] (blank 2))
    ∷ row grow (node (leaf 5) (leaf 2147483647)) 20 12 (refused-with 21 19 11 (2 ∷ 1 ∷ 6 ∷ 0 ∷ 0 ∷ 0 ∷ 1 ∷ []) (blank 5))
    ∷ row grow (node (leaf 5) (leaf 2147483647)) 20 6 (refused-with 17 16 11 (2 ∷ 1 ∷ 6 ∷ 0 ∷ 0 ∷ 0 ∷ []) [])
    ∷ row zero_counted (leaf 0) 9 2 (ended_with 9 5 1 [] (blank 2))
    ∷ row zero_counted (leaf 9) 8 2 (ended_with 8 5 2 [] (blank 2))
    ∷ row zero_marked (leaf 0) 11 12 (ended_with 11 5 0 (1 ∷ 1 ∷ 0 ∷ 0 ∷ 0 ∷ []) (blank 7))
    ∷ row zero_marked (leaf 9) 14 12 (ended_with 14 5 0 (2 ∷ 1 ∷ 2 ∷ 0 ∷ 0 ∷ 0 ∷ 1 ∷ 3 ∷ 0 ∷ 0 ∷ 0 ∷ []) (blank 1))
    ∷ row let_number (leaf 9) 10 2 (ended_with 10 5 16 [] (blank 2))
    ∷ row let_tree (leaf 9) 10 6 (ended_with 10 5 0 (1 ∷ 7 ∷ 0 ∷ 0 ∷ 0 ∷ []) (blank 1))
    ∷ row under_temporary (leaf 9) 12 2 (ended_with 12 5 12 [] (blank 2))
    ∷ row under_temporary two_leaves 33 2 (ended_with 33 11 19 [] (blank 2))
    ∷ row three_functions (leaf 9) 18 2 (ended_with 18 5 12 [] (blank 2))
    ∷ row three_functions two_leaves 29 2 (ended_with 29 11 15 [] (blank 2))
    ∷ row names_in_parts (leaf 0) 13 6 (ended_with 13 5 0 (1 ∷ 7 ∷ 0 ∷ 0 ∷ 0 ∷ []) (blank 1))
    ∷ row names_in_parts two_leaves 40 18
    (ended_with 40 11 0 (2 ∷ 1 ∷ 9 ∷ 0 ∷ 0 ∷ 0 ∷ 2 ∷ 1 ∷ 8 ∷ 0 ∷ 0 ∷ 0 ∷ 1 ∷ 9 ∷ 0 ∷ 0 ∷ 0 ∷ []) (blank 1))
    ∷ row as_written two_leaves 30 2 (ended_with 30 11 24 [] (blank 2))
    ∷ row again two_leaves 1023 2 (refused-with 14 1023 0 [] (blank 2))
    ∷ row again two_leaves 1024 2 (refused-with 18 1023 0 [] (blank 2))
    ∷ []

as_reported : map ran_on runs ≡ map (λ r. r.gives) runs
unfolding stream_run run step perform operate held_by operation_of operations instruction_of nth record_at flat bytes_of_record bytes_of number_of number_at result_of unbounded word_for signed32 tag_at tag_of written words_standing words_below calls_open at_level pop_one pop_two if_room push_word push_result write on_tag take_number open_call kept number_kept leave outcome_of number_reported blank ended_with refused-with tokens two_leaves code_of operations_of entry_of functions_code entry_from function_end function_code words_kept code code_args end_of first_words word_of code_end args_end count_args grow sum again numbered treed program_of on on_two summing growing zero_counted zero_marked let_number let_tree under_temporary three_functions names_in_parts doubled as_written with_one row ran_on runs
as_reported = refl

-- ---- units

-- Grow on a leaf 5, by hand: Case, Leaf, Add, Var and Const. Its units are those of the run, in the
-- table above.
grow_on_leaf : Ends grow (leaf 5) 1 5 (tree (leaf 6))
unfolding grow nth at_level branch in_branch result_of unbounded word_for signed32
grow_on_leaf = record { first = _; is_first = refl; takes = CaseOn refl (LeafOf (Plus (Named refl) Literal refl)) }

grow_units : evaluation_units grow_on_leaf ≡ 10
unfolding counted case_units grow_on_leaf
grow_units = refl

-- ---- a listing as text

-- A sign, a number of 10 digits, and an address and a byte with the most digits.
long_lines :
    text (listed 2 (listing_line 0 10 0 4127 (pos 0) ∷ listing_line 1 0 255 0 (negsuc 2147483647) ∷ []))
    ≡ ascii "code 2\n0 10 0 4127 0\n1 0 255 0 -2147483648\n"
unfolding text lines_text line_text signed_field field code_word decimal digits ascii
long_lines = refl
