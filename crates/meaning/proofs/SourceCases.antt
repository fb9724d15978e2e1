-- Closed cases of the source run, proved by computation. Each row of a table is a call and what it
-- gives.
use Prim.Native.Nat.{ℕ}
use mathlib.Core.List.{List, [], ◌∷◌, ◌++◌, map}
use mathlib.Core.Path.{◌≡◌, refl}
use lib.ListN.{take, replicate}
use Rattle.formats.specs.Numbers.{bytes_of, number_of, number_at, signed32}
use Rattle.formats.specs.Arithmetic.{unbounded, word_for, result_of}
use Rattle.formats.specs.Results.{done, refusal, each}
use Rattle.formats.specs.Written.{written}
use Rattle.formats.specs.Measures.{Measures, measures_of, first_measures, no_measures, measures_or0}
use Rattle.formats.specs.Tokens.{Tree, leaf, node, tips, depth, tokens, tag_of, tag_at, label_at, branches_at, tree_by_tag, tree_at, first_tree}
use Rattle.formats.specs.Records.{bytes_of_record, flat, record_at, fields_of, kinds, nth, kind_of, same_fields, function_below, node_record}
use Rattle.formats.specs.Programs.{const, prefix, prefixes, size, sort_number, signature_record, arity_of, sum_of_counts, signature_of, Program, nodes, header_record, header_of, records_of, flat_of, most_parameters}
use Rattle.formats.specs.Rows.{header_from, header_row, sorts, function_from, function_at, function_row, node_at, node_row, pop_args, build, exprs_of, exactly_one, bodies, prefix_row, read_program}
use Rattle.formats.specs.Blocks.{word_sum, check_word, block_body, block_of, blocks_from, blocks_for, file_of, length_row, zeros, used_fits, fields_fit, used_of, block_at, block_row, concatenated, flat_in, program_in}
use Rattle.formats.proofs.ProgramCases.{grow}
use Rattle.rules.specs.Types.{is_int, is_output_tree, has_type, result_type}
use Rattle.rules.specs.Scopes.{inside, start_of, entered, entered_args, entered_all}
use Rattle.rules.specs.PassOne.{name_bound, type_fits, bare_number, words_tested, has_room, at_entry, pass_over, pass_one}
use Rattle.rules.proofs.Cases.{numbered, treed, program_of, on, swap}
use Rattle.meaning.specs.Levels.{at_level}
use Rattle.meaning.specs.Running.{value_words, return_words}
use Rattle.meaning.specs.Evaluation.{result_bytes, result_number}
use Rattle.meaning.specs.OpenCalls.{refusal_of, followed_by, number_or, tree_or, result_tree, computed, evaluate, evaluate_args, first_record, called, evaluation, with_fuel}
use Rattle.meaning.specs.SourceRun.{SourceRan, reported, position_of, report_from, check_source, source_run, unless_refused, passed_on}
use Rattle.meaning.proofs.MeaningCases.{two_leaves, again, sum}

-- A tree whose deepest leaves come first, and its measures.
three_leaves : Tree
three_leaves = node (node (leaf 1) (leaf 2)) (leaf 3)

three_tips : Measures
three_tips = record { bytes = 17; tips = 3; depth = 2 }

record Row : Type 0 where
  file : List ℕ
  input : List ℕ
  fuel : ℕ
  space : ℕ
  values : ℕ
  returns : ℕ
  gives : SourceRan

-- An output of so many bytes, all 255.
blank : ℕ → List ℕ
blank n = replicate n 255

ran : Row → SourceRan
ran r = source_run r.file r.input (blank r.space) r.fuel r.values r.returns

-- The answer of a call that ended, and of one that was refused.
ended_with : (begun bytes number : ℕ) (output : List ℕ) → SourceRan
ended_with begun bytes number output =
    record { answer = record { outcome = done tt; begun = begun; bytes_written = bytes; number = number }; output = output }

refused-with : (why position begun : ℕ) (output : List ℕ) → SourceRan
refused-with why position begun output =
    record { answer = record { outcome = refusal why position; begun = begun; bytes_written = 0; number = 0 }; output = output }

-- A program's file on a tree's tokens, with the work space of 01, Work words.
row : Program → Tree → (fuel space : ℕ) → SourceRan → Row
row program t fuel space gives =
    record { file = file_of (flat_of program); input = tokens t; fuel = fuel; space = space; values = value_words; returns = return_words; gives = gives }

-- 01, Worked programs: "Source run: fuel 14 ends, 13 gives 14." "Its source run on T gives labels
-- 7, 5." "Call 0 on 0 ..; fuel 1,023 gives 14, 1,024 gives 18." A refusal leaves the output.
worked : List Row
worked =
    row grow two_leaves 14 12 (ended_with 14 11 0 (2 ∷ 1 ∷ 6 ∷ 0 ∷ 0 ∷ 0 ∷ 1 ∷ 8 ∷ 0 ∷ 0 ∷ 0 ∷ 255 ∷ []))
    ∷ row grow two_leaves 13 12 (refused-with 14 0 13 (blank 12))
    ∷ row grow two_leaves 14 11 (ended_with 14 11 0 (2 ∷ 1 ∷ 6 ∷ 0 ∷ 0 ∷ 0 ∷ 1 ∷ 8 ∷ 0 ∷ 0 ∷ 0 ∷ []))
    ∷ row grow two_leaves 14 10 (refused-with 17 0 14 (blank 10))
    ∷ row swap two_leaves 10 11 (ended_with 10 11 0 (2 ∷ 1 ∷ 7 ∷ 0 ∷ 0 ∷ 0 ∷ 1 ∷ 5 ∷ 0 ∷ 0 ∷ 0 ∷ []))
    ∷ row again two_leaves 1023 2 (refused-with 14 0 1023 (blank 2))
    ∷ row again two_leaves 1024 2 (refused-with 18 0 1024 (blank 2))
    ∷ []

-- N3: "The Sum case of document 01 becomes this refusal"; "21, sum out of range, at the Add record
-- in the source run", record 4 of Sum and record 4 of Grow, "tested when both numbers stand": with
-- fuel for the expressions begun it is 21, with less 14. Nothing is written, though Grow's left
-- leaf was found. At both ends of the range Sum gives its number.
broken : List Row
broken =
    row sum (node (leaf 2147483647) (leaf 1)) 20 3 (refused-with 21 4 8 (blank 3))
    ∷ row sum (node (leaf 2147483647) (leaf 1)) 8 3 (refused-with 21 4 8 (blank 3))
    ∷ row sum (node (leaf 2147483647) (leaf 1)) 7 3 (refused-with 14 0 7 (blank 3))
    ∷ row sum (node (leaf 2147483648) (leaf 4294967295)) 8 3 (refused-with 21 4 8 (blank 3))
    ∷ row sum (node (leaf 2147483647) (leaf 0)) 8 3 (ended_with 8 0 2147483647 (blank 3))
    ∷ row sum (node (leaf 2147483648) (leaf 0)) 8 3 (ended_with 8 0 2147483648 (blank 3))
    ∷ row sum (node (leaf 2147483647) (leaf 4294967295)) 8 3 (ended_with 8 0 2147483646 (blank 3))
    ∷ row grow (node (leaf 5) (leaf 2147483647)) 14 12 (refused-with 21 4 14 (blank 12))
    ∷ row grow (node (leaf 5) (leaf 2147483647)) 14 0 (refused-with 21 4 14 [])
    ∷ []

-- A tree-valued program that gives a number, which pass one refuses.
wrong : Program
wrong = program_of (treed (const 1) ∷ [])

-- A call on these bytes with an output of two bytes, so many value words and return words.
bare : (file input : List ℕ) (fuel values returns : ℕ) → SourceRan → Row
bare file input fuel values returns gives =
    record { file = file; input = input; fuel = fuel; space = 2; values = values; returns = returns; gives = gives }

-- The refusals in their order: each row has all the faults of those below it. A file too short by a
-- byte; pass one; too few value words, too few return words; a byte that is no tag; no fuel; and
-- then too short an output.
first_refusal : List Row
first_refusal =
    bare (take 511 (file_of (flat_of wrong))) (3 ∷ []) 0 16383 2047 (refused-with 1 0 0 (blank 2))
    ∷ bare (file_of (flat_of wrong)) (3 ∷ []) 0 16383 2047 (refused-with 8 2 0 (blank 2))
    ∷ bare (file_of (flat_of grow)) (3 ∷ []) 0 16383 2047 (refused-with 13 0 0 (blank 2))
    ∷ bare (file_of (flat_of grow)) (3 ∷ []) 0 16384 2047 (refused-with 13 0 0 (blank 2))
    ∷ bare (file_of (flat_of grow)) (3 ∷ []) 0 16384 2048 (refused-with 16 0 0 (blank 2))
    ∷ bare (file_of (flat_of grow)) (tokens two_leaves) 0 16384 2048 (refused-with 14 0 0 (blank 2))
    ∷ bare (file_of (flat_of grow)) (tokens two_leaves) 14 16384 2048 (refused-with 17 0 14 (blank 2))
    ∷ []

-- With enough value words but too few return words, and the other way.
work_space : List Row
work_space =
    bare (file_of (flat_of sum)) (tokens two_leaves) 8 16383 2048 (refused-with 13 0 0 (blank 2))
    ∷ bare (file_of (flat_of sum)) (tokens two_leaves) 8 16384 2047 (refused-with 13 0 0 (blank 2))
    ∷ bare (file_of (flat_of sum)) (tokens two_leaves) 8 16384 2048 (ended_with 8 0 12 (blank 2))
    ∷ []

-- N5: calls on a tree of three tips and depth 2. They end, without and with bytes after the tree;
-- or they are refused with 14, 17, 18, 21, 16, 13.
on_three : List Row
on_three =
    row grow three_leaves 23 17 (ended_with 23 17 0 (tokens (node (node (leaf 2) (leaf 3)) (leaf 4))))
    ∷ bare (file_of (flat_of (program_of (numbered (const 9) ∷ [])))) (tokens three_leaves ++ tokens two_leaves) 1 16384 2048 (ended_with 1 0 9 (blank 2))
    ∷ row grow three_leaves 22 17 (refused-with 14 0 22 (blank 17))
    ∷ row grow three_leaves 23 16 (refused-with 17 0 23 (blank 16))
    ∷ row again three_leaves 1024 2 (refused-with 18 0 1024 (blank 2))
    ∷ row sum (node (node (leaf 2147483647) (leaf 1)) (leaf 2)) 20 3 (refused-with 21 4 11 (blank 3))
    ∷ bare (file_of (flat_of grow)) (2 ∷ tokens two_leaves ++ (3 ∷ [])) 23 16384 2048 (refused-with 16 12 0 (blank 2))
    ∷ bare (file_of (flat_of grow)) (tokens three_leaves) 23 16383 2048 (refused-with 13 0 0 (blank 2))
    ∷ []

cases : List Row
cases = worked ++ (broken ++ (first_refusal ++ (work_space ++ on_three)))

as_reported : map ran cases ≡ map (λ r. r.gives) cases
unfolding source_run check_source report_from position_of refusal_of reported with_fuel evaluation called evaluate evaluate_args followed_by result_number result_bytes result_tree number_or tree_or at_level signed32 unbounded word_for result_of computed first_record written tokens first_tree tree_at tree_by_tag branches_at label_at tag_at tag_of pass_one pass_over at_entry has_room words_tested bare_number type_fits name_bound entered_all entered entered_args inside start_of result_type is_int is_output_tree has_type program_in flat_in length_row block_row block_at used_of fields_fit used_fits zeros concatenated file_of blocks_for blocks_from block_of block_body check_word word_sum read_program header_row header_from function_row function_at function_from sorts most_parameters node_row node_at node_record kind_of kinds nth same_fields function_below fields_of each prefix_row bodies exactly_one exprs_of build pop_args arity_of sum_of_counts record_at flat bytes_of_record bytes_of number_at number_of flat_of records_of header_record header_of signature_record signature_of sort_number nodes size prefix prefixes grow swap again sum wrong numbered treed program_of on two_leaves blank ended_with refused-with ran row bare worked broken first_refusal work_space cases on_three three_leaves
as_reported = refl

-- what they pass on of their tree: nothing where they are refused
passed-on : map (λ r. passed_on (ran r).answer.outcome r.input) on_three
    ≡ three_tips ∷ three_tips ∷ no_measures ∷ no_measures ∷ no_measures ∷ no_measures ∷ no_measures ∷ no_measures ∷ []
unfolding source_run check_source report_from position_of refusal_of reported with_fuel evaluation called evaluate evaluate_args followed_by result_number result_bytes result_tree number_or tree_or at_level signed32 unbounded word_for result_of computed first_record written tokens first_tree tree_at tree_by_tag branches_at label_at tag_at tag_of pass_one pass_over at_entry has_room words_tested bare_number type_fits name_bound entered_all entered entered_args inside start_of result_type is_int is_output_tree has_type program_in flat_in length_row block_row block_at used_of fields_fit used_fits zeros concatenated file_of blocks_for blocks_from block_of block_body check_word word_sum read_program header_row header_from function_row function_at function_from sorts most_parameters node_row node_at node_record kind_of kinds nth same_fields function_below fields_of each prefix_row bodies exactly_one exprs_of build pop_args arity_of sum_of_counts record_at flat bytes_of_record bytes_of number_at number_of flat_of records_of header_record header_of signature_record signature_of sort_number nodes size prefix prefixes grow swap again sum wrong numbered treed program_of on two_leaves blank ended_with refused-with ran row bare worked broken first_refusal work_space cases unless_refused measures_or0 first_measures measures_of tips depth on_three three_leaves three_tips
passed-on = refl
