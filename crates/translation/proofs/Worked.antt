-- 01, Worked programs: the sentences marked P, and Sum, as one table, proved by one computation
-- over the definitions. A row begins with a program's records: the writer's definition makes a file
-- of them, and a call is made on that file. A second table has calls on other bytes, and buffers
-- that are too short or just long enough.
use Prim.Native.Nat.{ℕ}
use Prim.Native.String.{String}
use mathlib.Core.List.{List, [], ◌∷◌, ◌++◌, map}
use mathlib.Core.Path.{◌≡◌, refl}
use lib.ListN.{length, take, replicate}
use Rattle.formats.specs.Numbers.{bytes_of, number_of, number_at, signed32}
use Rattle.formats.specs.Arithmetic.{unbounded, word_for, result_of}
use Rattle.formats.specs.Results.{Result, done, refusal, on_value, each}
use Rattle.formats.specs.Written.{written}
use Rattle.formats.specs.Characters.{newline, ascii}
use Rattle.formats.specs.Decimal.{digits, decimal}
use Rattle.formats.specs.Tokens.{tokens, tag_of, tag_at, label_at, branches_at, tree_by_tag as read_tag, tree_at, first_tree}
use Rattle.formats.specs.Records.{Record, bytes_of_record, flat, record_at, Kind, Const, Var, Add, Leaf, Node, Case, Call as CallOf, fields_of, kinds, nth, kind_of, same_fields, function_below, node_record}
use Rattle.formats.specs.Programs.{prefix, prefixes, size, count_args, Sort, number_valued, tree_valued, sort_number, signature_record, arity_of, sum_of_counts, signature_of, header_record, most_parameters}
use Rattle.formats.specs.Rows.{header_from, header_row, sorts, function_from, function_at, function_row, node_at, node_row, pop_args, build, exprs_of, exactly_one, bodies, prefix_row, read_program}
use Rattle.formats.specs.Blocks.{word_sum, check_word, block_body, block_of, blocks_from, blocks_for, file_of, length_row, zeros, used_fits, fields_fit, used_of, block_at, block_row, concatenated, flat_in, program_in, write_file, in_room, buffer_after}
use Rattle.rules.specs.Types.{is_int, is_output_tree, has_type, result_type}
use Rattle.rules.specs.Scopes.{inside, start_of, entered, entered_args, entered_all}
use Rattle.rules.specs.PassOne.{name_bound, type_fits, bare_number, words_tested, has_room, at_entry, pass_over, pass_one}
use Rattle.rules.specs.PassTwo.{take_head, same_names, equal_branches as joined_lists, walk, walk_args, none_left, walk_all, pass_two, both_passes}
use Rattle.meaning.specs.Levels.{at_level}
use Rattle.meaning.specs.Instructions.{held_by, operations, operation_of, instruction_of}
use Rattle.meaning.specs.Performing.{words_below, words_standing, calls_open, pop_one, pop_two, if_room, push_word, push_result, write}
use Rattle.meaning.specs.Performing.{on_tag, take_number, open_call, kept, number_kept, leave, operate, perform, step}
use Rattle.meaning.specs.Running.{run, outcome_of, number_reported, stream_run, value_words, return_words}
use Rattle.meaning.specs.Evaluation.{result_bytes, result_number}
use Rattle.meaning.specs.OpenCalls.{followed_by, number_or, tree_or, result_tree, refusal_of, computed, evaluate, evaluate_args, first_record, called, evaluation, with_fuel}
use Rattle.meaning.specs.SourceRun.{SourceRan, reported, position_of, report_from, check_source, source_run}
use Rattle.translation.specs.Templates.{code_end, args_end, word_of, first_words, end_of, code, code_args, words_kept}
use Rattle.translation.specs.Templates.{function_code, function_end, entry_from, functions_code, entry_of, operations_of, code_of}
use Rattle.translation.specs.TranslateAndRun.{checked_records, translate_records, translate_file, prepared, FileRan, run_file}
use Rattle.translation.specs.Listing.{line_of, lines_from, instructions_in, listing_of, listing}
use Rattle.translation.specs.ListingText.{field, signed_field, line_text, lines_text, code_word, refused_word, text}

-- ---- programs, in the words of 01, Worked programs

-- Function b on tree a.
infix 70 Call◌on◌
Call◌on◌ : ℕ → ℕ → Kind
Call b on a = CallOf a b

-- The records of a program of one function, with its result and its nodes: the header, the function
-- record, the nodes.
one_function : Sort → List Kind → List Record
one_function sort ks =
    header_record (record { edition = 1; functions = 1; nodes = length ks })
    ∷ signature_record (record { sort = sort; parameters = 0; count = length ks })
    ∷ map fields_of ks

-- 01, Worked programs: "Grow: Case 0, Leaf, Add, Var 0, Const 1, Node, Call 0 on 1, Call 0 on 2."
grow : List Record
grow = one_function tree_valued (Case 0 ∷ Leaf ∷ Add ∷ Var 0 ∷ Const 1 ∷ Node ∷ Call 0 on 1 ∷ Call 0 on 2 ∷ [])

-- 01, Worked programs: "Case 0, Leaf, Var 0, Node, Call 0 on 2, Call 0 on 1".
swapped : List Record
swapped = one_function tree_valued (Case 0 ∷ Leaf ∷ Var 0 ∷ Node ∷ Call 0 on 2 ∷ Call 0 on 1 ∷ [])

-- 01, Worked programs: "Case 0, Const 1, Call 0 on 1 (number)".
tree_left : List Record
tree_left = one_function number_valued (Case 0 ∷ Const 1 ∷ Call 0 on 1 ∷ [])

-- 01, Worked programs: "Sum (Case 0, Var 0, Add, Call 0 on 1, Call 0 on 2)". It gives a number.
sum : List Record
sum = one_function number_valued (Case 0 ∷ Var 0 ∷ Add ∷ Call 0 on 1 ∷ Call 0 on 2 ∷ [])

-- The tokens of a node of leaves 2147483647 and 1.
large : List ℕ
large = 2 ∷ 1 ∷ 255 ∷ 255 ∷ 255 ∷ 127 ∷ 1 ∷ 1 ∷ 0 ∷ 0 ∷ 0 ∷ []

-- 01, Worked programs: "Call 0 on 0". Its result is a number or a tree: both pass.
again : Sort → List Record
again sort = one_function sort (Call 0 on 0 ∷ [])

-- 01, Worked programs: "Tree T: 02 01 05 00 00 00 01 07 00 00 00."
T : List ℕ
T = 2 ∷ 1 ∷ 5 ∷ 0 ∷ 0 ∷ 0 ∷ 1 ∷ 7 ∷ 0 ∷ 0 ∷ 0 ∷ []

-- ---- calls

-- What is asked of a file: its listing as it is printed; its code, in a code buffer; its run on an
-- input, with an output, a code buffer, fuel, value words and return words; its source run.
data Asked : Type 0 where
  list : Asked
  translate : (code : List ℕ) → Asked
  run_on : (input output code : List ℕ) (fuel values returns : ℕ) → Asked
  source_on : (input output : List ℕ) (fuel : ℕ) → Asked

-- What is given, whole: every byte of the listing; the code or the refusal, and the code buffer;
-- the answer, the output and the code buffer; the answer and the output.
data Gives : Type 0 where
  a_listing : List ℕ → Gives
  a_code : Result (List ℕ) → List ℕ → Gives
  a_run : FileRan → Gives
  a_source_run : SourceRan → Gives

-- What a file gives. The source run is lent the work space of 01, Work words.
asked_of : List ℕ → Asked → Gives
asked_of file list = a_listing (text (listing file))
asked_of file (translate code) = a_code (translate_file (length code) file) (buffer_after code (translate_file (length code) file))
asked_of file (run_on input output code fuel values returns) = a_run (run_file file input output code fuel values returns)
asked_of file (source_on input output fuel) = a_source_run (source_run file input output fuel value_words return_words)

-- Lines as bytes, each ended by a newline.
printed : List String → List ℕ
printed [] = []
printed (l ∷ ls) = ascii l ++ (newline ∷ printed ls)

-- A buffer of so many bytes, all 9.
nines : ℕ → List ℕ
nines n = replicate n 9

-- All that a run answers: outcome (a refusal with its number and position), units, bytes read,
-- bytes written, number. Then every byte of the output and of the code buffer.
answers : Result (Unit {0}) → (units read wrote number : ℕ) (output code : List ℕ) → Gives
answers outcome units read wrote number output code =
    a_run
    (record {
      answer = record { outcome = outcome; units = units; bytes_read = read; bytes_written = wrote; number = number };
      output = output;
      code = code;
    })

-- All that a source run answers: outcome, expressions begun, bytes written, number. Then every byte
-- of the output.
source_answers : Result (Unit {0}) → (begun wrote number : ℕ) (output : List ℕ) → Gives
source_answers outcome begun wrote number output =
    a_source_run (record { answer = record { outcome = outcome; begun = begun; bytes_written = wrote; number = number }; output = output })

-- ---- the worked programs

-- Records, what is asked of their file, and what it must give.
record Row : Type 0 where
  records : List Record
  asked : Asked
  due : Gives

-- What is given: the writer makes the file, or refuses the records.
given : Row → Result Gives
given r = on_value (λ file. asked_of file r.asked) (write_file (flat r.records))

-- The listing, printed in these lines.
lists : List Record → List String → Row
lists records ls = record { records = records; asked = list; due = a_listing (printed ls) }

-- A run on an input, with so much fuel, so many bytes of output and of code buffer, and the work
-- space of 01, Work words.
runs : List Record → (input : List ℕ) (fuel space if_room : ℕ) → Gives → Row
runs records input fuel space if_room due =
    record { records = records; asked = run_on input (nines space) (nines if_room) fuel value_words return_words; due = due }

-- A source run on an input, with so much fuel and so many bytes of output.
source_runs : List Record → (input : List ℕ) (fuel space : ℕ) → Gives → Row
source_runs records input fuel space due = record { records = records; asked = source_on input (nines space) fuel; due = due }

-- Grow's code at the start of a buffer, and so many bytes after it.
grow_code : ℕ → List ℕ
grow_code rest =
    10 ∷ 0 ∷ 9 ∷ 0 ∷ 0 ∷ 0 ∷ 0 ∷ 0
    ∷ 11 ∷ 0 ∷ 0 ∷ 0 ∷ 0 ∷ 0 ∷ 0 ∷ 0
    ∷ 7 ∷ 0 ∷ 0 ∷ 0 ∷ 0 ∷ 0 ∷ 0 ∷ 0
    ∷ 1 ∷ 0 ∷ 0 ∷ 0 ∷ 0 ∷ 0 ∷ 0 ∷ 0
    ∷ 0 ∷ 0 ∷ 0 ∷ 0 ∷ 1 ∷ 0 ∷ 0 ∷ 0
    ∷ 2 ∷ 0 ∷ 0 ∷ 0 ∷ 0 ∷ 0 ∷ 0 ∷ 0
    ∷ 9 ∷ 0 ∷ 0 ∷ 0 ∷ 0 ∷ 0 ∷ 0 ∷ 0
    ∷ 6 ∷ 0 ∷ 0 ∷ 0 ∷ 0 ∷ 0 ∷ 0 ∷ 0
    ∷ 4 ∷ 0 ∷ 12 ∷ 0 ∷ 0 ∷ 0 ∷ 0 ∷ 0
    ∷ 8 ∷ 0 ∷ 0 ∷ 0 ∷ 0 ∷ 0 ∷ 0 ∷ 0
    ∷ 12 ∷ 0 ∷ 0 ∷ 0 ∷ 0 ∷ 0 ∷ 0 ∷ 0
    ∷ 12 ∷ 0 ∷ 0 ∷ 0 ∷ 0 ∷ 0 ∷ 0 ∷ 0
    ∷ 13 ∷ 0 ∷ 0 ∷ 0 ∷ 0 ∷ 0 ∷ 0 ∷ 0
    ∷ nines rest

-- The code of Call 0 on 0, where its result is a number, and so many bytes after it.
again_code : ℕ → List ℕ
again_code rest =
    12 ∷ 0 ∷ 0 ∷ 0 ∷ 0 ∷ 0 ∷ 0 ∷ 0
    ∷ 13 ∷ 1 ∷ 0 ∷ 0 ∷ 0 ∷ 0 ∷ 0 ∷ 0
    ∷ nines rest

-- Sum's code.
sum_code : List ℕ
sum_code =
    10 ∷ 0 ∷ 5 ∷ 0 ∷ 0 ∷ 0 ∷ 0 ∷ 0
    ∷ 11 ∷ 0 ∷ 0 ∷ 0 ∷ 0 ∷ 0 ∷ 0 ∷ 0
    ∷ 1 ∷ 0 ∷ 0 ∷ 0 ∷ 0 ∷ 0 ∷ 0 ∷ 0
    ∷ 5 ∷ 0 ∷ 0 ∷ 0 ∷ 0 ∷ 0 ∷ 0 ∷ 0
    ∷ 4 ∷ 0 ∷ 8 ∷ 0 ∷ 0 ∷ 0 ∷ 0 ∷ 0
    ∷ 12 ∷ 0 ∷ 0 ∷ 0 ∷ 0 ∷ 0 ∷ 0 ∷ 0
    ∷ 12 ∷ 0 ∷ 0 ∷ 0 ∷ 0 ∷ 0 ∷ 0 ∷ 0
    ∷ 2 ∷ 0 ∷ 0 ∷ 0 ∷ 0 ∷ 0 ∷ 0 ∷ 0
    ∷ 13 ∷ 1 ∷ 0 ∷ 0 ∷ 0 ∷ 0 ∷ 0 ∷ 0
    ∷ []

-- Each sentence marked P, in the order of 01, Worked programs, and the source runs that stand on
-- the same lines. Where a sentence gives no fuel, there is enough; where it gives no input, it is
-- T.
rows : List Row
rows =
    -- "Grow passes. The listing program reads its file from standard input and prints ..:"
    lists grow
    ("code 13"
    ∷ "0 10 0 9 0"
    ∷ "1 11 0 0 0"
    ∷ "2 7 0 0 0"
    ∷ "3 1 0 0 0"
    ∷ "4 0 0 0 1"
    ∷ "5 2 0 0 0"
    ∷ "6 9 0 0 0"
    ∷ "7 6 0 0 0"
    ∷ "8 4 0 12 0"
    ∷ "9 8 0 0 0"
    ∷ "10 12 0 0 0"
    ∷ "11 12 0 0 0"
    ∷ "12 13 0 0 0"
    ∷ [])
    -- "Grow on T, fuel 25: ends, labels 6 and 8, units 25."
    ∷ runs grow T 25 12 110 (answers (done tt) 25 11 11 0 (2 ∷ 1 ∷ 6 ∷ 0 ∷ 0 ∷ 0 ∷ 1 ∷ 8 ∷ 0 ∷ 0 ∷ 0 ∷ 9 ∷ []) (grow_code 6))
    -- "fuel 24: 14, read 11, written 11."
    ∷ runs grow T 24 12 110 (answers (refusal 14 11) 24 11 11 0 (2 ∷ 1 ∷ 6 ∷ 0 ∷ 0 ∷ 0 ∷ 1 ∷ 8 ∷ 0 ∷ 0 ∷ 0 ∷ 9 ∷ []) (grow_code 6))
    -- "fuel 2: 14, read 1, written 1."
    ∷ runs grow T 2 12 110 (answers (refusal 14 1) 2 1 1 0 (2 ∷ nines 11) (grow_code 6))
    -- "fuel 0: 14, read 0."
    ∷ runs grow T 0 12 110 (answers (refusal 14 0) 0 0 0 0 (nines 12) (grow_code 6))
    -- "Source run: fuel 14 ends, 13 gives 14."
    ∷ source_runs grow T 14 12 (source_answers (done tt) 14 11 0 (2 ∷ 1 ∷ 6 ∷ 0 ∷ 0 ∷ 0 ∷ 1 ∷ 8 ∷ 0 ∷ 0 ∷ 0 ∷ 9 ∷ []))
    ∷ source_runs grow T 13 12 (source_answers (refusal 14 0) 13 0 0 (nines 12))
    -- "output of 10 bytes: 17, read 11, written 7."
    ∷ runs grow T 25 10 110 (answers (refusal 17 11) 20 11 7 0 (2 ∷ 1 ∷ 6 ∷ 0 ∷ 0 ∷ 0 ∷ 1 ∷ 9 ∷ 9 ∷ 9 ∷ []) (grow_code 6))
    -- "empty input, fuel 1: 15, units 0."
    ∷ runs grow [] 1 12 110 (answers (refusal 15 0) 0 0 0 0 (nines 12) (grow_code 6))
    -- "01 05 00 00: 15, read 1."
    ∷ runs grow (1 ∷ 5 ∷ 0 ∷ 0 ∷ []) 25 12 110 (answers (refusal 15 1) 1 1 0 0 (nines 12) (grow_code 6))
    -- "03: 16, read 0."
    ∷ runs grow (3 ∷ []) 25 12 110 (answers (refusal 16 0) 0 0 0 0 (nines 12) (grow_code 6))
    -- "Case 0, Leaf, Var 0, Node, Call 0 on 2, Call 0 on 1: 11 at record 6."
    ∷ lists swapped ("refused 11 6" ∷ [])
    ∷ runs swapped T 25 12 110 (answers (refusal 11 6) 0 0 0 0 (nines 12) (nines 110))
    -- "Its source run on T gives labels 7, 5."
    ∷ source_runs swapped T 10 12 (source_answers (done tt) 10 11 0 (2 ∷ 1 ∷ 7 ∷ 0 ∷ 0 ∷ 0 ∷ 1 ∷ 5 ∷ 0 ∷ 0 ∷ 0 ∷ 9 ∷ []))
    -- "Case 0, Const 1, Call 0 on 1 (number): 11 at record 2."
    ∷ lists tree_left ("refused 11 2" ∷ [])
    ∷ runs tree_left T 25 12 110 (answers (refusal 11 2) 0 0 0 0 (nines 12) (nines 110))
    -- "Sum .. of leaves 2147483647 and 1". N3: "The Sum case of document 01 becomes this refusal."
    ∷ runs sum large 16 12 72 (answers (refusal 21 11) 15 11 0 0 (nines 12) sum_code)
    ∷ runs sum large 15 12 72 (answers (refusal 14 11) 15 11 0 0 (nines 12) sum_code)
    ∷ source_runs sum large 8 12 (source_answers (refusal 21 4) 8 0 0 (nines 12))
    ∷ source_runs sum large 7 12 (source_answers (refusal 14 0) 7 0 0 (nines 12))
    -- "Call 0 on 0 passes;"
    ∷ lists (again number_valued) ("code 2" ∷ "0 12 0 0 0" ∷ "1 13 1 0 0" ∷ [])
    ∷ lists (again tree_valued) ("code 2" ∷ "0 12 0 0 0" ∷ "1 13 0 0 0" ∷ [])
    -- "fuel 1,023 gives 14,"
    ∷ runs (again number_valued) T 1023 12 20 (answers (refusal 14 0) 1023 0 0 0 (nines 12) (again_code 4))
    -- "1,024 gives 18."
    ∷ runs (again number_valued) T 1024 12 20 (answers (refusal 18 0) 1023 0 0 0 (nines 12) (again_code 4))
    ∷ []

-- One computation, through writer, reader, checker, translator, stream run, source run and listing.
worked : map given rows ≡ map (λ r. done r.due) rows
unfolding text lines_text line_text signed_field field code_word refused_word decimal digits ascii printed listing listing_of instructions_in lines_from line_of signed32 run_file prepared translate_file translate_records checked_records in_room buffer_after code_of operations_of entry_of functions_code entry_from function_end function_code words_kept code code_args end_of first_words word_of code_end args_end count_args both_passes pass_two walk_all none_left walk walk_args joined_lists same_names take_head pass_one pass_over at_entry has_room words_tested bare_number type_fits name_bound entered_all entered entered_args inside start_of result_type is_int is_output_tree has_type size prefix prefixes signature_of stream_run run step perform operate held_by operation_of operations instruction_of words_standing words_below calls_open at_level pop_one pop_two if_room push_word push_result write on_tag take_number open_call kept number_kept leave outcome_of number_reported result_of unbounded word_for tag_at tag_of written source_run check_source report_from refusal_of position_of reported with_fuel evaluation called evaluate computed evaluate_args followed_by result_number result_bytes result_tree number_or tree_or first_record tokens first_tree tree_at read_tag branches_at label_at program_in write_file file_of blocks_for blocks_from block_of block_body check_word word_sum flat_in length_row block_row block_at used_of fields_fit used_fits zeros concatenated read_program header_row header_from function_row function_at function_from sorts most_parameters node_row node_at node_record kind_of kinds nth same_fields function_below fields_of each prefix_row bodies exactly_one exprs_of build pop_args arity_of sum_of_counts record_at flat bytes_of_record bytes_of number_at number_of header_record signature_record sort_number Call◌on◌ one_function grow swapped tree_left sum large sum_code again T asked_of nines answers source_answers given lists runs source_runs grow_code again_code rows
worked = refl

-- ---- other bytes, and the buffers' lengths

-- Bytes as a file, what is asked of it, and what it must give.
record OnFile : Type 0 where
  file : List ℕ
  asked : Asked
  due : Gives

-- The file of records, whether they are a program or not.
filed : List Record → List ℕ
filed records = file_of (flat records)

-- The second Call's tree is not bound, and the first Call is not on the head.
not-bound : List Record
not-bound = one_function tree_valued (Case 0 ∷ Leaf ∷ Var 0 ∷ Node ∷ Call 0 on 2 ∷ Call 0 on 3 ∷ [])

-- The same with a record too many.
one_too_many : List Record
one_too_many = one_function tree_valued (Case 0 ∷ Leaf ∷ Var 0 ∷ Node ∷ Call 0 on 2 ∷ Call 0 on 3 ∷ Const 1 ∷ [])

-- A run of a file, with so much fuel, so many bytes of code buffer, value words and return words,
-- and 12 bytes of output.
running : (file input : List ℕ) (fuel if_room values returns : ℕ) → Gives → OnFile
running file input fuel if_room values returns due =
    record { file = file; asked = run_on input (nines 12) (nines if_room) fuel values returns; due = due }

-- Refused before the run: 0 in every count, and both buffers, the code's of so many bytes,
-- untouched.
untouched : (why position if_room : ℕ) → Gives
untouched why position if_room = answers (refusal why position) 0 0 0 0 (nines 12) (nines if_room)

-- The translator, and a code buffer of so many bytes.
translating : (file : List ℕ) (if_room : ℕ) → Gives → OnFile
translating file if_room due = record { file = file; asked = translate (nines if_room); due = due }

-- The listing, printed in these lines.
listing-of : List ℕ → List String → OnFile
listing-of file ls = record { file = file; asked = list; due = a_listing (printed ls) }

-- The refusals in their order. Each row has all the faults of those below it: the file is a byte
-- too short; prefix form; pass one; pass two; too short a code buffer; too few value words; too few
-- return words; no fuel; a byte that is no tag. Once nothing is too short, the code is in its
-- buffer and stays.
in-order : List OnFile
in-order =
    running (take 511 (filed one_too_many)) (3 ∷ []) 0 3 16383 2047 (untouched 1 0 3)
    ∷ running (filed one_too_many) (3 ∷ []) 0 3 16383 2047 (untouched 7 2 3)
    ∷ running (filed not-bound) (3 ∷ []) 0 3 16383 2047 (untouched 9 7 3)
    ∷ running (filed swapped) (3 ∷ []) 0 3 16383 2047 (untouched 11 6 3)
    ∷ running (filed grow) (3 ∷ []) 0 103 16383 2047 (untouched 13 0 103)
    ∷ running (filed grow) (3 ∷ []) 0 110 16383 2047 (untouched 13 0 110)
    ∷ running (filed grow) (3 ∷ []) 0 110 16384 2047 (untouched 13 0 110)
    ∷ running (filed grow) (3 ∷ []) 0 110 16384 2048 (answers (refusal 14 0) 0 0 0 0 (nines 12) (grow_code 6))
    ∷ running (filed grow) (3 ∷ []) 25 110 16384 2048 (answers (refusal 16 0) 0 0 0 0 (nines 12) (grow_code 6))
    ∷ []

-- Grow on T, with so many bytes after the code.
grown : (rest : ℕ) → Gives
grown rest = answers (done tt) 25 11 11 0 (2 ∷ 1 ∷ 6 ∷ 0 ∷ 0 ∷ 0 ∷ 1 ∷ 8 ∷ 0 ∷ 0 ∷ 0 ∷ 9 ∷ []) (grow_code rest)

-- One buffer too short by one, each in turn; each just long enough; each longer.
lengths : List OnFile
lengths =
    running (filed grow) T 25 103 16384 2048 (untouched 13 0 103)
    ∷ running (filed grow) T 25 104 16383 2048 (untouched 13 0 104)
    ∷ running (filed grow) T 25 104 16384 2047 (untouched 13 0 104)
    ∷ running (filed grow) T 25 104 16384 2048 (grown 0)
    ∷ running (filed grow) T 25 110 16385 2049 (grown 6)
    ∷ []

-- The translator's refusals in their order, and its code buffer too short, just long enough and
-- longer.
translations : List OnFile
translations =
    translating (take 511 (filed one_too_many)) 3 (a_code (refusal 1 0) (nines 3))
    ∷ translating (filed one_too_many) 3 (a_code (refusal 7 2) (nines 3))
    ∷ translating (filed not-bound) 3 (a_code (refusal 9 7) (nines 3))
    ∷ translating (filed swapped) 3 (a_code (refusal 11 6) (nines 3))
    ∷ translating (filed grow) 3 (a_code (refusal 13 0) (nines 3))
    ∷ translating (filed grow) 103 (a_code (refusal 13 0) (nines 103))
    ∷ translating (filed grow) 104 (a_code (done (grow_code 0)) (grow_code 0))
    ∷ translating (filed grow) 110 (a_code (done (grow_code 0)) (grow_code 6))
    ∷ []

-- A number has its sign; a refused file gives one line.
listings : List OnFile
listings =
    listing-of (filed (one_function number_valued (Case 0 ∷ Const 4294967295 ∷ Add ∷ Call 0 on 1 ∷ Call 0 on 2 ∷ [])))
    ("code 9"
    ∷ "0 10 0 5 0"
    ∷ "1 11 0 0 0"
    ∷ "2 0 0 0 -1"
    ∷ "3 5 0 0 0"
    ∷ "4 4 0 8 0"
    ∷ "5 12 0 0 0"
    ∷ "6 12 0 0 0"
    ∷ "7 2 0 0 0"
    ∷ "8 13 1 0 0"
    ∷ [])
    ∷ listing-of [] ("refused 1 0" ∷ [])
    ∷ listing-of (take 511 (filed one_too_many)) ("refused 1 0" ∷ [])
    ∷ listing-of (filed one_too_many) ("refused 7 2" ∷ [])
    ∷ listing-of (filed not-bound) ("refused 9 7" ∷ [])
    ∷ []

-- All of these.
calls : List OnFile
calls = in-order ++ (lengths ++ (translations ++ listings))

-- Again one computation.
orderly : map (λ c. asked_of c.file c.asked) calls ≡ map (λ c. c.due) calls
unfolding text lines_text line_text signed_field field code_word refused_word decimal digits ascii printed listing listing_of instructions_in lines_from line_of signed32 run_file prepared translate_file translate_records checked_records in_room buffer_after code_of operations_of entry_of functions_code entry_from function_end function_code words_kept code code_args end_of first_words word_of code_end args_end count_args both_passes pass_two walk_all none_left walk walk_args joined_lists same_names take_head pass_one pass_over at_entry has_room words_tested bare_number type_fits name_bound entered_all entered entered_args inside start_of result_type is_int is_output_tree has_type size prefix prefixes signature_of stream_run run step perform operate held_by operation_of operations instruction_of words_standing words_below calls_open at_level pop_one pop_two if_room push_word push_result write on_tag take_number open_call kept number_kept leave outcome_of number_reported result_of unbounded word_for tag_at tag_of written file_of blocks_for blocks_from block_of block_body check_word word_sum flat_in length_row block_row block_at used_of fields_fit used_fits zeros concatenated read_program header_row header_from function_row function_at function_from sorts most_parameters node_row node_at node_record kind_of kinds nth same_fields function_below fields_of each prefix_row bodies exactly_one exprs_of build pop_args arity_of sum_of_counts record_at flat bytes_of_record bytes_of number_at number_of header_record signature_record sort_number Call◌on◌ one_function grow swapped T asked_of nines answers grow_code filed not-bound one_too_many running untouched translating listing-of in-order grown lengths translations listings calls
orderly = refl
