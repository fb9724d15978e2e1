-- Worked cases of the program file (01, Program file), proved by computation. Each row of a table
-- is an input and its outcome.
use Prim.Native.Nat.{ℕ, ◌-◌}
use mathlib.Core.List.{List, [], ◌∷◌, ◌++◌, map}
use mathlib.Core.Path.{◌≡◌, refl}
use lib.Dec.{lit<, lit≤}
use lib.ListN.{length, take, drop, replicate, set}
use Rattle.formats.specs.Numbers.{bytes_of, number_of, number_at}
use Rattle.formats.specs.Results.{Result, done, refusal, verdict, each}
use Rattle.formats.specs.Records.{Record, fields, bytes_of_record, flat, record_at, Const, Var, Add, IfZero, Let, Leaf, Node, Case, Call, fields_of, kinds, nth, kind_of, same_fields, function_below, node_record}
use Rattle.formats.specs.Programs.{const, var, if_zero, let_in, leaf_of, node_of, case_of, call, no_args, arg, prefix, prefixes, size, placed_at, parts_at}
use Rattle.formats.specs.Inner.Expressions.{add}
use Rattle.formats.specs.Programs.{Lawful, count_args, tree_valued, sort_number, signature_record, arity_of, sum_of_counts, signature_of, Program, nodes, header_record, header_of, records_of, most_parameters}
use Rattle.formats.specs.Rows.{header_from, header_row, sorts, function_from, function_at, function_row, node_at, node_row, pop_args, build, exprs_of, exactly_one, bodies, prefix_row, read_program}
use Rattle.formats.specs.Blocks.{word_sum, check_word, block_body, block_of, blocks_from, blocks_for, file_of, length_row, zeros, used_fits, fields_fit, used_of, block_at, block_row, concatenated, flat_in, program_records, read_file}

-- ---- Grow

-- Grow (01, Worked programs): Case 0, Leaf, Add, Var 0, Const 1, Node, Call 0 on 1, Call 0 on 2
unfoldable pub grow : Program
grow = record {
  edition = 1;
  functions = record {
    sort = tree_valued;
    parameters = 0;
    body = case_of 0 (leaf_of (add (var 0) (const 1))) (node_of (call 1 0 no_args) (call 2 0 no_args));
  } ∷ [];
}

grow_records : List Record
grow_records =
    fields 1 1 8 0 ∷ fields 1 0 8 0
    ∷ fields 7 0 0 0 ∷ fields 5 0 0 0 ∷ fields 2 0 0 0 ∷ fields 1 0 0 0 ∷ fields 0 0 0 1 ∷ fields 6 0 0 0 ∷ fields 8 1 0 0 ∷ fields 8 2 0 0 ∷ []

grow_flattens : records_of grow ≡ grow_records
unfolding records_of header_record header_of signature_record signature_of sort_number sum_of_counts size nodes prefix prefixes fields_of grow grow_records
grow_flattens = refl

grow_parses : read_program (flat grow_records) ≡ done grow
unfolding read_program header_row header_from function_row function_at function_from sorts most_parameters node_row node_at node_record kind_of kinds nth same_fields function_below fields_of each prefix_row bodies exactly_one exprs_of build pop_args arity_of sum_of_counts record_at flat bytes_of_record bytes_of number_at number_of grow grow_records
grow_parses = refl

-- it is within the limits, so that what is proved of such programs is not empty
pub grow_lawful : Lawful grow
unfolding grow sum_of_counts signature_of size prefix prefixes arity_of nth most_parameters count_args
grow_lawful = record {
  edition = refl;
  some_function = lit≤ tt;
  few_functions = lit≤ tt;
  few_nodes = lit≤ tt;
  functions = (
    record {
      few_parameters = lit≤ tt;
      in_range = (lit< tt, (tt, (tt, (lit< tt, (lit< tt, (tt, ((lit< tt, lit< tt), ((lit< tt, lit< tt), tt))))))));
      applied = ((tt, tt), ((refl, tt), (refl, tt)));
    },
    tt,
  );
}

-- the records of its parts: Case at 2, Leaf at 3, Node at 7
grow_parts : map (parts_at 2) (map (λ f. f.body) grow.functions)
    ≡ (placed_at 3 (leaf_of (add (var 0) (const 1))) ∷ placed_at 7 (node_of (call 1 0 no_args) (call 2 0 no_args)) ∷ []) ∷ []
unfolding parts_at size prefix prefixes grow
grow_parts = refl

-- ---- the nine kinds

-- an expression of each kind, and its records in prefix order, left part first
each_kind : map prefix
    (add (const 1) (var 2) ∷ if_zero (const 0) (const 1) (const 2) ∷ let_in (const 1) (var 0) ∷ leaf_of (const 3) ∷ node_of (call 1 0 no_args) (call 2 0 no_args)
    ∷ case_of 4 (const 5) (const 6) ∷ call 7 8 (arg (const 9) (arg (const 10) no_args)) ∷ [])
    ≡ (Add ∷ Const 1 ∷ Var 2 ∷ []) ∷ (IfZero ∷ Const 0 ∷ Const 1 ∷ Const 2 ∷ []) ∷ (Let ∷ Const 1 ∷ Var 0 ∷ []) ∷ (Leaf ∷ Const 3 ∷ []) ∷ (Node ∷ Call 1 0 ∷ Call 2 0 ∷ [])
    ∷ (Case 4 ∷ Const 5 ∷ Const 6 ∷ []) ∷ (Call 7 8 ∷ Const 9 ∷ Const 10 ∷ []) ∷ []
unfolding prefix prefixes
each_kind = refl

kind_numbers : map fields_of (Const 9 ∷ Var 9 ∷ Add ∷ IfZero ∷ Let ∷ Leaf ∷ Node ∷ Case 9 ∷ Call 9 8 ∷ [])
    ≡ fields 0 0 0 9 ∷ fields 1 9 0 0 ∷ fields 2 0 0 0 ∷ fields 3 0 0 0 ∷ fields 4 0 0 0 ∷ fields 5 0 0 0 ∷ fields 6 0 0 0 ∷ fields 7 9 0 0 ∷ fields 8 9 8 0 ∷ []
unfolding fields_of
kind_numbers = refl

-- ---- the rows header to prefix form

-- two functions: Call 1 on 0 with argument Const 5; Leaf, Const 0 with one number parameter
two : List Record
two = fields 1 2 4 0 ∷ fields 0 0 2 0 ∷ fields 1 1 2 0 ∷ fields 8 0 1 0 ∷ fields 0 0 0 5 ∷ fields 5 0 0 0 ∷ fields 0 0 0 0 ∷ []

said : List Record → Result (Unit {0})
said rs = verdict (read_program (flat rs))

-- 4: edition, functions 0 and 33, nodes 0 and 1,025, the rest, the record count, a record too many,
-- none at all
header_cases : map said
    (two ∷ set two 0 (fields 2 2 4 0) ∷ set two 0 (fields 1 0 4 0) ∷ set two 0 (fields 1 33 4 0) ∷ set two 0 (fields 1 2 0 0) ∷ set two 0 (fields 1 2 1025 0)
    ∷ set two 0 (fields 1 2 4 1) ∷ set two 0 (fields 1 2 5 0) ∷ (two ++ (fields 0 0 0 0 ∷ [])) ∷ [] ∷ [])
    ≡ done tt ∷ replicate 9 (refusal 4 0)
unfolding read_program header_row header_from function_row function_at function_from sorts most_parameters node_row node_at node_record kind_of kinds nth same_fields function_below fields_of each prefix_row bodies exactly_one exprs_of build pop_args arity_of sum_of_counts record_at flat bytes_of_record bytes_of number_at number_of said two
header_cases = refl

-- 5: sort 2, parameters of function 0, count 0, the rest; 5 parameters; a sum that is wrong, and
-- one that is right only modulo 65,536
function_cases : map said
    (set two 1 (fields 2 0 2 0) ∷ set two 1 (fields 0 1 2 0) ∷ set two 1 (fields 0 0 0 0) ∷ set two 1 (fields 0 0 2 1) ∷ set two 2 (fields 1 5 2 0)
    ∷ set two 2 (fields 1 1 3 0) ∷ set (set two 1 (fields 0 0 65535 0)) 2 (fields 1 1 5 0) ∷ [])
    ≡ refusal 5 1 ∷ refusal 5 1 ∷ refusal 5 1 ∷ refusal 5 1 ∷ refusal 5 2 ∷ refusal 5 2 ∷ refusal 5 2 ∷ []
unfolding read_program header_row header_from function_row function_at function_from sorts most_parameters node_row node_at node_record kind_of kinds nth same_fields function_below fields_of each prefix_row bodies exactly_one exprs_of build pop_args arity_of sum_of_counts record_at flat bytes_of_record bytes_of number_at number_of said two
function_cases = refl

-- 6: kind 9, a function that is not there, an unused a, an unused i
node_cases : map said (set two 6 (fields 9 0 0 0) ∷ set two 3 (fields 8 0 2 0) ∷ set two 4 (fields 0 1 0 5) ∷ set two 5 (fields 5 0 0 1) ∷ [])
    ≡ refusal 6 6 ∷ refusal 6 3 ∷ refusal 6 4 ∷ refusal 6 5 ∷ []
unfolding read_program header_row header_from function_row function_at function_from sorts most_parameters node_row node_at node_record kind_of kinds nth same_fields function_below fields_of each prefix_row bodies exactly_one exprs_of build pop_args arity_of sum_of_counts record_at flat bytes_of_record bytes_of number_at number_of said two
node_cases = refl

-- 7: an expression that runs on into the next function, one that ends too soon, parts missing in
-- the second function, an argument too few; and 6 in the last record before 7 in the first function
prefix_cases : map said
    (set (set two 1 (fields 0 0 1 0)) 2 (fields 1 1 3 0) ∷ set (set two 1 (fields 0 0 3 0)) 2 (fields 1 1 1 0) ∷ set two 5 (fields 2 0 0 0)
    ∷ set two 2 (fields 1 2 2 0) ∷ set (set two 6 (fields 9 0 0 0)) 2 (fields 1 2 2 0) ∷ [])
    ≡ refusal 7 3 ∷ refusal 7 3 ∷ refusal 7 5 ∷ refusal 7 3 ∷ refusal 6 6 ∷ []
unfolding read_program header_row header_from function_row function_at function_from sorts most_parameters node_row node_at node_record kind_of kinds nth same_fields function_below fields_of each prefix_row bodies exactly_one exprs_of build pop_args arity_of sum_of_counts record_at flat bytes_of_record bytes_of number_at number_of said two
prefix_cases = refl

-- ---- blocks

-- a block with these used records, number, count of used records and number of blocks, and the
-- check that fits
block : List ℕ → ℕ → ℕ → ℕ → List ℕ
block part j used blocks =
    let body = part ++ (replicate (504 - length part) 0 ++ (bytes_of 2 j ++ (bytes_of 2 used ++ bytes_of 2 blocks))) in
    body ++ bytes_of 2 (check_word body)

grow_flat : List ℕ
grow_flat = flat grow_records

-- 62 nodes and so 64 records: two blocks
long : List ℕ
long = flat (fields 1 1 62 0 ∷ fields 1 0 62 0 ∷ (replicate 61 (fields 5 0 0 0) ++ (fields 0 0 0 7 ∷ [])))

read : List ℕ → Result (Unit {0})
read s = verdict (read_file s)

-- Grow's file, and its last words: number 0, 10 records used, 1 block, and the check 64444
grow_file : file_of grow_flat ≡ block grow_flat 0 10 1
unfolding read_file program_records flat_in length_row block_row block_at used_of fields_fit used_fits zeros concatenated file_of blocks_for blocks_from block_of block_body check_word word_sum read_program header_row header_from function_row function_at function_from sorts most_parameters node_row node_at node_record kind_of kinds nth same_fields function_below fields_of each prefix_row bodies exactly_one exprs_of build pop_args arity_of sum_of_counts record_at flat bytes_of_record bytes_of number_at number_of block grow_flat grow_records
grow_file = refl

grow_words : drop 504 (file_of grow_flat) ≡ 0 ∷ 0 ∷ 10 ∷ 0 ∷ 1 ∷ 0 ∷ 188 ∷ 251 ∷ []
unfolding read_file program_records flat_in length_row block_row block_at used_of fields_fit used_fits zeros concatenated file_of blocks_for blocks_from block_of block_body check_word word_sum read_program header_row header_from function_row function_at function_from sorts most_parameters node_row node_at node_record kind_of kinds nth same_fields function_below fields_of each prefix_row bodies exactly_one exprs_of build pop_args arity_of sum_of_counts record_at flat bytes_of_record bytes_of number_at number_of block grow_flat grow_records
grow_words = refl

-- 1: lengths 0, 511, 513 and 18 blocks
length_cases : map read ([] ∷ take 511 (block grow_flat 0 10 1) ∷ (block grow_flat 0 10 1 ++ (0 ∷ [])) ∷ replicate 9216 0 ∷ []) ≡ replicate 4 (refusal 1 0)
unfolding read_file program_records flat_in length_row block_row block_at used_of fields_fit used_fits zeros concatenated file_of blocks_for blocks_from block_of block_body check_word word_sum read_program header_row header_from function_row function_at function_from sorts most_parameters node_row node_at node_record kind_of kinds nth same_fields function_below fields_of each prefix_row bodies exactly_one exprs_of build pop_args arity_of sum_of_counts record_at flat bytes_of_record bytes_of number_at number_of read block grow_flat grow_records
length_cases = refl

-- 2: a byte changed; 3, with a check that fits: block number, records used 0, 64, one too few,
-- number of blocks, an unused record; 4: records used one too many
block_cases : map read
    (block grow_flat 0 10 1 ∷ set (block grow_flat 0 10 1) 16 1 ∷ block grow_flat 1 10 1 ∷ block grow_flat 0 0 1 ∷ block grow_flat 0 64 1 ∷ block grow_flat 0 9 1
    ∷ block grow_flat 0 10 2 ∷ block (grow_flat ++ (replicate 423 0 ++ (1 ∷ []))) 0 10 1 ∷ block grow_flat 0 11 1 ∷ [])
    ≡ done tt ∷ refusal 2 0 ∷ refusal 3 0 ∷ refusal 3 0 ∷ refusal 3 0 ∷ refusal 3 0 ∷ refusal 3 0 ∷ refusal 3 0 ∷ refusal 4 0 ∷ []
unfolding read_file program_records flat_in length_row block_row block_at used_of fields_fit used_fits zeros concatenated file_of blocks_for blocks_from block_of block_body check_word word_sum read_program header_row header_from function_row function_at function_from sorts most_parameters node_row node_at node_record kind_of kinds nth same_fields function_below fields_of each prefix_row bodies exactly_one exprs_of build pop_args arity_of sum_of_counts record_at flat bytes_of_record bytes_of number_at number_of read block grow_flat grow_records
block_cases = refl

-- two blocks: both right; 2 in the second; 3 in the first before 2 in the second; 62 used in the
-- first; a third block that is not needed
two_block_cases : map read
    ((block (take 504 long) 0 63 2 ++ block (drop 504 long) 1 1 2) ∷ (block (take 504 long) 0 63 2 ++ set (block (drop 504 long) 1 1 2) 0 9)
    ∷ (block (take 504 long) 1 63 2 ++ set (block (drop 504 long) 1 1 2) 0 9) ∷ (block (take 496 long) 0 62 2 ++ block (drop 496 long) 1 2 2)
    ∷ (block (take 504 long) 0 63 3 ++ (block (drop 504 long) 1 1 3 ++ block [] 2 0 3)) ∷ [])
    ≡ done tt ∷ refusal 2 1 ∷ refusal 3 0 ∷ refusal 3 0 ∷ refusal 3 1 ∷ []
unfolding read_file program_records flat_in length_row block_row block_at used_of fields_fit used_fits zeros concatenated file_of blocks_for blocks_from block_of block_body check_word word_sum read_program header_row header_from function_row function_at function_from sorts most_parameters node_row node_at node_record kind_of kinds nth same_fields function_below fields_of each prefix_row bodies exactly_one exprs_of build pop_args arity_of sum_of_counts record_at flat bytes_of_record bytes_of number_at number_of read block long
two_block_cases = refl
