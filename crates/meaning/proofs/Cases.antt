-- Closed cases of the stream run, proved by computation. Each row of a table is a call and what it
-- gives.
use Prim.Native.Nat.{ℕ, zero, suc}
use mathlib.Core.List.{List, [], ◌∷◌, ◌++◌, map}
use mathlib.Core.Path.{◌≡◌, refl}
use lib.ListN.{length}
use Rattle.formats.specs.Numbers.{bytes_of, number_of, number_at, signed32}
use Rattle.formats.specs.Arithmetic.{plus, unbounded, word_for, result_of}
use Rattle.formats.specs.Results.{Result, done, refusal, on_value}
use Rattle.formats.specs.Records.{fields, bytes_of_record, flat, record_at, nth}
use Rattle.formats.specs.Tokens.{tag_of, tag_at}
use Rattle.formats.specs.Written.{written}
use Rattle.meaning.specs.Instructions.{Instruction, Operation, Push, Get, Compute, Add, Ifnot, Jump, Slide, Drop, LeafTag, NodeTag, WriteNumber, ReadTag, ReadNumber, Call, Return, held_by, operations, operation_of, instruction_of}
use Rattle.meaning.specs.Levels.{at_level}
use Rattle.meaning.specs.Performing.{Setting, start, goes, ends, refuses, holding, words_below, words_standing, calls_open, pop_one, pop_two, if_room, push_word, push_result, write, on_tag, take_number, open_call, kept, number_kept, leave, operate, perform, step}
use Rattle.meaning.specs.Running.{of_code, Ran, Run, run, units_of, outcome_of, number_reported, stream_run, value_words, return_words}

-- A code's bytes.
code_of : List Operation → List ℕ
code_of ops = flat (map instruction_of ops)

-- 01, Worked programs: Grow's code.
grow_operations : List Operation
grow_operations =
    ReadTag 9 ∷ ReadNumber ∷ LeafTag ∷ Get 0 ∷ Push 1 ∷ Add ∷ WriteNumber ∷ Drop ∷ Jump 12 ∷ NodeTag ∷ Call 0 0 ∷ Call 0 0 ∷ Return 0 ∷ []

grow : List ℕ
grow = code_of grow_operations

-- Tree T.
two_leaves : List ℕ
two_leaves = 2 ∷ 1 ∷ 5 ∷ 0 ∷ 0 ∷ 0 ∷ 1 ∷ 7 ∷ 0 ∷ 0 ∷ 0 ∷ []

-- An output of so many bytes, all 255.
unfoldable pub blank : ℕ → List ℕ
blank zero = []
blank (suc n) = 255 ∷ blank n

-- A call with the work space of 01, Work words.
record Row : Type 0 where
  code : List ℕ
  input : List ℕ
  fuel : ℕ
  space : ℕ
  gives : Ran

ran_on : Row → Ran
ran_on r = stream_run r.code r.input (blank r.space) r.fuel value_words return_words

-- A call that ended with these units, bytes read and number, having written `out`; one that was
-- refused.
unfoldable pub ended_with : (units read number : ℕ) (out rest : List ℕ) → Ran
ended_with units read number out rest =
    record {
      answer = record { outcome = done tt; units = units; bytes_read = read; bytes_written = length out; number = number };
      output = out ++ rest;
    }

unfoldable pub refused-with : (why units read : ℕ) (out rest : List ℕ) → Ran
refused-with why units read out rest =
    record {
      answer = record { outcome = refusal why read; units = units; bytes_read = read; bytes_written = length out; number = 0 };
      output = out ++ rest;
    }

-- Tree T with 1 added to each label.
grown : List ℕ
grown = 2 ∷ 1 ∷ 6 ∷ 0 ∷ 0 ∷ 0 ∷ 1 ∷ 8 ∷ 0 ∷ 0 ∷ 0 ∷ []

on_grow : (input : List ℕ) (fuel space : ℕ) → Ran → Row
on_grow input fuel space gives = record { code = grow; input = input; fuel = fuel; space = space; gives = gives }

-- 01, Worked programs: "Grow on T, fuel 25: ends, labels 6 and 8, units 25." "fuel 24: 14, read 11,
-- written 11." "fuel 2: 14, read 1, written 1." "fuel 0: 14, read 0." "output of 10 bytes: 17, read
-- 11, written 7." "empty input, fuel 1: 15, units 0." "01 05 00 00: 15, read 1." "03: 16, read 0."
-- "Call 0 on 0 ..; fuel 1,023 gives 14, 1,024 gives 18."
worked : List Row
worked =
    on_grow two_leaves 25 12 (ended_with 25 11 0 grown (blank 1))
    ∷ on_grow two_leaves 24 12 (refused-with 14 24 11 grown (blank 1))
    ∷ on_grow two_leaves 2 12 (refused-with 14 2 1 (2 ∷ []) (blank 11))
    ∷ on_grow two_leaves 0 12 (refused-with 14 0 0 [] (blank 12))
    ∷ on_grow two_leaves 25 10 (refused-with 17 20 11 (2 ∷ 1 ∷ 6 ∷ 0 ∷ 0 ∷ 0 ∷ 1 ∷ []) (blank 3))
    ∷ on_grow [] 1 0 (refused-with 15 0 0 [] [])
    ∷ on_grow (1 ∷ 5 ∷ 0 ∷ 0 ∷ []) 25 0 (refused-with 15 1 1 [] [])
    ∷ on_grow (3 ∷ []) 25 0 (refused-with 16 0 0 [] [])
    ∷ record { code = code_of (Call 0 0 ∷ Return 1 ∷ []); input = []; fuel = 1023; space = 0; gives = refused-with 14 1023 0 [] [] }
    ∷ record { code = code_of (Call 0 0 ∷ Return 1 ∷ []); input = []; fuel = 1024; space = 0; gives = refused-with 18 1023 0 [] [] }
    ∷ []

-- Code on an empty input, with fuel for 20 instructions and 6 bytes of output.
bare : List ℕ → Ran → Row
bare code gives = record { code = code; input = []; fuel = 20; space = 6; gives = gives }

ends_with : (units number : ℕ) → Ran
ends_with units number = ended_with units 0 number [] (blank 6)

stuck : (why units : ℕ) → Ran
stuck why units = refused-with why units 0 [] (blank 6)

-- What each instruction does. Words are named from the base up, so the arguments of a call are its
-- frame's first words, and a word below the base is out of reach. Where a return keeps a word,
-- those under it go.
performed_well : List Row
performed_well =
    bare (code_of (Push 5 ∷ Return 1 ∷ [])) (ends_with 2 5)
    ∷ bare (code_of (Push 5 ∷ Push 6 ∷ Get 0 ∷ Return 1 ∷ [])) (ends_with 4 5)
    ∷ bare (code_of (Push 5 ∷ Push 4294967295 ∷ Add ∷ Return 1 ∷ [])) (ends_with 4 4)
    ∷ bare (code_of (Push 0 ∷ Ifnot 99 ∷ Push 7 ∷ Return 1 ∷ [])) (ends_with 4 7)
    ∷ bare (code_of (Push 1 ∷ Ifnot 3 ∷ Push 7 ∷ Push 8 ∷ Return 1 ∷ [])) (ends_with 4 8)
    ∷ bare (code_of (Jump 2 ∷ Push 7 ∷ Push 8 ∷ Return 1 ∷ [])) (ends_with 3 8)
    ∷ bare (code_of (Push 5 ∷ Push 6 ∷ Slide ∷ Return 1 ∷ [])) (ends_with 4 6)
    ∷ bare (code_of (Push 5 ∷ Push 6 ∷ Drop ∷ Return 1 ∷ [])) (ends_with 4 5)
    ∷ bare (code_of (LeafTag ∷ NodeTag ∷ Push 258 ∷ WriteNumber ∷ Return 0 ∷ [])) (ended_with 5 0 0 (1 ∷ 2 ∷ 2 ∷ 1 ∷ 0 ∷ 0 ∷ []) [])
    ∷ bare (code_of (Push 1 ∷ Push 2 ∷ Call 3 1 ∷ Push 9 ∷ Get 0 ∷ Return 1 ∷ [])) (ends_with 9 1)
    ∷ bare (code_of (Push 1 ∷ Push 2 ∷ Call 4 1 ∷ Return 1 ∷ Push 9 ∷ Get 0 ∷ Return 1 ∷ [])) (ends_with 7 2)
    ∷ bare (code_of (Push 1 ∷ Call 3 0 ∷ Return 1 ∷ Push 9 ∷ Push 8 ∷ Return 0 ∷ [])) (ends_with 6 1)
    ∷ bare (code_of (Push 1 ∷ Return 0 ∷ [])) (ends_with 2 0)
    ∷ []

-- What can't be performed. An address is tested when its instruction is fetched: the jump to it is
-- performed.
not_performed : List Row
not_performed =
    bare [] (stuck 19 0)
    ∷ bare (0 ∷ 0 ∷ 0 ∷ 0 ∷ 0 ∷ 0 ∷ 0 ∷ []) (stuck 19 0)
    ∷ bare (14 ∷ 0 ∷ 0 ∷ 0 ∷ 0 ∷ 0 ∷ 0 ∷ 0 ∷ []) (stuck 19 0)
    ∷ bare (code_of (Jump 1 ∷ [])) (stuck 19 1)
    ∷ bare (code_of (Jump 65535 ∷ [])) (stuck 19 1)
    ∷ bare (code_of (Call 1 0 ∷ [])) (stuck 19 1)
    ∷ bare (code_of (Get 0 ∷ [])) (stuck 19 0)
    ∷ bare (code_of (Push 5 ∷ Get 1 ∷ [])) (stuck 19 1)
    ∷ bare (code_of (Push 5 ∷ Add ∷ [])) (stuck 19 1)
    ∷ bare (code_of (Ifnot 0 ∷ [])) (stuck 19 0)
    ∷ bare (code_of (Push 5 ∷ Slide ∷ [])) (stuck 19 1)
    ∷ bare (code_of (Drop ∷ [])) (stuck 19 0)
    ∷ bare (code_of (WriteNumber ∷ [])) (stuck 19 0)
    ∷ bare (code_of (Push 5 ∷ Call 2 0 ∷ Drop ∷ [])) (stuck 19 2)
    ∷ bare (code_of (Push 5 ∷ Call 2 0 ∷ Get 0 ∷ [])) (stuck 19 2)
    ∷ bare (code_of (Push 5 ∷ Call 2 0 ∷ Return 1 ∷ [])) (stuck 19 2)
    ∷ bare (code_of (Push 5 ∷ Call 0 2 ∷ [])) (stuck 19 1)
    ∷ bare (code_of (Return 1 ∷ [])) (stuck 19 0)
    ∷ bare (code_of (Push 5 ∷ Return 2 ∷ [])) (stuck 19 1)
    ∷ []

-- The input and the output. A number is read or written whole or not at all.
at_ends : List Row
at_ends =
    record { code = code_of (ReadTag 0 ∷ []); input = []; fuel = 9; space = 0; gives = refused-with 15 0 0 [] [] }
    ∷ record { code = code_of (ReadTag 0 ∷ []); input = 2 ∷ 2 ∷ 3 ∷ []; fuel = 9; space = 0; gives = refused-with 16 2 2 [] [] }
    ∷ record { code = code_of (ReadTag 0 ∷ Return 0 ∷ []); input = 2 ∷ 1 ∷ []; fuel = 9; space = 0; gives = ended_with 3 2 0 [] [] }
    ∷ record { code = code_of (ReadNumber ∷ Return 1 ∷ []); input = 1 ∷ 2 ∷ 0 ∷ []; fuel = 9; space = 0; gives = refused-with 15 0 0 [] [] }
    ∷ record { code = code_of (ReadNumber ∷ Return 1 ∷ []); input = 1 ∷ 2 ∷ 0 ∷ 0 ∷ []; fuel = 9; space = 0; gives = ended_with 2 4 513 [] [] }
    ∷ record { code = code_of (LeafTag ∷ LeafTag ∷ []); input = []; fuel = 9; space = 1; gives = refused-with 17 1 0 (1 ∷ []) [] }
    ∷ record { code = code_of (NodeTag ∷ NodeTag ∷ []); input = []; fuel = 9; space = 1; gives = refused-with 17 1 0 (2 ∷ []) [] }
    ∷ record { code = code_of (Push 5 ∷ WriteNumber ∷ []); input = []; fuel = 9; space = 3; gives = refused-with 17 1 0 [] (blank 3) }
    ∷ record { code = code_of (WriteNumber ∷ []); input = []; fuel = 9; space = 0; gives = refused-with 19 0 0 [] [] }
    ∷ []

-- Sums at both ends of the range. Outside it 21, which counts nothing and changes nothing, at the
-- bytes read; what was written stays. 14 and 19 come before it; a word of the caller is not added.
-- Grow breaks at its second leaf.
summed : List Row
summed =
    bare (code_of (Push 2147483647 ∷ Push 0 ∷ Add ∷ Return 1 ∷ [])) (ends_with 4 2147483647)
    ∷ bare (code_of (Push 2147483648 ∷ Push 0 ∷ Add ∷ Return 1 ∷ [])) (ends_with 4 2147483648)
    ∷ bare (code_of (Push 2147483647 ∷ Push 2147483648 ∷ Add ∷ Return 1 ∷ [])) (ends_with 4 4294967295)
    ∷ bare (code_of (Push 2147483647 ∷ Push 1 ∷ Add ∷ Return 1 ∷ [])) (stuck 21 2)
    ∷ bare (code_of (Push 2147483648 ∷ Push 4294967295 ∷ Add ∷ Return 1 ∷ [])) (stuck 21 2)
    ∷ bare (code_of (Push 2147483647 ∷ Add ∷ [])) (stuck 19 1)
    ∷ bare (code_of (Push 2147483647 ∷ Call 2 0 ∷ Push 1 ∷ Add ∷ [])) (stuck 19 3)
    ∷ record { code = code_of (Push 2147483647 ∷ Push 1 ∷ Add ∷ []); input = []; fuel = 3; space = 0; gives = refused-with 21 2 0 [] [] }
    ∷ record { code = code_of (Push 2147483647 ∷ Push 1 ∷ Add ∷ []); input = []; fuel = 2; space = 0; gives = refused-with 14 2 0 [] [] }
    ∷ record {
      code = code_of (ReadTag 9 ∷ LeafTag ∷ Push 2147483647 ∷ Push 1 ∷ Add ∷ []);
      input = 1 ∷ 5 ∷ [];
      fuel = 9;
      space = 3;
      gives = refused-with 21 4 1 (1 ∷ []) (blank 2);
    }
    ∷ on_grow (2 ∷ 1 ∷ 5 ∷ 0 ∷ 0 ∷ 0 ∷ 1 ∷ 255 ∷ 255 ∷ 255 ∷ 127 ∷ []) 25 12 (refused-with 21 19 11 (2 ∷ 1 ∷ 6 ∷ 0 ∷ 0 ∷ 0 ∷ 1 ∷ []) (blank 5))
    ∷ []

cases : List Row
cases = worked ++ (performed_well ++ (not_performed ++ (at_ends ++ summed)))

as_reported : map ran_on cases ≡ map (λ r. r.gives) cases
unfolding stream_run run step perform operate held_by operation_of operations instruction_of nth record_at flat bytes_of_record bytes_of number_of number_at signed32 unbounded word_for result_of tag_at tag_of written words_standing words_below calls_open at_level pop_one pop_two if_room push_word push_result write on_tag take_number open_call kept number_kept leave outcome_of number_reported cases worked performed_well not_performed at_ends summed grow grow_operations two_leaves grown blank code_of ran_on ended_with refused-with ends_with stuck on_grow bare
as_reported = refl

-- ---- the limits, on a machine that has room for 2 words and 2 open calls

small : List Operation → List ℕ → Setting
small ops input = record { holds = held_by (code_of ops); input = input; space = 4; most_words = 2; most_open = 2 }

-- How many instructions are performed, and why the run then stops.
stops : List Operation → Result ℕ
stops ops = let r : Run = run (small ops []) 20 start in on_value (λ u. units_of r) (outcome_of r.stop (units_of r))

-- So many words may stand, in all frames together, and so many calls may be open, the first frame
-- among them. 19 comes before 15, 17 and 18.
limits : List (Result ℕ)
limits = map stops
    ((Push 1 ∷ Push 2 ∷ Return 1 ∷ [])
    ∷ (Push 1 ∷ Push 2 ∷ Push 3 ∷ [])
    ∷ (Push 1 ∷ Push 2 ∷ Get 0 ∷ [])
    ∷ (Push 1 ∷ Push 2 ∷ ReadNumber ∷ [])
    ∷ (Push 1 ∷ ReadNumber ∷ [])
    ∷ (Push 1 ∷ Push 2 ∷ Call 3 1 ∷ Push 3 ∷ [])
    ∷ (Call 1 0 ∷ Return 0 ∷ [])
    ∷ (Call 0 0 ∷ [])
    ∷ (Push 1 ∷ Call 1 2 ∷ [])
    ∷ (Call 1 0 ∷ Call 0 1 ∷ [])
    ∷ [])

within_limits :
    limits
    ≡ done 3 ∷ refusal 19 2 ∷ refusal 19 2 ∷ refusal 19 2 ∷ refusal 15 1 ∷ refusal 19 3 ∷ done 3 ∷ refusal 18 1 ∷ refusal 19 1 ∷ refusal 19 1 ∷ []
unfolding stream_run run step perform operate held_by operation_of operations instruction_of nth record_at flat bytes_of_record bytes_of number_of number_at signed32 unbounded word_for result_of tag_at tag_of written words_standing words_below calls_open at_level pop_one pop_two if_room push_word push_result write on_tag take_number open_call kept number_kept leave outcome_of number_reported limits stops small code_of
within_limits = refl

-- ---- the limit of 16,384 words

replicate : ℕ → List ℕ
replicate zero = []
replicate (suc n) = 0 ∷ replicate n

-- What a push is refused with, or 0, where so many words stand.
pushed_on : ℕ → ℕ
pushed_on n = elim (push_word (of_code [] [] 0) 1 (holding (replicate n) start)) [ goes t ↦ 0 | ends number ↦ 0 | refuses number ↦ number ]

full_stack : map pushed_on (16383 ∷ 16384 ∷ []) ≡ 0 ∷ 19 ∷ []
unfolding push_word if_room words_standing words_below pushed_on replicate
full_stack = refl

-- ---- the limit of 4,128 instructions

-- 4,129 instructions: a jump to the last but one, 4,126 pushes of 0, a leaf tag at 4,127 and a
-- return at 4,128.
long : List ℕ
long = code_of (Jump 4127 ∷ []) ++ (replicate 33008 ++ code_of (LeafTag ∷ Return 0 ∷ []))

-- 01, Instructions: "an address from 4,128 up .. holds no instruction and gives 19", also where 8
-- bytes of the buffer stand there. The instruction at 4,127 is performed.
long_buffer : stream_run long [] (blank 6) 20 value_words return_words ≡ refused-with 19 2 0 (1 ∷ []) (blank 5)
unfolding stream_run run step perform operate held_by operation_of operations instruction_of nth record_at flat bytes_of_record bytes_of number_of number_at written write kept number_kept leave outcome_of number_reported long replicate blank code_of refused-with
long_buffer = refl

-- ---- fields that an operation does not use

-- The instruction of an operation, with 7, 513 and 9 in the fields that it does not use: byte 1,
-- operand, number.
with_others : Operation → Instruction
with_others (Push n) = fields 0 7 513 n
with_others (Get k) = fields 1 7 k 9
with_others (Compute plus) = fields 2 7 513 9
with_others (Ifnot a) = fields 3 7 a 9
with_others (Jump a) = fields 4 7 a 9
with_others Slide = fields 5 7 513 9
with_others Drop = fields 6 7 513 9
with_others LeafTag = fields 7 7 513 9
with_others NodeTag = fields 8 7 513 9
with_others WriteNumber = fields 9 7 513 9
with_others (ReadTag a) = fields 10 7 a 9
with_others ReadNumber = fields 11 7 513 9
with_others (Call entry n) = fields 12 n entry 9
with_others (Return k) = fields 13 k 513 9

-- 01, Instructions: "Unused fields are .. not looked at." The runs are those of the same code with
-- zeros there. Each opcode is performed.
others_set : List Row
others_set =
    record { code = flat (map with_others grow_operations); input = two_leaves; fuel = 25; space = 12; gives = ended_with 25 11 0 grown (blank 1) }
    ∷ bare (flat (map with_others (Push 1 ∷ Ifnot 3 ∷ Return 0 ∷ Push 5 ∷ Push 6 ∷ Slide ∷ Return 1 ∷ []))) (ends_with 6 6)
    ∷ []

unused_fields : map ran_on others_set ≡ map (λ r. r.gives) others_set
unfolding stream_run run step perform operate held_by operation_of operations nth record_at flat bytes_of_record bytes_of number_of number_at signed32 unbounded word_for result_of tag_at tag_of written words_standing words_below calls_open at_level pop_one pop_two if_room push_word push_result write on_tag take_number open_call kept number_kept leave outcome_of number_reported others_set with_others grow_operations two_leaves grown blank ran_on ended_with refused-with ends_with bare
unused_fields = refl

-- ---- the refusals of a call in their order

-- A call with so many value words and return words, on an empty input, with 6 bytes of output.
lending : (values returns : ℕ) (code : List ℕ) (fuel : ℕ) → Ran
lending values returns code fuel = stream_run code [] (blank 6) fuel values returns

-- 01, The order of the tests: "The runs test 13 before tree or fuel." 01, Fuel and units: "Fuel is
-- looked at first." The rows: too few value words, or return words, without fuel or code and with
-- both; no fuel; no code; then a run that ends, with just enough words and with more.
first_refusal :
    lending 16383 2048 [] 0
    ∷ lending 16384 2047 [] 0
    ∷ lending 16383 2048 (code_of (Return 0 ∷ [])) 1
    ∷ lending 16384 2047 (code_of (Return 0 ∷ [])) 1
    ∷ lending 16384 2048 [] 0
    ∷ lending 16384 2048 [] 1
    ∷ lending 16384 2048 (code_of (Return 0 ∷ [])) 1
    ∷ lending 16385 2049 (code_of (Return 0 ∷ [])) 1
    ∷ []
    ≡ stuck 13 0 ∷ stuck 13 0 ∷ stuck 13 0 ∷ stuck 13 0 ∷ stuck 14 0 ∷ stuck 19 0 ∷ ends_with 1 0 ∷ ends_with 1 0 ∷ []
unfolding stream_run run step perform operate held_by operation_of operations instruction_of nth record_at flat bytes_of_record bytes_of number_of number_at written kept number_kept leave outcome_of number_reported lending blank code_of ended_with refused-with ends_with stuck
first_refusal = refl
