-- 01, Instructions that cannot be performed: "19 instruction that can't be performed (opcode,
-- address, return byte, missing or surplus words)". One rule for each of these. None of them looks
-- at the input, the output or how many calls are open, and none refers to how an instruction is
-- performed.
--
-- The theorem is StreamRun.antt, `OneStep.cannot_first`: an instruction is refused with 19 exactly
-- where one of these rules holds.
use Rattle.std.specs.Prelude.{ℕ, suc, ◌+◌, ◌<◌, ◌≡◌, length}
use Rattle.std.proofs.Math.Option.{none, some}
use Rattle.formats.specs.Records.{fields}
use Rattle.meaning.specs.Instructions.{Instruction, Operation, Push, Get, Compute, Ifnot, Jump, Slide, Drop, LeafTag, NodeTag, WriteNumber, ReadTag, ReadNumber, Call, Return, operation_of}
use Rattle.meaning.specs.Performing.{Setting, State, words_standing}

-- 01, Opcodes: "opcodes 0 to 13".
abbrev pub last_opcode : ℕ
last_opcode = 13

-- How many words an operation needs above the frame's base: those that it takes, moves or reads.
unfoldable pub words_needed : Operation → ℕ
words_needed (Push x) = 0
words_needed (Get k) = suc k
words_needed (Compute op) = 2
words_needed (Ifnot a) = 1
words_needed (Jump a) = 0
words_needed Slide = 2
words_needed Drop = 1
words_needed LeafTag = 0
words_needed NodeTag = 0
words_needed WriteNumber = 1
words_needed (ReadTag a) = 0
words_needed ReadNumber = 0
words_needed (Call entry n) = n
words_needed (Return k) = k

-- By how many words an operation makes the value stack grow, all frames together. (A call's
-- arguments only change their frame.)
unfoldable pub words_added : Operation → ℕ
words_added (Push x) = 1
words_added (Get k) = 1
words_added (Compute op) = 0
words_added (Ifnot a) = 0
words_added (Jump a) = 0
words_added Slide = 0
words_added Drop = 0
words_added LeafTag = 0
words_added NodeTag = 0
words_added WriteNumber = 0
words_added (ReadTag a) = 0
words_added ReadNumber = 1
words_added (Call entry n) = 0
words_added (Return k) = 0

-- The address holds an instruction, and its opcode names this operation.
pub data Fetches (m : Setting) (s : State) (op : Operation) : Type 0 where
  fetched : (i : Instruction) → m.holds s.address ≡ some i → operation_of i ≡ some op → Fetches m s op

-- The instruction at the state's address can't be performed.
pub data CannotPerform (m : Setting) (s : State) : Type 0 where
  -- "address": "from 4,128 up, or without 8 whole bytes, holds no instruction" (`held_by`)
  no_instruction : m.holds s.address ≡ none → CannotPerform m s
  -- "opcode": the opcodes are 0 to 13
  no_operation :
      (opcode byte1 operand number : ℕ)
      → m.holds s.address ≡ some (fields opcode byte1 operand number)
      → last_opcode < opcode
      → CannotPerform m s
  -- "return byte": "0 or 1 words kept"
  return_byte : (k : ℕ) → Fetches m s (Return k) → 1 < k → CannotPerform m s
  -- "missing words": "words are missing above the frame's base"
  missing_words : (op : Operation) → Fetches m s op → length s.frame < words_needed op → CannotPerform m s
  -- "surplus words": "surplus above 16,384" (`most_words`, as `of_code` sets it), where the
  -- instruction adds some
  surplus_words : (op : Operation) → Fetches m s op → 0 < words_added op → m.most_words < words_standing s + words_added op → CannotPerform m s
