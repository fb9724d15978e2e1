-- 01, Code and the stream run: instructions, and what an address holds.
use Rattle.std.specs.Prelude.{ℕ, ◌+◌, ◌*◌, true, false, ◌&&◌, List, [], ◌∷◌, length, ltb, leb}
use Rattle.std.proofs.Math.Option.{Option, none, some}
use Rattle.formats.specs.Arithmetic.{Op, plus}
use Rattle.formats.specs.Records.{Record, fields, record_at, nth}

-- 01, Instructions: "An instruction has 8 bytes: opcode; byte 1; operand in 2–3; number in 4–7."
-- Its fields have the widths and the order of a record's, so `fields` and `record_at` are those of
-- records: opcode, byte 1, operand, number.
abbrev pub Instruction : Type 0
Instruction = Record

abbrev pub instruction_bytes : ℕ
instruction_bytes = 8

-- 01, Limits: "At most 4,128 instructions."
abbrev pub most_instructions : ℕ
most_instructions = 4128

-- 01, Instructions: "an address from 4,128 up, or without 8 whole bytes, holds no instruction".
unfoldable pub held_by : List ℕ → ℕ → Option Instruction
held_by code a =
    elim (ltb a most_instructions && leb (instruction_bytes * a + instruction_bytes) (length code)) [
      | true ↦ some (record_at code a)
      | false ↦ none
    ]

-- What an instruction does, with the fields that it uses.
pub data Operation : Type 0 where
  Push : (number : ℕ) → Operation
  -- a word above the base
  Get : (word : ℕ) → Operation
  -- an operation on the two top words: add
  Compute : (op : Op) → Operation
  Ifnot : (address : ℕ) → Operation
  Jump : (address : ℕ) → Operation
  Slide : Operation
  Drop : Operation
  LeafTag : Operation
  NodeTag : Operation
  WriteNumber : Operation
  ReadTag : (address : ℕ) → Operation
  ReadNumber : Operation
  -- the entry, and how many arguments
  Call : (entry arguments : ℕ) → Operation
  -- how many words are kept
  Return : (kept : ℕ) → Operation

-- 01, Opcodes: "2 add".
abbrev pub Add : Operation
Add = Compute plus

-- 01, Opcodes: "0 push, 1 get (operand: word above the base), 2 add .., 3 ifnot (.. goes to
-- operand), 4 jump, 5 slide .., 6 drop, 7 leaf tag, 8 node tag, 9 write number .., 10 read tag (..
-- goes to operand), 11 read number .., 12 call (operand: entry; byte 1: arguments ..), 13 return
-- (byte 1: .. words kept ..)".
unfoldable pub operations : ℕ → ℕ → ℕ → List Operation
operations byte1 operand number =
    Push number ∷ Get operand ∷ Add ∷ Ifnot operand ∷ Jump operand ∷ Slide ∷ Drop ∷ LeafTag ∷ NodeTag ∷ WriteNumber ∷ ReadTag operand ∷ ReadNumber
    ∷ Call operand byte1 ∷ Return byte1 ∷ []

-- The operation that the opcode names, if it is 0 to 13. 01, Instructions: "Unused fields are ..
-- not looked at."
unfoldable pub operation_of : Instruction → Option Operation
operation_of (fields opcode byte1 operand number) = nth (operations byte1 operand number) opcode

-- The instruction of each operation. 01, Instructions: "Unused fields are written zero".
unfoldable pub instruction_of : Operation → Instruction
instruction_of (Push n) = fields 0 0 0 n
instruction_of (Get k) = fields 1 0 k 0
instruction_of (Compute plus) = fields 2 0 0 0
instruction_of (Ifnot a) = fields 3 0 a 0
instruction_of (Jump a) = fields 4 0 a 0
instruction_of Slide = fields 5 0 0 0
instruction_of Drop = fields 6 0 0 0
instruction_of LeafTag = fields 7 0 0 0
instruction_of NodeTag = fields 8 0 0 0
instruction_of WriteNumber = fields 9 0 0 0
instruction_of (ReadTag a) = fields 10 0 a 0
instruction_of ReadNumber = fields 11 0 0 0
instruction_of (Call entry n) = fields 12 n entry 0
instruction_of (Return k) = fields 13 k 0 0

-- For each opcode, 0 to 13, the instruction with its unused fields zero. 01, Opcodes: "0 push, 1
-- get (operand ..), 2 add .., 3 ifnot (.. operand), 4 jump, 5 slide .., 6 drop, 7 leaf tag, 8 node
-- tag, 9 write number .., 10 read tag (.. operand), 11 read number .., 12 call (operand ..; byte 1
-- ..), 13 return (byte 1 ..)". A push uses its number, a jump its operand.
unfoldable pub used_fields : ℕ → ℕ → ℕ → List Instruction
used_fields byte1 operand number =
    fields 0 0 0 number
    ∷ fields 1 0 operand 0
    ∷ fields 2 0 0 0
    ∷ fields 3 0 operand 0
    ∷ fields 4 0 operand 0
    ∷ fields 5 0 0 0
    ∷ fields 6 0 0 0
    ∷ fields 7 0 0 0
    ∷ fields 8 0 0 0
    ∷ fields 9 0 0 0
    ∷ fields 10 0 operand 0
    ∷ fields 11 0 0 0
    ∷ fields 12 byte1 operand 0
    ∷ fields 13 byte1 0 0
    ∷ []

-- An instruction with its unused fields zero; with an opcode above 13, all fields are unused.
unfoldable pub unused_zeroed : Instruction → Instruction
unused_zeroed (fields opcode byte1 operand number) = elim (nth (used_fields byte1 operand number) opcode) [ some i ↦ i | none ↦ fields opcode 0 0 0 ]
