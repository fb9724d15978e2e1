-- What holds of every stream run: the proof of `StreamRun` (specs/StreamRun), put together.
use Prim.Native.Nat.{ℕ}
use mathlib.Core.List.{[], ◌∷◌, map}
use mathlib.Core.Option.{Option, none, some}
use mathlib.Core.Path.{◌≡◌, refl, sym, ap, ◌∙◌}
use Rattle.formats.specs.Arithmetic.{plus}
use Rattle.formats.specs.Records.{fields, nth}
use Rattle.formats.proofs.Records.{nth_mapped, none_past}
use Rattle.meaning.specs.Instructions.{Instruction, Operation, Push, Get, Compute, Ifnot, Jump, Slide, Drop, LeafTag, NodeTag, WriteNumber, ReadTag, ReadNumber, Call, Return, operations, operation_of, instruction_of, used_fields, unused_zeroed}
use Rattle.meaning.specs.StreamRun.{StreamRun}
use Rattle.meaning.proofs.CannotPerform.{past_end}
use Rattle.meaning.proofs.Steps.{one_step}
use Rattle.meaning.proofs.Runs.{runs}
use Rattle.meaning.proofs.Calls.{calls_from}

-- an instruction is read as it is written
pub reads_back : (op : Operation) → operation_of (instruction_of op) ≡ some op
unfolding operation_of instruction_of operations nth
reads_back (Push n) = refl
reads_back (Get k) = refl
reads_back (Compute plus) = refl
reads_back (Ifnot a) = refl
reads_back (Jump a) = refl
reads_back Slide = refl
reads_back Drop = refl
reads_back LeafTag = refl
reads_back NodeTag = refl
reads_back WriteNumber = refl
reads_back (ReadTag a) = refl
reads_back ReadNumber = refl
reads_back (Call entry n) = refl
reads_back (Return k) = refl

-- ---- unused fields

-- for each opcode, the instruction with its unused fields zero is the one written for the operation
-- that the opcode names
row_by_row : (byte1 operand number : ℕ) → used_fields byte1 operand number ≡ map instruction_of (operations byte1 operand number)
unfolding used_fields operations instruction_of
row_by_row byte1 operand number = refl

written_zero : (i : Instruction) (op : Operation) → operation_of i ≡ some op → instruction_of op ≡ unused_zeroed i
unfolding operation_of unused_zeroed
written_zero (fields opcode byte1 operand number) op e =
    let row = nth_mapped instruction_of (operations byte1 operand number) opcode op e in
    rw (unused_zeroed, row_by_row byte1 operand number, row)

-- an opcode that names no operation names none with all other fields zero
none_named : (opcode byte1 operand number : ℕ) → operation_of (fields opcode byte1 operand number) ≡ none → operation_of (unused_zeroed (fields opcode byte1 operand number)) ≡ none
unfolding operation_of operations unused_zeroed used_fields
none_named opcode byte1 operand number e =
    let long = past_end (operations byte1 operand number) opcode e in
    rw (unused_zeroed, none_past (used_fields byte1 operand number) opcode long) (none_past (operations 0 0 0) opcode long)

not_looked_at : (i : Instruction) → operation_of i ≡ operation_of (unused_zeroed i)
not_looked_at (fields opcode byte1 operand number) = by_operation (operation_of (fields opcode byte1 operand number)) refl
  where
    by_operation :
        (o : Option Operation)
        → operation_of (fields opcode byte1 operand number) ≡ o
        → operation_of (fields opcode byte1 operand number) ≡ operation_of (unused_zeroed (fields opcode byte1 operand number))
    by_operation (some op) e = e ∙ sym (reads_back op) ∙ ap operation_of (written_zero (fields opcode byte1 operand number) op e)
    by_operation none e = e ∙ sym (none_named opcode byte1 operand number e)

pub stream-run : StreamRun
stream-run = record {
  reads_back = reads_back;
  written_zero = written_zero;
  not_looked_at = not_looked_at;
  steps = one_step;
  runs = runs;
  calls = λ code output values returns. calls_from runs code output values returns;
}

-- ---- a closed case

-- A push, a get, an add, a call, a return, and an opcode that names nothing, with every field set.
used-fields :
    map unused_zeroed (fields 0 7 8 9 ∷ fields 1 7 8 9 ∷ fields 2 7 8 9 ∷ fields 12 7 8 9 ∷ fields 13 7 8 9 ∷ fields 14 7 8 9 ∷ [])
    ≡ fields 0 0 0 9 ∷ fields 1 0 8 0 ∷ fields 2 0 0 0 ∷ fields 12 7 8 0 ∷ fields 13 7 0 0 ∷ fields 14 0 0 0 ∷ []
unfolding unused_zeroed used_fields nth
used-fields = refl
