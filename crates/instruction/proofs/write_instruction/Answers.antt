-- `instruction::write_instruction` meets its contract: the bytes written are the record's. An
-- address whose offset is cut is past the buffer's end.
use Rattle.std.proofs.Common.{◌≡◌, ℕ, ◌*◌, ◌/◌, ◌%◌, [], ◌∷◌, ap, ◌∙◌, arith}
use Rattle.formats.specs.Numbers.{bytes_of}
use Rattle.formats.specs.Records.{fields, bytes_of_record}
use Rattle.formats.specs.Written.{written}
use Rattle.writing.proofs.Placed.{written_cut}
use Rattle.instruction.proofs.write_instruction.Goals as goal

-- the bytes of the words are those of the record
same_bytes : (opcode byte1 operand number : ℕ)
    → opcode ∷ byte1 ∷ operand % 65536 % 256 ∷ operand % 65536 / 256 % 256 ∷ number % 256 ∷ number / 256 % 256 ∷ number / 65536 % 256 ∷ number / 16777216 % 256 ∷ []
    ≡ bytes_of_record (fields opcode byte1 operand number)
unfolding bytes_of bytes_of_record
same_bytes opcode byte1 operand number =
    let b0 : operand % 65536 % 256 ≡ operand % 256 = omega arith in
    let b1 : operand % 65536 / 256 % 256 ≡ operand / 256 % 256 = omega arith in
    let n2 : number / 65536 % 256 ≡ number / 256 / 256 % 256 = omega arith in
    let n3 : number / 16777216 % 256 ≡ number / 256 / 256 / 256 % 256 = omega arith in
    rw (b0, b1, n2, n3)

pub returns : goal.returns
returns c =
    let low = c.to_le_bytes.ensures in
    let number = c.to_le_bytes-2.ensures in
    let s = c.args.code.now in
    let at = 8 * c.args.address in
    (rw (c.saturating_mul.ensures, low, number) at c.write_bytes.ensures)
    ∙ written_cut s at _ _ (omega arith)
    ∙ ap (written s at) (same_bytes _ _ _ _)
