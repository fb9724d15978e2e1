-- 01, The listing: the listing of a program file, which is what the listing program prints.
use Rattle.std.specs.Prelude.{ℕ, zero, suc, ◌*◌, ◌/◌, List, [], ◌∷◌, ◌≡◌, ℤ, length}
use Rattle.formats.specs.Blocks.{flat_in}
use Rattle.formats.specs.Numbers.{Bytes, signed32}
use Rattle.formats.specs.Results.{Result, done, refusal, and_then, on_value}
use Rattle.formats.specs.Records.{fields, record_at}
use Rattle.meaning.specs.Instructions.{Instruction, instruction_bytes, most_instructions}
use Rattle.translation.specs.Templates.{code_of}
use Rattle.translation.specs.TranslateAndRun.{checked_records, translate_file}

-- 01, The listing: "prints, a line each, address, opcode, byte 1, operand, number".
pub data ListingLine : Type 0 where
  listing_line : (address opcode byte1 operand : ℕ) (number : ℤ) → ListingLine

-- 01, The listing: "after a heading with the count (a refused file gives one line: refused, number,
-- position)".
pub data Listing : Type 0 where
  -- the heading, "code" and the count, and the lines
  listed : (count : ℕ) (lines : List ListingLine) → Listing
  -- the one line, "refused", the number and the position
  refused_listing : (number position : ℕ) → Listing

-- The line of the instruction at address a. 01, Notation: "instruction numbers are two's
-- complement".
unfoldable pub line_of : ℕ → Instruction → ListingLine
line_of a (fields opcode byte1 operand number) = listing_line a opcode byte1 operand (signed32 number)

-- The lines of so many instructions, the first at address a.
unfoldable pub lines_from : List ℕ → ℕ → ℕ → List ListingLine
lines_from code zero a = []
lines_from code (suc n) a = line_of a (record_at code a) ∷ lines_from code n (suc a)

-- How many instructions a code has.
unfoldable pub instructions_in : List ℕ → ℕ
instructions_in code = length code / instruction_bytes

-- The listing of a code, or of a refusal.
unfoldable pub listing_of : Result (List ℕ) → Listing
listing_of (done code) = listed (instructions_in code) (lines_from code (instructions_in code) 0)
listing_of (refusal number position) = refused_listing number position

-- The listing of a program file, whatever its bytes. There is room for every program's code
-- (`NeverShort` below), so 13 is never reported.
unfoldable pub listing : List ℕ → Listing
listing file = listing_of (translate_file (instruction_bytes * most_instructions) file)

-- 01, Limits: "At most 4,128 instructions." With room for that many, the translator gives the code
-- of the program, which both passes accept, or the first refusal before 13.
abbrev pub NeverShort : Type 0
NeverShort =
    (file : List ℕ) → Bytes file
    → translate_file (instruction_bytes * most_instructions) file ≡ on_value code_of (and_then (flat_in file) checked_records)
