-- 01, Program file: blocks, the file that holds flat records, and how a file is read.
use Rattle.std.specs.Prelude.{ℕ, zero, suc, ◌+◌, ◌*◌, ◌-◌, ◌/◌, ◌%◌, ◌^◌, Bool, true, false, ◌&&◌, List, [], ◌∷◌, ◌++◌, length, take, drop, replicate, leb, ltb, eqb}
use Rattle.formats.specs.Numbers.{bytes_of, number_of, number_at}
use Rattle.formats.specs.Written.{written}
use Rattle.formats.specs.Refusals.{file_length, block_check, block_field, space_too_short}
use Rattle.formats.specs.Results.{Result, done, refusal, and_then, on_value, value_if, each}
use Rattle.formats.specs.Records.{record_bytes}
use Rattle.formats.specs.Programs.{Program}
use Rattle.formats.specs.Rows.{read_program}

-- 01, Blocks: "Blocks of 512 bytes, 1 to 17."
abbrev pub block_bytes : ℕ
block_bytes = 512

abbrev pub most_blocks : ℕ
most_blocks = 17

-- 01, Blocks: "Bytes 0–503: 63 records of 8 bytes."
abbrev pub block_records : ℕ
block_records = 63

-- The bytes of all records of a block.
abbrev pub records_bytes : ℕ
records_bytes = record_bytes * block_records

-- 01, Blocks: "504–505: block number from 0. 506–507: records used .. 508–509: number of blocks."
abbrev pub number_offset : ℕ
number_offset = 504

abbrev pub used_offset : ℕ
used_offset = 506

abbrev pub blocks_offset : ℕ
blocks_offset = 508

-- The sum of 16-bit words, low byte first. (A single byte at the end is no word and is not
-- counted.)
unfoldable pub word_sum : List ℕ → ℕ
word_sum [] = 0
word_sum (low ∷ []) = 0
word_sum (low ∷ (high ∷ s)) = number_of (low ∷ high ∷ []) + word_sum s

-- 01, Blocks: ".. so that the block's 256 16-bit words sum to 65,535 modulo 65,536."
abbrev pub check_target : ℕ
check_target = 65535

-- How many values a 16-bit word has.
abbrev pub word_limit : ℕ
word_limit = 2 ^ 16

-- The check word of a block whose other bytes are s.
unfoldable pub check_word : List ℕ → ℕ
check_word s = check_target - word_sum s % word_limit

-- Block j of a file of `blocks` blocks, but for its check word. `part` has the records that it
-- uses, as bytes. 01, Blocks: "Unused records are zero."
unfoldable pub block_body : List ℕ → ℕ → ℕ → List ℕ
block_body part j blocks =
    part ++ (replicate (records_bytes - length part) 0 ++ (bytes_of 2 j ++ (bytes_of 2 (length part / record_bytes) ++ bytes_of 2 blocks)))

-- The whole block: its check word comes last.
unfoldable pub block_of : List ℕ → ℕ → ℕ → List ℕ
block_of part j blocks = block_body part j blocks ++ bytes_of 2 (check_word (block_body part j blocks))

-- The n blocks from block j on, of a file of `blocks` blocks. They hold the flat records s. 01,
-- Blocks: "63 in all but the last".
unfoldable pub blocks_from : ℕ → ℕ → ℕ → List ℕ → List ℕ
blocks_from blocks zero j s = []
blocks_from blocks (suc n) j s = block_of (take records_bytes s) j blocks ++ blocks_from blocks n (suc j) (drop records_bytes s)

-- The fewest blocks that hold so many bytes of flat records.
unfoldable pub blocks_for : ℕ → ℕ
blocks_for bytes = (bytes + (records_bytes - 1)) / records_bytes

-- The file of the flat records s.
unfoldable pub file_of : List ℕ → List ℕ
file_of s = blocks_from (blocks_for (length s)) (blocks_for (length s)) 0 s

-- ---- the reading

-- The row "blocks": how many blocks a file has. 01, The table of refusals: "1 length is not 1 to 17
-- whole blocks", at position 0.
unfoldable pub length_row : List ℕ → Result ℕ
length_row s =
    let n = length s / block_bytes in
    value_if (eqb (length s) (block_bytes * n) && (leb 1 n && leb n most_blocks)) file_length 0 n

-- Whether every byte is zero.
unfoldable pub zeros : List ℕ → Bool
zeros [] = true
zeros (b ∷ s) = eqb b 0 && zeros s

-- Whether block j of a file of `blocks` blocks may use `used` records. 01, Blocks: "records used, 1
-- to 63, 63 in all but the last".
unfoldable pub used_fits : ℕ → ℕ → ℕ → Bool
used_fits blocks j used = elim (ltb (suc j) blocks) [ true ↦ eqb used block_records | false ↦ leb 1 used && leb used block_records ]

-- Whether the fields of block j other than its check, and its unused records, are right.
unfoldable pub fields_fit : ℕ → ℕ → List ℕ → Bool
fields_fit blocks j block =
    eqb (number_at 2 block number_offset) j
    && (used_fits blocks j (number_at 2 block used_offset)
    && (eqb (number_at 2 block blocks_offset) blocks
    && zeros (drop (record_bytes * number_at 2 block used_offset) (take records_bytes block))))

-- The records that block j uses, as bytes, or its refusal at position j. 01, The order of the
-- tests: "2 check, then 3 other block fields or unused records".
unfoldable pub used_of : ℕ → ℕ → List ℕ → Result (List ℕ)
used_of blocks j block =
    elim (eqb (word_sum block % word_limit) check_target) [
      | false ↦ refusal block_check j
      | true ↦ value_if (fields_fit blocks j block) block_field j (take (record_bytes * number_at 2 block used_offset) block)
    ]

-- The same for block j of the file s.
unfoldable pub block_at : ℕ → List ℕ → ℕ → Result (List ℕ)
block_at blocks s j = used_of blocks j (take block_bytes (drop (block_bytes * j) s))

-- The row "each block": what each block uses. 01, The order of the tests: "the two block tests go
-- together block by block".
unfoldable pub block_row : ℕ → List ℕ → Result (List (List ℕ))
block_row blocks s = each (block_at blocks s) blocks 0

-- The used records of all blocks, one block after the other.
unfoldable pub concatenated : List (List ℕ) → List ℕ
concatenated [] = []
concatenated (part ∷ parts) = part ++ concatenated parts

-- The flat records of a file, or the first refusal of the block rows.
unfoldable pub flat_in : List ℕ → Result (List ℕ)
flat_in s = and_then (length_row s) (λ n. on_value concatenated (block_row n s))

-- The program that a file holds, or the first refusal.
unfoldable pub program_in : List ℕ → Result Program
program_in s = and_then (flat_in s) read_program

-- The flat records r themselves, where they are a program, or the first refusal of the rows header
-- to prefix form.
unfoldable pub program_records : List ℕ → Result (List ℕ)
program_records r = on_value (λ program. r) (read_program r)

-- The file reader: the flat records of a file that holds a program, or the first refusal.
unfoldable pub read_file : List ℕ → Result (List ℕ)
read_file s = and_then (flat_in s) program_records

-- The file writer: the file of flat records that are a program, or the first refusal. 01, The file
-- reader and the file writer: "The file writer takes records, applies rows header to prefix form".
unfoldable pub write_file : List ℕ → Result (List ℕ)
write_file r = on_value (λ program. file_of r) (read_program r)

-- ---- into a lent buffer

-- The bytes, where a buffer of `room` bytes can hold them. 01, The table of refusals: "13 code,
-- file or work buffer too short", at position 0.
unfoldable pub in_room : ℕ → List ℕ → Result (List ℕ)
in_room room bytes = value_if (leb (length bytes) room) space_too_short 0 bytes

-- What the file reader is to put into a buffer of `room` bytes, or its refusal.
unfoldable pub read_into : ℕ → List ℕ → Result (List ℕ)
read_into room s = and_then (read_file s) (in_room room)

-- What the file writer is to put into a buffer of `room` bytes, or its refusal.
unfoldable pub write_into : ℕ → List ℕ → Result (List ℕ)
write_into room r = and_then (write_file r) (in_room room)

-- What a lent buffer holds after such a call. 01, What the lent buffers hold: "A refusal leaves
-- every output buffer untouched".
unfoldable pub buffer_after : List ℕ → Result (List ℕ) → List ℕ
buffer_after before (done bytes) = written before 0 bytes
buffer_after before (refusal number position) = before
