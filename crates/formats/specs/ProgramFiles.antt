-- What holds of program files: the statements. They are proved in proofs/ProgramFiles.antt.
use Rattle.std.specs.Prelude.{ℕ, suc, ◌+◌, ◌*◌, ◌≤◌, List, [], ◌∷◌, ◌≡◌, length}
use Rattle.formats.specs.Numbers.{Bytes}
use Rattle.formats.specs.Results.{done, each}
use Rattle.formats.specs.Records.{record_bytes, record_at, Kind, fields_of}
use Rattle.formats.specs.Programs.{Expr, prefix, Placed, parts_at, Every, Program, Signature, sum_of_counts, signatures, nodes, flat_of, Lawful, most_functions, most_nodes}
use Rattle.formats.specs.Rows.{function_at, read_program}
use Rattle.formats.specs.Blocks.{block_bytes, block_records, most_blocks, program_in, read_file, write_file}

-- r are the flat records of the program, and the program is within the limits.
pub record Flattened (r : List ℕ) (program : Program) : Type 0 where
  pub own : flat_of program ≡ r
  pub lawful : Lawful program

-- Records of these kinds stand in the flat records s, the first of them record k.
pub data RecordsAt (s : List ℕ) : ℕ → List Kind → Type 0 where
  nothing : {k : ℕ} → RecordsAt s k []
  one_more : {k : ℕ} {kind : Kind} {rest : List Kind} → record_at s k ≡ fields_of kind → RecordsAt s (suc k) rest → RecordsAt s k (kind ∷ rest)

-- An expression's records stand from its own record on.
abbrev pub StandsPlaced : List ℕ → Placed → Type 0
StandsPlaced s part = RecordsAt s part.at_record (prefix part.expr)

-- A program has one file: this one holds it, and no other does.
pub record OneFile (program : Program) : Type 0 where
  pub file : List ℕ
  pub bytes : Bytes file
  pub holds : program_in file ≡ done program
  pub only : (s : List ℕ) → Bytes s → program_in s ≡ done program → s ≡ file

-- `blocks` blocks hold `records` records, and fewer blocks do not.
pub record Fewest (blocks records : ℕ) : Type 0 where
  pub enough : records ≤ block_records * blocks
  pub no_fewer : (m : ℕ) → records ≤ block_records * m → blocks ≤ m

-- How many functions, nodes, records and blocks a program has whose flat records are r and whose
-- file is s.
pub record Measured (s r : List ℕ) (program : Program) : Type 0 where
  pub some_function : 1 ≤ length program.functions
  pub few_functions : length program.functions ≤ most_functions
  pub some_node : 1 ≤ sum_of_counts (signatures program)
  pub few_nodes : sum_of_counts (signatures program) ≤ most_nodes
  -- 01, Header: "There are 1 + F + N records."
  pub records : length r ≡ record_bytes * suc (length program.functions + sum_of_counts (signatures program))
  pub blocks : ℕ
  pub whole_blocks : length s ≡ block_bytes * blocks
  pub fewest : Fewest blocks (suc (length program.functions + sum_of_counts (signatures program)))
  -- 01, Blocks: "Blocks of 512 bytes, 1 to 17."
  pub some_block : 1 ≤ blocks
  pub few_blocks : blocks ≤ most_blocks

-- The theorems about program files (01, Program file). They keep the promise to the archive, "one
-- file for one program".
pub record ProgramFiles : Type 0 where
  -- What the reader accepts, written again from its records, is the same file, byte for byte.
  pub again : (s r : List ℕ) → Bytes s → read_file s ≡ done r → write_file r ≡ done s
  -- What the writer writes is read back as the same records.
  pub back : (r s : List ℕ) → Bytes r → write_file r ≡ done s → read_file s ≡ done r
  -- Two accepted files with the same records are equal ..
  pub same_file : (s t r : List ℕ) → Bytes s → Bytes t → read_file s ≡ done r → read_file t ≡ done r → s ≡ t
  -- .. and each program has exactly one file.
  pub one_file : (program : Program) → Lawful program → OneFile program
  -- Programs and records that pass the rows header to prefix form determine one another: parsing
  -- undoes flattening ..
  pub parses : (program : Program) → Lawful program → read_program (flat_of program) ≡ done program
  -- .. and flattening undoes parsing.
  pub flattens : (r : List ℕ) (program : Program) → Bytes r → read_program r ≡ done program → Flattened r program
  -- The nodes stand after the header and the function records, and the parts of an expression at
  -- their own records.
  pub nodes_stand : (r : List ℕ) (program : Program) → Bytes r → read_program r ≡ done program
      → RecordsAt r (suc (length program.functions)) (nodes program.functions)
  pub parts_stand : (r : List ℕ) (k : ℕ) (e : Expr) → RecordsAt r k (prefix e) → Every (StandsPlaced r) (parts_at k e)
  -- The sum of n node counts is at most 65,535 n, whether it is the right one or not. So for as
  -- many functions as a header can count it fits 32 bits, and never wraps.
  pub sums_fit : (edition : ℕ) (s : List ℕ) (n : ℕ) (gs : List Signature) → Bytes s → each (function_at edition s) n 0 ≡ done gs → sum_of_counts gs ≤ 65535 * n
  -- The counts are within the limits, and the file has the fewest blocks that hold the records.
  pub measured : (r s : List ℕ) (program : Program) → Bytes r → read_program r ≡ done program → write_file r ≡ done s → Measured s r program
