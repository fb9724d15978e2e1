-- Program files (01, Program file): a file and its flat records determine one another
-- (proofs/Files), and so do flat records and their program (proofs/Rows). Together: a program and
-- its file.
use Prim.Native.Nat.{ℕ, suc, ◌+◌, ◌*◌, ◌≤◌}
use mathlib.Core.List.{List}
use mathlib.Core.Path.{◌≡◌, sym, ap, subst, ◌∙◌}
use native.Mathlib.Omega.{arith}
use lib.ListN.{length}
use Rattle.formats.specs.Numbers.{Bytes}
use Rattle.formats.specs.Results.{done, on_value}
use Rattle.formats.specs.Records.{record_bytes}
use Rattle.formats.specs.Programs.{Program, sum_of_counts, signatures, flat_of, Lawful}
use Rattle.formats.specs.Rows.{read_program}
use Rattle.formats.specs.Blocks.{block_records, most_blocks, blocks_for, file_of, flat_in, program_in, program_records, read_file, write_file}
use Rattle.formats.specs.ProgramFiles.{Flattened, OneFile, Measured, ProgramFiles}
use Rattle.formats.proofs.Results.{then_inv, then_done, value_inv}
use Rattle.formats.proofs.Programs.{parts_stand}
use Rattle.formats.proofs.Rows.{parses, flattens, nodes_stand, sums_fit, flat_lawful_bytes, lawful_length, some_node}
use Rattle.formats.proofs.Files.{blocks_some, blocks_few, fewest, length_file, file_bytes, blocks_again, blocks_back, flat_in_bytes}

-- what is known of a file that is read as the flat records r
record Held (s r : List ℕ) : Type 0 where
  flat-in : flat_in s ≡ done r
  program : Program
  is_read : read_program r ≡ done program

read-file : (s r : List ℕ) → read_file s ≡ done r → Held s r
unfolding read_file program_records
read-file s r e =
    let t = then_inv (flat_in s) _ r e in
    let v = value_inv (λ program. t.value) (read_program t.value) r t.second in
    record { flat-in = t.first ∙ ap done v.second; program = v.value; is_read = ap read_program (sym v.second) ∙ v.first }

-- a file whose flat records are a program is read as these ..
file_read : (s r : List ℕ) (program : Program) → flat_in s ≡ done r → read_program r ≡ done program → read_file s ≡ done r
unfolding read_file program_records
file_read s r program e f = then_done _ e ∙ ap (on_value (λ p. r)) f

-- .. and flat records that are a program are written as their file
file_written : (r : List ℕ) (program : Program) → read_program r ≡ done program → write_file r ≡ done (file_of r)
unfolding write_file
file_written r program e = ap (on_value (λ p. file_of r)) e

-- what is written is that file
record FileWritten (r s : List ℕ) : Type 0 where
  program : Program
  is_read : read_program r ≡ done program
  file : file_of r ≡ s

write-file : (r s : List ℕ) → write_file r ≡ done s → FileWritten r s
unfolding write_file
write-file r s e =
    let v = value_inv (λ program. file_of r) (read_program r) s e in
    record { program = v.value; is_read = v.first; file = v.second }

-- what the reader accepts, written again, is the same file
again : (s r : List ℕ) → Bytes s → read_file s ≡ done r → write_file r ≡ done s
again s r bs e =
    let h = read-file s r e in
    file_written r h.program h.is_read ∙ ap done (blocks_again s r bs h.flat-in)

-- accepted files with the same records are equal
same_file : (s t r : List ℕ) → Bytes s → Bytes t → read_file s ≡ done r → read_file t ≡ done r → s ≡ t
same_file s t r bs bt e f = sym (blocks_again s r bs (read-file s r e).flat-in) ∙ blocks_again t r bt (read-file t r f).flat-in

-- the records of a program
abbrev records : Program → ℕ
records program = suc (length program.functions + sum_of_counts (signatures program))

-- a lawful program's records fit the most blocks
few_records : (program : Program) → Lawful program → records program ≤ block_records * most_blocks
few_records program l = omega (arith, l.few_functions, l.few_nodes)

-- the flat records of a lawful program come back from their file
flat_back : (program : Program) → Lawful program → flat_in (file_of (flat_of program)) ≡ done (flat_of program)
flat_back program l = blocks_back (flat_of program) (records program) (lawful_length program l) (omega arith) (few_records program l)

flat_length : (r : List ℕ) (program : Program) → Flattened r program → length r ≡ record_bytes * records program
flat_length r program f = ap length (sym f.own) ∙ lawful_length program f.lawful

-- what the writer writes is read back
back : (r s : List ℕ) → Bytes r → write_file r ≡ done s → read_file s ≡ done r
back r s bs e =
    let w = write-file r s e in
    let f = flattens r w.program bs w.is_read in
    let there : flat_in (file_of r) ≡ done r = subst (λ (l : List ℕ). flat_in (file_of l) ≡ done l) f.own (flat_back w.program f.lawful) in
    file_read s r w.program (ap flat_in (sym w.file) ∙ there) w.is_read

-- the one file of a program
one_file : (program : Program) → Lawful program → OneFile program
unfolding program_in
one_file program l = record {
  file = file_of (flat_of program);
  bytes = file_bytes (flat_of program) (flat_lawful_bytes program l);
  holds = then_done read_program (flat_back program l) ∙ parses program l;
  only = λ s bs e.
      let t = then_inv (flat_in s) read_program program e in
      let f = flattens t.value program (flat_in_bytes s t.value bs t.first) t.second in
      sym (blocks_again s t.value bs t.first) ∙ ap file_of (sym f.own);
}

-- the limits, and the fewest blocks
measured : (r s : List ℕ) (program : Program) → Bytes r → read_program r ≡ done program → write_file r ≡ done s → Measured s r program
measured r s program bs e h =
    let f = flattens r program bs e in
    let l = f.lawful in
    let n = flat_length r program f in
    record {
      some_function = l.some_function;
      few_functions = l.few_functions;
      some_node = some_node program l;
      few_nodes = l.few_nodes;
      records = n;
      blocks = blocks_for (length r);
      whole_blocks = ap length (sym (write-file r s h).file) ∙ length_file r;
      fewest = fewest r (records program) n;
      some_block = rw n (blocks_some (records program) (omega arith));
      few_blocks = rw n (blocks_few (records program) (few_records program l));
    }

-- The theorems of specs/ProgramFiles.antt.
pub program_files : ProgramFiles
program_files = record {
  again = again;
  back = back;
  same_file = same_file;
  one_file = one_file;
  parses = parses;
  flattens = flattens;
  nodes_stand = nodes_stand;
  parts_stand = parts_stand;
  sums_fit = sums_fit;
  measured = measured;
}
