-- The code of a program stands where its entries say: in its bytes, whatever bytes come after them,
-- each function's code stands from its entry on.
--
-- An instruction has eight bytes, at eight times its address; they are read as the instruction
-- because its fields fit (Operands). Bytes after do not change what is read. So each instruction
-- stands at its address, and each function at its entry (CodeStands).
use Prim.Native.Nat.{ℕ, ◌+◌, ◌*◌, ◌≤◌, ◌<◌}
use mathlib.Core.List.{List, [], ◌∷◌, ◌++◌, map}
use mathlib.Core.Option.{some, none-ne-some}
use mathlib.Core.Path.{◌≡◌, sym, ap, ◌∙◌}
use native.Mathlib.Decide.{dec_le}
use native.Mathlib.Omega.{arith}
use borrow.Author.Tests.{lt-ltb, le-leb}
use lib.ListN.{length, take, drop, length-append, length-drop, length-map, get_or-append}
use lib.Seq.{take-append-le, drop-append-le}
use Rattle.formats.specs.Numbers.{number_of, number_at}
use Rattle.formats.specs.Records.{record_bytes, Ranged, flat, record_at, nth}
use Rattle.formats.specs.Programs.{Function, Program, Every, Lawful}
use Rattle.formats.proofs.Numbers.{number_at_whole}
use Rattle.formats.proofs.Records.{nth_mapped, none_past, length_flat, at_flat}
use Rattle.meaning.specs.Instructions.{instruction_bytes, most_instructions, held_by, Operation, instruction_of}
use Rattle.translation.specs.Templates.{entry_of, operations_of, code_of}
use Rattle.translation.proofs.Addresses.{Held}
use Rattle.translation.proofs.CodeStands.{Holds, FunctionStands, code_stands}
use Rattle.translation.proofs.Operands.{few_instructions, operands_fit}

-- a number, and a record, are read as if there were no bytes after them
number_front : (width : ℕ) (s rest : List ℕ) (p : ℕ) → p + width ≤ length s → number_at width (s ++ rest) p ≡ number_at width s p
number_front width s rest p h =
    number_at_whole width (s ++ rest) p (omega (arith, length-append s rest))
    ∙ ap (λ l. number_of (take width l)) (drop-append-le p s rest (omega arith))
    ∙ ap number_of (take-append-le width (drop p s) rest (omega (arith, length-drop p s)))
    ∙ sym (number_at_whole width s p h)

record_front : (s rest : List ℕ) (k : ℕ) → record_bytes * k + record_bytes ≤ length s → record_at (s ++ rest) k ≡ record_at s k
unfolding record_at
record_front s rest k h =
    let p = record_bytes * k in
    rw (
      get_or-append s rest 0 p (omega arith),
      get_or-append s rest 0 (p + 1) (omega arith),
      number_front 2 s rest (p + 2) (omega arith),
      number_front 4 s rest (p + 4) (omega arith),
    )

-- an entry of a list has an index below the list's length
nth_within : {A : Type 0} (xs : List A) (k : ℕ) (x : A) → nth xs k ≡ some x → k < length xs
nth_within xs k x e = elim (dec_le (length xs) k) [
  | yes h ↦ absurd (none-ne-some x (sym (none_past xs k h) ∙ e))
  | no h ↦ omega arith
]

-- what holds of each entry's image holds of every entry of the mapped list
every_map : {A B : Type 0} (P : B → Type 0) (h : A → B) (xs : List A) → Every (λ x. P (h x)) xs → Every P (map h xs)
every_map P h [] e = tt
every_map P h (x ∷ xs) e = (e.0, every_map P h xs e.1)

-- an address below the limit with eight whole bytes holds the record there
held_there :
    (bytes : List ℕ) (a : ℕ)
    → a < most_instructions
    → instruction_bytes * a + instruction_bytes ≤ length bytes
    → held_by bytes a ≡ some (record_at bytes a)
unfolding held_by
held_there bytes a h k = rw (held_by, lt-ltb a most_instructions h, le-leb (instruction_bytes * a + instruction_bytes) (length bytes) k)

-- a lawful program's code holds each of its instructions at its address
operation_held :
    (program : Program)
    → Lawful program
    → (after_code : List ℕ) (a : ℕ) (op : Operation)
    → Holds program a op
    → Held (held_by (code_of program ++ after_code)) a op
unfolding code_of
operation_held program lawful after_code a op e =
    let ops = operations_of program in
    let records = map instruction_of ops in
    let few = few_instructions program lawful in
    let there = nth_within ops a op e in
    let whole : instruction_bytes * a + instruction_bytes ≤ length (flat records) =
    omega (arith, length_flat records, length-map ops instruction_of) in
    let fit = every_map Ranged instruction_of ops (operands_fit program lawful) in
    held_there (flat records ++ after_code) a (omega arith) (omega (arith, length-append (flat records) after_code))
    ∙ ap some (record_front (flat records) after_code a whole ∙ at_flat records a (instruction_of op) fit (nth_mapped instruction_of ops a op e))

-- so each of its functions stands at its entry
pub emitted :
    (program : Program)
    → Lawful program
    → (after_code : List ℕ) (b : ℕ) (f : Function)
    → nth program.functions b ≡ some f
    → FunctionStands (Held (held_by (code_of program ++ after_code))) (entry_of program) (entry_of program b) f
emitted program lawful after_code = code_stands _ program (operation_held program lawful after_code)
