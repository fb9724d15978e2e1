-- The fields of an instruction, read from its own bytes: they are those of the record that the code
-- holds at the address.
use Rattle.std.specs.Simd.{first_chunks}
use Prim.Native.Nat.{ℕ, zero, suc, ◌+◌, ◌*◌, ◌/◌, ◌≤◌, ◌<◌}
use mathlib.Core.List.{List, [], ◌∷◌}
use mathlib.Core.Path.{◌≡◌, refl, sym, ap, ap₂, ◌∙◌}
use native.Mathlib.Nat.{add-zero, add_assoc, mul-zero}
use native.Mathlib.Omega.{arith}
use lib.ListN.{length, get_or, take, drop}
use lib.Seq.{get_or-take, get_or-drop, drop-drop, length-take-le}
use Rattle.std.proofs.lemmas.List.{length-drop}
use Rattle.formats.specs.Numbers.{number_of, number_at}
use Rattle.formats.specs.Records.{record_at}
use Rattle.formats.proofs.Numbers.{bytes_from, number-read}
use Rattle.meaning.specs.Instructions.{instruction_bytes}

-- a number whose bytes are all there is what these bytes stand for
number-of : (width : ℕ) (s : List ℕ) (p : ℕ) → p + width ≤ length s → number_at width s p ≡ number_of (bytes_from width s p 0)
number-of width s p h = sym (number-read width s p _ _ (omega arith) (omega arith) refl refl)

-- ---- `fetch`

-- a chunk is so many elements from its place on
chunk_at : (n k : ℕ) (xs : List ℕ) (i : ℕ) → i < k → get_or (first_chunks n k xs) i [] ≡ take n (drop (n * i) xs)
chunk_at n zero xs i h = absurd (omega arith)
chunk_at n (suc k) xs zero h = rw (mul-zero n) refl
chunk_at n (suc k) xs (suc i) h =
    let next : n + n * i ≡ n * suc i = omega arith in
    chunk_at n k (drop n xs) i (omega arith) ∙ ap (take n) (drop-drop (n * i) n xs ∙ ap (λ j. drop j xs) next)

module _ (code : List ℕ) (address : ℕ) (whole : instruction_bytes * address + instruction_bytes ≤ length code) where
  abbrev p : ℕ
  p = instruction_bytes * address

  -- the instruction's own bytes
  abbrev own : List ℕ
  own = take instruction_bytes (drop p code)

  -- a byte, several bytes or a number of them is that of the code there
  byte_there : (k : ℕ) → k < instruction_bytes → get_or own k 0 ≡ get_or code (p + k) 0
  byte_there k h =
      get_or-take instruction_bytes (drop p code) k 0 h ∙ get_or-drop p code k 0

  bytes_there : (width k j : ℕ) → k + j + width ≤ instruction_bytes → bytes_from width own k j ≡ bytes_from width code (p + k) j
  bytes_there zero k j h = refl
  bytes_there (suc width) k j h =
      let first : get_or own (k + j) 0 ≡ get_or code (p + k + j) 0 =
      byte_there (k + j) (omega arith) ∙ ap (λ q. get_or code q 0) (sym (add_assoc p k j)) in
      ap₂ ◌∷◌ first (bytes_there width k (suc j) (omega arith))

  number_there : (width k : ℕ) → k + width ≤ instruction_bytes → number_at width own k ≡ number_at width code (p + k)
  number_there width k h =
      let long : length own ≡ instruction_bytes = length-take-le instruction_bytes (drop p code) (omega (arith, length-drop p code)) in
      number-of width own k (omega arith) ∙ ap number_of (bytes_there width k 0 (omega arith)) ∙ sym (number-of width code (p + k) (omega arith))

  -- they hold the record at the address
  pub record_there : record_at own 0 ≡ record_at code address
  unfolding record_at
  record_there =
      let opcode : get_or own 0 0 ≡ get_or code p 0 = byte_there 0 (omega arith) ∙ ap (λ q. get_or code q 0) (add-zero p) in
      let byte1 : get_or own 1 0 ≡ get_or code (p + 1) 0 = byte_there 1 (omega arith) in
      let operand : number_at 2 own 2 ≡ number_at 2 code (p + 2) = number_there 2 2 (omega arith) in
      let number : number_at 4 own 4 ≡ number_at 4 code (p + 4) = number_there 4 4 (omega arith) in
      cc (opcode, byte1, operand, number)

  -- .. where the code is taken as instructions
  pub record_fetched : (instructions : List (List ℕ)) → instructions ≡ first_chunks instruction_bytes (length code / instruction_bytes) code
      → record_at (get_or instructions address []) 0 ≡ record_at code address
  record_fetched instructions is =
      let this : get_or instructions address [] ≡ own =
      ap (λ (l : List (List ℕ)). get_or l address []) is ∙ chunk_at instruction_bytes (length code / instruction_bytes) code address (omega arith) in
      ap (λ (l : List ℕ). record_at l 0) this ∙ record_there
