-- Instructions written into a part of the code buffer: instructions written in front of others, or
-- after them, are as if all were written at once.
use Prim.Native.Nat.{ℕ, suc, ◌+◌, ◌*◌, ◌≤◌}
use mathlib.Core.List.{List, [], ◌∷◌, ◌++◌, append_assoc, append-nil, map}
use mathlib.Core.Path.{◌≡◌, refl, sym, ap, ◌∙◌}
use native.Mathlib.Omega.{arith}
use lib.ListN.{length, length-append, length-map}
use Rattle.formats.specs.Records.{record_bytes, bytes_of_record, flat}
use Rattle.formats.specs.Written.{written}
use Rattle.formats.proofs.Records.{length_flat}
use Rattle.formats.proofs.Written.{written_append, written_front, written_none, wrote}
use Rattle.meaning.specs.Instructions.{Operation, instruction_of}
use Rattle.emit_items.specs.Inner.Operations.{put, put_all}
use Rattle.translate.specs.Inner.Emitting.{emitted_at}

-- their bytes
abbrev bytes : List Operation → List ℕ
bytes ops = flat (map instruction_of ops)

bytes_append : (xs ys : List Operation) → bytes (xs ++ ys) ≡ bytes xs ++ bytes ys
unfolding flat
bytes_append [] ys = refl
bytes_append (x ∷ xs) ys =
    ap (λ (l : List ℕ). bytes_of_record (instruction_of x) ++ l) (bytes_append xs ys) ∙ sym (append_assoc (bytes_of_record (instruction_of x)) (bytes xs) (bytes ys))

pub length_bytes : (ops : List Operation) → length (bytes ops) ≡ record_bytes * length ops
length_bytes ops = length_flat (map instruction_of ops) ∙ ap (λ n. record_bytes * n) (length-map ops instruction_of)

module _ (s : List ℕ) (a : ℕ) where
  pub length_emitted : (ops : List Operation) → length (emitted_at s a ops) ≡ length s
  unfolding emitted_at
  length_emitted ops = (wrote s (record_bytes * a) (bytes ops)).same_length

  -- nothing
  pub emitted_none : emitted_at s a [] ≡ s
  unfolding emitted_at flat
  emitted_none = written_none s (record_bytes * a)

  module _ (xs ys : List Operation) (b : ℕ) (position : b ≡ a + length xs) (fits : record_bytes * (b + length ys) ≤ length s) where
    -- both fit
    both_fit : record_bytes * a + length (bytes xs ++ bytes ys) ≤ length s
    both_fit = omega (arith, length-append (bytes xs) (bytes ys), length_bytes xs, length_bytes ys)

    position_bytes : record_bytes * b ≡ record_bytes * a + length (bytes xs)
    position_bytes = omega (arith, length_bytes xs)

    -- instructions after others
    pub emitted_beyond : emitted_at (emitted_at s a xs) b ys ≡ emitted_at s a (xs ++ ys)
    unfolding emitted_at
    emitted_beyond =
        ap (λ n. written (written s (record_bytes * a) (bytes xs)) n (bytes ys)) position_bytes
        ∙ written_append s (record_bytes * a) (bytes xs) (bytes ys) both_fit
        ∙ ap (written s (record_bytes * a)) (sym (bytes_append xs ys))

    -- instructions in front of others
    pub emitted_front : emitted_at (emitted_at s b ys) a xs ≡ emitted_at s a (xs ++ ys)
    unfolding emitted_at
    emitted_front =
        ap (λ n. written (written s n (bytes ys)) (record_bytes * a) (bytes xs)) position_bytes
        ∙ written_front s (record_bytes * a) (bytes xs) (bytes ys) both_fit
        ∙ ap (written s (record_bytes * a)) (sym (bytes_append xs ys))

-- one instruction
pub emitted_one : (s : List ℕ) (a : ℕ) (op : Operation) → put s a op ≡ emitted_at s a (op ∷ [])
unfolding emitted_at flat
emitted_one s a op = ap (written s (record_bytes * a)) (sym (append-nil (bytes_of_record (instruction_of op))))

-- one after the other, where they fit
pub emitted_each : (s : List ℕ) (a : ℕ) (ops : List Operation) → record_bytes * (a + length ops) ≤ length s → put_all s a ops ≡ emitted_at s a ops
unfolding put_all
emitted_each s a [] fits = sym (emitted_none s a)
emitted_each s a (op ∷ ops) fits =
    let first = emitted_one s a op in
    let long : length (put s a op) ≡ length s = ap length first ∙ length_emitted s a (op ∷ []) in
    emitted_each (put s a op) (suc a) ops (omega arith)
    ∙ ap (λ (l : List ℕ). emitted_at l (suc a) ops) first
    ∙ emitted_beyond s a (op ∷ []) ops (suc a) (omega arith) (omega arith)
