-- Bytes copied one after the other are the bytes written.
use Prim.Native.Nat.{ℕ, ◌+◌, ◌-◌, ◌≤◌, ◌<◌}
use mathlib.Core.List.{List, [], ◌∷◌, ◌++◌}
use mathlib.Core.Path.{◌≡◌, refl, sym, ap, ◌∙◌}
use native.Mathlib.Omega.{arith}
use lib.ListN.{length, get_or, take, set, length-append, length-set}
use lib.Seq.{drop-cons, length-take-le, take-add, take_all}
use Rattle.formats.specs.Written.{written}
use Rattle.formats.proofs.Written.{wrote, written_none, written_one, written_append, written_short}

-- t is s with the first k bytes of vs written at p
pub record Copied (s : List ℕ) (p : ℕ) (vs t : List ℕ) (k : ℕ) : Type 0 where
  pub within : k ≤ length vs
  pub same_length : length t ≡ length s
  pub so_far : t ≡ written s p (take k vs)

pub copy_none : (s : List ℕ) (p : ℕ) (vs : List ℕ) → Copied s p vs s 0
copy_none s p vs = record { within = omega arith; same_length = refl; so_far = sym (written_none s p) }

-- one more byte is copied, right after those that are there
pub copy_more :
    (s : List ℕ) (p : ℕ) (vs t : List ℕ) (k : ℕ)
    → length vs ≤ length s
    → p ≤ length s - length vs
    → k < length vs
    → Copied s p vs t k
    → Copied s p vs (set t (p + k) (get_or vs k 0)) (k + 1)
copy_more s p vs t k small fits more c =
    let taken : length (take k vs) ≡ k = length-take-le k vs (omega arith) in
    let one : take (k + 1) vs ≡ take k vs ++ (get_or vs k 0 ∷ []) =
    take-add k 1 vs ∙ ap (λ (l : List ℕ). take k vs ++ take 1 l) (drop-cons vs k 0 more) in
    let both : p + length (take k vs ++ (get_or vs k 0 ∷ [])) ≤ length s = rw (length-append, taken) (omega arith) in
    let here : p + k < length (written s p (take k vs)) = rw (wrote s p (take k vs)).same_length (omega arith) in
    record {
      within = omega arith;
      same_length = length-set t (p + k) (get_or vs k 0) ∙ c.same_length;
      so_far =
          ap (λ (l : List ℕ). set l (p + k) (get_or vs k 0)) c.so_far
          ∙ written_one (written s p (take k vs)) (p + k) (get_or vs k 0) here
          ∙ (rw taken at (written_append s p (take k vs) (get_or vs k 0 ∷ []) both))
          ∙ ap (written s p) (sym one);
    }

-- the next byte goes to an offset within the buffer
pub copy_offset : (s : List ℕ) (p : ℕ) (vs t : List ℕ) (k : ℕ) → length vs ≤ length s → p ≤ length s - length vs → k < length vs → Copied s p vs t k → p + k < length t
copy_offset s p vs t k small fits more c = omega (arith, c.same_length)

pub copy_length : (s : List ℕ) (p : ℕ) (vs t : List ℕ) (k : ℕ) → Copied s p vs t k → length t ≡ length s
copy_length s p vs t k c = c.same_length

-- all bytes are copied
pub copy_all : (s : List ℕ) (p : ℕ) (vs t : List ℕ) (k : ℕ) → length vs ≤ k → Copied s p vs t k → t ≡ written s p vs
copy_all s p vs t k all c = c.so_far ∙ ap (written s p) (take_all k vs all)

-- the bytes do not fit: there are too many, or the offset is too near the end
pub copy_long : (s : List ℕ) (p : ℕ) (vs : List ℕ) → length s < length vs → s ≡ written s p vs
copy_long s p vs h = sym (written_short s p vs (omega arith))

pub copy_far : (s : List ℕ) (p : ℕ) (vs : List ℕ) → length vs ≤ length s → length s - length vs < p → s ≡ written s p vs
copy_far s p vs small h = sym (written_short s p vs (omega arith))

pub ruleset copied = (copy_none, copy_more, copy_offset, copy_length, copy_all, copy_long, copy_far)
