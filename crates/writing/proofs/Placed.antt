-- Bytes that are put in place of a part are the bytes written there, and those of a number are as
-- the library has them.
use Prim.Native.Nat.{ℕ, ◌+◌, ◌-◌, ◌/◌, ◌%◌, ◌≤◌, ◌<◌, min}
use mathlib.Core.List.{List, [], ◌∷◌}
use mathlib.Core.Path.{◌≡◌, refl, sym, ap, ap₂, ◌∙◌}
use native.Mathlib.Decide.{dec_le}
use native.Mathlib.Omega.{arith}
use borrow.Author.Tests.{le-leb, lt-leb}
use borrow.Rule.Slice.PartMut.{put_mid}
use lib.ListN.{length}
use lib.Seq.{drop-drop}
use Rattle.std.specs.Int.{w16, w32, to_le_bytes}
use Rattle.formats.specs.Numbers.{bytes_of}
use Rattle.formats.specs.Written.{written}
use Rattle.formats.proofs.Written.{written_short}
use Rattle.writing.specs.Inner.Items.{items_written}

module _ {A : Type 0} (s : List A) (p : ℕ) (xs : List A) where
  -- the items do not fit: there are too many, or the offset is too near the end
  pub place_long : length s < length xs → s ≡ items_written s p xs
  unfolding items_written
  place_long h = sym (simp (items_written, lt-leb (p + length xs) (length s) (omega arith)))

  pub place_far : length s - length xs < p → s ≡ items_written s p xs
  unfolding items_written
  place_far h = sym (simp (items_written, lt-leb (p + length xs) (length s) (omega arith)))

  -- they fit, and are put there
  pub place : (k : ℕ) (t : List A) → length xs ≤ length s → p ≤ length s - length xs → k ≡ p + length xs - p → t ≡ xs → put_mid p k s t ≡ items_written s p xs
  unfolding items_written
  place k t small fits size same =
      let end : k ≡ length xs = omega arith in
      let room : p + length xs ≤ length s = omega arith in
      ap₂ (λ (n : ℕ) (bs : List A). put_mid p n s bs) end same ∙ sym (simp (items_written, le-leb (p + length xs) (length s) room, drop-drop))

-- bytes are written as items are
pub as_bytes : (s : List ℕ) (p : ℕ) (vs : List ℕ) → items_written s p vs ≡ written s p vs
unfolding items_written written
as_bytes s p vs = refl

-- an offset past the end may be cut: nothing is written there
pub written_cut : (s : List ℕ) (p q : ℕ) (vs : List ℕ) → length s < q → written s (min p q) vs ≡ written s p vs
written_cut s p q vs past = elim (dec_le p q) [
  | yes within ↦
      let same : min p q ≡ p = omega arith in
      ap (λ n. written s n vs) same
  | no beyond ↦
      let cut : min p q ≡ q = omega arith in
      ap (λ n. written s n vs) cut ∙ written_short s q vs (omega arith) ∙ sym (written_short s p vs (omega arith))
]

-- the bytes of a number of 16 bits, and of 32
pub two_bytes_of : (s t vs : List ℕ) (p n : ℕ) → t ≡ written s p vs → vs ≡ to_le_bytes w16 n → t ≡ written s p (bytes_of 2 n)
unfolding bytes_of
two_bytes_of s t vs p n wrote is = wrote ∙ ap (written s p) is

pub four_bytes_of : (s t vs : List ℕ) (p n : ℕ) → t ≡ written s p vs → vs ≡ to_le_bytes w32 n → t ≡ written s p (bytes_of 4 n)
unfolding bytes_of
four_bytes_of s t vs p n wrote is = wrote ∙ ap (written s p) (is ∙ ap₂ (λ (x y : ℕ). n % 256 ∷ n / 256 % 256 ∷ x ∷ y ∷ []) (omega arith) (omega arith))

-- the same where the offset, and the number whose bytes the library has, are equal to those meant
pub two_bytes_at : (s t vs : List ℕ) (p q n m : ℕ) → t ≡ written s q vs → vs ≡ to_le_bytes w16 m → q ≡ p → m ≡ n → t ≡ written s p (bytes_of 2 n)
two_bytes_at s t vs p q n m wrote is there same = two_bytes_of s t vs p n (wrote ∙ ap (λ (o : ℕ). written s o vs) there) (is ∙ ap (to_le_bytes w16) same)

pub four_bytes_at : (s t vs : List ℕ) (p q n m : ℕ) → t ≡ written s q vs → vs ≡ to_le_bytes w32 m → q ≡ p → m ≡ n → t ≡ written s p (bytes_of 4 n)
four_bytes_at s t vs p q n m wrote is there same = four_bytes_of s t vs p n (wrote ∙ ap (λ (o : ℕ). written s o vs) there) (is ∙ ap (to_le_bytes w32) same)

pub ruleset placed = (place_long, place_far, place)
