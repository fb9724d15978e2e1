-- The digits of a number put into a buffer one by one, and a character after them.
use Prim.Native.Nat.{ℕ, ◌+◌, ◌/◌, ◌%◌, ◌≤◌, ◌<◌}
use mathlib.Core.List.{List, [], ◌∷◌}
use mathlib.Core.Path.{◌≡◌, refl}
use native.Mathlib.Omega.{arith}
use lib.ListN.{length, set, length-append, length-set}
use Rattle.formats.proofs.Written.{written_one}
use Rattle.formats.specs.Characters.{digit_zero}
use Rattle.formats.specs.Decimal.{decimal}
use Rattle.formats.proofs.Decimal.{decimal_one, decimal_more}
use Rattle.translation.specs.ListingText.{field}
use Rattle.listing.specs.PrintedText.{Puts}
use Rattle.listing.proofs.Fields.{put_length, put_both}

pub put_one : (s : List ℕ) (p v : ℕ) → p < length s → Puts s (set s p v) p (v ∷ []) (p + 1)
put_one s p v h = record { buffer = written_one s p v h; end = refl; inside = omega (arith, length-set s p v) }

-- ---- a number

module _ (s : List ℕ) (p n : ℕ) (room : p + length (decimal n) ≤ length s) where
  pub digit_offset : n < 10 → p < length s
  digit_offset h = omega (arith, rw (decimal_one n h) at room)

  pub digit_put : (t : List ℕ) (r : ℕ) → n < 10 → Puts s t p ((digit_zero + n) ∷ []) r → Puts s t p (decimal n) r
  digit_put t r h put = rw (decimal_one n h) put

  module _ (more : 10 ≤ n) where
    split : length (decimal n) ≡ length (decimal (n / 10)) + 1
    split = rw (decimal_more n more) (length-append (decimal (n / 10)) ((digit_zero + n % 10) ∷ []))

    pub tenth_room : p + length (decimal (n / 10)) ≤ length s
    tenth_room = omega (arith, split)

    module _ (t : List ℕ) (q : ℕ) (put : Puts s t p (decimal (n / 10)) q) where
      pub last_offset : q < length t
      last_offset = omega (arith, split, put.end, put_length s t p _ q put)

      pub last_put : (u : List ℕ) (r : ℕ) → Puts t u q ((digit_zero + n % 10) ∷ []) r → Puts s u p (decimal n) r
      last_put u r digit = rw (decimal_more n more) (put_both s t u p q r _ _ put digit)

pub ruleset number_ways = (digit_offset, digit_put, tenth_room, last_offset, last_put)

-- ---- a number, and a character after it

module _ (s : List ℕ) (p n after : ℕ) (room : p + length (field n after) ≤ length s) where
  field_split : length (field n after) ≡ length (decimal n) + 1
  unfolding field
  field_split = length-append (decimal n) (after ∷ [])

  pub number_room : p + length (decimal n) ≤ length s
  number_room = omega (arith, field_split)

  module _ (t : List ℕ) (q : ℕ) (put : Puts s t p (decimal n) q) where
    pub after_offset : q < length t
    after_offset = omega (arith, field_split, put.end, put_length s t p _ q put)

    pub field_put : (u : List ℕ) (r : ℕ) → Puts t u q (after ∷ []) r → Puts s u p (field n after) r
    unfolding field
    field_put u r byte = put_both s t u p q r (decimal n) (after ∷ []) put byte
