-- A number with its sign: its magnitude, by numbers of 32 bits, and its text, the sign put by
-- itself.
use Prim.Native.Nat.{ℕ, suc, ◌+◌, ◌-◌, ◌≤◌, ◌<◌}
use mathlib.Core.Bool.{true, false}
use mathlib.Core.List.{List, [], ◌∷◌, ◌++◌}
use mathlib.Core.Path.{◌≡◌, refl, sym, ap, subst, ◌∙◌}
use native.Mathlib.Omega.{arith}
use lib.Dec.{T}
use lib.IntN.{ℤ, pos, negsuc, nat_abs, ◌-ℤ◌}
use lib.ListN.{length}
use lib.Signed.{lt_z, non_neg, mag}
use mir.Syntax.{w32, w64}
use mir.Val.{Fits, SFits, to_z, of_z}
use mir.Facts.{to_z-of_z, Fits-of_lt}
use borrow.Author.Tests.{ltb-true, le-ltb}
use Rattle.formats.specs.Characters.{newline, minus}
use Rattle.translation.specs.ListingText.{field, signed_field}
use Rattle.listing.specs.PrintedText.{Puts}
use Rattle.listing.proofs.Fields.{put_both, put_length}

-- the number that the code reads off a word
abbrev read : ℤ → ℤ
read n = to_z w32 (of_z w32 n)

-- ---- the magnitude

-- -1 - n, where n is below 0
flipped : (n : ℤ) → lt_z n (pos 0) ≡ true → negsuc 0 -ℤ n ≡ pos (mag n)
flipped (pos k) h = absurd (omega (arith, ltb-true k 0 h))
flipped (negsuc k) h =
    let one : 1 ≤ suc k = omega arith in
    let less : suc k - 1 ≡ k = omega arith in
    rw (le-ltb (suc k) 1 one) (ap pos less)

-- the magnitude on either side of 0
below : (n : ℤ) → lt_z n (pos 0) ≡ true → mag n + 1 ≡ nat_abs n
below (pos k) h = absurd (omega (arith, ltb-true k 0 h))
below (negsuc k) h = omega arith

above : (n : ℤ) → lt_z n (pos 0) ≡ false → n ≡ pos (nat_abs n)
above (pos k) h = refl
above (negsuc k) h = let z : ◌≡◌ {A = ℕ} 0 1 = cc in absurd (omega arith)

same_size : (n : ℤ) → lt_z n (pos 0) ≡ false → nat_abs n ≡ mag n
same_size (pos k) h = refl
same_size (negsuc k) h = let z : ◌≡◌ {A = ℕ} 0 1 = cc in absurd (omega arith)

module _ (n : ℤ) (fits : SFits w32 n) where
  as_read : (t : _) → lt_z (read n) (pos 0) ≡ t → lt_z n (pos 0) ≡ t
  as_read t h = ap (λ z. lt_z z (pos 0)) (sym (to_z-of_z fits)) ∙ h

  module _ (h : lt_z (read n) (pos 0) ≡ true) where
    raw : negsuc 0 -ℤ read n ≡ pos (mag n)
    raw = ap (λ z. negsuc 0 -ℤ z) (to_z-of_z fits) ∙ flipped n (as_read true h)

    pub flip_fits : SFits w32 (negsuc 0 -ℤ read n)
    flip_fits = subst (SFits w32) (sym raw) (record { sfits = fits.sfits })

    again : read (negsuc 0 -ℤ read n) ≡ pos (mag n)
    again = to_z-of_z flip_fits ∙ raw

    pub flip_cast : T (non_neg (read (negsuc 0 -ℤ read n))) × Fits w64 (nat_abs (read (negsuc 0 -ℤ read n)))
    flip_cast = subst (λ z. T (non_neg z) × Fits w64 (nat_abs z)) (sym again) (tt, Fits-of_lt (omega (arith, fits.sfits)))

    pub flip_sum : Fits w64 (nat_abs (read (negsuc 0 -ℤ read n)) + 1)
    flip_sum = subst (λ z. Fits w64 (nat_abs z + 1)) (sym again) (Fits-of_lt (omega (arith, fits.sfits)))

    pub magnitude_below : nat_abs (read (negsuc 0 -ℤ read n)) + 1 ≡ nat_abs n
    magnitude_below = ap (λ z. nat_abs z + 1) again ∙ below n (as_read true h)

  module _ (h : lt_z (read n) (pos 0) ≡ false) where
    pub plain_cast : T (non_neg (read n)) × Fits w64 (nat_abs (read n))
    plain_cast =
        subst (λ z. T (non_neg z) × Fits w64 (nat_abs z)) (sym (to_z-of_z fits ∙ above n (as_read false h)))
        (tt, Fits-of_lt (omega (arith, fits.sfits, same_size n (as_read false h))))

    pub magnitude_above : nat_abs (read n) ≡ nat_abs n
    magnitude_above = ap nat_abs (to_z-of_z fits)

-- ---- the text

text_below : (n : ℤ) → lt_z n (pos 0) ≡ true → signed_field n ≡ (minus ∷ []) ++ field (nat_abs n) newline
unfolding signed_field
text_below (pos k) h = absurd (omega (arith, ltb-true k 0 h))
text_below (negsuc k) h = refl

text_above : (n : ℤ) → lt_z n (pos 0) ≡ false → signed_field n ≡ field (nat_abs n) newline
unfolding signed_field
text_above (pos k) h = refl
text_above (negsuc k) h = let z : ◌≡◌ {A = ℕ} 0 1 = cc in absurd (omega arith)

module _ (s : List ℕ) (p : ℕ) (n : ℤ) (fits : SFits w32 n) (room : p + length (signed_field n) ≤ length s) (size : ℕ) (reported : size ≡ nat_abs (read n)) where
  is_size : nat_abs n ≡ size
  is_size = sym (reported ∙ ap nat_abs (to_z-of_z fits))

  module _ (h : lt_z (read n) (pos 0) ≡ true) where
    text : signed_field n ≡ (minus ∷ []) ++ field size newline
    text = text_below n (as_read n fits true h) ∙ ap (λ k. (minus ∷ []) ++ field k newline) is_size

    pub sign_offset : p < length s
    sign_offset = omega (arith, ap length text)

    module _ (t : List ℕ) (q : ℕ) (sign : Puts s t p (minus ∷ []) q) where
      pub size_room : q + length (field size newline) ≤ length t
      size_room = omega (arith, ap length text, sign.end, put_length s t p _ q sign)

      pub signed_put : (u : List ℕ) (r : ℕ) → Puts t u q (field size newline) r → Puts s u p (signed_field n) r
      signed_put u r digits = rw text (put_both s t u p q r (minus ∷ []) (field size newline) sign digits)

  module _ (h : lt_z (read n) (pos 0) ≡ false) where
    plain_text : signed_field n ≡ field size newline
    plain_text = text_above n (as_read n fits false h) ∙ ap (λ k. field k newline) is_size

    pub plain_room : p + length (field size newline) ≤ length s
    plain_room = rw plain_text at room

    pub plain_put : (t : List ℕ) (r : ℕ) → Puts s t p (field size newline) r → Puts s t p (signed_field n) r
    plain_put t r put = rw plain_text put

pub ruleset signed_ways = (sign_offset, size_room, signed_put, plain_room, plain_put)
