-- The number that a word stands for, and the exact sum of two such numbers as `result_of` has it: a
-- number that fits 32 bits has its word, and another has none.
use Rattle.std.proofs.Common.{◌≡◌, ℕ, zero, suc, ◌+◌, ◌-◌, ◌%◌, ◌^◌, ◌<◌, ◌≤◌, Bool, true, false, ltb, ℤ, pos, negsuc, ◌+ℤ◌, ◌-ℤ◌, refl, sym, ap, ap₂, ◌∙◌, zero-add, arith, mod-lt, lit<, w32, w64, Fits, SFits, to_z, of_z, to_z-of_z, lt-ltb, le-ltb}
use mathlib.Core.Option.{none, some}
use mir.Val.{sel}
use mir.Facts.{to_z_pos, sfits_to_z}
use native.Mathlib.Decide.{dec_lt}
use Rattle.std.proofs.lemmas.Int.{of_z-to_z, ints, fits_signed_from_abs, wrapping_add-bits, int_wrap_fits}
use Rattle.formats.specs.Numbers.{signed32}
use Rattle.formats.specs.Arithmetic.{plus, word_for, unbounded, result_of}

-- signed operations read this number off a word
pub signed_is : (w : ℕ) → to_z w32 w ≡ signed32 w
unfolding signed32
signed_is w = picked (ltb w (2 ^ 31)) (pos w) (negsuc (2 ^ 32 - suc w))
  where
    picked : (b : Bool) (x y : ℤ) → sel b x y ≡ elim b [ true ↦ x | false ↦ y ]
    picked true x y = refl
    picked false x y = refl

-- A word of the upper half is as far below 2^32 - 1 as its number is below -1.

-- k below -1
below_minus_one : (k : ℕ) → negsuc 0 -ℤ pos k ≡ negsuc k
below_minus_one zero = refl
below_minus_one (suc k) = ap (λ (n : ℕ). negsuc (suc n)) (zero-add k)

-- the number of a word of the upper half ..
pub signed_high : (w : ℕ) → Fits w32 w → 2147483648 ≤ w → negsuc 0 -ℤ to_z w32 (4294967295 - w) ≡ signed32 w
unfolding signed32
signed_high w fits high =
    let small : 4294967295 - w < 2147483648 = omega arith in
    let same : 4294967295 - w ≡ 4294967296 - suc w = omega arith in
    rw (to_z_pos w32 small, le-ltb w 2147483648 high, signed32) (below_minus_one (4294967295 - w) ∙ ap negsuc same)

-- .. fits, since it is read off a word
pub signed_high_fits : (w : ℕ) → Fits w32 w → 2147483648 ≤ w → SFits w32 (negsuc 0 -ℤ to_z w32 (4294967295 - w))
signed_high_fits w fits high = rw (signed_high w fits high, ← (signed_is w)) (sfits_to_z fits)

-- the word for a number that fits ..
word_there : (z : ℤ) → SFits w32 z → some (of_z w32 z) ≡ word_for z
unfolding word_for
word_there (pos n) fits = sym (simp (word_for, lt-ltb n (2 ^ 31) fits.sfits))
word_there (negsuc n) fits = sym (simp (word_for, lt-ltb n (2 ^ 31) fits.sfits))

-- .. and for another
large : (n : ℕ) → ¬ (n < 2 ^ 31) → 2 ^ 31 ≤ n
large n out = by_half (dec_lt n (2 ^ 31))
  where
    by_half : Dec (n < 2 ^ 31) → 2 ^ 31 ≤ n
    by_half (yes small) = absurd (out small)
    by_half (no most) = omega arith

word_missing : (z : ℤ) → ¬ (SFits w32 z) → none ≡ word_for z
unfolding word_for
word_missing (pos n) out = sym (simp (word_for, le-ltb n (2 ^ 31) (large n (λ small. out (record { sfits = small })))))
word_missing (negsuc n) out = sym (simp (word_for, le-ltb n (2 ^ 31) (large n (λ small. out (record { sfits = small })))))

-- In 64 bits the sum of two such numbers is exact. 2^31 is added to it, modulo 2^64.
sum_fits : (x y : ℤ) → SFits w32 x → SFits w32 y → SFits w64 (x +ℤ y)
sum_fits x y fx fy = fits_signed_from_abs w64 (x +ℤ y) (omega (arith, ints, fx.sfits, fy.sfits))

raised_fits : (x y : ℤ) → SFits w32 x → SFits w32 y → SFits w64 (x +ℤ y +ℤ pos 2147483648)
raised_fits x y fx fy = fits_signed_from_abs w64 (x +ℤ y +ℤ pos 2147483648) (omega (arith, ints, fx.sfits, fy.sfits))

above_range : (z : ℤ) → SFits w64 (z +ℤ pos 2147483648) → 4294967295 < of_z w64 (z +ℤ pos 2147483648) → ¬ (SFits w32 z)
above_range z f above fits = absurd (omega (arith, ints, f.sfits, fits.sfits))

-- as far below -1 as n, and 2^31 more
raised_low : (n test : ℕ) → test ≡ of_z w64 (negsuc n +ℤ pos 2147483648) → n < 9223372036854775808 → test ≤ 4294967295 → n < 2147483648
raised_low n test is small most = grind (arith, ints)

in_range : (z : ℤ) → SFits w64 (z +ℤ pos 2147483648) → SFits w64 z → of_z w64 (z +ℤ pos 2147483648) ≤ 4294967295 → SFits w32 z
in_range (pos n) f g most = record { sfits = omega (arith, f.sfits) }
in_range (negsuc n) f g most = record { sfits = raised_low n _ refl g.sfits most }

-- what a call or a sum of 64 bits is given, written to its bits and read off them
abbrev read64 : ℤ → ℤ
read64 z = to_z w64 (of_z w64 z)

wide : {z : ℤ} → SFits w32 z → SFits w64 z
wide f = record { sfits = omega (arith, f.sfits) }

module _ (a b : ℕ) (a_fits : Fits w32 a) (b_fits : Fits w32 b) where
  abbrev sum : ℤ
  sum = to_z w32 a +ℤ to_z w32 b

  sum_is : word_for sum ≡ result_of plus a b
  unfolding result_of unbounded
  sum_is = ap₂ (λ (x y : ℤ). word_for (x +ℤ y)) (signed_is a) (signed_is b)

  raised : SFits w64 (sum +ℤ pos 2147483648)
  raised = raised_fits (to_z w32 a) (to_z w32 b) (sfits_to_z a_fits) (sfits_to_z b_fits)

  exact : SFits w64 sum
  exact = sum_fits (to_z w32 a) (to_z w32 b) (sfits_to_z a_fits) (sfits_to_z b_fits)

  -- what is compared
  test_is : (x y p q : ℤ) → x ≡ to_z w32 a → y ≡ to_z w32 b → p ≡ to_z w32 (of_z w32 x) → q ≡ to_z w32 (of_z w32 y)
      → of_z w64 (read64 (read64 (read64 p +ℤ read64 q) +ℤ pos 2147483648)) ≡ of_z w64 (sum +ℤ pos 2147483648)
  test_is x y p q x_is y_is p_is q_is =
      let left : read64 p ≡ to_z w32 a = ap read64 (p_is ∙ ap (λ (z : ℤ). to_z w32 (of_z w32 z)) x_is ∙ to_z-of_z {w = w32} (sfits_to_z a_fits)) ∙ to_z-of_z {w = w64} (wide (sfits_to_z a_fits)) in
      let right : read64 q ≡ to_z w32 b = ap read64 (q_is ∙ ap (λ (z : ℤ). to_z w32 (of_z w32 z)) y_is ∙ to_z-of_z {w = w32} (sfits_to_z b_fits)) ∙ to_z-of_z {w = w64} (wide (sfits_to_z b_fits)) in
      ap₂ (λ (i j : ℤ). of_z w64 (read64 (read64 (i +ℤ j) +ℤ pos 2147483648))) left right
      ∙ ap (λ (i : ℤ). of_z w64 (read64 (i +ℤ pos 2147483648))) (to_z-of_z {w = w64} exact)
      ∙ ap (of_z w64) (to_z-of_z {w = w64} raised)

  -- above 2^32 - 1 the sum is out of range
  pub sum_missing : (x y p q : ℤ) (test : ℕ) → x ≡ to_z w32 a → y ≡ to_z w32 b → p ≡ to_z w32 (of_z w32 x) → q ≡ to_z w32 (of_z w32 y)
      → test ≡ of_z w64 (read64 (read64 (read64 p +ℤ read64 q) +ℤ pos 2147483648)) → 4294967295 < test → none ≡ result_of plus a b
  sum_missing x y p q test x_is y_is p_is q_is is above =
      let t = is ∙ test_is x y p q x_is y_is p_is q_is in
      word_missing sum (above_range sum raised (rw t at above)) ∙ sum_is

  -- and up to there it is in range
  pub sum_word : (x y p q : ℤ) (test w : ℕ) → x ≡ to_z w32 a → y ≡ to_z w32 b → p ≡ to_z w32 (of_z w32 x) → q ≡ to_z w32 (of_z w32 y)
      → test ≡ of_z w64 (read64 (read64 (read64 p +ℤ read64 q) +ℤ pos 2147483648)) → test ≤ 4294967295 → w ≡ (a + b) % 2 ^ 32 → some w ≡ result_of plus a b
  sum_word x y p q test w x_is y_is p_is q_is is most word =
      let t = is ∙ test_is x y p q x_is y_is p_is q_is in
      let fits : SFits w32 sum = in_range sum raised exact (rw t at most) in
      let low : (a + b) % 2 ^ 32 < 2 ^ 32 = mod-lt (a + b) (lit< tt) in
      let whole : to_z w32 ((a + b) % 2 ^ 32) ≡ sum = wrapping_add-bits w32 a b a_fits.fits b_fits.fits ∙ int_wrap_fits w32 sum fits in
      ap some (word ∙ sym (of_z-to_z w32 ((a + b) % 2 ^ 32) low) ∙ ap (of_z w32) whole) ∙ word_there sum fits ∙ sum_is

pub ruleset sum_ways = (sum_missing, sum_word)
