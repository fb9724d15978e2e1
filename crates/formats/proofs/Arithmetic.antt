-- Laws of specs/Arithmetic.
use Prim.Native.Nat.{ℕ, suc, ◌+◌, ◌-◌, ◌%◌, ◌^◌, ◌≤◌, ◌<◌}
use mathlib.Core.Bool.{Bool, true, false, cond}
use mathlib.Core.Logic.{◌⊎◌, inl, inr}
use mathlib.Core.Option.{none, some, some-injective, none-ne-some}
use mathlib.Core.Path.{◌≡◌, refl, sym, ap, ◌∙◌}
use native.Mathlib.Nat.{add_comm}
use native.Mathlib.Decide.{dec_lt}
use native.Mathlib.Omega.{arith}
use borrow.Author.Tests.{ltb-true, ltb-false, lt-ltb, le-ltb}
use lib.Dec.{ltb}
use lib.IntN.{ℤ, pos, negsuc, sub_ℕ}
use Rattle.formats.specs.Numbers.{signed32}
use Rattle.formats.specs.Arithmetic.{Op, plus, unbounded, word_for, result_of, ResultsStand}

-- ---- numbers and their words

-- a number and the word that stands for it
data Worded : ℤ → ℕ → Type 0 where
  above : (n : ℕ) → n < 2 ^ 31 → Worded (pos n) n
  below : (n : ℕ) → n < 2 ^ 31 → Worded (negsuc n) (2 ^ 32 - suc n)

worded : (z : ℤ) (x : ℕ) → word_for z ≡ some x → Worded z x
unfolding word_for
worded (pos n) x e = by_test (ltb n (2 ^ 31)) refl e
  where
    by_test : (b : Bool) → ltb n (2 ^ 31) ≡ b → elim b [ true ↦ some n | false ↦ none ] ≡ some x → Worded (pos n) x
    by_test true small is = rw (← (some-injective n x is)) (above n (ltb-true n (2 ^ 31) small))
    by_test false large is = absurd (none-ne-some x is)
worded (negsuc n) x e = by_test (ltb n (2 ^ 31)) refl e
  where
    by_test : (b : Bool) → ltb n (2 ^ 31) ≡ b → elim b [ true ↦ some (2 ^ 32 - suc n) | false ↦ none ] ≡ some x → Worded (negsuc n) x
    by_test true small is = rw (← (some-injective (2 ^ 32 - suc n) x is)) (below n (ltb-true n (2 ^ 31) small))
    by_test false large is = absurd (none-ne-some x is)

-- a word has 32 bits, and so has a result
word_fits : {z : ℤ} {x : ℕ} → Worded z x → x < 2 ^ 32
word_fits (above n small) = omega arith
word_fits (below n small) = omega arith

pub result_fits : (op : Op) (i j : ℕ) {x : ℕ} → result_of op i j ≡ some x → x < 2 ^ 32
unfolding result_of
result_fits op i j {x} e = word_fits (worded _ x e)

-- a number in range has a word, and one out of range has none
word_above : (n : ℕ) → n < 2 ^ 31 → word_for (pos n) ≡ some n
unfolding word_for
word_above n small = simp (word_for, lt-ltb n (2 ^ 31) small)

none_above : (n : ℕ) → 2 ^ 31 ≤ n → word_for (pos n) ≡ none
unfolding word_for
none_above n large = simp (word_for, le-ltb n (2 ^ 31) large)

word_below : (n : ℕ) → n < 2 ^ 31 → word_for (negsuc n) ≡ some (2 ^ 32 - suc n)
unfolding word_for
word_below n small = simp (word_for, lt-ltb n (2 ^ 31) small)

none_below : (n : ℕ) → 2 ^ 31 ≤ n → word_for (negsuc n) ≡ none
unfolding word_for
none_below n large = simp (word_for, le-ltb n (2 ^ 31) large)

-- the number that a word of either half stands for
number_low : (w : ℕ) → w < 2 ^ 31 → signed32 w ≡ pos w
unfolding signed32
number_low w low = simp (signed32, lt-ltb w (2 ^ 31) low)

number_high : (w : ℕ) → 2 ^ 31 ≤ w → signed32 w ≡ negsuc (2 ^ 32 - suc w)
unfolding signed32
number_high w high = simp (signed32, le-ltb w (2 ^ 31) high)

-- the word that stands for a number stands for it
word_stands : {z : ℤ} {x : ℕ} → Worded z x → signed32 x ≡ z
word_stands (above n small) = number_low n small
word_stands (below n small) = number_high (2 ^ 32 - suc n) (omega arith) ∙ ap negsuc (omega arith)

-- and a number that a word stands for has it
word_found : (x : ℕ) → x < 2 ^ 32 → word_for (signed32 x) ≡ some x
word_found x fits = by_half (dec_lt x (2 ^ 31))
  where
    by_half : Dec (x < 2 ^ 31) → word_for (signed32 x) ≡ some x
    by_half (yes low) = rw (number_low x low) (word_above x low)
    by_half (no high) =
        let upper : 2 ^ 31 ≤ x = omega arith in
        rw (number_high x upper) (word_below (2 ^ 32 - suc x) (omega arith) ∙ ap some (omega arith))

-- what the words of results stand for
pub results_stand : ResultsStand
unfolding result_of
results_stand = record {
  stands = λ op a b x e. (result_fits op a b e, word_stands (worded _ x e));
  missing = λ op a b x e fits is. none-ne-some x (sym e ∙ rw (← is) (word_found x fits));
}

-- ---- sums

-- a number at least 0 and one below 0 have a sum in range, whose word is the sum modulo 2^32
mixed : (a b : ℕ) → a < 2 ^ 31 → 2 ^ 31 ≤ b → b < 2 ^ 32 → word_for (sub_ℕ a (suc (2 ^ 32 - suc b))) ≡ some ((a + b) % 2 ^ 32)
mixed a b la hb fits = by_test (ltb a (suc (2 ^ 32 - suc b))) refl
  where
    by_test : (t : Bool) → ltb a (suc (2 ^ 32 - suc b)) ≡ t
        → word_for (cond t (negsuc (suc (2 ^ 32 - suc b) - suc a)) (pos (a - suc (2 ^ 32 - suc b)))) ≡ some ((a + b) % 2 ^ 32)
    by_test true e = let less : a < suc (2 ^ 32 - suc b) = ltb-true _ _ e in word_below _ (omega arith) ∙ ap some (omega arith)
    by_test false e = let most : suc (2 ^ 32 - suc b) ≤ a = ltb-false _ _ e in word_above _ (omega arith) ∙ ap some (omega arith)

-- The number of a word and 2^31 more, which is never below 0.
abbrev pub biased : ℕ → ℕ
biased w = (w + 2147483648) % 4294967296

module _ (a b : ℕ) (a_fits : a < 2 ^ 32) (b_fits : b < 2 ^ 32) where
  -- both are at least 0, one is below 0, both are
  low_low : a < 2 ^ 31 → b < 2 ^ 31 → result_of plus a b ≡ word_for (pos (a + b))
  unfolding result_of unbounded
  low_low la lb = simp (result_of, unbounded, number_low a la, number_low b lb)

  low_high : a < 2 ^ 31 → 2 ^ 31 ≤ b → result_of plus a b ≡ some ((a + b) % 2 ^ 32)
  unfolding result_of unbounded
  low_high la hb = simp (result_of, unbounded, number_low a la, number_high b hb) (mixed a b la hb b_fits)

  high_low : 2 ^ 31 ≤ a → b < 2 ^ 31 → result_of plus a b ≡ some ((a + b) % 2 ^ 32)
  unfolding result_of unbounded
  high_low ha lb = simp (result_of, unbounded, number_high a ha, number_low b lb, add_comm a b) (mixed b a lb ha a_fits)

  high_high : 2 ^ 31 ≤ a → 2 ^ 31 ≤ b → result_of plus a b ≡ word_for (negsuc (suc ((2 ^ 32 - suc a) + (2 ^ 32 - suc b))))
  unfolding result_of unbounded
  high_high ha hb = simp (result_of, unbounded, number_high a ha, number_high b hb)

  -- where the exact sum is in range, its word is the sum modulo 2^32
  pub sum_inside : 2147483648 ≤ biased a + biased b → biased a + biased b < 6442450944 → result_of plus a b ≡ some ((a + b) % 2 ^ 32)
  sum_inside least most = by_halves (dec_lt a (2 ^ 31)) (dec_lt b (2 ^ 31))
    where
      by_halves : Dec (a < 2 ^ 31) → Dec (b < 2 ^ 31) → result_of plus a b ≡ some ((a + b) % 2 ^ 32)
      by_halves (yes la) (yes lb) = low_low la lb ∙ word_above (a + b) (omega arith) ∙ ap some (omega arith)
      by_halves (yes la) (no hb) = low_high la (omega arith)
      by_halves (no ha) (yes lb) = high_low (omega arith) lb
      by_halves (no ha) (no hb) = high_high (omega arith) (omega arith) ∙ word_below _ (omega arith) ∙ ap some (omega arith)

  -- below its range, or above it, there is none
  pub sum_outside : (biased a + biased b < 2147483648) ⊎ (6442450944 ≤ biased a + biased b) → result_of plus a b ≡ none
  sum_outside out = by_halves (dec_lt a (2 ^ 31)) (dec_lt b (2 ^ 31)) out
    where
      by_halves : Dec (a < 2 ^ 31) → Dec (b < 2 ^ 31) → (biased a + biased b < 2147483648) ⊎ (6442450944 ≤ biased a + biased b) → result_of plus a b ≡ none
      by_halves (yes la) (yes lb) (inl less) = absurd (omega arith)
      by_halves (yes la) (yes lb) (inr more) = low_low la lb ∙ none_above (a + b) (omega arith)
      by_halves (yes la) (no hb) (inl less) = absurd (omega arith)
      by_halves (yes la) (no hb) (inr more) = absurd (omega arith)
      by_halves (no ha) (yes lb) (inl less) = absurd (omega arith)
      by_halves (no ha) (yes lb) (inr more) = absurd (omega arith)
      by_halves (no ha) (no hb) (inl less) = high_high (omega arith) (omega arith) ∙ none_below _ (omega arith)
      by_halves (no ha) (no hb) (inr more) = absurd (omega arith)
