-- Laws of the sum of 16-bit words: it goes word by word, and the check word is the one word that
-- makes a block's sum right.
use Prim.Native.Nat.{ℕ, zero, suc, ◌+◌, ◌*◌, ◌%◌, ◌≤◌, ◌<◌}
use mathlib.Core.List.{List, [], ◌∷◌, ◌++◌}
use mathlib.Core.Path.{◌≡◌, refl, sym, ap, ap₂, ◌∙◌}
use native.Mathlib.Nat.{zero-add, add-zero, add_assoc}
use native.Mathlib.Omega.{arith}
use lib.ListN.{length, take, drop, length-drop}
use lib.Seq.{drop-drop}
use Rattle.formats.specs.Numbers.{bytes_of, number_of, number_at}
use Rattle.formats.specs.Blocks.{word_sum, check_target, word_limit, check_word}
use Rattle.formats.proofs.Numbers.{number_bytes_of, number_at_whole}

-- whole words in front add their own sum
pub word_sum_append : (s t : List ℕ) (n : ℕ) → length s ≡ 2 * n → word_sum (s ++ t) ≡ word_sum s + word_sum t
unfolding word_sum
word_sum_append [] t n e = sym (zero-add (word_sum t))
word_sum_append (low ∷ []) t n e = absurd (omega arith)
word_sum_append (low ∷ (high ∷ s)) t zero e = absurd (omega arith)
word_sum_append (low ∷ (high ∷ s)) t (suc n) e =
    ap (λ (m : ℕ). number_of (low ∷ high ∷ []) + m) (word_sum_append s t n (omega arith))
    ∙ sym (add_assoc (number_of (low ∷ high ∷ [])) (word_sum s) (word_sum t))

-- the first word and the others
word_sum_first : (s : List ℕ) → 2 ≤ length s → word_sum s ≡ number_of (take 2 s) + word_sum (drop 2 s)
unfolding word_sum
word_sum_first [] h = absurd (omega arith)
word_sum_first (low ∷ []) h = absurd (omega arith)
word_sum_first (low ∷ (high ∷ s)) h = refl

-- the words from an offset on are the word there and those after it
pub word_sum_step : (s : List ℕ) (k : ℕ) → 2 * k + 2 ≤ length s → word_sum (drop (2 * k) s) ≡ number_at 2 s (2 * k) + word_sum (drop (2 * k + 2) s)
word_sum_step s k h =
    word_sum_first (drop (2 * k) s) (omega (arith, length-drop (2 * k) s))
    ∙ ap₂ ◌+◌ (sym (number_at_whole 2 s (2 * k) h)) (ap word_sum (drop-drop 2 (2 * k) s))

-- the sum of one word is the word
word_sum_one : (w : ℕ) → w < word_limit → word_sum (bytes_of 2 w) ≡ w
unfolding word_sum bytes_of
word_sum_one w h = add-zero (number_of (bytes_of 2 w)) ∙ number_bytes_of 2 w h

-- a word after whole words adds itself
word_sum_after : (s : List ℕ) (n w : ℕ) → length s ≡ 2 * n → w < word_limit → word_sum (s ++ bytes_of 2 w) ≡ word_sum s + w
word_sum_after s n w e h = word_sum_append s (bytes_of 2 w) n e ∙ ap (λ (m : ℕ). word_sum s + m) (word_sum_one w h)

-- the check word is a word
pub check_word_lt : (s : List ℕ) → check_word s < word_limit
unfolding check_word
check_word_lt s = omega arith

-- it makes the sum right ..
pub check_word_right : (s : List ℕ) (n : ℕ) → length s ≡ 2 * n → word_sum (s ++ bytes_of 2 (check_word s)) % word_limit ≡ check_target
unfolding check_word
check_word_right s n e = rw (word_sum_after s n (check_word s) e (check_word_lt s)) (omega arith)

-- .. and no other word does
pub check_word_only : (s : List ℕ) (n w : ℕ) → length s ≡ 2 * n → w < word_limit → word_sum (s ++ bytes_of 2 w) % word_limit ≡ check_target → w ≡ check_word s
unfolding check_word
check_word_only s n w e h right = omega (arith, word_sum_after s n w e h)
