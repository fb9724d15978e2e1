-- A number's decimal digits: the last one stands after those of a tenth, and a number below 10^k
-- has at most k.
use Prim.Native.Nat.{ℕ, zero, suc, ◌+◌, ◌/◌, ◌%◌, ◌^◌, ◌≤◌, ◌<◌}
use mathlib.Core.List.{[], ◌∷◌, ◌++◌}
use mathlib.Core.Path.{◌≡◌, sym, ap, ◌∙◌}
use native.Mathlib.Decide.{dec_lt}
use native.Mathlib.Nat.{pow-succ'}
use native.Mathlib.Omega.{arith}
use lib.ListN.{length, length-append}
use borrow.Author.Tests.{lt-ltb, le-ltb}
use Rattle.formats.specs.Characters.{digit_zero}
use Rattle.formats.specs.Decimal.{digits, decimal}

-- a number has one digit, or more
by_digit : {A : Type 0} (n : ℕ) → (n < 10 → A) → (10 ≤ n → A) → A
by_digit n one more = elim (dec_lt n 10) [ yes h ↦ one h | no h ↦ more (omega arith) ]

digits_one : (most n : ℕ) → n < 10 → digits (suc most) n ≡ (digit_zero + n) ∷ []
unfolding digits
digits_one most n h = simp (digits, lt-ltb n 10 h)

digits_more : (most n : ℕ) → 10 ≤ n → digits (suc most) n ≡ digits most (n / 10) ++ ((digit_zero + n % 10) ∷ [])
unfolding digits
digits_more most n h = simp (digits, le-ltb n 10 h)

-- a tenth has a digit less
tenth : (most n : ℕ) → n < 10 ^ suc most → n / 10 < 10 ^ most
tenth most n h = omega (arith, pow-succ' 10 most)

-- the limit on the digits does not matter where it is high enough
digits_same : (d e n : ℕ) → n < 10 ^ suc d → n < 10 ^ suc e → digits (suc d) n ≡ digits (suc e) n
digits_same zero e n hd he = digits_one zero n hd ∙ sym (digits_one e n hd)
digits_same (suc d) zero n hd he = digits_one (suc d) n he ∙ sym (digits_one zero n he)
digits_same (suc d) (suc e) n hd he =
    by_digit n (λ h. digits_one (suc d) n h ∙ sym (digits_one (suc e) n h))
    (λ h. digits_more (suc d) n h
    ∙ ap (λ ds. ds ++ ((digit_zero + n % 10) ∷ [])) (digits_same d e (n / 10) (tenth (suc d) n hd) (tenth (suc e) n he))
    ∙ sym (digits_more (suc e) n h))

-- n + 1 digits are enough for n
enough : (n : ℕ) → n < 10 ^ suc n
enough zero = omega arith
enough (suc n) = omega (arith, enough n, pow-succ' 10 (suc n))

pub decimal_one : (n : ℕ) → n < 10 → decimal n ≡ (digit_zero + n) ∷ []
unfolding decimal
decimal_one n h = digits_one n n h

-- n digits are enough for a tenth of n
still_enough : (n : ℕ) → 10 ≤ n → n / 10 < 10 ^ n
still_enough n h = tenth n n (enough n)

pub decimal_more : (n : ℕ) → 10 ≤ n → decimal n ≡ decimal (n / 10) ++ ((digit_zero + n % 10) ∷ [])
unfolding decimal
decimal_more zero h = absurd (omega arith)
decimal_more (suc m) h =
    digits_more (suc m) (suc m) h
    ∙ ap (λ ds. ds ++ ((digit_zero + suc m % 10) ∷ [])) (digits_same m (suc m / 10) (suc m / 10) (still_enough (suc m) h) (enough (suc m / 10)))

-- a number below 10^k has at most k digits, k at least 1
pub decimal_length : (k n : ℕ) → n < 10 ^ suc k → length (decimal n) ≤ suc k
decimal_length zero n h = rw (decimal_one n h) (omega arith)
decimal_length (suc k) n h =
    by_digit n (λ one. rw (decimal_one n one) (omega arith))
    (λ more. rw (decimal_more n more, length-append) (omega (arith, decimal_length k (n / 10) (tenth (suc k) n h))))
