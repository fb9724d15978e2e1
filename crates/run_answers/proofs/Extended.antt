-- The sign-extended number. A word of the upper half is as far below 2^32 - 1 as its extension is
-- below 2^64 - 1: as far as the number is below -1.
use Prim.Native.Nat.{ℕ, suc, ◌+◌, ◌-◌, ◌^◌, ◌≤◌, ◌<◌}
use mathlib.Core.List.{[], ◌∷◌, map}
use mathlib.Core.Path.{◌≡◌, refl, ap}
use native.Mathlib.Decide.{dec_le}
use native.Mathlib.Omega.{arith}
use borrow.Author.Tests.{lt-ltb, le-ltb}
use lib.IntN.{negsuc}
use Rattle.formats.specs.Numbers.{signed32}
use Rattle.run_answers.specs.RunSlots.{sign_extended, signed64, Extends}

-- ---- `sign_extended`

pub extended_low : (w : ℕ) → w < 2147483648 → w ≡ sign_extended w
unfolding sign_extended
extended_low w h = rw (lt-ltb _ _ h, sign_extended) refl

pub extended_high : (w : ℕ) → 2147483648 ≤ w → w + 18446744069414584320 ≡ sign_extended w
unfolding sign_extended
extended_high w h = rw (le-ltb _ _ h, sign_extended) refl

pub ruleset extended_ways = (extended_low, extended_high)

-- ---- what the extended word stands for

-- the upper half, in 32 bits and in 64
high : (w : ℕ) → 2147483648 ≤ w → w < 4294967296 → Extends w
unfolding sign_extended signed64 signed32
high w h below =
    let far : 9223372036854775808 ≤ w + 18446744069414584320 = omega arith in
    let same : 18446744073709551616 - suc (w + 18446744069414584320) ≡ 4294967296 - suc w = omega arith in
    record {
      fits = rw (← (extended_high w h)) (omega arith);
      same_number = simp (le-ltb _ _ h, le-ltb _ _ far, sign_extended, signed64, signed32) (ap negsuc same);
    }

-- the lower half: the word itself, which stands for itself in both
low : (w : ℕ) → w < 2147483648 → Extends w
unfolding sign_extended signed64 signed32
low w h =
    let small : w < 9223372036854775808 = omega arith in
    record {
      fits = rw (← (extended_low w h)) (omega arith);
      same_number = simp (lt-ltb _ _ h, lt-ltb _ _ small, sign_extended, signed64, signed32);
    }

-- every 32-bit word
pub extends : (w : ℕ) → w < 2 ^ 32 → Extends w
extends w h = elim (dec_le 2147483648 w) [ yes above ↦ high w above h | no below ↦ low w (omega arith) ]

-- ---- closed cases

extended-of :
    map sign_extended (0 ∷ 1 ∷ 2147483647 ∷ 2147483648 ∷ 4294967295 ∷ [])
    ≡ 0 ∷ 1 ∷ 2147483647 ∷ 18446744071562067968 ∷ 18446744073709551615 ∷ []
unfolding sign_extended
extended-of = refl
