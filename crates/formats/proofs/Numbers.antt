-- Bytes of a number and back, both ways, over every width. Each goes by recursion on the width or
-- the bytes: a number is its low byte and 256 times the rest.
use Prim.Native.Nat.{ℕ, zero, suc, ◌+◌, ◌-◌, ◌*◌, ◌/◌, ◌%◌, ◌^◌, ◌≤◌, ◌<◌}
use mathlib.Core.List.{List, [], ◌∷◌, ◌++◌}
use mathlib.Core.Path.{◌≡◌, refl, sym, ap, ap₂, ◌∙◌}
use native.Mathlib.Nat.{mod-lt, one-le-pow, add-zero, add-suc, mod-add-div, div-lt_iff_lt-mul, add-mul-mod_self_left, mod-eq_of_lt, add-mul-div_left, div-eq_of_lt, pow-suc, mul_comm, zero-add, lt_of_lt_of_le, pow-le-pow_right, le_of_suc-le-suc}
use native.Mathlib.Decide.{dec_le}
use native.Mathlib.Omega.{arith}
use borrow.Author.Tests.{le-leb, lt-leb}
use lib.Dec.{lit<}
use lib.ListN.{length, get_or, take, drop, length-append, length-take, length-drop}
use lib.Seq.{drop-cons, get_or-drop, drop-append-add, take_at}
use Rattle.formats.specs.Buffers.{Opens}
use Rattle.formats.specs.Numbers.{Bytes, bytes_of, number_of, number_at}

pub length_bytes_of : (width n : ℕ) → length (bytes_of width n) ≡ width
unfolding bytes_of
length_bytes_of zero n = refl
length_bytes_of (suc width) n = ap suc (length_bytes_of width (n / 256))

-- a number that fits the width is what its bytes stand for
pub number_bytes_of : (width n : ℕ) → n < 256 ^ width → number_of (bytes_of width n) ≡ n
unfolding bytes_of number_of
number_bytes_of zero n h = omega arith
number_bytes_of (suc width) n h =
    let high : n / 256 < 256 ^ width = (div-lt_iff_lt-mul (lit< tt)).1 (rw pow-suc at h) in
    ap (λ (m : ℕ). n % 256 + 256 * m) (number_bytes_of width (n / 256) high) ∙ mod-add-div n 256

-- a byte in front of bytes is the first byte of the number that they stand for together
bytes_of_cons : (width b : ℕ) (s : List ℕ) → b < 256 → bytes_of (suc width) (number_of (b ∷ s)) ≡ b ∷ bytes_of width (number_of s)
unfolding bytes_of number_of
bytes_of_cons width b s h =
    let low : (b + 256 * number_of s) % 256 ≡ b = add-mul-mod_self_left b 256 (number_of s) ∙ mod-eq_of_lt h in
    let high : (b + 256 * number_of s) / 256 ≡ number_of s =
    add-mul-div_left b (number_of s) (lit< tt) ∙ ap (λ (q : ℕ). q + number_of s) (div-eq_of_lt h) ∙ zero-add (number_of s) in
    ap₂ ◌∷◌ low (ap (bytes_of width) high)

-- bytes open those of the number that they stand for ..
pub bytes_of_opens : (width : ℕ) (s : List ℕ) → Bytes s → length s ≤ width → Opens s (bytes_of width (number_of s))
bytes_of_opens width [] bs h = record { rest = bytes_of width (number_of []); joined = refl }
bytes_of_opens zero (b ∷ s) bs h = absurd (omega arith)
bytes_of_opens (suc width) (b ∷ s) bs h =
    let o = bytes_of_opens width s (λ i. bs (suc i)) (le_of_suc-le-suc h) in
    record { rest = o.rest; joined = bytes_of_cons width b s (bs 0) ∙ ap (λ (l : List ℕ). b ∷ l) o.joined }

-- .. and are those where the width is theirs
pub bytes_of_number : (s : List ℕ) → Bytes s → bytes_of (length s) (number_of s) ≡ s
unfolding bytes_of
bytes_of_number [] bs = refl
bytes_of_number (b ∷ s) bs = bytes_of_cons (length s) b s (bs 0) ∙ ap (λ (l : List ℕ). b ∷ l) (bytes_of_number s (λ i. bs (suc i)))

-- a number fits the width of its bytes
number_of_lt : (s : List ℕ) → Bytes s → number_of s < 256 ^ length s
unfolding number_of
number_of_lt [] bs = lit< tt
number_of_lt (b ∷ s) bs =
    let high : number_of s < 256 ^ length s = number_of_lt s (λ i. bs (suc i)) in
    let low : b < 256 = bs 0 in
    rw (pow-suc, mul_comm) (omega arith)

pub number_of_fits : (width : ℕ) (s : List ℕ) → Bytes s → length s ≤ width → number_of s < 256 ^ width
number_of_fits width s bs h = lt_of_lt_of_le (number_of_lt s bs) (pow-le-pow_right (lit< tt) h)

-- the number at an offset, where it is whole and where it is not
pub number_at_whole : (width : ℕ) (s : List ℕ) (p : ℕ) → p + width ≤ length s → number_at width s p ≡ number_of (take width (drop p s))
unfolding number_at
number_at_whole width s p h = simp (number_at, le-leb _ _ h)

pub number_at_cut : (width : ℕ) (s : List ℕ) (p : ℕ) → length s < p + width → number_at width s p ≡ 0
unfolding number_at
number_at_cut width s p h = simp (number_at, lt-leb _ _ h)

-- ---- bytes

-- bytes after bytes are bytes, and so are parts of bytes
pub bytes_append : (s t : List ℕ) → Bytes s → Bytes t → Bytes (s ++ t)
bytes_append [] t bs bt i = bt i
bytes_append (b ∷ s) t bs bt zero = bs 0
bytes_append (b ∷ s) t bs bt (suc i) = bytes_append s t (λ j. bs (suc j)) bt i

pub bytes_take : (n : ℕ) (s : List ℕ) → Bytes s → Bytes (take n s)
bytes_take zero s bs i = lit< tt
bytes_take (suc n) [] bs i = lit< tt
bytes_take (suc n) (b ∷ s) bs zero = bs 0
bytes_take (suc n) (b ∷ s) bs (suc i) = bytes_take n s (λ k. bs (suc k)) i

pub bytes_drop : (n : ℕ) (s : List ℕ) → Bytes s → Bytes (drop n s)
bytes_drop n s bs i = rw get_or-drop (bs (n + i))

bytes_part : (width : ℕ) (s : List ℕ) (p : ℕ) → Bytes s → Bytes (take width (drop p s))
bytes_part width s p bs = bytes_take width (drop p s) (bytes_drop p s bs)

-- the bytes of a number are bytes
pub bytes_bytes_of : (width n : ℕ) → Bytes (bytes_of width n)
unfolding bytes_of
bytes_bytes_of zero n i = lit< tt
bytes_bytes_of (suc width) n zero = mod-lt n (lit< tt)
bytes_bytes_of (suc width) n (suc i) = bytes_bytes_of width (n / 256) i

-- ---- numbers at offsets

-- the number at an offset fits its width, and its bytes are those there
pub number_at_lt : (width : ℕ) (s : List ℕ) (p : ℕ) → Bytes s → p + width ≤ length s → number_at width s p < 256 ^ width
number_at_lt width s p bs h = rw (number_at_whole width s p h) (number_of_fits width (take width (drop p s)) (bytes_part width s p bs) (simp length-take (omega arith)))

pub bytes_of_number_at : (width : ℕ) (s : List ℕ) (p : ℕ) → Bytes s → p + width ≤ length s → bytes_of width (number_at width s p) ≡ take width (drop p s)
bytes_of_number_at width s p bs h =
    let there : length (take width (drop p s)) ≡ width = simp (length-take, length-drop) (omega arith) in
    rw (number_at_whole width s p h)
    (ap (λ (k : ℕ). bytes_of k (number_of (take width (drop p s)))) (sym there) ∙ bytes_of_number (take width (drop p s)) (bytes_part width s p bs))

-- the number of that width at an offset is there, or it is cut off
by_width : {A : Type 0} (width : ℕ) (s : List ℕ) (p : ℕ) → (p + width ≤ length s → A) → (length s < p + width → A) → A
by_width width s p whole cut = elim (dec_le (p + width) (length s)) [ yes h ↦ whole h | no h ↦ cut (omega arith) ]

-- it fits its width, also where it is cut off
pub number_at_fits : (width : ℕ) (s : List ℕ) (p : ℕ) → Bytes s → number_at width s p < 256 ^ width
number_at_fits width s p bs = by_width width s p (number_at_lt width s p bs) (λ h. rw (number_at_cut width s p h) (one-le-pow width 256 (lit< tt)))

-- bytes in front move the offset
pub number_at_after : (width : ℕ) (xs s : List ℕ) (p : ℕ) → number_at width (xs ++ s) (length xs + p) ≡ number_at width s p
number_at_after width xs s p = by_width width s p
    (λ h. number_at_whole width (xs ++ s) (length xs + p) (omega (arith, length-append xs s))
    ∙ ap (λ (l : List ℕ). number_of (take width l)) (drop-append-add xs s p)
    ∙ sym (number_at_whole width s p h))
    (λ h. number_at_cut width (xs ++ s) (length xs + p) (omega (arith, length-append xs s)) ∙ sym (number_at_cut width s p h))

-- a number whose bytes stand at an offset is the number there
pub number_at_there : (width n : ℕ) (xs s : List ℕ) (p : ℕ) → length xs ≡ p → n < 256 ^ width → number_at width (xs ++ (bytes_of width n ++ s)) p ≡ n
number_at_there width n xs s p e h =
    let long : 0 + width ≤ length (bytes_of width n ++ s) = omega (arith, length-append (bytes_of width n) s, length_bytes_of width n) in
    ap (number_at width (xs ++ (bytes_of width n ++ s))) (sym (add-zero (length xs) ∙ e))
    ∙ number_at_after width xs (bytes_of width n ++ s) 0
    ∙ number_at_whole width (bytes_of width n ++ s) 0 long
    ∙ ap number_of (take_at (bytes_of width n) s width (length_bytes_of width n))
    ∙ number_bytes_of width n h

-- ---- numbers read by single bytes

-- as many bytes of s as the width says, from offset p + k on
abbrev pub bytes_from : ℕ → List ℕ → ℕ → ℕ → List ℕ
bytes_from zero s p k = []
bytes_from (suc width) s p k = get_or s (p + k) 0 ∷ bytes_from width s p (suc k)

-- they are the part of s there
part_from : (width : ℕ) (s : List ℕ) (p k : ℕ) → p + k + width ≤ length s → take width (drop (p + k) s) ≡ bytes_from width s p k
part_from zero s p k h = refl
part_from (suc width) s p k h =
    rw (drop-cons s (p + k) 0 (omega arith), ← (add-suc p k)) (ap (λ (l : List ℕ). get_or s (p + k) 0 ∷ l) (part_from width s p (suc k) (omega arith)))

-- a number made of these bytes is the number at the offset
pub number-read :
    (width : ℕ) (s : List ℕ) (p : ℕ) (bs : List ℕ) (r : ℕ)
    → width ≤ length s
    → p ≤ length s - width
    → r ≡ number_of bs
    → bs ≡ bytes_from width s p 0
    → r ≡ number_at width s p
number-read width s p bs r some whole made same =
    let there : take width (drop p s) ≡ bytes_from width s p 0 = rw add-zero at (part_from width s p 0 (omega arith)) in
    made ∙ ap number_of (same ∙ sym there) ∙ sym (number_at_whole width s p (omega arith))

-- a number that is not whole reads as 0
pub number_cut : (width : ℕ) (s : List ℕ) (p : ℕ) → length s < p + width → 0 ≡ number_at width s p
number_cut width s p cut = sym (number_at_cut width s p cut)
