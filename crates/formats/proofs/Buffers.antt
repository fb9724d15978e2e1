-- Laws of bytes at an offset of a buffer. `BytesAt` goes by recursion on the bytes, so joins and
-- parts of byte strings are joins and parts of proofs.
use Prim.Native.Nat.{ℕ, zero, suc, ◌+◌, ◌-◌, ◌≤◌, ◌<◌, suc-le-suc}
use mathlib.Core.List.{List, [], ◌∷◌, ◌++◌, append-nil}
use mathlib.Core.Path.{◌≡◌, refl, sym, ap, ap₂, subst, ◌∙◌}
use native.Mathlib.Nat.{add-zero, add-suc, suc-add}
use native.Mathlib.Omega.{arith}
use lib.ListN.{length, get_or, set, take, drop, length-append, length-take, length-drop, get_or-append}
use lib.Seq.{get_or-set_same, get_or-set_other, drop-cons, get_or-take, take-add, take_all, length-take-le}
use Rattle.formats.specs.Buffers.{Opens, BytesAt, nothing, one_more}
use Rattle.formats.specs.Inner.Buffers.{from_last}

-- an offset may be exchanged for an equal one
pub lies_position : {s vs : List ℕ} {p q : ℕ} → p ≡ q → BytesAt s p vs → BytesAt s q vs
lies_position {s} {vs} e h = subst (λ (k : ℕ). BytesAt s k vs) e h

-- joined byte strings stand one after the other ..
pub lies_append : {s us vs : List ℕ} {p : ℕ} → BytesAt s p us → BytesAt s (p + length us) vs → BytesAt s p (us ++ vs)
lies_append nothing h = lies_position (add-zero _) h
lies_append (one_more there is more) h = one_more there is (lies_append more (lies_position (add-suc _ _ ∙ sym (suc-add _ _)) h))

-- .. and come apart again
pub lies_left : {s : List ℕ} {p : ℕ} (us vs : List ℕ) → BytesAt s p (us ++ vs) → BytesAt s p us
lies_left [] vs h = nothing
lies_left (u ∷ us) vs (one_more there is more) = one_more there is (lies_left us vs more)

pub lies_right : {s : List ℕ} {p : ℕ} (us vs : List ℕ) → BytesAt s p (us ++ vs) → BytesAt s (p + length us) vs
lies_right [] vs h = lies_position (sym (add-zero _)) h
lies_right (u ∷ us) vs (one_more there is more) = lies_position (suc-add _ _ ∙ sym (add-suc _ _)) (lies_right us vs more)

-- they are the bytes that `take` and `drop` find there
pub lies_part : {s vs : List ℕ} {p : ℕ} → BytesAt s p vs → take (length vs) (drop p s) ≡ vs
lies_part nothing = refl
lies_part {s} {p = p} (one_more {vs = vs} there is more) = rw (drop-cons s p 0 there) (ap₂ ◌∷◌ is (lies_part more))

-- they end within the buffer
pub lies_within : {s vs : List ℕ} {p : ℕ} → BytesAt s p vs → p ≤ length s → p + length vs ≤ length s
lies_within {p = p} nothing h = rw add-zero h
lies_within {p = p} (one_more there is more) h = rw (add-suc, ← suc-add) (lies_within more there)

-- a byte in front moves the offset by one
lies_after : {s vs : List ℕ} {p : ℕ} (b : ℕ) → BytesAt s p vs → BytesAt (b ∷ s) (suc p) vs
lies_after b nothing = nothing
lies_after b (one_more there is more) = one_more (suc-le-suc there) is (lies_after b more)

-- opening bytes lie at offset 0
pub lies_first : (vs rest : List ℕ) → BytesAt (vs ++ rest) 0 vs
lies_first [] rest = nothing
lies_first (v ∷ vs) rest = one_more {p = 0} (omega arith) refl (lies_after v (lies_first vs rest))

pub opens_lies : {vs s : List ℕ} → Opens vs s → BytesAt s 0 vs
opens_lies {vs} h = subst (λ (l : List ℕ). BytesAt l 0 vs) (sym h.joined) (lies_first vs h.rest)

-- the bytes that are there lie there
pub lies_taken : (n : ℕ) (s : List ℕ) (p : ℕ) → p + n ≤ length s → BytesAt s p (take n (drop p s))
lies_taken zero s p h = nothing
lies_taken (suc n) s p h =
    let there : p < length s = omega arith in
    rw (drop-cons s p 0 there) (one_more there refl (lies_taken n s (suc p) (omega arith)))

-- a buffer that opens with the first n bytes of s has what lies among these
pub lies_shared : {s vs : List ℕ} {p : ℕ} (n : ℕ) (u : List ℕ) → Opens (take n s) u → BytesAt s p vs → p + length vs ≤ n → BytesAt u p vs
lies_shared n u h nothing e = nothing
lies_shared {s} {p = p} n u h (one_more {vs = vs} there is more) e =
    let here : p < length (take n s) = simp length-take (omega arith) in
    let within : p < length u = rw h.joined (simp length-append (omega arith)) in
    let same : get_or u p 0 ≡ get_or s p 0 =
    ap (λ (l : List ℕ). get_or l p 0) h.joined ∙ get_or-append (take n s) h.rest 0 p here ∙ get_or-take n s p 0 (omega arith) in
    one_more within (same ∙ is) (lies_shared n u h more (omega arith))

-- what lies after the first p bytes makes them longer
pub lies_take : {s vs : List ℕ} {p : ℕ} → BytesAt s p vs → take (p + length vs) s ≡ take p s ++ vs
lies_take {s} {vs} {p} h = take-add p (length vs) s ∙ ap (λ (l : List ℕ). take p s ++ l) (lies_part h)

-- a whole buffer lies at its own offset 0
pub lies_all : (s : List ℕ) → BytesAt s 0 s
lies_all s = subst (λ (l : List ℕ). BytesAt l 0 s) (append-nil s) (lies_first s [])

-- the first of the bytes that lie at an offset is the byte there
pub head_is : {s vs : List ℕ} {p v : ℕ} → BytesAt s p (v ∷ vs) → get_or s p 0 ≡ v
head_is (one_more there is more) = is

-- ---- a part of a slice

-- the part from p up to p + n is the n bytes from p on
pub part_inside : (s : List ℕ) (p n : ℕ) → take (p + n - p) (drop p s) ≡ take n (drop p s)
part_inside s p n = let size : p + n - p ≡ n = omega arith in ap (λ (k : ℕ). take k (drop p s)) size

pub length_inside : (s : List ℕ) (p n : ℕ) → p + n ≤ length s → length (take (p + n - p) (drop p s)) ≡ n
length_inside s p n h = ap length (part_inside s p n) ∙ length-take-le n (drop p s) (omega (arith, length-drop p s))

-- where fewer than n bytes are left, the n bytes from p on are all that is left
pub part_last : (s : List ℕ) (p n : ℕ) → length s - p < n → take (length s - p) (drop p s) ≡ take n (drop p s)
part_last s p n h =
    let left = length-drop p s in
    take_all (length s - p) (drop p s) (omega arith) ∙ sym (take_all n (drop p s) (omega arith))

-- ---- entries of an array, the last first

pub length_from : (entries : List ℕ) (l : ℕ) → length (from_last entries l) ≡ l
unfolding from_last
length_from entries zero = refl
length_from entries (suc l) = ap suc (length_from entries l)

-- an entry written after the first l does not change these
from_set : (entries : List ℕ) (i v l : ℕ) → l ≤ i → from_last (set entries i v) l ≡ from_last entries l
unfolding from_last
from_set entries i v zero h = refl
from_set entries i v (suc l) h = ap₂ ◌∷◌ (get_or-set_other entries i l v 0 (λ e. omega arith)) (from_set entries i v l (omega arith))

-- an entry written right after the first l comes before them
pub from_top : (entries : List ℕ) (l v : ℕ) → l < length entries → from_last (set entries l v) (suc l) ≡ v ∷ from_last entries l
unfolding from_last
from_top entries l v h = ap₂ ◌∷◌ (get_or-set_same entries l v 0 h) (from_set entries l v l (omega arith))
