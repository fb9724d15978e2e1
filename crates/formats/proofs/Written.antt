-- Laws of a write into a lent buffer. Where vs fits, the buffer is a front (what stood before the
-- offset, then vs) and a rest, which is as it was. So the length is kept, and each byte is read
-- from the part that holds it. Two writes, one right after the other, only make the front longer:
-- so a write is made of its bytes, set one after the other.
use Prim.Native.Nat.{ℕ, suc, ◌+◌, ◌-◌, ◌≤◌, ◌<◌}
use mathlib.Core.List.{List, [], ◌∷◌, ◌++◌, append_assoc}
use mathlib.Core.Logic.{◌⊎◌, ⊎_elim}
use mathlib.Core.Path.{◌≡◌, sym, ap, ap₂, ◌∙◌}
use native.Mathlib.Decide.{dec_le}
use native.Mathlib.Nat.{add_assoc, add-zero, add-sub_of_le}
use native.Mathlib.Numerals.{add-one}
use native.Mathlib.Omega.{arith}
use lib.ListN.{length, get_or, take, drop, set, length-append, length-drop, length-set, take-append-drop, get_or-append}
use lib.Seq.{length-take-le, get_or-take, get_or-drop, get_or-append-add, take_at, drop_at, take-append_seam, take-append-le, drop-append-add, drop-drop, set_split, sets}
use borrow.Author.Tests.{le-leb, lt-leb}
use Rattle.formats.specs.Numbers.{bytes_of}
use Rattle.formats.specs.Written.{written, Wrote}
use Rattle.formats.proofs.Numbers.{length_bytes_of}

-- the buffer where vs fits ..
pub written_fits : (s : List ℕ) (p : ℕ) (vs : List ℕ) → p + length vs ≤ length s → written s p vs ≡ take p s ++ (vs ++ drop (p + length vs) s)
unfolding written
written_fits s p vs fits = simp (written, le-leb _ _ fits)

-- .. and where it does not
pub written_short : (s : List ℕ) (p : ℕ) (vs : List ℕ) → length s < p + length vs → written s p vs ≡ s
unfolding written
written_short s p vs short = simp (written, lt-leb _ _ short)

module _ (s : List ℕ) (p : ℕ) (vs : List ℕ) (fits : p + length vs ≤ length s) where
  -- the buffer is a front and a rest
  as_front : written s p vs ≡ (take p s ++ vs) ++ drop (p + length vs) s
  as_front = rw append_assoc (written_fits s p vs fits)

  -- p bytes stand before offset p
  length_before : length (take p s) ≡ p
  length_before = length-take-le p s (omega arith)

  -- the front reaches to the end of vs
  length_front : length (take p s ++ vs) ≡ p + length vs
  length_front = simp (length-append, length_before)

  -- so the first bytes are the front, and after it all is as it was
  pub front_written : take (p + length vs) (written s p vs) ≡ take p s ++ vs
  front_written = ap (take (p + length vs)) as_front ∙ take_at (take p s ++ vs) (drop (p + length vs) s) (p + length vs) length_front

  pub after_written : drop (p + length vs) (written s p vs) ≡ drop (p + length vs) s
  after_written = ap (drop (p + length vs)) as_front ∙ drop_at (take p s ++ vs) (drop (p + length vs) s) (p + length vs) length_front

  -- the length is kept
  length_fits : length (written s p vs) ≡ length s
  length_fits = simp (as_front, length-append (take p s ++ vs), length_front, length-drop) (omega arith)

  -- a byte of the front is read there
  in-front : (i : ℕ) → i < p + length vs → get_or (written s p vs) i 0 ≡ get_or (take p s ++ vs) i 0
  in-front i h = rw as_front (get_or-append (take p s ++ vs) (drop (p + length vs) s) 0 i (rw length_front h))

  -- vs stands at the offset
  there_fits : (i : ℕ) → i < length vs → get_or (written s p vs) (p + i) 0 ≡ get_or vs i 0
  there_fits i h = in-front (p + i) (omega arith) ∙ (rw length_before at (get_or-append-add (take p s) vs i 0))

  -- what was before the offset is as it was
  before_fits : (i : ℕ) → i < p → get_or (written s p vs) i 0 ≡ get_or s i 0
  before_fits i h = in-front i (omega arith) ∙ get_or-append (take p s) vs 0 i (rw length_before h) ∙ get_or-take p s i 0 h

  -- a byte after the front is read from the rest, which is as it was
  after_fits : (i : ℕ) → get_or (written s p vs) (p + length vs + i) 0 ≡ get_or s (p + length vs + i) 0
  after_fits i =
      rw as_front ((rw length_front at (get_or-append-add (take p s ++ vs) (drop (p + length vs) s) i 0)) ∙ get_or-drop (p + length vs) s i 0)

  -- so every byte but those of vs is as it was
  untouched_fits : (i : ℕ) → (i < p) ⊎ (p + length vs ≤ i) → get_or (written s p vs) i 0 ≡ get_or s i 0
  untouched_fits i = ⊎_elim (before_fits i) (λ (h : p + length vs ≤ i). rw (add-sub_of_le h) at (after_fits (i - (p + length vs))))

-- vs fits, or it does not
by_room : {A : Type 0} (s : List ℕ) (p : ℕ) (vs : List ℕ) → (p + length vs ≤ length s → A) → (length s < p + length vs → A) → A
by_room s p vs fits short = elim (dec_le (p + length vs) (length s)) [ yes h ↦ fits h | no h ↦ short (omega arith) ]

-- what a write does, byte by byte
pub wrote : (s : List ℕ) (p : ℕ) (vs : List ℕ) → Wrote s p vs
wrote s p vs = record {
  same_length = by_room s p vs (length_fits s p vs) (λ short. ap length (written_short s p vs short));
  there = λ i fits. there_fits s p vs fits i;
  untouched = λ i h. by_room s p vs (λ fits. untouched_fits s p vs fits i h) (λ short. ap (λ (l : List ℕ). get_or l i 0) (written_short s p vs short));
  or_none = written_short s p vs;
}

-- to write nothing is to leave all as it is
pub written_none : (s : List ℕ) (p : ℕ) → written s p [] ≡ s
written_none s p = by_room s p [] (λ fits. written_fits s p [] fits ∙ (rw add-zero (take-append-drop p s))) (written_short s p [])

-- to write after a front leaves the front
after_front : (f d ws : List ℕ) → length ws ≤ length d → written (f ++ d) (length f) ws ≡ f ++ (ws ++ drop (length ws) d)
after_front f d ws fits =
    let room : length f + length ws ≤ length (f ++ d) = omega (arith, length-append f d) in
    written_fits (f ++ d) (length f) ws room ∙ simp (take-append_seam, drop-append-add)

-- to write vs, and ws right after it, is to write both at once
pub written_append : (s : List ℕ) (p : ℕ) (vs ws : List ℕ) → p + length (vs ++ ws) ≤ length s
    → written (written s p vs) (p + length vs) ws ≡ written s p (vs ++ ws)
written_append s p vs ws fits =
    let room : p + length vs + length ws ≤ length s = omega (arith, length-append vs ws) in
    let first : p + length vs ≤ length s = omega arith in
    let rest : length ws ≤ length (drop (p + length vs) s) = omega (arith, length-drop (p + length vs) s) in
    rw (as_front s p vs first)
    ((rw (length_front s p vs first) at (after_front (take p s ++ vs) (drop (p + length vs) s) ws rest))
    ∙ simp (written_fits s p (vs ++ ws) fits, drop-drop, append_assoc, length-append, add_assoc))

-- to write ws, and vs right before it, is to write both at once
pub written_front : (s : List ℕ) (p : ℕ) (vs ws : List ℕ) → p + length (vs ++ ws) ≤ length s
    → written (written s (p + length vs) ws) p vs ≡ written s p (vs ++ ws)
written_front s p vs ws fits =
    let q = p + length vs in
    let both = length-append vs ws in
    let after = ws ++ drop (q + length ws) s in
    let first : written s q ws ≡ take q s ++ after = written_fits s q ws (omega arith) in
    let long : length (written s q ws) ≡ length s = (wrote s q ws).same_length in
    let short : p ≤ length (take q s) = omega (arith, length-take-le q s (omega arith)) in
    let front : take p (take q s ++ after) ≡ take p s =
    take-append-le p (take q s) after short ∙ sym (take-append-le p (take q s) (drop q s) short) ∙ ap (take p) (take-append-drop q s) in
    let rest : drop q (take q s ++ after) ≡ after = drop_at (take q s) after q (length-take-le q s (omega arith)) in
    let position : q + length ws ≡ p + length (vs ++ ws) = omega arith in
    written_fits (written s q ws) p vs (omega arith)
    ∙ ap (λ (l : List ℕ). take p l ++ (vs ++ drop q l)) first
    ∙ ap₂ (λ (x y : List ℕ). x ++ (vs ++ y)) front rest
    ∙ ap (λ (n : ℕ). take p s ++ (vs ++ (ws ++ drop n s))) position
    ∙ ap (λ (l : List ℕ). take p s ++ l) (sym (append_assoc vs ws _))
    ∙ sym (written_fits s p (vs ++ ws) fits)

-- to set one byte is to write it
pub written_one : (s : List ℕ) (p v : ℕ) → p < length s → set s p v ≡ written s p (v ∷ [])
written_one s p v h =
    let fits : p + 1 ≤ length s = omega arith in
    set_split s p v h ∙ (rw (written_fits s p (v ∷ []) fits, add-one))

-- a write is its bytes, set one after the other
pub written_sets : (s : List ℕ) (p : ℕ) (vs : List ℕ) → p + length vs ≤ length s → sets s p vs ≡ written s p vs
written_sets s p [] fits = sym (written_none s p)
written_sets s p (v ∷ vs) fits =
    let rest : suc p + length vs ≤ length (set s p v) = omega (arith, length-set s p v) in
    let here : p < length s = omega arith in
    written_sets (set s p v) (suc p) vs rest ∙ (rw (written_one s p v here, ← (add-one p)) (written_append s p (v ∷ []) vs fits))

-- a number's bytes, set one after the other, are the number written
pub number_written : (width : ℕ) (s : List ℕ) (p n : ℕ) → p + width ≤ length s → sets s p (bytes_of width n) ≡ written s p (bytes_of width n)
number_written width s p n fits = written_sets s p (bytes_of width n) (rw length_bytes_of fits)

-- where a number does not fit, the buffer is left as it is
pub number_short : (width : ℕ) (s : List ℕ) (p n : ℕ) → length s < p + width → s ≡ written s p (bytes_of width n)
number_short width s p n short = sym (written_short s p (bytes_of width n) (rw length_bytes_of short))
