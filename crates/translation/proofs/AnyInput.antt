-- What an input begins with: a tree's tokens, or a first fault.
--
-- A tree that stands at an offset is carried there, by recursion on the tree. What stands at an
-- offset of any bytes is found by the tag there: a whole leaf; a node, whose left tree is found
-- next, and then its right tree after it; or a fault. In front of a fault the tokens are those of
-- some tree, whatever trees come after it. The offset grows with each tag, so the recursion is on a
-- bound of the bytes that are left.
use Prim.Native.Nat.{ℕ, zero, suc, ◌+◌, ◌≤◌, ◌<◌}
use mathlib.Core.List.{List, [], ◌∷◌, ◌++◌}
use mathlib.Core.Path.{◌≡◌, refl, sym, ap, subst, ◌∙◌}
use native.Mathlib.Decide.{dec_le}
use native.Mathlib.Nat.{zero-add}
use native.Mathlib.Numerals.{add-one}
use native.Mathlib.Omega.{arith}
use lib.ListN.{length, drop, length-append, take-append-drop}
use Rattle.formats.specs.Numbers.{Bytes, number_at}
use Rattle.formats.specs.Buffers.{Opens, BytesAt, one_more}
use Rattle.formats.specs.Tokens.{Tree, leaf, node, Labelled, depth, label_bytes, tokens, Tag, a_leaf, a_node}
use Rattle.formats.proofs.Numbers.{length_bytes_of}
use Rattle.formats.proofs.Buffers.{lies_append, lies_first, lies_left, lies_part, lies_right, lies_within}
use Rattle.formats.proofs.Tokens.{Look, past, at_leaf, at_node, at_other, look, tag_is, read_leaf, label_whole, reads_at, stands}
use Rattle.translation.proofs.Carried.{Carries, carried, a-leaf, a-node, no_tag, other_tag, label_cut}

-- the same offset, written differently
carries_offset : {Faulty : Type 0} {s : List ℕ} {end p q : ℕ} {ts : List Tree} → p ≡ q → Carries Faulty s end p ts → Carries Faulty s end q ts
carries_offset {Faulty} {s} {end} {ts = ts} e h = subst (λ (k : ℕ). Carries Faulty s end k ts) e h

-- a node is carried where its parts are carried after its tag
carries_node :
    {Faulty : Type 0} {s : List ℕ} {end p : ℕ} {l r : Tree} {ts : List Tree}
    → Look s p a_node
    → Carries Faulty s end (suc p) (l ∷ (r ∷ ts))
    → Carries Faulty s end p (node l r ∷ ts)
carries_node {p = p} k h = a-node (tag_is k) (carries_offset (sym (add-one p)) h)

-- a tree that stands at an offset is carried there, in front of what is carried after it
carries_tree :
    {Faulty : Type 0} (s : List ℕ) (end p : ℕ) (t : Tree) (ts : List Tree)
    → Labelled t
    → BytesAt s p (tokens t)
    → Carries Faulty s end (p + length (tokens t)) ts
    → Carries Faulty s end p (t ∷ ts)
unfolding tokens depth
carries_tree s end p (leaf x) ts fits (one_more there is label) h =
    let k : Look s p a_leaf = at_leaf there is in
    let size = length_bytes_of label_bytes x in
    let whole : suc p + label_bytes ≤ length s = omega (arith, lies_within label there) in
    let read = sym (read_leaf 0 k) ∙ reads_at (leaf x) 0 s p fits (omega arith) (one_more there is label) in
    let same : number_at label_bytes s (p + 1) ≡ x = rw add-one (cc (label_whole s (suc p) whole)) in
    a-leaf (tag_is k) (omega arith) same (carries_offset (omega arith) h)
carries_tree s end p (node l r) ts fits (one_more there is more) h =
    carries_node (at_node there is)
    (carries_tree s end (suc p) l (r ∷ ts) fits.0 (lies_left (tokens l) (tokens r) more)
    (carries_tree s end (suc p + length (tokens l)) r ts fits.1 (lies_right (tokens l) (tokens r) more)
    (carries_offset (omega (arith, length-append (tokens l) (tokens r))) h)))

-- an input that opens with a tree's tokens carries that tree up to their end
pub carries_opening : {Faulty : Type 0} (t : Tree) (rest : List ℕ) → Labelled t → Carries Faulty (tokens t ++ rest) (length (tokens t)) 0 (t ∷ [])
carries_opening t rest fits =
    carries_tree (tokens t ++ rest) (length (tokens t)) 0 t [] fits (lies_first (tokens t) rest) (carries_offset (sym (zero-add _)) (carried refl))

-- What an input begins with: a tree's tokens, or some tree's tokens up to a first fault.
pub data Begins (s : List ℕ) : Type 0 where
  with_tree : (t : Tree) → Labelled t → Opens (tokens t) s → Begins s
  with_fault : (t : Tree) → Carries (Unit {0}) s (suc (length s)) 0 (t ∷ []) → Begins s

-- What is found at an offset: a tree that stands there, or some tree's tokens up to a first fault,
-- whatever trees come after it.
data Found (s : List ℕ) (p : ℕ) : Type 0 where
  a-tree : (t : Tree) → Labelled t → BytesAt s p (tokens t) → Found s p
  a_fault : (t : Tree) → ((ts : List Tree) → Carries (Unit {0}) s (suc (length s)) p (t ∷ ts)) → Found s p

-- at a leaf's tag
found_leaf : (s : List ℕ) (p : ℕ) → Bytes s → Look s p a_leaf → Found s p
found_leaf s p bs k = elim (dec_le (suc p + label_bytes) (length s)) [ yes whole ↦ leaf_there whole | no cut ↦ leaf_cut (omega arith) ]
  where
    leaf_there : suc p + label_bytes ≤ length s → Found s p
    leaf_there whole =
        let x : ℕ = number_at label_bytes s (suc p) in
        let h = stands 0 s p (leaf x) bs (read_leaf 0 k ∙ label_whole s (suc p) whole) in
        a-tree (leaf x) h.labelled h.lies

    leaf_cut : length s < p + 1 + label_bytes → Found s p
    leaf_cut cut = a_fault (leaf 0) (λ ts. label_cut tt (tag_is k) cut)

-- at a node's tag, by what is found after it
found_node : (s : List ℕ) (p : ℕ) → Look s p a_node → ((q : ℕ) → p < q → Found s q) → Found s p
unfolding tokens
found_node s p (at_node there is) after = by_left (after (suc p) (omega arith))
  where
    by_right : (l : Tree) → Labelled l → BytesAt s (suc p) (tokens l) → Found s (suc p + length (tokens l)) → Found s p
    by_right l fits left (a-tree r fit right) = a-tree (node l r) (fits, fit) (one_more there is (lies_append left right))
    by_right l fits left (a_fault r right) =
        a_fault (node l r) (λ ts. carries_node (at_node there is) (carries_tree s (suc (length s)) (suc p) l (r ∷ ts) fits left (right ts)))

    by_left : Found s (suc p) → Found s p
    by_left (a-tree l fits left) = by_right l fits left (after (suc p + length (tokens l)) (omega arith))
    by_left (a_fault l left) = a_fault (node l (leaf 0)) (λ ts. carries_node (at_node there is) (left (leaf 0 ∷ ts)))

-- at any tag, by what is found after it
by_tag : (s : List ℕ) (p : ℕ) → Bytes s → (p < length s → (q : ℕ) → p < q → Found s q) → {g : Tag} → Look s p g → Found s p
by_tag s p bs after (past end) = a_fault (leaf 0) (λ ts. no_tag tt (tag_is (past end)))
by_tag s p bs after (at_leaf there is) = found_leaf s p bs (at_leaf there is)
by_tag s p bs after (at_node there is) = found_node s p (at_node there is) (after there)
by_tag s p bs after (at_other there nl nn) = a_fault (leaf 0) (λ ts. other_tag tt (tag_is (at_other there nl nn)))

-- at any offset
found : (room : ℕ) (s : List ℕ) (p : ℕ) → Bytes s → length s ≤ p + room → Found s p
found zero s p bs h = by_tag s p bs (λ there q later. absurd (omega arith)) (look s p)
found (suc room) s p bs h = by_tag s p bs (λ there q later. found room s q bs (omega arith)) (look s p)

-- what lies at offset 0 opens the buffer
lies_opens : {vs s : List ℕ} → BytesAt s 0 vs → Opens vs s
lies_opens {vs} {s} h = record {
  rest = drop (length vs) s;
  joined = sym (take-append-drop (length vs) s) ∙ ap (λ (l : List ℕ). l ++ drop (length vs) s) (lies_part h);
}

-- any input begins so
pub begins : (s : List ℕ) → Bytes s → Begins s
begins s bs = elim (found (length s) s 0 bs (omega arith)) [
  | a-tree t fits h ↦ with_tree t fits (lies_opens h)
  | a_fault t h ↦ with_fault t (h [])
]
