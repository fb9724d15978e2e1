-- Laws of trees, tokens and the reading of a tree. What is read at an offset depends on the tag
-- there: `look` says what is known where each tag was found, and a law for each tag says what is
-- then read. With these, a tree that stands at an offset is read there (`reads_at`), and a tree
-- that is read stands there (`stands`), each by recursion on the room.
use Prim.Native.Nat.{ℕ, zero, suc, ◌+◌, ◌*◌, ◌-◌, ◌≤◌, ◌<◌, max, ◌^◌}
use mathlib.Core.Bool.{Bool, true, false}
use mathlib.Core.List.{List, [], ◌∷◌, ◌++◌, append_assoc}
use mathlib.Core.Logic.{◌≢◌}
use mathlib.Core.Path.{◌≡◌, refl, sym, ap, subst, ◌∙◌}
use native.Mathlib.Nat.{le-max_left, le-max_right}
use native.Mathlib.Omega.{arith}
use borrow.Author.Tests.{lt-ltb, le-ltb, le-leb, lt-leb, eq-eqb, ne_eqb, ltb-true, ltb-false, leb-true, leb-false, eqb-true, eqb-false}
use lib.Dec.{leb, ltb, eqb}
use lib.ListN.{length, get_or, take, drop, length-append}
use Rattle.formats.specs.Numbers.{Bytes, bytes_of, number_of, number_at}
use Rattle.formats.specs.Buffers.{BytesAt, one_more}
use Rattle.formats.specs.Refusals.{input_ended, not_a_tag, too_deep}
use Rattle.formats.specs.Tokens.{Tree, leaf, node, Labelled, tips, depth, leaf_tag, node_tag, label_bytes, tokens, Tag, no_byte, a_leaf, a_node, other, tag_of, tag_at, label_at, branches_at, tree_by_tag, tree_at}
use Rattle.formats.proofs.Numbers.{length_bytes_of, number_bytes_of, number_at_whole, number_at_lt, bytes_of_number_at}
use Rattle.formats.proofs.Buffers.{lies_left, lies_right, lies_part, lies_taken, lies_append, lies_within}
use Rattle.formats.specs.Results.{done, refusal}
use Rattle.formats.proofs.Results.{Outcome, gave, stopped, outcome, done_not}

-- 01, Tokens: "A tree of n leaves takes 6n − 1 bytes."
pub six_a_tip : (t : Tree) → suc (length (tokens t)) ≡ 6 * tips t
unfolding tokens tips
six_a_tip (leaf x) = ap (λ (n : ℕ). suc (suc n)) (length_bytes_of label_bytes x)
six_a_tip (node l r) =
    let left = six_a_tip l in
    let right = six_a_tip r in
    simp length-append (omega arith)

pub length_of_tokens : (t : Tree) → length (tokens t) ≡ 6 * tips t - 1
length_of_tokens t = let h = six_a_tip t in omega arith

-- a node's tokens are its tag and its parts' tokens, one after the other
pub joined_tokens : (output : List ℕ) (l r : Tree) → output ++ (node_tag ∷ []) ++ tokens l ++ tokens r ≡ output ++ tokens (node l r)
unfolding tokens
joined_tokens output l r =
    append_assoc (output ++ (node_tag ∷ [])) (tokens l) (tokens r) ∙ append_assoc output (node_tag ∷ []) (tokens l ++ tokens r)

-- what is known where a tag was found
pub data Look (s : List ℕ) (p : ℕ) : Tag → Type 0 where
  past : length s ≤ p → Look s p no_byte
  at_leaf : p < length s → get_or s p 0 ≡ leaf_tag → Look s p a_leaf
  at_node : p < length s → get_or s p 0 ≡ node_tag → Look s p a_node
  at_other : p < length s → get_or s p 0 ≢ leaf_tag → get_or s p 0 ≢ node_tag → Look s p other

pub look : (s : List ℕ) (p : ℕ) → Look s p (tag_at s p)
unfolding tag_at tag_of
look s p = inside (ltb p (length s)) refl
  where
    second : (b : Bool) → eqb (get_or s p 0) node_tag ≡ b → p < length s → get_or s p 0 ≢ leaf_tag → Look s p (elim b [ true ↦ a_node | false ↦ other ])
    second true e there nl = at_node there (eqb-true _ _ e)
    second false e there nl = at_other there nl (eqb-false _ _ e)

    which : (b : Bool) → eqb (get_or s p 0) leaf_tag ≡ b → p < length s → Look s p (elim b [ true ↦ a_leaf | false ↦ elim (eqb (get_or s p 0) node_tag) [ true ↦ a_node | false ↦ other ] ])
    which true e there = at_leaf there (eqb-true _ _ e)
    which false e there = second (eqb (get_or s p 0) node_tag) refl there (eqb-false _ _ e)

    inside : (b : Bool) → ltb p (length s) ≡ b → Look s p (elim b [ true ↦ tag_of (get_or s p 0) | false ↦ no_byte ])
    inside true e = which (eqb (get_or s p 0) leaf_tag) refl (ltb-true _ _ e)
    inside false e = past (ltb-false _ _ e)

-- the tag, from what is known
pub tag_is : {s : List ℕ} {p : ℕ} {g : Tag} → Look s p g → tag_at s p ≡ g
unfolding tag_at tag_of
tag_is (past h) = simp (tag_at, le-ltb _ _ h)
tag_is (at_leaf there is) = simp (tag_at, tag_of, lt-ltb _ _ there, eq-eqb _ _ is)
tag_is {s} {p} (at_node there is) =
    let nl : get_or s p 0 ≢ leaf_tag = λ e. omega arith in
    simp (tag_at, tag_of, lt-ltb _ _ there, ne_eqb _ _ nl, eq-eqb _ _ is)
tag_is (at_other there nl nn) = simp (tag_at, tag_of, lt-ltb _ _ there, ne_eqb _ _ nl, ne_eqb _ _ nn)

-- what is read, by the tag
pub read_ended : (room : ℕ) {s : List ℕ} {p : ℕ} → Look s p no_byte → tree_at room s p ≡ refusal input_ended p
unfolding tree_at tree_by_tag
read_ended zero k = simp (tree_at, tree_by_tag, tag_is k)
read_ended (suc room) k = simp (tree_at, tree_by_tag, tag_is k)

pub read_leaf : (room : ℕ) {s : List ℕ} {p : ℕ} → Look s p a_leaf → tree_at room s p ≡ label_at s (suc p)
unfolding tree_at tree_by_tag
read_leaf zero k = simp (tree_at, tree_by_tag, tag_is k)
read_leaf (suc room) k = simp (tree_at, tree_by_tag, tag_is k)

pub read_other : (room : ℕ) {s : List ℕ} {p : ℕ} → Look s p other → tree_at room s p ≡ refusal not_a_tag p
unfolding tree_at tree_by_tag
read_other zero k = simp (tree_at, tree_by_tag, tag_is k)
read_other (suc room) k = simp (tree_at, tree_by_tag, tag_is k)

pub read_deep : {s : List ℕ} {p : ℕ} → Look s p a_node → tree_at zero s p ≡ refusal too_deep p
unfolding tree_at tree_by_tag
read_deep k = simp (tree_at, tree_by_tag, tag_is k)

read_parts : (room : ℕ) {s : List ℕ} {p : ℕ} → Look s p a_node → tree_at (suc room) s p ≡ branches_at (λ o. tree_at room s o) (suc p)
unfolding tree_at tree_by_tag
read_parts room k = simp (tree_at, tree_by_tag, tag_is k)

-- a label that is whole, and one that is not
pub label_whole : (s : List ℕ) (p : ℕ) → p + label_bytes ≤ length s → label_at s p ≡ done (leaf (number_at label_bytes s p))
unfolding label_at
label_whole s p h = simp (label_at, le-leb _ _ h)

pub label_cut : (s : List ℕ) (p : ℕ) → length s < p + label_bytes → label_at s p ≡ refusal input_ended p
unfolding label_at
label_cut s p h = simp (label_at, lt-leb _ _ h)

-- what is read at a node, by what is read of its parts
module _ (room : ℕ) {s : List ℕ} {p : ℕ} (k : Look s p a_node) where
  pub left_refused : {n q : ℕ} → tree_at room s (suc p) ≡ refusal n q → tree_at (suc room) s p ≡ refusal n q
  unfolding branches_at
  left_refused e = rw (read_parts room k) (simp (branches_at, e))

  pub right_refused : {l : Tree} {n q : ℕ} → tree_at room s (suc p) ≡ done l → tree_at room s (suc p + length (tokens l)) ≡ refusal n q → tree_at (suc room) s p ≡ refusal n q
  unfolding branches_at
  right_refused e f = rw (read_parts room k) (simp (branches_at, e, f))

  pub read_node : {l r : Tree} → tree_at room s (suc p) ≡ done l → tree_at room s (suc p + length (tokens l)) ≡ done r → tree_at (suc room) s p ≡ done (node l r)
  unfolding branches_at
  read_node e f = rw (read_parts room k) (simp (branches_at, e, f))

-- a label that stands at an offset is read there
label_read : (s : List ℕ) (p x : ℕ) → x < 2 ^ 32 → p ≤ length s → BytesAt s p (bytes_of label_bytes x) → label_at s p ≡ done (leaf x)
label_read s p x fits h label =
    let whole : p + label_bytes ≤ length s = rw length_bytes_of at (lies_within label h) in
    let is : take label_bytes (drop p s) ≡ bytes_of label_bytes x = rw length_bytes_of at (lies_part label) in
    label_whole s p whole ∙ ap (λ (n : ℕ). done (leaf n)) (number_at_whole label_bytes s p whole ∙ ap number_of is ∙ number_bytes_of label_bytes x fits)

-- a tree that stands at an offset, with room for its depth, is read there
pub reads_at : (t : Tree) (room : ℕ) (s : List ℕ) (p : ℕ) → Labelled t → depth t ≤ room → BytesAt s p (tokens t) → tree_at room s p ≡ done t
unfolding depth tokens
reads_at (leaf x) room s p fits h (one_more there is more) =
    read_leaf room (at_leaf there is) ∙ label_read s (suc p) x fits (omega arith) more
reads_at (node l r) zero s p fits h (one_more there is more) = absurd (omega arith)
reads_at (node l r) (suc room) s p fits h (one_more there is more) =
    read_node room (at_node there is)
    (reads_at l room s (suc p) fits.0 (omega arith) (lies_left (tokens l) (tokens r) more))
    (reads_at r room s (suc p + length (tokens l)) fits.1 (omega arith) (lies_right (tokens l) (tokens r) more))

-- what is known of a tree that was read at an offset with so much room
pub record Stands (room : ℕ) (s : List ℕ) (p : ℕ) (t : Tree) : Type 0 where
  pub lies : BytesAt s p (tokens t)
  pub labelled : Labelled t
  pub shallow : depth t ≤ room

leaf_stands : (room : ℕ) (s : List ℕ) (p : ℕ) (t : Tree) → Bytes s → Look s p a_leaf → label_at s (suc p) ≡ done t → Stands room s p t
unfolding tokens depth
leaf_stands room s p t bs (at_leaf there is) e = whole (leb (suc p + label_bytes) (length s)) refl
  where
    whole : (b : Bool) → leb (suc p + label_bytes) (length s) ≡ b → Stands room s p t
    whole true h =
        let within : suc p + label_bytes ≤ length s = leb-true _ _ h in
        let label : BytesAt s (suc p) (bytes_of label_bytes (number_at label_bytes s (suc p))) = rw (bytes_of_number_at label_bytes s (suc p) bs within) (lies_taken label_bytes s (suc p) within) in
        let same : leaf (number_at label_bytes s (suc p)) ≡ t = cc (label_whole s (suc p) within) in
        subst (Stands room s p) same
        (record { lies = one_more there is label; labelled = number_at_lt label_bytes s (suc p) bs within; shallow = omega arith })
    whole false h = done_not e (label_cut s (suc p) (leb-false _ _ h))

-- a node that was read stands there, where its parts that were read do
node_stands :
    (room : ℕ) (s : List ℕ) (p : ℕ) (t : Tree)
    → ((q : ℕ) (u : Tree) → tree_at room s q ≡ done u → Stands room s q u)
    → Look s p a_node
    → tree_at (suc room) s p ≡ done t
    → Stands (suc room) s p t
unfolding tokens depth
node_stands room s p t part (at_node there is) e = by_left (outcome (tree_at room s (suc p)))
  where
    k : Look s p a_node
    k = at_node there is

    by_right : (l : Tree) → tree_at room s (suc p) ≡ done l → Outcome (tree_at room s (suc p + length (tokens l))) → Stands (suc room) s p t
    by_right l f (stopped n q g) = done_not e (right_refused room k f g)
    by_right l f (gave r g) =
        let left = part (suc p) l f in
        let right = part (suc p + length (tokens l)) r g in
        let same : node l r ≡ t = cc (read_node room k f g) in
        subst (Stands (suc room) s p) same
        (record { lies = one_more there is (lies_append left.lies right.lies); labelled = (left.labelled, right.labelled); shallow = omega (arith, left.shallow, right.shallow) })

    by_left : Outcome (tree_at room s (suc p)) → Stands (suc room) s p t
    by_left (stopped n q f) = done_not e (left_refused room k f)
    by_left (gave l f) = by_right l f (outcome (tree_at room s (suc p + length (tokens l))))

-- a tree that was read stands there, where this holds of a node
by_tag : (room : ℕ) (s : List ℕ) (p : ℕ) (t : Tree) → Bytes s → (Look s p a_node → Stands room s p t) → {g : Tag} → Look s p g → tree_at room s p ≡ done t → Stands room s p t
by_tag room s p t bs below (past h) e = done_not e (read_ended room (past h))
by_tag room s p t bs below (at_leaf there is) e = leaf_stands room s p t bs (at_leaf there is) (sym (read_leaf room (at_leaf there is)) ∙ e)
by_tag room s p t bs below (at_node there is) e = below (at_node there is)
by_tag room s p t bs below (at_other there nl nn) e = done_not e (read_other room (at_other there nl nn))

-- a tree that was read stands there
pub stands : (room : ℕ) (s : List ℕ) (p : ℕ) (t : Tree) → Bytes s → tree_at room s p ≡ done t → Stands room s p t
stands zero s p t bs e = by_tag zero s p t bs (λ k. done_not e (read_deep k)) (look s p) e
stands (suc room) s p t bs e = by_tag (suc room) s p t bs (λ k. node_stands room s p t (λ q u f. stands room s q u bs f) k e) (look s p) e

-- tokens are prefix-free: two trees that stand at one offset are the same
pub one_tree : (t u : Tree) (s : List ℕ) (p : ℕ) → Labelled t → Labelled u → BytesAt s p (tokens t) → BytesAt s p (tokens u) → t ≡ u
one_tree t u s p lt lu ht hu =
    let room : ℕ = max (depth t) (depth u) in
    let rt : tree_at room s p ≡ done t = reads_at t room s p lt (le-max_left _ _) ht in
    let ru : tree_at room s p ≡ done u = reads_at u room s p lu (le-max_right _ _) hu in
    cc
