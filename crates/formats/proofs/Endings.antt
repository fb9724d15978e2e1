-- Laws of where a tree ends and of its deepest leaf, one for each way in which a reader can find
-- them, whatever the width of its labels. Their premises say what stands where the tag is due
-- (`Look`), and whether the label is whole. `end_of_tree`: with labels of 4 bytes these are of the
-- tree that is read; `measures_first`: so are the first tree's measures. `read_by` and `stopped-by`
-- lead back from the measures, or the refusal, to that tree.
use Prim.Native.Nat.{ℕ, zero, suc, ◌+◌, ◌/◌, ◌≤◌, ◌<◌, max}
use mathlib.Core.Bool.{Bool, true, false}
use mathlib.Core.List.{List, [], ◌++◌}
use mathlib.Core.Path.{◌≡◌, refl, sym, ap, ap₂, ◌∙◌}
use native.Mathlib.Nat.{zero-add, zero-max}
use native.Mathlib.Omega.{arith}
use borrow.Author.Tests.{le-leb, lt-leb, leb-true, leb-false}
use lib.Dec.{leb}
use lib.ListN.{length, take, length-append}
use Rattle.formats.specs.Numbers.{Bytes, bytes_of}
use Rattle.formats.specs.Refusals.{input_ended, not_a_tag, too_deep}
use Rattle.formats.specs.Tokens.{Tree, tips, depth, label_bytes, most_depth, tokens, Tag, no_byte, a_leaf, a_node, other, tree_at, first_tree, own_bytes}
use Rattle.formats.specs.Measures.{Measures, measures_of, first_measures}
use Rattle.formats.specs.Inner.Trees.{leaf_bytes, Ending, label_end, end_by_tag, end_at, measures_at, measures_by}
use Rattle.formats.proofs.Tokens.{Look, past, at_leaf, at_node, at_other, look, tag_is, six_a_tip, read_ended, read_leaf, read_other, read_deep, label_whole, label_cut, left_refused, right_refused, read_node}
use Rattle.formats.proofs.Reader.{tree_reader}
use Rattle.formats.specs.Results.{Result, done, refusal, and_then, on_value}
use Rattle.formats.proofs.Results.{Outcome, gave, stopped, outcome, done_injective, done_not, then_done, then_refused, then_inv}

-- ---- from the measures back to the tree that was read

pub record ReadBy (r : Result Tree) (m : Measures) : Type 0 where
  pub it : Tree
  pub is : r ≡ done it
  pub measures : measures_of it ≡ m

pub read_by : (s : List ℕ) (m : Measures) → first_measures s ≡ done m → ReadBy (first_tree s) m
unfolding first_measures
read_by s m e = by (first_tree s) e
  where
    by : (r : Result Tree) → on_value measures_of r ≡ done m → ReadBy r m
    by (done t) e = record { it = t; is = refl; measures = done_injective e }
    by (refusal n q) e = done_not e refl

pub stopped-by : (s : List ℕ) (n q : ℕ) → first_measures s ≡ refusal n q → first_tree s ≡ refusal n q
unfolding first_measures
stopped-by s n q e = by (first_tree s) e
  where
    by : (r : Result Tree) → on_value measures_of r ≡ refusal n q → r ≡ refusal n q
    by (done t) e = done_not (sym e) refl
    by (refusal m o) e = cc

-- ---- by the tag

module _ (width : ℕ) where
  pub end_past : (room above : ℕ) {s : List ℕ} {p : ℕ} (deepest : ℕ) → Look s p no_byte → end_at width room above s p deepest ≡ refusal input_ended p
  unfolding end_at end_by_tag
  end_past zero above deepest k = simp (end_at, end_by_tag, tag_is k)
  end_past (suc room) above deepest k = simp (end_at, end_by_tag, tag_is k)

  pub end_other : (room above : ℕ) {s : List ℕ} {p : ℕ} (deepest : ℕ) → Look s p other → end_at width room above s p deepest ≡ refusal not_a_tag p
  unfolding end_at end_by_tag
  end_other zero above deepest k = simp (end_at, end_by_tag, tag_is k)
  end_other (suc room) above deepest k = simp (end_at, end_by_tag, tag_is k)

  end_label : (room above : ℕ) {s : List ℕ} {p : ℕ} (deepest : ℕ) → Look s p a_leaf → end_at width room above s p deepest ≡ label_end width above s (suc p) deepest
  unfolding end_at end_by_tag
  end_label zero above deepest k = simp (end_at, end_by_tag, tag_is k)
  end_label (suc room) above deepest k = simp (end_at, end_by_tag, tag_is k)

  pub end_leaf : (room above : ℕ) {s : List ℕ} {p : ℕ} (deepest : ℕ) → Look s p a_leaf → suc p + width ≤ length s
      → end_at width room above s p deepest ≡ done (record { end = suc p + width; deepest = max deepest above })
  unfolding label_end
  end_leaf room above deepest k whole = end_label room above deepest k ∙ simp (label_end, le-leb _ _ whole)

  pub end_cut : (room above : ℕ) {s : List ℕ} {p : ℕ} (deepest : ℕ) → Look s p a_leaf → length s < suc p + width
      → end_at width room above s p deepest ≡ refusal input_ended (suc p)
  unfolding label_end
  end_cut room above deepest k cut = end_label room above deepest k ∙ simp (label_end, lt-leb _ _ cut)

  -- at a node: with no room below it; and else the left tree's end, from which the right tree goes
  -- on
  pub end_deep : (above : ℕ) {s : List ℕ} {p : ℕ} (deepest : ℕ) → Look s p a_node → end_at width zero above s p deepest ≡ refusal too_deep p
  unfolding end_at end_by_tag
  end_deep above deepest k = simp (end_at, end_by_tag, tag_is k)

  pub end_node : (room above : ℕ) {s : List ℕ} {p : ℕ} (deepest : ℕ) → Look s p a_node
      → end_at width (suc room) above s p deepest
      ≡ and_then (end_at width room (suc above) s (suc p) deepest) (λ l. end_at width room (suc above) s l.end l.deepest)
  unfolding end_at end_by_tag
  end_node room above deepest k = simp (end_at, end_by_tag, tag_is k)

  -- ---- a tree ends within the buffer

  leaf_within : (room above : ℕ) (s : List ℕ) (p deepest : ℕ) (o : Ending) → Look s p a_leaf → end_at width room above s p deepest ≡ done o → o.end ≤ length s
  leaf_within room above s p deepest o k e = whole (leb (suc p + width) (length s)) refl
    where
      whole : (b : Bool) → leb (suc p + width) (length s) ≡ b → o.end ≤ length s
      whole true h =
          let fits : suc p + width ≤ length s = leb-true _ _ h in
          let same : suc p + width ≡ o.end = ap (λ x. x.end) (done_injective (sym (end_leaf room above deepest k fits) ∙ e)) in
          rw (← same) fits
      whole false h = done_not e (end_cut room above deepest k (leb-false _ _ h))

  within_by_tag : (room above : ℕ) (s : List ℕ) (p deepest : ℕ) (o : Ending) → (Look s p a_node → o.end ≤ length s) → {g : Tag} → Look s p g
      → end_at width room above s p deepest ≡ done o
      → o.end ≤ length s
  within_by_tag room above s p deepest o below (past h) e = done_not e (end_past room above deepest (past h))
  within_by_tag room above s p deepest o below (at_leaf there is) e = leaf_within room above s p deepest o (at_leaf there is) e
  within_by_tag room above s p deepest o below (at_node there is) e = below (at_node there is)
  within_by_tag room above s p deepest o below (at_other there nl nn) e = done_not e (end_other room above deepest (at_other there nl nn))

  ends_within : (room above : ℕ) (s : List ℕ) (p deepest : ℕ) (o : Ending) → end_at width room above s p deepest ≡ done o → o.end ≤ length s
  ends_within zero above s p deepest o e = within_by_tag zero above s p deepest o (λ k. done_not e (end_deep above deepest k)) (look s p) e
  ends_within (suc room) above s p deepest o e =
      within_by_tag (suc room) above s p deepest o
      (λ k.
      let right = then_inv (end_at width room (suc above) s (suc p) deepest) _ o (sym (end_node room above deepest k) ∙ e) in
      ends_within room (suc above) s right.value.end right.value.deepest o right.second)
      (look s p) e

-- ---- with labels of 4 bytes: of the tree that is read

-- The end of a tree at offset p under `above` nodes, and the deepest leaf up to there.
abbrev end_of : (above p deepest : ℕ) → Tree → Ending
end_of above p deepest t = record { end = p + length (tokens t); deepest = max deepest (above + depth t) }

-- What a reading at offset p gives.
abbrev Agrees : (room above : ℕ) → List ℕ → (p deepest : ℕ) → Type 0
Agrees room above s p deepest = end_at label_bytes room above s p deepest ≡ on_value (end_of above p deepest) (tree_at room s p)

leaf_ends : (room above : ℕ) (s : List ℕ) (p deepest : ℕ) → Look s p a_leaf → Agrees room above s p deepest
unfolding tokens bytes_of depth
leaf_ends room above s p deepest k = whole (leb (suc p + label_bytes) (length s)) refl
  where
    whole : (b : Bool) → leb (suc p + label_bytes) (length s) ≡ b → Agrees room above s p deepest
    whole true h =
        let fits : suc p + label_bytes ≤ length s = leb-true _ _ h in
        let whole_leaf : suc p + label_bytes ≡ p + leaf_bytes = omega arith in
        let no_nodes : above ≡ above + 0 = omega arith in
        end_leaf label_bytes room above deepest k fits
        ∙ ap₂ (λ e d. done (record { end = e; deepest = max deepest d })) whole_leaf no_nodes
        ∙ sym (ap (on_value (end_of above p deepest)) (read_leaf room k ∙ label_whole s (suc p) fits))
    whole false h =
        let cut : length s < suc p + label_bytes = leb-false _ _ h in
        end_cut label_bytes room above deepest k cut ∙ sym (ap (on_value (end_of above p deepest)) (read_leaf room k ∙ label_cut s (suc p) cut))

-- a node whose parts end where the trees that are read do
node_ends :
    (room above : ℕ) (s : List ℕ) (p deepest : ℕ)
    → ((q deepest : ℕ) → Agrees room (suc above) s q deepest)
    → Look s p a_node
    → Agrees (suc room) above s p deepest
unfolding tokens depth
node_ends room above s p deepest part k = end_node label_bytes room above deepest k ∙ by_left (outcome (tree_at room s (suc p)))
  where
    below : Ending → Result Ending
    below l = end_at label_bytes room (suc above) s l.end l.deepest

    of : Tree → Ending
    of = end_of above p deepest

    left : Tree → Ending
    left = end_of (suc above) (suc p) deepest

    by_right : (l : Tree) → tree_at room s (suc p) ≡ done l → Outcome (tree_at room s (suc p + length (tokens l))) → below (left l) ≡ on_value of (tree_at (suc room) s p)
    by_right l f (stopped n q g) = part _ _ ∙ ap (on_value _) g ∙ sym (ap (on_value of) (right_refused room k f g))
    by_right l f (gave r g) =
        let joined : suc p + length (tokens l) + length (tokens r) ≡ p + suc (length (tokens l ++ tokens r)) = simp length-append (omega arith) in
        let deeper : max (max deepest (suc above + depth l)) (suc above + depth r) ≡ max deepest (above + suc (max (depth l) (depth r))) = omega arith in
        part _ _
        ∙ ap (on_value _) g
        ∙ ap₂ (λ e d. done (record { end = e; deepest = d })) joined deeper
        ∙ sym (ap (on_value of) (read_node room k f g))

    by_left : Outcome (tree_at room s (suc p)) → and_then (end_at label_bytes room (suc above) s (suc p) deepest) below ≡ on_value of (tree_at (suc room) s p)
    by_left (stopped n q f) = then_refused below (part (suc p) deepest ∙ ap (on_value left) f) ∙ sym (ap (on_value of) (left_refused room k f))
    by_left (gave l f) = then_done below (part (suc p) deepest ∙ ap (on_value left) f) ∙ by_right l f (outcome (tree_at room s (suc p + length (tokens l))))

-- by the tag, where this holds of a node
ends_by_tag : (room above : ℕ) (s : List ℕ) (p deepest : ℕ) → (Look s p a_node → Agrees room above s p deepest) → {g : Tag} → Look s p g → Agrees room above s p deepest
ends_by_tag room above s p deepest below (past h) =
    end_past label_bytes room above deepest (past h) ∙ sym (ap (on_value (end_of above p deepest)) (read_ended room (past h)))
ends_by_tag room above s p deepest below (at_leaf there is) = leaf_ends room above s p deepest (at_leaf there is)
ends_by_tag room above s p deepest below (at_node there is) = below (at_node there is)
ends_by_tag room above s p deepest below (at_other there nl nn) =
    end_other label_bytes room above deepest (at_other there nl nn) ∙ sym (ap (on_value (end_of above p deepest)) (read_other room (at_other there nl nn)))

node_deep : (above : ℕ) (s : List ℕ) (p deepest : ℕ) → Look s p a_node → Agrees zero above s p deepest
node_deep above s p deepest k = end_deep label_bytes above deepest k ∙ sym (ap (on_value (end_of above p deepest)) (read_deep k))

pub end_of_tree : (room above : ℕ) (s : List ℕ) (p deepest : ℕ) → Agrees room above s p deepest
end_of_tree zero above s p deepest = ends_by_tag zero above s p deepest (node_deep above s p deepest) (look s p)
end_of_tree (suc room) above s p deepest =
    ends_by_tag (suc room) above s p deepest (node_ends room above s p deepest (end_of_tree room (suc above) s)) (look s p)

-- ---- of the first tree

-- six bytes for each tip, less one
tips_of : (t : Tree) → (length (tokens t) + 1) / 6 ≡ tips t
tips_of t = let h = six_a_tip t in omega arith

-- it is read from offset 0 on, with room for 1,024 nodes
pub measures_first : (s : List ℕ) → measures_by label_bytes s ≡ first_measures s
unfolding measures_by first_measures measures_of first_tree
measures_first s = ap (on_value (measures_at label_bytes)) (end_of_tree most_depth 0 s 0 0) ∙ by (tree_at most_depth s 0)
  where
    by : (r : Result Tree) → on_value (measures_at label_bytes) (on_value (end_of 0 0 0) r) ≡ on_value measures_of r
    by (done t) = rw (zero-add (length (tokens t)), zero-add (depth t), zero-max, tips_of t)
    by (refusal n q) = refl

-- it ends within the buffer
pub end_within : (s : List ℕ) (m : Measures) → first_measures s ≡ done m → m.bytes ≤ length s
unfolding measures_of first_tree
end_within s m e =
    let t = read_by s m e in
    let there = ends_within label_bytes most_depth 0 s 0 0 _ (end_of_tree most_depth 0 s 0 0 ∙ ap (on_value (end_of 0 0 0)) t.is) in
    let same : length (tokens t.it) ≡ m.bytes = ap (λ x. x.bytes) t.measures in
    omega arith

-- its own bytes are the buffer's up to its end
pub own_ends : (s : List ℕ) (m : Measures) → Bytes s → first_measures s ≡ done m → take m.bytes s ≡ own_bytes (first_tree s)
unfolding measures_of own_bytes
own_ends s m bs e =
    let t = read_by s m e in
    rw (← t.measures, t.is) (tree_reader.gives s t.it bs t.is).own-bytes

-- there are none on a refusal
pub own_stops : (s : List ℕ) (n q : ℕ) → first_measures s ≡ refusal n q → [] ≡ own_bytes (first_tree s)
unfolding own_bytes
own_stops s n q e = rw (stopped-by s n q e)
