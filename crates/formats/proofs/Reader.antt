-- The tree reader's answers mean what specs/Reader.antt states. What is read stands there and what
-- stands there is read (proofs/Tokens.antt). A refusal inside a part is the refusal of the whole.
-- So the way from an offset where a tag is due to the first fault goes by recursion on the room,
-- and the way back from a fault to the whole buffer by recursion on how the offset was reached.
use Prim.Native.Nat.{ℕ, zero, suc, ◌+◌, ◌-◌, ◌≤◌, ◌<◌, zero-le}
use mathlib.Core.Bool.{Bool, true, false}
use mathlib.Core.List.{List, [], ◌∷◌, ◌++◌, append-nil, append_assoc}
use mathlib.Core.Logic.{◌≢◌}
use mathlib.Core.Path.{◌≡◌, refl, sym, ap, subst, ◌∙◌}
use native.Mathlib.Nat.{le_antisymm, le_of_eq}
use native.Mathlib.Numerals.{add-one}
use native.Mathlib.Omega.{arith}
use borrow.Author.Tests.{leb-true, leb-false}
use lib.Dec.{leb, lit<}
use lib.ListN.{length, get_or, take, drop, length-drop}
use lib.Seq.{get_or-drop, take_all, split_at}
use Rattle.formats.specs.Numbers.{Bytes, number_of}
use Rattle.formats.specs.Buffers.{Opens, BytesAt, nothing, one_more}
use Rattle.formats.specs.Refusals.{input_ended, not_a_tag, too_deep}
use Rattle.formats.specs.Tokens.{Tree, leaf, node, Labelled, depth, leaf_tag, node_tag, label_bytes, most_depth, tokens, Tag, a_leaf, a_node, label_at, tree_at, first_tree}
use Rattle.formats.specs.Reader.{Gave, Due, first, left, right, Refuses, no_tag, no_label, no_such_tag, under_too_many, OpensSomeTree, Ended, FitsNone, TooDeep, TreeReader}
use Rattle.formats.proofs.Numbers.{length_bytes_of, bytes_of_opens, number_of_fits}
use Rattle.formats.proofs.Buffers.{lies_left, lies_right, lies_part, lies_within, lies_first, opens_lies, lies_shared, lies_take, lies_all, head_is}
use Rattle.formats.proofs.Tokens.{length_of_tokens, Look, past, at_leaf, at_node, at_other, look, read_ended, read_leaf, read_other, read_deep, label_whole, label_cut, left_refused, right_refused, read_node, reads_at, stands, one_tree}
use Rattle.formats.specs.Results.{Result, done, refusal}
use Rattle.formats.proofs.Results.{Outcome, gave, stopped, outcome, done_not}

takes : (t : Tree) (rest : List ℕ) → Labelled t → depth t ≤ most_depth → first_tree (tokens t ++ rest) ≡ done t
unfolding first_tree
takes t rest fits shallow = reads_at t most_depth (tokens t ++ rest) 0 fits shallow (lies_first (tokens t) rest)

gives : (s : List ℕ) (t : Tree) → Bytes s → first_tree s ≡ done t → Gave s t
unfolding first_tree
gives s t bs e =
    let h = stands most_depth s 0 t bs e in
    record { own-bytes = lies_part h.lies; labelled = h.labelled; shallow = h.shallow; only = λ u lu o. one_tree u t s 0 lu h.labelled (opens_lies o) h.lies }

none : (s : List ℕ) (number p : ℕ) → first_tree s ≡ refusal number p → (t : Tree) → Labelled t → depth t ≤ most_depth → Opens (tokens t) s → ⊥
unfolding first_tree
none s number p e t fits shallow o = done_not (reads_at t most_depth s 0 fits shallow (opens_lies o)) e

-- ---- from an offset where a tag is due to the first fault

-- an offset where a tag is due lies within the buffer or at its end, under at most 1,024 nodes
due_within : {s : List ℕ} {p above : ℕ} → Due s p above → p ≤ length s
due_within first = zero-le
due_within (left d room (one_more there is more)) = there
due_within (right {p = p} l d fits shallow h) = let within = lies_within h (due_within d) in omega arith

due_under : {s : List ℕ} {p above : ℕ} → Due s p above → above ≤ most_depth
due_under first = zero-le
due_under (left d room tag) = room
due_under (right l d fits shallow h) = omega arith

-- a fault found is the one that was asked for
same_fault : {s : List ℕ} {r : Result Tree} {n q n' q' : ℕ} → r ≡ refusal n q → r ≡ refusal n' q' → Refuses s n q → Refuses s n' q'
same_fault {s} {n = n} {q = q} {n' = n'} {q' = q'} e f h =
    let number : n ≡ n' = cc in
    let position : q ≡ q' = cc in
    rw (← number, ← position) h

-- at a leaf that is due: a label that is not whole
leaf_fault : (s : List ℕ) (p above n q : ℕ) → Due s p above → Look s p a_leaf → label_at s (suc p) ≡ refusal n q → Refuses s n q
leaf_fault s p above n q d (at_leaf there is) e = whole (leb (suc p + label_bytes) (length s)) refl
  where
    whole : (b : Bool) → leb (suc p + label_bytes) (length s) ≡ b → Refuses s n q
    whole true h = done_not (label_whole s (suc p) (leb-true _ _ h)) e
    whole false h =
        let cut : length s < suc p + label_bytes = leb-false _ _ h in
        same_fault (label_cut s (suc p) cut) e (no_label d (one_more there is nothing) cut)

-- at a node that is due, with room below: the fault of the left tree, else of the right one
node_fault :
    (room : ℕ) (s : List ℕ) (p above n q : ℕ)
    → Bytes s
    → above + suc room ≡ most_depth
    → ((o m r : ℕ) → Due s o (suc above) → tree_at room s o ≡ refusal m r → Refuses s m r)
    → Due s p above
    → Look s p a_node
    → tree_at (suc room) s p ≡ refusal n q
    → Refuses s n q
node_fault room s p above n q bs h part d (at_node there is) e = by_left (outcome (tree_at room s (suc p)))
  where
    k : Look s p a_node
    k = at_node there is

    by_right : (l : Tree) → tree_at room s (suc p) ≡ done l → Outcome (tree_at room s (suc p + length (tokens l))) → Refuses s n q
    by_right l f (gave r g) = done_not (read_node room k f g) e
    by_right l f (stopped m r g) =
        let was = stands room s (suc p) l bs f in
        let due : Due s (suc p + length (tokens l)) (suc above) = right l d was.labelled (omega (arith, was.shallow)) (one_more there is was.lies) in
        same_fault (right_refused room k f g) e (part _ m r due g)

    by_left : Outcome (tree_at room s (suc p)) → Refuses s n q
    by_left (gave l f) = by_right l f (outcome (tree_at room s (suc p + length (tokens l))))
    by_left (stopped m r f) = same_fault (left_refused room k f) e (part (suc p) m r (left d (omega arith) (one_more there is nothing)) f)

-- by the tag that stands where one is due
fault_by_tag :
    (room : ℕ) (s : List ℕ) (p above n q : ℕ)
    → Due s p above
    → (Look s p a_node → Refuses s n q)
    → {g : Tag}
    → Look s p g
    → tree_at room s p ≡ refusal n q
    → Refuses s n q
fault_by_tag room s p above n q d below (past h) e = same_fault (read_ended room (past h)) e (no_tag d (le_antisymm (due_within d) h))
fault_by_tag room s p above n q d below (at_leaf there is) e = leaf_fault s p above n q d (at_leaf there is) (sym (read_leaf room (at_leaf there is)) ∙ e)
fault_by_tag room s p above n q d below (at_node there is) e = below (at_node there is)
fault_by_tag room s p above n q d below (at_other there nl nn) e = same_fault (read_other room (at_other there nl nn)) e (no_such_tag d there nl nn)

-- at a node that is due under 1,024 others
deep_fault : {s : List ℕ} {p above : ℕ} → above ≡ most_depth → Due s p above → Look s p a_node → Refuses s too_deep p
deep_fault {s} {p} e d (at_node there is) = under_too_many (subst (Due s p) e d) (one_more there is nothing)

fault : (room : ℕ) (s : List ℕ) (p above n q : ℕ) → Bytes s → above + room ≡ most_depth → Due s p above → tree_at room s p ≡ refusal n q → Refuses s n q
fault zero s p above n q bs h d e = fault_by_tag zero s p above n q d (λ k. same_fault (read_deep k) e (deep_fault (omega arith) d k)) (look s p) e
fault (suc room) s p above n q bs h d e =
    fault_by_tag (suc room) s p above n q d
    (λ k. node_fault room s p above n q bs h (λ o m r due f. fault room s o (suc above) m r bs (omega arith) due f) d k e)
    (look s p) e

-- ---- from a fault back to the whole buffer

-- what is refused where a tag is due is refused of the buffer
whole_refused : {s : List ℕ} {p above n q : ℕ} → Due s p above → (room : ℕ) → above + room ≡ most_depth → tree_at room s p ≡ refusal n q → first_tree s ≡ refusal n q
unfolding first_tree
whole_refused {s} {n = n} {q = q} first room h e = subst (λ (m : ℕ). tree_at m s 0 ≡ refusal n q) (omega arith) e
whole_refused (left d below (one_more there is more)) room h e = whole_refused d (suc room) (omega arith) (left_refused room (at_node there is) e)
whole_refused {s} (right {p = p} l d fits shallow (one_more there is more)) room h e =
    whole_refused d (suc room) (omega arith) (right_refused room (at_node there is) (reads_at l room s (suc p) fits (omega arith) more) e)

back : {s : List ℕ} {n q : ℕ} → Refuses s n q → first_tree s ≡ refusal n q
back (no_tag {above = above} d e) = whole_refused d (most_depth - above) (omega (arith, due_under d)) (read_ended _ (past (le_of_eq (sym e))))
back {s} (no_label {p = p} {above = above} d (one_more there is more) cut) =
    whole_refused d (most_depth - above) (omega (arith, due_under d)) (read_leaf _ (at_leaf there is) ∙ label_cut s (suc p) cut)
back (no_such_tag {above = above} d there nl nn) = whole_refused d (most_depth - above) (omega (arith, due_under d)) (read_other _ (at_other there nl nn))
back (under_too_many d (one_more there is more)) = whole_refused d 0 refl (read_deep (at_node there is))

-- ---- what each number means

-- a tree, a part of which stands where a tag is due: the bytes before that offset are its opening
-- bytes
record Filled (s : List ℕ) (p : ℕ) (u : Tree) : Type 0 where
  whole : Tree
  labelled : Labelled whole
  rest : List ℕ
  joined : tokens whole ≡ take p s ++ (tokens u ++ rest)

-- any tree may stand where a tag is due; right trees that are missing are filled in as leaves
filled : {s : List ℕ} {p above : ℕ} → Due s p above → (u : Tree) → Labelled u → Filled s p u
unfolding tokens
filled first u fits = record { whole = u; labelled = fits; rest = []; joined = sym (append-nil (tokens u)) }
filled {s} (left {p = p} d room tag) u fits =
    let f = filled d (node u (leaf 0)) (fits, lit< tt) in
    let longer : take (suc p) s ≡ take p s ++ (node_tag ∷ []) = rw (← (add-one p)) (lies_take tag) in
    record { whole = f.whole; labelled = f.labelled; rest = tokens (leaf 0) ++ f.rest; joined = f.joined ∙ simp (longer, append_assoc) }
filled {s} (right {p = p} l d fl shallow h) u fits =
    let f = filled d (node l u) (fl, fits) in
    let position : suc p + length (tokens l) ≡ p + suc (length (tokens l)) = omega arith in
    let longer : take (suc p + length (tokens l)) s ≡ take p s ++ (node_tag ∷ tokens l) = ap (λ (n : ℕ). take n s) position ∙ lies_take h in
    record { whole = f.whole; labelled = f.labelled; rest = f.rest; joined = f.joined ∙ simp (longer, append_assoc) }

-- a tree, and where it stands
record PartAt (s : List ℕ) (p : ℕ) : Type 0 where
  part : Tree
  labelled : Labelled part
  lies : BytesAt s p (tokens part)

left_part : {s : List ℕ} {p : ℕ} (u : Tree) → Labelled u → BytesAt s p (tokens u) → get_or s p 0 ≡ node_tag → PartAt s (suc p)
unfolding tokens
left_part (leaf x) fits (one_more there is more) tag = absurd (omega arith)
left_part (node l r) fits (one_more there is more) tag = record { part = l; labelled = fits.0; lies = lies_left (tokens l) (tokens r) more }

right_part : {s : List ℕ} {p : ℕ} (u l : Tree) → Labelled u → Labelled l → BytesAt s p (tokens u) → BytesAt s p (node_tag ∷ tokens l) → PartAt s (suc p + length (tokens l))
unfolding tokens
right_part (leaf x) l fits fl (one_more there is more) (one_more t tag m) = absurd (omega arith)
right_part {s} {p} (node k r) l fits fl (one_more there is more) (one_more t tag m) =
    let same : k ≡ l = one_tree k l s (suc p) fits.0 fl (lies_left (tokens k) (tokens r) more) m in
    record { part = r; labelled = fits.1; lies = subst (λ (v : Tree). BytesAt s (suc p + length (tokens v)) (tokens r)) same (lies_right (tokens k) (tokens r) more) }

-- where a tag is due and a tree opens the buffer, a part of that tree stands
due_part : {s : List ℕ} {p above : ℕ} → Due s p above → (t : Tree) → Labelled t → BytesAt s 0 (tokens t) → PartAt s p
due_part first t fits h = record { part = t; labelled = fits; lies = h }
due_part (left d room (one_more there is more)) t fits h = let u = due_part d t fits h in left_part u.part u.labelled u.lies is
due_part (right l d fl shallow m) t fits h = let u = due_part d t fits h in right_part u.part l u.labelled fl u.lies m

-- where a tag is due in the first n bytes, it is due in each buffer that opens with these
due_shared : {s : List ℕ} {p above : ℕ} (n : ℕ) (u : List ℕ) → Opens (take n s) u → Due s p above → p ≤ n → Due u p above
due_shared n u o first h = first
due_shared n u o (left d room tag) h = left (due_shared n u o d (omega arith)) room (lies_shared n u o tag (omega arith))
due_shared n u o (right l d fl shallow m) h = right l (due_shared n u o d (omega arith)) fl shallow (lies_shared n u o m (omega arith))

-- the first byte of a tree's tokens is a tag
tag_first : {s : List ℕ} {p : ℕ} (u : Tree) → BytesAt s p (tokens u) → get_or s p 0 ≢ leaf_tag → get_or s p 0 ≢ node_tag → ⊥
unfolding tokens
tag_first (leaf x) (one_more there is more) nl nn = nl is
tag_first (node l r) (one_more there is more) nl nn = nn is

-- the bytes before an offset where a tag is due fit some tree
fits_before : {s : List ℕ} {p above : ℕ} → Due s p above → OpensSomeTree (take p s)
fits_before d =
    let f = filled d (leaf 0) (lit< tt) in
    record { whole = f.whole; labelled = f.labelled; opens = record { rest = tokens (leaf 0) ++ f.rest; joined = f.joined } }

fits_none_at : {s : List ℕ} {p above : ℕ} → Due s p above → p < length s → get_or s p 0 ≢ leaf_tag → get_or s p 0 ≢ node_tag → FitsNone s p
fits_none_at {s} {p} d there nl nn = record { there = there; before = fits_before d; no_longer = refuted }
  where
    refuted : OpensSomeTree (take (suc p) s) → ⊥
    refuted f =
        let u = due_part (due_shared (suc p) (tokens f.whole) f.opens d (omega arith)) f.whole f.labelled (lies_all (tokens f.whole)) in
        let same : get_or (tokens f.whole) p 0 ≡ get_or s p 0 = head_is (lies_shared {s = s} (suc p) (tokens f.whole) f.opens (one_more there refl nothing) (omega arith)) in
        tag_first u.part u.lies (rw same nl) (rw same nn)

-- bytes that end in the middle of a label, and a leaf whose label opens so
label_joined : (s before b label more rest : List ℕ) → s ≡ before ++ (leaf_tag ∷ b) → label ≡ b ++ more → before ++ ((leaf_tag ∷ label) ++ rest) ≡ s ++ (more ++ rest)
label_joined s before b label more rest e f = simp (e, f, append_assoc)

cut_label_fits : {s : List ℕ} {p above : ℕ} → Bytes s → Due s p above → BytesAt s p (leaf_tag ∷ []) → length s < suc p + label_bytes → OpensSomeTree s
unfolding tokens
cut_label_fits {s} {p} bs d (one_more there is more) cut =
    let b : List ℕ = drop (suc p) s in
    let bb : Bytes b = λ i. rw get_or-drop (bs (suc p + i)) in
    let few : length b ≤ label_bytes = simp length-drop (omega arith) in
    let o = bytes_of_opens label_bytes b bb few in
    let f = filled d (leaf (number_of b)) (number_of_fits label_bytes b bb few) in
    let split : s ≡ take p s ++ (leaf_tag ∷ b) = split_at s p 0 there ∙ ap (λ (v : ℕ). take p s ++ (v ∷ b)) is in
    record { whole = f.whole; labelled = f.labelled; opens = record { rest = o.rest ++ f.rest; joined = f.joined ∙ label_joined s (take p s) b _ o.rest f.rest split o.joined } }

-- no tree stands where the buffer ends, and no leaf where its label is cut
never_past : {s : List ℕ} {p : ℕ} (u : Tree) → BytesAt s p (tokens u) → p ≡ length s → ⊥
unfolding tokens
never_past (leaf x) (one_more there is more) e = omega arith
never_past (node l r) (one_more there is more) e = omega arith

never_cut : {s : List ℕ} {p : ℕ} (u : Tree) → BytesAt s p (tokens u) → get_or s p 0 ≡ leaf_tag → length s < suc p + label_bytes → ⊥
unfolding tokens
never_cut {s} {p} (leaf x) (one_more there is more) tag cut =
    let whole : suc p + label_bytes ≤ length s = rw length_bytes_of at (lies_within more there) in
    omega arith
never_cut (node l r) (one_more there is more) tag cut = omega arith

ended_at : {s : List ℕ} {n p : ℕ} → Bytes s → Refuses s n p → n ≡ input_ended → Ended s
ended_at {s} bs (no_tag {p = p} d e) is =
    record {
      so_far = rw (take_all p s (le_of_eq (sym e))) at (fits_before d);
      more = λ t fits o. let u = due_part d t fits (opens_lies o) in never_past u.part u.lies e;
    }
ended_at bs (no_label d tag cut) is =
    record {
      so_far = cut_label_fits bs d tag cut;
      more = λ t fits o. let u = due_part d t fits (opens_lies o) in never_cut u.part u.lies (head_is tag) cut;
    }
ended_at bs (no_such_tag d there nl nn) is = absurd (omega arith)
ended_at bs (under_too_many d tag) is = absurd (omega arith)

fits_none : {s : List ℕ} {n p : ℕ} → Refuses s n p → n ≡ not_a_tag → FitsNone s p
fits_none (no_tag d e) is = absurd (omega arith)
fits_none (no_label d tag cut) is = absurd (omega arith)
fits_none (no_such_tag d there nl nn) is = fits_none_at d there nl nn
fits_none (under_too_many d tag) is = absurd (omega arith)

too-deep : {s : List ℕ} {n p : ℕ} → Refuses s n p → n ≡ too_deep → TooDeep s p
too-deep (no_tag d e) is = absurd (omega arith)
too-deep (no_label d tag cut) is = absurd (omega arith)
too-deep (no_such_tag d there nl nn) is = absurd (omega arith)
too-deep (under_too_many d tag) is = record { tag = tag; under = d }

-- ---- the statement

fault_first : (s : List ℕ) (n q : ℕ) → Bytes s → first_tree s ≡ refusal n q → Refuses s n q
unfolding first_tree
fault_first s n q bs e = fault most_depth s 0 0 n q bs refl first e

pub tree_reader : TreeReader
tree_reader =
    record {
      length_of_tokens = length_of_tokens;
      takes = takes;
      gives = gives;
      none = none;
      refuses = λ s n p bs. (fault_first s n p bs, back);
      ended = λ s p bs e. ended_at bs (fault_first s input_ended p bs e) refl;
      fits_none = λ s p bs e. fits_none (fault_first s not_a_tag p bs e) refl;
      too-deep = λ s p bs e. too-deep (fault_first s too_deep p bs e) refl;
    }
