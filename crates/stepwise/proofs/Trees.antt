-- Trees that lie in the input, one whose end is known, and those named at a record, each with its
-- code and its offset.
use Prim.Native.Nat.{ℕ, zero, suc, ◌+◌, ◌-◌, ◌*◌, ◌/◌, ◌%◌, ◌≤◌, ◌<◌, zero-le}
use mathlib.Core.Bool.{Bool, true, false, ◌&&◌}
use mathlib.Core.List.{List, [], ◌∷◌, ◌++◌}
use mathlib.Core.Logic.{◌≢◌}
use mathlib.Core.Option.{some, some-injective}
use mathlib.Core.Path.{◌≡◌, refl, sym, ap, subst, ◌∙◌}
use native.Mathlib.Nat.{add-zero, zero-add}
use native.Mathlib.Omega.{arith}
use lib.Dec.{eqb, ltb}
use borrow.Author.Tests.{eqb-true, eqb-false, ltb-true}
use lib.ListN.{length, get_or, take, drop, length-append, take-append-drop, get_or-append}
use lib.Seq.{get_or_at}
use Rattle.formats.specs.Numbers.{Bytes, bytes_of, number_of, number_at}
use Rattle.formats.specs.Buffers.{one_more, BytesAt as BytesLie}
use Rattle.formats.specs.Results.{done}
use Rattle.formats.specs.Tokens.{Tree, leaf, node, Labelled, depth, leaf_tag, node_tag, label_bytes, tokens, most_depth, first_tree, first_end, end_from}
use Rattle.formats.specs.Inner.Trees.{leaf_bytes}
use Rattle.formats.proofs.Numbers.{length_bytes_of, number_bytes_of, number_at_whole}
use Rattle.formats.proofs.Buffers.{lies_part, lies_within, lies_left as bytes_left, lies_right as bytes_right}
use Rattle.formats.proofs.Reader.{tree_reader}
use Rattle.formats.proofs.Results.{done_injective, both_held}
use Rattle.formats.proofs.Tokens.{stands}
use Rattle.meaning.specs.Levels.{at_level}
use Rattle.meaning.proofs.Levels.{level_newest, level_older, level_below}
use Rattle.stepwise.specs.Inner.Rows.{naming_code}
use Rattle.stepwise.specs.Inner.Steps.{State, tree_at, Found, the_own, the_left, the_right, the_known, on_right, known_after}

-- ---- trees in the input

-- t's tokens stand at offset p of the input, and t is a tree that the reader takes
pub record Lies (input : List ℕ) (p : ℕ) (t : Tree) : Type 0 where
  pub there : BytesLie input p (tokens t)
  pub labelled : Labelled t
  pub shallow : depth t ≤ most_depth

-- a leaf's tag, and its label after it
pub record LeafThere (input : List ℕ) (p x : ℕ) : Type 0 where
  pub within : p < length input
  pub tag : get_or input p 0 ≡ leaf_tag
  pub label : number_at label_bytes input (suc p) ≡ x

leaf_there : {input : List ℕ} {p x : ℕ} → Labelled (leaf x) → BytesLie input p (tokens (leaf x)) → LeafThere input p x
unfolding tokens
leaf_there {input} {p} {x} fits (one_more there is more) =
    let whole : suc p + label_bytes ≤ length input = rw length_bytes_of at (lies_within more there) in
    let bytes : take label_bytes (drop (suc p) input) ≡ bytes_of label_bytes x = rw length_bytes_of at (lies_part more) in
    record {
      within = there;
      tag = is;
      label = number_at_whole label_bytes input (suc p) whole ∙ ap number_of bytes ∙ number_bytes_of label_bytes x fits;
    }

pub lies_leaf : {input : List ℕ} {p x : ℕ} → Lies input p (leaf x) → LeafThere input p x
lies_leaf h = leaf_there h.labelled h.there

-- a node's tag, and its trees one after the other
record NodeThere (input : List ℕ) (p : ℕ) (l r : Tree) : Type 0 where
  within : p < length input
  tag : get_or input p 0 ≡ node_tag
  left : BytesLie input (suc p) (tokens l)
  right : BytesLie input (suc p + length (tokens l)) (tokens r)

node_there : {input : List ℕ} {p : ℕ} {l r : Tree} → BytesLie input p (tokens (node l r)) → NodeThere input p l r
unfolding tokens
node_there {l = l} {r = r} (one_more there is more) =
    record { within = there; tag = is; left = bytes_left (tokens l) (tokens r) more; right = bytes_right (tokens l) (tokens r) more }

-- a node's trees are less deep
node_shallow : (l r : Tree) → depth (node l r) ≤ most_depth → (depth l ≤ most_depth) × (depth r ≤ most_depth)
unfolding depth
node_shallow l r h = (omega arith, omega arith)

-- the offset is within the input, and no leaf's tag stands there
pub lies_node : {input : List ℕ} {p : ℕ} {l r : Tree} → Lies input p (node l r) → (p < length input) × (get_or input p 0 ≢ leaf_tag)
lies_node h = let n = node_there h.there in let tag = n.tag in (n.within, λ e. absurd (omega arith))

-- the left tree is after the tag
pub lies_left : {input : List ℕ} {p : ℕ} {l r : Tree} → Lies input p (node l r) → Lies input (suc p) l
lies_left {l = l} {r = r} h =
    record { there = (node_there h.there).left; labelled = h.labelled.0; shallow = (node_shallow l r h.shallow).0 }

-- where a tree lies, the reader finds its end
end_found : {input : List ℕ} {p : ℕ} {t : Tree} → Lies input p t → first_end (drop p input) ≡ done (length (tokens t))
unfolding first_end end_from
end_found {input} {p} {t} h =
    let n : ℕ = length (tokens t) in
    let joined : drop p input ≡ tokens t ++ drop n (drop p input) =
    sym (take-append-drop n (drop p input)) ∙ ap (λ (l : List ℕ). l ++ drop n (drop p input)) (lies_part h.there) in
    let taken : first_tree (drop p input) ≡ done t = ap first_tree joined ∙ tree_reader.takes t _ h.labelled h.shallow in
    ap (end_from 0) taken ∙ ap done (zero-add n)

-- the right tree is after the left one
lies_right : {input : List ℕ} {p : ℕ} {l r : Tree} → Lies input p (node l r) → Lies input (suc p + length (tokens l)) r
lies_right {l = l} {r = r} h =
    record { there = (node_there h.there).right; labelled = h.labelled.1; shallow = (node_shallow l r h.shallow).1 }

-- the first tree of the input lies at its beginning
pub lies_first : (input : List ℕ) (t : Tree) → Bytes input → first_tree input ≡ done t → Lies input 0 t
unfolding first_tree
lies_first input t bytes e =
    let h = stands most_depth input 0 t bytes e in
    record { there = h.lies; labelled = h.labelled; shallow = h.shallow }

-- ---- a tree whose end is known

-- a tree lies from offset p up to `end`
pub record Spans (input : List ℕ) (p end : ℕ) : Type 0 where
  pub spanning : Tree
  pub lies : Lies input p spanning
  pub ends : end ≡ p + length (tokens spanning)

-- what a state knows of an end is right: a tree lies from `known` up to `end`, if there is one
pub record Cached (input : List ℕ) (known end : ℕ) : Type 0 where
  pub spans : known ≢ 0 → Spans input known end

-- at first there is none
pub cached_none : (input : List ℕ) (end : ℕ) → Cached input 0 end
cached_none input end = record { spans = λ some_there. absurd (some_there refl) }

-- a tree's bytes
length_leaf : (x : ℕ) → length (tokens (leaf x)) ≡ leaf_bytes
unfolding tokens
length_leaf x = ap suc (length_bytes_of label_bytes x)

length_node : (l r : Tree) → length (tokens (node l r)) ≡ suc (length (tokens l) + length (tokens r))
unfolding tokens
length_node l r = ap suc (length-append (tokens l) (tokens r))

-- at a leaf its end is known
pub cached_leaf : {input : List ℕ} {p x : ℕ} → Lies input p (leaf x) → Cached input p (p + leaf_bytes)
cached_leaf {p = p} {x = x} h =
    record { spans = λ some_there. record { spanning = leaf x; lies = h; ends = ap (λ (n : ℕ). p + n) (sym (length_leaf x)) } }

-- the end that is known of a tree that lies there is its end
known_end : {input : List ℕ} {known end p : ℕ} {t : Tree} → Cached input known end → Lies input p t → p ≡ known → p ≢ 0 → end ≡ p + length (tokens t)
known_end {input} {known} {end} {p} {t} cached h same some_there =
    let s : Spans input p end = (subst (λ (k : ℕ). Cached input k end) (sym same) cached).spans some_there in
    s.ends ∙ ap (λ (n : ℕ). p + n) (done_injective (sym (end_found s.lies) ∙ end_found h))

-- ---- named trees

-- the tree of a code, named at record r: found in every state whose frame's own tree is at `own`
pub record At (T input : List ℕ) (own r code : ℕ) (t : Tree) : Type 0 where
  pub offset : ℕ
  pub found : (s : State) → s.tree ≡ own → Cached input s.known s.end → Found T input s code offset
  pub lies : Lies input offset t
  pub small : code ≤ 2 * r

-- the trees named at record r, the Cases in whose node parts it stands being `cases`
pub record Named (T input : List ℕ) (own : ℕ) (cases : List ℕ) (r : ℕ) (trees : List Tree) : Type 0 where
  pub many : length trees ≡ suc (2 * length cases)
  pub each : (a : ℕ) (t : Tree) → at_level trees a ≡ some t → At T input own r (naming_code cases a) t

-- at later records the same trees are named
at_later : {T input : List ℕ} {own r r' code : ℕ} {t : Tree} → r ≤ r' → At T input own r code t → At T input own r' code t
at_later h n = let small = n.small in record { offset = n.offset; found = n.found; lies = n.lies; small = omega arith }

pub named_later : {T input : List ℕ} {own : ℕ} {cases : List ℕ} {r r' : ℕ} {trees : List Tree}
    → r ≤ r' → Named T input own cases r trees → Named T input own cases r' trees
named_later h n = record { many = n.many; each = λ a t e. at_later h (n.each a t e) }

-- the newest entry has the highest number, the others keep theirs
by_level : {A : Type 0} (P : ℕ → A → Type 0) (x : A) (xs : List A) → P (length xs) x → ((a : ℕ) (y : A) → at_level xs a ≡ some y → P a y)
    → (a : ℕ) (y : A) → at_level (x ∷ xs) a ≡ some y → P a y
by_level {A} P x xs newest older a y e = by_test (eqb a (length xs)) refl
  where
    by_test : (b : Bool) → eqb a (length xs) ≡ b → P a y
    by_test true t =
        let top : a ≡ length xs = eqb-true a (length xs) t in
        let same : x ≡ y = some-injective x y (sym (level_newest x a xs top) ∙ e) in
        rw (top, ← same) newest
    by_test false t = older a y (sym (level_older x a xs (eqb-false a (length xs) t)) ∙ e)

-- the code of a frame's own tree
code_own : (cases : List ℕ) → naming_code cases 0 ≡ 0
unfolding naming_code
code_own cases = refl

-- at first the frame's own tree is named
pub named_first : {T input : List ℕ} {own r : ℕ} {t : Tree} → Lies input own t → Named T input own [] r (t ∷ [])
named_first {T} {input} {own} {r} {t} h =
    record {
      many = refl;
      each = by_level (λ a u. At T input own r (naming_code [] a) u) t []
          (rw (code_own []) (record { offset = own; found = λ s same cached. rw (← same) the_own; lies = h; small = zero-le }))
          (λ a u e. absurd (none a u e));
    }
  where
    none : (a : ℕ) (u : Tree) → at_level [] a ≡ some u → ⊥
    none a u e = let below = level_below [] a e in omega arith

module _ (cases : List ℕ) (r : ℕ) where
  -- the codes of a node's left and right tree
  code_left : naming_code (cases ++ (r ∷ [])) (suc (2 * length cases)) ≡ suc (2 * r)
  unfolding naming_code
  code_left =
      let half : 2 * length cases / 2 ≡ length cases = omega arith in
      let rest : 2 * length cases % 2 ≡ 0 = omega arith in
      rw (half, rest, get_or_at cases r [] 0 (length cases) refl, add-zero)

  code_right : naming_code (cases ++ (r ∷ [])) (suc (suc (2 * length cases))) ≡ suc (suc (2 * r))
  unfolding naming_code
  code_right =
      let half : suc (2 * length cases) / 2 ≡ length cases = omega arith in
      let rest : suc (2 * length cases) % 2 ≡ 1 = omega arith in
      rw (half, rest, get_or_at cases r [] 0 (length cases) refl) (omega arith)

  -- the codes of the trees named before stay
  code_older : (a : ℕ) → a < suc (2 * length cases) → naming_code (cases ++ (r ∷ [])) a ≡ naming_code cases a
  unfolding naming_code
  code_older zero h = refl
  code_older (suc j) h =
      let inside : j / 2 < length cases = omega arith in
      rw (get_or-append cases (r ∷ []) 0 (j / 2) inside)

-- the right tree of the node that the Case at record c looks at is found, whether or not the left
-- tree's end is known
found_right : {T input : List ℕ} {s : State} {p : ℕ} {l r : Tree} (c : ℕ)
    → Lies input p (node l r)
    → tree_at T c < suc (2 * c)
    → Cached input s.known s.end
    → Found T input s (tree_at T c) p
    → Found T input s (suc (suc (2 * c))) (suc p + length (tokens l))
found_right {T} {input} {s} {p} {l} c lies small cached found = by_test (eqb (suc p) s.known) refl
  where
    within : p < length input
    within = (lies_node lies).0

    by_test : (b : Bool) → eqb (suc p) s.known ≡ b → Found T input s (suc (suc (2 * c))) (suc p + length (tokens l))
    by_test true e =
        let same : suc p ≡ s.known = eqb-true (suc p) s.known e in
        subst (λ (q : ℕ). Found T input s (suc (suc (2 * c))) q) (known_end cached (lies_left lies) same (λ z. absurd (omega arith)))
        (the_known c p small within found same)
    by_test false e = the_right c p (length (tokens l)) small within found (eqb-false (suc p) s.known e) (end_found (lies_left lies))

-- in the node part of the Case at record r, which looks at the tree of name a, its left and its
-- right tree are named
pub named_deeper : {T input : List ℕ} {own : ℕ} {cases : List ℕ} {r : ℕ} {trees : List Tree} (a : ℕ) (left right : Tree)
    → tree_at T r ≡ naming_code cases a → at_level trees a ≡ some (node left right) → Named T input own cases r trees
    → Named T input own (cases ++ (r ∷ [])) (suc r) (right ∷ (left ∷ trees))
named_deeper {T} {input} {own} {cases} {r} {trees} a left right code e n =
    record {
      many = omega (arith, many, length-append cases (r ∷ []));
      each =
          by_level P right (left ∷ trees) (rw (many, code_right cases r) the_right_one)
          (by_level P left trees (rw (many, code_left cases r) the_left_one) older);
    }
  where
    P : ℕ → Tree → Type 0
    P b u = At T input own (suc r) (naming_code (cases ++ (r ∷ [])) b) u

    many : length trees ≡ suc (2 * length cases)
    many = n.many

    looked : At T input own r (naming_code cases a) (node left right)
    looked = n.each a (node left right) e

    found : (s : State) → s.tree ≡ own → Cached input s.known s.end → Found T input s (tree_at T r) looked.offset
    found s same cached = rw code (looked.found s same cached)

    small : tree_at T r < suc (2 * r)
    small = let s = looked.small in rw code (omega arith)

    within : looked.offset < length input
    within = (lies_node looked.lies).0

    the_left_one : At T input own (suc r) (suc (2 * r)) left
    the_left_one =
        record {
          offset = suc looked.offset;
          found = λ s same cached. the_left r looked.offset small within (found s same cached);
          lies = lies_left looked.lies;
          small = omega arith;
        }

    the_right_one : At T input own (suc r) (suc (suc (2 * r))) right
    the_right_one =
        record {
          offset = suc looked.offset + length (tokens left);
          found = λ s same cached. found_right r looked.lies small cached (found s same cached);
          lies = lies_right looked.lies;
          small = omega arith;
        }

    older : (b : ℕ) (u : Tree) → at_level trees b ≡ some u → P b u
    older b u f =
        let below = level_below trees b f in
        rw (code_older cases r b (omega arith)) (at_later (omega arith) (n.each b u f))

-- ---- when a call closes

-- the offset found for a frame's own tree
own_offset : {T input : List ℕ} {s : State} {code p : ℕ} → Found T input s code p → code ≡ 0 → p ≡ s.tree
own_offset {T} {input} {s} d = elim d as (λ code p d. code ≡ 0 → p ≡ s.tree) [
  | the_own ↦ λ none. refl
  | the_left c p small within (f → ih) ↦ λ none. absurd (omega arith)
  | the_right c p n small within (f → ih) other end ↦ λ none. absurd (omega arith)
  | the_known c p small within (f → ih) same ↦ λ none. absurd (omega arith)
]

-- the offset found for the right tree of a frame's own tree
right_offset : {T input : List ℕ} {s : State} {l r : Tree} {code p : ℕ}
    → Lies input s.tree (node l r)
    → Cached input s.known s.end
    → Found T input s code p
    → (c : ℕ) → code ≡ suc (suc (2 * c)) → tree_at T c ≡ 0 → p ≡ suc s.tree + length (tokens l)
right_offset {T} {input} {s} {l} lies cached d =
    elim d as (λ code p d. (c : ℕ) → code ≡ suc (suc (2 * c)) → tree_at T c ≡ 0 → p ≡ suc s.tree + length (tokens l)) [
      | the_own ↦ λ c is none. absurd (omega arith)
      | the_left c' p small within (f → ih) ↦ λ c is none. absurd (omega arith)
      | the_right c' p n small within (f → ih) other end ↦ λ c is none.
          let here : Lies input (suc p) l = rw (at_own c' c p is none f) (lies_left lies) in
          rw (← at_own c' c p is none f) (ap (λ (m : ℕ). suc p + m) (done_injective (sym end ∙ end_found here)))
      | the_known c' p small within (f → ih) same ↦ λ c is none.
          known_end cached (lies_left lies) (sym (ap suc (at_own c' c p is none f)) ∙ same) (λ z. absurd (omega arith))
    ]
  where
    at_own : (a c p : ℕ) → suc (suc (2 * a)) ≡ suc (suc (2 * c)) → tree_at T c ≡ 0 → Found T input s (tree_at T a) p → p ≡ s.tree
    at_own a c p is none f = let same : a ≡ c = omega arith in own_offset f (ap (tree_at T) same ∙ none)

-- what `on_right` asks for: the Case at record `looking` looks at the frame's own tree, a node, and
-- the Call is on its right tree
record OnRight (T input : List ℕ) (r own : ℕ) : Type 0 where
  looking : ℕ
  code : tree_at T r ≡ suc (suc (2 * looking))
  at_own : tree_at T looking ≡ 0
  tag : get_or input own 0 ≡ node_tag

on-right : (T input : List ℕ) (r own : ℕ) → on_right T input r own ≡ true → OnRight T input r own
unfolding on_right
on-right T input r own e =
    let a = both_held (eqb (tree_at T r % 2) 0) _ e in
    let b = both_held (ltb 0 (tree_at T r)) _ a.1 in
    let c = both_held (eqb (tree_at T ((tree_at T r - 1) / 2)) 0) _ b.1 in
    let d = both_held (ltb own (length input)) _ c.1 in
    let even = eqb-true (tree_at T r % 2) 0 a.0 in
    let above = ltb-true 0 (tree_at T r) b.0 in
    record {
      looking = (tree_at T r - 1) / 2;
      code = omega arith;
      at_own = eqb-true _ 0 c.0;
      tag = eqb-true _ node_tag d.1;
    }

-- the Call at record r is on the tree found at offset p
module _ {T input : List ℕ} {p : ℕ} {s : State} (r : ℕ) (found : Found T input s (tree_at T r) p) (before : Cached input s.known s.end) where
  -- where that is the right tree of the frame's own, both have the same end
  node_known : (own : Tree) (known end : ℕ) → Lies input s.tree own → OnRight T input r s.tree → p ≡ known → Cached input known end
      → Cached input s.tree end
  node_known (leaf x) known end lies right same cached = let tag = (lies_leaf lies).tag in let other = right.tag in absurd (omega arith)
  node_known (node l u) known end lies right same cached =
      let offset : p ≡ suc s.tree + length (tokens l) = right_offset lies before found right.looking right.code right.at_own in
      let ends : end ≡ suc s.tree + length (tokens l) + length (tokens u) =
      known_end cached (lies_right lies) (sym offset ∙ same) (λ z. absurd (omega arith)) in
      record { spans = λ some_there. record { spanning = node l u; lies = lies; ends = omega (arith, length_node l u) } }

  -- so what is known once the call closes is right
  pub cached_after : (own : Tree) (s' : State) → Lies input s.tree own → s'.tree ≡ p → Cached input s'.known s'.end
      → Cached input (known_after T input r s.tree s') s'.end
  unfolding known_after
  cached_after own s' lies same cached = by_test (eqb s'.known s'.tree && on_right T input r s.tree) refl
    where
      by_test : (b : Bool) → (eqb s'.known s'.tree && on_right T input r s.tree) ≡ b
          → Cached input (elim b [ true ↦ s.tree | false ↦ s'.known ]) s'.end
      by_test true e =
          let h = both_held (eqb s'.known s'.tree) (on_right T input r s.tree) e in
          node_known own s'.known s'.end lies (on-right T input r s.tree h.1) (sym same ∙ sym (eqb-true _ _ h.0)) cached
      by_test false e = cached

-- the own tree of a frame, where trees are named, lies at its offset
pub named_own : {T input : List ℕ} {cases : List ℕ} {r : ℕ} {trees : List Tree} {t : Tree} (s : State)
    → Cached input s.known s.end → Named T input s.tree cases r trees → at_level trees 0 ≡ some t → Lies input s.tree t
named_own {cases = cases} {t = t} s cached n e =
    let at_first = n.each 0 t e in
    rw (own_offset (at_first.found s refl cached) (code_own cases)) at at_first.lies
