-- The tree reader's loop: what holds before each tag, and a law for each way through it. Still to
-- be read are the tree that is due and the right trees of the open nodes whose left tree is not
-- done. `go_on` says what comes of these, and the marks say which they are.
use Prim.Native.Nat.{ℕ, suc, ◌+◌, ◌-◌, ◌/◌, ◌≤◌, ◌<◌, max, zero-le}
use mathlib.Core.List.{List, [], ◌∷◌}
use mathlib.Core.Logic.{◌≢◌}
use mathlib.Core.Path.{◌≡◌, refl, sym, ap, subst, ◌∙◌}
use native.Mathlib.Numerals.{add-one}
use native.Mathlib.Omega.{arith}
use lib.ListN.{length, get_or, set, length-set}
use lib.Seq.{get_or-set_same, get_or-set_other}
use Rattle.formats.specs.Refusals.{input_ended}
use Rattle.formats.specs.Tokens.{leaf_tag, node_tag, most_depth}
use Rattle.formats.specs.Measures.{Measures}
use Rattle.formats.specs.Inner.Trees.{Ending, end_at, measures_at, measures_by}
use Rattle.formats.specs.Results.{Result, done, refusal, and_then, on_value}
use Rattle.refusal.specs.declared.Refusal.TheVariants.{InputEnded, NotATag, TooDeep}
use Rattle.refusal.specs.declared.Refused.{Refused}
use Rattle.refusal.specs.Inner.Numbers.{number}
use Rattle.formats.proofs.Tokens.{past, at_leaf, at_node, at_other}
use Rattle.formats.proofs.Endings.{end_past, end_other, end_leaf, end_cut, end_deep, end_node}

-- The outcome of a right tree under d nodes, after the trees before it.
abbrev right_tree : (width d : ℕ) → List ℕ → Ending → Result Ending
right_tree width d s e = end_at width (most_depth - d) d s e.end e.deepest

-- What follows the outcome of the tree that is due: the right trees still to come, the innermost
-- first, each given by the number of nodes above it.
unfoldable pub go_on : ℕ → List ℕ → List ℕ → Result Ending → Result Ending
go_on width s [] e = e
go_on width s (d ∷ ds) e = and_then e (λ l. go_on width s ds (right_tree width d s l))

-- The marks lead from each right tree still to come to the one after it: the mark of the node under
-- d others says how many nodes are above that one, 0 where there is none.
pub data Marked (marks : List ℕ) : ℕ → List ℕ → Type 0 where
  none : Marked marks 0 []
  next : (d : ℕ) (ds : List ℕ) → get_or marks d 0 ≤ d → Marked marks (get_or marks d 0) ds → Marked marks (suc d) (suc d ∷ ds)

-- What holds before a tag that is due at offset `at` under `above` nodes, with the deepest leaf
-- before it under `deepest` nodes.
pub record Walking (width : ℕ) (s marks : List ℕ) (above above_next deepest at : ℕ) : Type 0 where
  pub within : at ≤ length s
  pub table : length marks ≡ most_depth
  pub shallow : above ≤ most_depth
  pub inside : above_next ≤ above
  -- the right trees still to come, which the marks lead to
  pub to_come : List ℕ
  pub marked : Marked marks above_next to_come
  -- the tree that is due and those still to come give the outcome of the whole
  pub whole : go_on width s to_come (end_at width (most_depth - above) above s at deepest) ≡ end_at width most_depth 0 s 0 0

-- ---- what follows

-- a refusal is the outcome of all
goes_refused : (width : ℕ) (s ds : List ℕ) (n q : ℕ) → go_on width s ds (refusal n q) ≡ refusal n q
unfolding go_on
goes_refused width s [] n q = refl
goes_refused width s (d ∷ ds) n q = refl

-- one right tree more to come
goes_then : (width d : ℕ) (s ds : List ℕ) (e : Result Ending) → go_on width s ds (and_then e (right_tree width d s)) ≡ go_on width s (d ∷ ds) e
unfolding go_on
goes_then width d s ds (done l) = refl
goes_then width d s ds (refusal n q) = goes_refused width s ds n q

goes_done : (width d : ℕ) (l : Ending) (s ds : List ℕ) → go_on width s (d ∷ ds) (done l) ≡ go_on width s ds (right_tree width d s l)
unfolding go_on
goes_done width d l s ds = refl

goes_last : (width : ℕ) (s : List ℕ) (e : Result Ending) → go_on width s [] e ≡ e
unfolding go_on
goes_last width s e = refl

-- ---- the marks

-- a mark that is set further inside changes nothing
marked_set : {marks : List ℕ} {w : ℕ} {ds : List ℕ} (i v : ℕ) → w ≤ i → Marked marks w ds → Marked (set marks i v) w ds
marked_set i v h none = none
marked_set {marks} i v h (next d ds low m) =
    let same : get_or (set marks i v) d 0 ≡ get_or marks d 0 = get_or-set_other marks i d v 0 (λ e. omega arith) in
    next d ds (rw same low) (subst (λ (n : ℕ). Marked (set marks i v) n ds) (sym same) (marked_set i v (omega arith) m))

-- a node that is opened: its mark leads to what came next before it
marked_open : (marks ds : List ℕ) (above w : ℕ) → above < length marks → w ≤ above → Marked marks w ds → Marked (set marks above w) (suc above) (suc above ∷ ds)
marked_open marks ds above w there h m =
    let same : get_or (set marks above w) above 0 ≡ w = get_or-set_same marks above w 0 there in
    next above ds (rw same h) (subst (λ (n : ℕ). Marked (set marks above w) n ds) (sym same) (marked_set above w h m))

-- with 0 nodes above the next one, none is to come
none_comes : {marks : List ℕ} {w : ℕ} {ds : List ℕ} → Marked marks w ds → w ≡ 0 → ds ≡ []
none_comes none e = refl
none_comes (next d ds low m) e = absurd (omega arith)

-- else its node's mark leads to the one after it
record Comes (marks : List ℕ) (w : ℕ) (ds : List ℕ) : Type 0 where
  rest : List ℕ
  first : ds ≡ w ∷ rest
  low : get_or marks (w - 1) 0 < w
  more : Marked marks (get_or marks (w - 1) 0) rest

one_comes : {marks : List ℕ} {w : ℕ} {ds : List ℕ} → Marked marks w ds → w ≢ 0 → Comes marks w ds
one_comes none some = absurd (some refl)
one_comes {marks} (next d ds low m) some =
    let back : suc d - 1 ≡ d = omega arith in
    record { rest = ds; first = refl; low = rw back (omega arith); more = rw back m }

-- ---- the ways through the loop

-- a refusal and its position, as the walk answers them
abbrev told : Refused → Result Measures
told r = refusal (number r.why) r.position

pub walk_first : (width : ℕ) (s marks : List ℕ) → length marks ≡ most_depth → Walking width s marks 0 0 0 0
walk_first width s marks table =
    record { within = zero-le; table = table; shallow = zero-le; inside = zero-le; to_come = []; marked = none; whole = goes_last width s _ }

module _ (width : ℕ) (s marks : List ℕ) (above above_next deepest at : ℕ) (w : Walking width s marks above above_next deepest at) where
  -- a node's tag: its left tree is due under one node more, and its right tree comes after it
  pub walk_node : at < length s → get_or s at 0 ≡ node_tag → above ≢ most_depth
      → Walking width s (set marks above above_next) (above + 1) (above + 1) deepest (at + 1)
  walk_node there is few =
      let fits : above < most_depth = omega (arith, w.shallow) in
      let room : most_depth - above ≡ suc (most_depth - suc above) = omega arith in
      let opened : end_at width (most_depth - above) above s at deepest
      ≡ and_then (end_at width (most_depth - suc above) (suc above) s (suc at) deepest) (right_tree width (suc above) s) =
      ap (λ (n : ℕ). end_at width n above s at deepest) room ∙ end_node width (most_depth - suc above) above deepest (at_node there is) in
      rw (add-one above, add-one at)
      (record {
        within = there;
        table = length-set marks above above_next ∙ w.table;
        shallow = fits;
        inside = omega arith;
        to_come = suc above ∷ w.to_come;
        marked = marked_open marks w.to_come above above_next (omega (arith, w.table)) w.inside w.marked;
        whole = sym (goes_then width (suc above) s w.to_come _) ∙ ap (go_on width s w.to_come) (sym opened) ∙ w.whole;
      })

  -- a tag at which the tree is refused
  walk_stops : (n q : ℕ) → end_at width (most_depth - above) above s at deepest ≡ refusal n q → refusal n q ≡ measures_by width s
  unfolding measures_by
  walk_stops n q e =
      ap (on_value (measures_at width)) (sym (goes_refused width s w.to_come n q) ∙ ap (go_on width s w.to_come) (sym e) ∙ w.whole)

  pub walk_past : (r : Refused) → r ≡ record { why = InputEnded; position = at } → length s ≤ at → refusal (number r.why) r.position ≡ measures_by width s
  walk_past r is h = ap told is ∙ walk_stops _ _ (end_past width _ above deepest (past h))

  pub walk_deep : (r : Refused) → r ≡ record { why = TooDeep; position = at } → at < length s → get_or s at 0 ≡ node_tag → above ≡ most_depth
      → refusal (number r.why) r.position ≡ measures_by width s
  walk_deep r refused there is full =
      let no_room : most_depth - above ≡ 0 = omega arith in
      ap told refused ∙ walk_stops _ _ (ap (λ (n : ℕ). end_at width n above s at deepest) no_room ∙ end_deep width above deepest (at_node there is))

  pub walk_other : (r : Refused) → r ≡ record { why = NotATag; position = at } → at < length s → get_or s at 0 ≢ node_tag → get_or s at 0 ≢ leaf_tag
      → refusal (number r.why) r.position ≡ measures_by width s
  walk_other r refused there nn nl = ap told refused ∙ walk_stops _ _ (end_other width _ above deepest (at_other there nl nn))

  pub walk_cut : (r : Refused) (whole : ℕ) → r ≡ record { why = InputEnded; position = at + 1 } → at < length s → get_or s at 0 ≡ leaf_tag → whole ≡ length s - width → whole ≤ at
      → refusal (number r.why) r.position ≡ measures_by width s
  walk_cut r whole refused there is last cut = ap told refused ∙ ap (refusal input_ended) (add-one at) ∙ walk_stops _ _ (end_cut width _ above deepest (at_leaf there is) (omega arith))

  -- a leaf that ends
  module _ (whole : ℕ) (there : at < length s) (is : get_or s at 0 ≡ leaf_tag) (last : whole ≡ length s - width) (fits : at < whole) where
    pub leaf_within : at + 1 + width ≤ length s
    leaf_within = omega arith

    -- The end, with the depth of this leaf.
    abbrev ended : Ending
    ended = record { end = at + 1 + width; deepest = max deepest above }

    leaf_done : go_on width s w.to_come (done ended) ≡ end_at width most_depth 0 s 0 0
    leaf_done =
        let next_at : at + 1 + width ≡ suc at + width = omega arith in
        ap (λ (n : ℕ). go_on width s w.to_come (done (record { end = n; deepest = max deepest above }))) next_at
        ∙ ap (go_on width s w.to_come) (sym (end_leaf width _ above deepest (at_leaf there is) (omega arith)))
        ∙ w.whole

    -- .. and the whole tree with it
    pub walk_ends : (deeper : ℕ) → deeper ≡ max deepest above → above_next ≡ 0
        → done (record { bytes = at + 1 + width; tips = (at + 1 + width + 1) / (width + 2); depth = deeper }) ≡ measures_by width s
    unfolding measures_by
    walk_ends deeper e no_more =
        let last_one : go_on width s w.to_come (done ended) ≡ done ended =
        ap (λ (ds : List ℕ). go_on width s ds (done ended)) (none_comes w.marked no_more) ∙ goes_last width s _ in
        ap (λ (d : ℕ). done (record { bytes = at + 1 + width; tips = (at + 1 + width + 1) / (width + 2); depth = d })) e
        ∙ ap (on_value (measures_at width)) (sym last_one ∙ leaf_done)

    -- .. and all below the node whose right tree comes next
    pub walk_leaf : (deeper mark : ℕ) → deeper ≡ max deepest above → above_next ≢ 0 → mark ≡ get_or marks (above_next - 1) 0
        → Walking width s marks above_next mark deeper (at + 1 + width)
    walk_leaf deeper mark e some read =
        let n = one_comes w.marked some in
        rw read
        (record {
          within = leaf_within;
          table = w.table;
          shallow = omega (arith, w.inside, w.shallow);
          inside = omega (arith, n.low);
          to_come = n.rest;
          marked = n.more;
          whole =
              ap (λ (d : ℕ). go_on width s n.rest (end_at width (most_depth - above_next) above_next s (at + 1 + width) d)) e
              ∙ sym (goes_done width above_next ended s n.rest)
              ∙ ap (λ (ds : List ℕ). go_on width s ds (done ended)) (sym n.first)
              ∙ leaf_done;
        })

  pub mark_small : above_next ≢ 0 → get_or marks (above_next - 1) 0 < most_depth
  mark_small some = let n = one_comes w.marked some in omega (arith, n.low, w.inside, w.shallow)

pub ruleset walks = (walk_node, walk_leaf, walk_past, walk_deep, walk_other, walk_cut, walk_ends)
