-- The proof of the statement of specs/Measures: what the tree reader gives together with a tree's
-- end.
use Prim.Native.Nat.{ℕ, zero, suc, ◌*◌, ◌-◌, ◌≤◌, max, zero-le}
use mathlib.Core.List.{List, ◌++◌}
use mathlib.Core.Path.{◌≡◌, refl, sym, ap}
use native.Mathlib.Decide.{dec_le}
use native.Mathlib.Nat.{zero-add, max-eq_left, max-eq_right}
use native.Mathlib.Omega.{arith}
use lib.ListN.{length}
use Rattle.formats.specs.Numbers.{Bytes}
use Rattle.formats.specs.Results.{Result, done, refusal, on_value}
use Rattle.formats.specs.Tokens.{Tree, leaf, node, tips, depth, tokens, most_depth, first_tree, end_from, first_end}
use Rattle.formats.specs.Measures.{Measures, measures_of, first_measures, measures_or0, LeafUnder, here, in_left, in_right, TreeMeasures}
use Rattle.formats.proofs.Tokens.{six_a_tip}
use Rattle.formats.proofs.Reader.{tree_reader}
use Rattle.formats.proofs.Endings.{read_by}

-- the deeper of a node's two trees has its deepest leaf
of_deeper : (l r : Tree) → LeafUnder (depth l) l → LeafUnder (depth r) r → LeafUnder (suc (max (depth l) (depth r))) (node l r)
of_deeper l r in_l in_r =
    elim (dec_le (depth r) (depth l)) [
      | yes h ↦ rw (max-eq_left h) (in_left in_l)
      | no h ↦ let less : depth l ≤ depth r = omega arith in rw (max-eq_right less) (in_right in_r)
    ]

a_deepest : (t : Tree) → LeafUnder (depth t) t
unfolding depth
a_deepest (leaf x) = here
a_deepest (node l r) = of_deeper l r (a_deepest l) (a_deepest r)

no_deeper : (t : Tree) (n : ℕ) → LeafUnder n t → n ≤ depth t
unfolding depth
no_deeper (leaf x) zero here = zero-le
no_deeper (leaf x) (suc n) u = elim u [ ]
no_deeper (node l r) zero u = elim u [ ]
no_deeper (node l r) (suc n) (in_left u) = let h = no_deeper l n u in omega arith
no_deeper (node l r) (suc n) (in_right u) = let h = no_deeper r n u in omega arith

-- what is read is measured
pub of_tree : (s : List ℕ) (t : Tree) → first_tree s ≡ done t → first_measures s ≡ done (measures_of t)
unfolding first_measures
of_tree s t e = ap (on_value measures_of) e

-- the end is among the measures
end_of : (r : Result Tree) → on_value (λ m. m.bytes) (on_value measures_of r) ≡ end_from 0 r
unfolding end_from measures_of
end_of (done t) = ap done (sym (zero-add (length (tokens t))))
end_of (refusal n q) = refl

pub first-end : (s : List ℕ) → on_value (λ m. m.bytes) (first_measures s) ≡ first_end s
unfolding first_measures first_end
first-end s = end_of (first_tree s)

-- what the reader gave, measured
module _ (s : List ℕ) (m : Measures) (e : first_measures s ≡ done m) where
  six_each : (m.bytes ≡ 6 * m.tips - 1) × (1 ≤ m.tips)
  unfolding measures_of
  six_each =
      let t = read_by s m e in
      let all = six_a_tip t.it in
      let bytes : length (tokens t.it) ≡ m.bytes = ap (λ x. x.bytes) t.measures in
      let leaves : tips t.it ≡ m.tips = ap (λ x. x.tips) t.measures in
      (omega arith, omega arith)

  at_most : Bytes s → m.depth ≤ most_depth
  unfolding measures_of
  at_most bs =
      let t = read_by s m e in
      let same : depth t.it ≡ m.depth = ap (λ x. x.depth) t.measures in
      rw (← same) (tree_reader.gives s t.it bs t.is).shallow

pub tree_measures : TreeMeasures
unfolding depth first_measures measures_or0
tree_measures =
    record {
      deepest = a_deepest;
      none_deeper = no_deeper;
      lone_leaf = λ x. refl;
      no_other = λ l r. omega arith;
      takes = λ t rest fits shallow. of_tree (tokens t ++ rest) t (tree_reader.takes t rest fits shallow);
      same_end = first-end;
      refused = λ s n q e. (ap (on_value measures_of) e, ap (λ r. measures_or0 (on_value measures_of r)) e);
      six_a_tip = six_each;
      shallow = λ s m bs e. at_most s m e bs;
    }
