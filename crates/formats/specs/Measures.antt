-- N5: a tree's tips and its depth, together with its end; and what holds of them. The statements
-- are proved in proofs/Measures.antt.
use Rattle.std.specs.Prelude.{ℕ, suc, ◌*◌, ◌-◌, ◌≤◌, List, ◌++◌, ◌≡◌, length}
use Rattle.formats.specs.Numbers.{Bytes}
use Rattle.formats.specs.Results.{Result, done, refusal, on_value}
use Rattle.formats.specs.Tokens.{Tree, leaf, node, Labelled, tips, depth, tokens, most_depth, first_tree, first_end}

-- What the tree reader gives of a tree. N5: "its tip count and greatest depth .. together with the
-- tree's end".
pub record Measures : Type 0 where
  -- the length of its tokens, which is where the first tree of a buffer ends
  pub bytes : ℕ
  pub tips : ℕ
  pub depth : ℕ

-- The measures of a tree.
unfoldable pub measures_of : Tree → Measures
measures_of t = record { bytes = length (tokens t); tips = tips t; depth = depth t }

-- What the tree reader answers: the measures of the first tree of a buffer, or the refusal.
unfoldable pub first_measures : List ℕ → Result Measures
first_measures s = on_value measures_of (first_tree s)

-- Where there is no tree, all are 0.
abbrev pub no_measures : Measures
no_measures = record { bytes = 0; tips = 0; depth = 0 }

-- N5: "A refusal of the reader .. gives 0 for both."
unfoldable pub measures_or0 : Result Measures → Measures
measures_or0 (done m) = m
measures_or0 (refusal number position) = no_measures

-- A leaf of the tree has n nodes above it.
pub data LeafUnder : (n : ℕ) → Tree → Type 0 where
  here : {x : ℕ} → LeafUnder 0 (leaf x)
  in_left : {n : ℕ} {l r : Tree} → LeafUnder n l → LeafUnder (suc n) (node l r)
  in_right : {n : ℕ} {l r : Tree} → LeafUnder n r → LeafUnder (suc n) (node l r)

-- N5, as far as it speaks of the tree reader, sentence by sentence.
pub record TreeMeasures : Type 0 where
  -- "greatest depth (nodes above the deepest leaf": a leaf is that deep, and none is deeper
  pub deepest : (t : Tree) → LeafUnder (depth t) t
  pub none_deeper : (t : Tree) (n : ℕ) → LeafUnder n t → n ≤ depth t
  -- ".. , 0 for a lone leaf)", and for no other tree
  pub lone_leaf : (x : ℕ) → depth (leaf x) ≡ 0
  pub no_other : (l r : Tree) → 1 ≤ depth (node l r)
  -- "Give both together with the tree's end.": of each tree that the reader takes, whatever stands
  -- after it
  pub takes : (t : Tree) (rest : List ℕ) → Labelled t → depth t ≤ most_depth → first_measures (tokens t ++ rest) ≡ done (measures_of t)
  -- its end is the one that `first_end` says
  pub same_end : (s : List ℕ) → on_value (λ m. m.bytes) (first_measures s) ≡ first_end s
  -- "A refusal of the reader .. gives 0 for both." Its number and position are those of the reader.
  pub refused :
      (s : List ℕ) (number position : ℕ)
      → first_tree s ≡ refusal number position
      → (first_measures s ≡ refusal number position) × (measures_or0 (first_measures s) ≡ no_measures)
  -- "An accepted tree's bytes must equal 6 times the tips less 1.": there is a tip, so 1 can be
  -- taken off
  pub six_a_tip : (s : List ℕ) (m : Measures) → first_measures s ≡ done m → (m.bytes ≡ 6 * m.tips - 1) × (1 ≤ m.tips)
  -- an accepted tree is at most 1,024 deep
  pub shallow : (s : List ℕ) (m : Measures) → Bytes s → first_measures s ≡ done m → m.depth ≤ most_depth
