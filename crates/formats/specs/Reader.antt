-- What the tree reader's answers mean: the statements. They are proved in proofs/Reader.antt.
use Rattle.std.specs.Prelude.{ℕ, suc, ◌+◌, ◌*◌, ◌-◌, ◌≤◌, ◌<◌, List, [], ◌∷◌, ◌++◌, ◌≢◌, ◌↔◌, ◌≡◌, length, get_or, take}
use Rattle.formats.specs.Numbers.{Bytes}
use Rattle.formats.specs.Buffers.{Opens, BytesAt}
use Rattle.formats.specs.Refusals.{input_ended, not_a_tag, too_deep}
use Rattle.formats.specs.Tokens.{Tree, Labelled, tips, depth, leaf_tag, node_tag, label_bytes, most_depth, tokens, first_tree}
use Rattle.formats.specs.Results.{done, refusal}

-- What holds where the reader gave the tree t for the buffer s.
pub record Gave (s : List ℕ) (t : Tree) : Type 0 where
  -- the bytes before its end are its tokens
  pub own-bytes : take (length (tokens t)) s ≡ tokens t
  -- it is a tree of 32-bit labels, at most 1,024 deep
  pub labelled : Labelled t
  pub shallow : depth t ≤ most_depth
  -- no other tree's tokens begin the buffer
  pub only : (u : Tree) → Labelled u → Opens (tokens u) s → u ≡ t

-- The tag of a part of the first tree is due at offset p of s, under `above` nodes: all before p is
-- in order, and the reader looks at p next. A left tree begins after its node's tag, a right tree
-- after the left one.
pub data Due (s : List ℕ) : ℕ → ℕ → Type 0 where
  first : Due s 0 0
  left : {p above : ℕ} → Due s p above → above < most_depth → BytesAt s p (node_tag ∷ []) → Due s (suc p) (suc above)
  right :
      {p above : ℕ} (l : Tree)
      → Due s p above
      → Labelled l
      → suc (above + depth l) ≤ most_depth
      → BytesAt s p (node_tag ∷ tokens l)
      → Due s (suc p + length (tokens l)) (suc above)

-- The refusals of the row "tree reader", each with its number and its position: a rule for each
-- condition. All before the position is in order.
pub data Refuses (s : List ℕ) : ℕ → ℕ → Type 0 where
  -- 15 at the start of a tag that is not there
  no_tag : {p above : ℕ} → Due s p above → p ≡ length s → Refuses s input_ended p
  -- 15 at the start of a label that is not whole
  no_label : {p above : ℕ} → Due s p above → BytesAt s p (leaf_tag ∷ []) → length s < suc p + label_bytes → Refuses s input_ended (suc p)
  -- 16 at a byte that is not 1 or 2
  no_such_tag : {p above : ℕ} → Due s p above → p < length s → get_or s p 0 ≢ leaf_tag → get_or s p 0 ≢ node_tag → Refuses s not_a_tag p
  -- 20 at a node tag under 1,024 others
  under_too_many : {p : ℕ} → Due s p most_depth → BytesAt s p (node_tag ∷ []) → Refuses s too_deep p

-- s are opening bytes of the tokens of some tree, however deep.
pub record OpensSomeTree (s : List ℕ) : Type 0 where
  pub whole : Tree
  pub labelled : Labelled whole
  pub opens : Opens s (tokens whole)

-- What refusal 15 means: the bytes given are opening bytes of some tree's tokens, and do not hold a
-- whole tree.
pub record Ended (s : List ℕ) : Type 0 where
  pub so_far : OpensSomeTree s
  pub more : (t : Tree) → Labelled t → Opens (tokens t) s → ⊥

-- What refusal 16 at position p means: the byte at p is the first that fits no tree.
pub record FitsNone (s : List ℕ) (p : ℕ) : Type 0 where
  pub there : p < length s
  pub before : OpensSomeTree (take p s)
  pub no_longer : OpensSomeTree (take (suc p) s) → ⊥

-- What refusal 20 at position p means: a node tag stands there, under 1,024 others.
pub record TooDeep (s : List ℕ) (p : ℕ) : Type 0 where
  pub tag : BytesAt s p (node_tag ∷ [])
  pub under : Due s p most_depth

-- 01, Tokens and 01, The tree reader, sentence by sentence.
pub record TreeReader : Type 0 where
  -- 01, Tokens: "A tree of n leaves takes 6n − 1 bytes."
  pub length_of_tokens : (t : Tree) → length (tokens t) ≡ 6 * tips t - 1
  -- 01, The tree reader: "The tree reader takes the first tree of a buffer": each tree at most
  -- 1,024 deep, whatever stands after it ..
  pub takes : (t : Tree) (rest : List ℕ) → Labelled t → depth t ≤ most_depth → first_tree (tokens t ++ rest) ≡ done t
  -- .. and nothing else.
  pub gives : (s : List ℕ) (t : Tree) → Bytes s → first_tree s ≡ done t → Gave s t
  -- A refusal means that no such tree begins the buffer.
  pub none : (s : List ℕ) (number p : ℕ) → first_tree s ≡ refusal number p → (t : Tree) → Labelled t → depth t ≤ most_depth → Opens (tokens t) s → ⊥
  -- The number and the position are those of the table's row.
  pub refuses : (s : List ℕ) (number p : ℕ) → Bytes s → (first_tree s ≡ refusal number p) ↔ Refuses s number p
  -- What each number means.
  pub ended : (s : List ℕ) (p : ℕ) → Bytes s → first_tree s ≡ refusal input_ended p → Ended s
  pub fits_none : (s : List ℕ) (p : ℕ) → Bytes s → first_tree s ≡ refusal not_a_tag p → FitsNone s p
  pub too-deep : (s : List ℕ) (p : ℕ) → Bytes s → first_tree s ≡ refusal too_deep p → TooDeep s p
