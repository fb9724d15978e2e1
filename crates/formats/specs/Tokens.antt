-- 01, Tokens: trees, their tokens, and the reading of the first tree of a buffer.
use Rattle.std.specs.Prelude.{ℕ, zero, suc, ◌+◌, ◌^◌, ◌<◌, max, true, false, List, [], ◌∷◌, ◌++◌, length, get_or, leb, ltb, eqb}
use Rattle.formats.specs.Numbers.{bytes_of, number_at}
use Rattle.formats.specs.Refusals.{input_ended, not_a_tag, too_deep}
use Rattle.formats.specs.Results.{Result, done, refusal, and_then}

-- A rooted tree, two branches at each node, a label at each leaf: a 32-bit word.
pub data Tree : Type 0 where
  leaf : (label : ℕ) → Tree
  node : (left right : Tree) → Tree

-- Every label fits 32 bits.
abbrev pub Labelled : Tree → Type 0
Labelled (leaf x) = x < 2 ^ 32
Labelled (node l r) = Labelled l × Labelled r

-- How many leaves the tree has.
unfoldable pub tips : Tree → ℕ
tips (leaf x) = 1
tips (node l r) = tips l + tips r

-- The nodes above the deepest leaf.
unfoldable pub depth : Tree → ℕ
depth (leaf x) = 0
depth (node l r) = suc (max (depth l) (depth r))

-- 01, Tokens: "A leaf is byte 1, then its label, 4 bytes" ..
abbrev pub leaf_tag : ℕ
leaf_tag = 1

abbrev pub label_bytes : ℕ
label_bytes = 4

-- 01, Tokens: "A node is byte 2, then its left and right trees."
abbrev pub node_tag : ℕ
node_tag = 2

-- A tree's tokens, as bytes.
unfoldable pub tokens : Tree → List ℕ
tokens (leaf x) = leaf_tag ∷ bytes_of label_bytes x
tokens (node l r) = node_tag ∷ (tokens l ++ tokens r)

-- 01, The tree reader: "A node tag under 1,024 others is refused; a leaf under 1,024 nodes is
-- read."
abbrev pub most_depth : ℕ
most_depth = 1024

-- What stands where a tag is due.
pub data Tag : Type 0 where
  no_byte a_leaf a_node other : Tag

-- A byte as a tag.
unfoldable pub tag_of : ℕ → Tag
tag_of b = elim (eqb b leaf_tag) [ true ↦ a_leaf | false ↦ elim (eqb b node_tag) [ true ↦ a_node | false ↦ other ] ]

-- What stands at offset p of s, where a tag is due.
unfoldable pub tag_at : List ℕ → ℕ → Tag
tag_at s p = elim (ltb p (length s)) [ true ↦ tag_of (get_or s p 0) | false ↦ no_byte ]

-- The leaf whose label begins at offset p. 01, The tree reader: "for 15 the start of the tag or
-- label not whole".
unfoldable pub label_at : List ℕ → ℕ → Result Tree
label_at s p = elim (leb (p + label_bytes) (length s)) [ true ↦ done (leaf (number_at label_bytes s p)) | false ↦ refusal input_ended p ]

-- The node whose left tree begins at offset p: the left tree, then the right one after it, each
-- read by `read`.
unfoldable pub branches_at : (ℕ → Result Tree) → ℕ → Result Tree
branches_at read p = and_then (read p) (λ l. and_then (read (p + length (tokens l))) (λ r. done (node l r)))

-- The tree that begins at offset p, by the tag there. Where it is a node's, `below` gives the
-- answer.
unfoldable pub tree_by_tag : List ℕ → ℕ → (ℕ → Result Tree) → Result Tree
tree_by_tag s p below =
    elim (tag_at s p) [
      | no_byte ↦ refusal input_ended p
      | a_leaf ↦ label_at s (suc p)
      | a_node ↦ below p
      | other ↦ refusal not_a_tag p
    ]

-- The tree that begins at offset p, with room for so many nodes above its leaves. 01, The tree
-- reader: "A tree's end is found by recursion on its two parts."
unfoldable pub tree_at : ℕ → List ℕ → ℕ → Result Tree
tree_at zero s p = tree_by_tag s p (λ q. refusal too_deep q)
tree_at (suc room) s p = tree_by_tag s p (λ q. branches_at (λ o. tree_at room s o) (suc q))

-- 01, The tree reader: "The tree reader takes the first tree of a buffer".
unfoldable pub first_tree : List ℕ → Result Tree
first_tree s = tree_at most_depth s 0

-- 01, The tree reader: ".. and hands back the tree's own bytes .., empty on a refusal".
unfoldable pub own_bytes : Result Tree → List ℕ
own_bytes (done t) = tokens t
own_bytes (refusal number q) = []

-- The end of the tree that was read from offset p on, or the refusal. 01, The tree reader: "which a
-- call beside it names with its place".
unfoldable pub end_from : ℕ → Result Tree → Result ℕ
end_from p (done t) = done (p + length (tokens t))
end_from p (refusal number q) = refusal number q

-- The end of the first tree of a buffer, which is its length, or the refusal.
unfoldable pub first_end : List ℕ → Result ℕ
first_end s = end_from 0 (first_tree s)
