-- The end and the greatest depth of a tree that begins at an offset, by the width of its labels.
use Rattle.std.specs.Prelude.{ℕ, zero, suc, ◌+◌, ◌/◌, max, true, false, List, leb, length}
use Rattle.formats.specs.Measures.{Measures}
use Rattle.formats.specs.Refusals.{input_ended, not_a_tag, too_deep}
use Rattle.formats.specs.Results.{Result, done, refusal, and_then, on_value}
use Rattle.formats.specs.Tokens.{label_bytes, most_depth, no_byte, a_leaf, a_node, other, tag_at}

-- The bytes of a leaf: its tag and its label.
abbrev pub leaf_bytes : ℕ
leaf_bytes = suc label_bytes

-- Where a tree ends, and the nodes above the deepest leaf up to there.
pub record Ending : Type 0 where
  pub end : ℕ
  pub deepest : ℕ

-- The end of the label of `width` bytes that begins at offset p, of a leaf under `above` nodes. The
-- deepest leaf before it is under `deepest` nodes; 0 where there is none.
unfoldable pub label_end : (width above : ℕ) → List ℕ → (p deepest : ℕ) → Result Ending
label_end width above s p deepest =
    elim (leb (p + width) (length s)) [ true ↦ done (record { end = p + width; deepest = max deepest above }) | false ↦ refusal input_ended p ]

-- The end of the tree that begins at offset p, by the tag there. Where it is a node's, `below`
-- gives the answer.
unfoldable pub end_by_tag : (width above : ℕ) → List ℕ → (p deepest : ℕ) → (ℕ → Result Ending) → Result Ending
end_by_tag width above s p deepest below =
    elim (tag_at s p) [
      | no_byte ↦ refusal input_ended p
      | a_leaf ↦ label_end width above s (suc p) deepest
      | a_node ↦ below p
      | other ↦ refusal not_a_tag p
    ]

-- The end of the tree that begins at offset p, under `above` nodes, with labels of `width` bytes,
-- and room for `room` nodes above its leaves: the right tree begins where the left one ends, and
-- the deepest leaf is sought on from the deepest one before. With a width of 4 it is the end of the
-- tree that `tree_at` reads (`end_of_tree`); with 0 the buffer is tags alone.
unfoldable pub end_at : (width room above : ℕ) → List ℕ → (p deepest : ℕ) → Result Ending
end_at width zero above s p deepest = end_by_tag width above s p deepest (λ q. refusal too_deep q)
end_at width (suc room) above s p deepest =
    end_by_tag width above s p deepest
    (λ q. and_then (end_at width room (suc above) s (suc q) deepest) (λ l. end_at width room (suc above) s l.end l.deepest))

-- The measures of a tree that begins at offset 0 and ends there: each leaf has its tag and its
-- label, and there is one node less than leaves.
abbrev pub measures_at : (width : ℕ) → Ending → Measures
measures_at width e = record { bytes = e.end; tips = (e.end + 1) / (width + 2); depth = e.deepest }

-- The measures of the first tree, with labels of `width` bytes, or the refusal.
unfoldable pub measures_by : ℕ → List ℕ → Result Measures
measures_by width s = on_value (measures_at width) (end_at width most_depth 0 s 0 0)
