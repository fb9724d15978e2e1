-- Laws of the first tree: it may be a leaf alone; its own bytes are those up to the end that
-- `tree_answer` gives, and there are none on a refusal.
use Prim.Native.Nat.{ℕ, ◌≤◌}
use mathlib.Core.List.{List, []}
use mathlib.Core.Path.{◌≡◌, sym, ap, ◌∙◌}
use native.Mathlib.Omega.{arith}
use lib.ListN.{length, get_or, take}
use Rattle.formats.specs.Numbers.{Bytes}
use Rattle.formats.specs.Results.{Result, done, on_value}
use Rattle.formats.specs.Tokens.{leaf_tag, label_bytes, most_depth, first_tree, own_bytes}
use Rattle.formats.specs.Measures.{Measures, first_measures}
use Rattle.formats.specs.Inner.Trees.{leaf_bytes, measures_at, measures_by}
use Rattle.formats.proofs.Tokens.{at_leaf}
use Rattle.formats.proofs.Endings.{end_leaf, measures_first, end_within, own_ends, own_stops}
use Rattle.refusal.specs.declared.Refused.{Refused}
use Rattle.refusal.specs.Inner.Numbers.{number}
use Rattle.tree.specs.Inner.TreeResults.{measured, tree_result}
use Rattle.tree.specs.declared.Measures.{Measures as Found}
use Rattle.std.specs.Prelude.{Result as Answer, Ok, Err}

-- ---- `tree_answer`

-- a leaf that stands whole at the start
pub first_leaf : (s : List ℕ) → leaf_bytes ≤ length s → get_or s 0 0 ≡ leaf_tag → done (record { bytes = leaf_bytes; tips = 1; depth = 0 }) ≡ first_measures s
unfolding measures_by
first_leaf s whole is = ap (on_value (measures_at label_bytes)) (sym (end_leaf label_bytes most_depth 0 0 (at_leaf (omega arith) is) whole)) ∙ measures_first s

-- what the walk finds with labels of 4 bytes
pub first_walked : (s : List ℕ) (r : Result Measures) → r ≡ measures_by label_bytes s → r ≡ first_measures s
first_walked s r e = e ∙ measures_first s

pub ruleset answers_first = (first_leaf, first_walked)

-- ---- `first_tree`

module _ (s : List ℕ) (found : Answer Found Refused) (reported : tree_result found ≡ first_measures s) where
  pub found_within : (m : Found) → found ≡ Ok m → m.bytes ≤ length s
  found_within m case = end_within s (measured m) (sym reported ∙ ap tree_result case)

  pub own_found : (m : Found) → Bytes s → found ≡ Ok m → take m.bytes s ≡ own_bytes (first_tree s)
  own_found m bs case = own_ends s (measured m) bs (sym reported ∙ ap tree_result case)

  pub own_none : (r : Refused) → found ≡ Err r → [] ≡ own_bytes (first_tree s)
  own_none r case = own_stops s (number r.why) r.position (sym reported ∙ ap tree_result case)

pub ruleset first_found = (found_within, own_found, own_none)
