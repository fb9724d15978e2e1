-- 01, Templates: the column "code" as data, which a record read brings with it. What the
-- instructions then are, with their addresses and words: translation, Templates.
use Rattle.std.specs.Prelude.{ℕ, zero, suc, List, [], ◌∷◌}
use Rattle.formats.specs.Arithmetic.{Op}
use Rattle.formats.specs.Records.{Kind, Const, Var, Compute, IfZero, Let, Leaf, Node, Case, Call}

-- An item of the column that is not a part. In the column, L is where the last part begins, and M
-- is after the whole.
pub data Item : Type 0 where
  -- "push i"
  push_number : ℕ → Item
  -- "get", of name a
  get_name : ℕ → Item
  -- "add"
  compute_two : (op : Op) → Item
  -- "ifnot L"
  ifnot_last : Item
  -- "jump M"
  jump_after : Item
  -- "end"
  end_name : Item
  -- "leaf tag", "node tag", "write number"
  write_leaf_tag : Item
  write_node_tag : Item
  write_number : Item
  -- "read tag L", "read number"
  read_tag_last : Item
  read_number : Item
  -- "call", of function b
  call_function : ℕ → Item

-- A kind's template: what stands before its first, second and third part, if it has them, and after
-- them all.
pub record Template : Type 0 where
  pub first : List Item
  pub second : List Item
  pub third : List Item
  pub last : List Item

-- Items after all parts, and nothing else.
abbrev pub only_last : List Item → Template
only_last items = record { first = []; second = []; third = []; last = items }

-- 01, Templates: the column "code", kind by kind: p and q (t, z and o for IfZero) are the parts.
unfoldable pub template_of : Kind → Template
template_of (Const i) = only_last (push_number i ∷ [])
template_of (Var a) = only_last (get_name a ∷ [])
template_of (Compute op) = only_last (compute_two op ∷ [])
template_of IfZero = record { first = []; second = ifnot_last ∷ []; third = jump_after ∷ []; last = [] }
template_of Let = only_last (end_name ∷ [])
template_of Leaf = record { first = write_leaf_tag ∷ []; second = []; third = []; last = write_number ∷ [] }
template_of Node = record { first = write_node_tag ∷ []; second = []; third = []; last = [] }
template_of (Case a) = record { first = read_tag_last ∷ read_number ∷ []; second = end_name ∷ jump_after ∷ []; third = []; last = [] }
template_of (Call a b) = only_last (call_function b ∷ [])

-- What stands before part i, counted from 0.
unfoldable pub items_before : Template → ℕ → List Item
items_before t zero = t.first
items_before t (suc zero) = t.second
items_before t (suc (suc zero)) = t.third
items_before t (suc (suc (suc i))) = []
