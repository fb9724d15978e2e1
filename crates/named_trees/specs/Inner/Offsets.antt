-- The offset of the tree that a code names, whatever a table and an input hold: 0 where there is
-- none.
use Rattle.std.specs.Prelude.{ℕ, zero, suc, ◌+◌, ◌-◌, ◌/◌, ◌%◌, true, false, List, eqb, leb, length, drop}
use Rattle.formats.specs.Results.{Result, done, refusal}
use Rattle.formats.specs.Tokens.{first_end}
use Rattle.stepwise.specs.Inner.Steps.{State, tree_at}

-- The offset after a tree that begins at p, by what the tree reader says; 0 on a refusal.
unfoldable pub after_tree : ℕ → Result ℕ → ℕ
after_tree p (done bytes) = p + bytes
after_tree p (refusal number offset) = 0

-- A branch of the node at offset p: the left one, for an even j, stands after the node's tag, the
-- right one after the left one. The tree at `known` ends at `end`.
unfoldable pub part_at : List ℕ → (known end p j : ℕ) → ℕ
part_at input known end p j =
    elim (leb (length input) p) [
      | true ↦ 0
      | false ↦
          elim (eqb (j % 2) 0) [
            | true ↦ suc p
            | false ↦ elim (eqb (suc p) known) [ true ↦ end | false ↦ after_tree (suc p) (first_end (drop (suc p) input)) ]
          ]
    ]

-- In a frame whose own tree is at `own`.
module _ (T input : List ℕ) (own known end : ℕ) where
  -- The offset of the tree of a code, found in at most n steps. Code 0 is the frame's own tree. Any
  -- other tree is a branch of the tree that some Case looks at, and that tree has a smaller code:
  -- so n steps are enough for every code up to n.
  unfoldable pub offset_within : (n code : ℕ) → ℕ
  offset_within zero code = own
  offset_within (suc n) code =
      elim (eqb code 0) [
        | true ↦ own
        | false ↦
            elim (leb code (tree_at T ((code - 1) / 2))) [
              | true ↦ 0
              | false ↦ part_at input known end (offset_within n (tree_at T ((code - 1) / 2))) (code - 1)
            ]
      ]

  abbrev pub tree_offset : ℕ → ℕ
  tree_offset code = offset_within code code

-- The offset of the tree that record r names, in the frame of a state.
abbrev pub named_by : (T input : List ℕ) → ℕ → State → ℕ
named_by T input r s = tree_offset T input s.tree s.known s.end (tree_at T r)
