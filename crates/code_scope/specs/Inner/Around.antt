-- What is known where an expression's code is emitted, and how a `Scope` holds it.
use Rattle.std.specs.Prelude.{◌≡◌, ℕ, suc, ◌+◌, ◌%◌, ◌^◌, ◌<◌, ◌≤◌, min, Bool, true, false, ◌∷◌, length, ◌==◌, slice_set}
use Rattle.formats.specs.Inner.Buffers.{from_last}
use Rattle.formats.specs.Records.{Part, a_number, a_tree, as_whole, under_number, under_trees}
use Rattle.formats.specs.Programs.{Sort, number_valued, tree_valued}
use Rattle.translation.specs.Templates.{WordNumbers}
use Rattle.code_scope.specs.declared.Scope.{Scope}

-- What is known: the sort of the value expected, the word that each number name stands on, the
-- newest first, and how many words stand above the base.
pub record Around : Type 0 where
  pub sort : Sort
  pub words : WordNumbers
  pub standing : ℕ

abbrev pub around : Sort → WordNumbers → ℕ → Around
around sort words standing = record { sort = sort; words = words; standing = standing }

-- What is known on entering part i of a record, by what the part is (rules, Scopes: `part_scope`
-- has the same for pass one). A number that is named stands on the next word.
unfoldable pub part_around : Part → ℕ → Around → Around
part_around a_number i x = around number_valued x.words (x.standing + i)
part_around a_tree i x = around tree_valued x.words x.standing
part_around as_whole i x = x
part_around under_number i x = around x.sort (x.standing ∷ x.words) (suc x.standing)
part_around under_trees i x = x

-- ---- as a `Scope`

-- A scope holds at most 16 names: each stands on a word of its own, and 16 words are the most.
abbrev pub most_names : ℕ
most_names = 16

abbrev pub sort_of : Bool → Sort
sort_of true = tree_valued
sort_of false = number_valued

unfoldable pub words_in : Scope → WordNumbers
words_in c = from_last c.words (min c.names most_names)

abbrev pub around_of : Scope → Around
around_of c = around (sort_of c.tree) (words_in c) c.standing

-- No more names than words.
pub record Named (c : Scope) : Type 0 where
  pub few : c.names ≤ c.standing

-- A number is named in a part of this kind.
abbrev pub Binds : Part → Type 0
Binds a_number = ⊥
Binds a_tree = ⊥
Binds as_whole = ⊥
Binds under_number = Unit {0}
Binds under_trees = ⊥

-- Part i of a record can be entered: the counts fit their width, and there is a word for a number
-- that it names.
pub record Enterable (p : Part) (i : ℕ) (c : Scope) : Type 0 where
  pub table : length c.words ≡ most_names
  pub named : Named c
  pub fits : c.standing + i + 1 < 2 ^ 16
  pub room : Binds p → c.standing < most_names

-- The scope r on entering part i is the one that `part_around` gives.
pub record Enters (p : Part) (i : ℕ) (c r : Scope) : Type 0 where
  pub is : around_of r ≡ part_around p i (around_of c)
  pub named : Named r
  pub standing : r.standing ≤ c.standing + i + 1
  pub table : length r.words ≡ most_names

-- ---- the scope on entering a part, of any scope

-- The scope with one more number named, on the next word. With 16 names nothing changes. (A scope
-- counts in 64 bits.)
unfoldable pub under_scope : Scope → Scope
under_scope c =
    let n = min c.names most_names in
    elim (n == most_names) [
      | true ↦ c
      | false ↦
          record { words = slice_set c.words n (c.standing % 65536); names = n + 1; standing = (c.standing + 1) % 2 ^ 64; tree = c.tree }
    ]

-- The scope on entering part i of a record, by what the part is.
unfoldable pub inside_scope : Part → ℕ → Scope → Scope
inside_scope a_number i c = record { words = c.words; names = c.names; standing = (c.standing + i) % 2 ^ 64; tree = false }
inside_scope a_tree i c = record { words = c.words; names = c.names; standing = c.standing; tree = true }
inside_scope as_whole i c = c
inside_scope under_number i c = under_scope c
inside_scope under_trees i c = c
