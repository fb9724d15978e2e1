-- The items of a template, by the part that they stand before, and the entries of functions.
use Rattle.std.specs.Prelude.{ℕ, ◌+◌, ◌-◌, ◌*◌, ◌≤◌, List, ◌≡◌, length, get_or}
use Rattle.formats.specs.Inner.CodeColumn.{items_before}
use Rattle.records.specs.Inner.Read.{row, column_of}
use Rattle.records.specs.declared.Items.{Items}
use Rattle.records.specs.declared.Template.{Template}

-- What stands before part i of a template. There are at most two items, and none before a fourth
-- part or a later one.
pub record ItemsBefore (template : Template) (i : ℕ) (r : Items) : Type 0 where
  pub is : row r ≡ items_before (column_of template) i
  pub few : length (row r) + 2 * (3 - (i + 1)) ≤ 2 * (3 - i)

-- The entries in a table; 0 past its end.
abbrev pub entries_in : List ℕ → ℕ → ℕ
entries_in entries b = get_or entries b 0
