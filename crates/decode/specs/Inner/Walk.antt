-- What the functions promise that fill a table, over flat records s. `table` and `cases` are the
-- words of the table and of the stack of Cases at entry, `table'` and `cases'` at exit.
use Rattle.std.specs.Prelude.{ℕ, suc, ◌+◌, ◌-◌, ◌*◌, ◌%◌, ◌≤◌, ◌<◌, List, [], ◌∷◌, ◌++◌, ◌≡◌, length, get_or, take, Option, Some, IfSome}
use Rattle.formats.specs.Results.{done, verdict}
use Rattle.formats.specs.Records.{Kind, Part, a_number, a_tree, as_whole, under_number, under_trees, parts_of, part_count}
use Rattle.formats.specs.Programs.{Expr, size, Placed, Function, Program}
use Rattle.formats.specs.Inner.Limits.{most_records}
use Rattle.formats.specs.Rows.{read_program}
use Rattle.formats.specs.Inner.Fields.{header_in, arity_in}
use Rattle.formats.specs.Written.{written}
use Rattle.records.specs.Inner.Read.{meant, listed}
use Rattle.records.specs.declared.Record.{Record}
use Rattle.records.specs.declared.Parts.{Parts}
use Rattle.walks.specs.Inner.Limits.{most_count}
use Rattle.walks.specs.Inner.Walks.{Inside, Went, Here, HereRow, PartsFrom, Begins}
use Rattle.stepwise.specs.Inner.Rows.{last_word, action_of, keeps_in, part_location, operand_of, tree_of, more_of, rows_of, row_words, tabled}
use Rattle.stepwise.specs.Inner.Rows.{Location as LocationThere}
use Rattle.frames.specs.declared.Role.TheVariants.{Whole}
use Rattle.frames.specs.Inner.Named.{action_number, role_number}
use Rattle.part_locations.specs.declared.Location.{Location}
use Rattle.part_locations.specs.Inner.Locations.{location_with, role_inside, slot_inside}
use Rattle.record_rows.specs.declared.Own.{Own}
use Rattle.record_rows.specs.Inner.Halves.{first_in}
use Rattle.decode.specs.Inner.Decoding.{table_words}

-- ---- locations

-- How many numbers are named in a part, by what the part is. At its record `names` are named.
unfoldable pub names_under : Part → ℕ → ℕ
names_under a_number names = names
names_under a_tree names = names
names_under as_whole names = names
names_under under_number names = suc names
names_under under_trees names = names

-- In how many node parts of Cases a part stands. Its record stands in `depth` of them.
unfoldable pub deeper : Part → ℕ → ℕ
deeper a_number depth = depth
deeper a_tree depth = depth
deeper as_whole depth = depth
deeper under_number depth = depth
deeper under_trees depth = suc depth

-- Where part i of the record r stands, which has `count` parts, if counts are small:
-- `part_locations/specs/Inner/Locations: part_in` without its caps.
unfoldable pub inside_location : Part → Kind → (r i count : ℕ) → Location → Location
inside_location part kind r i count p =
    record {
      role = role_inside kind i count;
      parent = r;
      slot = slot_inside kind i count p;
      names = names_under part p.names;
      keeps = keeps_in (λ b. 0) (λ b. count) (location_with p []) kind i;
      depth = deeper part p.depth;
    }

-- The counts can grow on entering part i, and none is cut.
pub record Grows (i : ℕ) (p : Location) : Type 0 where
  pub names : p.names < most_count
  pub keeps : p.keeps + i < most_count
  pub depth : p.depth < most_count

-- ---- a row's first half

-- For each function of the program, `entry` gives its first record and `arity` the number of its
-- parameters.
pub record Agrees (s : List ℕ) (entry arity : ℕ → ℕ) : Type 0 where
  pub entries : (b : ℕ) → b < (header_in s).functions → entry b ≡ first_in s b
  pub arities : (b : ℕ) → b < (header_in s).functions → arity b ≡ arity_in s b
  pub low : (b : ℕ) → b < (header_in s).functions → entry b ≤ most_records

-- The first `depth` entries of a stack are records, and there is room for `more` of them.
pub record Stacked (cases : List ℕ) (depth more : ℕ) : Type 0 where
  pub room : depth + more ≤ length cases
  pub low : (n : ℕ) → n < depth → get_or cases n 0 ≤ most_records

-- The first half of a row is the right one.
pub record FirstHalf (entry arity : ℕ → ℕ) (p : LocationThere) (kind : Kind) (o : Own) : Type 0 where
  pub action : action_number o.action ≡ action_of kind
  pub operand : o.operand ≡ operand_of entry arity p kind
  pub tree : o.tree ≡ tree_of entry arity p kind
  pub more : o.more ≡ more_of entry arity kind

-- The words of a row, made from its two halves.
abbrev pub row_in : Own → Location → ℕ → List ℕ
row_in o p after =
    action_number o.action ∷ o.operand ∷ o.tree ∷ o.more ∷ role_number p.role ∷ (p.parent % 65536) ∷ (p.slot % 65536) ∷ (after % 65536) ∷ []

-- ---- an expression

-- Counts stay small up to record `end`, even if each record adds one.
pub record Small (k end : ℕ) (p : Location) : Type 0 where
  pub inside : Inside k end
  pub parent : p.parent ≤ most_records
  pub slot : p.slot ≤ most_count + last_word
  pub names : p.names + (end - k) ≤ most_count
  pub keeps : p.keeps + (end - k) ≤ most_count
  pub depth : p.depth + (end - k) ≤ most_count

-- Expression e of a program stands at record k and ends by record `end`, the table has rows up to
-- `end`, and the stack has room.
pub record Entering (s table cases : List ℕ) (entry arity : ℕ → ℕ) (k end : ℕ) (p : Location) (e : Expr) : Type 0 where
  pub here : Here s end k e
  pub agrees : Agrees s entry arity
  pub room : row_words * end ≤ length table
  pub stacked : Stacked cases p.depth (end - k)

-- The stack is as it was, up to the depth.
pub record Same (cases cases' : List ℕ) (depth : ℕ) : Type 0 where
  pub long : length cases' ≡ length cases
  pub below_depth : take depth cases' ≡ take depth cases

-- The rows of the expression's records are in the table; nothing else in it has changed. The record
-- after it is given.
pub record Filled (table table' cases cases' : List ℕ) (entry arity : ℕ → ℕ) (k : ℕ) (p : Location) (e : Expr) (r : Option ℕ) : Type 0 where
  pub after : r ≡ Some (k + size e)
  pub rows : table' ≡ written table (row_words * k) (rows_of entry arity (location_with p cases) k e)
  pub stack : Same cases cases' p.depth

-- A record that is given is beyond record k and not past the end; where a program's expression
-- stands, one is given.
pub record FillsRows (s table table' cases cases' : List ℕ) (k end : ℕ) (p : Location) (r : Option ℕ) : Type 0 where
  pub went : IfSome r (Went (suc k) end)
  pub is : (entry arity : ℕ → ℕ) (e : Expr) → Entering s table cases entry arity k end p e → Filled table table' cases cases' entry arity k p e r

-- ---- parts

-- The rows of the parts of the record r from part i on.
unfoldable pub rows_of_parts : (entry arity : ℕ → ℕ) → LocationThere → Kind → (r i : ℕ) → List Placed → List ℕ
rows_of_parts entry arity p kind r i [] = []
rows_of_parts entry arity p kind r i (q ∷ qs) =
    rows_of entry arity (part_location entry arity p kind r i) q.at_record q.expr ++ rows_of_parts entry arity p kind r (suc i) qs

-- Counts stay small from part i of the record r on, which stands at record k.
pub record SmallParts (r i k end : ℕ) (p : Location) : Type 0 where
  pub inside : Inside k end
  pub parent : r ≤ most_records
  pub names : p.names + 1 + (end - k) ≤ most_count
  pub keeps : p.keeps + i + 1 + (end - k) ≤ most_count
  pub depth : p.depth + 1 + (end - k) ≤ most_count

-- A record of this kind has `count` parts.
pub record Counted (arity : ℕ → ℕ) (kind : Kind) (count : ℕ) : Type 0 where
  pub is : part_count arity (parts_of kind) ≡ count

-- Parts of the record r from part i on stand one after the other, the next at record k and the last
-- before record m.
pub record EnteringParts (s table cases : List ℕ) (entry arity : ℕ → ℕ) (node : Record) (parts : Parts) (i count k end : ℕ) (p : Location) (ps : List Placed) (m : ℕ) : Type 0 where
  pub here : HereRow s end k ps m
  pub from : PartsFrom s (listed parts) (meant node) i count ps
  pub counted : Counted arity (meant node) count
  pub agrees : Agrees s entry arity
  pub room : row_words * end ≤ length table
  pub stacked : Stacked cases p.depth (suc (end - k))

pub record FilledParts (table table' cases cases' : List ℕ) (entry arity : ℕ → ℕ) (kind : Kind) (r i k : ℕ) (p : Location) (ps : List Placed) (m next : ℕ) : Type 0 where
  pub after : next ≡ m
  pub rows : table' ≡ written table (row_words * k) (rows_of_parts entry arity (location_with p cases) kind r i ps)
  pub stack : Same cases cases' p.depth

pub record FillsParts (s table table' cases cases' : List ℕ) (node : Record) (parts : Parts) (r i count k end : ℕ) (p : Location) (next : ℕ) : Type 0 where
  pub went : Went k end next
  pub is : (entry arity : ℕ → ℕ) (ps : List Placed) (m : ℕ) → EnteringParts s table cases entry arity node parts i count k end p ps m
      → FilledParts table table' cases cases' entry arity (meant node) r i k p ps m next

-- ---- all functions

-- Where the body of a function stands.
abbrev pub start_location : Function → Location
start_location f = record { role = Whole; parent = 0; slot = 0; names = f.parameters; keeps = 0; depth = 0 }

abbrev pub Starts : List ℕ → ℕ → Location → Type 0
Starts s j p = Begins Location s j start_location p

-- The records are a program, and there is room for its rows.
pub record TableReady (s table : List ℕ) : Type 0 where
  pub is_read : verdict (read_program s) ≡ done tt
  pub room : table_words ≤ length table

pub record FillsAll (s table table' : List ℕ) : Type 0 where
  pub is : (program : Program) → read_program s ≡ done program → table' ≡ tabled table program
