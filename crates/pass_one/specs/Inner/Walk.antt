-- What the functions of pass one answer; s are the flat records.
use Rattle.std.specs.Prelude.{ℕ, suc, ◌+◌, ◌-◌, ◌*◌, ◌≤◌, ◌<◌, Bool, true, false, List, ◌≡◌, Result as Answer, Ok}
use Rattle.formats.specs.Results.{Result, done, on_value}
use Rattle.formats.specs.Records.{function_below}
use Rattle.formats.specs.Programs.{Expr, size, Signature, Program}
use Rattle.formats.specs.Rows.{read_program}
use Rattle.formats.specs.Inner.Fields.{header_in, function_in}
use Rattle.refusal.specs.Inner.Verdicts.{verdict_result}
use Rattle.refusal.specs.Inner.Answered.{answered}
use Rattle.refusal.specs.declared.Refused.{Refused}
use Rattle.records.specs.Inner.Read.{meant}
use Rattle.records.specs.declared.Record.{Record}
use Rattle.rules.specs.Types.{Ty, Int, Tree⁺}
use Rattle.rules.specs.Scopes.{scope, start_of, entry, entered, Scope as ScopeThere}
use Rattle.rules.specs.PassOne.{type_fits, words_tested, has_room, bare_number, at_entry, pass_over, pass_one}
use Rattle.walks.specs.Inner.Standing.{Known}
use Rattle.walks.specs.Inner.Limits.{most_count, most_tree_names}
use Rattle.walks.specs.Inner.Walks.{Inside, Went, Here, Begins}
use Rattle.pass_one.specs.declared.Scope.{Scope}

-- The type expected, by whether it is a tree.
abbrev pub expected : Bool → Ty
expected true = Tree⁺
expected false = Int

-- The scope that a `Scope` of the code stands for.
abbrev pub scope_of : Scope → ScopeThere
scope_of c = scope c.numbers c.trees c.words (expected c.tree)

-- What a walk answers: the record come to, or the refusal's number and its record.
abbrev pub reported : Answer ℕ Refused → Result ℕ
reported r = answered (λ k. k) r

-- Counts that can grow on entering part i of a record.
abbrev pub RoomFor : ℕ → ScopeThere → Type 0
RoomFor i (scope g n w τ) = (g < most_count) × ((n < most_tree_names) × (w + i < most_count))

-- Counts that grow with each record entered, by two at most, stay small up to the end.
pub record Small (k end g n w : ℕ) : Type 0 where
  pub inside : Inside k end
  pub numbers : g + (end - k) ≤ most_count
  pub trees : n + 2 * (end - k) ≤ most_tree_names
  pub words : w + (end - k) ≤ most_count

-- The counts are small on entering record k.
abbrev pub Fits : ℕ → ℕ → ScopeThere → Type 0
Fits k end (scope g n w τ) = Small k end g n w

-- The counts are small on entering part i of a record, the part at record k.
abbrev pub FitsParts : ℕ → ℕ → ℕ → ScopeThere → Type 0
FitsParts i k end (scope g n w τ) = Small k end (suc g) (suc (suc n)) (suc (w + i))

-- The type test of a record that was read, by the signatures of the function records.
pub record Typed (s : List ℕ) (c : Scope) (node : Record) (r : Bool) : Type 0 where
  pub is : (gs : List Signature) → Known s gs → function_below (header_in s).functions (meant node) ≡ true → r ≡ type_fits gs (scope_of c) (meant node)

-- Whether a function gives a number and has no number parameters.
pub record Bare (s : List ℕ) (b : ℕ) (r : Bool) : Type 0 where
  pub is : (g : Signature) → function_in s b ≡ done g → r ≡ bare_number g

-- Whether a record that was read has a words test.
pub record WordTested (s : List ℕ) (node : Record) (r : Bool) : Type 0 where
  pub is : (gs : List Signature) → Known s gs → function_below (header_in s).functions (meant node) ≡ true → r ≡ words_tested gs (meant node)

-- The words test of a record that was read.
pub record Roomy (s : List ℕ) (c : Scope) (node : Record) (r : Bool) : Type 0 where
  pub is : (gs : List Signature) → Known s gs → function_below (header_in s).functions (meant node) ≡ true → r ≡ has_room gs (scope_of c) (meant node)

-- All tests of a record that was read.
pub record Tested (s : List ℕ) (c : Scope) (k : ℕ) (node : Record) (r : Answer (Unit {0}) Refused) : Type 0 where
  pub is : (gs : List Signature) → Known s gs → function_below (header_in s).functions (meant node) ≡ true
      → verdict_result r ≡ at_entry gs (entry (scope_of c) k (meant node))

-- Pass one over the expression at record k, entered with the scope c.
pub record Entered (s : List ℕ) (k end : ℕ) (c : Scope) (r : Answer ℕ Refused) : Type 0 where
  pub went : (next : ℕ) → r ≡ Ok next → Went (suc k) end next
  pub is : (e : Expr) (here : Here s end k e)
      → reported r ≡ on_value (λ u. k + size e) (pass_over here.signed (entered (scope_of c) k e))

-- The scope on entering the body of function j.
abbrev pub Starts : List ℕ → ℕ → Scope → Type 0
Starts s j c = Begins ScopeThere s j start_of (scope_of c)

-- Pass one, where flat records s are a program's.
pub record PassSays (s : List ℕ) (r : Answer (Unit {0}) Refused) : Type 0 where
  pub is : (program : Program) → read_program s ≡ done program → verdict_result r ≡ pass_one program
