-- What the functions that emit code answer, over flat records s, a table of entries, and a part of
-- the code buffer that begins at address `base`: `code'` holds its bytes at entry and `after` those
-- at exit.
use Rattle.std.specs.Prelude.{ℕ, ◌+◌, ◌-◌, ◌*◌, ◌≤◌, ◌<◌, List, ◌≡◌, length, Option, Some, IsSome}
use Rattle.formats.specs.Inner.CodeColumn.{Template}
use Rattle.formats.specs.Records.{Kind, record_bytes, parts_of, nth_part}
use Rattle.formats.specs.Results.{done}
use Rattle.formats.specs.Programs.{Expr, size, Placed, Function, signature_of, Program}
use Rattle.formats.specs.Inner.Fields.{arity_in, function_in}
use Rattle.records.specs.Inner.Read.{listed, column_of}
use Rattle.rules.specs.Types.{result_type}
use Rattle.rules.specs.Scopes.{scope, entered}
use Rattle.rules.specs.PassOne.{pass_over}
use Rattle.walks.specs.Inner.Standing.{pass_parts}
use Rattle.walks.specs.Inner.Limits.{parameters_of_any, most_count, record_instructions, most_emitted}
use Rattle.walks.specs.Inner.Walks.{Inside, Went, Here, HereRow, PartsFrom, Begins}
use Rattle.formats.specs.Written.{written}
use Rattle.translation.specs.TranslateAndRun.{checked_records}
use Rattle.translation.specs.Templates.{code, code_end, first_words, function_code, function_end, entry_of, operations_of, code_of}
use Rattle.code_scope.specs.Inner.Around.{Around, around, sort_of, words_in, around_of, most_names, Named, Binds}
use Rattle.code_scope.specs.declared.Scope.{Scope}
use Rattle.template.specs.Inner.Items.{entries_in}
use Rattle.translate.specs.declared.Emitted.{Emitted}
use Rattle.translate.specs.declared.Shape.{Shape}
use Rattle.translate.specs.declared.Table.{Table}
use Rattle.translate.specs.Inner.Emitting.{emitted_at, parts_code, last_part, beyond_parts}

-- Addresses stay small up to the end, since a record emits at most `record_instructions`. Still due
-- at this record are `due` instructions.
pub record Small (k end base at due : ℕ) : Type 0 where
  pub inside : Inside k end
  pub base_small : base ≤ most_emitted
  pub small : at + record_instructions * (end - k) + due ≤ most_emitted

-- How many instructions a record itself may still emit, from part i on.
abbrev pub due_from : ℕ → ℕ
due_from i = 2 * (3 - i) + 2

-- Addresses stay small on entering part i of a record; `last` is where the part before it begins.
pub record SmallParts (i k end base at last : ℕ) : Type 0 where
  pub small : Small k end base at (due_from i)
  pub last_small : last ≤ most_emitted

-- So do those that a record's items refer to.
pub record SmallAddresses (base last beyond : ℕ) : Type 0 where
  pub base_small : base ≤ most_emitted
  pub last_small : last ≤ most_emitted
  pub beyond_small : beyond ≤ most_emitted

-- How far the records and the addresses went on, and that no more is emitted than may be.
pub record WentOn (k end at due : ℕ) (r : Emitted) : Type 0 where
  pub went : Went k end r.next
  pub up : at ≤ r.at
  pub small : r.at + record_instructions * (end - r.next) ≤ at + record_instructions * (end - k) + due
  pub last_small : r.last ≤ most_emitted

-- ---- an expression

-- Expression e of a program stands at record k, ends by the end, and passes pass one in this scope.
pub record Entering (s : List ℕ) (k end : ℕ) (c : Scope) (e : Expr) : Type 0 where
  pub here : Here s end k e
  pub numbers : ℕ
  pub trees : ℕ
  pub passes : pass_over here.signed (entered (scope numbers trees c.standing (result_type (sort_of c.tree))) k e) ≡ done tt
  pub table : length c.words ≡ most_names
  pub named : Named c
  pub words : c.standing + (end - k) ≤ most_count

-- The answer r has the record after the expression, and the address after its code.
pub record Came (base at k : ℕ) (e : Expr) (r : Emitted) : Type 0 where
  pub next : r.next ≡ k + size e
  pub address : base + r.at ≡ code_end e (base + at)

-- The expression at record k was emitted from address base + at on.
pub record EmittedHere (s entries code' after : List ℕ) (base at k end : ℕ) (c : Scope) (r : Emitted) : Type 0 where
  pub went_on : WentOn k end at 0 r
  pub past : k < r.next
  pub came : (e : Expr) → Entering s k end c e → Came base at k e r
  pub emits : (e : Expr) → Entering s k end c e → record_bytes * r.at ≤ length code'
      → after ≡ emitted_at code' at (code (entries_in entries) (sort_of c.tree) (words_in c) c.standing (base + at) e)

-- It is emitted, unless no expression is entered here.
pub record Emits (s entries code' after : List ℕ) (base at k end : ℕ) (c : Scope) (r : Option Emitted) : Type 0 where
  pub answered : (e : Expr) → Entering s k end c e → IsSome r
  pub is : (x : Emitted) → r ≡ Some x → EmittedHere s entries code' after base at k end c x

-- ---- parts

-- Parts of a record from number i on stand one after the other, the next at record k and the last
-- before record m, and pass pass one.
pub record EnteringParts (s : List ℕ) (shape : Shape) (i k end : ℕ) (c : Scope) (ps : List Placed) (m : ℕ) : Type 0 where
  pub kind : Kind
  pub here : HereRow s end k ps m
  pub from : PartsFrom s (listed shape.read.parts) kind i shape.count ps
  pub numbers : ℕ
  pub trees : ℕ
  pub passes : pass_parts here.signed kind i (scope numbers trees c.standing (result_type (sort_of c.tree))) ps ≡ done tt
  pub table : length c.words ≡ most_names
  pub named : Named c
  pub words : c.standing + i + 1 + (end - k) ≤ most_count
  pub room : (j : ℕ) → Binds (nth_part (parts_of kind) j) → c.standing < most_names

-- The answer r has the record after the parts, the address after their code, and where the last
-- part begins.
pub record CameParts (base at last : ℕ) (t : Template) (i : ℕ) (ps : List Placed) (m : ℕ) (r : Emitted) : Type 0 where
  pub next : r.next ≡ m
  pub address : base + r.at ≡ beyond_parts t i (base + at) ps
  pub last-part : base + r.last ≡ last_part t (base + last) i (base + at) ps

-- The parts from number i on were emitted with the items before and after them.
pub record EmittedParts (s entries code' after : List ℕ) (base at last : ℕ) (shape : Shape) (i k end : ℕ) (c : Scope) (r : Emitted) : Type 0 where
  pub went_on : WentOn k end at (due_from i) r
  pub came : (ps : List Placed) (m : ℕ) → EnteringParts s shape i k end c ps m → CameParts base at last (column_of shape.read.template) i ps m r
  pub emits : (ps : List Placed) (m : ℕ) → EnteringParts s shape i k end c ps m → record_bytes * r.at ≤ length code'
      → after ≡ emitted_at code' at (parts_code (entries_in entries) (arity_in s) (listed shape.read.parts) (column_of shape.read.template) (around_of c) (base + r.last) (base + r.at) i (base + at) ps)

-- They are emitted, unless no parts are entered here.
pub record EmitsParts (s entries code' after : List ℕ) (base at last : ℕ) (shape : Shape) (i k end : ℕ) (c : Scope) (r : Option Emitted) : Type 0 where
  pub answered : (ps : List Placed) (m : ℕ) → EnteringParts s shape i k end c ps m → IsSome r
  pub is : (x : Emitted) → r ≡ Some x → EmittedParts s entries code' after base at last shape i k end c x

-- ---- a function

-- What is known on entering the body of a function: its parameters stand on the first words.
abbrev pub start_around : Function → Around
start_around f = around f.sort (first_words f.parameters) f.parameters

-- The scope on entering the body of function j.
pub record Starts (s : List ℕ) (j : ℕ) (c : Scope) : Type 0 where
  pub begins : Begins Around s j start_around (around_of c)
  pub table : length c.words ≡ most_names
  pub named : Named c

-- Function f with number j: its body stands at record k.
pub record EnteringFunction (s : List ℕ) (j k end : ℕ) (f : Function) : Type 0 where
  pub here : Here s end k f.body
  pub signature : function_in s j ≡ done (signature_of f)
  pub few_parameters : f.parameters ≤ parameters_of_any
  pub passes : pass_over here.signed (entered (scope f.parameters 1 f.parameters (result_type f.sort)) k f.body) ≡ done tt

-- Function j, its body at record k, was emitted from its entry on.
pub record EmittedFunction (s entries code' after : List ℕ) (entry j k end : ℕ) (r : Emitted) : Type 0 where
  pub went_on : WentOn k end 0 1 r
  pub next : (f : Function) → EnteringFunction s j k end f → r.next ≡ k + size f.body
  pub address : (f : Function) → EnteringFunction s j k end f → entry + r.at ≡ function_end f entry
  pub emits : (f : Function) → EnteringFunction s j k end f → record_bytes * r.at ≤ length code'
      → after ≡ emitted_at code' 0 (function_code (entries_in entries) entry f)

-- It is emitted, unless no function is entered here.
pub record EmitsFunction (s entries code' after : List ℕ) (entry j k end : ℕ) (r : Option Emitted) : Type 0 where
  pub answered : (f : Function) → EnteringFunction s j k end f → IsSome r
  pub is : (x : Emitted) → r ≡ Some x → EmittedFunction s entries code' after entry j k end x

-- ---- all functions

-- A table has the entries of a program's functions.
abbrev pub HasEntries : List ℕ → Program → Type 0
HasEntries entries program = (b : ℕ) → b < length program.functions → entries_in entries b ≡ entry_of program b

-- The program's entries are found, and how many instructions it has together. With its entries its
-- code is written, each function from its entry on, where there is room.
pub record EmitsAll (s entries code' after : List ℕ) (t : Table) : Type 0 where
  pub entries_found : (program : Program) → checked_records s ≡ done program → HasEntries t.entries program
  pub counted : (program : Program) → checked_records s ≡ done program → t.instructions ≡ length (operations_of program)
  pub small : t.instructions ≤ most_emitted
  pub is : (program : Program) → checked_records s ≡ done program → HasEntries entries program → record_bytes * length (operations_of program) ≤ length code'
      → after ≡ written code' 0 (code_of program)
