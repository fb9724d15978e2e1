-- The limits of a program's code: the statements. They are proved in proofs/CodeLimits.antt.
use Rattle.std.specs.Prelude.{ℕ, suc, ◌+◌, ◌≤◌, ◌<◌, true, List, ◌++◌, ◌↔◌, ◌≡◌, length}
use Rattle.std.proofs.Math.Option.{some}
use Rattle.formats.specs.Arithmetic.{Op}
use Rattle.formats.specs.Refusals.{too_many_words}
use Rattle.formats.specs.Results.{refusal}
use Rattle.formats.specs.Records.{Ranged, nth}
use Rattle.formats.specs.Programs.{Every, Function, Program, signatures, Signature, Lawful}
use Rattle.rules.specs.Scopes.{Entry, entry, entered_all}
use Rattle.rules.specs.PassOne.{name_bound, type_fits, pass_one}
use Rattle.rules.specs.Limits.{most_frame_words}
use Rattle.rules.specs.OrderChecker.{first_node}
use Rattle.meaning.specs.Instructions.{Operation, Push, Get, Compute, Ifnot, Jump, Slide, Drop, LeafTag, NodeTag, WriteNumber, ReadTag, ReadNumber, Call, instruction_of, most_instructions}
use Rattle.meaning.specs.Performing.{Setting, State, goes, operate}
use Rattle.translation.specs.Templates.{words_kept, function_code, entry_of, operations_of}

-- ---- word counts in code, without running it

-- A call of the function that begins at this address leaves so many words.
pub record Leaves (program : Program) (entry words : ℕ) : Type 0 where
  pub index : ℕ
  pub function : Function
  pub known : nth program.functions index ≡ some function
  pub begins : entry_of program index ≡ entry
  pub kept : words_kept function.sort ≡ words

-- `MovesWords program op a w b v`: an instruction at address a, with w words above the base before
-- it, leads to address b with v words. A test leads both ways, as does a tag; a return leads
-- nowhere. Each step of the machine within one frame is of this kind (`as_counted` below). A call's
-- arguments leave the frame, and its result is counted when it is back; the frame of the function
-- that is called is counted from its own entry on.
pub data MovesWords (program : Program) : Operation → (a w b v : ℕ) → Type 0 where
  by_push : {i a w : ℕ} → MovesWords program (Push i) a w (suc a) (suc w)
  by_get : {k a w : ℕ} → MovesWords program (Get k) a w (suc a) (suc w)
  by_compute : {op : Op} {a w : ℕ} → MovesWords program (Compute op) a (suc (suc w)) (suc a) (suc w)
  by_ifnot_zero : {b a w : ℕ} → MovesWords program (Ifnot b) a (suc w) (suc a) w
  by_ifnot_other : {b a w : ℕ} → MovesWords program (Ifnot b) a (suc w) b w
  by_jump : {b a w : ℕ} → MovesWords program (Jump b) a w b w
  by_slide : {a w : ℕ} → MovesWords program Slide a (suc (suc w)) (suc a) (suc w)
  by_drop : {a w : ℕ} → MovesWords program Drop a (suc w) (suc a) w
  by_leaf_tag : {a w : ℕ} → MovesWords program LeafTag a w (suc a) w
  by_node_tag : {a w : ℕ} → MovesWords program NodeTag a w (suc a) w
  by_write_number : {a w : ℕ} → MovesWords program WriteNumber a (suc w) (suc a) w
  by_read_leaf : {b a w : ℕ} → MovesWords program (ReadTag b) a w (suc a) w
  by_read_node : {b a w : ℕ} → MovesWords program (ReadTag b) a w b w
  by_read_number : {a w : ℕ} → MovesWords program ReadNumber a w (suc a) (suc w)
  by_call : {b n a k : ℕ} (w : ℕ) → Leaves program b k → MovesWords program (Call b n) a (n + w) (suc a) (k + w)

-- The word counts of a program's code: a function begins with its number parameters, and each
-- instruction leads on.
pub data WordsStand (program : Program) : ℕ → ℕ → Type 0 where
  at_entry : {f : Function} (b : ℕ) → nth program.functions b ≡ some f → WordsStand program (entry_of program b) f.parameters
  onward :
      {a w b v : ℕ} {op : Operation}
      → WordsStand program a w
      → nth (operations_of program) a ≡ some op
      → MovesWords program op a w b v
      → WordsStand program b v

-- Some word count exceeds 16.
pub record Exceeds (program : Program) : Type 0 where
  pub address : ℕ
  pub count : ℕ
  pub stands : WordsStand program address count
  pub above : most_frame_words < count

-- At this record the name is bound (no 9) and the type is right (no 8).
abbrev pub Sound : List Signature → Entry → Type 0
Sound gs (entry sc r kind) = (name_bound sc kind ≡ true) × (type_fits gs sc kind ≡ true)

-- Pass one refuses with 10, at some record.
pub record RefusedFor10 (program : Program) : Type 0 where
  pub position : ℕ
  pub refused : pass_one program ≡ refusal too_many_words position

-- ---- where functions stand

-- The instructions of function b are a part of the program's, the one that begins at its entry.
pub record InPlace (program : Program) (b : ℕ) (f : Function) : Type 0 where
  pub before : List Operation
  pub after : List Operation
  pub many : length before ≡ entry_of program b
  pub joined : operations_of program ≡ before ++ (function_code (entry_of program) (entry_of program b) f ++ after)

-- ---- the theorems

-- What holds of a program within the limits of 01, Lawful programs.
pub record CodeLimits (program : Program) : Type 0 where
  -- 01, Limits: "At most 4,128 instructions."
  pub few : length (operations_of program) ≤ most_instructions
  -- each field of each instruction fits its bytes
  pub fit : Every (λ op. Ranged (instruction_of op)) (operations_of program)
  -- 01, Addresses and entries: "each one's instructions go into the part of the code buffer that
  -- begins at its entry"
  pub in_place : (b : ℕ) (f : Function) → nth program.functions b ≡ some f → InPlace program b f
  -- words are counted as the machine moves them, in every step that neither opens a call nor leaves
  -- one
  pub as_counted :
      (m : Setting) (s t : State) (op : Operation)
      → operate m s op ≡ goes t
      → length t.callers ≡ length s.callers
      → MovesWords program op s.address (length s.frame) t.address (length t.frame)
  -- for a program with no 9 or 8, pass one says 10 exactly when some word count in its code exceeds
  -- 16 (at which record: rules, OrderChecker, `pass-one`)
  pub words :
      Every (Sound (signatures program)) (entered_all (first_node program) program.functions)
      → RefusedFor10 program ↔ Exceeds program

-- It holds of every such program.
abbrev pub CodeLimitsHold : Type 0
CodeLimitsHold = (program : Program) → Lawful program → CodeLimits program
