-- What a stage and the lent words stand for: a turn of the evaluation, and the stage of each turn.
use Rattle.std.specs.Prelude.{ℕ, Bool, true, false, List, ◌≡◌, length}
use Rattle.formats.specs.Arithmetic.{Op, plus}
use Rattle.stepwise.specs.Inner.Steps.{State, Turn, begin, finished, opens, ended, deep, broken, stuck}
use Rattle.stages.specs.declared.Next.{Next}
use Rattle.stages.specs.declared.Next.TheVariants.{Begin, Finished, Open, Ended, Deep, Stuck, Broken}
use Rattle.stages.specs.declared.Stage.{Stage}

-- Whether a record is to begin, a record is finished, a call is to open.
abbrev pub to_begin : Next → Bool
to_begin (Begin r) = true
to_begin _ = false

abbrev pub is_finished : Next → Bool
is_finished (Finished r x) = true
is_finished _ = false

abbrev pub to_open : Next → Bool
to_open (Open r) = true
to_open _ = false

-- The record that this is to be done with; 0 where there is none.
abbrev pub node_of : Next → ℕ
node_of (Begin r) = r
node_of (Finished r x) = r
node_of (Open r) = r
node_of (Deep r) = r
node_of (Stuck r) = r
node_of (Broken r) = r
node_of _ = 0

-- The number found; 0 where there is none.
abbrev pub number_of : Next → ℕ
number_of (Finished r x) = x
number_of (Ended x) = x
number_of _ = 0

abbrev pub state_of : (values returns : List ℕ) → Stage → State
state_of values returns s = record { words = values; returns = returns; calls = s.calls; tree = s.tree; known = s.known; end = s.end }

-- A result that is missing, by its operation and the two numbers. A broken turn has these, its
-- stage has not.
pub record Missing : Type 0 where
  pub op : Op
  pub i : ℕ
  pub j : ℕ

-- The turn that a stage and the lent words stand for, with the result that is missing where the
-- stage is broken.
unfoldable pub turn_of : Missing → (values returns : List ℕ) → Stage → Turn
turn_of m values returns s =
    elim s.next [
      | Begin r ↦ begin r (state_of values returns s)
      | Finished r x ↦ finished r x (state_of values returns s)
      | Open r ↦ opens r (state_of values returns s)
      | Ended x ↦ ended x
      | Deep r ↦ deep r
      | Stuck r ↦ stuck
      | Broken r ↦ broken m.op m.i m.j r
    ]

-- The same frame, with something else to be done next.
abbrev pub staged : Stage → Next → Stage
staged s next =
    record { next = next; calls = s.calls; tree = s.tree; known = s.known; end = s.end; written = s.written }

-- The same stage, with so many bytes written.
abbrev pub with_written : Stage → ℕ → Stage
with_written s at =
    record { next = s.next; calls = s.calls; tree = s.tree; known = s.known; end = s.end; written = at }

-- ---- one step

-- The frame of a state, with this to be done next and so many bytes written.
abbrev pub in_state : State → Next → (written : ℕ) → Stage
in_state t next written =
    record { next = next; calls = t.calls; tree = t.tree; known = t.known; end = t.end; written = written }

-- The stage of a turn that follows the stage s. A turn without a state leaves the frame as it was,
-- and one without a record the record.
unfoldable pub stage_of : Stage → Turn → Stage
stage_of s (begin r t) = in_state t (Begin r) s.written
stage_of s (finished r x t) = in_state t (Finished r x) s.written
stage_of s (opens r t) = in_state t (Open r) s.written
stage_of s (ended x) = staged s (Ended x)
stage_of s (deep r) = staged s (Deep r)
stage_of s (broken op i j r) = staged s (Broken r)
stage_of s stuck = staged s (Stuck (node_of s.next))

-- The value words before a turn: those of its state, or where it has none, those that there were.
unfoldable pub words_of : List ℕ → Turn → List ℕ
words_of values (begin r t) = t.words
words_of values (finished r x t) = t.words
words_of values (opens r t) = t.words
words_of values (ended x) = values
words_of values (deep r) = values
words_of values (broken op i j r) = values
words_of values stuck = values

-- .. and the return words.
unfoldable pub returns_of : List ℕ → Turn → List ℕ
returns_of returns (begin r t) = t.returns
returns_of returns (finished r x t) = t.returns
returns_of returns (opens r t) = t.returns
returns_of returns (ended x) = returns
returns_of returns (deep r) = returns
returns_of returns (broken op i j r) = returns
returns_of returns stuck = returns

-- The result that is missing in a turn; any where none is.
abbrev pub none_missing : Missing
none_missing = record { op = plus; i = 0; j = 0 }

unfoldable pub missing_in : Turn → Missing
missing_in (begin r t) = none_missing
missing_in (finished r x t) = none_missing
missing_in (opens r t) = none_missing
missing_in (ended x) = none_missing
missing_in (deep r) = none_missing
missing_in (broken op i j r) = record { op = op; i = i; j = j }
missing_in stuck = none_missing

-- A step from the stage s to the turn t: the stage r and the words after it (primed). The words
-- keep their number.
pub record Reaches (t : Turn) (values values' returns returns' : List ℕ) (s r : Stage) : Type 0 where
  pub stage : r ≡ stage_of s t
  pub words : values' ≡ words_of values t
  pub returns_are : returns' ≡ returns_of returns t
  pub words_long : length values' ≡ length values
  pub returns_long : length returns' ≡ length returns
