-- What `Stages` says of a stage, of a stage in numbers, whatever these are: the turn that it and
-- the lent words stand for, and the stage of each turn.
use Rattle.std.specs.Prelude.{ℕ, true, false, List, ◌≡◌, eqb, length}
use Rattle.stepwise.specs.Inner.Steps.{State, Turn, begin, finished, opens, ended, deep, broken, stuck}
use Rattle.stages.specs.declared.Next.{Next}
use Rattle.stages.specs.declared.Next.TheVariants.{Begin, Finished, Open, Ended, Deep, Stuck, Broken}
use Rattle.stages.specs.declared.Stage.{Stage}
use Rattle.stages.specs.declared.StageInNumbers.{StageInNumbers}
use Rattle.stages.specs.Inner.Stages.{node_of, number_of, Missing, words_of, returns_of}

-- The modes of a stage: what is to be done next.
abbrev pub to_begin : ℕ
to_begin = 0

abbrev pub is_finished : ℕ
is_finished = 1

abbrev pub to_open : ℕ
to_open = 2

abbrev pub has_ended : ℕ
has_ended = 3

abbrev pub too_many_open : ℕ
too_many_open = 4

abbrev pub is_stuck : ℕ
is_stuck = 5

abbrev pub is_broken : ℕ
is_broken = 6

abbrev pub state_of : (values returns : List ℕ) → StageInNumbers → State
state_of values returns s = record { words = values; returns = returns; calls = s.calls; tree = s.tree; known = s.known; end = s.end }

-- The turn that a stage and the lent words stand for, with the result that is missing where the
-- stage is broken.
unfoldable pub turn_of : Missing → (values returns : List ℕ) → StageInNumbers → Turn
turn_of m values returns s =
    elim (eqb s.mode to_begin) [
      | true ↦ begin s.node (state_of values returns s)
      | false ↦
          elim (eqb s.mode is_finished) [
            | true ↦ finished s.node s.number (state_of values returns s)
            | false ↦
                elim (eqb s.mode to_open) [
                  | true ↦ opens s.node (state_of values returns s)
                  | false ↦
                      elim (eqb s.mode has_ended) [
                        | true ↦ ended s.number
                        | false ↦
                            elim (eqb s.mode too_many_open) [
                              | true ↦ deep s.node
                              | false ↦ elim (eqb s.mode is_broken) [ true ↦ broken m.op m.i m.j s.node | false ↦ stuck ]
                            ]
                      ]
                ]
          ]
    ]

-- The same frame, with something else to be done next.
abbrev pub staged : StageInNumbers → ℕ → ℕ → ℕ → StageInNumbers
staged s mode r number =
    record { mode = mode; node = r; number = number; calls = s.calls; tree = s.tree; known = s.known; end = s.end; written = s.written }

-- The same stage, with so many bytes written.
abbrev pub with_written : StageInNumbers → ℕ → StageInNumbers
with_written s at =
    record { mode = s.mode; node = s.node; number = s.number; calls = s.calls; tree = s.tree; known = s.known; end = s.end; written = at }

-- ---- one step

-- The frame of a state, with this to be done next and so many bytes written.
abbrev pub in_state : State → (mode r number written : ℕ) → StageInNumbers
in_state t mode r number written =
    record { mode = mode; node = r; number = number; calls = t.calls; tree = t.tree; known = t.known; end = t.end; written = written }

-- The stage of a turn that follows the stage s. A turn without a state leaves the frame as it was,
-- and one without a record the record.
unfoldable pub stage_of : StageInNumbers → Turn → StageInNumbers
stage_of s (begin r t) = in_state t to_begin r 0 s.written
stage_of s (finished r x t) = in_state t is_finished r x s.written
stage_of s (opens r t) = in_state t to_open r 0 s.written
stage_of s (ended x) = staged s has_ended 0 x
stage_of s (deep r) = staged s too_many_open r 0
stage_of s (broken op i j r) = staged s is_broken r 0
stage_of s stuck = staged s is_stuck s.node 0

-- A step from the stage s to the turn t: the stage r and the words after it (primed). The words
-- keep their number.
pub record Reaches (t : Turn) (values values' returns returns' : List ℕ) (s r : StageInNumbers) : Type 0 where
  pub stage : r ≡ stage_of s t
  pub words : values' ≡ words_of values t
  pub returns_are : returns' ≡ returns_of returns t
  pub words_long : length values' ≡ length values
  pub returns_long : length returns' ≡ length returns

-- ---- the numbers of a stage

-- The mode of what is to be done next.
abbrev pub mode_of : Next → ℕ
mode_of (Begin r) = to_begin
mode_of (Finished r x) = is_finished
mode_of (Open r) = to_open
mode_of (Ended x) = has_ended
mode_of (Deep r) = too_many_open
mode_of (Stuck r) = is_stuck
mode_of (Broken r) = is_broken

-- The numbers of a stage: 0 where it has no record, or no number.
abbrev pub numbers_of : Stage → StageInNumbers
numbers_of s =
    record {
      mode = mode_of s.next;
      node = node_of s.next;
      number = number_of s.next;
      calls = s.calls;
      tree = s.tree;
      known = s.known;
      end = s.end;
      written = s.written;
    }

-- The frame of a stage in numbers, with something to be done next in place of these.
abbrev pub with_next : StageInNumbers → Next → Stage
with_next s next =
    record { next = next; calls = s.calls; tree = s.tree; known = s.known; end = s.end; written = s.written }
