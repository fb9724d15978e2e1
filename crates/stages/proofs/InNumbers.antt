-- What a stage in numbers stands for: a law for each mode; what a step that reaches a turn leaves;
-- and that a step over a stage is one over its numbers.
use Prim.Native.Nat.{ℕ}
use mathlib.Core.List.{List}
use mathlib.Core.Logic.{◌≢◌}
use mathlib.Core.Path.{◌≡◌, refl, ap, ◌∙◌}
use borrow.Author.Tests.{eq-eqb, ne_eqb}
use lib.ListN.{set, length-set}
use Rattle.formats.specs.Arithmetic.{Op}
use Rattle.stepwise.specs.Inner.Steps.{Turn, begin, finished, opens, ended, deep, broken, stuck}
use Rattle.stepwise.proofs.Steps.{off}
use Rattle.stages.specs.declared.Next.{Next}
use Rattle.stages.specs.declared.Next.TheVariants.{Begin, Finished, Open, Ended, Deep, Stuck, Broken}
use Rattle.stages.specs.declared.Stage.{Stage}
use Rattle.stages.specs.declared.StageInNumbers.{StageInNumbers}
use Rattle.stages.specs.Inner.Stages.{node_of, Missing, words_of, returns_of, missing_in}
use Rattle.stages.specs.Inner.Stages as Of_next
use Rattle.stages.specs.Inner.InNumbers.{to_begin, is_finished, to_open, has_ended, too_many_open, is_stuck, is_broken, state_of, turn_of, staged, with_written, stage_of, Reaches, numbers_of, with_next}

-- ---- the turn of a stage

module _ (m : Missing) (values returns : List ℕ) (s : StageInNumbers) where
  pub turn_begin : s.mode ≡ to_begin → turn_of m values returns s ≡ begin s.node (state_of values returns s)
  unfolding turn_of
  turn_begin e = rw (turn_of, eq-eqb _ _ e)

  pub turn_finished : s.mode ≡ is_finished → turn_of m values returns s ≡ finished s.node s.number (state_of values returns s)
  unfolding turn_of
  turn_finished e = rw (turn_of, off _ 1 0 e refl, eq-eqb _ _ e)

  pub turn_open : s.mode ≡ to_open → turn_of m values returns s ≡ opens s.node (state_of values returns s)
  unfolding turn_of
  turn_open e = rw (turn_of, off _ 2 0 e refl, off _ 2 1 e refl, eq-eqb _ _ e)

  pub turn_ended : s.mode ≡ has_ended → turn_of m values returns s ≡ ended s.number
  unfolding turn_of
  turn_ended e = rw (turn_of, off _ 3 0 e refl, off _ 3 1 e refl, off _ 3 2 e refl, eq-eqb _ _ e)

  pub turn_deep : s.mode ≡ too_many_open → turn_of m values returns s ≡ deep s.node
  unfolding turn_of
  turn_deep e = rw (turn_of, off _ 4 0 e refl, off _ 4 1 e refl, off _ 4 2 e refl, off _ 4 3 e refl, eq-eqb _ _ e)

  pub turn_broken : s.mode ≡ is_broken → turn_of m values returns s ≡ broken m.op m.i m.j s.node
  unfolding turn_of
  turn_broken e = rw (turn_of, off _ 6 0 e refl, off _ 6 1 e refl, off _ 6 2 e refl, off _ 6 3 e refl, off _ 6 4 e refl, eq-eqb _ _ e)

  -- no other mode is one of these
  pub turn_none :
      s.mode ≢ to_begin
      → s.mode ≢ is_finished
      → s.mode ≢ to_open
      → s.mode ≢ has_ended
      → s.mode ≢ too_many_open
      → s.mode ≢ is_broken
      → turn_of m values returns s ≡ stuck
  unfolding turn_of
  turn_none a b c d e f = rw (turn_of, ne_eqb _ _ a, ne_eqb _ _ b, ne_eqb _ _ c, ne_eqb _ _ d, ne_eqb _ _ e, ne_eqb _ _ f)

-- what is to be done next does not depend on the bytes written
pub turn_written : (m : Missing) (values returns : List ℕ) (s : StageInNumbers) (at : ℕ) → turn_of m values returns (with_written s at) ≡ turn_of m values returns s
unfolding turn_of
turn_written m values returns s at = refl

-- ---- a step

-- the stage of a turn stands for it
pub turn_again : (values returns : List ℕ) (s : StageInNumbers) (t : Turn) → turn_of (missing_in t) (words_of values t) (returns_of returns t) (stage_of s t) ≡ t
unfolding turn_of stage_of words_of returns_of missing_in
turn_again values returns s (begin r t) = refl
turn_again values returns s (finished r x t) = refl
turn_again values returns s (opens r t) = refl
turn_again values returns s (ended x) = refl
turn_again values returns s (deep r) = refl
turn_again values returns s (broken op i j r) = refl
turn_again values returns s stuck = refl

-- the bytes written stay
pub same_written : (s : StageInNumbers) (t : Turn) → (stage_of s t).written ≡ s.written
unfolding stage_of
same_written s (begin r t) = refl
same_written s (finished r x t) = refl
same_written s (opens r t) = refl
same_written s (ended x) = refl
same_written s (deep r) = refl
same_written s (broken op i j r) = refl
same_written s stuck = refl

-- ---- what a step reaches

module _ (values returns : List ℕ) (s : StageInNumbers) where
  -- the words stay
  pub reach_begin : (r : ℕ) → Reaches (begin r (state_of values returns s)) values values returns returns s (staged s to_begin r 0)
  unfolding stage_of words_of returns_of
  reach_begin r = record { stage = refl; words = refl; returns_are = refl; words_long = refl; returns_long = refl }

  pub reach_finished : (r x : ℕ) → Reaches (finished r x (state_of values returns s)) values values returns returns s (staged s is_finished r x)
  unfolding stage_of words_of returns_of
  reach_finished r x = record { stage = refl; words = refl; returns_are = refl; words_long = refl; returns_long = refl }

  pub reach_open : (r : ℕ) → Reaches (opens r (state_of values returns s)) values values returns returns s (staged s to_open r 0)
  unfolding stage_of words_of returns_of
  reach_open r = record { stage = refl; words = refl; returns_are = refl; words_long = refl; returns_long = refl }

  pub reach_ended : (x : ℕ) → Reaches (ended x) values values returns returns s (staged s has_ended 0 x)
  unfolding stage_of words_of returns_of
  reach_ended x = record { stage = refl; words = refl; returns_are = refl; words_long = refl; returns_long = refl }

  pub reach_deep : (r : ℕ) → Reaches (deep r) values values returns returns s (staged s too_many_open r 0)
  unfolding stage_of words_of returns_of
  reach_deep r = record { stage = refl; words = refl; returns_are = refl; words_long = refl; returns_long = refl }

  pub reach_broken : (op : Op) (i j r : ℕ) → Reaches (broken op i j r) values values returns returns s (staged s is_broken r 0)
  unfolding stage_of words_of returns_of
  reach_broken op i j r = record { stage = refl; words = refl; returns_are = refl; words_long = refl; returns_long = refl }

  pub reach_stuck : Reaches stuck values values returns returns s (staged s is_stuck s.node 0)
  unfolding stage_of words_of returns_of
  reach_stuck = record { stage = refl; words = refl; returns_are = refl; words_long = refl; returns_long = refl }

  -- a number is put on a value word
  pub put_begin : (i y r : ℕ) → Reaches (begin r (state_of (set values i y) returns s)) values (set values i y) returns returns s (staged s to_begin r 0)
  unfolding stage_of words_of returns_of
  put_begin i y r = record { stage = refl; words = refl; returns_are = refl; words_long = length-set values i y; returns_long = refl }

  pub put_open : (i y r : ℕ) → Reaches (opens r (state_of (set values i y) returns s)) values (set values i y) returns returns s (staged s to_open r 0)
  unfolding stage_of words_of returns_of
  put_open i y r = record { stage = refl; words = refl; returns_are = refl; words_long = length-set values i y; returns_long = refl }

-- ---- the numbers of a stage

-- the stage in numbers of each thing that is next
module _ (s : Stage) where
  abbrev numbers : (mode r number : ℕ) → StageInNumbers
  numbers mode r number = staged (numbers_of s) mode r number

  pub numbers_begin : (r : ℕ) → s.next ≡ Begin r → numbers to_begin r 0 ≡ numbers_of s
  numbers_begin r e = rw e refl

  pub numbers_finished : (r x : ℕ) → s.next ≡ Finished r x → numbers is_finished r x ≡ numbers_of s
  numbers_finished r x e = rw e refl

  pub numbers_open : (r : ℕ) → s.next ≡ Open r → numbers to_open r 0 ≡ numbers_of s
  numbers_open r e = rw e refl

  pub numbers_ended : (x : ℕ) → s.next ≡ Ended x → numbers has_ended 0 x ≡ numbers_of s
  numbers_ended x e = rw e refl

  pub numbers_deep : (r : ℕ) → s.next ≡ Deep r → numbers too_many_open r 0 ≡ numbers_of s
  numbers_deep r e = rw e refl

  pub numbers_stuck : (r : ℕ) → s.next ≡ Stuck r → numbers is_stuck r 0 ≡ numbers_of s
  numbers_stuck r e = rw e refl

  pub numbers_broken : (r : ℕ) → s.next ≡ Broken r → numbers is_broken r 0 ≡ numbers_of s
  numbers_broken r e = rw e refl

pub ruleset numbered = (numbers_begin, numbers_finished, numbers_open, numbers_ended, numbers_deep, numbers_stuck, numbers_broken)

-- they stand for the same turn
pub same_turn : (m : Missing) (values returns : List ℕ) (s : Stage) → turn_of m values returns (numbers_of s) ≡ Of_next.turn_of m values returns s
unfolding turn_of Of_next.turn_of
same_turn m values returns s = by s.next
  where
    frame : Next → Stage
    frame n = Of_next.staged s n

    by : (n : Next) → turn_of m values returns (numbers_of (frame n)) ≡ Of_next.turn_of m values returns (frame n)
    by (Begin r) = refl
    by (Finished r x) = refl
    by (Open r) = refl
    by (Ended x) = refl
    by (Deep r) = refl
    by (Stuck r) = refl
    by (Broken r) = refl

-- a turn leaves the same numbers, where the record is the stage's
pub same_stage : (s : StageInNumbers) (n : Next) (t : Turn) → node_of n ≡ s.node → numbers_of (Of_next.stage_of (with_next s n) t) ≡ stage_of s t
unfolding stage_of Of_next.stage_of
same_stage s n (begin r t) e = refl
same_stage s n (finished r x t) e = refl
same_stage s n (opens r t) e = refl
same_stage s n (ended x) e = refl
same_stage s n (deep r) e = refl
same_stage s n (broken op i j r) e = refl
same_stage s n stuck e = rw e refl

-- so a step over a stage is one over its numbers
pub same_step :
    (t : Turn) (values values' returns returns' : List ℕ) (s : StageInNumbers) (n : Next) (r : Stage)
    → node_of n ≡ s.node
    → Of_next.Reaches t values values' returns returns' (with_next s n) r
    → Reaches t values values' returns returns' s (numbers_of r)
same_step t values values' returns returns' s n r e step =
    record {
      stage = ap numbers_of step.stage ∙ same_stage s n t e;
      words = step.words;
      returns_are = step.returns_are;
      words_long = step.words_long;
      returns_long = step.returns_long;
    }
