-- What a stage stands for: a law for each thing that is next; and what a step that reaches a turn
-- leaves.
use Prim.Native.Nat.{ℕ}
use mathlib.Core.List.{List}
use mathlib.Core.Bool.{true, false}
use mathlib.Core.Logic.{◌≢◌}
use mathlib.Core.Path.{◌≡◌, refl}
use lib.ListN.{set, length-set}
use Rattle.formats.specs.Arithmetic.{Op}
use Rattle.stepwise.specs.Inner.Steps.{Turn, begin, finished, opens, ended, deep, broken, stuck}
use Rattle.stages.specs.declared.Stage.{Stage}
use Rattle.stages.specs.declared.Next.{Next}
use Rattle.stages.specs.declared.Next.TheVariants.{Begin, Finished, Open, Ended, Deep, Stuck, Broken}
use Rattle.stages.specs.Inner.Stages.{to_begin, is_finished, to_open, node_of, number_of, state_of, Missing, turn_of, staged, with_written, stage_of, words_of, returns_of, missing_in, Reaches}

-- ---- the tests of what is next

pub begin_next : (n : Next) → to_begin n ≡ true → n ≡ Begin (node_of n)
begin_next (Begin r) e = refl
begin_next _ e = cc

pub begin_false : (n : Next) → ((r : ℕ) → n ≢ Begin r) → to_begin n ≡ false
begin_false (Begin r) h = absurd (h r refl)
begin_false _ h = refl

pub finished_next : (n : Next) → is_finished n ≡ true → n ≡ Finished (node_of n) (number_of n)
finished_next (Finished r x) e = refl
finished_next _ e = cc

pub finished_false : (n : Next) → ((r x : ℕ) → n ≢ Finished r x) → is_finished n ≡ false
finished_false (Finished r x) h = absurd (h r x refl)
finished_false _ h = refl

pub open_next : (n : Next) → to_open n ≡ true → n ≡ Open (node_of n)
open_next (Open r) e = refl
open_next _ e = cc

pub open_false : (n : Next) → ((r : ℕ) → n ≢ Open r) → to_open n ≡ false
open_false (Open r) h = absurd (h r refl)
open_false _ h = refl

-- ---- the turn of a stage

module _ (m : Missing) (values returns : List ℕ) (s : Stage) where
  pub turn_begin : (r : ℕ) → s.next ≡ Begin r → turn_of m values returns s ≡ begin r (state_of values returns s)
  unfolding turn_of
  turn_begin r e = rw (turn_of, e)

  pub turn_finished : (r x : ℕ) → s.next ≡ Finished r x → turn_of m values returns s ≡ finished r x (state_of values returns s)
  unfolding turn_of
  turn_finished r x e = rw (turn_of, e)

  pub turn_open : (r : ℕ) → s.next ≡ Open r → turn_of m values returns s ≡ opens r (state_of values returns s)
  unfolding turn_of
  turn_open r e = rw (turn_of, e)

  pub turn_ended : (x : ℕ) → s.next ≡ Ended x → turn_of m values returns s ≡ ended x
  unfolding turn_of
  turn_ended x e = rw (turn_of, e)

  pub turn_deep : (r : ℕ) → s.next ≡ Deep r → turn_of m values returns s ≡ deep r
  unfolding turn_of
  turn_deep r e = rw (turn_of, e)

  pub turn_stuck : (r : ℕ) → s.next ≡ Stuck r → turn_of m values returns s ≡ stuck
  unfolding turn_of
  turn_stuck r e = rw (turn_of, e)

  -- the same of what is next and none of the others
  pub turn_none :
      ((r : ℕ) → s.next ≢ Begin r)
      → ((r x : ℕ) → s.next ≢ Finished r x)
      → ((r : ℕ) → s.next ≢ Open r)
      → ((x : ℕ) → s.next ≢ Ended x)
      → ((r : ℕ) → s.next ≢ Deep r)
      → ((r : ℕ) → s.next ≢ Broken r)
      → turn_of m values returns s ≡ stuck
  unfolding turn_of
  turn_none a b c d e f = by s.next refl
    where
      by : (n : Next) → s.next ≡ n → turn_of m values returns s ≡ stuck
      by (Begin r) is = absurd (a r is)
      by (Finished r x) is = absurd (b r x is)
      by (Open r) is = absurd (c r is)
      by (Ended x) is = absurd (d x is)
      by (Deep r) is = absurd (e r is)
      by (Broken r) is = absurd (f r is)
      by _ is = rw (turn_of, is)

  pub turn_broken : (r : ℕ) → s.next ≡ Broken r → turn_of m values returns s ≡ broken m.op m.i m.j r
  unfolding turn_of
  turn_broken r e = rw (turn_of, e)

-- what is to be done next does not depend on the bytes written
pub turn_written : (m : Missing) (values returns : List ℕ) (s : Stage) (at : ℕ) → turn_of m values returns (with_written s at) ≡ turn_of m values returns s
unfolding turn_of
turn_written m values returns s at = refl

-- ---- a step

-- the stage of a turn stands for it
pub turn_again : (values returns : List ℕ) (s : Stage) (t : Turn) → turn_of (missing_in t) (words_of values t) (returns_of returns t) (stage_of s t) ≡ t
unfolding turn_of stage_of words_of returns_of missing_in
turn_again values returns s (begin r t) = refl
turn_again values returns s (finished r x t) = refl
turn_again values returns s (opens r t) = refl
turn_again values returns s (ended x) = refl
turn_again values returns s (deep r) = refl
turn_again values returns s (broken op i j r) = refl
turn_again values returns s stuck = refl

-- the bytes written stay
pub same_written : (s : Stage) (t : Turn) → (stage_of s t).written ≡ s.written
unfolding stage_of
same_written s (begin r t) = refl
same_written s (finished r x t) = refl
same_written s (opens r t) = refl
same_written s (ended x) = refl
same_written s (deep r) = refl
same_written s (broken op i j r) = refl
same_written s stuck = refl

-- ---- what a step reaches

module _ (values returns : List ℕ) (s : Stage) where
  -- the words stay
  pub reach_begin : (r : ℕ) → Reaches (begin r (state_of values returns s)) values values returns returns s (staged s (Begin r))
  unfolding stage_of words_of returns_of
  reach_begin r = record { stage = refl; words = refl; returns_are = refl; words_long = refl; returns_long = refl }

  pub reach_finished : (r x : ℕ) → Reaches (finished r x (state_of values returns s)) values values returns returns s (staged s (Finished r x))
  unfolding stage_of words_of returns_of
  reach_finished r x = record { stage = refl; words = refl; returns_are = refl; words_long = refl; returns_long = refl }

  pub reach_open : (r : ℕ) → Reaches (opens r (state_of values returns s)) values values returns returns s (staged s (Open r))
  unfolding stage_of words_of returns_of
  reach_open r = record { stage = refl; words = refl; returns_are = refl; words_long = refl; returns_long = refl }

  pub reach_ended : (x : ℕ) → Reaches (ended x) values values returns returns s (staged s (Ended x))
  unfolding stage_of words_of returns_of
  reach_ended x = record { stage = refl; words = refl; returns_are = refl; words_long = refl; returns_long = refl }

  pub reach_deep : (r : ℕ) → Reaches (deep r) values values returns returns s (staged s (Deep r))
  unfolding stage_of words_of returns_of
  reach_deep r = record { stage = refl; words = refl; returns_are = refl; words_long = refl; returns_long = refl }

  pub reach_broken : (op : Op) (i j r : ℕ) → Reaches (broken op i j r) values values returns returns s (staged s (Broken r))
  unfolding stage_of words_of returns_of
  reach_broken op i j r = record { stage = refl; words = refl; returns_are = refl; words_long = refl; returns_long = refl }

  pub reach_stuck : Reaches stuck values values returns returns s (staged s (Stuck (node_of s.next)))
  unfolding stage_of words_of returns_of
  reach_stuck = record { stage = refl; words = refl; returns_are = refl; words_long = refl; returns_long = refl }

  -- a number is put on a value word
  pub put_begin : (i y r : ℕ) → Reaches (begin r (state_of (set values i y) returns s)) values (set values i y) returns returns s (staged s (Begin r))
  unfolding stage_of words_of returns_of
  put_begin i y r = record { stage = refl; words = refl; returns_are = refl; words_long = length-set values i y; returns_long = refl }

  pub put_open : (i y r : ℕ) → Reaches (opens r (state_of (set values i y) returns s)) values (set values i y) returns returns s (staged s (Open r))
  unfolding stage_of words_of returns_of
  put_open i y r = record { stage = refl; words = refl; returns_are = refl; words_long = length-set values i y; returns_long = refl }
