-- The walk of the source run, as a function of the table, the input, the fuel and the lent buffers,
-- whatever these hold.
use Rattle.std.specs.Prelude.{ℕ, zero, suc, ◌+◌, ◌*◌, ◌<◌, true, false, List, ◌≡◌, ltb, length, Result as Answer, Ok, Err}
use Rattle.formats.specs.Written.{written}
use Rattle.stepwise.specs.Inner.Steps.{Turn, emitted_first, rising, emitted_last}
use Rattle.refusal.specs.declared.Refusal.TheVariants.{FuelUsedUp, TooManyCalls, OutOfRange}
use Rattle.refusal.specs.declared.Refused.{Refused}
use Rattle.stages.specs.declared.Next.{Next}
use Rattle.stages.specs.declared.Next.TheVariants.{Begin, Ended, Stuck, Broken}
use Rattle.stages.specs.declared.Stage.{Stage}
use Rattle.stages.specs.Inner.Stages.{to_begin, is_finished, to_open, node_of, number_of, state_of, staged, with_written, stage_of, words_of, returns_of}
use Rattle.begin_record.specs.Inner.Begins.{begun_turn}
use Rattle.open_call.specs.Inner.Opens.{opened_turn}
use Rattle.result_bytes.specs.Inner.Bytes.{count_limit, counted}
use Rattle.source_walk.specs.declared.Value.{Value}
use Rattle.source_walk.specs.declared.Walked.{Walked}

-- The lent buffers, and how far the run has come.
pub record Run : Type 0 where
  pub output : List ℕ
  pub values : List ℕ
  pub returns : List ℕ
  pub stage : Stage

abbrev pub run : (output values returns : List ℕ) → Stage → Run
run output values returns s = record { output = output; values = values; returns = returns; stage = s }

-- The same run, with something else to be done next.
abbrev pub run_at : Run → Next → Run
run_at p next = run p.output p.values p.returns (staged p.stage next)

-- The run after a step to this turn, with these bytes written, where they fit, and counted.
abbrev pub stepped : Run → Turn → (bytes : List ℕ) → Run
stepped p t bytes =
    run (written p.output p.stage.written bytes) (words_of p.values t) (returns_of p.returns t)
    (with_written (stage_of p.stage t) (counted p.stage.written (length bytes)))

-- This falls at each step from one finished record to the next.
unfoldable pub weight_of : Stage → ℕ
weight_of s = elim (is_finished s.next) [ true ↦ 1 + 65536 * s.calls + node_of s.next | false ↦ 0 ]

module _ (T input : List ℕ) where
  -- The record r begins.
  unfoldable pub begin_step : ℕ → Run → Run
  begin_step r p = stepped (run_at p (Begin r)) (begun_turn T input r (state_of p.values p.returns p.stage)) (emitted_first T r)

  -- The stage's record is finished.
  unfoldable pub rise_step : Run → Run
  rise_step p =
      stepped p (rising T input (node_of p.stage.next) (number_of p.stage.next) (state_of p.values p.returns p.stage))
      (emitted_last T (node_of p.stage.next) (number_of p.stage.next))

  -- The call at the stage's record opens, if one is to open.
  unfoldable pub open_step : Run → Run
  open_step p =
      elim (to_open p.stage.next) [
        | true ↦
            let t = opened_turn T input (node_of p.stage.next) (state_of p.values p.returns p.stage) in
            run p.output (words_of p.values t) (returns_of p.returns t) (stage_of p.stage t)
        | false ↦ p
      ]

  -- Up to n steps while records are finished. If the weight does not fall at a step, the walk is
  -- stuck there; with a program's rows this never happens.
  unfoldable pub climbing : ℕ → Run → Run
  climbing zero p = p
  climbing (suc n) p =
      elim (is_finished p.stage.next) [
        | true ↦
            elim (ltb (weight_of (rise_step p).stage) (weight_of p.stage)) [
              | true ↦ climbing n (rise_step p)
              | false ↦ run (rise_step p).output (rise_step p).values (rise_step p).returns (staged (rise_step p).stage (Stuck 0))
            ]
        | false ↦ p
      ]

  -- All steps while records are finished: the weight falls at each, so it bounds their number.
  abbrev pub climbed : Run → Run
  climbed p = climbing (weight_of p.stage) p

  -- One expression begins, and the walk goes on until the next one is to begin.
  abbrev pub turned_from : ℕ → Run → Run
  turned_from r p = open_step (climbed (begin_step r p))

  -- .. with the stage's record.
  abbrev pub turned : Run → Run
  turned p = turned_from (node_of p.stage.next) p

-- ---- the whole walk

-- What a walk that stops at this stage comes to. A program's rows lead to no stuck stage, so a walk
-- that has neither ended nor come to an operation without a result has come to a call too many.
unfoldable pub outcome_of : Stage → Answer Value Refused
outcome_of s =
    elim s.next [
      | Ended x ↦ Ok (record { written = s.written; number = x })
      | Broken r ↦ Err (record { why = OutOfRange; position = r })
      | _ ↦ Err (record { why = TooManyCalls; position = 0 })
    ]

-- The answer of a walk that comes to this after `begun` expressions.
abbrev pub answer_with : Answer Value Refused → (begun : ℕ) → Walked
answer_with outcome begun = record { outcome = outcome; begun = begun }

-- The answer, and the buffers after it.
pub record Ending : Type 0 where
  pub answer : Walked
  pub last : Run

abbrev pub ending : Walked → Run → Ending
ending answer last = record { answer = answer; last = last }

-- The walk with `fuel` left, after `begun` expressions.
unfoldable pub walking : (T input : List ℕ) → (fuel begun : ℕ) → Run → Ending
walking T input zero begun p = ending (answer_with (Err (record { why = FuelUsedUp; position = 0 })) begun) p
walking T input (suc fuel) begun p =
    elim (to_begin (turned T input p).stage.next) [
      | true ↦ walking T input fuel (suc begun) (turned T input p)
      | false ↦ ending (answer_with (outcome_of (turned T input p).stage) (suc begun)) (turned T input p)
    ]

-- The stage before the record `first` begins.
abbrev pub first_stage : ℕ → Stage
first_stage first = record { next = Begin first; calls = 0; tree = 0; known = 0; end = 0; written = 0 }

-- The whole walk, from the record `first` on.
abbrev pub walked : (T input : List ℕ) → (first fuel : ℕ) → (output values returns : List ℕ) → Ending
walked T input first fuel output values returns = walking T input fuel 0 (run output values returns (first_stage first))

-- ---- what the functions do

-- The buffers at exit (primed) and the stage are those of a run; buffers keep their lengths.
pub record Moves (q : Run) (output output' values values' returns returns' : List ℕ) (r : Stage) : Type 0 where
  pub is : run output' values' returns' r ≡ q
  pub long_output : length output' ≡ length output
  pub long_values : length values' ≡ length values
  pub long_returns : length returns' ≡ length returns

pub record BeginsOne (T input output output' values values' : List ℕ) (r : ℕ) (s t : Stage) : Type 0 where
  pub moves : (returns : List ℕ) → Moves (begin_step T input r (run output values returns s)) output output' values values' returns returns t

pub record Climbs (T input returns output output' values values' : List ℕ) (s r : Stage) : Type 0 where
  pub moves : Moves (climbed T input (run output values returns s)) output output' values values' returns returns r

pub record OpensOne (T input values values' returns returns' : List ℕ) (s r : Stage) : Type 0 where
  pub moves : (output : List ℕ) → Moves (open_step T input (run output values returns s)) output output values values' returns returns' r

pub record Turns (T input output output' values values' returns returns' : List ℕ) (r : ℕ) (s t : Stage) : Type 0 where
  pub moves : Moves (turned_from T input r (run output values returns s)) output output' values values' returns returns' t

-- The walk: its answer, and every byte and word of the lent buffers. An output is shorter than
-- 2^63.
pub record Walks (T input : List ℕ) (first fuel : ℕ) (output output' values values' returns returns' : List ℕ) (r : Walked) : Type 0 where
  pub answer : r ≡ (walked T input first fuel output values returns).answer
  pub output_is : output' ≡ (walked T input first fuel output values returns).last.output
  pub values_are : values' ≡ (walked T input first fuel output values returns).last.values
  pub returns_are : returns' ≡ (walked T input first fuel output values returns).last.returns
  pub long_values : length values' ≡ length values
  pub long_returns : length returns' ≡ length returns
  pub short : length output < count_limit
