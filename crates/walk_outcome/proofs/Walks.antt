-- The whole walk: its answer, and what it leaves in the output, report the outcome.
use Prim.Native.Nat.{ℕ, zero, suc, ◌+◌, ◌≤◌}
use mathlib.Core.Bool.{Bool, true, false}
use mathlib.Core.List.{List, []}
use mathlib.Core.Path.{◌≡◌, refl, sym, ap, ◌∙◌}
use native.Mathlib.Omega.{arith}
use lib.ListN.{length}
use Rattle.formats.specs.Arithmetic.{Op}
use Rattle.formats.specs.Written.{written}
use Rattle.formats.proofs.Written.{written_none}
use Rattle.std.specs.Prelude.{Ok, Err}
use Rattle.refusal.specs.Inner.Numbers.{number}
use Rattle.refusal.specs.declared.Refused.{Refused}
use Rattle.meaning.specs.OpenCalls.{Reason, no_fuel, no_call, no_result, refusal_of, Outcome, gives, stops, begins, after_begun, with_fuel}
use Rattle.meaning.specs.SourceRun.{position_of}
use Rattle.stepwise.specs.Inner.Steps.{State, begin, ended, deep, broken, stuck}
use Rattle.stepwise.specs.Inner.Outcomes.{Reported, reported, Comes, at_begin, at-end, at_deep, at_broken}
use Rattle.stages.specs.declared.Stage.{Stage}
use Rattle.stages.specs.declared.Next.{Next}
use Rattle.stages.specs.declared.Next.TheVariants.{Begin, Finished, Open, Ended, Deep, Stuck, Broken}
use Rattle.stages.specs.Inner.Stages.{to_begin, is_finished, to_open, Missing, none_missing, turn_of}
use Rattle.stages.proofs.Stages.{begin_next, turn_begin, turn_ended, turn_deep, turn_stuck, turn_broken}
use Rattle.source_walk.specs.declared.Value.{Value}
use Rattle.source_walk.specs.declared.Walked.{Walked}
use Rattle.source_walk.specs.Inner.Loop.{Run, run, turned, outcome_of, answer_with, Ending, ending, walking, first_stage, Walks}
use Rattle.walk_outcome.specs.Inner.Outcomes.{Counts, Reports, reports_value, reports_stop}
use Rattle.walk_outcome.proofs.Holding.{Holding, turn_holds, turn_settles}

-- ---- fuel

within_gives : {A : Type 0} (fuel : ℕ) (x : A) → with_fuel fuel (gives x) ≡ gives x
unfolding with_fuel
within_gives zero x = refl
within_gives (suc fuel) x = refl

within_stops : {A : Type 0} (fuel : ℕ) (why : Reason) (r : ℕ) → with_fuel {A = A} fuel (stops why r) ≡ stops why r
unfolding with_fuel
within_stops zero why r = refl
within_stops (suc fuel) why r = refl

-- ---- the end

module _ (T input : List ℕ) where
  -- an ended run gives its number and what is written
  comes_ended : {out : List ℕ} {x : ℕ} {o : Outcome Reported} → Comes T input out (ended x) o → o ≡ gives (reported x out)
  comes_ended at-end = refl

  comes_deep : {out : List ℕ} {r : ℕ} {o : Outcome Reported} → Comes T input out (deep r) o → o ≡ stops no_call r
  comes_deep at_deep = refl

  comes_broken : {out : List ℕ} {op : Op} {i j r : ℕ} {o : Outcome Reported} → Comes T input out (broken op i j r) o → o ≡ stops (no_result op i j) r
  comes_broken at_broken = refl

  comes_stuck : {out : List ℕ} {o : Outcome Reported} {A : Type 0} → Comes T input out stuck o → A
  comes_stuck c = elim c [ ]

  -- an expression that is to begin does
  record IsBegun (o : Outcome Reported) : Type 0 where
    rest : Outcome Reported
    is : o ≡ begins rest

  comes_begins : {out : List ℕ} {r : ℕ} {st : State} {o : Outcome Reported} → Comes T input out (begin r st) o → IsBegun o
  comes_begins (at_begin {o = o} p few found c) = record { rest = o; is = refl }

  -- a turn after which no record is to begin or is finished: the run has ended, an operation has no
  -- result, or a call is one too many
  data Settled (out : List ℕ) (s : Stage) (o : Outcome Reported) : Type 0 where
    settled_end : (x : ℕ) → s.next ≡ Ended x → o ≡ gives (reported x out) → Settled out s o
    settled_broken : (m : Missing) (r : ℕ) → s.next ≡ Broken r → o ≡ stops (no_result m.op m.i m.j) r → Settled out s o
    settled_deep : (r : ℕ) → s.next ≡ Deep r → o ≡ stops no_call r → Settled out s o

  module _ (m : Missing) (values returns out : List ℕ) (s : Stage) (o : Outcome Reported) (come : Comes T input out (turn_of m values returns s) o) where
    settled : to_begin s.next ≡ false → is_finished s.next ≡ false → to_open s.next ≡ false → Settled out s o
    settled a b c = by s.next refl a b c
      where
        by : (n : Next) → s.next ≡ n → to_begin n ≡ false → is_finished n ≡ false → to_open n ≡ false → Settled out s o
        by (Begin r) e a b c = cc
        by (Finished r x) e a b c = cc
        by (Open r) e a b c = cc
        by (Ended x) e a b c = settled_end x e (comes_ended (rw (turn_ended m values returns s x e) at come))
        by (Deep r) e a b c = settled_deep r e (comes_deep (rw (turn_deep m values returns s r e) at come))
        by (Stuck r) e a b c = comes_stuck (rw (turn_stuck m values returns s r e) at come)
        by (Broken r) e a b c = settled_broken m r e (comes_broken (rw (turn_broken m values returns s r e) at come))

-- ---- the walk

-- The walk reports the outcome, where `begun` expressions have begun before.
data From (begun : ℕ) (o : Outcome Reported) (output₀ : List ℕ) (e : Ending) : Type 0 where
  from_value :
      (k : ℕ) (v : Value) (out : List ℕ)
      → e.answer.begun ≡ begun + k
      → e.answer.outcome ≡ Ok v
      → o ≡ after_begun k (gives (reported v.number out))
      → Counts v.written out
      → (length out ≤ length output₀ → e.last.output ≡ written output₀ 0 out)
      → From begun o output₀ e
  from_stop :
      (k : ℕ) (why : Reason) (at : ℕ) (refused : Refused)
      → e.answer.begun ≡ begun + k
      → e.answer.outcome ≡ Err refused
      → o ≡ after_begun k (stops why at)
      → number refused.why ≡ refusal_of why
      → refused.position ≡ position_of why at
      → From begun o output₀ e

module _ (T input output₀ : List ℕ) where
  -- one expression more
  one_more : (begun : ℕ) (o : Outcome Reported) (e : Ending) → From (suc begun) o output₀ e → From begun (begins o) output₀ e
  unfolding after_begun
  one_more begun o e (from_value k v out count ends is counts wrote) = from_value (suc k) v out (omega arith) ends (ap begins is) counts wrote
  one_more begun o e (from_stop k why at refused count ends is number place) = from_stop (suc k) why at refused (omega arith) ends (ap begins is) number place

  -- a turn after which no expression begins
  stops_there : (fuel begun : ℕ) (q : Run) (rest : Outcome Reported) → Holding T input output₀ q rest → to_begin q.stage.next ≡ false
      → (is_finished q.stage.next ≡ false) × (to_open q.stage.next ≡ false)
      → From (suc begun) (with_fuel fuel rest) output₀ (ending (answer_with (outcome_of q.stage) (suc begun)) q)
  unfolding after_begun outcome_of refusal_of position_of
  stops_there fuel begun q rest h other settles =
      by (settled T input h.missing q.values q.returns h.out q.stage rest h.comes other settles.0 settles.1)
    where
      by : Settled T input h.out q.stage rest → From (suc begun) (with_fuel fuel rest) output₀ (ending (answer_with (outcome_of q.stage) (suc begun)) q)
      by (settled_end x next is) =
          rw (outcome_of, next) (from_value 0 _ h.out (omega arith) refl (ap (with_fuel fuel) is ∙ within_gives fuel _) h.counts h.wrote)
      by (settled_broken m r next is) =
          rw (outcome_of, next)
          (from_stop 0 (no_result m.op m.i m.j) r _ (omega arith) refl
          (ap (with_fuel fuel) is ∙ within_stops fuel (no_result m.op m.i m.j) r) refl refl)
      by (settled_deep r next is) =
          rw (outcome_of, next)
          (from_stop 0 no_call r _ (omega arith) refl (ap (with_fuel fuel) is ∙ within_stops fuel no_call r) refl refl)

  from : (fuel begun : ℕ) (p : Run) (o : Outcome Reported) → to_begin p.stage.next ≡ true → Holding T input output₀ p o
      → From begun (with_fuel fuel o) output₀ (walking T input fuel begun p)
  unfolding walking with_fuel after_begun refusal_of position_of
  from zero begun p o going h =
      let b = comes_begins T input (rw (turn_begin h.missing p.values p.returns p.stage _ (begin_next _ going)) at h.comes) in
      rw b.is (from_stop 0 no_fuel 0 _ (omega arith) refl (none_yet b.rest) refl refl)
    where
      none_yet : (rest : Outcome Reported) → with_fuel 0 (begins rest) ≡ after_begun 0 (stops no_fuel 0)
      none_yet rest = refl
  from (suc fuel) begun p o going h =
      let b = turn_holds T input output₀ p o going h in
      rw b.begun
      (one_more begun (with_fuel fuel b.rest) (walking T input (suc fuel) begun p)
      (by fuel begun p b.rest b.holds (to_begin (turned T input p).stage.next) refl (λ going. from fuel (suc begun) (turned T input p) b.rest going b.holds)))
    where
      by : (fuel begun : ℕ) (p : Run) (rest : Outcome Reported) → Holding T input output₀ (turned T input p) rest
          → (c : Bool) → to_begin (turned T input p).stage.next ≡ c
          → (to_begin (turned T input p).stage.next ≡ true → From (suc begun) (with_fuel fuel rest) output₀ (walking T input fuel (suc begun) (turned T input p)))
          → From (suc begun) (with_fuel fuel rest) output₀
          (elim c [
            | true ↦ walking T input fuel (suc begun) (turned T input p)
            | false ↦ ending (answer_with (outcome_of (turned T input p).stage) (suc begun)) (turned T input p)
          ])
      by fuel begun p rest holds true e next = next e
      by fuel begun p rest holds false e next = stops_there fuel begun (turned T input p) rest holds e (turn_settles T input p)

-- an ending's answer and output
ends_so : (o : Outcome Reported) (output : List ℕ) (e : Ending) → From 0 o output e → Reports o output e.last.output e.answer
ends_so o output e (from_value k v out count ends is counts wrote) =
    let same : k ≡ e.answer.begun = omega arith in
    reports_value v out ends (is ∙ ap (λ n. after_begun n (gives (reported v.number out))) same) counts wrote
ends_so o output e (from_stop k why at refused count ends is number place) =
    let same : k ≡ e.answer.begun = omega arith in
    reports_stop why at refused ends (is ∙ ap (λ n. after_begun n (stops why at)) same) number place

pub walk_reports :
    (T input : List ℕ) (first fuel : ℕ) (output output' values values' returns returns' : List ℕ) (r : Walked)
    → Walks T input first fuel output output' values values' returns returns' r
    → (o : Outcome Reported)
    → Comes T input [] (begin first (record { words = values; returns = returns; calls = 0; tree = 0; known = 0; end = 0 })) o
    → Reports (with_fuel fuel o) output output' r
walk_reports T input first fuel output output' values values' returns returns' r w o c =
    let p = run output values returns (first_stage first) in
    rw (w.answer, w.output_is)
    (ends_so (with_fuel fuel o) output (walking T input fuel 0 p)
    (from T input output fuel 0 p o refl
    (record {
      out = [];
      missing = none_missing;
      comes = rw (turn_begin none_missing values returns (first_stage first) first refl) c;
      counts = record { few = λ h. refl; many = λ h. absurd (omega arith) };
      wrote = λ h. sym (written_none output 0);
      long = refl;
      short = w.short;
    })))
