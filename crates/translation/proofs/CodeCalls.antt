-- Calls of the stream run with a checked program's code: the code may have anything after it in its
-- buffer, and the work space is lent. On an input that carries a tree, the course of the run is
-- known (WholeRuns), and with it what the call answers.
use Prim.Native.Nat.{ℕ, zero-le}
use mathlib.Core.List.{List, [], ◌∷◌, ◌++◌}
use mathlib.Core.Logic.{◌≢◌}
use mathlib.Core.Path.{◌≡◌, refl, ap, ◌∙◌}
use borrow.Author.Tests.{le-leb}
use lib.Dec.{lit≤}
use lib.ListN.{length}
use Rattle.formats.specs.Refusals.{fuel_used_up, output_full}
use Rattle.formats.specs.Results.{done}
use Rattle.formats.specs.Tokens.{Tree}
use Rattle.formats.proofs.Results.{done_not}
use Rattle.meaning.specs.Instructions.{held_by}
use Rattle.meaning.specs.Performing.{Setting, State, start}
use Rattle.meaning.specs.Running.{Stop, ended, refused, Run, run, units_of, outcome_of, Ran, ran_to, most_calls, of_code, stream_run}
use Rattle.meaning.specs.OpenCalls.{Reason, refusal_of}
use Rattle.meaning.specs.StreamRun.{StreamCalls}
use Rattle.meaning.specs.Running.{written_by}
use Rattle.meaning.proofs.Calls.{written_ran}
use Rattle.meaning.proofs.Proper.{proper}
use Rattle.meaning.proofs.Runs.{runs}
use Rattle.meaning.proofs.StreamRun.{stream-run}
use Rattle.translation.specs.Templates.{code_of}
use Rattle.translation.specs.Demand3.{Given, run_on}
use Rattle.translation.proofs.Bodies.{passes_one, checked_body}
use Rattle.translation.proofs.Emitted.{emitted}
use Rattle.translation.proofs.Carried.{Carries}
use Rattle.translation.proofs.Courses.{Course, WholeWay, CameTo, out_of_fuel, out_of_space, whole, Came, came}
use Rattle.translation.proofs.Goes.{InputFault}
use Rattle.translation.proofs.Evaluated.{Runnable}
use Rattle.translation.proofs.WholeRuns.{Known, ends_so, stops_so, faults_so, known}

-- Why a run of such code stops. It has ended; its fuel or the space is used up; it is where the
-- evaluation stops; or it has come to a fault of the input, if there can be one.
pub data StopsFor (Faulty : Type 0) : Stop → Type 0 where
  it_ended : {number : ℕ} → StopsFor Faulty (ended number)
  no_fuel : StopsFor Faulty (refused fuel_used_up)
  no_space : StopsFor Faulty (refused output_full)
  at_stop : (why : Reason) → StopsFor Faulty (refused (refusal_of why))
  at_fault : {why : ℕ} → Faulty → InputFault why → StopsFor Faulty (refused why)

-- a run whose course stops for one of these reasons does so too
came_for :
    {Faulty : Type 0} {last : State} {units counts space fuel : ℕ} {why : Stop} {r : Run}
    → StopsFor Faulty why
    → CameTo last units counts why space fuel r
    → StopsFor Faulty r.stop
came_for p (out_of_fuel e u l) = rw e no_fuel
came_for p (out_of_space e l) = rw e no_space
came_for p (whole a l) = rw a.stops p

module _ (given : Given) where
  open given use {program, checked, after_code, values, returns, words_lent, returns_lent}

  abbrev pub code : List ℕ
  code = code_of program ++ after_code

  -- The machine that runs it, on this input.
  abbrev pub on : List ℕ → Setting
  on input = of_code code input 0

  -- The run of a call.
  abbrev pub run_of : (input output : List ℕ) (fuel : ℕ) → Run
  run_of input output fuel = run (of_code code input (length output)) fuel start

  pub call_runs : (input output : List ℕ) (fuel : ℕ) → run_on given input output fuel ≡ ran_to output (run_of input output fuel)
  unfolding stream_run
  call_runs input output fuel = simp (stream_run, le-leb _ _ words_lent, le-leb _ _ returns_lent)

  -- what it has read, its units, its outcome, and what it has written
  pub call_reads : (input output : List ℕ) (fuel : ℕ) → (run_on given input output fuel).answer.bytes_read ≡ (run_of input output fuel).last.read
  call_reads input output fuel = ap (λ (r : Ran). r.answer.bytes_read) (call_runs input output fuel)

  pub call_units : (input output : List ℕ) (fuel : ℕ) → (run_on given input output fuel).answer.units ≡ units_of (run_of input output fuel)
  call_units input output fuel = ap (λ (r : Ran). r.answer.units) (call_runs input output fuel)

  pub call_outcome : (input output : List ℕ) (fuel : ℕ) {why : Stop} → (run_of input output fuel).stop ≡ why
      → (run_on given input output fuel).answer.outcome ≡ outcome_of why (run_on given input output fuel).answer.bytes_read
  call_outcome input output fuel stops = ap (λ (r : Ran). r.answer.outcome) (call_runs input output fuel) ∙ rw (call_reads input output fuel, stops)

  pub call_writes : (input output : List ℕ) (fuel : ℕ) → written_by (run_on given input output fuel) ≡ (run_of input output fuel).last.output
  call_writes input output fuel = ap written_by (call_runs input output fuel) ∙ written_ran runs code output input fuel

  -- what holds of every call
  pub calls : (output : List ℕ) → StreamCalls output (λ input fuel. run_on given input output fuel)
  calls output = stream-run.calls code output values returns

  pub runnable : Runnable program (held_by code)
  runnable = record {
    proper = proper program (passes_one program checked);
    bodies = checked_body program checked;
    emitted = emitted program checked.lawful after_code;
  }

  -- ---- its course

  -- a call goes along the course of its run
  pub goes_along : {input : List ℕ} {why : Stop} (c : Course (on input) start why) (output : List ℕ) (fuel : ℕ)
      → Came c (length output) fuel (run_of input output fuel)
  goes_along c output fuel = came c (length output) fuel zero-le

  -- a call that ended was not refused, so its run has gone the whole way
  refused_not_done : (input output : List ℕ) (fuel : ℕ) {why : ℕ} → (run_of input output fuel).stop ≡ refused why
      → (run_on given input output fuel).answer.outcome ≢ done tt
  unfolding outcome_of
  refused_not_done input output fuel stops e = done_not e (call_outcome input output fuel stops)

  pub done_whole_way :
      {input : List ℕ} {why : Stop} (c : Course (on input) start why) (output : List ℕ) (fuel : ℕ)
      → (run_on given input output fuel).answer.outcome ≡ done tt
      → WholeWay c.last c.units c.counts why (run_of input output fuel)
  done_whole_way {input} c output fuel e = elim (goes_along c output fuel) [
    | out_of_fuel stops u l ↦ absurd (refused_not_done input output fuel stops e)
    | out_of_space stops l ↦ absurd (refused_not_done input output fuel stops e)
    | whole a l ↦ a
  ]

  -- a call whose course is refused does not end
  pub refused_call : {input : List ℕ} {why : ℕ} → Course (on input) start (refused why) → (output : List ℕ) (fuel : ℕ)
      → (run_on given input output fuel).answer.outcome ≢ done tt
  refused_call {input} c output fuel e = refused_not_done input output fuel (done_whole_way c output fuel e).stops e

  -- What is known of the course on an input that carries this tree.
  abbrev pub CourseOn : (Faulty : Type 0) (input : List ℕ) (end : ℕ) (t : Tree) → Type 0
  CourseOn Faulty input end t = Known Faulty (on input) program end (lit≤ tt) runnable t most_calls

  pub course_on : {Faulty : Type 0} (input : List ℕ) (end : ℕ) (t : Tree) → Carries Faulty input end 0 (t ∷ []) → CourseOn Faulty input end t
  course_on {Faulty} input end t carries = known Faulty (on input) program end (lit≤ tt) runnable t 1023 carries refl

  -- such a run stops for one of these reasons
  pub stops_for : {Faulty : Type 0} {input : List ℕ} {end : ℕ} {t : Tree} → CourseOn Faulty input end t → (output : List ℕ) (fuel : ℕ)
      → StopsFor Faulty (run_of input output fuel).stop
  stops_for (ends_so n v evaluated c units counts bytes read) output fuel = came_for it_ended (goes_along c output fuel)
  stops_for (stops_so n why q stops c units bytes) output fuel = came_for (at_stop why) (goes_along c output fuel)
  stops_for (faults_so why f w c) output fuel = came_for (at_fault f w) (goes_along c output fuel)
