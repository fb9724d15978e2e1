-- What holds of every run of a checked program's code, besides demand 3: the proof of
-- specs/EveryRun.antt.
--
-- Any input begins with a tree's tokens or has a fault (AnyInput), and in both cases the course of
-- the run is known. It is never 19; and with a fault the run never ends: the pending trees are then
-- carried up to an offset that no run can come to.
use Prim.Native.Nat.{ℕ, suc, ◌≤◌, ◌<◌}
use mathlib.Core.List.{List, [], ◌∷◌, ◌++◌}
use mathlib.Core.Logic.{◌≢◌, inl, inr}
use mathlib.Core.Option.{some}
use mathlib.Core.Path.{◌≡◌, refl, sym, ap, subst, ◌∙◌}
use native.Mathlib.Nat.{add-zero, le_refl}
use native.Mathlib.Omega.{arith}
use lib.ListN.{length, take}
use lib.Seq.{take-append_seam}
use Rattle.formats.specs.Buffers.{Opens}
use Rattle.formats.specs.Numbers.{Bytes}
use Rattle.formats.specs.Records.{nth}
use Rattle.formats.specs.Arithmetic.{Op}
use Rattle.formats.specs.Refusals.{fuel_used_up, output_full, input_ended, not_a_tag, too_many_calls, cannot_perform, out_of_range}
use Rattle.formats.specs.Results.{done, refusal}
use Rattle.formats.specs.Tokens.{Tree, Labelled, tokens}
use Rattle.formats.specs.Programs.{tree_valued, Function}
use Rattle.meaning.specs.Performing.{State, Step}
use Rattle.meaning.specs.Running.{Stop, refused, Run, units_of as units_of_run, outcome_of, number_reported, Ran, most_calls}
use Rattle.meaning.specs.Evaluation.{Value, number, tree, Ends, result_bytes}
use Rattle.meaning.specs.OpenCalls.{Reason, no_fuel as for_fuel, no_call, no_result, refusal_of}
use Rattle.meaning.specs.Unfinished.{StopsOn, Breaks, stop_units, stop_bytes}
use Rattle.meaning.specs.Meaning.{OfSort, BreaksWithin, TooMany}
use Rattle.meaning.proofs.Meaning.{meaning}
use Rattle.meaning.proofs.Outcomes.{one_stop}
use Rattle.meaning.proofs.StopRecords.{breaks_within}
use Rattle.meaning.proofs.OneStop.{same_stop}
use Rattle.translation.specs.Demand3.{Given, run_on}
use Rattle.translation.specs.EveryRun.{evaluation_units, StreamTooManyCalls, EveryRun, EveryRunHolds}
use Rattle.translation.specs.StoppedRuns.{RefusedAfterUnits, StoppedAfter, StreamStops, BrokenRun}
use Rattle.translation.specs.EndedRuns.{Meant, OneForOne}
use Rattle.translation.proofs.AnyInput.{with_tree, with_fault, begins}
use Rattle.translation.proofs.Bodies.{passes_one}
use Rattle.translation.proofs.Courses.{Final, refused_there, WholeWay, CameTo, whole_way, out_of_fuel, out_of_space, whole}
use Rattle.translation.proofs.Carried.{Carries}
use Rattle.translation.proofs.CodeCalls.{StopsFor, it_ended, no_fuel, no_space, at_stop, at_fault, run_of, call_runs, call_reads, call_units, call_outcome, call_writes}
use Rattle.translation.proofs.CodeCalls.{calls, runnable, goes_along, done_whole_way, refused_call, course_on, stops_for}
use Rattle.translation.proofs.Demand3.{course, opens_along, ending, whole_answer, whole_run}
use Rattle.translation.proofs.Goes.{input-ended, not-a-tag}
use Rattle.translation.proofs.WholeRuns.{ends_so, stops_so, faults_so, stopped_not_ended}

-- such code stops for no instruction that can't be performed
not_19 : {Faulty : Type 0} {w : Stop} (read position : ℕ) → StopsFor Faulty w → outcome_of w read ≢ refusal cannot_perform position
unfolding outcome_of refusal_of
not_19 read position it_ended e = let z : ◌≡◌ {A = ℕ} 0 1 = cc in absurd (omega arith)
not_19 read position no_fuel e = let z : fuel_used_up ≡ cannot_perform = cc in absurd (omega arith)
not_19 read position no_space e = let z : output_full ≡ cannot_perform = cc in absurd (omega arith)
not_19 read position (at_stop for_fuel) e = let z : fuel_used_up ≡ cannot_perform = cc in absurd (omega arith)
not_19 read position (at_stop no_call) e = let z : too_many_calls ≡ cannot_perform = cc in absurd (omega arith)
not_19 read position (at_stop (no_result op i j)) e = let z : out_of_range ≡ cannot_perform = cc in absurd (omega arith)
not_19 read position (at_fault f input-ended) e = let z : input_ended ≡ cannot_perform = cc in absurd (omega arith)
not_19 read position (at_fault f not-a-tag) e = let z : not_a_tag ≡ cannot_perform = cc in absurd (omega arith)

-- a run that is refused with 21 has gone the whole way
came_broken :
    {last : State} {units counts space fuel : ℕ} {why : Stop} {r : Run} (read position : ℕ)
    → CameTo last units counts why space fuel r
    → outcome_of r.stop read ≡ refusal out_of_range position
    → outcome_of why read ≡ refusal out_of_range position
unfolding outcome_of
came_broken read position (out_of_fuel stops u few) e = let z : fuel_used_up ≡ out_of_range = cc (rw stops at e) in absurd (omega arith)
came_broken read position (out_of_space stops less) e = let z : output_full ≡ out_of_range = cc (rw stops at e) in absurd (omega arith)
came_broken read position (whole a more) e = rw a.stops at e

-- the instruction that is refused counts nothing
refused_counts : {f : Step} {why counts : ℕ} → Final f (refused why) counts → counts ≡ 0
refused_counts refused_there = refl

module _ (given : Given) where
  open given use {program, checked}

  -- a call whose run was refused so
  refused-after :
      (input output : List ℕ) (fuel why units : ℕ)
      → (run_of given input output fuel).stop ≡ refused why
      → units_of_run (run_of given input output fuel) ≡ units
      → RefusedAfterUnits units why (run_on given input output fuel)
  unfolding outcome_of
  refused-after input output fuel why units stops spent =
      record { outcome = call_outcome given input output fuel stops; counted = call_units given input output fuel ∙ spent }

  -- ---- exact units

  -- a smaller fuel is used up
  fuel_short :
      (t : Tree) (n : ℕ) (v : Value) (evaluated : Ends program t most_calls n v) (rest output : List ℕ) (fuel : ℕ)
      → Labelled t
      → length (result_bytes v) ≤ length output
      → fuel < evaluation_units evaluated
      → RefusedAfterUnits fuel fuel_used_up (run_on given (tokens t ++ rest) output fuel)
  fuel_short t n v evaluated rest output fuel labelled fits short =
      let e = ending given t labelled n v evaluated rest output fuel in
      let same = ap length e.bytes in
      elim e.comes [
        | out_of_fuel stops u few ↦ refused-after (tokens t ++ rest) output fuel fuel_used_up fuel stops u
        | out_of_space stops less ↦ absurd (omega arith)
        | whole a more ↦ absurd (omega arith)
      ]

  -- less space is filled
  space_short :
      (t : Tree) (n : ℕ) (v : Value) (evaluated : Ends program t most_calls n v) (rest output : List ℕ) (fuel : ℕ)
      → Labelled t
      → length output < length (result_bytes v)
      → evaluation_units evaluated ≤ fuel
      → (run_on given (tokens t ++ rest) output fuel).answer.outcome ≡ refusal output_full (run_on given (tokens t ++ rest) output fuel).answer.bytes_read
  unfolding outcome_of
  space_short t n v evaluated rest output fuel labelled short enough =
      let e = ending given t labelled n v evaluated rest output fuel in
      elim e.comes [
        | out_of_fuel stops u few ↦ absurd (omega arith)
        | out_of_space stops less ↦ call_outcome given (tokens t ++ rest) output fuel stops
        | whole a more ↦
            let w = whole_answer given t labelled v rest output fuel e.last a e.bytes e.read in
            absurd (omega (arith, w.whole_written, (calls given output).written_fits (tokens t ++ rest) fuel))
      ]

  -- ---- where the evaluation stops

  -- The run of an evaluation that stops so: to the stop, or its fuel or the output ends before.
  -- What it has written opens these bytes.
  record Stopping (units why : ℕ) (bytes : List ℕ) (space fuel : ℕ) (r : Run) : Type 0 where
    last : State
    comes : CameTo last units 0 (refused why) space fuel r
    is_written : last.output ≡ bytes
    opens : Opens r.last.output bytes

  module _ (t : Tree) (labelled : Labelled t) (n : ℕ) (why : Reason) (q : ℕ) (stops : StopsOn program t most_calls n why q) where
    -- the course has the units and the bytes of some derivation, and all have the same
    stopping : (rest output : List ℕ) (fuel : ℕ)
        → Stopping (stop_units stops) (refusal_of why) (stop_bytes stops) (length output) fuel (run_of given (tokens t ++ rest) output fuel)
    stopping rest output fuel = elim (course given t labelled rest) [
      | ends_so n' v evaluated c units counts bytes read ↦
          absurd (stopped_not_ended program t _ n why q n' v (runnable given).proper stops evaluated)
      | stops_so n' why' q' stops' c units bytes ↦
          let exactly = (meaning.held program t (passes_one program checked)).stops_exactly most_calls in
          let reason : why' ≡ why = (one_stop n' n why' why q' q (sym ((exactly n' why' q').1 stops') ∙ (exactly n why q).1 stops)).1.0 in
          let same = same_stop program t most_calls n' n why' why q' q stops' stops in
          let comes = goes_along given c output fuel in
          let opens = opens_along given t labelled (tokens t ++ rest) output fuel c
          (λ space h. record { holds = λ a. refl; input = refl; space = h; words = le_refl _; calls = le_refl _ }) in
          record {
            last = c.last;
            comes = rw (units ∙ same.0, refused_counts c.is_final, reason) at comes;
            is_written = bytes ∙ same.1;
            opens = rw (bytes ∙ same.1) at opens;
          }
      | faults_so why none w c ↦ absurd none
    ]

    -- what a run that goes the whole way answers
    stopped_answer :
        {units : ℕ} (rest output : List ℕ) (fuel : ℕ) (last : State)
        → WholeWay last units 0 (refused (refusal_of why)) (run_of given (tokens t ++ rest) output fuel)
        → last.output ≡ stop_bytes stops
        → StoppedAfter units (refusal_of why) (stop_bytes stops) output (run_on given (tokens t ++ rest) output fuel)
    unfolding number_reported
    stopped_answer rest output fuel last a is_written =
        let so = call_runs given (tokens t ++ rest) output fuel in
        let out : (run_of given (tokens t ++ rest) output fuel).last.output ≡ stop_bytes stops = ap (λ (s : State). s.output) a.is_last ∙ is_written in
        let many = ap (λ (r : Ran). r.answer.bytes_written) so ∙ ap length out in
        record {
          refused = refused-after (tokens t ++ rest) output fuel (refusal_of why) _ a.stops (a.spent ∙ add-zero _);
          no_number = ap (λ (r : Ran). r.answer.number) so ∙ ap number_reported a.stops;
          many_written = many;
          untouched = rw many at ((calls given output).untouched (tokens t ++ rest) fuel);
          written = call_writes given (tokens t ++ rest) output fuel ∙ out;
        }

    -- so with any fuel and any output
    stream_stops : StreamStops t (stop_units stops) (refusal_of why) (stop_bytes stops) (run_on given)
    unfolding outcome_of
    stream_stops = record {
      enough = λ rest output fuel more fits.
          let s = stopping rest output fuel in
          stopped_answer rest output fuel s.last (whole_way more (rw s.is_written fits) s.comes) s.is_written;
      fewer = λ rest output fuel few fits.
          let s = stopping rest output fuel in
          let same = ap length s.is_written in
          elim s.comes [
            | out_of_fuel ends u less ↦ refused-after (tokens t ++ rest) output fuel fuel_used_up fuel ends u
            | out_of_space ends less ↦ absurd (omega arith)
            | whole a more ↦ absurd (omega arith)
          ];
      less_space = λ rest output fuel more short.
          let s = stopping rest output fuel in
          elim s.comes [
            | out_of_fuel ends u less ↦ absurd (omega arith)
            | out_of_space ends less ↦ call_outcome given (tokens t ++ rest) output fuel ends
            | whole a more ↦
                let w = stopped_answer rest output fuel s.last a s.is_written in
                absurd (omega (arith, w.many_written, (calls given output).written_fits (tokens t ++ rest) fuel))
          ];
      written_opening = λ rest output fuel. rw (call_writes given (tokens t ++ rest) output fuel) (stopping rest output fuel).opens;
    }

  -- where it neither ends nor breaks at a sum, a call is one too many
  too_many :
      (t : Tree)
      → Labelled t
      → ((n : ℕ) (v : Value) → Ends program t most_calls n v → ⊥)
      → ((n : ℕ) (op : Op) (i j q : ℕ) → Breaks program t most_calls n op i j q → ⊥)
      → StreamTooManyCalls t (run_on given)
  unfolding refusal_of
  too_many t labelled never_ends never_breaks = elim ((meaning.held program t (passes_one program checked)).ends_or_stops most_calls) [
    | inl within ↦ absurd (never_ends _ _ within.ends)
    | inr (inl within) ↦ absurd (never_breaks _ _ _ _ _ within.breaks)
    | inr (inr many) ↦ at_call many
  ]
    where
      at_call : TooMany program t most_calls → StreamTooManyCalls t (run_on given)
      at_call many =
          let stops = ((meaning.held program t (passes_one program checked)).stops_exactly most_calls _ no_call _).0 many.stopped in
          let runs = stream_stops t labelled _ no_call _ stops in
          record {
            units = stop_units stops;
            space = length (stop_bytes stops);
            enough = λ rest output fuel more fits. (runs.enough rest output fuel more fits).refused;
            fewer = runs.fewer;
          }

  -- a run that is refused with 21 is one of an evaluation that breaks ..
  broken :
      (t : Tree) → Labelled t
      → (rest output : List ℕ) (fuel position : ℕ)
      → (run_on given (tokens t ++ rest) output fuel).answer.outcome ≡ refusal out_of_range position
      → BreaksWithin program t most_calls
  unfolding outcome_of refusal_of
  broken t labelled rest output fuel position e =
      let so = sym (call_outcome given (tokens t ++ rest) output fuel refl) ∙ e in
      elim (course given t labelled rest) [
        | ends_so n v evaluated c units counts bytes read ↦
            let z : ◌≡◌ {A = ℕ} 0 1 = cc (came_broken _ position (goes_along given c output fuel) so) in absurd (omega arith)
        | stops_so n why q stops c units bytes ↦ by_reason n q why stops (came_broken _ position (goes_along given c output fuel) so)
        | faults_so why none w c ↦ absurd none
      ]
    where
      by_reason : (n q : ℕ) (why : Reason) → StopsOn program t most_calls n why q → {read : ℕ}
          → outcome_of (refused (refusal_of why)) read ≡ refusal out_of_range position
          → BreaksWithin program t most_calls
      by_reason n q for_fuel stops e = let z : fuel_used_up ≡ out_of_range = cc in absurd (omega arith)
      by_reason n q no_call stops e = let z : too_many_calls ≡ out_of_range = cc in absurd (omega arith)
      by_reason n q (no_result op i j) stops e = breaks_within program t most_calls n op i j q stops

  -- .. and it has come to the sum
  broken_run :
      (t : Tree) → Labelled t
      → (rest output : List ℕ) (fuel position : ℕ)
      → (run_on given (tokens t ++ rest) output fuel).answer.outcome ≡ refusal out_of_range position
      → BrokenRun program t output fuel (run_on given (tokens t ++ rest) output fuel)
  unfolding outcome_of refusal_of
  broken_run t labelled rest output fuel position e =
      let within = broken t labelled rest output fuel position e in
      let so = sym (call_outcome given (tokens t ++ rest) output fuel refl) ∙ e in
      let s = stopping t labelled _ _ _ within.breaks rest output fuel in
      elim s.comes [
        | out_of_fuel ends u few ↦ let z : fuel_used_up ≡ out_of_range = cc (rw ends at so) in absurd (omega arith)
        | out_of_space ends less ↦ let z : output_full ≡ out_of_range = cc (rw ends at so) in absurd (omega arith)
        | whole a more ↦
            let gives = stopped_answer t labelled _ _ _ within.breaks rest output fuel s.last a s.is_written in
            record {
              within = within;
              enough_fuel = more;
              enough_space = omega (arith, gives.many_written, (calls given output).written_fits (tokens t ++ rest) fuel);
              gives = gives;
            }
      ]

  -- ---- any input

  never_19 : (input output : List ℕ) (fuel position : ℕ) → Bytes input → (run_on given input output fuel).answer.outcome ≢ refusal cannot_perform position
  never_19 input output fuel position bytes e =
      let so = sym (call_outcome given input output fuel refl) ∙ e in
      elim (begins input bytes) [
        | with_tree t labelled opens ↦
            not_19 {Faulty = ⊥} _ position (rw opens.joined (stops_for given (course given t labelled opens.rest) output fuel)) so
        | with_fault t carries ↦ not_19 _ position (stops_for given (course_on given input (suc (length input)) t carries) output fuel) so
      ]

  -- with a fault no run ends: it would have read more than there is
  fault_stays :
      (t : Tree) (input output : List ℕ) (fuel : ℕ) → Carries (Unit {0}) input (suc (length input)) 0 (t ∷ [])
      → (run_on given input output fuel).answer.outcome ≢ done tt
  fault_stays t input output fuel carries e = elim (course_on given input (suc (length input)) t carries) [
    | ends_so n v evaluated c units counts bytes read ↦
        let is_last = (done_whole_way given c output fuel e).is_last in
        let has_read = call_reads given input output fuel ∙ ap (λ (s : State). s.read) is_last ∙ read in
        absurd (omega (arith, (calls given output).read_there input fuel))
    | stops_so n why q stops c units bytes ↦ refused_call given c output fuel e
    | faults_so why f w c ↦ refused_call given c output fuel e
  ]

  -- an ended run on a tree is whole
  meant_on_tree :
      (t : Tree) (labelled : Labelled t) (rest output : List ℕ) (fuel : ℕ)
      → (run_on given (tokens t ++ rest) output fuel).answer.outcome ≡ done tt
      → Meant program (tokens t ++ rest) output (run_on given (tokens t ++ rest) output fuel)
  meant_on_tree t labelled rest output fuel is_done = elim (course given t labelled rest) [
    | ends_so n v evaluated c units counts bytes read ↦ record {
      on_tree = t;
      labelled = labelled;
      opens = record { rest = rest; joined = refl };
      expressions = n;
      value = v;
      ends = evaluated;
      whole = whole_answer given t labelled v rest output fuel c.last (done_whole_way given c output fuel is_done) bytes read;
    }
    | stops_so n why q stops c units bytes ↦ absurd (refused_call given c output fuel is_done)
    | faults_so why none w c ↦ absurd none
  ]

  meant :
      (input output : List ℕ) (fuel : ℕ)
      → Bytes input
      → (run_on given input output fuel).answer.outcome ≡ done tt
      → Meant program input output (run_on given input output fuel)
  meant input output fuel bytes is_done = elim (begins input bytes) [
    | with_tree t labelled opens ↦
        subst (λ (i : List ℕ). (run_on given i output fuel).answer.outcome ≡ done tt → Meant program i output (run_on given i output fuel)) (sym opens.joined)
        (meant_on_tree t labelled opens.rest output fuel)
        is_done
    | with_fault t carries ↦ absurd (fault_stays t input output fuel carries is_done)
  ]

  -- one tree for one tree
  one_for_one :
      (first : Function) (input output : List ℕ) (fuel : ℕ)
      → nth program.functions 0 ≡ some first
      → first.sort ≡ tree_valued
      → Bytes input
      → (run_on given input output fuel).answer.outcome ≡ done tt
      → OneForOne input (run_on given input output fuel)
  unfolding result_bytes
  one_for_one first input output fuel is_first gives_tree bytes is_done =
      let m = meant input output fuel bytes is_done in
      let sorted = (meaning.evaluations program).of_sort m.on_tree first most_calls m.expressions m.value (passes_one program checked) m.labelled
      is_first m.ends in
      by_value m m.value refl (rw gives_tree at sorted)
    where
      by_value :
          (m : Meant program input output (run_on given input output fuel)) (v : Value)
          → m.value ≡ v
          → OfSort tree_valued v
          → OneForOne input (run_on given input output fuel)
      by_value m (number i) e sorted = absurd sorted
      by_value m (tree u) e sorted = record {
        tree_read = m.on_tree;
        read_labelled = m.labelled;
        read_is = ap (λ k. take k input) m.whole.whole_read ∙ ap (take (length (tokens m.on_tree))) m.opens.joined
            ∙ take-append_seam (tokens m.on_tree) m.opens.rest;
        tree_written = u;
        written_labelled = sorted;
        written_is = m.whole.result ∙ ap result_bytes e;
      }

  runs_so : EveryRun program (run_on given)
  runs_so = record {
    exact_units = λ t n v evaluated rest output fuel labelled fits enough. whole_run given t labelled n v evaluated rest output fuel enough fits;
    fewer_units = fuel_short;
    less_space = space_short;
    too-many-calls = too_many;
    stops = λ t n why q stops labelled. stream_stops t labelled n why q stops;
    broken_is_meant = λ t rest output fuel position labelled. broken_run t labelled rest output fuel position;
    never_19 = never_19;
    ended_is_meant = meant;
    one_for_one = one_for_one;
  }

pub every_run : EveryRunHolds
every_run = runs_so
