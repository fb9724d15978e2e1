-- Demand 3: the proof of specs/Demand3.antt.
--
-- The run on a tree's own tokens has a known course (WholeRuns), so it ends, or is refused with 14,
-- 17, 18 or 21: it looks at no byte that it has not read. So what stands after the tree does not
-- matter (StreamRun, `same_input`), and no more is read than the tree's tokens. What is written is
-- compared with the run of a wider machine, on which the evaluation's calls can all be open: its
-- steps go on from those of the narrow one.
use Prim.Native.Nat.{ℕ, suc, ◌+◌, ◌*◌, ◌≤◌, ◌<◌}
use mathlib.Core.List.{List, [], ◌++◌}
use mathlib.Core.Logic.{◌≢◌}
use mathlib.Core.Option.{some-injective}
use mathlib.Core.Path.{◌≡◌, refl, sym, ap, subst, ◌∙◌}
use native.Mathlib.Nat.{le_refl, le_trans}
use native.Mathlib.Numerals.{add-one}
use native.Mathlib.Omega.{arith}
use lib.ListN.{length, drop, length-append, take-append-drop}
use lib.Seq.{take-append-le}
use Rattle.formats.specs.Buffers.{Opens}
use Rattle.formats.specs.Results.{done}
use Rattle.formats.specs.Tokens.{Tree, Labelled, tokens}
use Rattle.formats.specs.Programs.{Function, Program}
use Rattle.meaning.specs.Instructions.{held_by}
use Rattle.meaning.specs.Performing.{Setting, State, start, Step, goes}
use Rattle.meaning.specs.Running.{Stop, ended, Run, outcome_of, number_reported, Ran, most_calls, of_code}
use Rattle.meaning.specs.StreamRun.{Stops, used_up, returned, stuck, looked_at, rests_on}
use Rattle.meaning.specs.OpenCalls.{refusal_of, no_fuel as for_fuel, no_call, no_result}
use Rattle.meaning.specs.Running.{written_by}
use Rattle.meaning.specs.Evaluation.{Value, in_call, Takes, Ends, result_bytes, result_number, units_in}
use Rattle.meaning.proofs.Meaning.{meaning}
use Rattle.meaning.proofs.Runs.{runs}
use Rattle.translation.specs.Demand3.{Given, run_on, Demand3, Demand3Holds}
use Rattle.translation.specs.EndedRuns.{Whole}
use Rattle.meaning.specs.Running.{read_by}
use Rattle.translation.specs.EveryRun.{WholeAfter, evaluation_units}
use Rattle.translation.proofs.AnyInput.{carries_opening}
use Rattle.translation.proofs.CodeCalls.{StopsFor, it_ended, no_fuel, no_space, at_stop, at_fault}
use Rattle.translation.proofs.CodeCalls.{code, run_of, call_runs, call_reads, call_units, call_outcome, call_writes}
use Rattle.translation.proofs.CodeCalls.{calls, runnable, goes_along, refused_call, CourseOn, course_on, stops_for}
use Rattle.translation.proofs.Courses.{Final, returns as it_returns, refused_there, Course, WholeWay, CameTo, whole_way}
use Rattle.translation.proofs.Meets.{LeadsOn, meets_grows}
use Rattle.translation.proofs.Paths.{with_space}
use Rattle.translation.proofs.WholeRuns.{Known, ends_so, stops_so, faults_so, known, stopped_not_ended}
use Rattle.translation.proofs.Wider.{Wider, wider_steps}

-- a run on an input without a fault stops with no byte looked at that was not read
none_looked_at : {w : Stop} (read : ℕ) → StopsFor ⊥ w → looked_at (outcome_of w read) ≡ 0
unfolding outcome_of looked_at refusal_of
none_looked_at read it_ended = refl
none_looked_at read no_fuel = refl
none_looked_at read no_space = refl
none_looked_at read (at_stop for_fuel) = refl
none_looked_at read (at_stop no_call) = refl
none_looked_at read (at_stop (no_result op i j)) = refl
none_looked_at read (at_fault none w) = absurd none

-- a run's steps to where it stops
stops_leads : {m : Setting} {fuel : ℕ} {s : State} {r : Run} → Stops m fuel s r → LeadsOn m s r.last
stops_leads (used_up {past} d h) = record { rest = past; steps = d }
stops_leads (returned {past} d h e) = record { rest = past; steps = d }
stops_leads (stuck {past} d h e) = record { rest = past; steps = d }

-- where the machine goes no further, it does not go on
final_stays : {f : Step} {w : Stop} {counts : ℕ} {t : State} → Final f w counts → f ≡ goes t → ⊥
final_stays it_returns e = let z : ◌≡◌ {A = ℕ} 0 1 = cc in absurd (omega arith)
final_stays refused_there e = let z : ◌≡◌ {A = ℕ} 0 1 = cc in absurd (omega arith)

-- an evaluation that ends within a bound ends within every larger one
larger_bound : (program : Program) (t : Tree) (o o' n : ℕ) (v : Value) → o ≤ o' → Ends program t o n v → Ends program t o' n v
larger_bound program t o o' n v h e =
    let bounds = (meaning.evaluations program).least_open _ _ o n v e.takes in
    record { first = e.first; is_first = e.is_first; takes = (bounds o').1 (le_trans ((bounds o).0 e.takes) h) }

-- two derivations of one evaluation have the same units
same_units :
    (program : Program) (t : Tree) (o n o' n' : ℕ) (v v' : Value) (e : Ends program t o n v) (e' : Ends program t o' n' v')
    → units_in e.takes ≡ units_in e'.takes
same_units program t o n o' n' v v' e e' =
    let same : e.first ≡ e'.first = some-injective _ _ (sym e.is_first ∙ e'.is_first) in
    let sums = (meaning.evaluations program).one_sum (in_call [] t) e.first.body o n o' n' v v' e.takes in
    subst (λ (f : Function). (d : Takes program (in_call [] t) f.body o' n' v') → units_in e.takes ≡ units_in d) same sums e'.takes

module _ (given : Given) (t : Tree) (labelled : Labelled t) where
  open given use {program}

  -- the course of the run on its tokens, with anything after them
  pub course : (rest : List ℕ) → CourseOn given ⊥ (tokens t ++ rest) (length (tokens t)) t
  course rest = course_on given (tokens t ++ rest) (length (tokens t)) t (carries_opening t rest labelled)

  -- with nothing after the tree, the answer rests on its tokens alone
  rests_on_tokens : (output : List ℕ) (fuel : ℕ) → rests_on (run_on given (tokens t ++ []) output fuel).answer ≤ length (tokens t)
  rests_on_tokens output fuel =
      let read = (calls given output).read_there (tokens t ++ []) fuel in
      let looked = ap looked_at (call_outcome given (tokens t ++ []) output fuel refl) ∙ none_looked_at _ (stops_for given (course []) output fuel) in
      omega (arith, length-append (tokens t) [], read, looked)

  -- so what stands after it does not matter
  pub nothing_after : (rest output : List ℕ) (fuel : ℕ) → run_on given (tokens t ++ rest) output fuel ≡ run_on given (tokens t ++ []) output fuel
  nothing_after rest output fuel =
      let k = rests_on (run_on given (tokens t ++ []) output fuel).answer in
      let few = rests_on_tokens output fuel in
      (calls given output).same_input (tokens t ++ []) (tokens t ++ rest) fuel
      (take-append-le k (tokens t) rest few ∙ sym (take-append-le k (tokens t) [] few))

  -- no more is read than its tokens
  reads_no_more : (rest output : List ℕ) (fuel : ℕ) → (run_on given (tokens t ++ rest) output fuel).answer.bytes_read ≤ length (tokens t)
  reads_no_more rest output fuel = rw (nothing_after rest output fuel) (omega (arith, rests_on_tokens output fuel))

  -- the bytes read are opening bytes of it
  reads_opening : (rest output : List ℕ) (fuel : ℕ) → Opens (read_by (run_on given (tokens t ++ rest) output fuel) (tokens t ++ rest)) (tokens t)
  reads_opening rest output fuel =
      let k = (run_on given (tokens t ++ rest) output fuel).answer.bytes_read in
      let front = take-append-le k (tokens t) rest (reads_no_more rest output fuel) in
      record { rest = drop k (tokens t); joined = rw front (sym (take-append-drop k (tokens t))) }

  -- ---- what is written

  -- it opens what is written in the end along the course of a wider machine, whose steps go on from
  -- those of the narrow one
  pub opens_along :
      {M : Setting} {why : Stop} (input output : List ℕ) (fuel : ℕ) (c : Course M start why)
      → ((space : ℕ) → length output ≤ space → Wider (of_code (code given) input (length output)) (with_space space M))
      → Opens (run_of given input output fuel).last.output c.last.output
  opens_along input output fuel c is_wider =
      let needed = length c.last.output in
      let space = length output + needed in
      let made = stops_leads ((runs (of_code (code given) input (length output)) start).by_steps fuel) in
      let there = c.there space (omega arith) in
      (meets_grows (wider_steps (is_wider space (omega arith)) made.steps) (c.path.steps space (omega arith))
      (λ u e. final_stays c.is_final (sym there ∙ e))).writes

  -- The same code on a machine where so many calls more can be open.
  abbrev wider : ℕ → List ℕ → Setting
  wider more input =
      record { holds = held_by (code given); input = input; space = 0; most_words = 16 * suc (more + 1023); most_open = suc (more + 1023) }

  -- with more space, it is wider
  is_wider : (more space : ℕ) (input output : List ℕ) → length output ≤ space
      → Wider (of_code (code given) input (length output)) (with_space space (wider more input))
  is_wider more space input output h =
      record { holds = λ a. refl; input = refl; space = h; words = omega arith; calls = omega arith }

  -- what is written opens what the wider machine has written in the end
  writes_opening :
      (rest output : List ℕ) (fuel o n : ℕ) (v : Value)
      → Ends program t o n v
      → Opens (written_by (run_on given (tokens t ++ rest) output fuel)) (result_bytes v)
  writes_opening rest output fuel o n v evaluated =
      rw (call_writes given (tokens t ++ rest) output fuel)
      (by_course (known ⊥ (wider o input) program (length (tokens t)) (le_refl _) (runnable given) t (o + 1023) (carries_opening t rest labelled) refl))
    where
      input : List ℕ
      input = tokens t ++ rest

      by_course : Known ⊥ (wider o input) program (length (tokens t)) (le_refl _) (runnable given) t (suc (o + 1023))
          → Opens (run_of given input output fuel).last.output (result_bytes v)
      by_course (ends_so n' v' evaluated' c units counts bytes read) =
          let same = ((meaning.evaluations program).one_result t _ _ _ _ _ _ evaluated' evaluated).1 in
          rw (bytes ∙ ap result_bytes same) at (opens_along input output fuel c (λ space h. is_wider o space input output h))
      by_course (stops_so n' why q stops c units bytes) =
          absurd (stopped_not_ended program t _ n' why q n v (runnable given).proper stops (larger_bound program t o _ n v (omega arith) evaluated))
      by_course (faults_so why none w c) = absurd none

  -- and no more is written than that
  writes_no_more :
      (rest output : List ℕ) (fuel o n : ℕ) (v : Value)
      → Ends program t o n v
      → (run_on given (tokens t ++ rest) output fuel).answer.bytes_written ≤ length (result_bytes v)
  writes_no_more rest output fuel o n v evaluated =
      let opens = writes_opening rest output fuel o n v evaluated in
      let bytes = call_writes given (tokens t ++ rest) output fuel in
      omega (
        arith,
        ap (λ (r : Ran). r.answer.bytes_written) (call_runs given (tokens t ++ rest) output fuel),
        ap length bytes,
        ap length opens.joined,
        length-append (written_by (run_on given (tokens t ++ rest) output fuel)) opens.rest,
      )

  -- ---- where the evaluation ends

  -- The run of an evaluation that ends: to the end, or its fuel or the output ends before.
  pub record Ending (units : ℕ) (v : Value) (space fuel : ℕ) (r : Run) : Type 0 where
    pub last : State
    pub comes : CameTo last units 1 (ended (result_number v)) space fuel r
    pub bytes : last.output ≡ result_bytes v
    pub read : last.read ≡ length (tokens t)

  pub ending :
      (n : ℕ) (v : Value) (evaluated : Ends program t most_calls n v) (rest output : List ℕ) (fuel : ℕ)
      → Ending (units_in evaluated.takes) v (length output) fuel (run_of given (tokens t ++ rest) output fuel)
  ending n v evaluated rest output fuel = elim (course rest) [
    | ends_so n' v' evaluated' c units counts bytes read ↦
        let same = ((meaning.evaluations program).one_result t _ _ _ _ _ _ evaluated' evaluated).1 in
        let sums = units ∙ same_units program t _ _ _ _ _ _ evaluated' evaluated in
        record { last = c.last; comes = rw (sums, counts, same) at (goes_along given c output fuel); bytes = rw same at bytes; read = read }
    | stops_so n' why q stops c units bytes ↦ absurd (stopped_not_ended program t _ n' why q n v (runnable given).proper stops evaluated)
    | faults_so why none w c ↦ absurd none
  ]

  -- what a run that goes the whole way answers
  pub whole_answer :
      {units counts : ℕ} (v : Value) (rest output : List ℕ) (fuel : ℕ) (last : State)
      → WholeWay last units counts (ended (result_number v)) (run_of given (tokens t ++ rest) output fuel)
      → last.output ≡ result_bytes v
      → last.read ≡ length (tokens t)
      → Whole t v output (run_on given (tokens t ++ rest) output fuel)
  unfolding outcome_of number_reported
  whole_answer v rest output fuel last a bytes read =
      let so = call_runs given (tokens t ++ rest) output fuel in
      let out : (run_of given (tokens t ++ rest) output fuel).last.output ≡ result_bytes v = ap (λ (s : State). s.output) a.is_last ∙ bytes in
      let many : (run_on given (tokens t ++ rest) output fuel).answer.bytes_written ≡ length (result_bytes v) =
      ap (λ (r : Ran). r.answer.bytes_written) so ∙ ap length out in
      record {
        unrefused = call_outcome given (tokens t ++ rest) output fuel a.stops;
        whole_read = call_reads given (tokens t ++ rest) output fuel ∙ ap (λ (s : State). s.read) a.is_last ∙ read;
        whole_written = many;
        result = call_writes given (tokens t ++ rest) output fuel ∙ out;
        untouched = rw many at ((calls given output).untouched (tokens t ++ rest) fuel);
        same_number = ap (λ (r : Ran). r.answer.number) so ∙ ap number_reported a.stops;
      }

  -- with fuel for one more than its units, and space for its result, the run is whole, and has
  -- spent them
  pub whole_run :
      (n : ℕ) (v : Value) (evaluated : Ends program t most_calls n v) (rest output : List ℕ) (fuel : ℕ)
      → units_in evaluated.takes < fuel
      → length (result_bytes v) ≤ length output
      → WholeAfter (evaluation_units evaluated) t v output (run_on given (tokens t ++ rest) output fuel)
  whole_run n v evaluated rest output fuel enough fits =
      let e = ending n v evaluated rest output fuel in
      let a = whole_way enough (rw e.bytes fits) e.comes in
      record {
        whole = whole_answer v rest output fuel e.last a e.bytes e.read;
        counted = call_units given (tokens t ++ rest) output fuel ∙ a.spent ∙ add-one _;
      }

  -- where no evaluation ends, no run does
  never_ends :
      ((n : ℕ) (v : Value) → Ends program t most_calls n v → ⊥)
      → (rest output : List ℕ) (fuel : ℕ)
      → (run_on given (tokens t ++ rest) output fuel).answer.outcome ≢ done tt
  never_ends never rest output fuel e = elim (course rest) [
    | ends_so n v evaluated c units counts bytes read ↦ never n v evaluated
    | stops_so n why q stops c units bytes ↦ refused_call given c output fuel e
    | faults_so why none w c ↦ none
  ]

  demand : Demand3 program t (run_on given)
  demand = record {
    read_opening = reads_opening;
    read_no_more = reads_no_more;
    written_opening = writes_opening;
    written_no_more = writes_no_more;
    none_other = λ rest output fuel. (calls given output).untouched (tokens t ++ rest) fuel;
    nothing_after = λ rest rest' output fuel. nothing_after rest output fuel ∙ sym (nothing_after rest' output fuel);
    suffices = λ n v evaluated rest output fuel enough fits.
        let few = (meaning.evaluations program).four_each _ _ _ n v evaluated.takes in
        (whole_run n v evaluated rest output fuel (omega arith) fits).whole;
    none_suffices = never_ends;
  }

-- demand 3
pub demand_3 : Demand3Holds
demand_3 = demand
