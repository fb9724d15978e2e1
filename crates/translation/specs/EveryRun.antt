-- What holds of every run of a checked program's code, besides demand 3: the statements. They are
-- proved in proofs/EveryRun.antt.
use Rattle.std.specs.Prelude.{ℕ, suc, ◌≤◌, ◌<◌, List, ◌++◌, ◌≢◌, ◌≡◌, length}
use Rattle.std.proofs.Math.Option.{some}
use Rattle.formats.specs.Numbers.{Bytes}
use Rattle.formats.specs.Arithmetic.{Op}
use Rattle.formats.specs.Records.{nth}
use Rattle.formats.specs.Refusals.{fuel_used_up, output_full, too_many_calls, cannot_perform, out_of_range}
use Rattle.formats.specs.Results.{done, refusal}
use Rattle.formats.specs.Tokens.{Tree, Labelled, tokens}
use Rattle.formats.specs.Programs.{tree_valued, Function, Program}
use Rattle.meaning.specs.Running.{Ran, most_calls}
use Rattle.meaning.specs.Evaluation.{Value, Ends, result_bytes, units_in}
use Rattle.meaning.specs.OpenCalls.{Reason, refusal_of}
use Rattle.meaning.specs.Unfinished.{StopsOn, Breaks, stop_units, stop_bytes}
use Rattle.translation.specs.Demand3.{Given, run_on}
use Rattle.translation.specs.EndedRuns.{Whole, Meant, OneForOne}
use Rattle.translation.specs.StoppedRuns.{RefusedAfterUnits, StreamStops, BrokenRun}

-- A whole run of so many units.
pub record WholeAfter (units : ℕ) (t : Tree) (v : Value) (output : List ℕ) (ran : Ran) : Type 0 where
  pub whole : Whole t v output ran
  pub counted : ran.answer.units ≡ units

-- The units of an evaluation: the table's column "units", summed over the expressions begun. 01,
-- Templates: "function 0's own return adds 1 unit".
abbrev pub evaluation_units : {program : Program} {t : Tree} {o n : ℕ} {v : Value} → Ends program t o n v → ℕ
evaluation_units ends = suc (units_in ends.takes)

-- Runs on a tree that come to a call too many, if there is fuel for more than `units` and an output
-- of at least `space` bytes.
pub record StreamTooManyCalls (t : Tree) (run : (input output : List ℕ) (fuel : ℕ) → Ran) : Type 0 where
  pub units : ℕ
  pub space : ℕ
  pub enough :
      (rest output : List ℕ) (fuel : ℕ)
      → units < fuel
      → space ≤ length output
      → RefusedAfterUnits units too_many_calls (run (tokens t ++ rest) output fuel)
  -- every smaller fuel is used up
  pub fewer :
      (rest output : List ℕ) (fuel : ℕ)
      → fuel ≤ units
      → space ≤ length output
      → RefusedAfterUnits fuel fuel_used_up (run (tokens t ++ rest) output fuel)

-- What holds of the runs of a checked program's code, each with its input, output and fuel.
pub record EveryRun (program : Program) (run : (input output : List ℕ) (fuel : ℕ) → Ran) : Type 0 where
  -- With space for the result, the units of the evaluation are spent, with every fuel from there up
  -- ..
  pub exact_units :
      (t : Tree) (n : ℕ) (v : Value) (ends : Ends program t most_calls n v) (rest output : List ℕ) (fuel : ℕ)
      → Labelled t
      → length (result_bytes v) ≤ length output
      → evaluation_units ends ≤ fuel
      → WholeAfter (evaluation_units ends) t v output (run (tokens t ++ rest) output fuel)
  -- .. and every smaller fuel is used up.
  pub fewer_units :
      (t : Tree) (n : ℕ) (v : Value) (ends : Ends program t most_calls n v) (rest output : List ℕ) (fuel : ℕ)
      → Labelled t
      → length (result_bytes v) ≤ length output
      → fuel < evaluation_units ends
      → RefusedAfterUnits fuel fuel_used_up (run (tokens t ++ rest) output fuel)
  -- With less space than the result takes, given the fuel, the output is full before the run ends.
  pub less_space :
      (t : Tree) (n : ℕ) (v : Value) (ends : Ends program t most_calls n v) (rest output : List ℕ) (fuel : ℕ)
      → Labelled t
      → length output < length (result_bytes v)
      → evaluation_units ends ≤ fuel
      → (run (tokens t ++ rest) output fuel).answer.outcome ≡ refusal output_full (run (tokens t ++ rest) output fuel).answer.bytes_read
  -- Where more than 1,024 calls would open (within 1,024 open calls the evaluation does not end,
  -- nor does it break at a sum), enough fuel and space give 18.
  pub too-many-calls :
      (t : Tree)
      → Labelled t
      → ((n : ℕ) (v : Value) → Ends program t most_calls n v → ⊥)
      → ((n : ℕ) (op : Op) (i j q : ℕ) → Breaks program t most_calls n op i j q → ⊥)
      → StreamTooManyCalls t run
  -- Where the evaluation, held to 1,024 open calls, stops at a sum out of range (21) or at a call
  -- too many (18), so does the run, given fuel and space: with these units spent and these bytes
  -- written.
  pub stops :
      (t : Tree) (n : ℕ) (why : Reason) (q : ℕ) (s : StopsOn program t most_calls n why q)
      → Labelled t
      → StreamStops t (stop_units s) (refusal_of why) (stop_bytes s) run
  -- On a tree 21 comes in no other case.
  pub broken_is_meant :
      (t : Tree) (rest output : List ℕ) (fuel position : ℕ)
      → Labelled t
      → (run (tokens t ++ rest) output fuel).answer.outcome ≡ refusal out_of_range position
      → BrokenRun program t output fuel (run (tokens t ++ rest) output fuel)
  -- 01, Instructions that cannot be performed: "19 never follows translated code." On any input,
  -- trees or not.
  pub never_19 : (input output : List ℕ) (fuel position : ℕ) → Bytes input → (run input output fuel).answer.outcome ≢ refusal cannot_perform position
  -- A run ends only on an input that begins with a tree, and then it gives what the program means.
  pub ended_is_meant :
      (input output : List ℕ) (fuel : ℕ)
      → Bytes input
      → (run input output fuel).answer.outcome ≡ done tt
      → Meant program input output (run input output fuel)
  -- So, where function 0 gives a tree: one whole tree read for one whole tree written.
  pub one_for_one :
      (first : Function) (input output : List ℕ) (fuel : ℕ)
      → nth program.functions 0 ≡ some first
      → first.sort ≡ tree_valued
      → Bytes input
      → (run input output fuel).answer.outcome ≡ done tt
      → OneForOne input (run input output fuel)

-- It holds of every checked program.
abbrev pub EveryRunHolds : Type 0
EveryRunHolds = (given : Given) → EveryRun given.program (run_on given)
