-- N3, sums that leave the range: both runs of an evaluation that breaks at a sum. The statement is
-- `OutOfRangeHolds`, at the end; `out-of-range` in proofs/OutOfRange.antt is its proof.
--
-- `Breaks program t o n op i j q` (meaning, Unfinished): with at most o calls open, after n
-- expressions, the operation at record q has no result on the numbers i and j. `stop_units` are the
-- units that its code has spent by then, `stop_bytes` the bytes that it has written.
use Rattle.std.specs.Prelude.{ℕ, ◌+◌, ◌*◌, ◌≤◌, ◌<◌, List, ◌≡◌, length}
use Rattle.formats.specs.Numbers.{Bytes}
use Rattle.formats.specs.Arithmetic.{Op}
use Rattle.formats.specs.Refusals.{fuel_used_up, out_of_range}
use Rattle.formats.specs.Results.{done}
use Rattle.formats.specs.Tokens.{Tree, first_tree}
use Rattle.formats.specs.Programs.{Program}
use Rattle.meaning.specs.Running.{Ran, most_calls}
use Rattle.meaning.specs.Evaluation.{Value, Ends}
use Rattle.meaning.specs.Unfinished.{Breaks, stop_units, stop_bytes}
use Rattle.meaning.specs.SourceRun.{source_run}
use Rattle.meaning.specs.Meaning.{AtOperation, RefusedWith}
use Rattle.translation.specs.TranslateAndRun.{FileRan, run_file, Ready}
use Rattle.translation.specs.StoppedRuns.{RefusedAfterUnits, StoppedAfter}
use Rattle.translation.specs.ThisCall.{ran_with}

-- The stream run's part of what a call gives.
abbrev pub ran_of : FileRan → Ran
ran_of ran = ran_with ran.answer ran.output

-- An evaluation that breaks, with the two runs of its program file on this input.
pub record OutOfRange (file input code : List ℕ) (values returns : ℕ) (program : Program) (t : Tree) {n : ℕ} {op : Op} {i j q : ℕ}
    (b : Breaks program t most_calls n op i j q) : Type 0
  where
    -- "Such an evaluation has no result:"
    pub no_value : (o m : ℕ) (v : Value) → Ends program t o m v → ⊥
    -- "on a tree the reader accepts, where at most 1,024 calls are open, both runs with enough fuel
    -- and output space refuse it," "21, sum out of range, at the Add record in the source run"
    pub source : (output : List ℕ) (fuel : ℕ) → n ≤ fuel → RefusedWith n out_of_range q output (source_run file input output fuel values returns)
    pub at_operation : AtOperation program op q
    -- "and at bytes read in the stream run"
    pub stream :
        (output : List ℕ) (fuel : ℕ)
        → stop_units b < fuel
        → length (stop_bytes b) ≤ length output
        → StoppedAfter (stop_units b) out_of_range (stop_bytes b) output (ran_of (run_file file input output code fuel values returns))
    -- every smaller fuel gives 14
    pub source_fewer : (output : List ℕ) (fuel : ℕ) → fuel < n → RefusedWith fuel fuel_used_up 0 output (source_run file input output fuel values returns)
    pub stream_fewer :
        (output : List ℕ) (fuel : ℕ)
        → fuel ≤ stop_units b
        → length (stop_bytes b) ≤ length output
        → RefusedAfterUnits fuel fuel_used_up (ran_of (run_file file input output code fuel values returns))
    -- (4n + 1 units are enough for the refusal too)
    pub bounded : stop_units b < 4 * n + 1

-- It holds of every file whose program both passes accept, and of every input that begins with a
-- tree which the reader accepts.
abbrev pub OutOfRangeHolds : Type 0
OutOfRangeHolds =
    (file input code : List ℕ) (values returns : ℕ) (program : Program) (t : Tree)
    → Bytes file
    → Bytes input
    → Ready file code values returns program
    → first_tree input ≡ done t
    → (n : ℕ) (op : Op) (i j q : ℕ) (b : Breaks program t most_calls n op i j q)
    → OutOfRange file input code values returns program t b
