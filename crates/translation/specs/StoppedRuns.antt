-- What a run that was refused gives.
use Rattle.std.specs.Prelude.{ℕ, ◌≤◌, ◌<◌, List, ◌++◌, ◌≡◌, length, drop}
use Rattle.formats.specs.Buffers.{Opens}
use Rattle.formats.specs.Refusals.{fuel_used_up, output_full, out_of_range}
use Rattle.formats.specs.Results.{refusal}
use Rattle.formats.specs.Tokens.{Tree, tokens}
use Rattle.formats.specs.Programs.{Program}
use Rattle.meaning.specs.Running.{Ran, written_by, most_calls}
use Rattle.meaning.specs.Unfinished.{stop_units, stop_bytes}
use Rattle.meaning.specs.Meaning.{BreaksWithin}

-- A run that is refused with the number `why`, at the bytes read, after so many units.
pub record RefusedAfterUnits (units why : ℕ) (ran : Ran) : Type 0 where
  pub outcome : ran.answer.outcome ≡ refusal why ran.answer.bytes_read
  pub counted : ran.answer.units ≡ units

-- Its answer's number is 0, and just these bytes are written; `output` is the output before the
-- run.
pub record StoppedAfter (units why : ℕ) (bytes output : List ℕ) (ran : Ran) : Type 0 where
  pub refused : RefusedAfterUnits units why ran
  pub no_number : ran.answer.number ≡ 0
  pub many_written : ran.answer.bytes_written ≡ length bytes
  pub written : written_by ran ≡ bytes
  pub untouched : drop (length bytes) ran.output ≡ drop (length bytes) output

-- Runs on a tree whose evaluation stops after so many units, with these bytes written; `why` is the
-- number of the refusal.
pub record StreamStops (t : Tree) (units why : ℕ) (bytes : List ℕ) (run : (input output : List ℕ) (fuel : ℕ) → Ran) : Type 0 where
  -- with fuel for one instruction more, and space for these bytes, the run stops just there
  pub enough :
      (rest output : List ℕ) (fuel : ℕ)
      → units < fuel
      → length bytes ≤ length output
      → StoppedAfter units why bytes output (run (tokens t ++ rest) output fuel)
  -- every smaller fuel is used up
  pub fewer :
      (rest output : List ℕ) (fuel : ℕ)
      → fuel ≤ units
      → length bytes ≤ length output
      → RefusedAfterUnits fuel fuel_used_up (run (tokens t ++ rest) output fuel)
  -- with less space, given the fuel, the output is full before that
  pub less_space :
      (rest output : List ℕ) (fuel : ℕ)
      → units < fuel
      → length output < length bytes
      → (run (tokens t ++ rest) output fuel).answer.outcome ≡ refusal output_full (run (tokens t ++ rest) output fuel).answer.bytes_read
  -- with any fuel and any output length, opening bytes of these are written
  pub written_opening : (rest output : List ℕ) (fuel : ℕ) → Opens (written_by (run (tokens t ++ rest) output fuel)) bytes

-- What a run that was refused with 21 came from: the evaluation breaks, and there were fuel and
-- space to come to the sum.
pub record BrokenRun (program : Program) (t : Tree) (output : List ℕ) (fuel : ℕ) (ran : Ran) : Type 0 where
  pub within : BreaksWithin program t most_calls
  pub enough_fuel : stop_units within.breaks < fuel
  pub enough_space : length (stop_bytes within.breaks) ≤ length output
  pub gives : StoppedAfter (stop_units within.breaks) out_of_range (stop_bytes within.breaks) output ran
