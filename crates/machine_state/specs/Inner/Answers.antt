-- What the machine's answers report.
use Rattle.std.specs.Prelude.{◌≡◌, ℕ, ◌+◌, ◌%◌, ◌^◌, true, false, List, Result as Outcome, Ok, Err}
use Rattle.formats.specs.Refusals.{cannot_perform}
use Rattle.formats.specs.Results.{done, refusal}
use Rattle.refusal.specs.Inner.Answered.{answered}
use Rattle.refusal.specs.Inner.Numbers.{number}
use Rattle.refusal.specs.declared.Refusal.{Refusal}
use Rattle.refusal.specs.declared.Refusal.TheVariants.{FuelUsedUp, InputEnded, NotATag, OutputFull, TooManyCalls, CannotPerform, OutOfRange}
use Rattle.refusal.specs.declared.Refused.{Refused}
use Rattle.meaning.specs.Performing.{number_kept}
use Rattle.meaning.specs.Running.{Ran, Answer as Due}
use Rattle.meaning.specs.WorkWords.{WorkWords, before_stream}
use Rattle.machine_state.specs.Inner.States.{frame_of, has_ended}
use Rattle.machine_state.specs.declared.Machine.{Machine}
use Rattle.machine_state.specs.declared.Stop.{Stop}
use Rattle.machine_state.specs.declared.Stop.TheVariants.{Ended, Refused as RefusedWith}
use Rattle.machine_state.specs.declared.Answer.{Answer}

-- The number of a run that has ended; where a run is refused, 0.
abbrev pub number_in : Outcome ℕ Refused → ℕ
number_in (Ok n) = n
number_in (Err r) = 0

-- The answer, as 01, The answer of a stream run, has it.
abbrev pub run_answer : Answer → Due
run_answer a =
    record { outcome = answered (λ n. tt) a.outcome; units = a.units; bytes_read = a.read; bytes_written = a.written; number = number_in a.outcome }

-- The answer of a call that is refused before its first instruction.
abbrev pub nothing_done : Refused → Due
nothing_done r =
    record { outcome = refusal (number r.why) r.position; units = 0; bytes_read = 0; bytes_written = 0; number = 0 }

-- The refusal that is reported: 14 to 19 and 21 are those of a run, any other is reported as 19.
abbrev pub reported_refusal : Refusal → Refusal
reported_refusal FuelUsedUp = FuelUsedUp
reported_refusal InputEnded = InputEnded
reported_refusal NotATag = NotATag
reported_refusal OutputFull = OutputFull
reported_refusal TooManyCalls = TooManyCalls
reported_refusal OutOfRange = OutOfRange
reported_refusal _ = CannotPerform

-- The number that is reported of a stop which is not the run's end: 19 where it has not been
-- refused.
abbrev pub reported_number : Stop → ℕ
reported_number (RefusedWith why) = number (reported_refusal why)
reported_number _ = cannot_perform

-- The answer that is due where the machine stops after `units` instructions. The return that ends a
-- run counts as one more; an instruction that is refused does not.
unfoldable pub due_at : List ℕ → ℕ → Machine → Due
due_at values units s =
    elim (has_ended s.stop) [
      | true ↦
          record { outcome = done tt; units = units + 1; bytes_read = s.read; bytes_written = s.written; number = number_kept (frame_of values s) }
      | false ↦
          record { outcome = refusal (reported_number s.stop) s.read; units = units; bytes_read = s.read; bytes_written = s.written; number = 0 }
    ]

-- An answer is the one that is due.
pub record Reports (values : List ℕ) (units : ℕ) (s : Machine) (r : Answer) : Type 0 where
  pub reports : run_answer r ≡ due_at values units s

-- What is due with its units counted in 64 bits, as an answer holds them.
abbrev pub in_64_bits : Due → Due
in_64_bits due =
    record { outcome = due.outcome; units = due.units % 2 ^ 64; bytes_read = due.bytes_read; bytes_written = due.bytes_written; number = due.number }

-- The units of a run that stops so, counted in 64 bits.
abbrev pub counted : ℕ → Stop → ℕ
counted units Ended = (units + 1) % 2 ^ 64
counted units _ = units

-- A call of the stream run: its answer, every byte of the output, and the work words, which are
-- unspecified after a run.
pub record Performed (due : Ran) (output' values values' returns returns' : List ℕ) (r : Answer) : Type 0 where
  pub answer : run_answer r ≡ due.answer
  pub output : output' ≡ due.output
  pub words : WorkWords before_stream due.answer.outcome values values' returns returns'
