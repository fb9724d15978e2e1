-- 01, Code and the stream run: the run with its fuel, and its answer.
use Rattle.std.specs.Prelude.{ℕ, zero, suc, true, false, ◌&&◌, List, [], ◌∷◌, length, take, drop, leb}
use Rattle.formats.specs.Refusals.{space_too_short, fuel_used_up}
use Rattle.formats.specs.Results.{Result, done, refusal}
use Rattle.formats.specs.Written.{written}
use Rattle.meaning.specs.Instructions.{held_by}
use Rattle.meaning.specs.Performing.{Setting, State, start, goes, ends, refuses, step}

-- Why a run stops: at the return of the first frame, with its number, or refused.
pub data Stop : Type 0 where
  ended : (number : ℕ) → Stop
  refused : (why : ℕ) → Stop

-- A run: the addresses of the instructions performed, in order; the state in which it stops; why it
-- stops.
pub record Run : Type 0 where
  pub performed : List ℕ
  pub last : State
  pub stop : Stop

-- Stops in this state, with nothing performed.
abbrev pub stopped : State → Stop → Run
stopped s why = record { performed = []; last = s; stop = why }

-- The instruction at an address is performed first.
abbrev pub after_performing : ℕ → Run → Run
after_performing a r = record { performed = a ∷ r.performed; last = r.last; stop = r.stop }

-- 01, Fuel and units: "One unit of fuel is one instruction performed." "A refused instruction
-- counts nothing and changes nothing. Fuel is looked at first."
unfoldable pub run : Setting → ℕ → State → Run
run m zero s = stopped s (refused fuel_used_up)
run m (suc fuel) s =
    elim (step m s) [
      | goes t ↦ after_performing s.address (run m fuel t)
      | ends number ↦ after_performing s.address (stopped s (ended number))
      | refuses number ↦ stopped s (refused number)
    ]

-- One unit for each instruction performed.
abbrev pub units_of : Run → ℕ
units_of r = length r.performed

-- 01, The answer of a stream run: "Its answer gives units, bytes read, bytes written, and the
-- number (0 for a tree or a refusal)."
pub record Answer : Type 0 where
  -- ended, or the refusal's number and position
  pub outcome : Result (Unit {0})
  pub units : ℕ
  pub bytes_read : ℕ
  pub bytes_written : ℕ
  pub number : ℕ

-- The position of every refusal is "bytes read".
unfoldable pub outcome_of : Stop → ℕ → Result (Unit {0})
outcome_of (ended number) read = done tt
outcome_of (refused number) read = refusal number read

-- The number that the answer gives: 0 where the run is refused.
unfoldable pub number_reported : Stop → ℕ
number_reported (ended number) = number
number_reported (refused number) = 0

-- The answer of a run.
abbrev pub answer_of : Run → Answer
answer_of r =
    record {
      outcome = outcome_of r.stop r.last.read;
      units = units_of r;
      bytes_read = r.last.read;
      bytes_written = length r.last.output;
      number = number_reported r.stop;
    }

-- 01, Work words: "Both runs lend 16,384 value words and 1,024 return places of two words." 01, The
-- table of refusals: "a call with 1,024 open".
abbrev pub value_words : ℕ
value_words = 16384

abbrev pub return_words : ℕ
return_words = 2048

abbrev pub most_calls : ℕ
most_calls = 1024

-- The setting of a run of any code, with the limits of 01, Limits.
abbrev pub of_code : List ℕ → List ℕ → ℕ → Setting
of_code code input space = record { holds = held_by code; input = input; space = space; most_words = value_words; most_open = most_calls }

-- What a call of the stream run gives: its answer, and every byte of the output.
pub record Ran : Type 0 where
  pub answer : Answer
  pub output : List ℕ

-- 01, What the lent buffers hold: "what it wrote stays, the rest is untouched".
abbrev pub ran_to : List ℕ → Run → Ran
ran_to output r = record { answer = answer_of r; output = written output 0 r.last.output }

-- 01, The order of the tests: "The runs test 13 before tree or fuel." 01, What the lent buffers
-- hold: "A run refused before its first instruction .. answers 0 in every count."
abbrev pub none_done : Answer
none_done = record { outcome = refusal space_too_short 0; units = 0; bytes_read = 0; bytes_written = 0; number = 0 }

-- A call that is refused with 13: nothing is written.
abbrev pub too_short : List ℕ → Ran
too_short output = record { answer = none_done; output = output }

-- 01, Instructions: "Any buffer may be run as code". A call with so many value words and return
-- words lent.
unfoldable pub stream_run : (code input output : List ℕ) (fuel values returns : ℕ) → Ran
stream_run code input output fuel values returns =
    elim (leb value_words values && leb return_words returns) [
      | true ↦ ran_to output (run (of_code code input (length output)) fuel start)
      | false ↦ too_short output
    ]

-- The bytes that a call has written; and those of a buffer that come after as many bytes.
abbrev pub written_by : Ran → List ℕ
written_by r = take r.answer.bytes_written r.output

abbrev pub untouched_by : Ran → List ℕ → List ℕ
untouched_by r s = drop r.answer.bytes_written s

-- The bytes that a run has read of its input.
abbrev pub read_by : Ran → List ℕ → List ℕ
read_by ran input = take ran.answer.bytes_read input
