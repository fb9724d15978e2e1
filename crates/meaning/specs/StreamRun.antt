-- What holds of every stream run, of any code: the statements. They are proved in
-- proofs/StreamRun.antt.
use Rattle.std.specs.Prelude.{ℕ, ◌+◌, ◌≤◌, ◌<◌, List, [], ◌∷◌, ◌++◌, ◌↔◌, ◌≢◌, ◌≡◌, true, false, eqb, length, take}
use Rattle.std.proofs.Math.Option.{some}
use Rattle.formats.specs.Buffers.{Opens}
use Rattle.formats.specs.Refusals.{fuel_used_up, input_ended, not_a_tag, output_full, too_many_calls, cannot_perform, out_of_range}
use Rattle.formats.specs.Results.{Result, done, refusal}
use Rattle.formats.specs.Tokens.{label_bytes}
use Rattle.meaning.specs.Instructions.{Instruction, Operation, operation_of, instruction_of, unused_zeroed}
use Rattle.meaning.specs.Performing.{Setting, State, words_standing, calls_open, goes, ends, refuses, step}
use Rattle.meaning.specs.CannotPerform.{CannotPerform}
use Rattle.meaning.specs.Stopping.{Refused, ReturnsFirst}
use Rattle.meaning.specs.Running.{Run, ended, refused, run, units_of, Answer, Ran, stream_run}
use Rattle.meaning.specs.Running.{written_by, untouched_by}

-- ---- one step

-- What an instruction may be refused with. (14 is a refusal of the run.)
pub data StepRefusal : ℕ → Type 0 where
  ended_there : StepRefusal input_ended
  not-a-tag : StepRefusal not_a_tag
  full : StepRefusal output_full
  too_many : StepRefusal too_many_calls
  cannot : StepRefusal cannot_perform
  out-of-range : StepRefusal out_of_range

-- A state within the limits, the input and the output.
pub record Within (m : Setting) (s : State) : Type 0 where
  pub words : words_standing s ≤ m.most_words
  pub calls : calls_open s ≤ m.most_open
  pub read : s.read ≤ length m.input
  pub written : length s.output ≤ m.space

-- From one state to the next: bytes read and written only grow.
pub record Grows (s t : State) : Type 0 where
  pub reads : s.read ≤ t.read
  pub writes : Opens s.output t.output

-- What holds of one step.
pub record OneStep (m : Setting) (s : State) : Type 0 where
  pub refusals : (number : ℕ) → step m s ≡ refuses number → StepRefusal number
  -- 01, Instructions that cannot be performed: "At one instruction 19 comes before 15 to 18". It is
  -- 19 exactly where the instruction can't be performed, whatever the input, the output, the open
  -- calls and the numbers are.
  pub cannot_first : (step m s ≡ refuses cannot_perform) ↔ CannotPerform m s
  -- It is refused with 15 to 19 or 21 exactly where a rule says so, and the run ends there exactly
  -- at the return of the first frame.
  pub refused_exactly : (number : ℕ) → (step m s ≡ refuses number) ↔ Refused m s number
  pub ends_exactly : (number : ℕ) → (step m s ≡ ends number) ↔ ReturnsFirst m s number
  pub grows : (t : State) → step m s ≡ goes t → Grows s t
  pub within : (t : State) → Within m s → step m s ≡ goes t → Within m t

-- ---- runs

-- Steps from one state to another, with the addresses of the instructions performed.
pub data Steps (m : Setting) : List ℕ → State → State → Type 0 where
  here : {s : State} → Steps m [] s s
  on : {past : List ℕ} {s t u : State} → step m s ≡ goes t → Steps m past t u → Steps m (s.address ∷ past) s u

-- A run with its fuel, from s on, described by its steps: the fuel is used up, or there is fuel for
-- one more instruction and the first frame returns, or that instruction is refused.
pub data Stops (m : Setting) (fuel : ℕ) (s : State) : Run → Type 0 where
  used_up : {past : List ℕ} {t : State} → Steps m past s t → length past ≡ fuel → Stops m fuel s (record { performed = past; last = t; stop = refused fuel_used_up })
  returned :
      {past : List ℕ} {t : State} {number : ℕ}
      → Steps m past s t
      → length past < fuel
      → step m t ≡ ends number
      → Stops m fuel s (record { performed = past ++ (t.address ∷ []); last = t; stop = ended number })
  stuck :
      {past : List ℕ} {t : State} {number : ℕ}
      → Steps m past s t
      → length past < fuel
      → step m t ≡ refuses number
      → Stops m fuel s (record { performed = past; last = t; stop = refused number })

-- A run with these instructions performed before it.
abbrev pub after_all : List ℕ → Run → Run
after_all past r = record { performed = past ++ r.performed; last = r.last; stop = r.stop }

-- What holds of runs with one setting, from one state on.
pub record Runs (m : Setting) (s : State) : Type 0 where
  -- units never exceed the fuel, and equal it at 14
  pub within_fuel : (fuel : ℕ) → units_of (run m fuel s) ≤ fuel
  pub fuel_used : (fuel : ℕ) → (run m fuel s).stop ≡ refused fuel_used_up → units_of (run m fuel s) ≡ fuel
  -- a run is its steps, and no other run is
  pub by_steps : (fuel : ℕ) → Stops m fuel s (run m fuel s)
  pub only_one : (fuel : ℕ) (r : Run) → Stops m fuel s r → r ≡ run m fuel s
  -- with more fuel a run goes through the same states
  pub goes-on : (past : List ℕ) (t : State) (fuel : ℕ) → Steps m past s t → run m (length past + fuel) s ≡ after_all past (run m fuel t)
  pub grows : (fuel more : ℕ) → fuel ≤ more → Grows (run m fuel s).last (run m more s).last
  -- a run that stops for another reason than its fuel stops so with every larger fuel
  pub settled : (fuel more : ℕ) → (run m fuel s).stop ≢ refused fuel_used_up → fuel ≤ more → run m more s ≡ run m fuel s
  pub within : (fuel : ℕ) → Within m s → Within m (run m fuel s).last

-- ---- calls

-- How many bytes, from bytes read on, a run has looked at without reading them: at 16 the byte that
-- is no tag; at 15 up to four bytes of a label, or the input's end.
unfoldable pub looked_at : Result (Unit {0}) → ℕ
looked_at (done x) = 0
looked_at (refusal number position) =
    elim (eqb number input_ended) [
      | true ↦ label_bytes
      | false ↦ elim (eqb number not_a_tag) [ true ↦ 1 | false ↦ 0 ]
    ]

-- The opening bytes of an input that a call's answer rests on.
abbrev pub rests_on : Answer → ℕ
rests_on a = a.bytes_read + looked_at a.outcome

-- What holds of calls of the stream run that differ in input and fuel alone: code, work space and
-- output are the same.
pub record StreamCalls (output : List ℕ) (call : List ℕ → ℕ → Ran) : Type 0 where
  -- units never exceed the fuel, and equal it at 14
  pub within_fuel : (input : List ℕ) (fuel : ℕ) → (call input fuel).answer.units ≤ fuel
  pub fuel_used : (input : List ℕ) (fuel position : ℕ) → (call input fuel).answer.outcome ≡ refusal fuel_used_up position → (call input fuel).answer.units ≡ fuel
  -- where it is refused, the position is the bytes read, and the answer's number is 0
  pub at_read : (input : List ℕ) (fuel why position : ℕ) → (call input fuel).answer.outcome ≡ refusal why position → position ≡ (call input fuel).answer.bytes_read
  pub no_number : (input : List ℕ) (fuel why position : ℕ) → (call input fuel).answer.outcome ≡ refusal why position → (call input fuel).answer.number ≡ 0
  -- what is read is there, what is written fits, and the rest of the output is untouched
  pub read_there : (input : List ℕ) (fuel : ℕ) → (call input fuel).answer.bytes_read ≤ length input
  pub written_fits : (input : List ℕ) (fuel : ℕ) → (call input fuel).answer.bytes_written ≤ length output
  pub same_length : (input : List ℕ) (fuel : ℕ) → length (call input fuel).output ≡ length output
  pub untouched : (input : List ℕ) (fuel : ℕ) → untouched_by (call input fuel) (call input fuel).output ≡ untouched_by (call input fuel) output
  -- with more fuel, bytes read and written only grow, and what was written is a prefix of what is
  -- written later
  pub reads_on : (input : List ℕ) (fuel more : ℕ) → fuel ≤ more → (call input fuel).answer.bytes_read ≤ (call input more).answer.bytes_read
  pub writes_on : (input : List ℕ) (fuel more : ℕ) → fuel ≤ more → Opens (written_by (call input fuel)) (written_by (call input more))
  -- a run that ends, ends with every larger fuel, with the same answer and output
  pub ended_stays : (input : List ℕ) (fuel more : ℕ) → (call input fuel).answer.outcome ≡ done tt → fuel ≤ more → call input more ≡ call input fuel
  -- so does one that is refused, save where its fuel is used up
  pub stays :
      (input : List ℕ) (fuel more : ℕ)
      → ((position : ℕ) → (call input fuel).answer.outcome ≢ refusal fuel_used_up position)
      → fuel ≤ more
      → call input more ≡ call input fuel
  -- every other input that opens with the bytes read, and agrees on those looked at besides, gives
  -- the same answer and output
  pub same_input :
      (input other : List ℕ) (fuel : ℕ)
      → take (rests_on (call input fuel).answer) other ≡ take (rests_on (call input fuel).answer) input
      → call other fuel ≡ call input fuel

-- What holds of runs of any code.
pub record StreamRun : Type 0 where
  -- an instruction is read as it is written
  pub reads_back : (op : Operation) → operation_of (instruction_of op) ≡ some op
  -- its unused fields are written zero: what is written for an operation is any instruction that
  -- has it, with the unused fields zero ..
  pub written_zero : (i : Instruction) (op : Operation) → operation_of i ≡ some op → instruction_of op ≡ unused_zeroed i
  -- .. and not looked at: whatever they hold, the operation is the same
  pub not_looked_at : (i : Instruction) → operation_of i ≡ operation_of (unused_zeroed i)
  pub steps : (m : Setting) (s : State) → OneStep m s
  pub runs : (m : Setting) (s : State) → Runs m s
  pub calls : (code output : List ℕ) (values returns : ℕ) → StreamCalls output (λ input fuel. stream_run code input output fuel values returns)
