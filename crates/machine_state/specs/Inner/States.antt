-- The state that the machine's numbers and the lent words stand for.
use Rattle.std.specs.Prelude.{◌≡◌, ℕ, zero, suc, ◌+◌, ◌-◌, ◌/◌, ◌<◌, ◌≤◌, min, Bool, true, false, List, [], ◌∷◌, length, take, nat_lt, slice_index, slice_index_or}
use Rattle.formats.specs.Refusals.{cannot_perform}
use Rattle.refusal.specs.Inner.Numbers.{number}
use Rattle.refusal.specs.declared.Refusal.{Refusal}
use Rattle.meaning.specs.Instructions.{instruction_bytes, most_instructions}
use Rattle.meaning.specs.Performing.{Setting, Caller, State, Step, goes, ends, refuses, number_kept}
use Rattle.meaning.specs.Running.{value_words, return_words, most_calls}
use Rattle.machine_state.specs.declared.Machine.{Machine}
use Rattle.machine_state.specs.declared.Stop.{Stop}
use Rattle.machine_state.specs.declared.Stop.TheVariants.{GoesOn, Ended, Refused}

-- The n value words from a base up, the top one first.
unfoldable pub words_from : List ℕ → ℕ → ℕ → List ℕ
words_from values base zero = []
words_from values base (suc n) = slice_index values (base + n) ∷ words_from values base n

-- The frames that wait, the nearest first, below a base: a return place has two words, the address
-- to go on at and the frame's own base.
unfoldable pub waiting : List ℕ → List ℕ → ℕ → ℕ → List Caller
waiting values returns base zero = []
waiting values returns base (suc zero) = []
waiting values returns base (suc (suc n)) =
    let own : ℕ = slice_index_or returns (suc n) 0 in
    let caller : Caller = record { back = slice_index returns n; words = words_from values own (base - own) } in
    caller ∷ waiting values returns own n

-- The frame's words, the top one first.
abbrev pub frame_of : List ℕ → Machine → List ℕ
frame_of values s = words_from values s.base (s.top - s.base)

-- The state of the run that the machine's numbers and the lent buffers stand for.
abbrev pub state_of : (values returns output : List ℕ) → Machine → State
state_of values returns output s =
    record {
      address = s.address;
      frame = frame_of values s;
      callers = waiting values returns s.base s.saved;
      read = s.read;
      output = take s.written output;
    }

-- Whether the machine goes on, and whether its run has ended.
abbrev pub goes_on : Stop → Bool
goes_on GoesOn = true
goes_on _ = false

abbrev pub has_ended : Stop → Bool
has_ended Ended = true
has_ended _ = false

-- The number of the refusal that stops the machine: 19 where it has not been refused.
abbrev pub refusal_number : Stop → ℕ
refusal_number (Refused why) = number why
refusal_number _ = cannot_perform

-- The outcome of an instruction: the run goes on; it has ended, and its number is the top word of
-- the frame, if there is one; or the instruction is refused.
unfoldable pub step_of : (values returns output : List ℕ) → Machine → Step
step_of values returns output s =
    elim (goes_on s.stop) [
      | true ↦ goes (state_of values returns output s)
      | false ↦ elim (has_ended s.stop) [ true ↦ ends (number_kept (frame_of values s)) | false ↦ refuses (refusal_number s.stop) ]
    ]

-- The bases of the frames that wait lie one above the other, and the first frame's is 0.
pub data Chained (returns : List ℕ) : ℕ → ℕ → Type 0 where
  first : Chained returns 0 0
  above : {base n : ℕ} → slice_index returns (suc n) ≤ base → Chained returns (slice_index returns (suc n)) n → Chained returns base (suc (suc n))

-- How many addresses hold an instruction, in code of so many bytes.
abbrev pub limit_of : ℕ → ℕ
limit_of bytes = min most_instructions (bytes / instruction_bytes)

-- A machine that goes on, its frame within the value words.
pub record Going (s : Machine) : Type 0 where
  pub going : s.stop ≡ GoesOn
  pub based : s.base ≤ s.top
  pub topped : s.top ≤ value_words

-- .. and its address below the most instructions.
pub record Sound (s : Machine) : Type 0 where
  pub going : s.stop ≡ GoesOn
  pub addressed : s.address < most_instructions
  pub based : s.base ≤ s.top
  pub topped : s.top ≤ value_words

-- Lent buffers and the machine's numbers that stand for a state of a run in this setting.
pub record Held (m : Setting) (values returns output : List ℕ) (s : Machine) : Type 0 where
  pub words_limit : m.most_words ≡ value_words
  pub calls_limit : m.most_open ≡ most_calls
  pub space_is : m.space ≡ length output
  pub values_lent : value_words ≤ length values
  pub returns_lent : return_words ≤ length returns
  pub based : s.base ≤ s.top
  pub topped : s.top ≤ value_words
  pub saved_fits : s.saved + 2 ≤ return_words
  pub chained : Chained returns s.base s.saved
  pub read_there : s.read ≤ length m.input
  pub written_there : s.written ≤ length output

-- The buffers are as long as 01, Work words, asks, and as the machine's numbers need.
pub record Lent (s : Machine) (input output values returns : List ℕ) : Type 0 where
  pub values_lent : value_words ≤ length values
  pub returns_lent : return_words ≤ length returns
  pub saved_fits : s.saved + 2 ≤ return_words
  pub read_there : s.read ≤ length input
  pub written_there : s.written ≤ length output

-- ---- changes of the machine's numbers

abbrev pub stopped_by : Stop → Machine → Machine
stopped_by why s =
    record { stop = why; address = s.address; top = s.top; base = s.base; saved = s.saved; read = s.read; written = s.written }

abbrev pub refused_by : Refusal → Machine → Machine
refused_by why = stopped_by (Refused why)

abbrev pub next_to : ℕ → Machine → Machine
next_to top s =
    record { stop = s.stop; address = s.address + 1; top = top; base = s.base; saved = s.saved; read = s.read; written = s.written }

abbrev pub jump_to : ℕ → Machine → Machine
jump_to address s =
    record { stop = s.stop; address = address; top = s.top; base = s.base; saved = s.saved; read = s.read; written = s.written }

-- After the frame is left: back in the nearest frame that waits, or the run has ended.
unfoldable pub left : List ℕ → ℕ → Machine → Machine
left returns top s =
    elim (nat_lt s.saved 2) [
      | true ↦ record { stop = Ended; address = s.address; top = top; base = s.base; saved = s.saved; read = s.read; written = s.written }
      | false ↦
          record {
            stop = s.stop;
            address = slice_index returns (s.saved - 2);
            top = top;
            base = slice_index returns (s.saved - 1);
            saved = s.saved - 2;
            read = s.read;
            written = s.written;
          }
    ]
