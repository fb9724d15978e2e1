-- When an instruction stops the run: the refusals 15 to 19 and 21, a rule for each condition, and
-- the return of the first frame. None of these rules refers to how an instruction is performed.
--
-- The theorems are StreamRun.antt, `OneStep.refused_exactly` and `OneStep.ends_exactly`: an
-- instruction is refused with a number, or the run ends with one, exactly where a rule says so.
use Rattle.std.specs.Prelude.{ℕ, ◌+◌, ◌≤◌, ◌<◌, List, [], ◌∷◌, ◌≢◌, ◌≡◌, length, get_or}
use Rattle.std.proofs.Math.Option.{none}
use Rattle.formats.specs.Arithmetic.{Op, result_of}
use Rattle.formats.specs.Refusals.{input_ended, not_a_tag, output_full, too_many_calls, cannot_perform, out_of_range}
use Rattle.formats.specs.Tokens.{leaf_tag, node_tag, label_bytes}
use Rattle.meaning.specs.Instructions.{Operation, Compute, LeafTag, NodeTag, WriteNumber, ReadTag, ReadNumber, Call, Return}
use Rattle.meaning.specs.Performing.{Setting, State, calls_open}
use Rattle.meaning.specs.CannotPerform.{Fetches, CannotPerform}

-- The input, the output, the open calls or the numbers prevent an operation. "Four bytes are read
-- or written together or none."
pub data Prevented (m : Setting) (s : State) : Operation → ℕ → Type 0 where
  -- "15 input ended": a read tag with no byte left, a read number with fewer than 4
  no_tag : {a : ℕ} → length m.input ≤ s.read → Prevented m s (ReadTag a) input_ended
  no_label : length m.input < s.read + label_bytes → Prevented m s ReadNumber input_ended
  -- "16 byte not 1 or 2": a read tag at such a byte
  no_such_tag :
      {a : ℕ}
      → s.read < length m.input
      → get_or m.input s.read 0 ≢ leaf_tag
      → get_or m.input s.read 0 ≢ node_tag
      → Prevented m s (ReadTag a) not_a_tag
  -- "17 output full": a leaf tag or a node tag with no room for 1 byte, a write number with no room
  -- for 4
  no_room_for_leaf : m.space < length s.output + 1 → Prevented m s LeafTag output_full
  no_room_for_node : m.space < length s.output + 1 → Prevented m s NodeTag output_full
  no_room_for_number : m.space < length s.output + label_bytes → Prevented m s WriteNumber output_full
  -- "18 a call with 1,024 open (the first frame counts)" (`most_open`, as `of_code` sets it)
  all_open : {entry n : ℕ} → m.most_open ≤ calls_open s → Prevented m s (Call entry n) too_many_calls
  -- N3: "21, sum out of range"; the right number is on top
  no_result : {op : Op} {p q : ℕ} {rest : List ℕ} → s.frame ≡ q ∷ (p ∷ rest) → result_of op p q ≡ none → Prevented m s (Compute op) out_of_range

-- The instruction at the state's address is refused with this number. 01, Instructions that cannot
-- be performed: "At one instruction 19 comes before 15 to 18", and before 21.
pub data Refused (m : Setting) (s : State) : ℕ → Type 0 where
  cannot : CannotPerform m s → Refused m s cannot_perform
  prevented : (op : Operation) (number : ℕ) → (CannotPerform m s → ⊥) → Fetches m s op → Prevented m s op number → Refused m s number

-- The first frame returns with this number: no frame waits for it. 01, Fuel and units: "The run
-- ends at the return of the first frame"; 01, Opcodes: "return (byte 1: 0 or 1 words kept; ..)".
-- The number is the word kept, the top one, and 0 if none is kept.
pub data ReturnsFirst (m : Setting) (s : State) : ℕ → Type 0 where
  none_kept : Fetches m s (Return 0) → s.callers ≡ [] → ReturnsFirst m s 0
  one_kept : (x : ℕ) (rest : List ℕ) → Fetches m s (Return 1) → s.callers ≡ [] → s.frame ≡ x ∷ rest → ReturnsFirst m s x
