-- 01, Code and the stream run: the state, and one instruction performed.
use Rattle.std.specs.Prelude.{ℕ, zero, suc, ◌+◌, true, false, List, [], ◌∷◌, ◌++◌, length, take, drop, leb, ltb, eqb}
use Rattle.std.proofs.Math.Option.{Option, none, some}
use Rattle.formats.specs.Numbers.{bytes_of, number_at}
use Rattle.formats.specs.Arithmetic.{result_of}
use Rattle.formats.specs.Refusals.{input_ended, not_a_tag, output_full, too_many_calls, cannot_perform, out_of_range}
use Rattle.formats.specs.Tokens.{leaf_tag, node_tag, label_bytes, Tag, no_byte, a_leaf, a_node, other, tag_at}
use Rattle.meaning.specs.Levels.{at_level}
use Rattle.meaning.specs.Instructions.{Instruction, Operation, Push, Get, Compute, Ifnot, Jump, Slide, Drop, LeafTag, NodeTag, WriteNumber, ReadTag, ReadNumber, Call, Return, operation_of}

-- What a run is given: what each address holds, the input, the output's length; and its limits.
pub record Setting : Type 0 where
  pub holds : ℕ → Option Instruction
  pub input : List ℕ
  pub space : ℕ
  -- words on the value stack, of all frames together
  pub most_words : ℕ
  -- calls open at once, the first frame counting as one
  pub most_open : ℕ

-- A frame that waits for a call: the address to go on at, and its words, the top one first.
pub record Caller : Type 0 where
  pub back : ℕ
  pub words : List ℕ

-- The state of a run.
pub record State : Type 0 where
  pub address : ℕ
  -- the words above the frame's base, the top one first
  pub frame : List ℕ
  -- the frames below, the nearest first
  pub callers : List Caller
  -- bytes read
  pub read : ℕ
  -- the bytes written, in order
  pub output : List ℕ

-- 01, The state of a stream run: "from address 0".
abbrev pub start : State
start = record { address = 0; frame = []; callers = []; read = 0; output = [] }

-- The words of the frames below.
unfoldable pub words_below : List Caller → ℕ
words_below [] = 0
words_below (c ∷ cs) = length c.words + words_below cs

-- All words on the value stack.
unfoldable pub words_standing : State → ℕ
words_standing s = length s.frame + words_below s.callers

-- 01, The table of refusals: "18 a call with 1,024 open (the first frame counts)". The calls open.
unfoldable pub calls_open : State → ℕ
calls_open s = suc (length s.callers)

-- The outcome of an instruction. 01, Fuel and units: "A refused instruction counts nothing and
-- changes nothing." 01, The answer of a stream run: "The run ends at the return of the first frame.
-- Its answer gives .. the number (0 for a tree ..)".
pub data Step : Type 0 where
  goes : (next : State) → Step
  ends : (number : ℕ) → Step
  refuses : (why : ℕ) → Step

-- ---- changes of the state

-- Goes on at an address.
abbrev pub go_to : ℕ → State → State
go_to a s = record { address = a; frame = s.frame; callers = s.callers; read = s.read; output = s.output }

-- Goes on at the next address.
abbrev pub to_next : State → State
to_next s = go_to (suc s.address) s

-- With these words in the frame.
abbrev pub holding : List ℕ → State → State
holding words s = record { address = s.address; frame = words; callers = s.callers; read = s.read; output = s.output }

-- With so many bytes more read.
abbrev pub reading : ℕ → State → State
reading bytes s = record { address = s.address; frame = s.frame; callers = s.callers; read = s.read + bytes; output = s.output }

-- With these bytes written after the others.
abbrev pub writing : List ℕ → State → State
writing bytes s = record { address = s.address; frame = s.frame; callers = s.callers; read = s.read; output = s.output ++ bytes }

-- In a new frame with the arguments as its words, while the present frame waits with the rest.
abbrev pub calling : ℕ → List ℕ → List ℕ → State → State
calling entry arguments rest s =
    let waits : Caller = record { back = suc s.address; words = rest } in
    record { address = entry; frame = arguments; callers = waits ∷ s.callers; read = s.read; output = s.output }

-- Back in the nearest frame that waits, with these words pushed.
abbrev pub returning : List ℕ → Caller → List Caller → State → State
returning kept c cs s = record { address = c.back; frame = kept ++ c.words; callers = cs; read = s.read; output = s.output }

-- ---- tests. 01, Instructions that cannot be performed: "19 instruction that can't be performed
-- (.. missing or surplus words)"

-- 01, Instructions that cannot be performed: "words are missing above the frame's base". One word
-- is taken, or two, the top one first, and handed on with those under them.
unfoldable pub pop_one : List ℕ → (ℕ → List ℕ → Step) → Step
pop_one [] f = refuses cannot_perform
pop_one (x ∷ rest) f = f x rest

unfoldable pub pop_two : List ℕ → (ℕ → ℕ → List ℕ → Step) → Step
pop_two frame f = pop_one frame (λ x under. pop_one under (λ y rest. f x y rest))

-- 01, Instructions that cannot be performed: "surplus above 16,384".
unfoldable pub if_room : Setting → State → Step → Step
if_room m s then = elim (ltb (words_standing s) m.most_words) [ true ↦ then | false ↦ refuses cannot_perform ]

-- A word pushed.
unfoldable pub push_word : Setting → ℕ → State → Step
push_word m x s = if_room m s (goes (to_next (holding (x ∷ s.frame) s)))

-- The result of two words taken, in their place. N3: "21, sum out of range, .. tested when both
-- numbers stand."
unfoldable pub push_result : Option ℕ → List ℕ → State → Step
push_result (some x) rest s = goes (to_next (holding (x ∷ rest) s))
push_result none rest s = refuses out_of_range

-- 01, Opcodes: "17 output full". 01, Notation: "Four bytes are read or written together or none."
unfoldable pub write : Setting → List ℕ → State → Step
write m bytes s = elim (leb (length s.output + length bytes) m.space) [ true ↦ goes (to_next (writing bytes s)) | false ↦ refuses output_full ]

-- 01, Opcodes: "leaf goes on, node goes to operand"; "15 input ended, 16 byte not 1 or 2".
unfoldable pub on_tag : Tag → ℕ → State → Step
on_tag no_byte a s = refuses input_ended
on_tag a_leaf a s = goes (to_next (reading 1 s))
on_tag a_node a s = goes (go_to a (reading 1 s))
on_tag other a s = refuses not_a_tag

-- The four bytes of a number, pushed.
unfoldable pub take_number : Setting → State → Step
take_number m s =
    elim (leb (s.read + label_bytes) (length m.input)) [
      | true ↦ goes (to_next (reading label_bytes (holding (number_at label_bytes m.input s.read ∷ s.frame) s)))
      | false ↦ refuses input_ended
    ]

-- 01, Opcodes: "call (operand: entry; byte 1: arguments, the new frame's first words)".
unfoldable pub open_call : Setting → ℕ → ℕ → State → Step
open_call m entry n s =
    elim (ltb (calls_open s) m.most_open) [
      | true ↦ goes (calling entry (take n s.frame) (drop n s.frame) s)
      | false ↦ refuses too_many_calls
    ]

-- 01, Opcodes: "return (byte 1: 0 or 1 words kept ..)". The words kept, if so many can be.
unfoldable pub kept : ℕ → List ℕ → Option (List ℕ)
kept zero frame = some []
kept (suc zero) [] = none
kept (suc zero) (x ∷ rest) = some (x ∷ [])
kept (suc (suc k)) frame = none

-- The word kept, or 0.
unfoldable pub number_kept : List ℕ → ℕ
number_kept [] = 0
number_kept (x ∷ rest) = x

-- 01, Opcodes: "the frame is cut, that word pushed". 01, Fuel and units: "The run ends at the
-- return of the first frame."
unfoldable pub leave : List Caller → List ℕ → State → Step
leave [] words s = ends (number_kept words)
leave (c ∷ cs) words s = goes (returning words c cs s)

-- ---- one instruction

-- One line for each opcode, 0 to 13. 01, Instructions that cannot be performed: "At one instruction
-- 19 comes before 15 to 18", and before 21.
unfoldable pub operate : Setting → State → Operation → Step
operate m s (Push x) = push_word m x s
operate m s (Get k) = elim (at_level s.frame k) [ some x ↦ push_word m x s | none ↦ refuses cannot_perform ]
operate m s (Compute op) = pop_two s.frame (λ q p rest. push_result (result_of op p q) rest s)
operate m s (Ifnot a) = pop_one s.frame (λ x rest. goes (go_to (elim (eqb x 0) [ true ↦ suc s.address | false ↦ a ]) (holding rest s)))
operate m s (Jump a) = goes (go_to a s)
operate m s Slide = pop_two s.frame (λ x under rest. goes (to_next (holding (x ∷ rest) s)))
operate m s Drop = pop_one s.frame (λ x rest. goes (to_next (holding rest s)))
operate m s LeafTag = write m (leaf_tag ∷ []) s
operate m s NodeTag = write m (node_tag ∷ []) s
operate m s WriteNumber = pop_one s.frame (λ x rest. write m (bytes_of label_bytes x) (holding rest s))
operate m s (ReadTag a) = on_tag (tag_at m.input s.read) a s
operate m s ReadNumber = if_room m s (take_number m s)
operate m s (Call entry n) = elim (leb n (length s.frame)) [ true ↦ open_call m entry n s | false ↦ refuses cannot_perform ]
operate m s (Return k) = elim (kept k s.frame) [ some words ↦ leave s.callers words s | none ↦ refuses cannot_perform ]

-- An instruction, by its fields. 01, Instructions that cannot be performed: "19 .. (opcode ..)".
unfoldable pub perform : Setting → State → Instruction → Step
perform m s i = elim (operation_of i) [ some op ↦ operate m s op | none ↦ refuses cannot_perform ]

-- 01, Instructions that cannot be performed: "an address is tested when its instruction is
-- fetched".
unfoldable pub step : Setting → State → Step
step m s = elim (m.holds s.address) [ some i ↦ perform m s i | none ↦ refuses cannot_perform ]
