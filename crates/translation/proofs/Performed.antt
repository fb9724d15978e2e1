-- One instruction of the templates performed, opcode by opcode: from a state that holds what it
-- needs, to the next. Each is a path of one unit.
use Prim.Native.Nat.{ℕ, zero, suc, ◌+◌, ◌≤◌, ◌<◌}
use mathlib.Core.List.{List, [], ◌∷◌, ◌++◌}
use mathlib.Core.Option.{none, some}
use mathlib.Core.Path.{◌≡◌, refl, ap, ◌∙◌}
use native.Mathlib.Nat.{le_refl}
use native.Mathlib.Omega.{arith}
use borrow.Author.Tests.{lt-ltb, le-ltb, le-leb, lt-leb, ne_eqb}
use lib.ListN.{length, length-append}
use lib.Seq.{take-append_seam, drop-append_seam}
use Rattle.formats.specs.Numbers.{bytes_of, number_at}
use Rattle.formats.specs.Arithmetic.{Op, result_of}
use Rattle.formats.specs.Refusals.{input_ended, not_a_tag, too_many_calls, out_of_range}
use Rattle.formats.specs.Tokens.{leaf_tag, node_tag, label_bytes, no_byte, a_leaf, a_node, other, tag_at}
use Rattle.meaning.specs.Levels.{at_level}
use Rattle.meaning.specs.Instructions.{Operation, Push, Get, Compute, Ifnot, Jump, Slide, Drop, LeafTag, NodeTag, WriteNumber, ReadTag, ReadNumber, Call}
use Rattle.meaning.specs.Performing.{Setting, Caller, State, words_standing, calls_open, goes, refuses}
use Rattle.meaning.specs.Performing.{pop_one, pop_two, if_room, push_word, push_result, write, on_tag, take_number, open_call, operate, perform, step}
use Rattle.meaning.proofs.StreamRun.{stream-run}
use Rattle.translation.proofs.Addresses.{Held}
use Rattle.translation.proofs.Paths.{with_space, Path, one_step}

-- ---- what stands at an address is performed

-- This instruction is next.
abbrev pub Next : Setting → State → Operation → Type 0
Next m s op = Held m.holds s.address op

pub step_is : (m : Setting) (s : State) (op : Operation) → Next m s op → step m s ≡ operate m s op
unfolding step perform
step_is m s op h = simp (step, perform, h, stream-run.reads_back op)

-- where it goes on with every space that holds what is then written, it is a path
performs : (m : Setting) (s t : State) (op : Operation) → Next m s op → length s.output ≤ length t.output
    → ((space : ℕ) → length t.output ≤ space → operate (with_space space m) s op ≡ goes t)
    → Path m s t 1
performs m s t op h grows goes-on = one_step s t grows (λ space fits. step_is (with_space space m) s op h ∙ goes-on space fits)

-- where it writes nothing and goes on with every space
performs_dry : (m : Setting) (s t : State) (op : Operation) → Next m s op → s.output ≡ t.output
    → ((space : ℕ) → operate (with_space space m) s op ≡ goes t)
    → Path m s t 1
performs_dry m s t op h same goes-on = performs m s t op h (rw same (le_refl _)) (λ space fits. goes-on space)

-- ---- states

-- The state with these words in the frame, at another address.
abbrev pub moved : ℕ → List ℕ → State → State
moved a words s = record { address = a; frame = words; callers = s.callers; read = s.read; output = s.output }

-- ---- words

module _ (m : Setting) (s : State) where
  -- There is room for one word more.
  abbrev Roomy : Type 0
  Roomy = words_standing s < m.most_words

  push_goes : (space x : ℕ) → Roomy → push_word (with_space space m) x s ≡ goes (moved (suc s.address) (x ∷ s.frame) s)
  unfolding push_word if_room
  push_goes space x fits = simp (push_word, if_room, lt-ltb _ _ fits)

  pub does_push : (i : ℕ) → Next m s (Push i) → Roomy → Path m s (moved (suc s.address) (i ∷ s.frame) s) 1
  unfolding operate
  does_push i h fits = performs_dry m s _ _ h refl (λ space. push_goes space i fits)

  pub does_get : (k i : ℕ) → Next m s (Get k) → at_level s.frame k ≡ some i → Roomy → Path m s (moved (suc s.address) (i ∷ s.frame) s) 1
  unfolding operate
  does_get k i h found fits = performs_dry m s _ _ h refl (λ space. rw (found, operate) (push_goes space i fits))

  pub does_jump : (a : ℕ) → Next m s (Jump a) → Path m s (moved a s.frame s) 1
  unfolding operate
  does_jump a h = performs_dry m s _ _ h refl (λ space. refl)

  -- an operation puts its result in the place of the two words; without one it is refused
  pub does_compute : (op : Op) (i j x : ℕ) (rest : List ℕ) → Next m s (Compute op) → s.frame ≡ j ∷ (i ∷ rest) → result_of op i j ≡ some x
      → Path m s (moved (suc s.address) (x ∷ rest) s) 1
  unfolding operate pop_two pop_one push_result
  does_compute op i j x rest h e fits = performs_dry m s _ _ h refl (λ space. simp (operate, pop_two, pop_one, push_result, e, fits))

  pub no_result_there : (op : Op) (i j : ℕ) (rest : List ℕ) (space : ℕ) → Next m s (Compute op) → s.frame ≡ j ∷ (i ∷ rest) → result_of op i j ≡ none
      → step (with_space space m) s ≡ refuses out_of_range
  unfolding operate pop_two pop_one push_result
  no_result_there op i j rest space h e missing = step_is (with_space space m) s _ h ∙ simp (operate, pop_two, pop_one, push_result, e, missing)

  pub does_slide : (i j : ℕ) (rest : List ℕ) → Next m s Slide → s.frame ≡ j ∷ (i ∷ rest) → Path m s (moved (suc s.address) (j ∷ rest) s) 1
  unfolding operate pop_two pop_one
  does_slide i j rest h e = performs_dry m s _ _ h refl (λ space. rw (e, operate) refl)

  pub does_drop : (i : ℕ) (rest : List ℕ) → Next m s Drop → s.frame ≡ i ∷ rest → Path m s (moved (suc s.address) rest s) 1
  unfolding operate pop_one
  does_drop i rest h e = performs_dry m s _ _ h refl (λ space. rw (e, operate) refl)

  -- 01, Opcodes: "ifnot (pop; nonzero goes to operand)"
  pub does_ifnot_zero : (a : ℕ) (rest : List ℕ) → Next m s (Ifnot a) → s.frame ≡ zero ∷ rest → Path m s (moved (suc s.address) rest s) 1
  unfolding operate pop_one
  does_ifnot_zero a rest h e = performs_dry m s _ _ h refl (λ space. rw (e, operate) refl)

  pub does_ifnot_other : (a i : ℕ) (rest : List ℕ) → Next m s (Ifnot a) → s.frame ≡ suc i ∷ rest → Path m s (moved a rest s) 1
  unfolding operate pop_one
  does_ifnot_other a i rest h e = performs_dry m s _ _ h refl (λ space. simp (operate, pop_one, e, ne_eqb (suc i) 0 (λ z. absurd (omega arith))))

  -- ---- the output

  -- With these bytes written.
  abbrev written : List ℕ → List ℕ → State
  written words bytes = record { address = suc s.address; frame = words; callers = s.callers; read = s.read; output = s.output ++ bytes }

  -- bytes are written where they fit
  writes : (op : Operation) (words bytes : List ℕ) → Next m s op
      → ((space : ℕ) → operate (with_space space m) s op ≡ write (with_space space m) bytes (moved s.address words s))
      → Path m s (written words bytes) 1
  unfolding write
  writes op words bytes h is =
      let long = length-append s.output bytes in
      performs m s _ op h (omega arith)
      (λ space fits. is space ∙ simp (write, le-leb (length s.output + length bytes) space (omega arith)))

  pub does_leaf_tag : Next m s LeafTag → Path m s (written s.frame (leaf_tag ∷ [])) 1
  unfolding operate
  does_leaf_tag h = writes LeafTag s.frame (leaf_tag ∷ []) h (λ space. refl)

  pub does_node_tag : Next m s NodeTag → Path m s (written s.frame (node_tag ∷ [])) 1
  unfolding operate
  does_node_tag h = writes NodeTag s.frame (node_tag ∷ []) h (λ space. refl)

  pub does_write_number : (i : ℕ) (rest : List ℕ) → Next m s WriteNumber → s.frame ≡ i ∷ rest → Path m s (written rest (bytes_of label_bytes i)) 1
  unfolding operate pop_one
  does_write_number i rest h e = writes WriteNumber rest (bytes_of label_bytes i) h (λ space. rw (e, operate) refl)

  -- ---- the input

  -- With so many bytes more read.
  abbrev reads : ℕ → List ℕ → ℕ → State
  reads a words bytes = record { address = a; frame = words; callers = s.callers; read = s.read + bytes; output = s.output }

  pub does_read_leaf : (a : ℕ) → Next m s (ReadTag a) → tag_at m.input s.read ≡ a_leaf → Path m s (reads (suc s.address) s.frame 1) 1
  unfolding operate on_tag
  does_read_leaf a h e = performs_dry m s _ _ h refl (λ space. rw (e, operate) refl)

  pub does_read_node : (a : ℕ) → Next m s (ReadTag a) → tag_at m.input s.read ≡ a_node → Path m s (reads a s.frame 1) 1
  unfolding operate on_tag
  does_read_node a h e = performs_dry m s _ _ h refl (λ space. rw (e, operate) refl)

  pub does_read_number : (x : ℕ) → Next m s ReadNumber → Roomy → s.read + label_bytes ≤ length m.input
      → number_at label_bytes m.input s.read ≡ x
      → Path m s (reads (suc s.address) (x ∷ s.frame) label_bytes) 1
  unfolding operate if_room take_number
  does_read_number x h fits there e =
      performs_dry m s _ _ h refl (λ space. simp (operate, if_room, take_number, lt-ltb _ _ fits, le-leb _ _ there, e))

  -- ---- faults of the input

  pub no_tag_there : (a space : ℕ) → Next m s (ReadTag a) → tag_at m.input s.read ≡ no_byte → step (with_space space m) s ≡ refuses input_ended
  unfolding operate on_tag
  no_tag_there a space h e = step_is (with_space space m) s _ h ∙ simp (operate, on_tag, e)

  pub other_tag_there : (a space : ℕ) → Next m s (ReadTag a) → tag_at m.input s.read ≡ other → step (with_space space m) s ≡ refuses not_a_tag
  unfolding operate on_tag
  other_tag_there a space h e = step_is (with_space space m) s _ h ∙ simp (operate, on_tag, e)

  pub label_cut_there : (space : ℕ) → Next m s ReadNumber → Roomy → length m.input < s.read + label_bytes
      → step (with_space space m) s ≡ refuses input_ended
  unfolding operate if_room take_number
  label_cut_there space h fits short =
      step_is (with_space space m) s _ h ∙ simp (operate, if_room, take_number, lt-ltb _ _ fits, lt-leb _ _ short)

  -- ---- calls

  -- In a new frame with the arguments as its words, while the present frame waits with the rest.
  abbrev pub inside : ℕ → List ℕ → List ℕ → State
  inside entry arguments rest =
      let waits : Caller = record { back = suc s.address; words = rest } in
      record { address = entry; frame = arguments; callers = waits ∷ s.callers; read = s.read; output = s.output }

  -- there are as many words as arguments
  called : (entry space : ℕ) (arguments rest : List ℕ) → Next m s (Call entry (length arguments)) → s.frame ≡ arguments ++ rest
      → step (with_space space m) s ≡ open_call (with_space space m) entry (length arguments) s
  unfolding operate
  called entry space arguments rest h e =
      let long = ap length e ∙ length-append arguments rest in
      step_is (with_space space m) s _ h ∙ simp (operate, le-leb (length arguments) (length s.frame) (omega arith))

  pub does_call : (entry : ℕ) (arguments rest : List ℕ) → Next m s (Call entry (length arguments)) → s.frame ≡ arguments ++ rest
      → calls_open s < m.most_open
      → Path m s (inside entry arguments rest) 1
  unfolding open_call
  does_call entry arguments rest h e few =
      one_step s _ (le_refl _)
      (λ space fits. called entry space arguments rest h e ∙ simp (open_call, lt-ltb _ _ few, e, take-append_seam arguments rest, drop-append_seam arguments rest))

  pub one_call_more : (entry space : ℕ) (arguments rest : List ℕ) → Next m s (Call entry (length arguments)) → s.frame ≡ arguments ++ rest
      → m.most_open ≤ calls_open s
      → step (with_space space m) s ≡ refuses too_many_calls
  unfolding open_call
  one_call_more entry space arguments rest h e many = called entry space arguments rest h e ∙ simp (open_call, le-ltb _ _ many)
