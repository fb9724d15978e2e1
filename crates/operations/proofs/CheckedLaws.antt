-- The run of a checked program's code: a law for each way through its functions. An instruction
-- that is not refused with 19 has its words, its room and its return byte (`CannotPerform`), which
-- is what a test would show; and a function does what the one of any code does, once fuel is left.
use Prim.Native.Nat.{ℕ, ◌+◌, ◌-◌, ◌%◌, ◌≤◌, ◌<◌}
use mathlib.Core.Bool.{Bool, true, false}
use Rattle.std.specs.Prelude.{◌↔◌, IsTrue}
use mathlib.Core.List.{List}
use mathlib.Core.Logic.{◌≢◌}
use mathlib.Core.Option.{some}
use mathlib.Core.Path.{◌≡◌, refl, sym, ap, ◌∙◌}
use native.Mathlib.Decide.{dec_le}
use native.Mathlib.Omega.{arith}
use borrow.Author.Tests.{leb-true}
use lib.Dec.{leb}
use lib.ListN.{length, get_or}
use Rattle.formats.specs.Numbers.{number_at}
use Rattle.formats.specs.Records.{fields, record_at, nth}
use Rattle.formats.specs.Tokens.{leaf_tag, node_tag, label_bytes}
use Rattle.formats.proofs.Records.{but}
use Rattle.meaning.specs.Instructions.{Instruction, Operation, operations, operation_of}
use Rattle.meaning.specs.Instructions.{Push, Get, Add, Ifnot, Slide, Drop, WriteNumber, ReadTag, ReadNumber, Call, Return}
use Rattle.meaning.specs.Performing.{State}
use Rattle.meaning.specs.Running.{value_words}
use Rattle.meaning.specs.CannotPerform.{last_opcode, words_needed, words_added, fetched, CannotPerform, no_operation, return_byte, missing_words, surplus_words}
use Rattle.meaning.proofs.Steps.{one_step}
use Rattle.machine_state.specs.declared.Machine.{Machine}
use Rattle.refusal.specs.declared.Refusal.TheVariants.{FuelUsedUp}
use Rattle.machine_state.specs.Inner.States.{state_of, Sound, refused_by, jump_to}
use Rattle.operations.specs.Inner.Effects.{OnNumbers, OnValues, WritesTag, OnOutput, FromInput, OnInput, OnReturns, FromReturns, Performs}
use Rattle.operations.specs.Inner.Checked.{Able, Words, Room, ReturnByte, Turns}
use Rattle.operations.proofs.Frames.{length_words, all_standing}
use Rattle.operations.proofs.StackLaws.{pushes}
use Rattle.operations.proofs.StepLaws.{placed, gets, adds, pushes as named_push, ifnots, jumps, slides, drops, writes_leaf, writes_node, writes_number, reads_tag, reads_number, calls, returned_so, performed_so}

-- ---- the fuel

-- some is left, and the instruction is performed
pub with_fuel :
    (fuel : ℕ) (i : Instruction) (input values returns output values' returns' output' : List ℕ) (s r : Machine)
    → fuel ≢ 0
    → Performs i input values returns output values' returns' output' s r
    → Turns fuel i input values returns output values' returns' output' s r
with_fuel fuel i input values returns output values' returns' output' s r more d = record { used_up = λ e. absurd (more e); performed = λ h. d }

-- .. or none is, and nothing is done
pub fuel_none :
    (fuel : ℕ) (i : Instruction) (input values returns output : List ℕ) (s r : Machine)
    → fuel ≡ 0
    → r ≡ refused_by FuelUsedUp s
    → Turns fuel i input values returns output values returns output s r
fuel_none fuel i input values returns output s r none_left is =
    record {
      used_up = λ e. (is, refl, refl, refl);
      performed = λ some_left. absurd (some_left none_left);
    }

-- ---- what a test says

module _ (t : Bool) (a b : ℕ) where
  pub test_below : IsTrue t ↔ (a < b) → t ≡ true → a < b
  test_below h e = h.0 e

  pub test_not_below : IsTrue t ↔ (a < b) → t ≡ false → b ≤ a
  test_not_below h e = elim (dec_le b a) [
    | yes there ↦ there
    | no missing ↦ let below : a < b = omega arith in let wrong : false ≡ true = sym e ∙ h.1 below in cc
  ]

  pub test_up_to : IsTrue t ↔ (a ≤ b) → t ≡ true → a ≤ b
  test_up_to h e = h.0 e

  pub test_above : IsTrue t ↔ (a ≤ b) → t ≡ false → b < a
  test_above h e = elim (dec_le a b) [
    | yes there ↦ let wrong : false ≡ true = sym e ∙ h.1 there in cc
    | no above ↦ omega arith
  ]

pub ruleset tests = (test_below, test_not_below, test_up_to, test_above)

-- ---- the words that stand, as the laws of the operations ask for them

module _ (s : Machine) where
  pub no_word : s.top - s.base < 1 → s.top ≤ s.base
  no_word few = omega arith

  pub some_word : 1 ≤ s.top - s.base → s.base < s.top
  some_word there = omega arith

  pub words_many : (n : ℕ) → Words n s → n ≤ s.top - s.base
  words_many n words = omega (arith, words.there)

  pub words_some : Words 1 s → s.base < s.top
  words_some words = omega (arith, words.there)

  pub kept_some : (k : ℕ) → k ≢ 0 → Words k s → s.base < s.top
  kept_some k some_kept words = omega (arith, words.there)

module _ (a k : ℕ) where
  pub at_most : a < k + 1 → a ≤ k
  at_most h = omega arith

  pub more_than : k + 1 ≤ a → k < a
  more_than h = omega arith

pub ruleset standing = (no_word, some_word, at_most, more_than)

-- a return's: no word is kept, or one is
module _ (k : ℕ) where
  pub kept_more : 1 < k → k ≢ 1
  kept_more h e = absurd (omega arith)

  pub kept_one : k ≢ 0 → k ≤ 1 → k ≡ 1
  kept_one some_kept few = omega arith

  pub kept_words : (s : Machine) → k ≢ 0 → Words k s → Words 1 s
  kept_words s some_kept words = record { there = omega (arith, words.there) }

pub ruleset keeping = (kept_more, kept_one)

-- ---- `read_number`

-- Where fewer bytes are left than a test asks for, which asks for no more than a label has, no
-- label is whole.
pub no_label : (n asked : ℕ) → n < asked → leb asked label_bytes ≡ true → n < label_bytes
no_label n asked fewer e = omega (arith, fewer, leb-true asked label_bytes e)

-- ---- what an instruction has that is not refused with 19

module _ (i : Instruction) (s : Machine) (a : Able i s) where
  abbrev state : State
  state = state_of a.values a.returns a.output s

  able : CannotPerform a.m state → ⊥
  able c = a.able ((one_step a.m state).cannot_first.1 c)

  -- the words that its operation needs, and room for those that it adds
  words-needed : (op : Operation) → operation_of i ≡ some op → words_needed op ≤ s.top - s.base
  words-needed op named =
      elim (dec_le (words_needed op) (s.top - s.base)) [
        | yes there ↦ there
        | no missing ↦
            let few : length state.frame < words_needed op = omega (arith, length_words a.values s.base (s.top - s.base)) in
            absurd (able (missing_words op (fetched i a.fetched named) few))
      ]

  room_for : (op : Operation) → operation_of i ≡ some op → 0 < words_added op → s.top + words_added op ≤ value_words
  room_for op named more =
      elim (dec_le (s.top + words_added op) value_words) [
        | yes room ↦ room
        | no surplus ↦
            let all = all_standing a.values a.returns a.output s a.held.chained a.held.based in
            absurd (able (surplus_words op (fetched i a.fetched named) more (omega (arith, all, a.held.words_limit))))
      ]

  -- its return byte, and its opcode
  kept_byte : (k : ℕ) → operation_of i ≡ some (Return k) → k ≤ 1
  kept_byte k named =
      elim (dec_le k 1) [
        | yes few ↦ few
        | no many ↦ absurd (able (return_byte k (fetched i a.fetched named) (omega arith)))
      ]

  low_opcode : (opcode byte1 operand number : ℕ) → i ≡ fields opcode byte1 operand number → opcode ≤ last_opcode
  low_opcode opcode byte1 operand number is =
      elim (dec_le opcode last_opcode) [
        | yes low ↦ low
        | no high ↦ absurd (able (no_operation opcode byte1 operand number (a.fetched ∙ ap some is) (omega arith)))
      ]

-- ---- `step`

module _ (i : List ℕ) where
  abbrev x : ℕ
  x = get_or i 0 0

  abbrev b : ℕ
  b = get_or i 1 0

  abbrev operand : ℕ
  operand = number_at 2 i 2

  abbrev number : ℕ
  number = number_at 4 i 4

  module _ (s : Machine) (a : Able (record_at i 0) s) where
    -- no opcode is above 13
    pub opcode_low : x ≤ last_opcode
    unfolding record_at
    opcode_low = low_opcode (record_at i 0) s a x b operand number refl

    -- what the arms' functions ask: by the opcode, the operation and what it needs
    named : (k : ℕ) → x ≡ k → operation_of (record_at i 0) ≡ nth (operations b operand number) k
    named k e = placed i k e

    needs : (k : ℕ) (op : Operation) → x ≡ k → nth (operations b operand number) k ≡ some op → s.base + words_needed op ≤ s.top
    needs k op e is =
        let there = words-needed (record_at i 0) s a op (named k e ∙ is) in
        let based = a.held.based in
        omega arith

    frees : (k : ℕ) (op : Operation) → x ≡ k → nth (operations b operand number) k ≡ some op → words_added op ≡ 1 → Room s
    frees k op e is one =
        let room = room_for (record_at i 0) s a op (named k e ∙ is) (omega arith) in
        record { free = omega arith }

    pub push_room : x ≡ 0 → Room s
    unfolding operations nth words_added
    push_room e = frees 0 (Push number) e refl refl

    pub get_room : x ≡ 1 → Room s
    unfolding operations nth words_added
    get_room e = frees 1 (Get operand) e refl refl

    pub get_words : (o : ℕ) → o ≡ operand → x ≡ 1 → Words (o + 1) s
    unfolding operations nth words_needed
    get_words o is e = let there = needs 1 (Get operand) e refl in record { there = omega arith }

    pub add_words : x ≡ 2 → Words 2 s
    unfolding operations nth words_needed
    add_words e = record { there = needs 2 Add e refl }

    pub ifnot_words : x ≡ 3 → Words 1 s
    unfolding operations nth words_needed
    ifnot_words e = record { there = needs 3 (Ifnot operand) e refl }

    pub slide_words : x ≡ 5 → Words 2 s
    unfolding operations nth words_needed
    slide_words e = record { there = needs 5 Slide e refl }

    pub drop_words : x ≡ 6 → Words 1 s
    unfolding operations nth words_needed
    drop_words e = record { there = needs 6 Drop e refl }

    pub written_words : x ≡ 9 → Words 1 s
    unfolding operations nth words_needed
    written_words e = record { there = needs 9 WriteNumber e refl }

    pub label_room : x ≡ 11 → Room s
    unfolding operations nth words_added
    label_room e = frees 11 ReadNumber e refl refl

    pub call_words : x ≡ 12 → Words b s
    unfolding operations nth words_needed
    call_words e = record { there = needs 12 (Call operand b) e refl }

    pub return_needs : x ≡ 13 → Words b s
    unfolding operations nth words_needed
    return_needs e = record { there = needs 13 (Return b) e refl }

    pub return_keeps : x ≡ 13 → ReturnByte b
    unfolding operations nth
    return_keeps e = record { few = kept_byte (record_at i 0) s a b (named 13 e) }

pub ruleset asked = (push_room, get_room, get_words, add_words, ifnot_words, slide_words, drop_words, written_words, label_room, call_words, return_needs, return_keeps, opcode_low)

-- what `step` and `push` are answered by
pub ruleset stepping = (asked, with_fuel, performed_so)

pub ruleset to_push = (test_up_to, test_above, pushes)

-- ---- an instruction whole: it is performed, or no fuel is left

module _ (i input values returns output : List ℕ) (s r : Machine) (a : Able (record_at i 0) s) (fuel : ℕ) where
  -- .. with these buffers
  abbrev pub Turned : (values' returns' output' : List ℕ) → Type 0
  Turned values' returns' output' = Turns fuel (record_at i 0) input values returns output values' returns' output' s r

  -- an opcode under the mask is the opcode itself
  pub masked : (k : ℕ) → get_or i 0 0 % 16 ≡ k → get_or i 0 0 ≡ k
  masked k e = let low = opcode_low i s a in omega arith

  -- what is done to the value words, with no fuel and with some
  on_values :
      {Done : Type 0} (values' : List ℕ)
      → (fuel ≡ 0 → (r ≡ refused_by FuelUsedUp s) × (values' ≡ values))
      → (fuel ≢ 0 → Done)
      → (Done → Performs (record_at i 0) input values returns output values' returns output s r)
      → Turned values' returns output
  on_values values' unfuelled done did =
      record {
        used_up = λ e. ((unfuelled e).0, (unfuelled e).1, refl, refl);
        performed = λ h. did (done h);
      }

  pub get_turned :
      (o : ℕ) (values' : List ℕ)
      → get_or i 0 0 % 16 ≡ 1
      → o ≡ number_at 2 i 2
      → (fuel ≡ 0 → (r ≡ refused_by FuelUsedUp s) × (values' ≡ values))
      → (fuel ≢ 0 → OnValues (Get o) values values' s r)
      → Turned values' returns output
  get_turned o values' e is unfuelled done = on_values values' unfuelled done (gets i input values returns output s r o values' (masked 1 e) is)

  pub add_turned :
      (values' : List ℕ)
      → get_or i 0 0 % 16 ≡ 2
      → (fuel ≡ 0 → (r ≡ refused_by FuelUsedUp s) × (values' ≡ values))
      → (fuel ≢ 0 → OnValues Add values values' s r)
      → Turned values' returns output
  add_turned values' e unfuelled done = on_values values' unfuelled done (adds i input values returns output s r values' (masked 2 e))

  -- .. to the return words, to the output, and to no buffer
  on_returns :
      {Done : Type 0} (returns' : List ℕ)
      → (fuel ≡ 0 → (r ≡ refused_by FuelUsedUp s) × (returns' ≡ returns))
      → (fuel ≢ 0 → Done)
      → (Done → Performs (record_at i 0) input values returns output values returns' output s r)
      → Turned values returns' output
  on_returns returns' unfuelled done did =
      record {
        used_up = λ e. ((unfuelled e).0, refl, (unfuelled e).1, refl);
        performed = λ h. did (done h);
      }

  on_output :
      {Done : Type 0} (output' : List ℕ)
      → (fuel ≡ 0 → (r ≡ refused_by FuelUsedUp s) × (output' ≡ output))
      → (fuel ≢ 0 → Done)
      → (Done → Performs (record_at i 0) input values returns output values returns output' s r)
      → Turned values returns output'
  on_output output' unfuelled done did =
      record {
        used_up = λ e. ((unfuelled e).0, refl, refl, (unfuelled e).1);
        performed = λ h. did (done h);
      }

  on_none :
      {Done : Type 0}
      → (fuel ≡ 0 → r ≡ refused_by FuelUsedUp s)
      → (fuel ≢ 0 → Done)
      → (Done → Performs (record_at i 0) input values returns output values returns output s r)
      → Turned values returns output
  on_none unfuelled done did =
      record {
        used_up = λ e. (unfuelled e, refl, refl, refl);
        performed = λ h. did (done h);
      }

  pub push_turned :
      (n : ℕ) (values' : List ℕ)
      → get_or i 0 0 % 16 ≡ 0
      → n ≡ number_at 4 i 4
      → (fuel ≡ 0 → (r ≡ refused_by FuelUsedUp s) × (values' ≡ values))
      → (fuel ≢ 0 → OnValues (Push n) values values' s r)
      → Turned values' returns output
  push_turned n values' e is unfuelled done = on_values values' unfuelled done (named_push i input values returns output s r n values' (masked 0 e) is)

  pub ifnot_turned :
      (o : ℕ)
      → get_or i 0 0 % 16 ≡ 3
      → o ≡ number_at 2 i 2
      → (fuel ≡ 0 → r ≡ refused_by FuelUsedUp s)
      → (fuel ≢ 0 → OnValues (Ifnot o) values values s r)
      → Turned values returns output
  ifnot_turned o e is unfuelled done = on_none unfuelled done (ifnots i input values returns output s r o (masked 3 e) is)

  pub jump_turned :
      (o : ℕ)
      → get_or i 0 0 % 16 ≡ 4
      → o ≡ number_at 2 i 2
      → Sound s
      → (fuel ≡ 0 → r ≡ refused_by FuelUsedUp s)
      → (fuel ≢ 0 → r ≡ jump_to o s)
      → Turned values returns output
  jump_turned o e is sound unfuelled done = on_none unfuelled done (jumps i input values returns output s r o (masked 4 e) is sound)

  pub slide_turned :
      (values' : List ℕ)
      → get_or i 0 0 % 16 ≡ 5
      → (fuel ≡ 0 → (r ≡ refused_by FuelUsedUp s) × (values' ≡ values))
      → (fuel ≢ 0 → OnValues Slide values values' s r)
      → Turned values' returns output
  slide_turned values' e unfuelled done = on_values values' unfuelled done (slides i input values returns output s r values' (masked 5 e))

  pub drop_turned :
      get_or i 0 0 % 16 ≡ 6
      → (fuel ≡ 0 → r ≡ refused_by FuelUsedUp s)
      → (fuel ≢ 0 → OnNumbers Drop s r)
      → Turned values returns output
  drop_turned e unfuelled done = on_none unfuelled done (drops i input values returns output s r (masked 6 e))

  pub leaf_turned :
      (output' : List ℕ)
      → get_or i 0 0 % 16 ≡ 7
      → (fuel ≡ 0 → (r ≡ refused_by FuelUsedUp s) × (output' ≡ output))
      → (fuel ≢ 0 → WritesTag leaf_tag output output' s r)
      → Turned values returns output'
  leaf_turned output' e unfuelled done = on_output output' unfuelled done (writes_leaf i input values returns output s r output' (masked 7 e))

  pub node_turned :
      (output' : List ℕ)
      → get_or i 0 0 % 16 ≡ 8
      → (fuel ≡ 0 → (r ≡ refused_by FuelUsedUp s) × (output' ≡ output))
      → (fuel ≢ 0 → WritesTag node_tag output output' s r)
      → Turned values returns output'
  node_turned output' e unfuelled done = on_output output' unfuelled done (writes_node i input values returns output s r output' (masked 8 e))

  pub written_turned :
      (output' : List ℕ)
      → get_or i 0 0 % 16 ≡ 9
      → (fuel ≡ 0 → (r ≡ refused_by FuelUsedUp s) × (output' ≡ output))
      → (fuel ≢ 0 → OnOutput WriteNumber values output output' s r)
      → Turned values returns output'
  written_turned output' e unfuelled done = on_output output' unfuelled done (writes_number i input values returns output s r output' (masked 9 e))

  pub tag_turned :
      (o : ℕ)
      → get_or i 0 0 % 16 ≡ 10
      → o ≡ number_at 2 i 2
      → (fuel ≡ 0 → r ≡ refused_by FuelUsedUp s)
      → (fuel ≢ 0 → OnInput (ReadTag o) input s r)
      → Turned values returns output
  tag_turned o e is unfuelled done = on_none unfuelled done (reads_tag i input values returns output s r o (masked 10 e) is)

  pub label_turned :
      (values' : List ℕ)
      → get_or i 0 0 % 16 ≡ 11
      → (fuel ≡ 0 → (r ≡ refused_by FuelUsedUp s) × (values' ≡ values))
      → (fuel ≢ 0 → FromInput ReadNumber input values values' s r)
      → Turned values' returns output
  label_turned values' e unfuelled done = on_values values' unfuelled done (reads_number i input values returns output s r values' (masked 11 e))

  pub call_turned :
      (o : ℕ) (returns' : List ℕ)
      → get_or i 0 0 % 16 ≡ 12
      → o ≡ number_at 2 i 2
      → (fuel ≡ 0 → (r ≡ refused_by FuelUsedUp s) × (returns' ≡ returns))
      → (fuel ≢ 0 → OnReturns (Call o (get_or i 1 0)) returns returns' s r)
      → Turned values returns' output
  call_turned o returns' e is unfuelled done = on_returns returns' unfuelled done (calls i input values returns output s r o returns' (masked 12 e) is)

  pub return_turned :
      (values' : List ℕ)
      → get_or i 0 0 % 16 ≡ 13
      → (fuel ≡ 0 → (r ≡ refused_by FuelUsedUp s) × (values' ≡ values))
      → (fuel ≢ 0 → FromReturns (Return (get_or i 1 0)) returns values values' s r)
      → Turned values' returns output
  return_turned values' e unfuelled done = on_values values' unfuelled done (returned_so i input values returns output s r values' (masked 13 e))

  -- there is no opcode above 13
  pub none_14 : (values' returns' output' : List ℕ) → get_or i 0 0 % 16 ≡ 14 → Turned values' returns' output'
  none_14 values' returns' output' e = let low = opcode_low i s a in absurd (omega (arith, masked 14 e))

  pub none_more :
      (values' returns' output' : List ℕ)
      → get_or i 0 0 % 16 ≢ 0 → get_or i 0 0 % 16 ≢ 1 → get_or i 0 0 % 16 ≢ 2 → get_or i 0 0 % 16 ≢ 3 → get_or i 0 0 % 16 ≢ 4
      → get_or i 0 0 % 16 ≢ 5 → get_or i 0 0 % 16 ≢ 6 → get_or i 0 0 % 16 ≢ 7 → get_or i 0 0 % 16 ≢ 8 → get_or i 0 0 % 16 ≢ 9
      → get_or i 0 0 % 16 ≢ 10 → get_or i 0 0 % 16 ≢ 11 → get_or i 0 0 % 16 ≢ 12 → get_or i 0 0 % 16 ≢ 13
      → Turned values' returns' output'
  none_more values' returns' output' n0 n1 n2 n3 n4 n5 n6 n7 n8 n9 n10 n11 n12 n13 =
      let y : ℕ = get_or i 0 0 % 16 in
      let from_7 : 7 ≤ y = but 6 y (but 5 y (but 4 y (but 3 y (but 2 y (but 1 y (but 0 y (omega arith) n0) n1) n2) n3) n4) n5) n6 in
      let from_14 : 14 ≤ y = but 13 y (but 12 y (but 11 y (but 10 y (but 9 y (but 8 y (but 7 y from_7 n7) n8) n9) n10) n11) n12) n13 in
      let own = masked y refl in
      let low = opcode_low i s a in
      absurd (omega arith)
