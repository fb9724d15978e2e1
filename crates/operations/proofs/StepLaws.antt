-- A law for each way out of `step` and `turn`. An opcode names its operation, and what was done on
-- some of the buffers leaves the others; an address below the limit holds its record, and any other
-- holds none.
use Prim.Native.Nat.{ℕ, ◌+◌, ◌*◌, ◌≤◌, ◌<◌}
use mathlib.Core.Bool.{Bool, true, false}
use mathlib.Core.List.{List}
use mathlib.Core.Logic.{◌≢◌}
use mathlib.Core.Option.{none, some}
use mathlib.Core.Path.{◌≡◌, refl, sym, ap, ◌∙◌}
use native.Mathlib.Omega.{arith}
use borrow.Author.Tests.{lt-ltb, le-leb, lt-leb, ltb-true}
use lib.Dec.{ltb}
use lib.ListN.{length, get_or}
use Rattle.formats.specs.Numbers.{number_at}
use Rattle.formats.specs.Records.{record_at, nth}
use Rattle.formats.specs.Refusals.{cannot_perform}
use Rattle.formats.specs.Tokens.{leaf_tag, node_tag}
use Rattle.formats.proofs.Records.{none_past, but}
use Rattle.meaning.specs.Instructions.{Instruction, instruction_bytes, most_instructions, held_by, Operation, operations, operation_of}
use Rattle.meaning.specs.Instructions.{Push, Get, Add, Ifnot, Jump, Slide, Drop, LeafTag, NodeTag, WriteNumber, ReadTag, ReadNumber, Call, Return}
use Rattle.meaning.specs.Performing.{Setting, State, refuses, operate, perform, step}
use Rattle.machine_state.specs.declared.Machine.{Machine}
use Rattle.refusal.specs.declared.Refusal.TheVariants.{CannotPerform}
use Rattle.machine_state.specs.Inner.States.{state_of, Held, Sound, limit_of, refused_by, jump_to}
use Rattle.operations.specs.Inner.Effects.{Does, OnNumbers, OnValues, WritesTag, OnOutput, FromInput, OnInput, OnReturns, FromReturns, Performs, Steps}
use Rattle.operations.specs.Inner.Checked.{Turns}
use Rattle.operations.proofs.Effects.{held_moved, refused_so, goes_so}

-- ---- the operation that an opcode names

performs_named : (m : Setting) (s : State) (i : Instruction) (op : Operation) → operation_of i ≡ some op → perform m s i ≡ operate m s op
unfolding perform
performs_named m s i op e = rw (perform, e)

performs_none : (m : Setting) (s : State) (i : Instruction) → operation_of i ≡ none → perform m s i ≡ refuses cannot_perform
unfolding perform
performs_none m s i e = rw (perform, e)

-- ---- `step`

-- opcode k names the operation listed at number k
pub placed : (i : List ℕ) (k : ℕ) → get_or i 0 0 ≡ k → operation_of (record_at i 0) ≡ nth (operations (get_or i 1 0) (number_at 2 i 2) (number_at 4 i 4)) k
unfolding operation_of record_at
placed i k e = ap (nth (operations (get_or i 1 0) (number_at 2 i 2) (number_at 4 i 4))) e

module _ (i input values returns output : List ℕ) (s r : Machine) where
  -- the instruction's opcode, byte 1, operand and number
  abbrev x : ℕ
  x = get_or i 0 0

  abbrev b : ℕ
  b = get_or i 1 0

  abbrev operand : ℕ
  operand = number_at 2 i 2

  abbrev number : ℕ
  number = number_at 4 i 4

  -- the instruction of these bytes leaves these buffers
  abbrev pub Leaves : (values' returns' output' : List ℕ) → Type 0
  Leaves values' returns' output' = Performs (record_at i 0) input values returns output values' returns' output' s r

  -- the instruction does what its operation does
  as_named :
      (op : Operation) (values' returns' output' : List ℕ)
      → operation_of (record_at i 0) ≡ some op
      → ((m : Setting)
      → m.input ≡ input
      → Held m values returns output s
      → Does m (operate m (state_of values returns output s) op) values returns output values' returns' output' s r)
      → Leaves values' returns' output'
  as_named op values' returns' output' e d =
      record { does = λ m given h. rw (performs_named m (state_of values returns output s) _ op e) (d m given h) }

  on_values :
      (op : Operation) (values' : List ℕ)
      → operation_of (record_at i 0) ≡ some op
      → OnValues op values values' s r
      → Leaves values' returns output
  on_values op values' e d = as_named op values' returns output e (λ m given h. d.does m returns output h)

  pub pushes : (n : ℕ) (values' : List ℕ) → x ≡ 0 → n ≡ number → OnValues (Push n) values values' s r → Leaves values' returns output
  unfolding operations nth
  pushes n values' e is d = on_values (Push n) values' (placed i 0 e ∙ ap (λ k. some (Push k)) (sym is)) d

  pub gets : (o : ℕ) (values' : List ℕ) → x ≡ 1 → o ≡ operand → OnValues (Get o) values values' s r → Leaves values' returns output
  unfolding operations nth
  gets o values' e is d = on_values (Get o) values' (placed i 1 e ∙ ap (λ k. some (Get k)) (sym is)) d

  pub adds : (values' : List ℕ) → x ≡ 2 → OnValues Add values values' s r → Leaves values' returns output
  unfolding operations nth
  adds values' e d = on_values Add values' (placed i 2 e) d

  pub ifnots : (o : ℕ) → x ≡ 3 → o ≡ operand → OnValues (Ifnot o) values values s r → Leaves values returns output
  unfolding operations nth
  ifnots o e is d = on_values (Ifnot o) values (placed i 3 e ∙ ap (λ k. some (Ifnot k)) (sym is)) d

  pub jumps : (o : ℕ) → x ≡ 4 → o ≡ operand → Sound s → r ≡ jump_to o s → Leaves values returns output
  unfolding operations nth operate
  jumps o e is sound jumped =
      as_named (Jump o) values returns output (placed i 4 e ∙ ap (λ k. some (Jump k)) (sym is)) (λ m given h. rw jumped
      (let held =
      held_moved m values returns output values output s o s.top s.read s.written h refl refl
      h.based h.topped h.read_there h.written_there in
      goes_so m _ values returns output values returns output s (jump_to o s) refl sound.going held refl refl refl refl))

  pub slides : (values' : List ℕ) → x ≡ 5 → OnValues Slide values values' s r → Leaves values' returns output
  unfolding operations nth
  slides values' e d = on_values Slide values' (placed i 5 e) d

  pub drops : x ≡ 6 → OnNumbers Drop s r → Leaves values returns output
  unfolding operations nth
  drops e d = as_named Drop values returns output (placed i 6 e) (λ m given h. d.does m values returns output h)

  pub writes_leaf : (output' : List ℕ) → x ≡ 7 → WritesTag leaf_tag output output' s r → Leaves values returns output'
  unfolding operations nth operate
  writes_leaf output' e d = as_named LeafTag values returns output' (placed i 7 e) (λ m given h. d.does m values returns h)

  pub writes_node : (output' : List ℕ) → x ≡ 8 → WritesTag node_tag output output' s r → Leaves values returns output'
  unfolding operations nth operate
  writes_node output' e d = as_named NodeTag values returns output' (placed i 8 e) (λ m given h. d.does m values returns h)

  pub writes_number : (output' : List ℕ) → x ≡ 9 → OnOutput WriteNumber values output output' s r → Leaves values returns output'
  unfolding operations nth
  writes_number output' e d = as_named WriteNumber values returns output' (placed i 9 e) (λ m given h. d.does m returns h)

  pub reads_tag : (o : ℕ) → x ≡ 10 → o ≡ operand → OnInput (ReadTag o) input s r → Leaves values returns output
  unfolding operations nth
  reads_tag o e is d =
      as_named (ReadTag o) values returns output (placed i 10 e ∙ ap (λ k. some (ReadTag k)) (sym is))
      (λ m given h. (d.does values).does m returns output given h)

  pub reads_number : (values' : List ℕ) → x ≡ 11 → FromInput ReadNumber input values values' s r → Leaves values' returns output
  unfolding operations nth
  reads_number values' e d = as_named ReadNumber values' returns output (placed i 11 e) (λ m given h. d.does m returns output given h)

  pub calls : (o : ℕ) (returns' : List ℕ) → x ≡ 12 → o ≡ operand → OnReturns (Call o b) returns returns' s r → Leaves values returns' output
  unfolding operations nth
  calls o returns' e is d =
      as_named (Call o b) values returns' output (placed i 12 e ∙ ap (λ k. some (Call k b)) (sym is)) (λ m given h. d.does m values output h)

  pub returned_so : (values' : List ℕ) → x ≡ 13 → FromReturns (Return b) returns values values' s r → Leaves values' returns output
  unfolding operations nth
  returned_so values' e d = as_named (Return b) values' returns output (placed i 13 e) (λ m given h. d.does m output h)

  -- any other opcode
  pub names_none :
      x ≢ 0 → x ≢ 1 → x ≢ 2 → x ≢ 3 → x ≢ 4 → x ≢ 5 → x ≢ 6 → x ≢ 7 → x ≢ 8 → x ≢ 9 → x ≢ 10 → x ≢ 11 → x ≢ 12 → x ≢ 13
      → r ≡ refused_by CannotPerform s
      → Leaves values returns output
  unfolding operation_of record_at operations
  names_none n0 n1 n2 n3 n4 n5 n6 n7 n8 n9 n10 n11 n12 n13 is =
      let from_7 : 7 ≤ x = but 6 x (but 5 x (but 4 x (but 3 x (but 2 x (but 1 x (but 0 x (omega arith) n0) n1) n2) n3) n4) n5) n6 in
      let from_14 : 14 ≤ x = but 13 x (but 12 x (but 11 x (but 10 x (but 9 x (but 8 x (but 7 x from_7 n7) n8) n9) n10) n11) n12) n13 in
      let unnamed : operation_of (record_at i 0) ≡ none = none_past (operations b operand number) x from_14 in
      record { does = λ m given h. refused_so m _ values returns output s r CannotPerform is (performs_none m _ _ unnamed) h }

  -- .. as the one after the last that is named
  pub names_none_14 : x ≡ 14 → r ≡ refused_by CannotPerform s → Leaves values returns output
  names_none_14 e is =
      names_none
      (λ z. absurd (omega arith)) (λ z. absurd (omega arith)) (λ z. absurd (omega arith)) (λ z. absurd (omega arith)) (λ z. absurd (omega arith))
      (λ z. absurd (omega arith)) (λ z. absurd (omega arith)) (λ z. absurd (omega arith)) (λ z. absurd (omega arith)) (λ z. absurd (omega arith))
      (λ z. absurd (omega arith)) (λ z. absurd (omega arith)) (λ z. absurd (omega arith)) (λ z. absurd (omega arith))
      is

pub ruleset performed_so = (pushes, gets, adds, ifnots, jumps, slides, drops, writes_leaf, writes_node, writes_number, reads_tag, reads_number, calls, returned_so, names_none_14, names_none)

-- ---- `turn`

-- an address holds its record exactly where it is below the limit
pub there : (code : List ℕ) (a : ℕ) → a < limit_of (length code) → held_by code a ≡ some (record_at code a)
unfolding held_by
there code a h = rw (held_by, lt-ltb a most_instructions (omega arith), le-leb (instruction_bytes * a + instruction_bytes) (length code) (omega arith))

pub not_there : (code : List ℕ) (a : ℕ) → limit_of (length code) ≤ a → held_by code a ≡ none
unfolding held_by
not_there code a h = by (ltb a most_instructions) refl
  where
    by : (t : Bool) → ltb a most_instructions ≡ t → held_by code a ≡ none
    by true e =
        let below : a < most_instructions = ltb-true a most_instructions e in
        rw (held_by, e, lt-leb (instruction_bytes * a + instruction_bytes) (length code) (omega arith))
    by false e = rw (held_by, e)

-- a step performs what the address holds
steps_held : (m : Setting) (s : State) (i : Instruction) → m.holds s.address ≡ some i → step m s ≡ perform m s i
unfolding step
steps_held m s i e = rw (step, e)

pub steps_none : (m : Setting) (s : State) → m.holds s.address ≡ none → step m s ≡ refuses cannot_perform
unfolding step
steps_none m s e = rw (step, e)

-- an instruction that has fuel
pub turned_once :
    (i : Instruction) (input values returns output values' returns' output' : List ℕ) (s r : Machine)
    → Turns 1 i input values returns output values' returns' output' s r
    → Performs i input values returns output values' returns' output' s r
turned_once i input values returns output values' returns' output' s r d = d.performed (λ e. absurd (omega arith))

module _ (code input values returns output : List ℕ) (limit : ℕ) (s r : Machine) (limited : limit ≡ limit_of (length code)) where
  pub turns_past : limit ≤ s.address → r ≡ refused_by CannotPerform s → Steps code input values returns output values returns output s r
  turns_past h is =
      let none_held : held_by code s.address ≡ none = not_there code s.address (omega arith) in
      record {
        does = λ m holds i held.
            refused_so m _ values returns output s r CannotPerform is (steps_none m _ (ap (λ f. f s.address) holds ∙ none_held)) held;
      }

  pub turns_there :
      (i : Instruction) (values' returns' output' : List ℕ)
      → s.address < limit
      → i ≡ record_at code s.address
      → Performs i input values returns output values' returns' output' s r
      → Steps code input values returns output values' returns' output' s r
  turns_there i values' returns' output' h fetched performs =
      let this_held : held_by code s.address ≡ some i = there code s.address (omega arith) ∙ ap some (sym fetched) in
      record {
        does = λ m holds given held. rw (steps_held m (state_of values returns output s) i (ap (λ f. f s.address) holds ∙ this_held))
            (performs.does m given held);
      }

pub ruleset turning = (turned_once, turns_past, turns_there)
