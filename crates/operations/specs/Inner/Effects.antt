-- What the machine's functions do: an operation of 01, Opcodes, on the state that the lent buffers
-- and the machine's numbers stand for. A function is lent only the buffers that it looks at; what
-- it does is stated for whatever the others hold.
use Rattle.std.specs.Prelude.{ℕ, List, [], ◌∷◌, ◌≢◌, ◌≡◌, length, drop}
use Rattle.meaning.specs.Instructions.{Instruction, Operation, held_by}
use Rattle.meaning.specs.Performing.{Setting, Step, write, operate, perform, step}
use Rattle.machine_state.specs.Inner.States.{state_of, step_of, Held}
use Rattle.machine_state.specs.declared.Machine.{Machine}
use Rattle.machine_state.specs.declared.Stop.TheVariants.{GoesOn}

-- Nothing is read or written.
pub record Still (output output' : List ℕ) (s r : Machine) : Type 0 where
  pub read : r.read ≡ s.read
  pub written : r.written ≡ s.written
  pub same : output' ≡ output

-- An instruction leads from buffers and a machine s to buffers (primed) and a machine r, and its
-- outcome is `due`. The buffers keep their lengths, and the output after what is written is
-- untouched.
pub record Does (m : Setting) (due : Step) (values returns output values' returns' output' : List ℕ) (s r : Machine) : Type 0 where
  pub reported : step_of values' returns' output' r ≡ due
  pub held : Held m values' returns' output' r
  pub same_values : length values' ≡ length values
  pub same_returns : length returns' ≡ length returns
  pub same_output : length output' ≡ length output
  pub untouched : drop r.written output' ≡ drop r.written output
  pub still : r.stop ≢ GoesOn → Still output output' s r

-- An operation on the machine's numbers alone.
pub record OnNumbers (op : Operation) (s r : Machine) : Type 0 where
  pub does :
      (m : Setting) (values returns output : List ℕ)
      → Held m values returns output s
      → Does m (operate m (state_of values returns output s) op) values returns output values returns output s r

-- An operation on the value words.
pub record OnValues (op : Operation) (values values' : List ℕ) (s r : Machine) : Type 0 where
  pub does :
      (m : Setting) (returns output : List ℕ)
      → Held m values returns output s
      → Does m (operate m (state_of values returns output s) op) values returns output values' returns output s r

-- A tag is written to the output: what the operations for a leaf's tag and for a node's have in
-- common.
pub record WritesTag (tag : ℕ) (output output' : List ℕ) (s r : Machine) : Type 0 where
  pub does :
      (m : Setting) (values returns : List ℕ)
      → Held m values returns output s
      → Does m (write m (tag ∷ []) (state_of values returns output s)) values returns output values returns output' s r

-- An operation on the output that looks at the value words.
pub record OnOutput (op : Operation) (values output output' : List ℕ) (s r : Machine) : Type 0 where
  pub does :
      (m : Setting) (returns : List ℕ)
      → Held m values returns output s
      → Does m (operate m (state_of values returns output s) op) values returns output values returns output' s r

-- An operation on the value words that looks at the input.
pub record FromInput (op : Operation) (input values values' : List ℕ) (s r : Machine) : Type 0 where
  pub does :
      (m : Setting) (returns output : List ℕ)
      → m.input ≡ input
      → Held m values returns output s
      → Does m (operate m (state_of values returns output s) op) values returns output values' returns output s r

-- An operation on the machine's numbers that looks at the input.
pub record OnInput (op : Operation) (input : List ℕ) (s r : Machine) : Type 0 where
  pub does : (values : List ℕ) → FromInput op input values values s r

-- An operation on the return places.
pub record OnReturns (op : Operation) (returns returns' : List ℕ) (s r : Machine) : Type 0 where
  pub does :
      (m : Setting) (values output : List ℕ)
      → Held m values returns output s
      → Does m (operate m (state_of values returns output s) op) values returns output values returns' output s r

-- An operation on the value words that looks at the return places.
pub record FromReturns (op : Operation) (returns values values' : List ℕ) (s r : Machine) : Type 0 where
  pub does :
      (m : Setting) (output : List ℕ)
      → Held m values returns output s
      → Does m (operate m (state_of values returns output s) op) values returns output values' returns output s r

-- One instruction is performed.
pub record Performs (i : Instruction) (input values returns output values' returns' output' : List ℕ) (s r : Machine) : Type 0 where
  pub does :
      (m : Setting)
      → m.input ≡ input
      → Held m values returns output s
      → Does m (perform m (state_of values returns output s) i) values returns output values' returns' output' s r

-- One step of a run over this code.
pub record Steps (code input values returns output values' returns' output' : List ℕ) (s r : Machine) : Type 0 where
  pub does :
      (m : Setting)
      → m.holds ≡ held_by code
      → m.input ≡ input
      → Held m values returns output s
      → Does m (step m (state_of values returns output s)) values returns output values' returns' output' s r
