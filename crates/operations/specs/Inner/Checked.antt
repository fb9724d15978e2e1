-- The run of a checked program's code, which is never refused with 19: what its functions ask in
-- place of the tests that they leave out, and what they do.
use Rattle.std.specs.Prelude.{ℕ, ◌+◌, ◌≤◌, ◌<◌, List, ◌≢◌, ◌≡◌}
use Rattle.std.proofs.Math.Option.{some}
use Rattle.formats.specs.Numbers.{Bytes}
use Rattle.formats.specs.Refusals.{cannot_perform}
use Rattle.meaning.specs.Instructions.{Instruction}
use Rattle.meaning.specs.Performing.{Setting, State, start, refuses, step}
use Rattle.meaning.specs.Running.{value_words, of_code}
use Rattle.meaning.specs.StreamRun.{Steps as Led}
use Rattle.machine_state.specs.declared.Machine.{Machine}
use Rattle.refusal.specs.declared.Refusal.TheVariants.{FuelUsedUp}
use Rattle.machine_state.specs.Inner.States.{state_of, Held, refused_by}
use Rattle.operations.specs.Inner.Effects.{Performs}

-- ---- what is asked

-- No state that a run comes to is refused with 19.
pub record Safe (m : Setting) : Type 0 where
  pub safe : (past : List ℕ) (t : State) → Led m past start t → step m t ≢ refuses cannot_perform

-- .. whatever the code reads, and however long its output is.
pub record NeverCannot (code : List ℕ) : Type 0 where
  pub safe : (input : List ℕ) (space : ℕ) → Bytes input → Safe (of_code code input space)

-- The instruction at the machine's address is this one, and is not refused with 19: in some state
-- that the machine's numbers stand for.
pub record Able (i : Instruction) (s : Machine) : Type 0 where
  pub m : Setting
  pub values : List ℕ
  pub returns : List ℕ
  pub output : List ℕ
  pub held : Held m values returns output s
  pub fetched : m.holds s.address ≡ some i
  pub able : step m (state_of values returns output s) ≢ refuses cannot_perform

-- So many words are above the frame's base.
pub record Words (n : ℕ) (s : Machine) : Type 0 where
  pub there : s.base + n ≤ s.top

-- There is room for a word more.
pub record Room (s : Machine) : Type 0 where
  pub free : s.top < value_words

-- A return's byte: no word is kept, or one is.
pub record ReturnByte (k : ℕ) : Type 0 where
  pub few : k ≤ 1

-- ---- what is done. 01, Fuel and units: "Fuel is looked at first."

-- With no fuel left the machine stops with 14, and what is lent stays as it was; else the
-- instruction is performed.
pub record Turns (fuel : ℕ) (i : Instruction) (input values returns output values' returns' output' : List ℕ) (s r : Machine) : Type 0 where
  pub used_up : fuel ≡ 0 → (r ≡ refused_by FuelUsedUp s) × (values' ≡ values) × (returns' ≡ returns) × (output' ≡ output)
  pub performed : fuel ≢ 0 → Performs i input values returns output values' returns' output' s r
