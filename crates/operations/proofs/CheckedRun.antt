-- The loop of a checked program's code. Its invariant is that of any code (`Running`): the state is
-- reached from the start by as many steps as units. So no step is refused with 19 (`Safe`): the
-- address holds an instruction, which can be performed.
use Prim.Native.Nat.{ℕ, zero, suc, ◌+◌, ◌-◌, ◌*◌, ◌^◌, ◌≤◌, ◌<◌}
use mathlib.Core.List.{List}
use mathlib.Core.Logic.{◌≢◌, ◌⊎◌, inl, inr}
use mathlib.Core.Option.{some}
use mathlib.Core.Path.{◌≡◌, refl, sym, ap, ◌∙◌}
use native.Mathlib.Decide.{dec_le}
use native.Mathlib.Omega.{arith}
use mir.Syntax.{w64}
use mir.Val.{Fits}
use lib.ListN.{length}
use Rattle.formats.specs.Records.{record_at}
use Rattle.formats.specs.Refusals.{cannot_perform}
use Rattle.meaning.specs.Instructions.{instruction_bytes}
use Rattle.meaning.specs.Performing.{Setting, State, refuses, perform, step}
use Rattle.meaning.specs.Running.{Ran, of_code, stream_run}
use Rattle.machine_state.specs.declared.Machine.{Machine}
use Rattle.refusal.specs.declared.Refusal.TheVariants.{FuelUsedUp}
use Rattle.machine_state.specs.declared.Stop.TheVariants.{GoesOn, Refused}
use Rattle.machine_state.specs.declared.Answer.{Answer}
use Rattle.machine_state.specs.Inner.States.{state_of, limit_of, Sound}
use Rattle.machine_state.specs.Inner.Answers.{run_answer, in_64_bits, due_at, Reports, Performed}
use Rattle.operations.specs.Inner.Effects.{Does, Steps}
use Rattle.operations.specs.Inner.Checked.{Safe, Able, Turns}
use Rattle.operations.proofs.StepLaws.{there, not_there, steps_none, turns_there}
use Rattle.operations.proofs.RunLaws.{Running, stops_unfuelled, turned_on, turned_stops}

-- ---- after an instruction, or none

-- fuel is left, or none is
either : (n : ℕ) → (n ≡ 0) ⊎ (n ≢ 0)
either zero = inl refl
either (suc n) = inr (λ e. absurd (omega arith))

fuel_left : (fuel units : ℕ) → fuel - units ≢ 0 → units < fuel
fuel_left fuel units more = elim (dec_le fuel units) [ yes none ↦ absurd (more (omega arith)) | no some_left ↦ omega arith ]

module _ (code input : List ℕ) (fuel : ℕ) (output₀ values₀ returns₀ output values returns : List ℕ) (s : Machine) (units : ℕ)
    (h : Running code input fuel output₀ values₀ returns₀ output values returns s units) (i output' values' returns' : List ℕ) (r : Machine)
    (d : Turns (fuel - units) (record_at i 0) input values returns output values' returns' output' s r) where
  -- what is done where fuel is left
  did : fuel - units ≢ 0
      → Does (of_code code input (length output₀)) (perform (of_code code input (length output₀)) (state_of values returns output s) (record_at i 0))
      values returns output values' returns' output' s r
  did more = (d.performed more).does (of_code code input (length output₀)) refl h.held

  -- the buffers keep their lengths
  pub checked_output : length output' ≡ length output₀
  checked_output = elim (either (fuel - units)) [
    | inl none ↦ ap length (d.used_up none).3 ∙ h.same_output
    | inr more ↦ (did more).same_output ∙ h.same_output
  ]

  pub checked_values : length values' ≡ length values₀
  checked_values = elim (either (fuel - units)) [
    | inl none ↦ ap length (d.used_up none).1 ∙ h.same_values
    | inr more ↦ (did more).same_values ∙ h.same_values
  ]

  pub checked_returns : length returns' ≡ length returns₀
  checked_returns = elim (either (fuel - units)) [
    | inl none ↦ ap length (d.used_up none).2 ∙ h.same_returns
    | inr more ↦ (did more).same_returns ∙ h.same_returns
  ]

  -- where it goes on, fuel was left
  going_left : r.stop ≡ GoesOn → fuel - units ≢ 0
  going_left goes none =
      let stop : r.stop ≡ Refused FuelUsedUp = ap (λ (q : Machine). q.stop) (d.used_up none).0 in
      cc

  pub checked_more : r.stop ≡ GoesOn → units < fuel
  checked_more goes = fuel_left fuel units (going_left goes)

-- ---- the instruction at the address

module _ (code input : List ℕ) (fuel : ℕ) (output₀ values₀ returns₀ : List ℕ) (safe : Safe (of_code code input (length output₀)))
    (output values returns : List ℕ) (s : Machine) (units : ℕ) (h : Running code input fuel output₀ values₀ returns₀ output values returns s units) where
  abbrev m : Setting
  m = of_code code input (length output₀)

  abbrev state : State
  state = state_of values returns output s

  -- what is due at the end
  abbrev due : Ran
  due = stream_run code input output₀ fuel (length values₀) (length returns₀)

  able : step m state ≢ refuses cannot_perform
  able = safe.safe h.past state h.led

  held_here : s.address < limit_of (length code)
  held_here =
      elim (dec_le (limit_of (length code)) s.address) [
        | yes outside ↦ absurd (able (steps_none m state (not_there code s.address outside)))
        | no inside ↦ omega arith
      ]

  pub fetch_inside : instruction_bytes * s.address + instruction_bytes ≤ length code
  fetch_inside = let inside = held_here in omega arith

  pub step_sound : Sound s
  step_sound =
      let inside = held_here in
      record { going = h.going; addressed = omega arith; based = h.held.based; topped = h.held.topped }

  pub step_able : (i : List ℕ) → record_at i 0 ≡ record_at code s.address → Able (record_at i 0) s
  step_able i same =
      record {
        m = m;
        values = values;
        returns = returns;
        output = output;
        held = h.held;
        fetched = there code s.address held_here ∙ ap some (sym same);
        able = able;
      }

  -- ---- after it

  module _ (i output' values' returns' : List ℕ) (r : Machine) (same : record_at i 0 ≡ record_at code s.address)
      (d : Turns (fuel - units) (record_at i 0) input values returns output values' returns' output' s r) where
    -- fuel is left, and the instruction is performed
    performed : fuel - units ≢ 0 → Steps code input values returns output values' returns' output' s r
    performed more =
        turns_there code input values returns output (limit_of (length code)) s r refl (record_at i 0) values' returns' output' held_here same (d.performed more)

    -- it goes on
    pub checked_on : r.stop ≡ GoesOn → Running code input fuel output₀ values₀ returns₀ output' values' returns' r (units + 1)
    checked_on goes =
        let more = going_left code input fuel output₀ values₀ returns₀ output values returns s units h i output' values' returns' r d goes in
        turned_on code input fuel output₀ values₀ returns₀ output values returns s units h output' values' returns' r (fuel_left fuel units more) (performed more) goes

    -- it stops: no fuel is left, or the instruction stops
    pub checked_stops :
        (a : Answer)
        → Fits w64 fuel
        → r.stop ≢ GoesOn
        → (units + 1 < 2 ^ 64 → Reports values' units r a)
        → run_answer a ≡ in_64_bits (due_at values' units r)
        → Performed due output' values₀ values' returns₀ returns' a
    checked_stops a wide stops reports wrapped = elim (either (fuel - units)) [
      | inl none ↦
          let is = (d.used_up none).0 in
          let values_kept = checked_values code input fuel output₀ values₀ returns₀ output values returns s units h i output' values' returns' r d in
          let returns_kept = checked_returns code input fuel output₀ values₀ returns₀ output values returns s units h i output' values' returns' r d in
          let now : units ≡ fuel = omega (arith, h.fuelled) in
          stops_unfuelled code input fuel output₀ values₀ returns₀ output values returns s units h a r output' values' returns' wide (omega arith) is
          (rw now at wrapped) (d.used_up none).3 values_kept returns_kept
      | inr more ↦
          let inside = fuel_left fuel units more in
          turned_stops code input fuel output₀ values₀ returns₀ output values returns s units h output' values' returns' r inside (performed more) a wide stops reports
    ]

pub ruleset checked_run = (fetch_inside, step_sound, step_able, checked_on, checked_stops)
