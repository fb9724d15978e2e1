-- The answer of a machine in numbers: a law for each way out of its functions.
use Rattle.std.proofs.Common.{◌≡◌, ℕ, ◌+◌, ◌%◌, ◌^◌, ◌<◌, ◌≢◌, List, Ok, Err, sym, refl, ap, ◌∙◌, arith, eq-eqb, ne_eqb, le-leb}
use Rattle.std.specs.Prelude.{false, ◌==◌}
use native.Mathlib.Decide.{dec_le, ℕ_discrete}
use borrow.Author.Tests.{lt-leb}
use Rattle.formats.specs.Refusals.{fuel_used_up, input_ended, not_a_tag, output_full, too_many_calls, cannot_perform, out_of_range}
use Rattle.formats.specs.Results.{refusal}
use Rattle.refusal.specs.Inner.Numbers.{number as number_of}
use Rattle.refusal.specs.declared.Refusal.{Refusal}
use Rattle.meaning.specs.Performing.{number_kept}
use Rattle.machine_state.specs.declared.Machine.{Machine}
use Rattle.machine_state.specs.declared.MachineInNumbers.{MachineInNumbers}
use Rattle.machine_state.specs.declared.Answer.{Answer}
use Rattle.machine_state.specs.declared.Stop.{Stop}
use Rattle.machine_state.specs.Inner.States.{has_ended as ended}
use Rattle.machine_state.specs.Inner.Answers.{run_answer, reported_number, in_64_bits, due_at as due}
use Rattle.machine_state.specs.Inner.InNumbers.{has_ended, frame_of, stopped_by, with_stop, refusal_number, due_at, Reports, checked_number, due_checked, ReportsChecked}

-- ---- `stop_named`

module _ (stop : ℕ) where
  -- a number that goes on or ends is reported as 19, and that of a refusal of a run as itself
  pub checked_going : stop ≡ 0 → cannot_perform ≡ checked_number stop
  unfolding refusal_number checked_number
  checked_going e = sym (ap checked_number e)

  pub checked_ended : stop ≡ has_ended → cannot_perform ≡ checked_number stop
  unfolding refusal_number checked_number
  checked_ended e = sym (ap checked_number e)

  pub checked_fuel : stop ≡ fuel_used_up → fuel_used_up ≡ checked_number stop
  unfolding refusal_number checked_number
  checked_fuel e = sym (ap checked_number e)

  pub checked_input : stop ≡ input_ended → input_ended ≡ checked_number stop
  unfolding refusal_number checked_number
  checked_input e = sym (ap checked_number e)

  pub checked_tag : stop ≡ not_a_tag → not_a_tag ≡ checked_number stop
  unfolding refusal_number checked_number
  checked_tag e = sym (ap checked_number e)

  pub checked_output : stop ≡ output_full → output_full ≡ checked_number stop
  unfolding refusal_number checked_number
  checked_output e = sym (ap checked_number e)

  pub checked_calls : stop ≡ too_many_calls → too_many_calls ≡ checked_number stop
  unfolding refusal_number checked_number
  checked_calls e = sym (ap checked_number e)

  pub checked_range : stop ≡ out_of_range → out_of_range ≡ checked_number stop
  unfolding refusal_number checked_number
  checked_range e = sym (ap checked_number e)

  -- the rest are reported as 19
  pub named_rest :
      stop ≢ fuel_used_up
      → stop ≢ input_ended
      → stop ≢ not_a_tag
      → stop ≢ output_full
      → stop ≢ too_many_calls
      → stop ≢ out_of_range
      → cannot_perform ≡ checked_number stop
  unfolding refusal_number checked_number
  named_rest u a b c d f =
      elim (dec_le input_ended stop) [
        | no low ↦
            let few : stop < input_ended = omega arith in
            sym (simp (checked_number, refusal_number, ne_eqb stop fuel_used_up u, lt-leb _ _ few, ne_eqb stop out_of_range f))
        | yes low ↦
            let many : too_many_calls < stop = omega arith in
            sym (simp (checked_number, refusal_number, ne_eqb stop fuel_used_up u, le-leb _ _ low, lt-leb _ _ many, ne_eqb stop out_of_range f))
      ]

pub ruleset stops_named = (checked_going, checked_ended, checked_fuel, checked_input, checked_tag, checked_output, checked_calls, checked_range, named_rest)

-- ---- `report_checked`

module _ (values : List ℕ) (units : ℕ) (s : MachineInNumbers) (stop : Stop) (at_end : ended stop ≡ (s.stop == has_ended))
    (is : reported_number stop ≡ checked_number s.stop) where
  -- the same is due where the machine stops by the stop that the number names
  same_due : in_64_bits (due values units (with_stop stop s)) ≡ in_64_bits (due_checked values units s)
  unfolding due due_at due_checked checked_number
  same_due =
      elim (ℕ_discrete s.stop fuel_used_up) [
        | yes e ↦
            let not_ended : (s.stop == has_ended) ≡ false = ne_eqb _ _ (λ z. absurd (omega arith)) in
            rw (due, at_end, not_ended, is, checked_number, due_checked, eq-eqb _ _ e) refl
        | no h ↦
            elim (ℕ_discrete s.stop has_ended) [
              | yes g ↦ rw (due, at_end, due_checked, ne_eqb _ _ h, due_at, eq-eqb _ _ g) refl
              | no g ↦ rw (due, at_end, due_checked, ne_eqb _ _ h, due_at, ne_eqb _ _ g, is, checked_number, ne_eqb _ _ h) refl
            ]
      ]

  pub checked_reported :
      (machine : Machine) (r : Answer)
      → machine ≡ with_stop stop s
      → run_answer r ≡ in_64_bits (due values units machine)
      → ReportsChecked values units s r
  checked_reported machine r e t = record { reports = t ∙ ap in_64_bits (ap (due values units) e) ∙ same_due }

-- ---- `report`

module _ (values : List ℕ) (units : ℕ) (s : MachineInNumbers) (r : Answer) where
  -- no instruction stops the machine with 14
  plain_unfuelled : s.stop ≡ fuel_used_up → due_checked values units (stopped_by cannot_perform s) ≡ due_at values units s
  unfolding due_at due_checked refusal_number
  plain_unfuelled e = rw (due_checked, due_at, e, e) refl

  pub wrapped_unfuelled :
      (t : MachineInNumbers)
      → s.stop ≡ fuel_used_up
      → t ≡ stopped_by cannot_perform s
      → ReportsChecked values units t r
      → run_answer r ≡ in_64_bits (due_at values units s)
  wrapped_unfuelled t e is checked =
      checked.reports ∙ ap in_64_bits (ap (due_checked values units) is) ∙ ap in_64_bits (plain_unfuelled e)

  pub wrapped_else : s.stop ≢ fuel_used_up → ReportsChecked values units s r → run_answer r ≡ in_64_bits (due_at values units s)
  unfolding due_checked
  wrapped_else h t = t.reports ∙ rw (due_checked, ne_eqb _ _ h) refl

  -- what any code that answers so is proved by: the run has ended, or is refused
  pub wrapped_ended :
      (number more : ℕ)
      → s.stop ≡ has_ended
      → number ≡ number_kept (frame_of values s)
      → more ≡ (units + 1) % 2 ^ 64
      → run_answer (record { outcome = Ok number; units = more; read = s.read; written = s.written }) ≡ in_64_bits (due_at values units s)
  unfolding due_at
  wrapped_ended number more e is counted = rw (due_at, eq-eqb _ _ e, is, counted) refl

  pub wrapped_refused :
      (why : Refusal)
      → s.stop ≢ has_ended
      → units < 2 ^ 64
      → number_of why ≡ refusal_number s.stop
      → run_answer (record { outcome = Err (record { why = why; position = s.read }); units = units; read = s.read; written = s.written })
      ≡ in_64_bits (due_at values units s)
  unfolding due_at
  wrapped_refused why h wide is = let fits : units % 2 ^ 64 ≡ units = omega arith in rw (due_at, ne_eqb _ _ h, is, fits) refl

  -- where the unit of the last return does not wrap, nothing is cut off
  due_fits : units + 1 < 2 ^ 64 → in_64_bits (due_at values units s) ≡ due_at values units s
  unfolding due_at
  due_fits wide =
      let one_more : (units + 1) % 2 ^ 64 ≡ units + 1 = omega arith in
      let none_more : units % 2 ^ 64 ≡ units = omega arith in
      elim (ℕ_discrete s.stop has_ended) [
        | yes e ↦ rw (due_at, eq-eqb _ _ e, one_more) refl
        | no h ↦ rw (due_at, ne_eqb _ _ h, none_more) refl
      ]

  pub reports_whole : run_answer r ≡ in_64_bits (due_at values units s) → units + 1 < 2 ^ 64 → Reports values units s r
  reports_whole is wide = record { reports = is ∙ due_fits wide }

pub ruleset reported = (wrapped_unfuelled, wrapped_else, reports_whole)

-- ---- what the loop of checked code took from it

module _ (values : List ℕ) (units : ℕ) (s : MachineInNumbers) (r : Answer) (t : ReportsChecked values units s r) where
  -- no fuel is left
  pub unfuelled_is :
      s.stop ≡ fuel_used_up
      → units < 2 ^ 64
      → run_answer r ≡ record { outcome = refusal fuel_used_up s.read; units = units; bytes_read = s.read; bytes_written = s.written; number = 0 }
  unfolding due_checked
  unfuelled_is e wide = let fits : units % 2 ^ 64 ≡ units = omega arith in t.reports ∙ rw (due_checked, eq-eqb _ _ e, fits) refl

  -- every other stop is answered as that of any code
  pub stop_is : s.stop ≢ fuel_used_up → units + 1 < 2 ^ 64 → Reports values units s r
  unfolding due_checked
  stop_is h wide = reports_whole values units s r (wrapped_else values units s r h t) wide
