-- The refusal that a stop's number names in a report, case by case; and what a report says in the
-- run of checked code.
use Rattle.std.proofs.Common.{◌≡◌, ℕ, ◌%◌, ◌^◌, ◌<◌, ◌≢◌, List, Err, sym, refl, ap, ◌∙◌, arith, eq-eqb, ne_eqb, le-leb}
use native.Mathlib.Decide.{dec_le}
use borrow.Author.Tests.{lt-leb}
use Rattle.formats.specs.Refusals.{fuel_used_up, input_ended, not_a_tag, output_full, too_many_calls, cannot_perform, out_of_range}
use Rattle.formats.specs.Results.{refusal}
use Rattle.refusal.specs.declared.Refusal.TheVariants.{FuelUsedUp}
use Rattle.meaning.specs.Running.{Answer as Due}
use Rattle.machine_state.specs.declared.MachineInNumbers.{MachineInNumbers}
use Rattle.machine_state.specs.declared.Answer.{Answer}
use Rattle.machine_state.specs.Inner.Answers.{run_answer, in_64_bits}
use Rattle.machine_state.specs.Inner.InNumbers.{has_ended, refusal_number, due_at, due_checked, ReportsChecked}

module _ (stop : ℕ) where
  pub named_input : stop ≡ input_ended → input_ended ≡ refusal_number stop
  unfolding refusal_number
  named_input e = sym (ap refusal_number e)

  pub named_tag : stop ≡ not_a_tag → not_a_tag ≡ refusal_number stop
  unfolding refusal_number
  named_tag e = sym (ap refusal_number e)

  pub named_output : stop ≡ output_full → output_full ≡ refusal_number stop
  unfolding refusal_number
  named_output e = sym (ap refusal_number e)

  pub named_calls : stop ≡ too_many_calls → too_many_calls ≡ refusal_number stop
  unfolding refusal_number
  named_calls e = sym (ap refusal_number e)

  pub named_range : stop ≡ out_of_range → out_of_range ≡ refusal_number stop
  unfolding refusal_number
  named_range e = sym (ap refusal_number e)

  pub named_rest :
      stop ≢ input_ended
      → stop ≢ not_a_tag
      → stop ≢ output_full
      → stop ≢ too_many_calls
      → stop ≢ out_of_range
      → cannot_perform ≡ refusal_number stop
  unfolding refusal_number
  named_rest a b c d f =
      elim (dec_le input_ended stop) [
        | no low ↦ let few : stop < input_ended = omega arith in sym (simp (refusal_number, lt-leb _ _ few, ne_eqb stop out_of_range f))
        | yes low ↦ let many : too_many_calls < stop = omega arith in sym (simp (refusal_number, le-leb _ _ low, lt-leb _ _ many, ne_eqb stop out_of_range f))
      ]

pub ruleset named = (named_input, named_tag, named_output, named_calls, named_range, named_rest)

module _ (values : List ℕ) (units : ℕ) (s : MachineInNumbers) (r : Answer) (reported : run_answer r ≡ in_64_bits (due_at values units s)) where
  pub checked_unfuelled :
      s.stop ≡ fuel_used_up
      → ReportsChecked values units s (record { outcome = Err (record { why = FuelUsedUp; position = s.read }); units = r.units; read = r.read; written = r.written })
  unfolding due_at due_checked
  checked_unfuelled e =
      let no_end : s.stop ≢ has_ended = λ ended. absurd (omega arith) in
      let plain : run_answer r
      ≡ record { outcome = refusal (refusal_number s.stop) s.read; units = units % 2 ^ 64; bytes_read = s.read; bytes_written = s.written; number = 0 } =
      reported ∙ rw (due_at, ne_eqb _ _ no_end) refl in
      let units_are : r.units ≡ units % 2 ^ 64 = ap (λ (q : Due). q.units) plain in
      let read_is : r.read ≡ s.read = ap (λ (q : Due). q.bytes_read) plain in
      let written_is : r.written ≡ s.written = ap (λ (q : Due). q.bytes_written) plain in
      record { reports = rw (due_checked, eq-eqb _ _ e, units_are, read_is, written_is) refl }

  pub checked_else : s.stop ≢ fuel_used_up → ReportsChecked values units s r
  unfolding due_checked
  checked_else h = record { reports = rw (due_checked, ne_eqb _ _ h) reported }

pub ruleset reported_checked = (checked_unfuelled, checked_else)
