-- The machine in numbers, whose stop may be any number, and what its answers report.
use Rattle.std.specs.Prelude.{◌≡◌, ℕ, ◌+◌, ◌-◌, true, false, ◌&&◌, ◌||◌, List, ◌==◌, nat_le}
use Rattle.formats.specs.Refusals.{fuel_used_up, input_ended, too_many_calls, cannot_perform, out_of_range}
use Rattle.formats.specs.Results.{done, refusal}
use Rattle.meaning.specs.Performing.{number_kept}
use Rattle.meaning.specs.Running.{Answer as Due}
use Rattle.machine_state.specs.Inner.States.{words_from}
use Rattle.machine_state.specs.Inner.Answers.{run_answer, in_64_bits}
use Rattle.machine_state.specs.declared.Machine.{Machine}
use Rattle.machine_state.specs.declared.MachineInNumbers.{MachineInNumbers}
use Rattle.machine_state.specs.declared.Stop.{Stop}
use Rattle.machine_state.specs.declared.Answer.{Answer}

-- The stop of a run that has ended.
abbrev pub has_ended : ℕ
has_ended = 1

-- The frame's words, the top one first.
abbrev pub frame_of : List ℕ → MachineInNumbers → List ℕ
frame_of values s = words_from values s.base (s.top - s.base)

-- ---- changes of the machine's numbers

abbrev pub stopped_by : ℕ → MachineInNumbers → MachineInNumbers
stopped_by why s =
    record { stop = why; address = s.address; top = s.top; base = s.base; saved = s.saved; read = s.read; written = s.written }

abbrev pub jump_to : ℕ → MachineInNumbers → MachineInNumbers
jump_to address s =
    record { stop = s.stop; address = address; top = s.top; base = s.base; saved = s.saved; read = s.read; written = s.written }

-- a stop in place of the number
abbrev pub with_stop : Stop → MachineInNumbers → Machine
with_stop why s =
    record { stop = why; address = s.address; top = s.top; base = s.base; saved = s.saved; read = s.read; written = s.written }

-- ---- the answer

-- The refusal that a stop's number names: 15 to 18 and 21, else 19.
unfoldable pub refusal_number : ℕ → ℕ
refusal_number stop = elim ((nat_le input_ended stop && nat_le stop too_many_calls) || stop == out_of_range) [ true ↦ stop | false ↦ cannot_perform ]

-- The answer that is due where the machine stops after `units` instructions. The return that ends a
-- run counts as one more; an instruction that is refused does not.
unfoldable pub due_at : List ℕ → ℕ → MachineInNumbers → Due
due_at values units s =
    elim (s.stop == has_ended) [
      | true ↦
          record { outcome = done tt; units = units + 1; bytes_read = s.read; bytes_written = s.written; number = number_kept (frame_of values s) }
      | false ↦
          record { outcome = refusal (refusal_number s.stop) s.read; units = units; bytes_read = s.read; bytes_written = s.written; number = 0 }
    ]

-- An answer is the one that is due.
pub record Reports (values : List ℕ) (units : ℕ) (s : MachineInNumbers) (r : Answer) : Type 0 where
  pub reports : run_answer r ≡ due_at values units s

-- .. and of a run of checked code, where 14 names itself, too.
unfoldable pub checked_number : ℕ → ℕ
checked_number stop = elim (stop == fuel_used_up) [ true ↦ fuel_used_up | false ↦ refusal_number stop ]

-- The answer that is due where the run of checked code stops. It stops the machine with 14 where no
-- fuel is left, which is no stop of an instruction; of every other stop the same is due.
unfoldable pub due_checked : List ℕ → ℕ → MachineInNumbers → Due
due_checked values units s =
    elim (s.stop == fuel_used_up) [
      | true ↦
          record { outcome = refusal fuel_used_up s.read; units = units; bytes_read = s.read; bytes_written = s.written; number = 0 }
      | false ↦ due_at values units s
    ]

-- An answer of the run of checked code is the one that is due, its units counted in 64 bits.
pub record ReportsChecked (values : List ℕ) (units : ℕ) (s : MachineInNumbers) (r : Answer) : Type 0 where
  pub reports : run_answer r ≡ in_64_bits (due_checked values units s)
