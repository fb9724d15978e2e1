-- What holds of every call of the stream run, from what holds of every run. A call is a run from
-- the start, whose bytes are written from the output's start on, or it is refused before. So each
-- statement follows from one about runs, and from what the write leaves; what a run writes fits.
use Prim.Native.Nat.{ℕ, ◌≤◌, zero-le}
use mathlib.Core.Bool.{Bool, true, false, ◌&&◌}
use mathlib.Core.List.{List, []}
use mathlib.Core.Logic.{◌≢◌}
use mathlib.Core.Path.{◌≡◌, refl, ap}
use native.Mathlib.Nat.{zero-add}
use native.Mathlib.Omega.{arith}
use lib.Dec.{leb, lit<}
use lib.ListN.{length, take, drop}
use Rattle.formats.specs.Refusals.{space_too_short, fuel_used_up}
use Rattle.formats.specs.Results.{Result, refusal}
use Rattle.formats.specs.Written.{written}
use Rattle.formats.proofs.Results.{done_not}
use Rattle.formats.proofs.Written.{front_written, after_written, wrote}
use Rattle.meaning.specs.Performing.{Setting, State, start, words_below, words_standing, calls_open}
use Rattle.meaning.specs.Running.{Stop, ended, refused, Run, run, outcome_of, number_reported, value_words, return_words, of_code, ran_to, too_short, stream_run}
use Rattle.meaning.specs.StreamRun.{Within, Runs, StreamCalls}
use Rattle.meaning.specs.Running.{written_by}
use Rattle.meaning.proofs.Inputs.{run_same}

-- ---- bytes written from the start on, where they fit

module _ (s vs : List ℕ) (fits : length vs ≤ length s) where
  first_written : take (length vs) (written s 0 vs) ≡ vs
  first_written = rw zero-add at (front_written s 0 vs (rw zero-add fits))

  first_untouched : drop (length vs) (written s 0 vs) ≡ drop (length vs) s
  first_untouched = rw zero-add at (after_written s 0 vs (rw zero-add fits))

-- ---- outcomes

-- What follows for a stop, at which so many bytes were read, from a refusal as its outcome.
record Refuses (why position read : ℕ) (w : Stop) : Type 0 where
  stops : w ≡ refused why
  there : position ≡ read
  none : number_reported w ≡ 0

-- it follows for every stop
refuses_so : (w : Stop) (why position read : ℕ) → outcome_of w read ≡ refusal why position → Refuses why position read w
unfolding outcome_of number_reported
refuses_so (ended number) why position read e = done_not refl e
refuses_so (refused number) why position read e = record { stops = cc; there = cc; none = refl }

-- ---- calls

-- A call that is refused before its first instruction.
calls_short : (output : List ℕ) → StreamCalls output (λ input fuel. too_short output)
calls_short output =
    record {
      within_fuel = λ input fuel. zero-le;
      fuel_used = λ input fuel position e. absurd (not_used position e);
      at_read = λ input fuel why position e. cc;
      no_number = λ input fuel why position e. refl;
      read_there = λ input fuel. zero-le;
      written_fits = λ input fuel. zero-le;
      same_length = λ input fuel. refl;
      untouched = λ input fuel. refl;
      reads_on = λ input fuel more h. zero-le;
      writes_on = λ input fuel more h. record { rest = []; joined = refl };
      ended_stays = λ input fuel more e h. refl;
      stays = λ input fuel more e h. refl;
      same_input = λ input other fuel e. refl;
    }
  where
    not_used : (position : ℕ) → ◌≡◌ {A = Result (Unit {0})} (refusal space_too_short 0) (refusal fuel_used_up position) → ⊥
    not_used position e = let z : space_too_short ≡ fuel_used_up = cc in omega arith

-- A call that runs.
module _ (runs : (m : Setting) (s : State) → Runs m s) (code output : List ℕ) where
  abbrev setting : List ℕ → Setting
  setting input = of_code code input (length output)

  abbrev ran : List ℕ → ℕ → Run
  ran input fuel = run (setting input) fuel start

  -- the start is within the limits, so the run stays within them
  within : (input : List ℕ) (fuel : ℕ) → Within (setting input) (ran input fuel).last
  unfolding words_standing words_below calls_open
  within input fuel = (runs (setting input) start).within fuel (record { words = zero-le; calls = lit< tt; read = zero-le; written = zero-le })

  -- its refusals
  refuses_ran :
      (input : List ℕ) (fuel why position : ℕ)
      → outcome_of (ran input fuel).stop (ran input fuel).last.read ≡ refusal why position
      → Refuses why position (ran input fuel).last.read (ran input fuel).stop
  refuses_ran input fuel why position e = refuses_so (ran input fuel).stop why position (ran input fuel).last.read e

  -- what it has written is what the run has
  pub written_ran : (input : List ℕ) (fuel : ℕ) → written_by (ran_to output (ran input fuel)) ≡ (ran input fuel).last.output
  written_ran input fuel = first_written output (ran input fuel).last.output (within input fuel).written

  -- it stays the same with more fuel, if it is refused for another reason or not at all
  stays_ran :
      (input : List ℕ) (fuel more : ℕ)
      → ((position : ℕ) → outcome_of (ran input fuel).stop (ran input fuel).last.read ≢ refusal fuel_used_up position)
      → fuel ≤ more
      → ran_to output (ran input more) ≡ ran_to output (ran input fuel)
  unfolding outcome_of
  stays_ran input fuel more other h =
      let other_reason : (ran input fuel).stop ≢ refused fuel_used_up = λ used. other _ (ap (λ w. outcome_of w (ran input fuel).last.read) used) in
      ap (ran_to output) ((runs (setting input) start).settled fuel more other_reason h)

  calls_ran : StreamCalls output (λ input fuel. ran_to output (ran input fuel))
  calls_ran =
      record {
        within_fuel = λ input fuel. (runs (setting input) start).within_fuel fuel;
        fuel_used = λ input fuel position e. (runs (setting input) start).fuel_used fuel (refuses_ran input fuel fuel_used_up position e).stops;
        at_read = λ input fuel why position e. (refuses_ran input fuel why position e).there;
        no_number = λ input fuel why position e. (refuses_ran input fuel why position e).none;
        read_there = λ input fuel. (within input fuel).read;
        written_fits = λ input fuel. (within input fuel).written;
        same_length = λ input fuel. (wrote output 0 (ran input fuel).last.output).same_length;
        untouched = λ input fuel. first_untouched output (ran input fuel).last.output (within input fuel).written;
        reads_on = λ input fuel more h. ((runs (setting input) start).grows fuel more h).reads;
        writes_on = λ input fuel more h. rw (written_ran input fuel, written_ran input more) ((runs (setting input) start).grows fuel more h).writes;
        ended_stays = λ input fuel more e h. stays_ran input fuel more (λ position used. done_not e used) h;
        stays = stays_ran;
        same_input = λ input other fuel e. ap (ran_to output) (run_same runs (setting input) other fuel start e);
      }

-- of any code, with enough work space and without
pub calls_from :
    ((m : Setting) (s : State) → Runs m s)
    → (code output : List ℕ) (values returns : ℕ)
    → StreamCalls output (λ input fuel. stream_run code input output fuel values returns)
unfolding stream_run
calls_from runs code output values returns = by_space (leb value_words values && leb return_words returns)
  where
    by_space :
        (enough : Bool)
        → StreamCalls output (λ input fuel. elim enough [ true ↦ ran_to output (ran runs code output input fuel) | false ↦ too_short output ])
    by_space true = calls_ran runs code output
    by_space false = calls_short output
