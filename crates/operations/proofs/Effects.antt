-- What all operations have in common: a refusal changes nothing, and where the run goes on, the
-- machine stands for the next state.
use Prim.Native.Nat.{ℕ, ◌+◌, ◌≤◌}
use mathlib.Core.List.{List}
use mathlib.Core.Path.{◌≡◌, refl, sym, ◌∙◌}
use lib.ListN.{length, drop}
use Rattle.refusal.specs.Inner.Numbers.{number}
use Rattle.refusal.specs.declared.Refusal.{Refusal}
use Rattle.meaning.specs.Performing.{Setting, Step, goes, refuses}
use Rattle.meaning.specs.Running.{value_words, return_words}
use Rattle.machine_state.specs.declared.Machine.{Machine}
use Rattle.machine_state.specs.declared.Stop.TheVariants.{GoesOn}
use Rattle.machine_state.specs.Inner.States.{state_of, step_of, Chained, Held, refused_by}
use Rattle.operations.specs.Inner.Effects.{Does}

-- other numbers and buffers stand for a state too, where the buffers keep their lengths and the
-- numbers their limits
pub held_as :
    (m : Setting) (values returns output values' returns' output' : List ℕ) (s r : Machine)
    → Held m values returns output s
    → length values' ≡ length values
    → length returns' ≡ length returns
    → length output' ≡ length output
    → r.base ≤ r.top
    → r.top ≤ value_words
    → r.saved + 2 ≤ return_words
    → Chained returns' r.base r.saved
    → r.read ≤ length m.input
    → r.written ≤ length output
    → Held m values' returns' output' r
held_as m values returns output values' returns' output' s r h lv lp lo based topped fits c there room =
    record {
      words_limit = h.words_limit;
      calls_limit = h.calls_limit;
      space_is = h.space_is ∙ sym lo;
      values_lent = rw lv h.values_lent;
      returns_lent = rw lp h.returns_lent;
      based = based;
      topped = topped;
      saved_fits = fits;
      chained = c;
      read_there = there;
      written_there = rw lo room;
    }

-- the numbers after an operation that goes on in its frame
abbrev pub moved : (address top read written : ℕ) → Machine → Machine
moved address top read written s =
    record { stop = s.stop; address = address; top = top; base = s.base; saved = s.saved; read = read; written = written }

pub held_moved :
    (m : Setting) (values returns output values' output' : List ℕ) (s : Machine) (address top read written : ℕ)
    → Held m values returns output s
    → length values' ≡ length values
    → length output' ≡ length output
    → s.base ≤ top
    → top ≤ value_words
    → read ≤ length m.input
    → written ≤ length output
    → Held m values' returns output' (moved address top read written s)
held_moved m values returns output values' output' s address top read written h lv lo based topped there fits =
    held_as m values returns output values' returns output' s _ h lv refl lo based topped h.saved_fits h.chained there fits

-- 01, Fuel and units: "A refused instruction .. changes nothing."
pub refused_so :
    (m : Setting) (due : Step) (values returns output : List ℕ) (s r : Machine) (why : Refusal)
    → r ≡ refused_by why s
    → due ≡ refuses (number why)
    → Held m values returns output s
    → Does m due values returns output values returns output s r
unfolding step_of
refused_so m due values returns output s r why is e h =
    rw is (record {
      reported = sym e;
      held =
          held_as m values returns output values returns output s _ h refl refl refl
          h.based h.topped h.saved_fits h.chained h.read_there h.written_there;
      same_values = refl;
      same_returns = refl;
      same_output = refl;
      untouched = refl;
      still = λ stops. record { read = refl; written = refl; same = refl };
    })

-- it goes on with r, which stands for the next state
pub goes_so :
    (m : Setting) (due : Step) (values returns output values' returns' output' : List ℕ) (s r : Machine)
    → due ≡ goes (state_of values' returns' output' r)
    → r.stop ≡ GoesOn
    → Held m values' returns' output' r
    → length values' ≡ length values
    → length returns' ≡ length returns
    → length output' ≡ length output
    → drop r.written output' ≡ drop r.written output
    → Does m due values returns output values' returns' output' s r
unfolding step_of
goes_so m due values returns output values' returns' output' s r e going h lv lp lo rest =
    record {
      reported = rw (step_of, going) (sym e);
      held = h;
      same_values = lv;
      same_returns = lp;
      same_output = lo;
      untouched = rest;
      still = λ stops. absurd (stops going);
    }
