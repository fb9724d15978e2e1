-- Runs whose course is known. Where steps lead, with space enough, from s to a state that goes no
-- further, a run from s with any space and fuel goes the same way: up to that state, or until its
-- fuel is used up, or until the output is full. By induction along the steps: each is made with the
-- space given too, or refused because what it writes does not fit (`narrowed`).
use Prim.Native.Nat.{ℕ, zero, suc, ◌+◌, ◌≤◌, ◌<◌, zero-le}
use mathlib.Core.List.{List, ◌∷◌}
use mathlib.Core.Path.{◌≡◌, refl, ap}
use native.Mathlib.Nat.{le_refl, le_trans}
use native.Mathlib.Omega.{arith}
use lib.ListN.{length, length-append}
use Rattle.formats.specs.Refusals.{output_full, fuel_used_up}
use Rattle.meaning.specs.Performing.{Setting, State, Step, goes, ends, refuses, step}
use Rattle.meaning.specs.Running.{Stop, ended, refused, Run, after_performing, run, units_of}
use Rattle.meaning.specs.StreamRun.{Grows, Steps, here, on}
use Rattle.meaning.proofs.Runs.{run_none, run_goes, run_ends, run_refuses}
use Rattle.translation.proofs.Paths.{with_space, Path, no_step, join}
use Rattle.translation.proofs.Wider.{step_fits, goes_too, full, narrowed}
use Rattle.translation.proofs.Meets.{steps_grow}

-- The machine goes no further: the first frame returns, or the instruction is refused. The indices:
-- the step, why the run stops, and the units that this last instruction counts.
pub data Final : Step → Stop → ℕ → Type 0 where
  returns : {number : ℕ} → Final (ends number) (ended number) 1
  refused_there : {why : ℕ} → Final (refuses why) (refused why) 0

-- With space enough, a run from s comes to `last` in so many units, and stops there.
pub record Course (m : Setting) (s : State) (why : Stop) : Type 0 where
  pub last : State
  -- instructions performed up to `last`
  pub units : ℕ
  pub path : Path m s last units
  pub final : Step
  pub counts : ℕ
  pub is_final : Final final why counts
  pub there : (space : ℕ) → length last.output ≤ space → step (with_space space m) last ≡ final

-- a course that is refused at once; and one after a path
abbrev pub refused_at_once : {m : Setting} {why : ℕ} (s : State) → ((space : ℕ) → step (with_space space m) s ≡ refuses why) → Course m s (refused why)
refused_at_once {why = why} s e =
    record { last = s; units = 0; path = no_step s; final = refuses why; counts = 0; is_final = refused_there; there = λ space fits. e space }

abbrev pub course_after : {m : Setting} {s t : State} {units : ℕ} {why : Stop} → Path m s t units → Course m t why → Course m s why
course_after {units = units} path c = record {
  last = c.last;
  units = units + c.units;
  path = join path c.path;
  final = c.final;
  counts = c.counts;
  is_final = c.is_final;
  there = c.there;
}

-- A run that has gone the whole way.
pub record WholeWay (last : State) (units counts : ℕ) (why : Stop) (r : Run) : Type 0 where
  pub stops : r.stop ≡ why
  pub spent : units_of r ≡ units + counts
  pub is_last : r.last ≡ last

-- What a run with this space and fuel comes to, where its course leads to `last` in so many units,
-- and stops there for this reason: its fuel or the output ends before, or it goes the whole way.
pub data CameTo (last : State) (units counts : ℕ) (why : Stop) (space fuel : ℕ) (r : Run) : Type 0 where
  out_of_fuel : r.stop ≡ refused fuel_used_up → units_of r ≡ fuel → fuel ≤ units → CameTo last units counts why space fuel r
  out_of_space : r.stop ≡ refused output_full → space < length last.output → CameTo last units counts why space fuel r
  whole : WholeWay last units counts why r → units < fuel → CameTo last units counts why space fuel r

-- The same of a course.
abbrev pub Came : {m : Setting} {s : State} {why : Stop} → Course m s why → (space fuel : ℕ) → Run → Type 0
Came {why = why} c = CameTo c.last c.units c.counts why

-- with fuel and space enough, the whole way
pub whole_way :
    {last : State} {units counts : ℕ} {why : Stop} {space fuel : ℕ} {r : Run}
    → units < fuel
    → length last.output ≤ space
    → CameTo last units counts why space fuel r
    → WholeWay last units counts why r
whole_way more fits (out_of_fuel e u l) = absurd (omega arith)
whole_way more fits (out_of_space e l) = absurd (omega arith)
whole_way more fits (whole a l) = a

-- with no fuel; at the last state; with one instruction more before
no_fuel : {last : State} {units counts : ℕ} {why : Stop} {space : ℕ} (m : Setting) (s : State) → CameTo last units counts why space 0 (run m 0 s)
no_fuel m s = rw (run_none m s) (out_of_fuel refl refl zero-le)

at_last :
    {final : Step} {why : Stop} {counts space : ℕ} (m : Setting) (fuel : ℕ) (s : State)
    → Final final why counts
    → step m s ≡ final
    → CameTo s 0 counts why space fuel (run m fuel s)
at_last m zero s f e = no_fuel m s
at_last m (suc fuel) s returns e = rw (run_ends m fuel s _ e) (whole (record { stops = refl; spent = refl; is_last = refl }) (omega arith))
at_last m (suc fuel) s refused_there e = rw (run_refuses m fuel s _ e) (whole (record { stops = refl; spent = refl; is_last = refl }) (omega arith))

one_before :
    {last : State} {units counts : ℕ} {why : Stop} {space fuel : ℕ} {r : Run} (a : ℕ)
    → CameTo last units counts why space fuel r
    → CameTo last (suc units) counts why space (suc fuel) (after_performing a r)
one_before a (out_of_fuel e u l) = out_of_fuel e (ap suc u) (omega arith)
one_before a (out_of_space e l) = out_of_space e l
one_before a (whole w l) = whole (record { stops = w.stops; spent = omega (arith, w.spent); is_last = w.is_last }) (omega arith)

-- what is written does not shorten
grown_length : {s t : State} → Grows s t → length s.output ≤ length t.output
grown_length {s} {t} g = omega (arith, ap length g.writes.joined, length-append s.output g.writes.rest)

module _ (m : Setting) (space : ℕ) {final : Step} {why : Stop} {counts : ℕ} (f : Final final why counts) where
  -- Where what has been written still fits, a run from s with any fuel comes to `last`, and stops
  -- there if fuel and space allow it.
  abbrev Leading : List ℕ → State → State → Type 0
  Leading past s last =
      (fuel : ℕ)
      → length s.output ≤ space
      → (length last.output ≤ space → step (with_space space m) last ≡ final)
      → CameTo last (length past) counts why space fuel (run (with_space space m) fuel s)

  -- one step before: it is made with this space too, or what it writes does not fit
  step_before :
      {past : List ℕ} (s : State) {t last : State}
      → step m s ≡ goes t
      → Steps m past t last
      → Leading past t last
      → Leading (s.address ∷ past) s last
  step_before s e d onward zero fits there = no_fuel (with_space space m) s
  step_before s {t} e d onward (suc fuel) fits there =
      elim (narrowed space e) [
        | goes_too k ↦
            rw (run_goes (with_space space m) fuel s t k)
            (one_before s.address (onward fuel (step_fits (with_space space m) s k fits) there))
        | full k less ↦
            rw (run_refuses (with_space space m) fuel s output_full k)
            (out_of_space refl (le_trans less (grown_length (steps_grow d))))
      ]

  -- from the last state back
  along : {past : List ℕ} {s last : State} → Steps m past s last → Leading past s last
  along d = elim d as (λ past s last d. Leading past s last) [
    | here {s} ↦ λ fuel fits there. at_last (with_space space m) fuel s f (there fits)
    | on {s = s} e (d → h) ↦ step_before s e d h
  ]

-- along the steps that the course has with the space that its end needs
pub came : {m : Setting} {s : State} {why : Stop} (c : Course m s why) (space fuel : ℕ) → length s.output ≤ space
    → Came c space fuel (run (with_space space m) fuel s)
came {m} c space fuel fits =
    let needed = length c.last.output in
    let to_last = along (with_space needed m) space c.is_final (c.path.steps needed (le_refl _)) in
    rw (← c.path.many) (to_last fuel fits (c.there space))
