-- Laws of runs. A run is its steps (`by_steps`), and a run goes through every sequence of steps
-- (`goes-on`), so steps determine it (`only_one`). The other laws are then read off the steps.
use Prim.Native.Nat.{ℕ, zero, suc, ◌+◌, ◌-◌, ◌≤◌}
use mathlib.Core.List.{List, [], ◌∷◌, append-nil}
use mathlib.Core.Logic.{◌≢◌}
use mathlib.Core.Path.{◌≡◌, refl, sym, ap, subst, ◌∙◌}
use native.Mathlib.Nat.{le_trans, le_of_eq, zero-add, suc-add}
use native.Mathlib.Omega.{arith}
use lib.ListN.{length, length-append}
use Rattle.formats.specs.Refusals.{fuel_used_up}
use Rattle.meaning.specs.Performing.{Setting, State, goes, ends, refuses, step}
use Rattle.meaning.specs.Running.{Run, Stop, ended, refused, stopped, after_performing, run, units_of}
use Rattle.meaning.specs.StreamRun.{StepRefusal, ended_there, not-a-tag, full, too_many, cannot, out-of-range, Grows, Steps, here, on, Stops, used_up, returned, stuck, after_all, Runs}
use Rattle.meaning.proofs.Steps.{it_goes, it_ends, it_refuses, stepped, Follows, grows_same, follows_same, follows_on, follows_step, one_step}

-- ---- a run by the outcome of its first instruction

pub run_none : (m : Setting) (s : State) → run m 0 s ≡ stopped s (refused fuel_used_up)
unfolding run
run_none m s = refl

pub run_goes : (m : Setting) (fuel : ℕ) (s t : State) → step m s ≡ goes t → run m (suc fuel) s ≡ after_performing s.address (run m fuel t)
unfolding run
run_goes m fuel s t e = simp (run, e)

pub run_ends : (m : Setting) (fuel : ℕ) (s : State) (number : ℕ) → step m s ≡ ends number
    → run m (suc fuel) s ≡ after_performing s.address (stopped s (ended number))
unfolding run
run_ends m fuel s number e = simp (run, e)

pub run_refuses : (m : Setting) (fuel : ℕ) (s : State) (number : ℕ) → step m s ≡ refuses number → run m (suc fuel) s ≡ stopped s (refused number)
unfolding run
run_refuses m fuel s number e = simp (run, e)

-- ---- a run and its steps

-- a run goes through every sequence of steps
goes-on : {m : Setting} {past : List ℕ} {s t : State} (fuel : ℕ) → Steps m past s t → run m (length past + fuel) s ≡ after_all past (run m fuel t)
goes-on {m} fuel d = elim d as (λ past s t d. run m (length past + fuel) s ≡ after_all past (run m fuel t)) [
  | here {s} ↦ ap (λ k. run m k s) (zero-add fuel)
  | on {past} {s} {t} e (d → h) ↦ ap (λ k. run m k s) (suc-add (length past) fuel) ∙ run_goes m _ s t e ∙ ap (after_performing s.address) h
]

-- a step before steps that stop
stops_after : {m : Setting} {fuel : ℕ} {s t : State} {r : Run} → step m s ≡ goes t → Stops m fuel t r → Stops m (suc fuel) s (after_performing s.address r)
stops_after e (used_up d h) = used_up (on e d) (ap suc h)
stops_after e (returned d h x) = returned (on e d) (omega arith) x
stops_after e (stuck d h x) = stuck (on e d) (omega arith) x

-- a run is its steps
by_steps : (m : Setting) (fuel : ℕ) (s : State) → Stops m fuel s (run m fuel s)
by_steps m zero s = rw (run_none m s) (used_up here refl)
by_steps m (suc fuel) s =
    elim (stepped m s) [
      | it_goes t e ↦ rw (run_goes m fuel s t e) (stops_after e (by_steps m fuel t))
      | it_ends number e ↦ rw (run_ends m fuel s number e) (returned here (omega arith) e)
      | it_refuses number e ↦ rw (run_refuses m fuel s number e) (stuck here (omega arith) e)
    ]

-- the run after so many steps, with the fuel that is left, is the rest of the run
rest_is :
    {m : Setting} {fuel : ℕ} {past : List ℕ} {s t : State} {r : Run} (left : ℕ)
    → Steps m past s t
    → length past + left ≡ fuel
    → run m left t ≡ r
    → after_all past r ≡ run m fuel s
rest_is {m} {past = past} {s = s} left d h e = sym (ap (λ k. run m k s) (sym h) ∙ goes-on left d ∙ ap (after_all past) e)

-- nothing more is performed
no_more : (past : List ℕ) (t : State) (why : Stop) → record { performed = past; last = t; stop = why } ≡ after_all past (stopped t why)
no_more past t why = ap (λ (l : List ℕ). record { performed = l; last = t; stop = why }) (sym (append-nil past))

-- steps determine the run
only_one : {m : Setting} {fuel : ℕ} {s : State} {r : Run} → Stops m fuel s r → r ≡ run m fuel s
only_one {m} (used_up {past} {t} d h) = no_more past t _ ∙ rest_is 0 d (omega arith) (run_none m t)
only_one {m} {fuel} (returned {past} {t} {number} d h e) =
    let left = fuel - suc (length past) in
    rest_is (suc left) d (omega arith) (run_ends m left t number e)
only_one {m} {fuel} (stuck {past} {t} {number} d h e) =
    let left = fuel - suc (length past) in
    no_more past t _ ∙ rest_is (suc left) d (omega arith) (run_refuses m left t number e)

-- ---- read off the steps

module _ {m : Setting} {fuel : ℕ} {s : State} where
  within_fuel : {r : Run} → Stops m fuel s r → units_of r ≤ fuel
  within_fuel (used_up d h) = le_of_eq h
  within_fuel (returned {past} {t} d h e) = let long = length-append past (t.address ∷ []) in omega arith
  within_fuel (stuck d h e) = omega arith

  fuel_used : {r : Run} → Stops m fuel s r → r.stop ≡ refused fuel_used_up → units_of r ≡ fuel
  fuel_used (used_up d h) w = h
  fuel_used (returned d h e) w = cc
  fuel_used (stuck {number = number} d h e) w = let same : number ≡ fuel_used_up = cc in absurd (not_fuel ((one_step m _).refusals number e) same)
    where
      not_fuel : {n : ℕ} → StepRefusal n → n ≢ fuel_used_up
      not_fuel ended_there e = omega arith
      not_fuel not-a-tag e = omega arith
      not_fuel full e = omega arith
      not_fuel too_many e = omega arith
      not_fuel cannot e = omega arith
      not_fuel out-of-range e = omega arith

  settled : {r : Run} (more : ℕ) → Stops m fuel s r → r.stop ≢ refused fuel_used_up → fuel ≤ more → run m more s ≡ r
  settled more (used_up d h) w l = absurd (w refl)
  settled more (returned d h e) w l = sym (only_one (returned d (le_trans h l) e))
  settled more (stuck d h e) w l = sym (only_one (stuck d (le_trans h l) e))

-- the state that steps lead to follows the first, and so does the state in which a run stops
steps_follow : {m : Setting} {past : List ℕ} {s t : State} → Steps m past s t → Follows m s t
steps_follow {m} d = elim d as (λ past s t d. Follows m s t) [
  | here {s} ↦ follows_same m s
  | on {s = s} e (d → h) ↦ follows_on (follows_step m s e) h
]

last_follows : {m : Setting} {fuel : ℕ} {s : State} {r : Run} → Stops m fuel s r → Follows m s r.last
last_follows (used_up d h) = steps_follow d
last_follows (returned d h e) = steps_follow d
last_follows (stuck d h e) = steps_follow d

-- with more fuel it goes on from there, or has stopped
grows : {m : Setting} {fuel : ℕ} {s : State} {r : Run} (more : ℕ) → Stops m fuel s r → fuel ≤ more → Grows r.last (run m more s).last
grows {m} more (used_up {past} {t} d h) l =
    let left = more - length past in
    subst (λ (r : Run). Grows t r.last) (rest_is left d (omega arith) refl) (last_follows (by_steps m left t)).grows
grows more (returned {t = t} d h e) l = subst (λ (r : Run). Grows t r.last) (only_one (returned d (le_trans h l) e)) (grows_same t)
grows more (stuck {t = t} d h e) l = subst (λ (r : Run). Grows t r.last) (only_one (stuck d (le_trans h l) e)) (grows_same t)

pub runs : (m : Setting) (s : State) → Runs m s
runs m s = record {
  within_fuel = λ fuel. within_fuel (by_steps m fuel s);
  fuel_used = λ fuel. fuel_used (by_steps m fuel s);
  by_steps = λ fuel. by_steps m fuel s;
  only_one = λ fuel r. only_one;
  goes-on = λ past t fuel. goes-on fuel;
  grows = λ fuel more. grows more (by_steps m fuel s);
  settled = λ fuel more. settled more (by_steps m fuel s);
  within = λ fuel. (last_follows (by_steps m fuel s)).within;
}
