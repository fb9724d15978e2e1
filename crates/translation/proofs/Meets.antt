-- Steps from one state on form one sequence: each state has at most one next state. So a state in
-- the sequence leads on to the state at which it ends, and what has been read and written by then
-- only grows.
use Prim.Native.Nat.{ℕ, ◌+◌, zero-le}
use mathlib.Core.List.{List}
use mathlib.Core.Path.{◌≡◌, subst}
use lib.ListN.{length}
use Rattle.meaning.specs.Performing.{Setting, State, goes, step}
use Rattle.meaning.specs.Running.{Run, run}
use Rattle.meaning.specs.StreamRun.{Grows, Steps, here, on}
use Rattle.meaning.proofs.Runs.{runs}

-- bytes read and written grow along steps
pub steps_grow : {m : Setting} {past : List ℕ} {s t : State} → Steps m past s t → Grows s t
unfolding run
steps_grow {m} {past} {s} {t} d =
    subst (λ (r : Run). Grows s r.last) ((runs m s).goes-on past t 0 d) ((runs m s).grows 0 (length past + 0) zero-le)

-- Some steps lead from u to w.
pub record LeadsOn (m : Setting) (u w : State) : Type 0 where
  pub rest : List ℕ
  pub steps : Steps m rest u w

module _ {m : Setting} where
  -- after a first step, which is also that of the other sequence
  after_first :
      {q : List ℕ} {s t u w : State}
      → ((v : State) → step m w ≡ goes v → ⊥)
      → step m s ≡ goes t
      → ((q : List ℕ) → Steps m q t w → LeadsOn m u w)
      → Steps m q s w
      → LeadsOn m u w
  after_first {t = t} none e onward here = absurd (none t e)
  after_first {t = t} none e onward (on {t = v} d k) = let same : v ≡ t = cc in onward _ (rw same at k)

  -- where a sequence goes no further, every other from the same state leads to its end
  meets : {p q : List ℕ} {s u w : State} → Steps m p s u → Steps m q s w → ((t : State) → step m w ≡ goes t → ⊥) → LeadsOn m u w
  meets {q = q} {w = w} d k none = elim d as (λ p s u d. (q : List ℕ) → Steps m q s w → LeadsOn m u w) [
    | here ↦ λ q k. record { rest = q; steps = k }
    | on e (d → h) ↦ λ q k. after_first none e h k
  ] q k

  -- so what has been read and written only grows up to that end
  pub meets_grows : {p q : List ℕ} {s u w : State} → Steps m p s u → Steps m q s w → ((t : State) → step m w ≡ goes t → ⊥) → Grows u w
  meets_grows d k none = steps_grow (meets d k none).steps
