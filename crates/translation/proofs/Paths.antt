-- Steps that the output's length does not stop: they are the same with every space that holds what
-- has been written at their end.
use Prim.Native.Nat.{ℕ, ◌+◌, ◌≤◌}
use mathlib.Core.List.{List, [], ◌∷◌, ◌++◌}
use mathlib.Core.Path.{◌≡◌, refl}
use native.Mathlib.Nat.{le_refl, le_trans}
use native.Mathlib.Omega.{arith}
use lib.ListN.{length, length-append}
use Rattle.meaning.specs.Performing.{Setting, State, goes, step}
use Rattle.meaning.specs.StreamRun.{Steps, here, on}

-- A setting with another output length.
abbrev pub with_space : ℕ → Setting → Setting
with_space space m = record { holds = m.holds; input = m.input; space = space; most_words = m.most_words; most_open = m.most_open }

-- This many instructions lead from s to t. (The setting's own space is not looked at.)
pub record Path (m : Setting) (s t : State) (units : ℕ) : Type 0 where
  pub past : List ℕ
  pub many : length past ≡ units
  pub grows : length s.output ≤ length t.output
  pub steps : (space : ℕ) → length t.output ≤ space → Steps (with_space space m) past s t

-- steps joined
join_steps : {m : Setting} {p q : List ℕ} {s t u : State} → Steps m p s t → Steps m q t u → Steps m (p ++ q) s u
join_steps {m} {q = q} {u = u} d k = elim d as (λ p s t d. Steps m q t u → Steps m (p ++ q) s u) [
  | here ↦ λ k. k
  | on e (d → h) ↦ λ k. on e (h k)
] k

module _ {m : Setting} where
  -- none, one, and one path after another
  pub no_step : (s : State) → Path m s s 0
  no_step s = record { past = []; many = refl; grows = le_refl _; steps = λ space h. here }

  pub one_step : (s t : State) → length s.output ≤ length t.output
      → ((space : ℕ) → length t.output ≤ space → step (with_space space m) s ≡ goes t)
      → Path m s t 1
  one_step s t h e = record { past = s.address ∷ []; many = refl; grows = h; steps = λ space fits. on (e space fits) here }

  pub join : {s t u : State} {i j : ℕ} → Path m s t i → Path m t u j → Path m s u (i + j)
  join p q = record {
    past = p.past ++ q.past;
    many = omega (arith, length-append p.past q.past, p.many, q.many);
    grows = le_trans p.grows q.grows;
    steps = λ space h. join_steps (p.steps space (le_trans q.grows h)) (q.steps space h);
  }
