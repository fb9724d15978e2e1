-- Laws of reductions: one after the other, and inside a context.
use Prim.Native.Nat.{ℕ, zero, suc}
use mathlib.Core.Path.{◌≡◌, refl}
use Rattle.formats.specs.Arithmetic.{Op}
use Rattle.formats.specs.Programs.{Program}
use Rattle.rules.specs.Printed.{Term, int, compute_term}
use Rattle.meaning.specs.Reductions.{Redex, Context, hole, app_left, app_right, plus_left, plus_right, in_leaf, node_left, node_right, in_case, in_let, in_test}
use Rattle.meaning.specs.Reductions.{plug, Reduces, in_context, StuckAt, at_sum, Leads, none_made, one_made}
use Rattle.meaning.specs.Meaning.{CanReduceTimes, Reaches, GetsStuck}

-- ---- contexts

-- One context inside another.
nested : Context → Context → Context
nested hole F = F
nested (app_left E N) F = app_left (nested E F) N
nested (app_right x N E) F = app_right x N (nested E F)
nested (plus_left op E N) F = plus_left op (nested E F) N
nested (plus_right op i E) F = plus_right op i (nested E F)
nested (in_leaf E) F = in_leaf (nested E F)
nested (node_left E N) F = node_left (nested E F) N
nested (node_right v E) F = node_right v (nested E F)
nested (in_case E x M₁ x₁ x₂ M₂) F = in_case (nested E F) x M₁ x₁ x₂ M₂
nested (in_let x E N) F = in_let x (nested E F) N
nested (in_test E M₁ M₂) F = in_test (nested E F) M₁ M₂

-- what stands in its hole stands in the inner one's, and that in the outer one's
plug_nested : (E F : Context) (L : Term) → plug (nested E F) L ≡ plug E (plug F L)
unfolding nested plug
plug_nested hole F L = refl
plug_nested (app_left E N) F L = rw (plug_nested E F L)
plug_nested (app_right x N E) F L = rw (plug_nested E F L)
plug_nested (plus_left op E N) F L = rw (plug_nested E F L)
plug_nested (plus_right op i E) F L = rw (plug_nested E F L)
plug_nested (in_leaf E) F L = rw (plug_nested E F L)
plug_nested (node_left E N) F L = rw (plug_nested E F L)
plug_nested (node_right v E) F L = rw (plug_nested E F L)
plug_nested (in_case E x M₁ x₁ x₂ M₂) F L = rw (plug_nested E F L)
plug_nested (in_let x E N) F L = rw (plug_nested E F L)
plug_nested (in_test E M₁ M₂) F L = rw (plug_nested E F L)

-- so a stuck term is stuck inside a context
still_stuck : {op : Op} {i j : ℕ} {M : Term} (E : Context) → StuckAt op i j M → StuckAt op i j (plug E M)
still_stuck {op} {i} {j} E (at_sum F missing) = rw (← plug_nested E F (compute_term op (int i) (int j))) (at_sum (nested E F) missing)

-- ---- reductions

module _ {program : Program} where
  -- no reduction at all
  pub nothing : {M : Term} → Reaches program M M
  nothing = record { steps = 0; leads = none_made }

  -- one way, then another
  pub reaches_on : {k : ℕ} {L M N : Term} → Leads program k L M → Reaches program M N → Reaches program L N
  reaches_on none_made r = r
  reaches_on (one_made s d) r = let rest = reaches_on d r in record { steps = suc rest.steps; leads = one_made s rest.leads }

  -- one more reduction in front
  pub makes_more : {k : ℕ} {L M : Term} → Reduces program L M → CanReduceTimes program k M → CanReduceTimes program (suc k) L
  makes_more r m = record { last = m.last; leads = one_made r m.leads }

  -- all but the last
  pub makes_fewer : {L N : Term} (k : ℕ) → Leads program (suc k) L N → CanReduceTimes program k L
  makes_fewer zero d = record { last = _; leads = none_made }
  makes_fewer (suc k) (one_made r d) = makes_more r (makes_fewer k d)

  -- as many, where others come first
  pub makes_on : {j k : ℕ} {L M : Term} → Leads program j L M → CanReduceTimes program k M → CanReduceTimes program k L
  makes_on none_made m = m
  makes_on (one_made r d) m = makes_fewer _ (makes_more r (makes_on d m)).leads

  -- a reduction inside a context
  reduces_in : {M N : Term} (E : Context) → Reduces program M N → Reduces program (plug E M) (plug E N)
  reduces_in E (in_context {M} {N} F r) = rw (← plug_nested E F M, ← plug_nested E F N) (in_context (nested E F) r)

  -- several, inside a context
  leads_in : {k : ℕ} {M N : Term} (E : Context) → Leads program k M N → Leads program k (plug E M) (plug E N)
  leads_in E none_made = none_made
  leads_in E (one_made r d) = one_made (reduces_in E r) (leads_in E d)

  pub reaches_in : {M N : Term} (E : Context) → Reaches program M N → Reaches program (plug E M) (plug E N)
  reaches_in E r = record { steps = r.steps; leads = leads_in E r.leads }

  pub makes_in : {k : ℕ} {M : Term} (E : Context) → CanReduceTimes program k M → CanReduceTimes program k (plug E M)
  makes_in E m = record { last = _; leads = leads_in E m.leads }

  -- what leads to a stuck term gets stuck, also inside a context
  pub stuck_on : {op : Op} {i j : ℕ} {L M : Term} → Reaches program L M → GetsStuck program M op i j → GetsStuck program L op i j
  stuck_on r s = record { last = s.last; reached = reaches_on r.leads s.reached; stuck = s.stuck }

  pub stuck_in : {op : Op} {i j : ℕ} {M : Term} (E : Context) → GetsStuck program M op i j → GetsStuck program (plug E M) op i j
  stuck_in E s = record { last = plug E s.last; reached = reaches_in E s.reached; stuck = still_stuck E s.stuck }

  -- a redex, where nothing is around it
  pub reduces : {M N : Term} → Redex program M N → Reduces program M N
  unfolding plug
  reduces r = in_context hole r

  pub reaches_one : {M N : Term} → Redex program M N → Reaches program M N
  reaches_one r = record { steps = 1; leads = one_made (reduces r) none_made }
