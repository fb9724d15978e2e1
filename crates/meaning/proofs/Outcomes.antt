-- Laws of outcomes: each is so many expressions begun, then a value or a stop.
use Prim.Native.Nat.{ℕ, zero, suc, ◌+◌}
use mathlib.Core.Option.{Option, none, some}
use mathlib.Core.Path.{◌≡◌, refl, sym, ap}
use native.Mathlib.Nat.{zero-add, suc-add}
use native.Mathlib.Omega.{arith}
use Rattle.formats.specs.Arithmetic.{Op, result_of}
use Rattle.meaning.specs.Evaluation.{Value, number}
use Rattle.meaning.specs.OpenCalls.{Reason, no_result, Outcome, gives, stops, begins, begun, after_begun, followed_by, computed}

-- more begun after those begun before
pub after_more : {A : Type 0} (n m : ℕ) (o : Outcome A) → after_begun n (after_begun m o) ≡ after_begun (n + m) o
unfolding after_begun
after_more zero m o = rw zero-add
after_more (suc n) m o = rw suc-add (ap begins (after_more n m o))

-- what follows comes after what has begun
pub next_after : {A B : Type 0} (n : ℕ) (o : Outcome A) (f : A → Outcome B) → followed_by (after_begun n o) f ≡ after_begun n (followed_by o f)
unfolding after_begun followed_by
next_after zero o f = refl
next_after (suc n) o f = ap begins (next_after n o f)

pub begun_after : {A : Type 0} (n : ℕ) (o : Outcome A) → begun (after_begun n o) ≡ n + begun o
unfolding after_begun begun
begun_after zero o = rw zero-add
begun_after (suc n) o = rw suc-add (ap suc (begun_after n o))

-- their count is determined, and what comes after them
after_same : {A : Type 0} (n m : ℕ) (o p : Outcome A) → begun o ≡ 0 → begun p ≡ 0 → after_begun n o ≡ after_begun m p → (n ≡ m) × (o ≡ p)
unfolding after_begun begun
after_same zero zero o p h k e = (refl, e)
after_same zero (suc m) o p h k e = let more = ap begun e in absurd (omega arith)
after_same (suc n) zero o p h k e = let more = ap begun e in absurd (omega arith)
after_same (suc n) (suc m) o p h k e = let same = after_same n m o p h k (cc) in (ap suc same.0, same.1)

-- a value is no stop
pub gives_not : {A : Type 0} (n m : ℕ) (why : Reason) (r : ℕ) (x : A) → after_begun n (gives x) ≡ after_begun m (stops why r) → ⊥
unfolding begun
gives_not n m why r x e = let z : ◌≡◌ {A = ℕ} 0 1 = cc (after_same n m (gives x) (stops why r) refl refl e).1 in absurd (omega arith)

-- a stop is determined: the expressions begun before it, its reason, its record
pub one_stop :
    {A : Type 0} (n m : ℕ) (why why' : Reason) (r r' : ℕ)
    → ◌≡◌ {A = Outcome A} (after_begun n (stops why r)) (after_begun m (stops why' r'))
    → (n ≡ m) × ((why ≡ why') × (r ≡ r'))
unfolding begun
one_stop n m why why' r r' e =
    let same = after_same n m (stops why r) (stops why' r') refl refl e in
    (same.0, (cc same.1, cc same.1))

-- ---- what an outcome comes to

-- Some expressions begin; then there is a value of this form, of which `Holds` is true, or a stop
-- for a reason at a record, of which `Stopped` is true.
pub data ComesTo {X A : Type 0} (form : X → A) (Holds : ℕ → A → Type 0) (Stopped : ℕ → Reason → ℕ → Type 0) : Outcome A → Type 0 where
  given : (n : ℕ) (x : X) → Holds n (form x) → ComesTo form Holds Stopped (after_begun n (gives (form x)))
  stopped : (n : ℕ) (why : Reason) (r : ℕ) → Stopped n why r → ComesTo form Holds Stopped (after_begun n (stops why r))

module _ {X A : Type 0} {form : X → A} {P : ℕ → A → Type 0} {S : ℕ → Reason → ℕ → Type 0} where
  -- where other statements follow of a value and of a stop
  pub comes_map :
      {Q : ℕ → A → Type 0} {T : ℕ → Reason → ℕ → Type 0} {o : Outcome A}
      → ((n : ℕ) (a : A) → P n a → Q n a)
      → ((n : ℕ) (why : Reason) (r : ℕ) → S n why r → T n why r)
      → ComesTo form P S o
      → ComesTo form Q T o
  comes_map f g (given n x h) = given n x (f n (form x) h)
  comes_map f g (stopped n why r s) = stopped n why r (g n why r s)

  -- one expression begins before, or several
  pub comes_begins : {o : Outcome A} → ComesTo form (λ n x. P (suc n) x) (λ n why r. S (suc n) why r) o → ComesTo form P S (begins o)
  unfolding after_begun
  comes_begins (given n x h) = given (suc n) x h
  comes_begins (stopped n why r s) = stopped (suc n) why r s

  comes_after : {o : Outcome A} (n : ℕ) → ComesTo form (λ m x. P (n + m) x) (λ m why r. S (n + m) why r) o → ComesTo form P S (after_begun n o)
  comes_after n (given m x h) = rw after_more (given (n + m) x h)
  comes_after n (stopped m why r s) = rw after_more (stopped (n + m) why r s)

  -- where it gives a value, this holds of it ..
  pub comes_value : {o : Outcome A} (n : ℕ) (a : A) → ComesTo form P S o → o ≡ after_begun n (gives a) → P n a
  unfolding begun
  comes_value n a (given m x h) e =
      let same = after_same m n (gives (form x)) (gives a) refl refl e in
      let is : form x ≡ a = cc same.1 in
      rw (same.0, is) at h
  comes_value n a (stopped m why r s) e = absurd (gives_not n m why r a (sym e))

  -- .. and where it stops, that holds
  pub comes_stop : {o : Outcome A} (n : ℕ) (why : Reason) (r : ℕ) → ComesTo form P S o → o ≡ after_begun n (stops why r) → S n why r
  comes_stop n why r (given m x h) e = absurd (gives_not m n why r (form x) e)
  comes_stop n why r (stopped m why' r' s) e = let same = one_stop m n why' why r' r e in rw (same.0, same.1.0, same.1.1) at s

-- a value goes on to what follows; a stop stays, and is one of the whole
pub comes_next :
    {X Y A B : Type 0} {form : X → A} {form' : Y → B} {P : ℕ → A → Type 0} {Q : ℕ → B → Type 0} {S T : ℕ → Reason → ℕ → Type 0}
    {o : Outcome A} (f : A → Outcome B)
    → ComesTo form P S o
    → ((n : ℕ) (why : Reason) (r : ℕ) → S n why r → T n why r)
    → ((n : ℕ) (x : X) → P n (form x) → ComesTo form' (λ m y. Q (n + m) y) (λ m why r. T (n + m) why r) (f (form x)))
    → ComesTo form' Q T (followed_by o f)
unfolding followed_by
comes_next f (given n x h) stays follows = rw next_after (comes_after n (follows n x h))
comes_next f (stopped n why r s) stays follows = rw next_after (stopped n why r (stays n why r s))

-- an operation comes to its result, or stops at its record where there is none
pub comes_computed :
    {P : ℕ → Value → Type 0} {S : ℕ → Reason → ℕ → Type 0} (r : ℕ) (op : Op) (i j : ℕ)
    → ((x : ℕ) → result_of op i j ≡ some x → P 0 (number x))
    → (result_of op i j ≡ none → S 0 (no_result op i j) r)
    → ComesTo number P S (computed r op i j)
unfolding computed after_begun
comes_computed {P} {S} r op i j fits missing = by_result (result_of op i j) refl
  where
    by_result :
        (o : Option ℕ)
        → result_of op i j ≡ o
        → ComesTo number P S (elim o [ some x ↦ gives (number x) | none ↦ stops (no_result op i j) r ])
    by_result (some x) e = given 0 x (fits x e)
    by_result none e = stopped 0 (no_result op i j) r (missing e)

-- any outcome comes to a value or a stop
abbrev pub Ended : {A : Type 0} → Outcome A → Type 0
Ended o = ComesTo (λ x. x) (λ n x. Unit {0}) (λ n why r. Unit {0}) o

pub ended : {A : Type 0} (o : Outcome A) → Ended o
unfolding after_begun
ended (gives x) = given 0 x tt
ended (stops why r) = stopped 0 why r tt
ended (begins o) = comes_begins (ended o)
