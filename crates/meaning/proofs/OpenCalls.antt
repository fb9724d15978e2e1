-- The evaluation with a bound on the open calls gives what the rules of the source evaluation give,
-- and stops exactly where the rules for a stop say so. The value is of function 0's sort, and its
-- numbers fit 32 bits.
--
-- From the rules to the function: by induction on the derivation. From the function to the rules:
-- by recursion on the calls that may still be opened and, inside a body, on what pass one says of
-- it. Each part comes to a value of its sort or to a stop, with a derivation. What the function
-- gives an unbound name, or a value of the other sort, has no derivation: pass one rules both out.
-- A value fits where all that names stand for does: a Const's number is within the limits, and an
-- operation's result is a 32-bit word. Under two bounds an evaluation breaks in one way, since the
-- function does under a larger one.
use Prim.Native.Nat.{ℕ, zero, suc, ◌+◌, ◌≤◌}
use mathlib.Core.List.{List, [], ◌∷◌}
use mathlib.Core.Logic.{◌⊎◌, inl, inr}
use mathlib.Core.Option.{some}
use mathlib.Core.Path.{◌≡◌, refl, sym, ap, subst, ◌∙◌}
use native.Mathlib.Nat.{add-zero, zero-add}
use native.Mathlib.Omega.{arith}
use lib.ListN.{length}
use Rattle.formats.specs.Arithmetic.{Op}
use Rattle.formats.specs.Tokens.{Tree, leaf, node, Labelled}
use Rattle.formats.specs.Records.{nth}
use Rattle.formats.specs.Programs.{Expr, if_zero, case_of, call, Args, Every, Sort, Function, Program, size}
use Rattle.formats.proofs.Arithmetic.{result_fits}
use Rattle.meaning.specs.Evaluation.{Value, number, Environment, tree_named, with_number, with_trees, in_call, picked, branch, in_branch, result_number}
use Rattle.meaning.specs.Evaluation.{Takes, Const, Var, Compute, IfZero, Let, Leaf, Node, Case, Call, TakesArgs, no_more, one_more, Ends}
use Rattle.meaning.specs.OpenCalls.{Reason, no_fuel, no_call, no_result, Outcome, gives, stops, begins, after_begun, followed_by, number_or, tree_or, result_tree}
use Rattle.meaning.specs.OpenCalls.{computed, evaluate, evaluate_args, first_record, called, evaluation}
use Rattle.meaning.specs.Unfinished.{StopsIn, out-of-range, in_first, in_second, in_test, in_picked, in_named, in_body, in_label, in_left, in_right}
use Rattle.meaning.specs.Unfinished.{in-branch, in_arguments, too_many, in-call, StopsInArgs, in_this, in_later, StopsOn, none_open, in_first_call, Breaks}
use Rattle.meaning.specs.Unfinished.{picked_record, branch_record}
use Rattle.meaning.specs.Meaning.{EndsWithin, BreaksWithin, TooMany, OfSort, Further, the_same, both_begin, HeldTo}
use Rattle.meaning.proofs.Levels.{level_found}
use Rattle.meaning.proofs.Outcomes.{after_more, next_after, gives_not, one_stop}
use Rattle.meaning.proofs.Outcomes.{ComesTo, given, stopped, comes_map, comes_begins, comes_next, comes_computed, comes_value, comes_stop}
use Rattle.meaning.proofs.Evaluation.{by_args, takes_open}
use Rattle.meaning.proofs.Further.{further}
use Rattle.meaning.proofs.Unfinished.{stops_open, four_each_stopped}
use Rattle.meaning.proofs.OneStop.{same_break}
use Rattle.meaning.proofs.StopRecords.{at_call, at_operation, breaks_within, not_for_fuel}
use Rattle.meaning.proofs.Sorts.{value_of, Numbers, numbers_of, Fits, AllFit, number_fits, tree_fits, fit_number, fit_trees, fit_call}
use Rattle.meaning.proofs.Proper.{Proper, proper_const, proper_var, proper_compute, proper_if_zero, proper_let, proper_leaf, proper_node, proper_case}
use Rattle.meaning.proofs.Proper.{proper_call, proper_none, proper_arg, ProperProgram}

-- ---- from the rules to the function

module _ (program : Program) where
  -- What a derivation promises: where as many calls may be open as its bound says, or more, the
  -- function gives its value.
  abbrev Reported : (E : Environment) (e : Expr) (o n : ℕ) (v : Value) → Type 0
  Reported E e o n v = (k r : ℕ) → o ≤ suc k → evaluate (called program k) E r e ≡ after_begun n (gives v)

  abbrev ReportedArgs : (E : Environment) (xs : Args) (o n : ℕ) (before numbers : List ℕ) → Type 0
  ReportedArgs E xs o n before numbers = (k r : ℕ) → o ≤ suc k → evaluate_args (called program k) E r xs before ≡ after_begun n (gives numbers)

  -- a call gives what its function's body gives; the body's bound is not 0
  reported_call :
      (b : ℕ) (f : Function) (numbers : List ℕ) (u : Tree) (o n : ℕ) (v : Value)
      → nth program.functions b ≡ some f
      → Takes program (in_call numbers u) f.body o n v
      → Reported (in_call numbers u) f.body o n v
      → (k r : ℕ)
      → o ≤ k
      → called program k r b numbers u ≡ after_begun n (gives v)
  unfolding called
  reported_call b f numbers u o n v is_function d t zero r h = absurd (omega (arith, takes_open d))
  reported_call b f numbers u o n v is_function d t (suc k) r h = rw (is_function, called) (t k _ h)

  -- each derivation keeps this
  reported : {E : Environment} {e : Expr} {o n : ℕ} {v : Value} → Takes program E e o n v → Reported E e o n v
  unfolding evaluate computed after_begun followed_by number_or tree_or result_number result_tree picked branch in_branch
  reported d = elim d as (λ E e o n v d. Reported E e o n v) (λ E xs o n before numbers d. ReportedArgs E xs o n before numbers) [
    | Const ↦ λ k r h. refl
    | Var named ↦ λ k r h. simp named
    | Compute (d₁ → t₁) (d₂ → t₂) fits ↦ λ k r h. simp (t₁, t₂, fits, computed, followed_by, result_number, next_after, after_more)
    | IfZero {E} {t = e} {zero_part = z} {other_part = w} {o} {n} {m} {i} {v} (d₁ → t₁) (d₂ → t₂) ↦
        let by_number : (i : ℕ) → Reported E e o n (number i) → Reported E (picked i z w) o m v → Reported E (if_zero e z w) o (suc (n + m)) v = elim [
          | zero ↦ λ t₁ t₂ k r h. simp (t₁, t₂, next_after, after_more)
          | suc i ↦ λ t₁ t₂ k r h. simp (t₁, t₂, next_after, after_more)
        ] in
        by_number i t₁ t₂
    | Let (d₁ → t₁) (d₂ → t₂) ↦ λ k r h. simp (t₁, t₂, next_after, after_more)
    | Leaf (d → t) ↦ λ k r h. simp (t, next_after)
    | Node (d₁ → t₁) (d₂ → t₂) ↦ λ k r h. simp (t₁, t₂, next_after, after_more)
    | Case {E} {a} {p} {q} {o} {n} {t = u} {v} named (d → t) ↦
        let by_tree : (u : Tree) → tree_named E a ≡ some u → Reported (in_branch u E) (branch u p q) o n v → Reported E (case_of a p q) o (suc n) v = elim [
          | leaf x ↦ λ named t k r h. simp (named, t)
          | node left right ↦ λ named t k r h. simp (named, t)
        ] in
        by_tree u named t
    | Call {b = b} {o = o} {m = m} {numbers = numbers} {t = u} {f = f} {v = v} (ds → ts) named is_function (d → t) ↦ λ k r h.
        simp (ts, named, reported_call b f numbers u o m v is_function d t k r (omega arith), next_after, after_more)
    | no_more ↦ λ k r h. refl
    | one_more (d → t) (ds → ts) ↦ λ k r h. simp (t, ts, next_after, after_more)
  ]

  -- so does each derivation of arguments
  reported_args :
      {E : Environment} {xs : Args} {o n : ℕ} {before numbers : List ℕ}
      → TakesArgs program E xs o n before numbers
      → ReportedArgs E xs o n before numbers
  unfolding evaluate_args after_begun followed_by result_number
  reported_args ds =
      by_args
      (λ E xs o n before numbers ds. ReportedArgs E xs o n before numbers)
      (λ E o numbers k r h. refl)
      (λ E x xs o n m i before after d ds ts k r h. simp (reported d, ts, next_after, after_more))
      _ _ _ _ _ _ ds

  -- and so does the derivation of the whole
  reported_end : (u : Tree) (o n : ℕ) (v : Value) → Ends program u o n v → (k : ℕ) → o ≤ k → evaluation program k u ≡ after_begun n (gives v)
  unfolding evaluation
  reported_end u o n v ends k h = reported_call 0 ends.first [] u o n v ends.is_first ends.takes (reported ends.takes) k 0 h

  -- What the derivation of a stop promises: where as many calls may be open as its bound says, the
  -- function stops so.
  abbrev Stopped : (E : Environment) (r : ℕ) (e : Expr) (o n : ℕ) (why : Reason) (x : ℕ) → Type 0
  Stopped E r e o n why x = (k : ℕ) → o ≡ suc k → evaluate (called program k) E r e ≡ after_begun n (stops why x)

  abbrev StoppedArgs : (E : Environment) (r : ℕ) (xs : Args) (o n : ℕ) (before : List ℕ) (why : Reason) (x : ℕ) → Type 0
  StoppedArgs E r xs o n before why x = (k : ℕ) → o ≡ suc k → evaluate_args (called program k) E r xs before ≡ after_begun n (stops why x)

  -- a call stops where its function's body does
  stopped_call :
      (b : ℕ) (f : Function) (numbers : List ℕ) (u : Tree) (o n : ℕ) (why : Reason) (x : ℕ)
      → nth program.functions b ≡ some f
      → 1 ≤ o
      → Stopped (in_call numbers u) (first_record program b) f.body o n why x
      → (k : ℕ)
      → o ≡ k
      → (r : ℕ)
      → called program k r b numbers u ≡ after_begun n (stops why x)
  unfolding called
  stopped_call b f numbers u o n why x is_function some_open t zero h r = absurd (omega arith)
  stopped_call b f numbers u o n why x is_function some_open t (suc k) h r = rw (is_function, called) (t k h)

  -- What the part before it promises, which has a value.
  abbrev Taken : (E : Environment) (e : Expr) (o n : ℕ) (v : Value) → Type 0
  Taken E e o n v = (k : ℕ) → o ≡ suc k → (r : ℕ) → evaluate (called program k) E r e ≡ after_begun n (gives v)

  taken : {E : Environment} {e : Expr} {o n : ℕ} {v : Value} → Takes program E e o n v → Taken E e o n v
  taken d k h r = reported d k r (omega arith)

  taken_args :
      {E : Environment} {xs : Args} {o n : ℕ} {before numbers : List ℕ}
      → TakesArgs program E xs o n before numbers
      → (k : ℕ)
      → o ≡ suc k
      → (r : ℕ)
      → evaluate_args (called program k) E r xs before ≡ after_begun n (gives numbers)
  taken_args ds k h r = reported_args ds k r (omega arith)

  -- each derivation keeps this
  stopped_so : {E : Environment} {r : ℕ} {e : Expr} {o n : ℕ} {why : Reason} {x : ℕ} → StopsIn program E r e o n why x → Stopped E r e o n why x
  unfolding evaluate computed after_begun followed_by number_or tree_or result_number result_tree picked branch in_branch picked_record branch_record called
  stopped_so s = elim s as (λ E r e o n why x s. Stopped E r e o n why x) (λ E r xs o n before why x s. StoppedArgs E r xs o n before why x) [
    | out-of-range d₁ d₂ missing ↦ λ k h. simp (taken d₁ k h, taken d₂ k h, missing, computed, followed_by, result_number, next_after, after_more)
    | in_first (s → t) ↦ λ k h. simp (t k h, next_after)
    | in_second d (s → t) ↦ λ k h. simp (taken d k h, t k h, next_after, after_more)
    | in_test (s → t) ↦ λ k h. simp (t k h, next_after)
    | in_picked {E = E} {r = r} {t = e} {z = z} {w = w} {o = o} {n = n} {m = m} {i = i} {x = x} {why = why} d (s → t) ↦
        let by_number : (i : ℕ) → Taken E e o n (number i) → Stopped E (picked_record i r e z) (picked i z w) o m why x
        → Stopped E r (if_zero e z w) o (suc (n + m)) why x = elim [
          | zero ↦ λ t₁ t₂ k h. simp (t₁ k h, t₂ k h, next_after, after_more)
          | suc i ↦ λ t₁ t₂ k h. simp (t₁ k h, t₂ k h, next_after, after_more)
        ] in
        by_number i (taken d) t
    | in_named (s → t) ↦ λ k h. simp (t k h, next_after)
    | in_body d (s → t) ↦ λ k h. simp (taken d k h, t k h, next_after, after_more)
    | in_label (s → t) ↦ λ k h. simp (t k h, next_after)
    | in_left (s → t) ↦ λ k h. simp (t k h, next_after)
    | in_right d (s → t) ↦ λ k h. simp (taken d k h, t k h, next_after, after_more)
    | in-branch {E = E} {r = r} {a = a} {p = p} {q = q} {o = o} {n = n} {x = x} {t = u} {why = why} named (s → t) ↦
        let by_tree : (u : Tree) → tree_named E a ≡ some u → Stopped (in_branch u E) (branch_record u r p) (branch u p q) o n why x
        → Stopped E r (case_of a p q) o (suc n) why x = elim [
          | leaf i ↦ λ named t k h. simp (named, t k h)
          | node left right ↦ λ named t k h. simp (named, t k h)
        ] in
        by_tree u named t
    | in_arguments (s → t) ↦ λ k h. simp (t k h, next_after)
    | too_many ds ↦ elim [
      | zero ↦ λ h. simp (taken_args ds 0 h, called, followed_by, next_after)
      | suc k ↦ λ h. absurd (omega arith)
    ]
    | in-call {r = r} {b = b} {o = o} {m = m} {x = x} {numbers = numbers} {t = u} {f = f} {why = why} ds named is_function (s → t) ↦ λ k h.
        simp (taken_args ds k h, named, stopped_call b f numbers u o m why x is_function (stops_open s) t k (omega arith), followed_by, next_after, after_more)
    | in_this (s → t) ↦ λ k h. simp (t k h, next_after)
    | in_later d (s → t) ↦ λ k h. simp (taken d k h, t k h, next_after, after_more)
  ]

  -- and so does the derivation for the whole
  stopped_end : (u : Tree) (o n : ℕ) (why : Reason) (q : ℕ) → StopsOn program u o n why q → evaluation program o u ≡ after_begun n (stops why q)
  unfolding evaluation called after_begun
  stopped_end u o n why q none_open = refl
  stopped_end u o n why q (in_first_call {first = f} known s) = stopped_call 0 f [] u o n why q known (stops_open s) (stopped_so s) o refl 0

-- ---- from the function to the rules

-- A call of function b from record r, where k may be open, stops: it is one too many, or stops in
-- the body that it opens.
data StopsCalled (program : Program) (numbers : List ℕ) (u : Tree) (b : ℕ) (body : Expr) (r : ℕ) : (k n : ℕ) → Reason → ℕ → Type 0 where
  not_opened : StopsCalled program numbers u b body r 0 0 no_call r
  in_its_body :
      {k n x : ℕ} {why : Reason}
      → StopsIn program (in_call numbers u) (first_record program b) body k n why x
      → StopsCalled program numbers u b body r k n why x

-- then the Call stops, after its arguments
call_stops :
    {program : Program} {E : Environment} {a b : ℕ} {xs : Args} {n : ℕ} {numbers : List ℕ} {u : Tree} {f : Function} {r k m x : ℕ} {why : Reason}
    → TakesArgs program E xs (suc k) n [] numbers
    → tree_named E a ≡ some u
    → nth program.functions b ≡ some f
    → StopsCalled program numbers u b f.body r k m why x
    → StopsIn program E r (call a b xs) (suc k) (suc (n + m)) why x
call_stops ds named is_function not_opened = rw add-zero (too_many ds)
call_stops ds named is_function (in_its_body s) = in-call ds named is_function s

-- With k calls that may still be opened.
module _ (program : Program) (k : ℕ) where
  -- It is derived; and it fits where all that names stand for does: a value ..
  abbrev Derived : (E : Environment) (s : Sort) (e : Expr) (o n : ℕ) (v : Value) → Type 0
  Derived E s e o n v = Takes program E e o n v × (AllFit E → OfSort s v)

  -- .. and the numbers of arguments.
  abbrev DerivedArgs : (E : Environment) (xs : Args) (o : ℕ) (before : List ℕ) (n : ℕ) (numbers : List ℕ) → Type 0
  DerivedArgs E xs o before n numbers = TakesArgs program E xs o n before numbers × (AllFit E → Every Fits before → Every Fits numbers)

  -- What is to be shown of a call.
  abbrev KnownCalls : Type 0
  KnownCalls =
      (b : ℕ) (f : Function) (numbers : Numbers f.parameters) (u : Tree) (r : ℕ)
      → nth program.functions b ≡ some f
      → ComesTo
      (value_of f.sort)
      (Derived (in_call numbers.all u) f.sort f.body k)
      (λ n why x. StopsCalled program numbers.all u b f.body r k n why x)
      (called program k r b numbers.all u)

  -- What is to be shown of an expression in an environment, and under so many names of numbers and
  -- of trees.
  abbrev KnownIn : (E : Environment) (s : Sort) (e : Expr) → Type 0
  KnownIn E s e =
      (r : ℕ)
      → ComesTo (value_of s) (Derived E s e (suc k)) (λ n why x. StopsIn program E r e (suc k) n why x) (evaluate (called program k) E r e)

  abbrev KnownUnder : (g n : ℕ) (s : Sort) (e : Expr) → Type 0
  KnownUnder g n s e = (E : Environment) → length E.numbers ≡ g → length E.trees ≡ n → KnownIn E s e

  -- What is to be shown of so many arguments.
  abbrev KnownArgs : (g n count : ℕ) (xs : Args) → Type 0
  KnownArgs g n count xs =
      (E : Environment)
      → length E.numbers ≡ g
      → length E.trees ≡ n
      → (r : ℕ) (before : List ℕ) (all : ℕ)
      → length before + count ≡ all
      → ComesTo
      (numbers_of all)
      (DerivedArgs E xs (suc k) before)
      (λ n why x. StopsInArgs program E r xs (suc k) n before why x)
      (evaluate_args (called program k) E r xs before)

  -- it is shown of an expression that pass one accepts, if it holds of the calls in it
  known : KnownCalls → {g n : ℕ} {s : Sort} {e : Expr} → Proper program.functions g n s e → KnownUnder g n s e
  unfolding evaluate after_begun followed_by number_or tree_or result_number result_tree picked branch in_branch picked_record branch_record
  known calls d = elim d as (λ g n s e d. KnownUnder g n s e) (λ g n count xs d. KnownArgs g n count xs) [
    | proper_const {i = i} small ↦ λ E numbers trees r. given 1 i (Const, λ fit. small)
    | proper_var {a = a} bound ↦ λ E numbers trees r.
        let found = level_found E.numbers a (omega arith) in
        rw found.is (given 1 found.entry (Var found.is, λ fit. number_fits a fit found.is))
    | proper_compute {op = op} (d₁ → known_p) (d₂ → known_q) ↦ λ E numbers trees r.
        comes_begins (comes_next _ (known_p E numbers trees _) (λ n why x s. in_first s) λ n i p.
        comes_next _ (known_q E numbers trees _) (λ m why x s. in_second p.0 s) λ m j q.
        comes_computed r op i j
        (λ x fits. (rw add-zero (Compute p.0 q.0 fits), λ fit. result_fits op i j fits))
        (λ missing. rw add-zero (out-of-range p.0 q.0 missing)))
    | proper_if_zero {s = s} {t = e} {z = z} {o = w} (d₀ → known_t) (d₁ → known_z) (d₂ → known_w) ↦ λ E numbers trees r.
        comes_begins (comes_next _ (known_t E numbers trees _) (λ n why x s. in_test s) λ n i t.
        comes_map {P = Derived E s (picked i z w) (suc k)} {S = λ m why x. StopsIn program E (picked_record i r e z) (picked i z w) (suc k) m why x}
        (λ m x part. (IfZero t.0 part.0, part.1))
        (λ m why x s. in_picked t.0 s)
        (elim i as (λ i. ComesTo
        (value_of s)
        (Derived E s (picked i z w) (suc k))
        (λ m why x. StopsIn program E (picked_record i r e z) (picked i z w) (suc k) m why x)
        (elim i [ zero ↦ evaluate (called program k) E (suc r + size e) z | suc j ↦ evaluate (called program k) E (suc r + size e + size z) w ])) [
          | zero ↦ known_z E numbers trees _
          | suc j ↦ known_w E numbers trees _
        ]))
    | proper_let (d₁ → known_p) (d₂ → known_body) ↦ λ E numbers trees r.
        comes_begins (comes_next _ (known_p E numbers trees _) (λ n why x s. in_named s) λ n i p.
        comes_map
        (λ m x body. (Let p.0 body.0, λ fit. body.1 (fit_number fit (p.1 fit))))
        (λ m why x s. in_body p.0 s)
        (known_body (with_number i E) (ap suc numbers) trees _))
    | proper_leaf (d → known_p) ↦ λ E numbers trees r.
        comes_begins (comes_next _ (known_p E numbers trees _) (λ n why x s. in_label s) λ n i p.
        given 0 (leaf i) (rw add-zero (Leaf p.0), p.1))
    | proper_node (d₁ → known_p) (d₂ → known_q) ↦ λ E numbers trees r.
        comes_begins (comes_next _ (known_p E numbers trees _) (λ n why x s. in_left s) λ n left p.
        comes_next _ (known_q E numbers trees _) (λ m why x s. in_right p.0 s) λ m right q.
        given 0 (node left right) (rw add-zero (Node p.0 q.0), λ fit. (p.1 fit, q.1 fit)))
    | proper_case {a = a} {s = s} {p = p} {q = q} bound (d₁ → known_p) (d₂ → known_q) ↦ λ E numbers trees.
        let on_tree : (u : Tree) → tree_named E a ≡ some u → KnownIn E s (case_of a p q) = elim [
          | leaf i ↦ λ named r.
              comes_begins (rw named (comes_map
              (λ m x part. (Case named part.0, λ fit. part.1 (fit_number fit (tree_fits a fit named))))
              (λ m why x s. in-branch named s)
              (known_p (with_number i E) (ap suc numbers) trees _)))
          | node left right ↦ λ named r.
              comes_begins (rw named (comes_map
              (λ m x part. (Case named part.0, λ fit. part.1 (fit_trees fit (tree_fits a fit named))))
              (λ m why x s. in-branch named s)
              (known_q (with_trees left right E) numbers (omega arith) _)))
        ] in
        let found = level_found E.trees a (omega arith) in
        on_tree found.entry found.is
    | proper_call {a = a} {b = b} {f = f} bound is_function same (ds → known_xs) ↦ λ E numbers trees r.
        let found = level_found E.trees a (omega arith) in
        rw (found.is, same) (comes_begins (comes_next _
        (known_xs E numbers trees _ [] f.parameters (zero-add f.parameters))
        (λ n why x s. in_arguments s)
        λ n values xs.
        comes_map
        (λ m x body.
        (Call xs.0 found.is is_function body.0, λ fit. body.1 (fit_call (xs.1 fit tt) (tree_fits a fit found.is))))
        (λ m why x s. call_stops xs.0 found.is is_function s)
        (calls b f values found.entry r is_function)))
    | proper_none ↦ λ E numbers trees r before all count. given 0 (record { all = before; many = omega arith }) (no_more, λ fit fits. fits)
    | proper_arg (d → known_x) (ds → known_xs) ↦ λ E numbers trees r before all count.
        comes_next _ (known_x E numbers trees _) (λ n why x s. in_this s) λ n i x.
        comes_map
        (λ m values xs. (one_more x.0 xs.0, λ fit fits. xs.1 fit (x.1 fit, fits)))
        (λ m why y s. in_later x.0 s)
        (known_xs E numbers trees _ (i ∷ before) all (omega arith))
  ]

-- it is shown of calls: where none may be opened, they stop; else the body is an expression that
-- pass one accepts
known_calls : (program : Program) → ProperProgram program → (k : ℕ) → KnownCalls program k
unfolding called after_begun
known_calls program proper zero b f numbers u r is_function = stopped 0 no_call r not_opened
known_calls program proper (suc k) b f numbers u r is_function =
    rw (is_function, called)
    (comes_map
    (λ n x derived. derived)
    (λ n why x s. in_its_body s)
    (known program k (known_calls program proper k) (proper.bodies b f is_function) (in_call numbers.all u) numbers.many refl _))

-- ---- both ways

-- a sum out of range stops the evaluation under a larger bound too
stays : (n : ℕ) (op : Op) (i j q : ℕ) {p : Outcome Value} → Further (after_begun n (stops (no_result op i j) q)) p → p ≡ after_begun n (stops (no_result op i j) q)
unfolding after_begun
stays zero op i j q the_same = refl
stays (suc n) op i j q the_same = refl
stays (suc n) op i j q (both_begin d) = ap begins (stays n op i j q d)

broken_so :
    (program : Program) (t : Tree) (o n : ℕ) (op : Op) (i j q : ℕ)
    → Breaks program t o n op i j q
    → (k : ℕ)
    → o ≤ k
    → evaluation program k t ≡ after_begun n (stops (no_result op i j) q)
broken_so program t o n op i j q b k h =
    stays n op i j q (subst (λ p. Further p (evaluation program k t)) (stopped_end program t o n (no_result op i j) q b) (further program t o k h))

module _ (program : Program) (t : Tree) (proper : ProperProgram program) where
  open proper use {first, is_first, bare}

  -- What is to be shown of the whole, with at most so many open calls.
  abbrev KnownEnd : ℕ → Outcome Value → Type 0
  KnownEnd o p =
      ComesTo
      (value_of first.sort)
      (λ n v. Ends program t o n v × (Labelled t → OfSort first.sort v))
      (λ n why q. StopsOn program t o n why q)
      p

  -- where the first call stops, so does the whole
  first_stops : {o n : ℕ} {why : Reason} {q : ℕ} → StopsCalled program [] t 0 first.body 0 o n why q → StopsOn program t o n why q
  first_stops not_opened = none_open
  first_stops (in_its_body s) = in_first_call is_first s

  -- it is shown
  known_end : (o : ℕ) → KnownEnd o (evaluation program o t)
  unfolding evaluation
  known_end o =
      comes_map
      (λ n x body. (record { first = first; is_first = is_first; takes = body.0 }, λ labelled. body.1 (fit_call tt labelled)))
      (λ n why q s. first_stops s)
      (known_calls program proper o 0 first (record { all = []; many = sym bare }) t 0 is_first)

  -- so it ends within the bound, or stops at a sum or at a call too many
  stops_so :
      (o n : ℕ) (why : Reason) (q : ℕ)
      → StopsOn program t o n why q
      → EndsWithin program t o ⊎ (BreaksWithin program t o ⊎ TooMany program t o)
  stops_so o n no_fuel q s = absurd (not_for_fuel program t o n q s)
  stops_so o n no_call q s =
      inr (inr (record { expressions = n; position = q; stopped = stopped_end program t o n no_call q s; is_call = at_call program t o n q s }))
  stops_so o n (no_result op i j) q s = inr (inl (breaks_within program t o n op i j q s))

  ends_or_stops : (o : ℕ) {p : Outcome Value} → KnownEnd o p → EndsWithin program t o ⊎ (BreaksWithin program t o ⊎ TooMany program t o)
  ends_or_stops o (given n x ends) = inl (record { expressions = n; value = value_of first.sort x; ends = ends.0 })
  ends_or_stops o (stopped n why q s) = stops_so o n why q s

  -- a value that the rules give is of function 0's sort, since the function gives it too
  pub of_sort :
      (other : Function) (o n : ℕ) (v : Value)
      → Labelled t
      → nth program.functions 0 ≡ some other
      → Ends program t o n v
      → OfSort other.sort v
  of_sort other o n v labelled also_first ends =
      let same : first ≡ other = cc is_first in
      rw (← same) ((comes_value n v (known_end o) (reported_end program t o n v ends o (omega arith))).1 labelled)

  -- an evaluation that ends opens no call too many, nor does one that breaks
  never_both : (o n : ℕ) (v : Value) → Ends program t o n v → TooMany program t o → ⊥
  never_both o n v ends many =
      gives_not n many.expressions no_call many.position v (sym (reported_end program t o n v ends o (omega arith)) ∙ many.stopped)

  broken_not_deep : (o n : ℕ) (op : Op) (i j q : ℕ) → Breaks program t o n op i j q → TooMany program t o → ⊥
  broken_not_deep o n op i j q b many =
      let same = one_stop n many.expressions (no_result op i j) no_call q many.position
      (sym (broken_so program t o n op i j q b o (omega arith)) ∙ many.stopped) in
      let z : ◌≡◌ {A = ℕ} 0 1 = cc same.1.0 in
      absurd (omega arith)

  -- no evaluation ends and breaks
  ended_not_broken :
      (o n : ℕ) (v : Value) (o' n' : ℕ) (op : Op) (i j q : ℕ)
      → Ends program t o n v
      → Breaks program t o' n' op i j q
      → ⊥
  ended_not_broken o n v o' n' op i j q ends b =
      gives_not n n' (no_result op i j) q v
      (sym (reported_end program t o n v ends (o + o') (omega arith)) ∙ broken_so program t o' n' op i j q b (o + o') (omega arith))

  -- one breaks in one way
  one_break :
      (o n : ℕ) (op : Op) (i j q o' n' : ℕ) (op' : Op) (i' j' q' : ℕ)
      → Breaks program t o n op i j q
      → Breaks program t o' n' op' i' j' q'
      → (n ≡ n') × ((no_result op i j ≡ no_result op' i' j') × (q ≡ q'))
  one_break o n op i j q o' n' op' i' j' q' b b' =
      one_stop n n' (no_result op i j) (no_result op' i' j') q q'
      (sym (broken_so program t o n op i j q b (o + o') (omega arith)) ∙ broken_so program t o' n' op' i' j' q' b' (o + o') (omega arith))

  pub held : HeldTo program t
  held =
      record {
        gives_value = λ o n v. (λ e. (comes_value n v (known_end o) e).0, λ ends. reported_end program t o n v ends o (omega arith));
        stops_exactly = λ o n why q. (λ e. comes_stop n why q (known_end o) e, stopped_end program t o n why q);
        ends_or_stops = λ o. ends_or_stops o (known_end o);
        never_both = never_both;
        broken_not_deep = broken_not_deep;
        ended_not_broken = ended_not_broken;
        one_break = one_break;
        same_break = same_break program t;
        at_operation = at_operation program t;
        four_each_stopped = four_each_stopped program t;
        endless = λ never o. elim (ends_or_stops o (known_end o)) [
          | inl within ↦ absurd (never.never_ends o _ _ within.ends)
          | inr other ↦ elim other [ inl b ↦ absurd (never.never_breaks o _ _ _ _ _ b.breaks) | inr many ↦ many ]
        ];
        only_endless = λ deep. record {
          never_ends = λ o n v ends. never_both o n v ends (deep o);
          never_breaks = λ o n op i j q b. broken_not_deep o n op i j q b (deep o);
        };
        further = further program t;
      }
