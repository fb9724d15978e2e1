-- What the code of an evaluation has done where it stops is determined: all derivations of a stop
-- on one tree, under one bound, have the same units and the same bytes; of a break, under any
-- bound.
--
-- Through a function that goes through an expression as the evaluation does (`work`): each
-- derivation has the units and bytes that it counts. (To take apart two derivations at once there
-- would be a case for each pair of rules, and a part that has a value would have to be shown not to
-- stop.)
use Prim.Native.Nat.{ℕ, zero, suc, ◌+◌, ◌≤◌}
use mathlib.Core.List.{List, [], ◌∷◌, ◌++◌}
use mathlib.Core.Option.{none, some}
use mathlib.Core.Path.{◌≡◌, refl, sym, ap, ◌∙◌}
use native.Mathlib.Nat.{add-zero}
use native.Mathlib.Omega.{arith}
use Rattle.formats.specs.Arithmetic.{Op, result_of}
use Rattle.formats.specs.Tokens.{Tree, leaf, node, leaf_tag, node_tag, tokens}
use Rattle.formats.specs.Records.{nth}
use Rattle.formats.specs.Programs.{Expr, const, var, compute, if_zero, let_in, leaf_of, node_of, case_of, call, Args, no_args, arg, Function, Program}
use Rattle.meaning.specs.Evaluation.{Value, number, tree, Environment, number_named, tree_named, with_number, with_trees, in_call, picked, branch, in_branch, result_number}
use Rattle.meaning.specs.Evaluation.{Takes, Const, Var, Compute, IfZero, Let, Leaf, Node, Case, Call, TakesArgs, no_more, one_more}
use Rattle.meaning.specs.Evaluation.{if_zero_units, case_units, counted, units_in, units_in_args}
use Rattle.meaning.specs.OpenCalls.{Reason, no_call, no_result, number_or, tree_or, result_tree}
use Rattle.meaning.specs.Unfinished.{StopsIn, out-of-range, in_first, in_second, in_test, in_picked, in_named, in_body, in_label, in_left, in_right}
use Rattle.meaning.specs.Unfinished.{in-branch, in_arguments, too_many, in-call, in_this, in_later, StopsOn, none_open, in_first_call, Breaks}
use Rattle.meaning.specs.Unfinished.{branch_units, units_until, bytes_until, stop_units, stop_bytes}
use Rattle.meaning.proofs.Evaluation.{by_args, takes_open}
use Rattle.meaning.proofs.Unfinished.{stops_open, units_until_args, bytes_until_args}

-- ---- what is done

-- A value is found after so many units; or it stops, after so many units and with these bytes
-- written.
data Work (A : Type 0) : Type 0 where
  finds : (x : A) (units : ℕ) → Work A
  halts : (units : ℕ) (bytes : List ℕ) → Work A

-- A value goes on to what follows, with its units; a stop stays. `spent` are the units in all,
-- given those of the part that stops, and `bytes` are written before that part.
unfoldable carry : {A B : Type 0} → (spent : ℕ → ℕ) (bytes : List ℕ) → Work A → (A → ℕ → Work B) → Work B
carry spent bytes (finds x units) f = f x units
carry spent bytes (halts units written) f = halts (spent units) (bytes ++ written)

-- What is done for an expression, by kind, given what calls do.
unfoldable mutual
  work : (ℕ → List ℕ → Tree → Work Value) → Environment → Expr → Work Value
  work h E (const i) = finds (number i) 1
  work h E (var a) = finds (number (number_or (number_named E a))) 1
  work h E (compute op p q) =
      carry (λ v. v) [] (work h E p) (λ x u. carry (λ v. u + v) [] (work h E q) (λ y v. elim (result_of op (result_number x) (result_number y)) [
        | some z ↦ finds (number z) (1 + (u + v))
        | none ↦ halts (u + v) []
      ]))
  work h E (if_zero t z w) =
      carry (λ v. v) [] (work h E t)
      (λ x u. carry (λ v. u + suc v) [] (elim (result_number x) [ zero ↦ work h E z | suc i ↦ work h E w ])
      (λ y v. finds y (if_zero_units (result_number x) + (u + v))))
  work h E (let_in p body) =
      carry (λ v. v) [] (work h E p) (λ x u. carry (λ v. u + v) [] (work h (with_number (result_number x) E) body) (λ y v. finds y (1 + (u + v))))
  work h E (leaf_of p) = carry suc (leaf_tag ∷ []) (work h E p) (λ x u. finds (tree (leaf (result_number x))) (2 + u))
  work h E (node_of p q) =
      carry suc (node_tag ∷ []) (work h E p)
      (λ x u. carry (λ v. suc (u + v)) (node_tag ∷ tokens (result_tree x)) (work h E q)
      (λ y v. finds (tree (node (result_tree x) (result_tree y))) (1 + (u + v))))
  work h E (case_of a p q) =
      carry (λ v. branch_units (tree_or (tree_named E a)) + v) []
      (elim (tree_or (tree_named E a)) [ leaf x ↦ work h (with_number x E) p | node left right ↦ work h (with_trees left right E) q ])
      (λ y v. finds y (case_units (tree_or (tree_named E a)) + v))
  work h E (call a b xs) =
      carry (λ v. v) [] (work_args h E xs []) (λ numbers u. carry (λ v. u + v) [] (h b numbers (tree_or (tree_named E a))) (λ y v. finds y (2 + (u + v))))

  -- For a Call's arguments, after the numbers found before.
  work_args : (ℕ → List ℕ → Tree → Work Value) → Environment → Args → List ℕ → Work (List ℕ)
  work_args h E no_args numbers = finds numbers 0
  work_args h E (arg x xs) numbers =
      carry (λ v. v) [] (work h E x) (λ y u. carry (λ v. u + v) [] (work_args h E xs (result_number y ∷ numbers)) (λ after v. finds after (u + v)))

-- For a call, where so many may be open: the call instruction, then the body.
unfoldable opened : Program → ℕ → ℕ → List ℕ → Tree → Work Value
opened program zero b numbers t = halts 0 []
opened program (suc k) b numbers t =
    elim (nth program.functions b) [
      | none ↦ finds (number 0) 0
      | some f ↦ carry suc [] (work (opened program k) (in_call numbers t) f.body) (λ y v. finds y v)
    ]

-- For the whole, where so many calls may be open.
unfoldable work_on : Program → Tree → ℕ → Work Value
work_on program t zero = halts 0 []
work_on program t (suc k) =
    elim (nth program.functions 0) [ none ↦ halts 0 [] | some f ↦ work (opened program k) (in_call [] t) f.body ]

-- ---- by the rules

-- What stops so, held to o open calls, does so where k more than one may be open. At a call too
-- many that is the same bound; a sum has no result under a larger one either.
data Allows : Reason → (o k : ℕ) → Type 0 where
  the_same : {why : Reason} {o k : ℕ} → o ≡ suc k → Allows why o k
  or_more : {op : Op} {i j o k : ℕ} → o ≤ suc k → Allows (no_result op i j) o k

allows_most : {why : Reason} {o k : ℕ} → Allows why o k → o ≤ suc k
allows_most (the_same h) = omega arith
allows_most (or_more h) = h

-- in a call that it opens
allows_inside : {why : Reason} {o k : ℕ} → Allows why (suc o) (suc k) → Allows why o k
allows_inside {o = o} {k = k} (the_same h) = the_same {o = o} {k = k} (omega arith)
allows_inside {o = o} {k = k} (or_more h) = or_more {o = o} {k = k} (omega arith)

-- where one more may be open, the call is not one too many
one_call_more : {k : ℕ} → Allows no_call 1 (suc k) → ⊥
one_call_more {k} (the_same h) = absurd (omega arith)

module _ (program : Program) where
  -- a part that has a value is found with its units
  abbrev Found : Environment → Expr → (o : ℕ) → Value → (units : ℕ) → Type 0
  Found E e o v units = (k : ℕ) → o ≤ suc k → work (opened program k) E e ≡ finds v units

  abbrev FoundArgs : Environment → Args → (o : ℕ) → (before after : List ℕ) → (units : ℕ) → Type 0
  FoundArgs E xs o before after units = (k : ℕ) → o ≤ suc k → work_args (opened program k) E xs before ≡ finds after units

  found_call :
      (b : ℕ) (f : Function) (numbers : List ℕ) (t : Tree) (o units : ℕ) (v : Value)
      → nth program.functions b ≡ some f
      → 1 ≤ o
      → Found (in_call numbers t) f.body o v units
      → (k : ℕ)
      → o ≤ k
      → opened program k b numbers t ≡ finds v units
  unfolding opened carry
  found_call b f numbers t o units v known some_open found zero h = absurd (omega arith)
  found_call b f numbers t o units v known some_open found (suc k) h = rw (known, opened) (ap (λ w. carry suc [] w (λ y u. finds y u)) (found k h))

  found : {E : Environment} {e : Expr} {o n : ℕ} {v : Value} (d : Takes program E e o n v) → Found E e o v (units_in d)
  unfolding work counted carry number_or tree_or result_number result_tree picked branch in_branch if_zero_units case_units
  found d = elim d as (λ E e o n v d. Found E e o v (units_in d)) (λ E xs o n before after ds. FoundArgs E xs o before after (units_in_args ds)) [
    | Const ↦ λ k h. refl
    | Var named ↦ λ k h. simp named
    | Compute (d₁ → t₁) (d₂ → t₂) fits ↦ λ k h. simp (t₁ k h, t₂ k h, carry, result_number, fits)
    | IfZero {E} {t = e} {zero_part = z} {other_part = w} {o} {i = i} {v = v} (d₁ → t₁) (d₂ → t₂) ↦
        let by_number : (i u₁ u₂ : ℕ) → Found E e o (number i) u₁ → Found E (picked i z w) o v u₂ → Found E (if_zero e z w) o v (if_zero_units i + (u₁ + u₂)) = elim [
          | zero ↦ λ u₁ u₂ t₁ t₂ k h. simp (t₁ k h, t₂ k h, carry, result_number)
          | suc i ↦ λ u₁ u₂ t₁ t₂ k h. simp (t₁ k h, t₂ k h, carry, result_number)
        ] in
        by_number i _ _ t₁ t₂
    | Let (d₁ → t₁) (d₂ → t₂) ↦ λ k h. simp (t₁ k h, t₂ k h, carry, result_number)
    | Leaf (d → t) ↦ λ k h. simp (t k h, carry, result_number)
    | Node (d₁ → t₁) (d₂ → t₂) ↦ λ k h. simp (t₁ k h, t₂ k h, carry, result_tree)
    | Case {E} {a} {p} {q} {o} {t = u} {v} named (d → t) ↦
        let by_tree : (u : Tree) (units : ℕ) → tree_named E a ≡ some u → Found (in_branch u E) (branch u p q) o v units
        → Found E (case_of a p q) o v (case_units u + units) = elim [
          | leaf x ↦ λ units named t k h. simp (named, t k h, carry)
          | node left right ↦ λ units named t k h. simp (named, t k h, carry)
        ] in
        by_tree u _ named t
    | Call {b = b} {o = o} {numbers = numbers} {t = u} {f = f} {v = v} (ds → ts) named known (d → t) ↦ λ k h.
        simp (ts k h, named, found_call b f numbers u o _ v known (takes_open d) t k (omega arith), carry)
    | no_more ↦ λ k h. refl
    | one_more (d → t) (ds → ts) ↦ λ k h. simp (t k h, ts k h, carry, result_number)
  ]

  found_args : {E : Environment} {xs : Args} {o n : ℕ} {before after : List ℕ} (ds : TakesArgs program E xs o n before after)
      → FoundArgs E xs o before after (units_in_args ds)
  unfolding work_args carry result_number counted
  found_args ds =
      by_args
      (λ E xs o n before after ds. FoundArgs E xs o before after (units_in_args ds))
      (λ E o numbers k h. refl)
      (λ E x xs o n m i before after d ds ts k h. simp (found d k h, ts k h, carry, result_number))
      _ _ _ _ _ _ ds

  -- a part that stops does so with its units and its bytes
  abbrev Halted : Environment → Expr → Reason → (o units : ℕ) → List ℕ → Type 0
  Halted E e why o units bytes = (k : ℕ) → Allows why o k → work (opened program k) E e ≡ halts units bytes

  abbrev HaltedArgs : Environment → Args → Reason → (o : ℕ) → List ℕ → (units : ℕ) → List ℕ → Type 0
  HaltedArgs E xs why o before units bytes = (k : ℕ) → Allows why o k → work_args (opened program k) E xs before ≡ halts units bytes

  halted_call :
      (b : ℕ) (f : Function) (numbers : List ℕ) (t : Tree) (why : Reason) (o units : ℕ) (bytes : List ℕ)
      → nth program.functions b ≡ some f
      → 1 ≤ o
      → Halted (in_call numbers t) f.body why o units bytes
      → (k : ℕ)
      → Allows why (suc o) k
      → opened program k b numbers t ≡ halts (suc units) bytes
  unfolding opened carry
  halted_call b f numbers t why o units bytes known some_open halted zero h = absurd (omega (arith, allows_most h))
  halted_call b f numbers t why o units bytes known some_open halted (suc k) h =
      rw (known, opened) (ap (λ w. carry suc [] w (λ y u. finds y u)) (halted k (allows_inside h)))

  -- the parts before it are taken under such a bound
  first :
      {E : Environment} {e : Expr} {why : Reason} {o n : ℕ} {v : Value} (d : Takes program E e o n v) (k : ℕ)
      → Allows why o k
      → work (opened program k) E e ≡ finds v (units_in d)
  first d k h = found d k (allows_most h)

  first_args :
      {E : Environment} {xs : Args} {why : Reason} {o n : ℕ} {before after : List ℕ} (ds : TakesArgs program E xs o n before after) (k : ℕ)
      → Allows why o k
      → work_args (opened program k) E xs before ≡ finds after (units_in_args ds)
  first_args ds k h = found_args ds k (allows_most h)

  halted :
      {E : Environment} {r : ℕ} {e : Expr} {o n : ℕ} {why : Reason} {x : ℕ} (s : StopsIn program E r e o n why x)
      → Halted E e why o (units_until s) (bytes_until s)
  unfolding work carry units_until bytes_until number_or tree_or result_number result_tree picked branch in_branch branch_units opened
  halted s =
      elim s as
      (λ E r e o n why x s. Halted E e why o (units_until s) (bytes_until s))
      (λ E r xs o n before why x s. HaltedArgs E xs why o before (units_until_args s) (bytes_until_args s)) [
        | out-of-range d₁ d₂ missing ↦ λ k h. simp (first d₁ k h, first d₂ k h, carry, result_number, missing)
        | in_first (s → t) ↦ λ k h. simp (t k h, carry)
        | in_second d (s → t) ↦ λ k h. simp (first d k h, t k h, carry)
        | in_test (s → t) ↦ λ k h. simp (t k h, carry)
        | in_picked {E} {t = e} {z = z} {w = w} {o = o} {i = i} {why = why} d (s → t) ↦
            let by_number : (i u₁ u₂ : ℕ) (bytes : List ℕ)
            → ((k : ℕ) → Allows why o k → work (opened program k) E e ≡ finds (number i) u₁)
            → Halted E (picked i z w) why o u₂ bytes
            → Halted E (if_zero e z w) why o (u₁ + suc u₂) bytes = elim [
              | zero ↦ λ u₁ u₂ bytes t₁ t₂ k h. simp (t₁ k h, t₂ k h, carry, result_number)
              | suc i ↦ λ u₁ u₂ bytes t₁ t₂ k h. simp (t₁ k h, t₂ k h, carry, result_number)
            ] in
            by_number i _ _ _ (first d) t
        | in_named (s → t) ↦ λ k h. simp (t k h, carry)
        | in_body d (s → t) ↦ λ k h. simp (first d k h, t k h, carry, result_number)
        | in_label (s → t) ↦ λ k h. simp (t k h, carry)
        | in_left (s → t) ↦ λ k h. simp (t k h, carry)
        | in_right d (s → t) ↦ λ k h. simp (first d k h, t k h, carry, result_tree)
        | in-branch {E} {a = a} {p = p} {q = q} {o = o} {t = u} {why = why} named (s → t) ↦
            let by_tree : (u : Tree) (units : ℕ) (bytes : List ℕ) → tree_named E a ≡ some u → Halted (in_branch u E) (branch u p q) why o units bytes
            → Halted E (case_of a p q) why o (branch_units u + units) bytes = elim [
              | leaf x ↦ λ units bytes named t k h. simp (named, t k h, carry)
              | node left right ↦ λ units bytes named t k h. simp (named, t k h, carry)
            ] in
            by_tree u _ _ named t
        | in_arguments (s → t) ↦ λ k h. simp (t k h, carry)
        | too_many ds ↦ elim [
          | zero ↦ λ h. simp (first_args ds 0 h, opened, carry, add-zero)
          | suc k ↦ λ h. absurd (one_call_more h)
        ]
        | in-call {b = b} {o = o} {numbers = numbers} {t = u} {f = f} {why = why} ds named known (s → t) ↦ λ k h.
            simp (first_args ds k h, named, halted_call b f numbers u why o _ _ known (stops_open s) t k h, carry)
        | in_this (s → t) ↦ λ k h. simp (t k h, carry)
        | in_later d (s → t) ↦ λ k h. simp (first d k h, t k h, carry, result_number)
      ]

  -- so does the whole
  halted_on :
      {t : Tree} {o n : ℕ} {why : Reason} {q : ℕ} (s : StopsOn program t o n why q) (k : ℕ)
      → Allows why o k
      → work_on program t (suc k) ≡ halts (stop_units s) (stop_bytes s)
  unfolding work_on stop_units stop_bytes
  halted_on none_open k (the_same h) = absurd (omega arith)
  halted_on (in_first_call known s) k h = rw (known, work_on) (halted s k h)

-- what halts in one way has these units and bytes
same_halt : {u u' : ℕ} {bs bs' : List ℕ} → ◌≡◌ {A = Work Value} (halts u bs) (halts u' bs') → (u ≡ u') × (bs ≡ bs')
same_halt same = (cc same, cc same)

-- two derivations of a stop on one tree, under one bound, have the same units and the same bytes ..
pub same_stop :
    (program : Program) (t : Tree) (o n n' : ℕ) (why why' : Reason) (q q' : ℕ) (s : StopsOn program t o n why q) (s' : StopsOn program t o n' why' q')
    → (stop_units s ≡ stop_units s') × (stop_bytes s ≡ stop_bytes s')
unfolding stop_units stop_bytes
same_stop program t zero n n' why why' q q' none_open none_open = (refl, refl)
same_stop program t zero n n' why why' q q' (in_first_call known s) s' = absurd (omega (arith, stops_open s))
same_stop program t zero n n' why why' q q' none_open (in_first_call known s') = absurd (omega (arith, stops_open s'))
same_stop program t (suc k) n n' why why' q q' s s' =
    same_halt (sym (halted_on program s k (the_same refl)) ∙ halted_on program s' k (the_same refl))

-- .. and so have two of a break, under any bounds
pub same_break :
    (program : Program) (t : Tree) (o n : ℕ) (op : Op) (i j q o' n' : ℕ) (op' : Op) (i' j' q' : ℕ) (b : Breaks program t o n op i j q)
    (b' : Breaks program t o' n' op' i' j' q')
    → (stop_units b ≡ stop_units b') × (stop_bytes b ≡ stop_bytes b')
same_break program t o n op i j q o' n' op' i' j' q' b b' =
    same_halt (sym (halted_on program b (o + o') (or_more (omega arith))) ∙ halted_on program b' (o + o') (or_more (omega arith)))
