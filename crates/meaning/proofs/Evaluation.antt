-- Derivations of the evaluation: the value, the number of expressions begun and the units are
-- determined, as many expressions begin as there are rules, and a number bounds the calls open
-- exactly where it is above the nesting of Call rules.
--
-- Two derivations for one expression in one environment go by the same rules: they agree in number,
-- units and value, and the second's bound is above the first's nesting (`agree`: by induction over
-- the first; rule by rule, only the second is taken apart). A derivation can be built anew under
-- any bound above its nesting, its rules counted (`rebuilt`); it agrees with the first, so that
-- count is the number begun.
use Prim.Native.Nat.{ℕ, zero, suc, ◌+◌, ◌*◌, ◌≤◌, ◌<◌, max}
use mathlib.Core.List.{List, [], ◌∷◌}
use mathlib.Core.Logic.{◌↔◌}
use mathlib.Core.Option.{Option, some}
use mathlib.Core.Path.{◌≡◌, refl, sym, ap, subst}
use native.Mathlib.Omega.{arith}
use Rattle.formats.specs.Arithmetic.{Op, result_of}
use Rattle.formats.specs.Tokens.{Tree, leaf, node}
use Rattle.formats.specs.Records.{nth}
use Rattle.formats.specs.Programs.{Expr, const, var, compute, if_zero, let_in, leaf_of, node_of, case_of, call, Args, no_args, arg, Function, Program}
use Rattle.meaning.specs.Evaluation.{Value, number, tree, Environment, number_named, tree_named, with_number, in_call, picked, branch, in_branch}
use Rattle.meaning.specs.Evaluation.{Takes, Const, Var, Compute, IfZero, Let, Leaf, Node, Case, Call, TakesArgs, no_more, one_more, Ends}
use Rattle.meaning.specs.Evaluation.{if_zero_units, case_units, counted, counted_args, rules_in, units_in, units_in_args, nesting_in}

-- How deep Call rules are nested along arguments.
abbrev nesting_in_args : {program : Program} {E : Environment} {xs : Args} {o n : ℕ} {before after : List ℕ} → TakesArgs program E xs o n before after → ℕ
nesting_in_args ds = counted_args (λ units n. n) suc max ds

-- what holds where no argument is left, and with one more in front, holds of all arguments
pub by_args :
    {program : Program} (P : (E : Environment) (xs : Args) (o n : ℕ) (before after : List ℕ) → TakesArgs program E xs o n before after → Type 0)
    → ((E : Environment) (o : ℕ) (numbers : List ℕ) → P E no_args o 0 numbers numbers no_more)
    → ((E : Environment) (x : Expr) (xs : Args) (o n m i : ℕ) (before after : List ℕ)
    (d : Takes program E x o n (number i)) (ds : TakesArgs program E xs o m (i ∷ before) after)
    → P E xs o m (i ∷ before) after ds
    → P E (arg x xs) o (n + m) before after (one_more d ds))
    → (E : Environment) (xs : Args) (o n : ℕ) (before after : List ℕ) (ds : TakesArgs program E xs o n before after)
    → P E xs o n before after ds
by_args P none-left one_left E xs o n before after ds = elim ds as (λ E e o n v d. Unit {0}) (λ E xs o n before after ds. P E xs o n before after ds) [
  | Const ↦ tt
  | Var named ↦ tt
  | Compute d₁ d₂ fits ↦ tt
  | IfZero d₁ d₂ ↦ tt
  | Let d₁ d₂ ↦ tt
  | Leaf d ↦ tt
  | Node d₁ d₂ ↦ tt
  | Case named d ↦ tt
  | Call ds named known d ↦ tt
  | no_more {E = E} {o = o} {numbers = numbers} ↦ none-left E o numbers
  | one_more {E = E} {x = x} {xs = xs} {o = o} {n = n} {m = m} {i = i} {before = before} {after = after} d (ds → h) ↦
      one_left E x xs o n m i before after d ds h
]

-- ---- two derivations agree

-- The same number of expressions begun and of units, the same value, and the first's nesting below
-- the second's bound.
record Agree {A : Type 0} (n n' u u' : ℕ) (x x' : A) (nesting bound : ℕ) : Type 0 where
  begun : n ≡ n'
  units : u ≡ u'
  value : x ≡ x'
  below : nesting < bound

-- two parts one after the other, with the second's value; the second may depend on the first's
both_agree :
    {A B : Type 0} {n n' m m' u u' w w' k l o : ℕ} {x x' : A} {y y' : B}
    → Agree n n' u u' x x' k o
    → (x ≡ x' → Agree m m' w w' y y' l o)
    → Agree (n + m) (n' + m') (u + w) (u' + w') y y' (max k l) o
both_agree first rest =
    let second = rest first.value in
    record { begun = omega arith; units = omega arith; value = second.value; below = omega arith }

-- an expression around its parts: one more begins, with its units, and the value is made of theirs
made_agrees :
    {A B : Type 0} {n n' u u' c c' k o : ℕ} {x x' : A} {y y' : B}
    → Agree n n' u u' x x' k o
    → c ≡ c'
    → y ≡ y'
    → Agree (suc n) (suc n') (c + u) (c' + u') y y' k o
made_agrees parts spends e = record { begun = ap suc parts.begun; units = omega (arith, parts.units); value = e; below = parts.below }

-- the same, where the value is that of the last part
whole_agrees : {A : Type 0} {n n' u u' c c' k o : ℕ} {x x' : A} → Agree n n' u u' x x' k o → c ≡ c' → Agree (suc n) (suc n') (c + u) (c' + u') x x' k o
whole_agrees parts spends = made_agrees parts spends parts.value

-- a call's body, seen from the Call: one more Call is nested, and one more may be open
body_agrees : {A : Type 0} {n n' u u' k o : ℕ} {x x' : A} → Agree n n' u u' x x' k o → Agree n n' u u' x x' (suc k) (suc o)
body_agrees body = record { begun = body.begun; units = body.units; value = body.value; below = omega arith }

-- numbers of equal values are equal
same_number : {i j : ℕ} → number i ≡ number j → i ≡ j
same_number e = cc

-- one option holds one entry
same_entry : {A : Type 0} {o : Option A} {x y : A} → o ≡ some x → o ≡ some y → x ≡ y
same_entry e f = cc

module _ (program : Program) where
  -- What is to be shown of a derivation with this number, these units, this value and nesting:
  -- every other agrees with it.
  abbrev Agrees : Environment → Expr → (n u : ℕ) → Value → ℕ → Type 0
  Agrees E e n u v nesting = (o' n' : ℕ) (v' : Value) (d' : Takes program E e o' n' v') → Agree n n' u (units_in d') v v' nesting o'

  -- The same of arguments, where the other's bound is above 0, as a Call's is.
  abbrev AgreesArgs : Environment → Args → (n u : ℕ) → List ℕ → List ℕ → ℕ → Type 0
  AgreesArgs E xs n u before after nesting =
      (o' n' : ℕ) (after' : List ℕ) (d' : TakesArgs program E xs (suc o') n' before after')
      → Agree n n' u (units_in_args d') after after' nesting (suc o')

  -- rule by rule, where it is shown of the premises: a constant is itself
  agree_const : {E : Environment} {i : ℕ} → Agrees E (const i) 1 1 (number i) 0
  unfolding counted
  agree_const o n v Const = record { begun = refl; units = refl; value = refl; below = omega arith }

  -- a name stands for one number
  agree_var : {E : Environment} {a i : ℕ} → number_named E a ≡ some i → Agrees E (var a) 1 1 (number i) 0
  unfolding counted
  agree_var named o n v (Var named') = record { begun = refl; units = refl; value = cc; below = omega arith }

  -- an operation has one result on equal numbers
  agree_compute : {E : Environment} {op : Op} {p q : Expr} {n m u w i j x k l : ℕ}
      → Agrees E p n u (number i) k
      → Agrees E q m w (number j) l
      → result_of op i j ≡ some x
      → Agrees E (compute op p q) (suc (n + m)) (1 + (u + w)) (number x) (max k l)
  unfolding counted
  agree_compute f g fits o n v (Compute d₁ d₂ fits') =
      made_agrees (both_agree (f _ _ _ d₁) (λ same. g _ _ _ d₂)) refl (cc ((f _ _ _ d₁).value, (g _ _ _ d₂).value, fits, fits'))

  -- IfZero picks the same part
  agree_if_zero : {E : Environment} {t z y : Expr} {n m u w i k l : ℕ} {v : Value} → Agrees E t n u (number i) k → Agrees E (picked i z y) m w v l
      → Agrees E (if_zero t z y) (suc (n + m)) (if_zero_units i + (u + w)) v (max k l)
  unfolding counted
  agree_if_zero {E} {z = z} {y = y} {m = m} {w = w} {l = l} {v = v} f g o n v' (IfZero {m = m'} d₁ d₂) =
      let first = f _ _ _ d₁ in
      let second = subst (λ j. (d : Takes program E (picked j z y) o m' v') → Agree m m' w (units_in d) v v' l o) (same_number first.value) (g _ _ _) in
      whole_agrees (both_agree first (λ same. second d₂)) (ap if_zero_units (same_number first.value))

  -- Let names the same number
  agree_let : {E : Environment} {p body : Expr} {n m u w i k l : ℕ} {v : Value} → Agrees E p n u (number i) k → Agrees (with_number i E) body m w v l
      → Agrees E (let_in p body) (suc (n + m)) (1 + (u + w)) v (max k l)
  unfolding counted
  agree_let {E} {body = body} {m = m} {w = w} {l = l} {v = v} f g o n v' (Let {m = m'} d₁ d₂) =
      let first = f _ _ _ d₁ in
      let second =
      subst (λ j. (d : Takes program (with_number j E) body o m' v') → Agree m m' w (units_in d) v v' l o) (same_number first.value) (g _ _ _) in
      whole_agrees (both_agree first (λ same. second d₂)) refl

  -- Leaf gives the same leaf
  agree_leaf : {E : Environment} {p : Expr} {n u i k : ℕ} → Agrees E p n u (number i) k → Agrees E (leaf_of p) (suc n) (2 + u) (tree (leaf i)) k
  unfolding counted
  agree_leaf f o n v (Leaf d) = let part = f _ _ _ d in made_agrees part refl (cc part.value)

  -- Node gives the same node
  agree_node : {E : Environment} {p q : Expr} {n m u w k l : ℕ} {x y : Tree} → Agrees E p n u (tree x) k → Agrees E q m w (tree y) l
      → Agrees E (node_of p q) (suc (n + m)) (1 + (u + w)) (tree (node x y)) (max k l)
  unfolding counted
  agree_node f g o n v (Node d₁ d₂) =
      made_agrees (both_agree (f _ _ _ d₁) (λ same. g _ _ _ d₂)) refl (cc ((f _ _ _ d₁).value, (g _ _ _ d₂).value))

  -- Case goes by the same tree
  agree_case :
      {E : Environment} {a n u k : ℕ} {p q : Expr} {t : Tree} {v : Value} → tree_named E a ≡ some t → Agrees (in_branch t E) (branch t p q) n u v k
      → Agrees E (case_of a p q) (suc n) (case_units t + u) v k
  unfolding counted
  agree_case {E} {n = n} {u = u} {k = k} {p = p} {q = q} {v = v} named f o n'' v' (Case {n = n'} named' d) =
      let same = same_entry named named' in
      let part = subst (λ x. (d : Takes program (in_branch x E) (branch x p q) o n' v') → Agree n n' u (units_in d) v v' k o) same (f _ _ _) in
      whole_agrees (part d) (ap case_units same)

  -- Call opens the same body, with the same numbers and the same tree
  agree_call : {E : Environment} {a b n m u w k l : ℕ} {xs : Args} {numbers : List ℕ} {t : Tree} {f : Function} {v : Value}
      → AgreesArgs E xs n u [] numbers k
      → tree_named E a ≡ some t
      → nth program.functions b ≡ some f
      → Agrees (in_call numbers t) f.body m w v l
      → Agrees E (call a b xs) (suc (n + m)) (2 + (u + w)) v (max k (suc l))
  unfolding counted
  agree_call {m = m} {w = w} {l = l} {numbers = numbers} {t = t} {f = f} {v = v} args named known body o n v'
      (Call {o = o'} {m = m'} {numbers = numbers'} {t = t'} {f = f'} ds named' known' d) =
      let first = args _ _ _ ds in
      let Body : List ℕ → Tree → Function → Type 0 = λ xs x h. (d : Takes program (in_call xs x) h.body o' m' v') → Agree m m' w (units_in d) v v' l o' in
      let of_function : Body numbers t f' = subst (λ h. Body numbers t h) (same_entry known known') (body _ _ _) in
      let on_tree : Body numbers t' f' = subst (λ x. Body numbers x f') (same_entry named named') of_function in
      let with_numbers : Body numbers' t' f' = subst (λ xs. Body xs t' f') first.value on_tree in
      whole_agrees (both_agree first (λ same. body_agrees (with_numbers d))) refl

  -- where no argument is left the numbers stay
  agree_none : {E : Environment} {numbers : List ℕ} → AgreesArgs E no_args 0 0 numbers numbers 0
  agree_none o n after no_more = record { begun = refl; units = refl; value = refl; below = omega arith }

  -- one more adds the same number
  agree_arg : {E : Environment} {x : Expr} {xs : Args} {n m u w i k l : ℕ} {before after : List ℕ}
      → Agrees E x n u (number i) k
      → AgreesArgs E xs m w (i ∷ before) after l
      → AgreesArgs E (arg x xs) (n + m) (u + w) before after (max k l)
  unfolding counted
  agree_arg {E} {xs = xs} {m = m} {w = w} {l = l} {before = before} {after = after} f g o n after' (one_more {m = m'} d ds) =
      let first = f _ _ _ d in
      let rest =
      subst (λ j. (e : TakesArgs program E xs (suc o) m' (j ∷ before) after') → Agree m m' w (units_in_args e) after after' l (suc o))
      (same_number first.value)
      (g _ _ _) in
      both_agree first (λ same. rest ds)

  -- all rules: any two derivations agree
  agree : {E : Environment} {e : Expr} {o n : ℕ} {v : Value} (d : Takes program E e o n v) → Agrees E e n (units_in d) v (nesting_in d)
  unfolding counted
  agree d =
      elim d as
      (λ E e o n v d. Agrees E e n (units_in d) v (nesting_in d))
      (λ E xs o n before after ds. AgreesArgs E xs n (units_in_args ds) before after (nesting_in_args ds)) [
        | Const ↦ agree_const
        | Var named ↦ agree_var named
        | Compute (d₁ → f) (d₂ → g) fits ↦ agree_compute f g fits
        | IfZero (d₁ → f) (d₂ → g) ↦ agree_if_zero f g
        | Let (d₁ → f) (d₂ → g) ↦ agree_let f g
        | Leaf (d → f) ↦ agree_leaf f
        | Node (d₁ → f) (d₂ → g) ↦ agree_node f g
        | Case named (d → f) ↦ agree_case named f
        | Call (ds → f) named known (d → g) ↦ agree_call f named known g
        | no_more ↦ agree_none
        | one_more (d → f) (ds → g) ↦ agree_arg f g
      ]

-- ---- a derivation built anew

-- under any bound above its nesting, with as many expressions begun as it has rules
rebuilt :
    {program : Program} {E : Environment} {e : Expr} {o n : ℕ} {v : Value} (d : Takes program E e o n v) (o' : ℕ)
    → nesting_in d ≤ o'
    → Takes program E e (suc o') (rules_in d) v
unfolding counted
rebuilt {program} d =
    elim d as
    (λ E e o n v d. (o' : ℕ) → nesting_in d ≤ o' → Takes program E e (suc o') (rules_in d) v)
    (λ E xs o n before after ds.
    (o' : ℕ) → nesting_in_args ds ≤ o' → TakesArgs program E xs (suc o') (counted_args (λ units n. suc n) (λ n. n) ◌+◌ ds) before after) [
      | Const ↦ λ o h. Const
      | Var named ↦ λ o h. Var named
      | Compute (d₁ → r₁) (d₂ → r₂) fits ↦ λ o h. Compute (r₁ o (omega arith)) (r₂ o (omega arith)) fits
      | IfZero (d₁ → r₁) (d₂ → r₂) ↦ λ o h. IfZero (r₁ o (omega arith)) (r₂ o (omega arith))
      | Let (d₁ → r₁) (d₂ → r₂) ↦ λ o h. Let (r₁ o (omega arith)) (r₂ o (omega arith))
      | Leaf (d → r) ↦ λ o h. Leaf (r o h)
      | Node (d₁ → r₁) (d₂ → r₂) ↦ λ o h. Node (r₁ o (omega arith)) (r₂ o (omega arith))
      | Case named (d → r) ↦ λ o h. Case named (r o h)
      | Call (ds → r₁) named known (d → r₂) ↦ elim [
        | zero ↦ λ h. absurd (omega arith)
        | suc o ↦ λ h. Call (r₁ (suc o) (omega arith)) named known (r₂ o (omega arith))
      ]
      | no_more ↦ λ o h. no_more
      | one_more (d → r₁) (ds → r₂) ↦ λ o h. one_more (r₁ o (omega arith)) (r₂ o (omega arith))
    ]

-- ---- what Evaluations states

-- the value and the expressions begun are determined
pub one_value :
    (program : Program) (E : Environment) (e : Expr) (o n o' n' : ℕ) (v v' : Value)
    → Takes program E e o n v
    → Takes program E e o' n' v'
    → (n ≡ n') × (v ≡ v')
one_value program E e o n o' n' v v' d d' = let both = agree program d o' n' v' d' in (both.begun, both.value)

-- so are those of a whole evaluation
pub one_result :
    (program : Program) (t : Tree) (o n o' n' : ℕ) (v v' : Value)
    → Ends program t o n v
    → Ends program t o' n' v'
    → (n ≡ n') × (v ≡ v')
one_result program t o n o' n' v v' ends ends' =
    one_value program _ _ o n o' n' v v' ends.takes (rw (same_entry ends'.is_first ends.is_first) at ends'.takes)

-- and so are the units
pub one_sum :
    (program : Program) (E : Environment) (e : Expr) (o n o' n' : ℕ) (v v' : Value) (d : Takes program E e o n v) (d' : Takes program E e o' n' v')
    → units_in d ≡ units_in d'
one_sum program E e o n o' n' v v' d d' = (agree program d o' n' v' d').units

-- at most four for each expression begun
pub four_each : (program : Program) (E : Environment) (e : Expr) (o n : ℕ) (v : Value) (d : Takes program E e o n v) → units_in d ≤ 4 * n
unfolding counted if_zero_units case_units
four_each program E e o n v d =
    elim d as (λ E e o n v d. units_in d ≤ 4 * n) (λ E xs o n before after ds. units_in_args ds ≤ 4 * n) [
      | Const ↦ omega arith
      | Var named ↦ omega arith
      | Compute (d₁ → h₁) (d₂ → h₂) fits ↦ omega arith
      | IfZero {i = i} (d₁ → h₁) (d₂ → h₂) ↦ let few = if_zero_few i in omega arith
      | Let (d₁ → h₁) (d₂ → h₂) ↦ omega arith
      | Leaf (d → h) ↦ omega arith
      | Node (d₁ → h₁) (d₂ → h₂) ↦ omega arith
      | Case {t = t} named (d → h) ↦ let few = case_few t in omega arith
      | Call (ds → h₁) named known (d → h₂) ↦ omega arith
      | no_more ↦ omega arith
      | one_more (d → h₁) (ds → h₂) ↦ omega arith
    ]
  where
    if_zero_few : (i : ℕ) → if_zero_units i ≤ 4
    if_zero_few zero = omega arith
    if_zero_few (suc i) = omega arith

    case_few : (t : Tree) → case_units t ≤ 4
    case_few (leaf x) = omega arith
    case_few (node l r) = omega arith

-- along arguments too
pub four_each_args :
    {program : Program} {E : Environment} {xs : Args} {o n : ℕ} {before after : List ℕ} (ds : TakesArgs program E xs o n before after)
    → units_in_args ds ≤ 4 * n
unfolding counted
four_each_args {program} ds =
    by_args
    (λ E xs o n before after ds. units_in_args ds ≤ 4 * n)
    (λ E o numbers. omega arith)
    (λ E x xs o n m i before after d ds h. let first = four_each program E x o n (number i) d in omega arith)
    _ _ _ _ _ _ ds

-- as many expressions begin as there are rules
pub rules_begun : (program : Program) (E : Environment) (e : Expr) (o n : ℕ) (v : Value) (d : Takes program E e o n v) → rules_in d ≡ n
rules_begun program E e o n v d = sym (agree program d _ _ v (rebuilt d (nesting_in d) (omega arith))).begun

-- at least one call is open
pub takes_open : {program : Program} {E : Environment} {e : Expr} {o n : ℕ} {v : Value} → Takes program E e o n v → 1 ≤ o
takes_open {program} d = let below = (agree program d _ _ _ d).below in omega arith

-- a number bounds the calls open exactly where it is above the nesting
pub least_open :
    (program : Program) (E : Environment) (e : Expr) (o n : ℕ) (v : Value) (d : Takes program E e o n v) (o' : ℕ)
    → Takes program E e o' n v ↔ (nesting_in d < o')
least_open program E e o n v d o' = (
  λ d'. (agree program d o' n v d').below,
  elim o' as (λ o'. (nesting_in d < o') → Takes program E e o' n v) [
    | zero ↦ λ h. absurd (omega arith)
    | suc o' ↦ λ h. rw (rules_begun program E e o n v d) at (rebuilt d o' (omega arith))
  ],
)
