-- Where pass two refuses: at a record of the function that has no derivation.
use Prim.Native.Nat.{ℕ, suc, ◌+◌, ◌≤◌, ◌<◌}
use mathlib.Core.List.{List, [], ◌∷◌, ◌++◌}
use mathlib.Core.Path.{◌≡◌, refl, sym, ap, ap₂, ◌∙◌}
use native.Mathlib.Omega.{arith}
use lib.ListN.{length, length-append}
use lib.Dec.{ltb, eqb}
use Rattle.formats.specs.Refusals.{out_of_order, too_many_pending}
use Rattle.formats.specs.Results.{Result, done, refusal, and_then}
use Rattle.formats.specs.Programs.{Expr, const, var, compute, if_zero, let_in, leaf_of, node_of, case_of, call, Args, no_args, arg, prefix, prefixes, size, Signature, Function, Program, signatures}
use Rattle.formats.proofs.Results.{Outcome, gave, stopped, outcome, done_not, then_done, then_refused}
use Rattle.formats.proofs.Programs.{some_record}
use Rattle.rules.specs.Typing.{TypedFunction}
use Rattle.rules.specs.Limits.{most_pending}
use Rattle.rules.specs.PassTwo.{take_head, same_names, equal_branches, walk, walk_args, none_left, walk_all, pass_two}
use Rattle.rules.specs.OrderChecker.{first_node, Untyped, this_one, after_it}
use Rattle.rules.proofs.Splits.{types_checks}
use Rattle.rules.proofs.PassTwo.{ValueOrRefusal, good, bad, said_done, said_refused, said_then, said_worse, said_check, checked_walk}

-- record q is one of `many` records, from record r on
pub record Among (r many q : ℕ) : Type 0 where
  pub from : r ≤ q
  pub before : q < r + many

-- so it is among more records, from an earlier one on
pub widen : {first a r many q : ℕ} → r ≤ first → first + a ≤ r + many → Among first a q → Among r many q
widen h g among = record { from = omega (arith, among.from); before = omega (arith, among.before) }

pub own : (r many : ℕ) → Among r (suc many) r
own r many = record { from = omega arith; before = omega arith }

-- a walk is refused at one of these records, if it is
abbrev In : ℕ → ℕ → Result (List ℕ) → Type 0
In r many w = ValueOrRefusal (λ Δ. Unit {0}) (λ number q. Among r many q) w

wider : {first a r many : ℕ} {w : Result (List ℕ)} → r ≤ first → first + a ≤ r + many → In first a w → In r many w
wider h g w = said_worse (λ number q among. widen h g among) w

-- a tree is taken at the expression's own record
taken : (a r many : ℕ) (Δ : List ℕ) → In r (suc many) (take_head a r Δ)
unfolding take_head
taken a r many [] = bad (own r many)
taken a r many (x ∷ rest) = said_check (eqb x a) out_of_order r rest (λ u. tt) (λ u. own r many)

-- both branches are compared there
both : (r many : ℕ) (u w : Result (List ℕ)) → In r (suc many) u → In r (suc many) w → In r (suc many) (equal_branches r u w)
unfolding equal_branches
both r many u w h g =
    said_then h (λ number q among. among) (λ Δ₁ x. said_then g (λ number q among. among) (λ Δ₂ y. said_check (same_names Δ₁ Δ₂) out_of_order r Δ₂ (λ e. tt) (λ e. own r many)))

-- the records of two expressions, one after the other
two_sizes : (p q : Expr) → length (prefix p ++ prefix q) ≡ size p + size q
unfolding size
two_sizes p q = length-append (prefix p) (prefix q)

-- two parts after the expression's own record
in_two : (p q : Expr) (r : ℕ) (w : Result (List ℕ)) (next : List ℕ → Result (List ℕ)) → In (suc r) (size p) w → ((Δ : List ℕ) → In (suc r + size p) (size q) (next Δ))
    → In r (suc (length (prefix p ++ prefix q))) (and_then w next)
in_two p q r w next h g =
    let s = two_sizes p q in
    said_then h (λ number k among. widen (omega arith) (omega arith) among) (λ Δ x. wider (omega arith) (omega arith) (g Δ))

mutual
  unfolding walk size prefix

  -- an expression is refused at one of its records
  among : (e : Expr) (n r : ℕ) (Δ : List ℕ) → In r (size e) (walk n r Δ e)
  among (const i) n r Δ = good tt
  among (var a) n r Δ = good tt
  among (compute op p q) n r Δ = in_two p q r _ _ (among p n (suc r) Δ) (λ Δ'. among q n (suc r + size p) Δ')
  among (if_zero t z o) n r Δ =
      let s = length-append (prefix t) (prefix z ++ prefix o) in
      let s' = two_sizes z o in
      said_then (among t n (suc r) Δ) (λ number k a. widen (omega arith) (omega arith) a)
      (λ Δ' x. both r _ _ _ (wider (omega arith) (omega arith) (among z n (suc r + size t) Δ')) (wider (omega arith) (omega arith) (among o n (suc r + size t + size z) Δ')))
  among (let_in p body) n r Δ = in_two p body r _ _ (among p n (suc r) Δ) (λ Δ'. among body n (suc r + size p) Δ')
  among (leaf_of p) n r Δ = wider (omega arith) (omega arith) (among p n (suc r) Δ)
  among (node_of p q) n r Δ = in_two p q r _ _ (among p n (suc r) Δ) (λ Δ'. among q n (suc r + size p) Δ')
  among (case_of a p q) n r Δ =
      let s = two_sizes p q in
      said_then (taken a r _ Δ) (λ number k a. a)
      (λ rest x. said_then (said_check {G = λ u. Unit {0}} (ltb (length Δ) most_pending) too_many_pending r tt (λ e. tt) (λ e. own r _)) (λ number k a. a)
      (λ u y. both r _ _ _ (wider (omega arith) (omega arith) (among p n (suc r) rest))
      (wider (omega arith) (omega arith) (among q (suc (suc n)) (suc r + size p) (n ∷ (suc n ∷ rest))))))
  among (call a b xs) n r Δ =
      said_then (among_args xs n (suc r) Δ) (λ number k a. widen (omega arith) (omega arith) a) (λ Δ' x. taken a r _ Δ')

  among_args : (xs : Args) (n r : ℕ) (Δ : List ℕ) → In r (length (prefixes xs)) (walk_args n r Δ xs)
  among_args no_args n r Δ = good tt
  among_args (arg x xs) n r Δ =
      let s = length-append (prefix x) (prefixes xs) in
      said_then (among x n r Δ) (λ number k a. widen (omega arith) (omega arith) a) (λ Δ' y. wider (omega arith) (omega arith) (among_args xs n (r + size x) Δ'))

-- ---- functions

-- where a function is refused with 11, it has no derivation
not_typed : (gs : List Signature) (k r : ℕ) (f : Function) → walk 1 k (0 ∷ []) f.body ≡ refusal out_of_order r → TypedFunction gs f → ⊥
not_typed gs k r f e typed = let h = said_refused (checked_walk (types_checks typed k [])) e in omega (arith, h.0)

trees_left : (gs : List Signature) (k : ℕ) (f : Function) (x : ℕ) (Δ : List ℕ) → walk 1 k (0 ∷ []) f.body ≡ done (x ∷ Δ) → TypedFunction gs f → ⊥
trees_left gs k f x Δ e typed =
    let h : x ∷ Δ ≡ [] = said_done (checked_walk (types_checks typed k [])) e in
    let z : suc (length Δ) ≡ 0 = ap length h in
    omega arith

untyped : (gs : List Signature) (r k : ℕ) (fs : List Function) → walk_all k fs ≡ refusal out_of_order r → Untyped gs r k fs
unfolding walk_all none_left
untyped gs r k [] e = done_not refl e
untyped gs r k (f ∷ fs) e = by (outcome (walk 1 k (0 ∷ []) f.body)) (λ others. untyped gs r (k + size f.body) fs others)
  where
    by : Outcome (walk 1 k (0 ∷ []) f.body) → (walk_all (k + size f.body) fs ≡ refusal out_of_order r → Untyped gs r (k + size f.body) fs) → Untyped gs r k (f ∷ fs)
    by (stopped number position g) later =
        let h : ◌≡◌ {A = Result (Unit {0})} (refusal number position) (refusal out_of_order r) = sym (then_refused _ g) ∙ e in
        let c : number ≡ out_of_order = cc in
        let q : position ≡ r = cc in
        let there : walk 1 k (0 ∷ []) f.body ≡ refusal out_of_order r = g ∙ ap₂ refusal c q in
        let position' = said_refused (among f.body 1 k (0 ∷ [])) there in
        this_one position'.from position'.before (not_typed gs k r f there)
    by (gave [] g) later = after_it (later (sym (then_done _ g) ∙ e))
    by (gave (x ∷ Δ) g) later =
        let h : ◌≡◌ {A = Result (Unit {0})} (refusal out_of_order k) (refusal out_of_order r) = sym (then_done _ g) ∙ e in
        let q : k ≡ r = cc in
        this_one {k = k} {f = f} (omega arith) (omega (arith, some_record f.body)) (trees_left gs k f x Δ g)

pub untyped_there : (program : Program) (r : ℕ) → pass_two program ≡ refusal out_of_order r → Untyped (signatures program) r (first_node program) program.functions
unfolding pass_two
untyped_there program r e = untyped (signatures program) r (first_node program) program.functions e
