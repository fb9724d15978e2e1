-- Laws of pass two. `ValueOrRefusal` is a view of a result: what holds of its value, or else of its
-- refusal. Two recursions do the work: over a derivation by Figure 19 (`checked_walk`), and over an
-- expression that passed pass one (`reported`: it is in order, or it has a first fault).
use Prim.Native.Nat.{ℕ, suc, ◌+◌, ◌≤◌, ◌<◌}
use mathlib.Core.Bool.{Bool, true, false, false≢true}
use mathlib.Core.List.{List, [], ◌∷◌, ◌++◌}
use mathlib.Core.Logic.{◌≢◌}
use mathlib.Core.Path.{◌≡◌, refl, sym, ap, subst, ◌∙◌}
use native.Mathlib.Decide.{dec_lt, ℕ_discrete}
use native.Mathlib.Omega.{arith}
use borrow.Author.Tests.{eqb-true, eq-eqb, ne_eqb, lt-ltb, le-ltb}
use lib.Dec.{eqb}
use lib.ListN.{length}
use Rattle.formats.specs.Refusals.{out_of_order, too_many_pending}
use Rattle.formats.specs.Results.{Result, done, refusal, and_then, value_if}
use Rattle.formats.specs.Records.{Call}
use Rattle.formats.specs.Programs.{Expr, const, var, compute, if_zero, let_in, leaf_of, node_of, case_of, call, Args, no_args, arg, size, count_args, CallsComplete, ArgsComplete, Every}
use Rattle.formats.specs.Programs.{Signature, arity_of, Function, Program, signatures}
use Rattle.formats.proofs.Results.{done_injective, done_not, then_done, then_refused, both_held}
use Rattle.formats.proofs.Programs.{every_append, every_left, every_right}
use Rattle.rules.specs.Types.{Ty, Int, Tree⁻, Tree⁺, arrows, result_type, function_type}
use Rattle.rules.specs.Typing.{TypedFunction}
use Rattle.rules.specs.Scopes.{scope}
use Rattle.rules.specs.PassOne.{holds_at}
use Rattle.rules.specs.Leftover.{ChecksName, T-Var1, Checks, T-Var2, T-Int, T-App, T-Plus, T-Leaf, T-Node, T-Case, Let-01, IfZero-01, ChecksApplied, to_number, to_tree}
use Rattle.rules.specs.Leftover.{Line, lines, lines_applied, FewAtCase, InOrder}
use Rattle.rules.specs.Limits.{most_pending}
use Rattle.rules.specs.PassTwo.{take_head, same_names, equal_branches, walk, walk_args, none_left, walk_all, pass_two}
use Rattle.rules.specs.FirstFault.{Spot, spot, ArgsInOrder, finished, one_more, EntersArg, this_one, Enters, WalksTo, here, further, IsHead, head, Faults}
use Rattle.rules.specs.FirstFault.{add_left, add_right, if_test, if-zero, if_other, let_number, let_body, leaf_number, node_left, node_right, case_leaf, case_node, call_number}
use Rattle.rules.specs.FirstFault.{case_not_head, call_not_head, case_unequal, if_unequal, case_full}
use Rattle.rules.proofs.Splits.{types_checks}
use Rattle.rules.proofs.PassOne.{Passes, PassesArgs, Called, pass_const, pass_var, pass_compute, pass_if_zero, pass_let, pass_leaf, pass_node, pass_case, pass_call, pass_arg}

-- ---- what is said of a result

pub data ValueOrRefusal {A : Type 0} (Good : A → Type 0) (Bad : ℕ → ℕ → Type 0) : Result A → Type 0 where
  good : {x : A} → Good x → ValueOrRefusal Good Bad (done x)
  bad : {number position : ℕ} → Bad number position → ValueOrRefusal Good Bad (refusal number position)

pub said_done : {A : Type 0} {Good : A → Type 0} {Bad : ℕ → ℕ → Type 0} {r : Result A} {x : A} → ValueOrRefusal Good Bad r → r ≡ done x → Good x
said_done {Good = Good} (good h) e = subst Good (done_injective e) h
said_done (bad h) e = done_not e refl

pub said_refused :
    {A : Type 0} {Good : A → Type 0} {Bad : ℕ → ℕ → Type 0} {r : Result A} {number position : ℕ}
    → ValueOrRefusal Good Bad r
    → r ≡ refusal number position
    → Bad number position
said_refused (good h) e = done_not refl e
said_refused {number = number} {position = position} (bad {number = c} {position = k} h) e =
    let p : c ≡ number = cc in
    let q : k ≡ position = cc in
    rw (← p, ← q) h

-- what is said of one reading after another
pub said_then :
    {A B : Type 0} {G : A → Type 0} {H : B → Type 0} {Bad Worse : ℕ → ℕ → Type 0} {r : Result A} {next : A → Result B}
    → ValueOrRefusal G Bad r
    → ((number position : ℕ) → Bad number position → Worse number position)
    → ((x : A) → G x → ValueOrRefusal H Worse (next x))
    → ValueOrRefusal H Worse (and_then r next)
said_then (good {x = x} h) first second = second x h
said_then (bad {number = c} {position = k} h) first second = bad (first c k h)

-- what is said of a result may be replaced by what follows from it
said_map :
    {A : Type 0} {G H : A → Type 0} {Bad Worse : ℕ → ℕ → Type 0} {r : Result A}
    → ValueOrRefusal G Bad r
    → ((x : A) → G x → H x)
    → ((number position : ℕ) → Bad number position → Worse number position)
    → ValueOrRefusal H Worse r
said_map (good {x = x} h) better worse = good (better x h)
said_map (bad {number = c} {position = k} h) better worse = bad (worse c k h)

pub said_worse :
    {A : Type 0} {G : A → Type 0} {Bad Worse : ℕ → ℕ → Type 0} {r : Result A}
    → ((number position : ℕ) → Bad number position → Worse number position)
    → ValueOrRefusal G Bad r
    → ValueOrRefusal G Worse r
said_worse worse h = said_map h (λ x g. g) worse

-- what is said of a check
pub said_check :
    {A : Type 0} {G : A → Type 0} {Bad : ℕ → ℕ → Type 0} (test : Bool) (number position : ℕ) (x : A)
    → (test ≡ true → G x)
    → (test ≡ false → Bad number position)
    → ValueOrRefusal G Bad (value_if test number position x)
said_check true number position x held failed = good (held refl)
said_check false number position x held failed = bad (failed refl)

-- ---- lists of names

-- they are the same where they are equal, and only there
pub same-names : (xs ys : List ℕ) → same_names xs ys ≡ true → xs ≡ ys
unfolding same_names
same-names [] [] e = refl
same-names [] (y ∷ ys) e = absurd (false≢true e)
same-names (x ∷ xs) [] e = absurd (false≢true e)
same-names (x ∷ xs) (y ∷ ys) e =
    let h = both_held (eqb x y) (same_names xs ys) e in
    let p = eqb-true x y h.0 in
    let q = same-names xs ys h.1 in
    cc

pub same_refl : (xs : List ℕ) → same_names xs xs ≡ true
unfolding same_names
same_refl [] = refl
same_refl (x ∷ xs) = simp (eq-eqb x x refl, same_refl xs)

pub names_same : (xs ys : List ℕ) → xs ≡ ys → same_names xs ys ≡ true
names_same xs ys e = rw e (same_refl ys)

-- ---- the head

-- a tree is at the head of a list or not
head? : (a : ℕ) (Δ : List ℕ) → Dec (IsHead a Δ)
head? a [] = no (elim [ ])
head? a (x ∷ rest) = elim (ℕ_discrete a x) [ yes e ↦ yes (rw e head) | no other ↦ no λ h. other (is h) ]
  where
    is : {b y : ℕ} {ys : List ℕ} → IsHead b (y ∷ ys) → b ≡ y
    is head = refl

-- what is left when a tree is taken
take-head : (a r : ℕ) (rest : List ℕ) → take_head a r (a ∷ rest) ≡ done rest
unfolding take_head
take-head a r rest = simp (eq-eqb a a refl)

pub take_other : (a r : ℕ) (Δ : List ℕ) → (IsHead a Δ → ⊥) → take_head a r Δ ≡ refusal out_of_order r
unfolding take_head
take_other a r [] other = refl
take_other a r (x ∷ rest) other = simp (ne_eqb x a (λ e. other (rw e head)))

-- Figure 19 types a name where it can be taken
taken : {Δ Δ' : List ℕ} {Bad : ℕ → ℕ → Type 0} (a r : ℕ) → ChecksName Δ a Tree⁻ Δ' → ValueOrRefusal (λ Δ''. Δ'' ≡ Δ') Bad (take_head a r Δ)
taken a r (T-Var1 {Δ = rest}) = rw (take-head a r rest) (good refl)

-- ---- two branches

-- the first refusal, the one list that both end with, or 11 for unequal lists
said_joined :
    (r : ℕ) {G₁ G₂ H : List ℕ → Type 0} {B₁ B₂ Worse : ℕ → ℕ → Type 0} {one other : Result (List ℕ)}
    → ValueOrRefusal G₁ B₁ one
    → ValueOrRefusal G₂ B₂ other
    → ((number position : ℕ) → B₁ number position → Worse number position)
    → ((Δ : List ℕ) → G₁ Δ → (number position : ℕ) → B₂ number position → Worse number position)
    → ((Δ : List ℕ) → G₁ Δ → G₂ Δ → H Δ)
    → ((Δ₁ Δ₂ : List ℕ) → G₁ Δ₁ → G₂ Δ₂ → Δ₁ ≢ Δ₂ → Worse out_of_order r)
    → ValueOrRefusal H Worse (equal_branches r one other)
unfolding equal_branches
said_joined r {G₁ = G₁} one other first second equal unequal =
    said_then one first λ Δ₁ g₁. said_then other (second Δ₁ g₁) λ Δ₂ g₂. said_check (same_names Δ₁ Δ₂) out_of_order r Δ₂
    (λ e. equal Δ₂ (subst G₁ (same-names Δ₁ Δ₂ e) g₁) g₂)
    (λ e. unequal Δ₁ Δ₂ g₁ g₂ (λ same. false≢true (sym e ∙ names_same Δ₁ Δ₂ same)))

module _ (n r a : ℕ) (rest : List ℕ) (p q : Expr) where
  -- those of a Case at the head
  abbrev branches : Result (List ℕ)
  branches = equal_branches r (walk n (suc r) rest p) (walk (suc (suc n)) (suc r + size p) (n ∷ (suc n ∷ rest)) q)

  -- it goes on to them with fewer than 16 pending
  pub case_open : length (a ∷ rest) < most_pending → walk n r (a ∷ rest) (case_of a p q) ≡ branches
  unfolding walk
  case_open few = then_done _ (take-head a r rest) ∙ then_done _ (ap (λ t. holds_at t too_many_pending r) (lt-ltb _ _ few))

  pub case_stops : most_pending ≤ length (a ∷ rest) → walk n r (a ∷ rest) (case_of a p q) ≡ refusal too_many_pending r
  unfolding walk
  case_stops full = then_done _ (take-head a r rest) ∙ then_refused _ (ap (λ t. holds_at t too_many_pending r) (le-ltb _ _ full))

  said_case :
      {G : List ℕ → Type 0} {Bad : ℕ → ℕ → Type 0}
      → (length (a ∷ rest) < most_pending → ValueOrRefusal G Bad branches)
      → (most_pending ≤ length (a ∷ rest) → Bad too_many_pending r)
      → ValueOrRefusal G Bad (walk n r (a ∷ rest) (case_of a p q))
  said_case fits full = elim (dec_lt (length (a ∷ rest)) most_pending) [
    | yes few ↦ rw (case_open few) (fits few)
    | no many ↦ let h : most_pending ≤ length (a ∷ rest) = omega arith in rw (case_stops h) (bad (full h))
  ]

-- ---- an expression that Figure 19 types

-- refused only with 12, and only where some Case of these lines has too many
abbrev OnlyFull : List Line → ℕ → ℕ → Type 0
OnlyFull ls number position = (number ≡ too_many_pending) × (Every FewAtCase ls → ⊥)

-- a walk gives this list, or is refused so
abbrev Walked : List Line → List ℕ → Result (List ℕ) → Type 0
Walked ls Δ r = ValueOrRefusal (λ Δ'. Δ' ≡ Δ) (OnlyFull ls) r

full_left : (ls ms : List Line) (number position : ℕ) → OnlyFull ls number position → OnlyFull (ls ++ ms) number position
full_left ls ms number position h = (h.0, λ few. h.1 (every_left FewAtCase ls ms few))

full_right : (ls ms : List Line) (number position : ℕ) → OnlyFull ms number position → OnlyFull (ls ++ ms) number position
full_right ls ms number position h = (h.0, λ few. h.1 (every_right FewAtCase ls ms few))

-- one part after the other
walked_then :
    (ls ms : List Line) {Δ Δ' : List ℕ} {one : Result (List ℕ)} (next : List ℕ → Result (List ℕ))
    → Walked ls Δ one
    → Walked ms Δ' (next Δ)
    → Walked (ls ++ ms) Δ' (and_then one next)
walked_then ls ms next first second = said_then first (full_left ls ms) λ Δ e. rw e (said_worse (full_right ls ms) second)

-- two branches
walked_joined :
    (r : ℕ) (ls ms own : List Line) {Δ : List ℕ} {one other : Result (List ℕ)}
    → Walked ls Δ one
    → Walked ms Δ other
    → Walked (ls ++ (ms ++ own)) Δ (equal_branches r one other)
walked_joined r ls ms own first second = said_joined r first (said_worse (full_left ms own) second)
    (full_left ls _)
    (λ Δ e. full_right ls _)
    (λ Δ e f. e)
    (λ Δ₁ Δ₂ e f unequal. absurd (unequal (e ∙ sym f)))

-- what the walk gives is what the derivation leaves over
mutual
  unfolding walk lines

  pub checked_walk : {gs : List Signature} {g n r : ℕ} {Δ Δ' : List ℕ} {e : Expr} {τ : Ty} (d : Checks gs g n r Δ e τ Δ') → Walked (lines d) Δ' (walk n r Δ e)
  checked_walk (T-Var2 bound) = good refl
  checked_walk T-Int = good refl
  checked_walk (T-App {r = r} {a = a} known d) =
      said_then (checked_args d) (full_left (lines_applied d) _) λ Δ name. taken a r name
  checked_walk (T-Plus d₁ d₂) = walked_then (lines d₁) _ _ (checked_walk d₁) (said_worse (full_left (lines d₂) _) (checked_walk d₂))
  checked_walk (T-Leaf d) = said_worse (full_left (lines d) _) (checked_walk d)
  checked_walk (T-Node d₁ d₂) = walked_then (lines d₁) _ _ (checked_walk d₁) (said_worse (full_left (lines d₂) _) (checked_walk d₂))
  checked_walk (T-Case {n = n} {r = r} {a = a} {Δ' = rest} {p = p} {q = q} T-Var1 d₁ d₂) = said_case n r a rest p q
      (λ few. walked_joined r (lines d₁) (lines d₂) _ (checked_walk d₁) (checked_walk d₂))
      (λ full. (refl, λ few. let h = (every_right FewAtCase (lines d₂) _ (every_right FewAtCase (lines d₁) _ few)).0 in omega arith))
  checked_walk (Let-01 d₁ d₂) = walked_then (lines d₁) _ _ (checked_walk d₁) (said_worse (full_left (lines d₂) _) (checked_walk d₂))
  checked_walk (IfZero-01 {r = r} d₀ d₁ d₂) =
      walked_then (lines d₀) _ _ (checked_walk d₀) (walked_joined r (lines d₁) (lines d₂) _ (checked_walk d₁) (checked_walk d₂))

  -- after a Call's arguments its tree is at the head
  checked_args :
      {gs : List Signature} {g n r a : ℕ} {Δ Δ' : List ℕ} {σ : Ty} {xs : Args} {τ : Ty} (d : ChecksApplied gs g n r Δ σ xs a τ Δ')
      → ValueOrRefusal (λ Δ''. ChecksName Δ'' a Tree⁻ Δ') (OnlyFull (lines_applied d)) (walk_args n r Δ xs)
  checked_args (to_number d rest) = said_then (checked_walk d) (full_left (lines d) _) λ Δ e. rw e (said_worse (full_right (lines d) _) (checked_args rest))
  checked_args (to_tree name) = good name

-- what is in order passes the walk
pub walks : {gs : List Signature} {g n r : ℕ} {Δ : List ℕ} {e : Expr} {τ : Ty} {Δ' : List ℕ} → InOrder gs g n r Δ e τ Δ' → walk n r Δ e ≡ done Δ'
walks {Δ' = Δ'} o = fine _ (checked_walk o.derivation)
  where
    fine : (r : Result (List ℕ)) → Walked (lines o.derivation) Δ' r → r ≡ done Δ'
    fine r (good e) = ap done e
    fine r (bad h) = absurd (h.1 o.few)

pub walks_args : {gs : List Signature} {g n r : ℕ} {Δ : List ℕ} {xs : Args} {Δ' : List ℕ} → ArgsInOrder gs g n r Δ xs Δ' → walk_args n r Δ xs ≡ done Δ'
unfolding walk_args
walks_args finished = refl
walks_args (one_more o os) = then_done _ (walks o) ∙ walks_args os

-- where Figure 6 types every function, it refuses nothing but 12
typed_walk :
    (gs : List Signature) (r : ℕ) (fs : List Function)
    → Every (TypedFunction gs) fs
    → ValueOrRefusal (λ u. Unit {0}) (λ number position. number ≡ too_many_pending) (walk_all r fs)
unfolding walk_all none_left
typed_walk gs r [] typed = good tt
typed_walk gs r (f ∷ fs) typed =
    said_then (checked_walk (types_checks typed.0 r [])) (λ number position h. h.0) λ Δ e. rw e (typed_walk gs (r + size f.body) fs typed.1)

pub only_full :
    (program : Program) (number r : ℕ)
    → Every (TypedFunction (signatures program)) program.functions
    → pass_two program ≡ refusal number r
    → number ≡ too_many_pending
unfolding pass_two
only_full program number r typed e = said_refused (typed_walk (signatures program) _ program.functions typed) e

pub no_typing : (program : Program) (r : ℕ) → pass_two program ≡ refusal out_of_order r → Every (TypedFunction (signatures program)) program.functions → ⊥
no_typing program r e typed = let h = only_full program out_of_order r typed e in omega arith

-- ---- an expression that passed pass one

-- the walk comes from a spot to a fault
pub record Met (gs : List Signature) (s : Spot) (number position : ℕ) : Type 0 where
  pub there : Spot
  pub comes : WalksTo gs s there
  pub faults : Faults gs there number position

-- at this spot, or at one that the walk goes on to
met : {gs : List Signature} {s : Spot} {number position : ℕ} → Faults gs s number position → Met gs s number position
met f = record { there = _; comes = here; faults = f }

enter : {gs : List Signature} {s s' : Spot} → Enters gs s s' → (number position : ℕ) → Met gs s' number position → Met gs s number position
enter e number position m = record { there = m.there; comes = further e m.comes; faults = m.faults }

-- what the walk of an expression says: it is in order, or it has a first fault
abbrev pub Reported : List Signature → Spot → Type 0
Reported gs (spot g n r Δ e τ) = ValueOrRefusal (InOrder gs g n r Δ e τ) (Met gs (spot g n r Δ e τ)) (walk n r Δ e)

-- few at the Cases of two parts and at the whole
few_both :
    {gs : List Signature} {g₁ n₁ r₁ g₂ n₂ r₂ : ℕ} {Δ₁ Δ₂ Δ₁' Δ₂' : List ℕ} {p q : Expr} {σ τ : Ty} (own : List Line)
    (o₁ : InOrder gs g₁ n₁ r₁ Δ₁ p σ Δ₁') (o₂ : InOrder gs g₂ n₂ r₂ Δ₂ q τ Δ₂')
    → Every FewAtCase own
    → Every FewAtCase (lines o₁.derivation ++ (lines o₂.derivation ++ own))
few_both own o₁ o₂ h = every_append FewAtCase (lines o₁.derivation) _ o₁.few (every_append FewAtCase (lines o₂.derivation) own o₂.few h)

-- two parts, one after the other
reported_two :
    {gs : List Signature} {s : Spot} {G : List ℕ → Type 0} {g g₂ n r : ℕ} {Δ : List ℕ} {p q : Expr} {σ τ : Ty}
    → Reported gs (spot g n (suc r) Δ p σ)
    → ((Δ' : List ℕ) → Reported gs (spot g₂ n (suc r + size p) Δ' q τ))
    → Enters gs s (spot g n (suc r) Δ p σ)
    → ((Δ' : List ℕ) → InOrder gs g n (suc r) Δ p σ Δ' → Enters gs s (spot g₂ n (suc r + size p) Δ' q τ))
    → ((Δ' Δ'' : List ℕ) → InOrder gs g n (suc r) Δ p σ Δ' → InOrder gs g₂ n (suc r + size p) Δ' q τ Δ'' → G Δ'')
    → ValueOrRefusal G (Met gs s) (and_then (walk n (suc r) Δ p) (λ Δ'. walk n (suc r + size p) Δ' q))
reported_two first second left right whole =
    said_then first (enter left) λ Δ' o. said_map (second Δ') (λ Δ'' o'. whole Δ' Δ'' o o') (enter (right Δ' o))

-- arguments in order, and the tree after them
record AppliedInOrder (gs : List Signature) (g n r : ℕ) (Δ : List ℕ) (σ : Ty) (xs : Args) (a : ℕ) (τ : Ty) (Δ' : List ℕ) : Type 0 where
  derivation : ChecksApplied gs g n r Δ σ xs a τ Δ'
  few : Every FewAtCase (lines_applied derivation)

applied_in_order :
    {gs : List Signature} {g n r a : ℕ} {Δ Δ' Δ'' : List ℕ} {xs : Args} (τ : Ty)
    → ArgsInOrder gs g n r Δ xs Δ'
    → ChecksName Δ' a Tree⁻ Δ''
    → AppliedInOrder gs g n r Δ (arrows (count_args xs) τ) xs a τ Δ''
unfolding arrows count_args lines_applied
applied_in_order τ finished name = record { derivation = to_tree name; few = tt }
applied_in_order τ (one_more o os) name =
    let rest = applied_in_order τ os name in
    record { derivation = to_number o.derivation rest.derivation; few = every_append FewAtCase (lines o.derivation) _ o.few rest.few }

-- a Call whose arguments are in order and leave its tree at the head
call_in_order :
    {gs : List Signature} {g n w r a b : ℕ} {τ : Ty} {Δ rest : List ℕ} {xs : Args}
    → count_args xs ≡ arity_of gs b
    → Called gs g n w r τ a b xs
    → ArgsInOrder gs g n (suc r) Δ xs (a ∷ rest)
    → InOrder gs g n r Δ (call a b xs) τ rest
unfolding lines arity_of function_type
call_in_order {gs = gs} {b = b} {xs = xs} counted c o =
    let known : arity_of gs b ≡ c.signature.parameters = rw (c.known, arity_of) in
    let result = result_type c.signature.sort in
    let whole = rw (counted ∙ known) at (applied_in_order result o T-Var1) in
    let d = whole.derivation in
    rw c.same (record { derivation = T-App c.known d; few = every_append FewAtCase (lines_applied d) _ whole.few (tt, tt) })

-- a Call, its arguments in order
reported_call :
    {gs : List Signature} {g n w r a b : ℕ} {τ : Ty} {Δ Δ' : List ℕ} {xs : Args}
    → count_args xs ≡ arity_of gs b
    → Called gs g n w r τ a b xs
    → ArgsInOrder gs g n (suc r) Δ xs Δ'
    → Dec (IsHead a Δ')
    → ValueOrRefusal (InOrder gs g n r Δ (call a b xs) τ) (Met gs (spot g n r Δ (call a b xs) τ)) (take_head a r Δ')
reported_call {r = r} {a = a} counted c o (yes (head {rest = rest})) = rw (take-head a r rest) (good (call_in_order counted c o))
reported_call {r = r} {a = a} {Δ' = Δ'} counted c o (no other) = rw (take_other a r Δ' other) (bad (met (call_not_head o other)))

-- a Case
reported_case :
    {gs : List Signature} (g n r a : ℕ) (Δ : List ℕ) (p q : Expr) (τ : Ty)
    → ((rest : List ℕ) → Reported gs (spot (suc g) n (suc r) rest p τ))
    → ((rest : List ℕ) → Reported gs (spot g (suc (suc n)) (suc r + size p) (n ∷ (suc n ∷ rest)) q τ))
    → Dec (IsHead a Δ)
    → Reported gs (spot g n r Δ (case_of a p q) τ)
unfolding walk lines
reported_case g n r a Δ p q τ leaf node (yes (head {rest = rest})) = said_case n r a rest p q
    (λ few. said_joined r (leaf rest) (node rest)
    (enter (case_leaf few))
    (λ Δ₁ o. enter (case_node few o))
    (λ Δ' o₁ o₂. record { derivation = T-Case T-Var1 o₁.derivation o₂.derivation; few = few_both _ o₁ o₂ (few, tt) })
    (λ Δ₁ Δ₂ o₁ o₂ unequal. met (case_unequal few o₁ o₂ unequal)))
    (λ full. met (case_full full))
reported_case g n r a Δ p q τ leaf node (no other) = rw (then_refused _ (take_other a r Δ other)) (bad (met (case_not_head other)))

-- every expression
module _ (gs : List Signature) where
  mutual
    unfolding walk lines

    pub reported : (g n w r : ℕ) (Δ : List ℕ) (τ : Ty) (e : Expr) → CallsComplete (arity_of gs) e → Passes gs (scope g n w τ) r e → Reported gs (spot g n r Δ e τ)
    reported g n w r Δ τ (const i) a p = rw (pass_const gs g n w r τ i p) (good (record { derivation = T-Int; few = (tt, tt) }))
    reported g n w r Δ τ (var x) a p =
        let h = pass_var gs g n w r τ x p in
        rw h.1 (good (record { derivation = T-Var2 h.0; few = (tt, tt) }))
    reported g n w r Δ τ (compute op p q) a passed =
        let h = pass_compute gs g n w r τ op p q passed in
        rw h.0 (reported_two
        (reported g n w (suc r) Δ Int p a.0 h.1)
        (λ Δ'. reported g n (suc w) (suc r + size p) Δ' Int q a.1 h.2)
        add_left
        (λ Δ' o. add_right o)
        (λ Δ' Δ'' o₁ o₂. record { derivation = T-Plus o₁.derivation o₂.derivation; few = few_both _ o₁ o₂ (tt, tt) }))
    reported g n w r Δ τ (if_zero t z o) a passed =
        let h = pass_if_zero gs g n w r τ t z o passed in
        said_then (reported g n w (suc r) Δ Int t a.0 h.0) (enter if_test) λ Δ' o₀. said_joined r
        (reported g n w (suc r + size t) Δ' τ z a.1.0 h.1)
        (reported g n w (suc r + size t + size z) Δ' τ o a.1.1 h.2)
        (enter (if-zero o₀))
        (λ Δ₁ o₁. enter (if_other o₀ o₁))
        (λ Δ'' o₁ o₂. record {
          derivation = IfZero-01 o₀.derivation o₁.derivation o₂.derivation;
          few = every_append FewAtCase (lines o₀.derivation) _ o₀.few (few_both _ o₁ o₂ (tt, tt));
        })
        (λ Δ₁ Δ₂ o₁ o₂ unequal. met (if_unequal o₀ o₁ o₂ unequal))
    reported g n w r Δ τ (let_in p q) a passed =
        let h = pass_let gs g n w r τ p q passed in
        reported_two
        (reported g n w (suc r) Δ Int p a.0 h.0)
        (λ Δ'. reported (suc g) n (suc w) (suc r + size p) Δ' τ q a.1 h.1)
        let_number
        (λ Δ' o. let_body o)
        (λ Δ' Δ'' o₁ o₂. record { derivation = Let-01 o₁.derivation o₂.derivation; few = few_both _ o₁ o₂ (tt, tt) })
    reported g n w r Δ τ (leaf_of p) a passed =
        let h = pass_leaf gs g n w r τ p passed in
        rw h.0 (said_map
        (reported g n w (suc r) Δ Int p a h.1)
        (λ Δ' o. record { derivation = T-Leaf o.derivation; few = every_append FewAtCase (lines o.derivation) _ o.few (tt, tt) })
        (enter leaf_number))
    reported g n w r Δ τ (node_of p q) a passed =
        let h = pass_node gs g n w r τ p q passed in
        rw h.0 (reported_two
        (reported g n w (suc r) Δ Tree⁺ p a.0 h.1)
        (λ Δ'. reported g n w (suc r + size p) Δ' Tree⁺ q a.1 h.2)
        node_left
        (λ Δ' o. node_right o)
        (λ Δ' Δ'' o₁ o₂. record { derivation = T-Node o₁.derivation o₂.derivation; few = few_both _ o₁ o₂ (tt, tt) }))
    reported g n w r Δ τ (case_of x p q) a passed =
        let h = pass_case gs g n w r τ x p q passed in
        reported_case g n r x Δ p q τ
        (λ rest. reported (suc g) n (suc w) (suc r) rest τ p a.0 h.1)
        (λ rest. reported g (suc (suc n)) w (suc r + size p) (n ∷ (suc n ∷ rest)) τ q a.1 h.2)
        (head? x Δ)
    reported g n w r Δ τ (call x b xs) a passed =
        let c = pass_call gs g n w r τ x b xs passed in
        said_then
        (reported_args g n w (suc r) 0 x b τ Δ (spot g n r Δ (call x b xs) τ) xs a.1 c.arguments (λ s e. call_number e))
        (λ number position m. m)
        (λ Δ' o. reported_call a.0 c o (head? x Δ'))

    -- a Call's arguments from part i on, entered from spot s
    reported_args :
        (g n w r i a b : ℕ) (τ : Ty) (Δ : List ℕ) (s : Spot) (xs : Args)
        → ArgsComplete (arity_of gs) xs
        → PassesArgs gs (Call a b) i (scope g n w τ) r xs
        → ((s' : Spot) → EntersArg gs g n r Δ xs s' → Enters gs s s')
        → ValueOrRefusal (ArgsInOrder gs g n r Δ xs) (Met gs s) (walk_args n r Δ xs)
    reported_args g n w r i a b τ Δ s no_args h p way = good finished
    reported_args g n w r i a b τ Δ s (arg x xs) h p way =
        let t = pass_arg gs g n w r τ a b i x xs p in
        said_then
        (reported g n (w + i) r Δ Int x h.0 t.0)
        (enter (way _ this_one))
        (λ Δ' o. said_map
        (reported_args g n w (r + size x) (suc i) a b τ Δ' s xs h.1 t.1 (λ s' e. way s' (EntersArg.after_it o e)))
        (λ Δ'' os. one_more o os)
        (λ number position m. m))

-- what passes the walk is in order
pub second :
    (gs : List Signature) (g n w r : ℕ) (Δ : List ℕ) (τ : Ty) (e : Expr) (Δ' : List ℕ)
    → CallsComplete (arity_of gs) e
    → Passes gs (scope g n w τ) r e
    → walk n r Δ e ≡ done Δ'
    → InOrder gs g n r Δ e τ Δ'
second gs g n w r Δ τ e Δ' a passed h = said_done (reported gs g n w r Δ τ e a passed) h
