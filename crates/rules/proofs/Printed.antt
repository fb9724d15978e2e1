-- The rules in Typing admit the same functions as Figure 6 in printed form on the paper's own
-- terms.
--
-- One way: each rule of Typing is the figure's rule of that name, and a Call is one T-App for each
-- argument. Names counted along the path are different from each other, as T-Case requires.
--
-- The other way: by cases on the expression, whose term comes by one rule only. A name could come
-- by two, but Γ holds no tree's name, and Δ no other. A Call's function has its type from Γ, so its
-- arguments are numbers and then a tree.
use Prim.Native.Nat.{ℕ, zero, suc, ◌+◌, ◌≤◌, ◌<◌}
use mathlib.Core.List.{List, [], ◌∷◌, ◌++◌, append_assoc, map, map-append}
use mathlib.Core.Logic.{◌↔◌, ◌≢◌}
use mathlib.Core.Option.{some, some-injective, none-ne-some}
use mathlib.Core.Path.{◌≡◌, refl, ap}
use native.Mathlib.Decide.{dec_lt}
use native.Mathlib.Nat.{add-zero, zero-add, lt-suc_self}
use native.Mathlib.Omega.{arith}
use Rattle.formats.specs.Records.{nth}
use Rattle.formats.specs.Programs.{Expr, const, var, compute, if_zero, let_in, leaf_of, node_of, case_of, call, Args, no_args, arg}
use Rattle.formats.specs.Programs.{Sort, number_valued, tree_valued, Signature, signature_of, Function}
use Rattle.formats.proofs.Programs.{every_left, every_right}
use Rattle.rules.specs.Types.{Ty, Int, Tree⁻, arrow, result_type, arrows, function_type}
use Rattle.rules.specs.Typing.{TypesName, Types, Applies, to_number, to_tree, TypedFunction}
use Rattle.rules.specs.Printed.{Name, number_name, tree_name, function_name, Term, lam, name, app, fix, Binding, has, In, here, there}
use Rattle.rules.specs.Printed.{an_int, Different, Judges, term_of, applied, lams, function_term, function_names, JudgedFunction}

-- ---- what is in Γ

-- the types of all functions, and number names 0 to g − 1
env_of : List Signature → ℕ → List Binding
env_of gs zero = function_names 0 gs
env_of gs (suc g) = has (number_name g) Int ∷ env_of gs g

-- a name that it knows, with its type
data Known (gs : List Signature) (g : ℕ) : Binding → Type 0 where
  a-number : {a : ℕ} → a < g → Known gs g (has (number_name a) Int)
  a_function : {b : ℕ} {s : Signature} → nth gs b ≡ some s → Known gs g (has (function_name b) (function_type s))

-- functions, the first of them number c
data Named (c : ℕ) (ss : List Signature) : Binding → Type 0 where
  named : {b : ℕ} {s : Signature} (j : ℕ) → b ≡ c + j → nth ss j ≡ some s → Named c ss (has (function_name b) (function_type s))

-- those are the names of functions ..
in_names : (c : ℕ) (ss : List Signature) {x : Binding} → Named c ss x → In x (function_names c ss)
unfolding nth function_names
in_names c [] (named {s} j h e) = absurd (none-ne-some s e)
in_names c (t ∷ ss) (named {b} {s} zero h e) = let same : b ≡ c = omega arith in rw (← some-injective t s e, same) here
in_names c (t ∷ ss) (named (suc j) h e) = there (in_names (suc c) ss (named j (omega arith) e))

-- .. and no others
names-in : (c : ℕ) (ss : List Signature) {x : Binding} → In x (function_names c ss) → Named c ss x
unfolding nth function_names
names-in c [] h = elim h [ ]
names-in c (s ∷ ss) here = named {b = c} 0 (omega arith) refl
names-in c (s ∷ ss) (there i) = further (names-in (suc c) ss i)
  where
    further : {x : Binding} → Named (suc c) ss x → Named c (s ∷ ss) x
    further (named {b} j h e) = named {b = b} (suc j) (omega arith) e

-- what is in the environment is known ..
known : (gs : List Signature) (g : ℕ) {x : Binding} → In x (env_of gs g) → Known gs g x
unfolding env_of
known gs zero i = first (names-in 0 gs i)
  where
    first : {x : Binding} → Named 0 gs x → Known gs 0 x
    first (named {b} {s} j h e) = let same : b ≡ j = omega arith in a_function {b = b} {s = s} (rw same e)
known gs (suc g) here = a-number (lt-suc_self g)
known gs (suc g) (there i) = longer (known gs g i)
  where
    longer : {x : Binding} → Known gs g x → Known gs (suc g) x
    longer (a-number {a} h) = a-number {a = a} (omega arith)
    longer (a_function e) = a_function e

-- .. and what is known is in it
in_env : (gs : List Signature) (g : ℕ) {x : Binding} → Known gs g x → In x (env_of gs g)
unfolding env_of
in_env gs zero (a-number h) = absurd (omega arith)
in_env gs zero (a_function {b} e) = in_names 0 gs (named b (omega arith) e)
in_env gs (suc g) (a-number {a} h) = elim (dec_lt a g) [
  | yes l ↦ there (in_env gs g (a-number l))
  | no m ↦ let same : a ≡ g = omega arith in rw same here
]
in_env gs (suc g) (a_function e) = there (in_env gs g (a_function e))

-- ---- from Typing to the printed form

-- tree names that are different from each other, and from all that are still to come
record Fresh (n : ℕ) (Δ : List ℕ) : Type 0 where
  from : (m : ℕ) → n ≤ m → Different (map tree_name (m ∷ Δ))

-- so are those of each part
different_left : (Δ₁ Δ₂ : List ℕ) → Different (map tree_name (Δ₁ ++ Δ₂)) → Different (map tree_name Δ₁)
different_left [] Δ₂ h = tt
different_left (x ∷ Δ₁) Δ₂ h = (every_left _ (map tree_name Δ₁) (map tree_name Δ₂) (rw (map-append tree_name Δ₁ Δ₂) at h.0), different_left Δ₁ Δ₂ h.1)

different_right : (Δ₁ Δ₂ : List ℕ) → Different (map tree_name (Δ₁ ++ Δ₂)) → Different (map tree_name Δ₂)
different_right [] Δ₂ h = h
different_right (x ∷ Δ₁) Δ₂ h = different_right Δ₁ Δ₂ h.1

fresh_left : {n : ℕ} (Δ₁ Δ₂ : List ℕ) → Fresh n (Δ₁ ++ Δ₂) → Fresh n Δ₁
fresh_left Δ₁ Δ₂ f = record { from = λ m h. different_left (m ∷ Δ₁) Δ₂ (f.from m h) }

fresh_right : {n : ℕ} (Δ₁ Δ₂ : List ℕ) → Fresh n (Δ₁ ++ Δ₂) → Fresh n Δ₂
fresh_right Δ₁ Δ₂ f = record {
  from = λ m h.
      (every_right _ (map tree_name Δ₁) (map tree_name Δ₂) (rw (map-append tree_name Δ₁ Δ₂) at (f.from m h).0), different_right Δ₁ Δ₂ (f.from m h).1);
}

-- names are different where their numbers are
pub trees_differ : {a b : ℕ} → a ≢ b → tree_name a ≢ tree_name b
trees_differ h e = h (ap (λ x. elim x [ number_name a ↦ a | tree_name a ↦ a | function_name a ↦ a ]) e)

-- the two that a Case binds are different from those before ..
fresh_two : {n : ℕ} {Δ : List ℕ} → Fresh n Δ → Different (map tree_name (n ∷ suc n ∷ Δ))
fresh_two {n} f = ((trees_differ (omega arith), (f.from n (omega arith)).0), f.from (suc n) (omega arith))

-- .. and so it stays
fresh_more : {n : ℕ} {Δ : List ℕ} → Fresh n Δ → Fresh (suc (suc n)) (n ∷ suc n ∷ Δ)
fresh_more f = record { from = λ m h. ((trees_differ (omega arith), (trees_differ (omega arith), (f.from m (omega arith)).0)), fresh_two f) }

-- two parts, each with its own tree names
joined : {Γ : List Binding} {M : Term} {τ : Ty} {n : ℕ} {Δ₁ Δ₂ : List ℕ} → Fresh n (Δ₁ ++ Δ₂)
    → (Fresh n Δ₁ → Fresh n Δ₂ → Judges Γ (map tree_name Δ₁ ++ map tree_name Δ₂) M τ)
    → Judges Γ (map tree_name (Δ₁ ++ Δ₂)) M τ
joined {Δ₁} {Δ₂} f j = rw (map-append tree_name Δ₁ Δ₂) (j (fresh_left Δ₁ Δ₂ f) (fresh_right Δ₁ Δ₂ f))

tree_judged : {Γ : List Binding} {Δ : List ℕ} {a : ℕ} {τ : Ty} → TypesName Δ a τ → Judges Γ (map tree_name Δ) (name (tree_name a)) τ
tree_judged TypesName.T-Var1 = Judges.T-Var1

-- rule by rule; arguments for any term M that is applied to them
judged : (gs : List Signature) {g n : ℕ} {Δ : List ℕ} {e : Expr} {τ : Ty} → Types gs g n Δ e τ → Fresh n Δ
    → Judges (env_of gs g) (map tree_name Δ) (term_of g n e) τ
unfolding term_of env_of
judged gs d = elim d as
    (λ g n Δ e τ _. Fresh n Δ → Judges (env_of gs g) (map tree_name Δ) (term_of g n e) τ)
    (λ g n Δ σ xs a τ _. Fresh n Δ → (Δ₀ : List Name) (M : Term) → Judges (env_of gs g) Δ₀ M σ
    → Judges (env_of gs g) (Δ₀ ++ map tree_name Δ) (app (applied g n M xs) (name (tree_name a))) τ) [
      | Types.T-Var2 {g} h ↦ λ f. Judges.T-Var2 (in_env gs g (a-number h))
      | Types.T-Int ↦ λ f. Judges.T-Int
      | Types.T-App {g} e (d → h) ↦ λ f. h f [] _ (Judges.T-Var2 (in_env gs g (a_function e)))
      | Types.T-Plus (d → h) (e → k) ↦ λ f. joined f (λ l r. Judges.T-Plus (h l) (k r))
      | Types.T-Leaf (d → h) ↦ λ f. Judges.T-Leaf (h f)
      | Types.T-Node (d → h) (e → k) ↦ λ f. joined f (λ l r. Judges.T-Node (h l) (k r))
      | Types.T-Case {Δ₁} x (d → h) (e → k) ↦ λ f. joined {Δ₁ = Δ₁} f (λ l r. Judges.T-Case (fresh_two r) (tree_judged x) (h r) (k (fresh_more r)))
      | Types.Let-01 (d → h) (e → k) ↦ λ f. joined f (λ l r. Judges.Let-01 (h l) (k r))
      | Types.IfZero-01 (d → h) (e → k) (o → m) ↦ λ f. joined f (λ l r. Judges.IfZero-01 (h l) (k r) (m r))
      | to_number {Δ₁} {Δ₂} (d → h) (e → k) ↦ λ f Δ₀ M j.
          rw (map-append tree_name Δ₁ Δ₂, ← append_assoc) (k (fresh_right Δ₁ Δ₂ f) (Δ₀ ++ map tree_name Δ₁) _ (Judges.T-App j (h (fresh_left Δ₁ Δ₂ f))))
      | to_tree x ↦ λ f Δ₀ M j. Judges.T-App j (tree_judged x)
    ]

-- ---- from the printed form to Typing

-- tree names by their numbers, and as names
data Trees : List ℕ → List Name → Type 0 where
  none : Trees [] []
  more : {a : ℕ} {Δ : List ℕ} {Δ' : List Name} → Trees Δ Δ' → Trees (a ∷ Δ) (tree_name a ∷ Δ')

-- where the names are split, so are their numbers
apart : (C : List ℕ → Type 0) {Δ : List ℕ} (Δ₁ Δ₂ : List Name) → Trees Δ (Δ₁ ++ Δ₂)
    → ((Θ₁ Θ₂ : List ℕ) → Trees Θ₁ Δ₁ → Trees Θ₂ Δ₂ → C (Θ₁ ++ Θ₂))
    → C Δ
apart C [] Δ₂ t both = both [] _ none t
apart C (x ∷ Δ₁) Δ₂ (more {a} t) both = apart (λ l. C (a ∷ l)) Δ₁ Δ₂ t (λ Θ₁ Θ₂ t₁ t₂. both (a ∷ Θ₁) Θ₂ (more t₁) t₂)

-- types of functions: from numbers, then from a tree, to no function
data Curried : Ty → Type 0 where
  from_tree : (s : Sort) → Curried (arrow Tree⁻ (result_type s))
  from_number : {τ : Ty} → Curried τ → Curried (arrow Int τ)

-- every function of a program has one
curried : (k : ℕ) (s : Sort) → Curried (arrows k (result_type s))
unfolding arrows
curried zero s = from_tree s
curried (suc k) s = from_number (curried k s)

-- what a term of type σ is applied to, N last, so that the whole is a τ
data Spine (Γ : List Binding) (g n : ℕ) (N : Term) (τ : Ty) : Args → Ty → List Name → Type 0 where
  last : {Δ : List Name} {σ : Ty} → Judges Γ Δ N σ → Spine Γ g n N τ no_args (arrow σ τ) Δ
  next : {Δ₁ Δ₂ : List Name} {x : Expr} {xs : Args} {σ ρ : Ty} → Judges Γ Δ₁ (term_of g n x) σ → Spine Γ g n N τ xs ρ Δ₂
      → Spine Γ g n N τ (arg x xs) (arrow σ ρ) (Δ₁ ++ Δ₂)

-- M applied to all that
data Headed (Γ : List Binding) (g n : ℕ) (N : Term) (τ : Ty) (xs : Args) (M : Term) : List Name → Type 0 where
  headed : {Δ₁ Δ₂ : List Name} {ρ : Ty} → Judges Γ Δ₁ M ρ → Spine Γ g n N τ xs ρ Δ₂ → Headed Γ g n N τ xs M (Δ₁ ++ Δ₂)

-- where M with its first argument is the head, M is
headed_arg : {Γ : List Binding} {g n : ℕ} {N : Term} {τ : Ty} {x : Expr} {xs : Args} {M : Term} {Δ : List Name}
    → Headed Γ g n N τ xs (app M (term_of g n x)) Δ
    → Headed Γ g n N τ (arg x xs) M Δ
headed_arg (headed (Judges.T-App j k) s) = rw append_assoc (headed j (next k s))

-- an application, taken apart down to its head
head_of : {Γ : List Binding} {g n : ℕ} {N : Term} {τ : Ty} {Δ : List Name} (xs : Args) (M : Term)
    → Judges Γ Δ (app (applied g n M xs) N) τ
    → Headed Γ g n N τ xs M Δ
unfolding applied
head_of no_args M (Judges.T-App j k) = headed j (last k)
head_of (arg x xs) M j = headed_arg (head_of xs (app M _) j)

-- names: a tree's is in Δ, a number's and a function's are in Γ
tree_typed : (gs : List Signature) (g : ℕ) {a : ℕ} {Δ : List ℕ} {Δ' : List Name} {τ : Ty} → Judges (env_of gs g) Δ' (name (tree_name a)) τ → Trees Δ Δ'
    → TypesName Δ a τ
tree_typed gs g Judges.T-Var1 (more none) = TypesName.T-Var1
tree_typed gs g (Judges.T-Var2 i) none = elim (known gs g i) [ ]

var_typed : {gs : List Signature} {g n a : ℕ} {τ : Ty} → Known gs g (has (number_name a) τ) → Types gs g n [] (var a) τ
var_typed (a-number h) = Types.T-Var2 h

call_typed : {gs : List Signature} {g n a b : ℕ} {Δ : List ℕ} {xs : Args} {σ τ : Ty}
    → Known gs g (has (function_name b) σ)
    → (Curried σ → Applies gs g n Δ σ xs a τ)
    → Types gs g n Δ (call a b xs) τ
unfolding function_type
call_typed (a_function {s} e) d = Types.T-App e (d (curried s.parameters s.sort))

-- a Call, once its arguments are typed
called : {gs : List Signature} {g n a b : ℕ} {xs : Args} {Δ : List ℕ} {Δ' : List Name} {τ : Ty}
    → Headed (env_of gs g) g n (name (tree_name a)) τ xs (name (function_name b)) Δ'
    → Trees Δ Δ'
    → ((σ : Ty) → Curried σ → (Θ : List Name) → Spine (env_of gs g) g n (name (tree_name a)) τ xs σ Θ → Trees Δ Θ → Applies gs g n Δ σ xs a τ)
    → Types gs g n Δ (call a b xs) τ
called {gs} {g} (headed (Judges.T-Var2 i) s) t d = call_typed (known gs g i) (λ c. d _ c _ s t)
called (headed Judges.T-Var1 s) t d = elim s [ ]

tree_applied : {gs : List Signature} {g n a : ℕ} {Δ : List ℕ} {σ τ : Ty} → TypesName Δ a σ → Applies gs g n Δ (arrow σ τ) no_args a τ
tree_applied TypesName.T-Var1 = to_tree TypesName.T-Var1

-- a rule with two parts, each with its own tree names
split : {gs : List Signature} {g n : ℕ} {e : Expr} {τ : Ty} {Δ : List ℕ} {Δ₁ Δ₂ : List Name} → Trees Δ (Δ₁ ++ Δ₂)
    → ((Θ₁ Θ₂ : List ℕ) → Trees Θ₁ Δ₁ → Trees Θ₂ Δ₂ → Types gs g n (Θ₁ ++ Θ₂) e τ)
    → Types gs g n Δ e τ
split {gs} {g} {n} {e} {τ} t both = apart (λ l. Types gs g n l e τ) _ _ t both

-- the value of a function is applied to nothing
no_more : {Γ : List Binding} {g n : ℕ} {N : Term} {τ : Ty} {xs : Args} {Δ : List Name} (s : Sort) → Spine Γ g n N τ xs (result_type s) Δ
    → ⊥
unfolding result_type
no_more number_valued s = elim s [ ]
no_more tree_valued s = elim s [ ]

-- an expression by its term's one rule, and arguments one after the other
mutual
  unfolding term_of env_of

  typed : {gs : List Signature} {g n : ℕ} {Δ : List ℕ} {Δ' : List Name} {τ : Ty} (e : Expr) → Judges (env_of gs g) Δ' (term_of g n e) τ → Trees Δ Δ'
      → Types gs g n Δ e τ
  typed (const i) Judges.T-Int none = Types.T-Int
  typed {gs} {g} (var a) (Judges.T-Var2 i) none = var_typed (known gs g i)
  typed (compute op p q) (Judges.T-Plus j k) t = split t (λ Θ₁ Θ₂ l r. Types.T-Plus (typed p j l) (typed q k r))
  typed (if_zero x p q) (Judges.IfZero-01 i j k) t = split t (λ Θ₁ Θ₂ l r. Types.IfZero-01 (typed x i l) (typed p j r) (typed q k r))
  typed (let_in p q) (Judges.Let-01 j k) t = split t (λ Θ₁ Θ₂ l r. Types.Let-01 (typed p j l) (typed q k r))
  typed (leaf_of p) (Judges.T-Leaf j) t = Types.T-Leaf (typed p j t)
  typed (node_of p q) (Judges.T-Node j k) t = split t (λ Θ₁ Θ₂ l r. Types.T-Node (typed p j l) (typed q k r))
  typed {gs} {g} (case_of a p q) (Judges.T-Case d i j k) t =
      split t (λ Θ₁ Θ₂ l r. Types.T-Case (tree_typed gs g i l) (typed p j r) (typed q k (more (more r))))
  typed (call a b xs) j t = called (head_of xs (name (function_name b)) j) t (λ σ c Θ s t. typed_args xs c s t)
  typed (var a) Judges.T-Var1 t = elim t [ ]

  typed_args : {gs : List Signature} {g n a : ℕ} {Δ : List ℕ} {Δ' : List Name} {σ τ : Ty} (xs : Args) → Curried σ
      → Spine (env_of gs g) g n (name (tree_name a)) τ xs σ Δ' → Trees Δ Δ'
      → Applies gs g n Δ σ xs a τ
  typed_args {gs} {g} no_args c (last j) t = tree_applied (tree_typed gs g j t)
  typed_args {gs} {g} {n} {a} {τ} (arg x xs) (from_number {τ = ρ} c) (next j s) t =
      apart (λ l. Applies gs g n l (arrow Int ρ) (arg x xs) a τ) _ _ t (λ Θ₁ Θ₂ l r. to_number (typed x j l) (typed_args xs c s r))
  typed_args (arg x xs) (from_tree v) (next j s) t = absurd (no_more v s)

-- ---- functions

-- what is under an abstraction
tree_body : {Γ : List Binding} {Δ : List Name} {x : Name} {M : Term} {τ : Ty} → Judges Γ Δ (lam x M) (arrow Tree⁻ τ) → Judges Γ (x ∷ []) M τ
tree_body (Judges.T-Abs1 d) = d
tree_body (Judges.T-Abs2 i d) = elim i [ ]

number_body : {Γ : List Binding} {Δ : List Name} {x : Name} {M : Term} {τ : Ty} → Judges Γ Δ (lam x M) (arrow Int τ)
    → Judges (has x Int ∷ Γ) [] M τ
number_body (Judges.T-Abs2 i d) = d

-- abstractions over j numbers, and over a tree
abstracted : (gs : List Signature) (j k : ℕ) (x : Name) (M : Term) (τ : Ty)
    → Judges (env_of gs (k + j)) (x ∷ []) M τ ↔ Judges (env_of gs k) [] (lams k j (lam x M)) (arrows j τ)
unfolding env_of lams arrows
abstracted gs zero k x M τ = rw (add-zero k) (Judges.T-Abs1, tree_body)
abstracted gs (suc j) k x M τ =
    let shift : suc k + j ≡ k + suc j = omega arith in
    let inner = rw shift at (abstracted gs j (suc k) x M τ) in
    (λ d. Judges.T-Abs2 an_int (inner.0 d), λ d. inner.1 (number_body d))

pub printed : (gs : List Signature) (f : Function) → TypedFunction gs f ↔ JudgedFunction gs (signature_of f) f
unfolding env_of function_term function_type signature_of
printed gs f =
    let whole = rw zero-add at (abstracted gs f.parameters 0 (tree_name 0) (term_of f.parameters 1 f.body) (result_type f.sort)) in
    (λ d. whole.0 (judged gs d (record { from = λ m h. ((trees_differ (omega arith), tt), (tt, tt)) })), λ d. typed f.body (whole.1 d) (more none))

-- ---- one function alone

-- T-Fix is the only rule for a fixed point
unfixed : {Γ : List Binding} {Δ : List Name} {f : Name} {M : Term} {τ : Ty} → Judges Γ Δ (fix f M) τ → Judges (has f τ ∷ Γ) [] M τ
unfixed (Judges.T-Fix d) = d

-- a function's type is an arrow
fix_function : {M : Term} (k : ℕ) (ρ : Ty) → Judges (has (function_name 0) (arrows k ρ) ∷ []) [] M (arrows k ρ) → Judges [] [] (fix (function_name 0) M) (arrows k ρ)
unfolding arrows
fix_function zero ρ d = Judges.T-Fix d
fix_function (suc k) ρ d = Judges.T-Fix d

pub fixed : (f : Function) → TypedFunction (signature_of f ∷ []) f ↔ Judges [] [] (fix (function_name 0) (function_term f)) (function_type (signature_of f))
unfolding function_names function_type
fixed f =
    let both = printed (signature_of f ∷ []) f in
    (λ d. fix_function (signature_of f).parameters (result_type (signature_of f).sort) (both.0 d), λ d. both.1 (unfixed d))
