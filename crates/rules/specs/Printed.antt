-- 000, Figure 6, in its printed form on the paper's own terms, and a program's functions as such
-- terms.
use Rattle.std.specs.Prelude.{ℕ, zero, suc, List, [], ◌∷◌, ◌++◌, ◌≢◌}
use Rattle.formats.specs.Arithmetic.{Op}
use Rattle.formats.specs.Programs.{Expr, const, var, compute, if_zero, let_in, leaf_of, node_of, case_of, call, Args, no_args, arg, Every, Signature, Function}
use Rattle.rules.specs.Types.{Ty, Int, Tree⁻, Tree⁺, arrow, function_type}

-- Variables. 000, section 2.1: "bound variables are always different from each other and free
-- variables"; names that are counted along the path are different.
pub data Name : Type 0 where
  number_name : ℕ → Name
  tree_name : ℕ → Name
  function_name : ℕ → Name

-- 000, Figure 3, terms; and 01, Let and IfZero.
pub data Term : Type 0 where
  -- i
  int : ℕ → Term
  -- λx.M
  lam : Name → Term → Term
  -- x
  name : Name → Term
  -- M₁ M₂
  app : Term → Term → Term
  -- M₁ + M₂, and so of each operation
  compute_term : Op → Term → Term → Term
  -- fix f.M
  fix : Name → Term → Term
  -- leaf M
  leaf_term : Term → Term
  -- node M₁ M₂
  node_term : Term → Term → Term
  -- case M of leaf x ⇒ M₁ | node x₁ x₂ ⇒ M₂
  case : Term → Name → Term → Name → Name → Term → Term
  -- 01, Let and IfZero: let x = M₁ in M₂
  let_01 : Name → Term → Term → Term
  -- 01, Let and IfZero: test, zero part, other part
  if_zero_01 : Term → Term → Term → Term

-- x : τ
pub data Binding : Type 0 where
  has : Name → Ty → Binding

-- The binding is one of Γ.
pub data In (b : Binding) : List Binding → Type 0 where
  here : {Γ : List Binding} → In b (b ∷ Γ)
  there : {c : Binding} {Γ : List Binding} → In b Γ → In b (c ∷ Γ)

-- 000, Definition 3: a non-ordered environment "does not contain Tree^d".
pub data NonTree : Ty → Type 0 where
  an_int : NonTree Int
  a_function : {σ τ : Ty} → NonTree (arrow σ τ)

-- 000, Definition 2: an ordered linear environment's names "are different from each other".
abbrev pub Different : List Name → Type 0
Different [] = Unit {0}
Different (x ∷ xs) = Every (λ y. x ≢ y) xs × Different xs

-- Γ | Δ ⊢ M : τ, rule by rule. Δ is the list of its names, each of type Tree⁻.
pub data Judges : List Binding → List Name → Term → Ty → Type 0 where
  T-Var1 : {Γ : List Binding} {x : Name} → Judges Γ (x ∷ []) (name x) Tree⁻
  T-Var2 : {Γ : List Binding} {x : Name} {τ : Ty} → In (has x τ) Γ → Judges Γ [] (name x) τ
  T-Int : {Γ : List Binding} {i : ℕ} → Judges Γ [] (int i) Int
  T-Abs1 : {Γ : List Binding} {x : Name} {M : Term} {τ : Ty} → Judges Γ (x ∷ []) M τ → Judges Γ [] (lam x M) (arrow Tree⁻ τ)
  T-Abs2 :
      {Γ : List Binding} {x : Name} {M : Term} {σ τ : Ty}
      → NonTree σ
      → Judges (has x σ ∷ Γ) [] M τ
      → Judges Γ [] (lam x M) (arrow σ τ)
  T-App :
      {Γ : List Binding} {Δ₁ Δ₂ : List Name} {M N : Term} {σ τ : Ty}
      → Judges Γ Δ₁ M (arrow σ τ)
      → Judges Γ Δ₂ N σ
      → Judges Γ (Δ₁ ++ Δ₂) (app M N) τ
  T-Plus :
      {Γ : List Binding} {Δ₁ Δ₂ : List Name} {op : Op} {M N : Term}
      → Judges Γ Δ₁ M Int
      → Judges Γ Δ₂ N Int
      → Judges Γ (Δ₁ ++ Δ₂) (compute_term op M N) Int
  T-Fix :
      {Γ : List Binding} {f : Name} {M : Term} {σ τ : Ty}
      → Judges (has f (arrow σ τ) ∷ Γ) [] M (arrow σ τ)
      → Judges Γ [] (fix f M) (arrow σ τ)
  T-Leaf : {Γ : List Binding} {Δ : List Name} {M : Term} → Judges Γ Δ M Int → Judges Γ Δ (leaf_term M) Tree⁺
  T-Node :
      {Γ : List Binding} {Δ₁ Δ₂ : List Name} {M N : Term}
      → Judges Γ Δ₁ M Tree⁺
      → Judges Γ Δ₂ N Tree⁺
      → Judges Γ (Δ₁ ++ Δ₂) (node_term M N) Tree⁺
  T-Case :
      {Γ : List Binding} {Δ₁ Δ₂ : List Name} {M P Q : Term} {x x₁ x₂ : Name} {τ : Ty}
      → Different (x₁ ∷ (x₂ ∷ Δ₂))
      → Judges Γ Δ₁ M Tree⁻
      → Judges (has x Int ∷ Γ) Δ₂ P τ
      → Judges Γ (x₁ ∷ (x₂ ∷ Δ₂)) Q τ
      → Judges Γ (Δ₁ ++ Δ₂) (case M x P x₁ x₂ Q) τ
  -- 01, Let and IfZero.
  Let-01 :
      {Γ : List Binding} {Δ₁ Δ₂ : List Name} {x : Name} {M N : Term} {τ : Ty}
      → Judges Γ Δ₁ M Int
      → Judges (has x Int ∷ Γ) Δ₂ N τ
      → Judges Γ (Δ₁ ++ Δ₂) (let_01 x M N) τ
  -- 01, Let and IfZero.
  IfZero-01 :
      {Γ : List Binding} {Δ₁ Δ₂ : List Name} {M P Q : Term} {τ : Ty}
      → Judges Γ Δ₁ M Int
      → Judges Γ Δ₂ P τ
      → Judges Γ Δ₂ Q τ
      → Judges Γ (Δ₁ ++ Δ₂) (if_zero_01 M P Q) τ

-- ---- programs as terms

-- An expression's term, where g number names and n tree names are bound.
unfoldable mutual
  pub term_of : ℕ → ℕ → Expr → Term
  term_of g n (const i) = int i
  term_of g n (var a) = name (number_name a)
  term_of g n (compute op p q) = compute_term op (term_of g n p) (term_of g n q)
  term_of g n (if_zero t z o) = if_zero_01 (term_of g n t) (term_of g n z) (term_of g n o)
  term_of g n (let_in p body) = let_01 (number_name g) (term_of g n p) (term_of (suc g) n body)
  term_of g n (leaf_of p) = leaf_term (term_of g n p)
  term_of g n (node_of p q) = node_term (term_of g n p) (term_of g n q)
  term_of g n (case_of a p q) =
      case (name (tree_name a)) (number_name g) (term_of (suc g) n p) (tree_name n) (tree_name (suc n)) (term_of g (suc (suc n)) q)
  term_of g n (call a b xs) = app (applied g n (name (function_name b)) xs) (name (tree_name a))

  -- The term M applied to arguments, one after the other.
  pub applied : ℕ → ℕ → Term → Args → Term
  applied g n M no_args = M
  applied g n M (arg x xs) = applied g n (app M (term_of g n x)) xs

-- λx.λy. .. M, over so many number names from k on.
unfoldable pub lams : ℕ → ℕ → Term → Term
lams k zero M = M
lams k (suc j) M = lam (number_name k) (lams (suc k) j M)

-- A function's term: abstractions over its numbers, then over its tree.
unfoldable pub function_term : Function → Term
function_term f = lams 0 f.parameters (lam (tree_name 0) (term_of f.parameters 1 f.body))

-- The bindings of functions for Γ, each function's name with its type. The first one is function b.
unfoldable pub function_names : ℕ → List Signature → List Binding
function_names b [] = []
function_names b (s ∷ ss) = has (function_name b) (function_type s) ∷ function_names (suc b) ss

-- T-Fix for functions that call each other: with the names of all functions in Γ, the function's
-- term has the type of its name.
abbrev pub JudgedFunction : List Signature → Signature → Function → Type 0
JudgedFunction gs s f = Judges (function_names 0 gs) [] (function_term f) (function_type s)
