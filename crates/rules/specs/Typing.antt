-- 000, Figure 6, for the programs of 01, Program file: the rules of the typing judgement, under
-- their names.
--
-- A judgement Γ | Δ ⊢ M : τ is `Types gs g n Δ e τ`. Γ has the types of all functions, which are
-- those of the signatures gs: a function may use every one of them, as with T-Fix it may use
-- itself. Γ also has number names 0 to g − 1, each an Int. Δ, the ordered linear type environment,
-- is the list of its tree names. n is the number of tree names bound so far: names count along the
-- path (01, Names), so Case's node part binds n and n + 1.
--
-- The theorem is in OrderChecker.antt, field `passes`: within the limits, the checker passes
-- precisely what these rules admit.
use Rattle.std.specs.Prelude.{ℕ, suc, ◌<◌, List, [], ◌∷◌, ◌++◌, ◌≡◌}
use Rattle.std.proofs.Math.Option.{some}
use Rattle.formats.specs.Arithmetic.{Op}
use Rattle.formats.specs.Records.{nth}
use Rattle.formats.specs.Programs.{Expr, const, var, compute, if_zero, let_in, leaf_of, node_of, case_of, call, Args, no_args, arg, Signature, Function}
use Rattle.rules.specs.Types.{Ty, Int, Tree⁻, Tree⁺, arrow, result_type, function_type}

-- The judgement for the tree name of a Case or a Call.
pub data TypesName : List ℕ → ℕ → Ty → Type 0 where
  -- Γ | x : Tree⁻ ⊢ x : Tree⁻
  T-Var1 : {x : ℕ} → TypesName (x ∷ []) x Tree⁻

mutual
  pub data Types (gs : List Signature) : ℕ → ℕ → List ℕ → Expr → Ty → Type 0 where
    -- Γ, x : τ | ∅ ⊢ x : τ
    T-Var2 : {g n x : ℕ} → x < g → Types gs g n [] (var x) Int
    -- Γ | ∅ ⊢ i : Int
    T-Int : {g n i : ℕ} → Types gs g n [] (const i) Int
    -- T-App, for a function applied to its numbers, then to its tree
    T-App :
        {g n a b : ℕ} {Δ : List ℕ} {xs : Args} {τ : Ty} {s : Signature}
        → nth gs b ≡ some s
        → Applies gs g n Δ (function_type s) xs a τ
        → Types gs g n Δ (call a b xs) τ
    -- Γ | Δ₁ ⊢ M₁ : Int and Γ | Δ₂ ⊢ M₂ : Int give Γ | Δ₁, Δ₂ ⊢ M₁ + M₂ : Int
    T-Plus :
        {g n : ℕ} {Δ₁ Δ₂ : List ℕ} {op : Op} {p q : Expr}
        → Types gs g n Δ₁ p Int
        → Types gs g n Δ₂ q Int
        → Types gs g n (Δ₁ ++ Δ₂) (compute op p q) Int
    -- Γ | Δ ⊢ M : Int gives Γ | Δ ⊢ leaf M : Tree⁺
    T-Leaf : {g n : ℕ} {Δ : List ℕ} {p : Expr} → Types gs g n Δ p Int → Types gs g n Δ (leaf_of p) Tree⁺
    -- Γ | Δ₁ ⊢ M₁ : Tree⁺ and Γ | Δ₂ ⊢ M₂ : Tree⁺ give Γ | Δ₁, Δ₂ ⊢ node M₁ M₂ : Tree⁺
    T-Node :
        {g n : ℕ} {Δ₁ Δ₂ : List ℕ} {p q : Expr}
        → Types gs g n Δ₁ p Tree⁺
        → Types gs g n Δ₂ q Tree⁺
        → Types gs g n (Δ₁ ++ Δ₂) (node_of p q) Tree⁺
    -- Γ | Δ₁ ⊢ M : Tree⁻, Γ, x : Int | Δ₂ ⊢ M₁ : τ and Γ | x₁ : Tree⁻, x₂ : Tree⁻, Δ₂ ⊢ M₂ : τ give
    -- Γ | Δ₁, Δ₂ ⊢ case M of leaf x ⇒ M₁ | node x₁ x₂ ⇒ M₂ : τ
    T-Case :
        {g n a : ℕ} {Δ₁ Δ₂ : List ℕ} {p q : Expr} {τ : Ty}
        → TypesName Δ₁ a Tree⁻
        → Types gs (suc g) n Δ₂ p τ
        → Types gs g (suc (suc n)) (n ∷ (suc n ∷ Δ₂)) q τ
        → Types gs g n (Δ₁ ++ Δ₂) (case_of a p q) τ
    -- 01, Let and IfZero: "Let's number part comes first, then its body over the trees still
    -- pending (000's let, an applied abstraction, reaches none)."
    Let-01 :
        {g n : ℕ} {Δ₁ Δ₂ : List ℕ} {p body : Expr} {τ : Ty}
        → Types gs g n Δ₁ p Int
        → Types gs (suc g) n Δ₂ body τ
        → Types gs g n (Δ₁ ++ Δ₂) (let_in p body) τ
    -- 01, Let and IfZero: "IfZero takes its zero part on 0, else the other".
    IfZero-01 :
        {g n : ℕ} {Δ₁ Δ₂ : List ℕ} {t z o : Expr} {τ : Ty}
        → Types gs g n Δ₁ t Int
        → Types gs g n Δ₂ z τ
        → Types gs g n Δ₂ o τ
        → Types gs g n (Δ₁ ++ Δ₂) (if_zero t z o) τ

  -- A term of type σ, applied to the numbers xs and then to tree a, has type τ. Each step is T-App:
  -- Γ | Δ₁ ⊢ M₁ : τ₂ → τ₁ and Γ | Δ₂ ⊢ M₂ : τ₂ give Γ | Δ₁, Δ₂ ⊢ M₁ M₂ : τ₁. Δ is what the numbers
  -- and the tree use; a function's own name uses none.
  pub data Applies (gs : List Signature) : ℕ → ℕ → List ℕ → Ty → Args → ℕ → Ty → Type 0 where
    to_number :
        {g n a : ℕ} {Δ₁ Δ₂ : List ℕ} {x : Expr} {xs : Args} {σ τ : Ty}
        → Types gs g n Δ₁ x Int
        → Applies gs g n Δ₂ σ xs a τ
        → Applies gs g n (Δ₁ ++ Δ₂) (arrow Int σ) (arg x xs) a τ
    to_tree : {g n a : ℕ} {Δ : List ℕ} {τ : Ty} → TypesName Δ a Tree⁻ → Applies gs g n Δ (arrow Tree⁻ τ) no_args a τ

-- A function's body is typed under its own parameters: its numbers, and its one tree, name 0
-- (T-Abs2, T-Abs1).
abbrev pub TypedFunction : List Signature → Function → Type 0
TypedFunction gs f = Types gs f.parameters 1 (0 ∷ []) f.body (result_type f.sort)
