-- 000, Figure 19, for the programs of 01, Program file: the rules for type checking, under their
-- names, with the environment that is left over.
--
-- A judgement Γ | Δ ⊢ M : τ ↗ Δ' is `Checks gs g n r Δ e τ Δ'`: Γ and n are those of Typing, e's
-- own record is record r. A derivation is data; `lines` lists its lines.
use Rattle.std.specs.Prelude.{ℕ, suc, ◌+◌, ◌≤◌, ◌<◌, List, [], ◌∷◌, ◌++◌, ◌≡◌, length}
use Rattle.std.proofs.Math.Option.{some}
use Rattle.formats.specs.Arithmetic.{Op}
use Rattle.formats.specs.Records.{Kind, Const, Var, Compute, IfZero, Let, Leaf, Node, Case, Call, nth}
use Rattle.formats.specs.Programs.{Expr, const, var, compute, if_zero, let_in, leaf_of, node_of, case_of, call, Args, no_args, arg, size, Every, Signature}
use Rattle.rules.specs.Types.{Ty, Int, Tree⁻, Tree⁺, arrow, function_type}
use Rattle.rules.specs.Limits.{most_pending}

-- The judgement for the tree name of a Case or a Call.
pub data ChecksName : List ℕ → ℕ → Ty → List ℕ → Type 0 where
  -- Γ | x : Tree⁻, Δ ⊢ x : Tree⁻ ↗ Δ
  T-Var1 : {x : ℕ} {Δ : List ℕ} → ChecksName (x ∷ Δ) x Tree⁻ Δ

mutual
  pub data Checks (gs : List Signature) : ℕ → ℕ → ℕ → List ℕ → Expr → Ty → List ℕ → Type 0 where
    -- Γ, x : τ | Δ ⊢ x : τ ↗ Δ
    T-Var2 : {g n r x : ℕ} {Δ : List ℕ} → x < g → Checks gs g n r Δ (var x) Int Δ
    -- Γ | Δ ⊢ i : Int ↗ Δ
    T-Int : {g n r i : ℕ} {Δ : List ℕ} → Checks gs g n r Δ (const i) Int Δ
    -- T-App, for a function applied to its numbers, then to its tree
    T-App :
        {g n r a b : ℕ} {Δ Δ' : List ℕ} {xs : Args} {τ : Ty} {s : Signature}
        → nth gs b ≡ some s
        → ChecksApplied gs g n (suc r) Δ (function_type s) xs a τ Δ'
        → Checks gs g n r Δ (call a b xs) τ Δ'
    -- Γ | Δ ⊢ M₁ : Int ↗ Δ' and Γ | Δ' ⊢ M₂ : Int ↗ Δ'' give Γ | Δ ⊢ M₁ + M₂ : Int ↗ Δ''
    T-Plus :
        {g n r : ℕ} {Δ Δ' Δ'' : List ℕ} {op : Op} {p q : Expr}
        → Checks gs g n (suc r) Δ p Int Δ'
        → Checks gs g n (suc r + size p) Δ' q Int Δ''
        → Checks gs g n r Δ (compute op p q) Int Δ''
    -- Γ | Δ ⊢ M : Int ↗ Δ' gives Γ | Δ ⊢ leaf M : Tree⁺ ↗ Δ'
    T-Leaf : {g n r : ℕ} {Δ Δ' : List ℕ} {p : Expr} → Checks gs g n (suc r) Δ p Int Δ' → Checks gs g n r Δ (leaf_of p) Tree⁺ Δ'
    -- Γ | Δ ⊢ M₁ : Tree⁺ ↗ Δ' and Γ | Δ' ⊢ M₂ : Tree⁺ ↗ Δ'' give Γ | Δ ⊢ node M₁ M₂ : Tree⁺ ↗ Δ''
    T-Node :
        {g n r : ℕ} {Δ Δ' Δ'' : List ℕ} {p q : Expr}
        → Checks gs g n (suc r) Δ p Tree⁺ Δ'
        → Checks gs g n (suc r + size p) Δ' q Tree⁺ Δ''
        → Checks gs g n r Δ (node_of p q) Tree⁺ Δ''
    -- Γ | Δ ⊢ M : Tree⁻ ↗ Δ', Γ, x : Int | Δ' ⊢ M₁ : τ ↗ Δ'' and Γ | x₁ : Tree⁻, x₂ : Tree⁻, Δ' ⊢
    -- M₂ : τ ↗ Δ'' give Γ | Δ ⊢ case M of leaf x ⇒ M₁ | node x₁ x₂ ⇒ M₂ : τ ↗ Δ''
    T-Case :
        {g n r a : ℕ} {Δ Δ' Δ'' : List ℕ} {p q : Expr} {τ : Ty}
        → ChecksName Δ a Tree⁻ Δ'
        → Checks gs (suc g) n (suc r) Δ' p τ Δ''
        → Checks gs g (suc (suc n)) (suc r + size p) (n ∷ (suc n ∷ Δ')) q τ Δ''
        → Checks gs g n r Δ (case_of a p q) τ Δ''
    -- 01, Let and IfZero: "Let's number part comes first, then its body over the trees still
    -- pending".
    Let-01 :
        {g n r : ℕ} {Δ Δ' Δ'' : List ℕ} {p body : Expr} {τ : Ty}
        → Checks gs g n (suc r) Δ p Int Δ'
        → Checks gs (suc g) n (suc r + size p) Δ' body τ Δ''
        → Checks gs g n r Δ (let_in p body) τ Δ''
    -- 01, Let and IfZero: IfZero's parts both begin with what its test left.
    IfZero-01 :
        {g n r : ℕ} {Δ Δ' Δ'' : List ℕ} {t z o : Expr} {τ : Ty}
        → Checks gs g n (suc r) Δ t Int Δ'
        → Checks gs g n (suc r + size t) Δ' z τ Δ''
        → Checks gs g n (suc r + size t + size z) Δ' o τ Δ''
        → Checks gs g n r Δ (if_zero t z o) τ Δ''

  -- A term of type σ, applied to the numbers xs, the first at record r, and then to tree a. Each
  -- step is T-App: Γ | Δ ⊢ M₁ : τ₁ → τ₂ ↗ Δ' and Γ | Δ' ⊢ M₂ : τ₁ ↗ Δ'' give Γ | Δ ⊢ M₁ M₂ : τ₂ ↗
  -- Δ''.
  pub data ChecksApplied (gs : List Signature) : ℕ → ℕ → ℕ → List ℕ → Ty → Args → ℕ → Ty → List ℕ → Type 0 where
    to_number :
        {g n r a : ℕ} {Δ Δ' Δ'' : List ℕ} {x : Expr} {xs : Args} {σ τ : Ty}
        → Checks gs g n r Δ x Int Δ'
        → ChecksApplied gs g n (r + size x) Δ' σ xs a τ Δ''
        → ChecksApplied gs g n r Δ (arrow Int σ) (arg x xs) a τ Δ''
    to_tree :
        {g n r a : ℕ} {Δ Δ' : List ℕ} {τ : Ty}
        → ChecksName Δ a Tree⁻ Δ'
        → ChecksApplied gs g n r Δ (arrow Tree⁻ τ) no_args a τ Δ'

-- ---- a derivation's lines

-- A record's number and kind, the pending trees before it and those after it.
pub data Line : Type 0 where
  line : (at_record : ℕ) (kind : Kind) (before after : List ℕ) → Line

-- A line for each record of an expression: those of its parts in order, then its own.
unfoldable mutual
  pub lines : {gs : List Signature} {g n r : ℕ} {Δ Δ' : List ℕ} {e : Expr} {τ : Ty} → Checks gs g n r Δ e τ Δ' → List Line
  lines (T-Var2 {r = r} {x = x} {Δ = Δ} bound) = line r (Var x) Δ Δ ∷ []
  lines (T-Int {r = r} {i = i} {Δ = Δ}) = line r (Const i) Δ Δ ∷ []
  lines (T-App {r = r} {a = a} {b = b} {Δ = Δ} {Δ' = Δ'} known applied) = lines_applied applied ++ (line r (Call a b) Δ Δ' ∷ [])
  lines (T-Plus {r = r} {Δ = Δ} {Δ'' = Δ''} {op = op} d₁ d₂) = lines d₁ ++ (lines d₂ ++ (line r (Compute op) Δ Δ'' ∷ []))
  lines (T-Leaf {r = r} {Δ = Δ} {Δ' = Δ'} d) = lines d ++ (line r Leaf Δ Δ' ∷ [])
  lines (T-Node {r = r} {Δ = Δ} {Δ'' = Δ''} d₁ d₂) = lines d₁ ++ (lines d₂ ++ (line r Node Δ Δ'' ∷ []))
  lines (T-Case {r = r} {a = a} {Δ = Δ} {Δ'' = Δ''} name d₁ d₂) = lines d₁ ++ (lines d₂ ++ (line r (Case a) Δ Δ'' ∷ []))
  lines (Let-01 {r = r} {Δ = Δ} {Δ'' = Δ''} d₁ d₂) = lines d₁ ++ (lines d₂ ++ (line r Let Δ Δ'' ∷ []))
  lines (IfZero-01 {r = r} {Δ = Δ} {Δ'' = Δ''} d₀ d₁ d₂) = lines d₀ ++ (lines d₁ ++ (lines d₂ ++ (line r IfZero Δ Δ'' ∷ [])))

  pub lines_applied :
      {gs : List Signature} {g n r a : ℕ} {Δ Δ' : List ℕ} {σ : Ty} {xs : Args} {τ : Ty}
      → ChecksApplied gs g n r Δ σ xs a τ Δ'
      → List Line
  lines_applied (to_number d rest) = lines d ++ lines_applied rest
  lines_applied (to_tree name) = []

-- ---- the limit of 16 pending

-- At a Case fewer than 16 are pending, the head included.
abbrev pub FewAtCase : Line → Type 0
FewAtCase (line r (Case a) before after) = length before < most_pending
FewAtCase (line r (Const i) before after) = Unit {0}
FewAtCase (line r (Var x) before after) = Unit {0}
FewAtCase (line r (Compute op) before after) = Unit {0}
FewAtCase (line r IfZero before after) = Unit {0}
FewAtCase (line r Let before after) = Unit {0}
FewAtCase (line r Leaf before after) = Unit {0}
FewAtCase (line r Node before after) = Unit {0}
FewAtCase (line r (Call a b) before after) = Unit {0}

-- Neither list is longer than 16.
abbrev pub NoLonger : Line → Type 0
NoLonger (line r kind before after) = (length before ≤ most_pending) × (length after ≤ most_pending)

-- Expression e at record r goes from list Δ to list Δ' by Figure 19, within the limit.
pub record InOrder (gs : List Signature) (g n r : ℕ) (Δ : List ℕ) (e : Expr) (τ : Ty) (Δ' : List ℕ) : Type 0 where
  pub derivation : Checks gs g n r Δ e τ Δ'
  pub few : Every FewAtCase (lines derivation)
