-- 000, Figure 3: the reductions of the source language, by substitution, with no environment and no
-- counter. The terms are those that Figure 6 types (rules, Printed.antt): "let x = M₁ in M₂" and
-- IfZero (01, Let and IfZero) stand beside the paper's own.
use Rattle.std.specs.Prelude.{ℕ, zero, suc, Bool, true, false, ◌≡◌, eqb}
use Rattle.std.proofs.Math.Option.{Option, none, some}
use Rattle.formats.specs.Arithmetic.{Op, result_of}
use Rattle.formats.specs.Tokens.{Tree, leaf as a_leaf, node as a_node}
use Rattle.formats.specs.Records.{nth}
use Rattle.formats.specs.Programs.{Function, Program}
use Rattle.rules.specs.Printed.{Name, number_name, tree_name, function_name, Term, int, lam, name, app, compute_term, fix, leaf_term, node_term, case, let_01, if_zero_01, function_term}
use Rattle.meaning.specs.Evaluation.{Value}

-- ---- values

-- 000, Figure 3: "V (tree values) ::= leaf i | node V₁ V₂".
pub data TreeValue : Term → Type 0 where
  leaf_value : {i : ℕ} → TreeValue (leaf_term (int i))
  node_value : {V₁ V₂ : Term} → TreeValue V₁ → TreeValue V₂ → TreeValue (node_term V₁ V₂)

-- 000, Figure 3: "W (values) ::= i | λx.M | V".
pub data IsValue : Term → Type 0 where
  an_integer : {i : ℕ} → IsValue (int i)
  an_abstraction : {x : Name} {M : Term} → IsValue (lam x M)
  a-tree : {V₁ : Term} → TreeValue V₁ → IsValue V₁

-- ---- substitution

-- What names are replaced by, all at once.
abbrev pub Substitution : Type 0
Substitution = Name → Option Term

unfoldable pub same_name : Name → Name → Bool
same_name (number_name j) (number_name k) = eqb j k
same_name (tree_name j) (tree_name k) = eqb j k
same_name (function_name j) (function_name k) = eqb j k
same_name (number_name j) (tree_name k) = false
same_name (number_name j) (function_name k) = false
same_name (tree_name j) (number_name k) = false
same_name (tree_name j) (function_name k) = false
same_name (function_name j) (number_name k) = false
same_name (function_name j) (tree_name k) = false

-- W/x
unfoldable pub only : Name → Term → Substitution
only x W z = elim (same_name x z) [ true ↦ some W | false ↦ none ]

-- V₁/x₁, V₂/x₂
unfoldable pub both : Name → Term → Name → Term → Substitution
both x₁ V₁ x₂ V₂ z = elim (same_name x₁ z) [ true ↦ some V₁ | false ↦ only x₂ V₂ z ]

-- Under a binder of x, no x is replaced.
unfoldable pub without : Name → Substitution → Substitution
without x σ z = elim (same_name x z) [ true ↦ none | false ↦ σ z ]

-- What a name becomes: what it is replaced by, or itself.
unfoldable pub replaced : Name → Option Term → Term
replaced x none = name x
replaced x (some W) = W

-- [σ]M. No bound name is renamed: what a program's reductions put in for a name has no free name
-- that could be bound there (numbers and trees have none, a fix has functions' names alone).
unfoldable pub substitute : Substitution → Term → Term
substitute σ (int i) = int i
substitute σ (lam x M) = lam x (substitute (without x σ) M)
substitute σ (name x) = replaced x (σ x)
substitute σ (app M₁ M₂) = app (substitute σ M₁) (substitute σ M₂)
substitute σ (compute_term op M₁ M₂) = compute_term op (substitute σ M₁) (substitute σ M₂)
substitute σ (fix f M) = fix f (substitute (without f σ) M)
substitute σ (leaf_term M) = leaf_term (substitute σ M)
substitute σ (node_term M₁ M₂) = node_term (substitute σ M₁) (substitute σ M₂)
substitute σ (case M x M₁ x₁ x₂ M₂) =
    case (substitute σ M) x (substitute (without x σ) M₁) x₁ x₂ (substitute (without x₁ (without x₂ σ)) M₂)
substitute σ (let_01 x M₁ M₂) = let_01 x (substitute σ M₁) (substitute (without x σ) M₂)
substitute σ (if_zero_01 M M₁ M₂) = if_zero_01 (substitute σ M) (substitute σ M₁) (substitute σ M₂)

-- ---- functions that call each other

-- fix f.M, for function b.
unfoldable pub fix_of : ℕ → Function → Term
fix_of b f = fix (function_name b) (function_term f)

-- Each function's name is replaced by its own fix.
unfoldable pub fixes : Program → Substitution
fixes program (number_name k) = none
fixes program (tree_name k) = none
fixes program (function_name b) = elim (nth program.functions b) [ none ↦ none | some f ↦ some (fix_of b f) ]

-- fix f.M/f. The fix of 000, Figure 3 binds one function; where functions call each other, their
-- names are bound all at once, and each is replaced by its own fix.
unfoldable pub fixing : Program → Name → Term → Substitution
fixing program f M z = elim (same_name f z) [ true ↦ some (fix f M) | false ↦ fixes program z ]

-- ---- reductions

-- The term in the hole of a context, and what it becomes.
pub data Redex (program : Program) : Term → Term → Type 0 where
  -- i₁ + i₂ ⟶ plus(i₁, i₂); N3: where it is in range
  Es-Plus : {op : Op} {i₁ i₂ i : ℕ} → result_of op i₁ i₂ ≡ some i → Redex program (compute_term op (int i₁) (int i₂)) (int i)
  -- (λx.M) W ⟶ [W/x]M
  Es-App : {x : Name} {M W : Term} → IsValue W → Redex program (app (lam x M) W) (substitute (only x W) M)
  -- 000, section 2.1: "We write let x = M₁ in M₂ for (λx.M₂) M₁."
  Es-App-let : {x : Name} {M W N : Term} → Redex program (app (lam x M) W) N → Redex program (let_01 x W M) N
  -- fix f.M ⟶ [fix f.M/f]M
  Es-Fix : {f : Name} {M : Term} → Redex program (fix f M) (substitute (fixing program f M) M)
  -- case leaf i of leaf x ⇒ M₁ | node x₁ x₂ ⇒ M₂ ⟶ [i/x]M₁
  Es-Case1 : {i : ℕ} {x x₁ x₂ : Name} {M₁ M₂ : Term} → Redex program (case (leaf_term (int i)) x M₁ x₁ x₂ M₂) (substitute (only x (int i)) M₁)
  -- case node V₁ V₂ of leaf x ⇒ M₁ | node x₁ x₂ ⇒ M₂ ⟶ [V₁/x₁, V₂/x₂]M₂
  Es-Case2 :
      {V₁ V₂ : Term} {x x₁ x₂ : Name} {M₁ M₂ : Term}
      → TreeValue V₁
      → TreeValue V₂
      → Redex program (case (node_term V₁ V₂) x M₁ x₁ x₂ M₂) (substitute (both x₁ V₁ x₂ V₂) M₂)
  -- 01, Let and IfZero: "IfZero takes its zero part on 0, else the other, like document 003's
  -- `if`."
  IfZero-zero : {M₁ M₂ : Term} → Redex program (if_zero_01 (int zero) M₁ M₂) M₁
  IfZero-other : {i : ℕ} {M₁ M₂ : Term} → Redex program (if_zero_01 (int (suc i)) M₁ M₂) M₂

-- 000, Figure 3: E_s, the evaluation contexts, in its order; then that of let, which is (λx.M) E_s,
-- and that of IfZero (01, Let and IfZero).
pub data Context : Type 0 where
  -- []
  hole : Context
  -- E_s M
  app_left : Context → Term → Context
  -- (λx.M) E_s
  app_right : Name → Term → Context → Context
  -- E_s + M
  plus_left : Op → Context → Term → Context
  -- i + E_s
  plus_right : Op → ℕ → Context → Context
  -- leaf E_s
  in_leaf : Context → Context
  -- node E_s M
  node_left : Context → Term → Context
  -- node V E_s
  node_right : {V₁ : Term} → TreeValue V₁ → Context → Context
  -- case E_s of leaf x ⇒ M₁ | node x₁ x₂ ⇒ M₂
  in_case : Context → Name → Term → Name → Name → Term → Context
  -- let x = E_s in M
  in_let : Name → Context → Term → Context
  -- the test of IfZero
  in_test : Context → Term → Term → Context

-- E_s[M]
unfoldable pub plug : Context → Term → Term
plug hole M = M
plug (app_left E N) M = app (plug E M) N
plug (app_right x N E) M = app (lam x N) (plug E M)
plug (plus_left op E N) M = compute_term op (plug E M) N
plug (plus_right op i E) M = compute_term op (int i) (plug E M)
plug (in_leaf E) M = leaf_term (plug E M)
plug (node_left E N) M = node_term (plug E M) N
plug (node_right {V₁ = V₁} v E) M = node_term V₁ (plug E M)
plug (in_case E x M₁ x₁ x₂ M₂) M = case (plug E M) x M₁ x₁ x₂ M₂
plug (in_let x E N) M = let_01 x (plug E M) N
plug (in_test E M₁ M₂) M = if_zero_01 (plug E M) M₁ M₂

-- M ⟶ N
pub data Reduces (program : Program) : Term → Term → Type 0 where
  in_context : {M N : Term} (E : Context) → Redex program M N → Reduces program (plug E M) (plug E N)

-- N3: "Such an evaluation has no result". The term is stuck: in the hole stands an operation on two
-- numbers, and its exact result is out of range.
pub data StuckAt (op : Op) (i j : ℕ) : Term → Type 0 where
  at_sum : (E : Context) → result_of op i j ≡ none → StuckAt op i j (plug E (compute_term op (int i) (int j)))

-- This many reductions lead from the first term to the second.
pub data Leads (program : Program) : ℕ → Term → Term → Type 0 where
  none_made : {M : Term} → Leads program 0 M M
  one_made : {k : ℕ} {L M N : Term} → Reduces program L M → Leads program k M N → Leads program (suc k) L N

-- ---- programs and values as terms

-- A tree as a term, and a value.
unfoldable pub tree_term : Tree → Term
tree_term (a_leaf x) = leaf_term (int x)
tree_term (a_node l r) = node_term (tree_term l) (tree_term r)

unfoldable pub value_term : Value → Term
value_term (Value.number i) = int i
value_term (Value.tree t) = tree_term t

-- The program applied to the tree: its function 0, a fixed point, on the tree's term.
unfoldable pub program_on : Function → Tree → Term
program_on first t = app (fix_of 0 first) (tree_term t)
