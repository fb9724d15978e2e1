-- Worked cases of the typing rules: 000, Figure 7, and why Figure 2 has no derivation.
use Prim.Native.Nat.{ℕ}
use mathlib.Core.List.{List, [], ◌∷◌, ◌++◌}
use mathlib.Core.Path.{◌≡◌, refl, ap, ap₂}
use native.Mathlib.Omega.{arith}
use lib.Dec.{lit<}
use lib.ListN.{get_or}
use Rattle.formats.specs.Records.{nth}
use Rattle.formats.specs.Programs.{Expr, const, var, leaf_of, node_of, case_of, call, no_args, tree_valued, Signature, Function}
use Rattle.formats.specs.Inner.Expressions.{add}
use Rattle.rules.specs.Types.{Ty, Tree⁻, Tree⁺, arrow, result_type, arrows, function_type}
use Rattle.rules.specs.Typing.{TypesName, Types, Applies, to_tree, TypedFunction}
use Rattle.rules.specs.Printed.{tree_name, function_name, fix, here, Judges, term_of, lams, function_term}
use Rattle.rules.proofs.Printed.{trees_differ}

-- 000, Figure 1, and Grow of 01, Worked programs: case t of leaf x ⇒ leaf (x + 1) | node x₁ x₂ ⇒
-- node (f x₁) (f x₂)
grow_function : Function
grow_function = record {
  sort = tree_valued;
  parameters = 0;
  body = case_of 0 (leaf_of (add (var 0) (const 1))) (node_of (call 1 0 no_args) (call 2 0 no_args));
}

grow_signatures : List Signature
grow_signatures = record { sort = tree_valued; parameters = 0; count = 8 } ∷ []

-- Figure 7 above its last two lines, T-Abs1 and T-Fix
figure_7 : TypedFunction grow_signatures grow_function
unfolding grow_function grow_signatures nth result_type arrows function_type
figure_7 =
    Types.T-Case {Δ₂ = []}
    TypesName.T-Var1
    (Types.T-Leaf (Types.T-Plus {Δ₁ = []} (Types.T-Var2 (lit< tt)) Types.T-Int))
    (Types.T-Node {Δ₁ = 1 ∷ []}
    (Types.T-App refl (to_tree TypesName.T-Var1))
    (Types.T-App refl (to_tree TypesName.T-Var1)))

-- the whole figure in printed form
figure_7_printed : Judges [] [] (fix (function_name 0) (function_term grow_function)) (arrow Tree⁻ Tree⁺)
unfolding grow_function function_term lams term_of
figure_7_printed =
    Judges.T-Fix (Judges.T-Abs1 (Judges.T-Case {Δ₁ = tree_name 0 ∷ []} {Δ₂ = []} ((trees_differ {a = 1} {b = 2} (omega arith), tt), (tt, tt))
    Judges.T-Var1
    (Judges.T-Leaf (Judges.T-Plus {Δ₁ = []} (Judges.T-Var2 here) Judges.T-Int))
    (Judges.T-Node {Δ₁ = tree_name 1 ∷ []}
    (Judges.T-App {Δ₁ = []} (Judges.T-Var2 here) Judges.T-Var1)
    (Judges.T-App {Δ₁ = []} (Judges.T-Var2 here) Judges.T-Var1))))

-- 000, Figure 2: case t of leaf x ⇒ leaf x | node x₁ x₂ ⇒ node (f x₂) (f x₁)
swap_function : Function
swap_function = record { sort = tree_valued; parameters = 0; body = case_of 0 (leaf_of (var 0)) (node_of (call 2 0 no_args) (call 1 0 no_args)) }

-- a call with no numbers uses its tree, and a node of two uses one after the other
one_tree : {gs : List Signature} {g n a : ℕ} {Δ : List ℕ} {σ τ : Ty} → Applies gs g n Δ σ no_args a τ → Δ ≡ a ∷ []
one_tree (to_tree TypesName.T-Var1) = refl

one_call : {gs : List Signature} {g n a b : ℕ} {Δ : List ℕ} {τ : Ty} → Types gs g n Δ (call a b no_args) τ → Δ ≡ a ∷ []
one_call (Types.T-App e d) = one_tree d

two_calls : {gs : List Signature} {g n a b c d : ℕ} {Δ : List ℕ} {τ : Ty} → Types gs g n Δ (node_of (call a b no_args) (call c d no_args)) τ
    → Δ ≡ a ∷ c ∷ []
two_calls (Types.T-Node d e) = ap₂ (λ (l r : List ℕ). l ++ r) (one_call d) (one_call e)

-- so the node part is typed with x₂, x₁ alone, where T-Case has x₁, x₂
no_swap : {gs : List Signature} {g : ℕ} {Δ : List ℕ} {p : Expr} {τ : Ty}
    → Types gs g 1 Δ (case_of 0 p (node_of (call 2 0 no_args) (call 1 0 no_args))) τ → ⊥
no_swap (Types.T-Case x d e) = let same : ◌≡◌ {A = ℕ} 1 2 = ap (λ l. get_or l 0 0) (two_calls e) in absurd (omega arith)

-- whatever functions there are
figure_2 : (gs : List Signature) → TypedFunction gs swap_function → ⊥
unfolding swap_function
figure_2 gs d = no_swap d
