-- What the typing rules admit within the limit of 16 words passes pass one.
use Prim.Native.Nat.{ℕ, zero, suc, ◌+◌, ◌≤◌, ◌<◌, max}
use mathlib.Core.Bool.{Bool, true, false, false≢true}
use mathlib.Core.List.{List, [], ◌∷◌}
use mathlib.Core.Option.{Option, none, some}
use mathlib.Core.Path.{◌≡◌, refl}
use native.Mathlib.Nat.{add-zero, add-suc}
use native.Mathlib.Omega.{arith}
use lib.Dec.{ltb}
use borrow.Author.Tests.{lt-ltb}
use Rattle.formats.specs.Results.{done}
use Rattle.formats.specs.Records.{Const, Var, Compute, IfZero, Let, Leaf, Node, Case, Call, nth}
use Rattle.formats.specs.Programs.{Expr, const, var, compute, if_zero, let_in, leaf_of, node_of, case_of, call, Args, Every, Sort, number_valued, tree_valued, Signature}
use Rattle.formats.proofs.Programs.{every_left, every_right}
use Rattle.rules.specs.Types.{Ty, Int, Tree⁺, result_type, arrows, function_type, is_int, is_output_tree, has_type}
use Rattle.rules.specs.Typing.{TypesName, T-Var1, Types, T-Var2, T-Int, T-App, T-Plus, T-Leaf, T-Node, T-Case, Let-01, IfZero-01, Applies, to_number, to_tree}
use Rattle.rules.specs.Scopes.{scope, inside, entered}
use Rattle.rules.specs.PassOne.{name_bound, type_fits, bare_number, words_tested, has_room, pass_over, words_with_value, words_of, words_of_args}
use Rattle.rules.specs.Limits.{most_frame_words}
use Rattle.rules.proofs.Words.{words_call}
use Rattle.rules.proofs.PassOne.{Passes, PassesArgs, pass_nothing, pass_more, pass_both}

-- an application's value has the type that the function's has
pub applied_type : {gs : List Signature} {g n a : ℕ} {Δ : List ℕ} {σ τ : Ty} {xs : Args} → Applies gs g n Δ σ xs a τ → (k : ℕ) (ρ : Ty)
    → σ ≡ arrows k ρ
    → τ ≡ ρ
unfolding arrows
applied_type (to_number d rest) zero ρ e = cc
applied_type (to_number d rest) (suc k) ρ e = applied_type rest k ρ (cc)
applied_type (to_tree name) zero ρ e = cc
applied_type (to_tree name) (suc k) ρ e = cc

-- no fewer words stand than on entering
no_fewer : (gs : List Signature) (w : ℕ) (e : Expr) → w ≤ words_of gs w e
unfolding words_of words_with_value
no_fewer gs w (const i) = omega arith
no_fewer gs w (var a) = omega arith
no_fewer gs w (compute op p q) = let h = no_fewer gs w p in omega arith
no_fewer gs w (if_zero t z o) = let h = no_fewer gs w t in omega arith
no_fewer gs w (let_in p body) = let h = no_fewer gs w p in omega arith
no_fewer gs w (leaf_of p) = no_fewer gs w p
no_fewer gs w (node_of p q) = let h = no_fewer gs w p in omega arith
no_fewer gs w (case_of a p q) = let h = no_fewer gs w q in omega arith
no_fewer gs w (call a b xs) = of_call (nth gs b)
  where
    value : (sort : Sort) → w ≤ words_with_value sort w
    value number_valued = omega arith
    value tree_valued = omega arith

    of_call : (o : Option Signature) → w ≤ elim o [ none ↦ w | some s ↦ max (words_with_value s.sort w) (words_of_args gs w xs) ]
    of_call none = omega arith
    of_call (some s) = let h = value s.sort in omega arith

-- the names of a list are bound
abbrev pub Bound : ℕ → List ℕ → Type 0
Bound n Δ = Every (λ a. a < n) Δ

pub bound_more : (n : ℕ) (Δ : List ℕ) → Bound n Δ → Bound (suc (suc n)) Δ
bound_more n [] h = tt
bound_more n (a ∷ Δ) h = (omega (arith, h.0), bound_more n Δ h.1)

-- the name that a Case or a Call has is bound
pub name-bound : {n a : ℕ} {Δ : List ℕ} {σ : Ty} → TypesName Δ a σ → Bound n Δ → a < n
name-bound T-Var1 h = h.0

-- the value of a number-valued function with no arguments is a number
bare_value : (s : Signature) → bare_number s ≡ true → s.sort ≡ number_valued
unfolding bare_number
bare_value s e = of_sort s.sort refl
  where
    of_sort : (sort : Sort) → s.sort ≡ sort → s.sort ≡ number_valued
    of_sort number_valued f = f
    of_sort tree_valued f = absurd (false≢true (rw (f, bare_number) at e))

-- a function's value has its type
pub value_fits : (sort : Sort) → has_type sort (result_type sort) ≡ true
unfolding has_type result_type is_int is_output_tree
value_fits number_valued = refl
value_fits tree_valued = refl

-- a Call of a known function passes where its value's type is expected
call_passes : (gs : List Signature) (g n w r a b : ℕ) (xs : Args) (s : Signature)
    → nth gs b ≡ some s
    → a < n
    → words_with_value s.sort w ≤ most_frame_words
    → PassesArgs gs (Call a b) 0 (scope g n w (result_type s.sort)) (suc r) xs
    → Passes gs (scope g n w (result_type s.sort)) r (call a b xs)
unfolding entered name_bound type_fits words_tested has_room words_with_value
call_passes gs g n w r a b xs s known bound few args =
    pass_more gs (scope g n w (result_type s.sort)) r (Call a b) _
    (lt-ltb a n bound)
    (rw (known, type_fits) (value_fits s.sort))
    (rw (known, words_tested, has_room) (room (bare_number s) refl))
    args
  where
    room : (t : Bool) → bare_number s ≡ t → elim t [ true ↦ ltb w most_frame_words | false ↦ true ] ≡ true
    room true e = lt-ltb w most_frame_words (rw (bare_value s e) at few)
    room false e = refl

module _ (gs : List Signature) where
  -- what is to be shown of a derivation
  abbrev Fine : (g n : ℕ) (Δ : List ℕ) (e : Expr) (τ : Ty) → Type 0
  Fine g n Δ e τ = (w r : ℕ) → Bound n Δ → words_of gs w e ≤ most_frame_words → Passes gs (scope g n w τ) r e

  abbrev FineArgs : (g n : ℕ) (Δ : List ℕ) (xs : Args) (a : ℕ) → Type 0
  FineArgs g n Δ xs a =
      (b i w r : ℕ) (τ : Ty) → Bound n Δ → words_of_args gs (w + i) xs ≤ most_frame_words → (a < n) × PassesArgs gs (Call a b) i (scope g n w τ) r xs

  fine : {g n : ℕ} {Δ : List ℕ} {e : Expr} {τ : Ty} → Types gs g n Δ e τ → Fine g n Δ e τ
  unfolding entered inside name_bound type_fits words_tested has_room words_of is_int is_output_tree function_type
  fine t = elim t as (λ g n Δ e τ t. Fine g n Δ e τ) (λ g n Δ σ xs a τ t. FineArgs g n Δ xs a) [
    | T-Var2 {g = g} {n = n} {x = x} x<g ↦ λ w r below few.
        pass_more gs (scope g n w Int) r (Var x) [] (lt-ltb x g x<g) refl (lt-ltb w most_frame_words few) (pass_nothing gs)
    | T-Int {g = g} {n = n} {i = i} ↦ λ w r below few.
        pass_more gs (scope g n w Int) r (Const i) [] refl refl (lt-ltb w most_frame_words few) (pass_nothing gs)
    | T-App {g = g} {n = n} {a = a} {b = b} {xs = xs} {τ = τ} {s = s} known (applied → h) ↦ λ w r below few.
        let few_here : max (words_with_value s.sort w) (words_of_args gs w xs) ≤ most_frame_words = rw (words_call gs w a b xs s known) at few in
        let args = h b 0 w (suc r) τ below (rw add-zero (omega arith)) in
        let same : τ ≡ result_type s.sort = applied_type applied s.parameters _ refl in
        rw same (call_passes gs g n w r a b xs s known args.0 (omega arith) (rw same at args.1))
    | T-Plus {g = g} {n = n} {Δ₁ = Δ₁} {Δ₂ = Δ₂} (d₁ → h₁) (d₂ → h₂) ↦ λ w r below few.
        pass_more gs (scope g n w Int) r (Compute _) _ refl refl refl
        (pass_both gs _ _ (h₁ w (suc r) (every_left _ Δ₁ Δ₂ below) (omega arith)) (h₂ (suc w) _ (every_right _ Δ₁ Δ₂ below) (omega arith)))
    | T-Leaf {g = g} {n = n} (d → h) ↦ λ w r below few. pass_more gs (scope g n w Tree⁺) r Leaf _ refl refl refl (h w (suc r) below few)
    | T-Node {g = g} {n = n} {Δ₁ = Δ₁} {Δ₂ = Δ₂} (d₁ → h₁) (d₂ → h₂) ↦ λ w r below few.
        pass_more gs (scope g n w Tree⁺) r Node _ refl refl refl
        (pass_both gs _ _ (h₁ w (suc r) (every_left _ Δ₁ Δ₂ below) (omega arith)) (h₂ w _ (every_right _ Δ₁ Δ₂ below) (omega arith)))
    | T-Case {g = g} {n = n} {a = a} {Δ₁ = Δ₁} {Δ₂ = Δ₂} {p = p} {τ = τ} name (d₁ → h₁) (d₂ → h₂) ↦ λ w r below few.
        let rest = every_right _ Δ₁ Δ₂ below in
        pass_more gs (scope g n w τ) r (Case a) _
        (lt-ltb a n (name-bound name (every_left _ Δ₁ Δ₂ below)))
        refl
        (lt-ltb w most_frame_words (omega (arith, no_fewer gs (suc w) p)))
        (pass_both gs _ _ (h₁ (suc w) (suc r) rest (omega arith)) (h₂ w _ (omega arith, (omega arith, bound_more n Δ₂ rest)) (omega arith)))
    | Let-01 {g = g} {n = n} {Δ₁ = Δ₁} {Δ₂ = Δ₂} {τ = τ} (d₁ → h₁) (d₂ → h₂) ↦ λ w r below few.
        pass_more gs (scope g n w τ) r Let _ refl refl refl
        (pass_both gs _ _ (h₁ w (suc r) (every_left _ Δ₁ Δ₂ below) (omega arith)) (h₂ (suc w) _ (every_right _ Δ₁ Δ₂ below) (omega arith)))
    | IfZero-01 {g = g} {n = n} {Δ₁ = Δ₁} {Δ₂ = Δ₂} {τ = τ} (d₀ → h₀) (d₁ → h₁) (d₂ → h₂) ↦ λ w r below few.
        let rest = every_right _ Δ₁ Δ₂ below in
        pass_more gs (scope g n w τ) r IfZero _ refl refl refl
        (pass_both gs _ _ (h₀ w (suc r) (every_left _ Δ₁ Δ₂ below) (omega arith)) (pass_both gs _ _ (h₁ w _ rest (omega arith)) (h₂ w _ rest (omega arith))))
    | to_number {Δ₁ = Δ₁} {Δ₂ = Δ₂} (d → h) (rest → k) ↦ λ b i w r τ below few.
        let after = k b (suc i) w _ τ (every_right _ Δ₁ Δ₂ below) (rw add-suc (omega arith)) in
        (after.0, pass_both gs _ _ (h (w + i) r (every_left _ Δ₁ Δ₂ below) (omega arith)) after.1)
    | to_tree name ↦ λ b i w r τ below few. (name-bound name below, pass_nothing gs)
  ]

pub passes_one :
    (gs : List Signature) (g n w r : ℕ) (Δ : List ℕ) (τ : Ty) (e : Expr)
    → Types gs g n Δ e τ
    → Every (λ a. a < n) Δ
    → words_of gs w e ≤ most_frame_words
    → pass_over gs (entered (scope g n w τ) r e) ≡ done tt
passes_one gs g n w r Δ τ e t = fine gs t w r
