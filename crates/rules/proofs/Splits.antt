-- Laws of derivations by Figure 19: they are those by Figure 6 on what is used, both forms of the
-- limit of 16 agree, and their lines are determined.
use Prim.Native.Nat.{ℕ, suc, ◌≤◌, ◌<◌}
use mathlib.Core.List.{List, [], ◌∷◌, ◌++◌, append_assoc, append_cancel_right, tail-eq_of_cons-eq}
use mathlib.Core.Logic.{◌↔◌}
use mathlib.Core.Path.{◌≡◌, refl, sym, ap, subst, ◌∙◌}
use native.Mathlib.Omega.{arith}
use lib.ListN.{length, length-append}
use Rattle.formats.specs.Programs.{Expr, Args, Every, Signature}
use Rattle.formats.proofs.Programs.{every_append, every_left, every_right}
use Rattle.rules.specs.Types.{Ty}
use Rattle.rules.specs.Typing.{TypesName, Types, Applies}
use Rattle.rules.specs.Leftover.{ChecksName, Checks, T-Var1, T-Var2, T-Int, T-App, T-Plus, T-Leaf, T-Node, T-Case, Let-01, IfZero-01}
use Rattle.rules.specs.Leftover.{ChecksApplied, to_number, to_tree, Line, lines, lines_applied, FewAtCase, NoLonger}
use Rattle.rules.specs.Limits.{most_pending}
use Rattle.rules.specs.OrderChecker.{Split}

-- ---- from Figure 19 to Figure 6

-- Δ splits as what is used, Δ', and P holds of what is used
record Uses (P : List ℕ → Type 0) (Δ Δ' : List ℕ) : Type 0 where
  used : List ℕ
  joins : Δ ≡ used ++ Δ'
  holds : P used

module _ {P Q : List ℕ → Type 0} {Δ Δ' : List ℕ} where
  -- a rule with one premise
  uses_one : ((us : List ℕ) → P us → Q us) → Uses P Δ Δ' → Uses Q Δ Δ'
  uses_one rule u = record { used = u.used; joins = u.joins; holds = rule u.used u.holds }

  -- a rule whose second premise goes on with what the first left
  uses_two : {R : List ℕ → Type 0} {Δ'' : List ℕ} → ((us vs : List ℕ) → P us → Q vs → R (us ++ vs)) → Uses P Δ Δ' → Uses Q Δ' Δ'' → Uses R Δ Δ''
  uses_two {Δ'' = Δ''} rule u v = record {
    used = u.used ++ v.used;
    joins = u.joins ∙ ap (λ (l : List ℕ). u.used ++ l) v.joins ∙ sym (append_assoc u.used v.used Δ'');
    holds = rule u.used v.used u.holds v.holds;
  }

  -- two premises on one environment, the second with names in front of it, that leave the same
  uses_both : (front : List ℕ) → Uses P Δ Δ' → Uses Q (front ++ Δ) Δ' → Uses (λ us. P us × Q (front ++ us)) Δ Δ'
  uses_both front u v =
      let same : v.used ++ Δ' ≡ front ++ u.used ++ Δ' = sym v.joins ∙ ap (λ (l : List ℕ). front ++ l) u.joins ∙ sym (append_assoc front u.used Δ') in
      record { used = u.used; joins = u.joins; holds = (u.holds, subst Q (append_cancel_right v.used (front ++ u.used) Δ' same) v.holds) }

uses_name : {Δ Δ' : List ℕ} {a : ℕ} {τ : Ty} → ChecksName Δ a τ Δ' → Uses (λ us. TypesName us a τ) Δ Δ'
uses_name (T-Var1 {x = x}) = record { used = x ∷ []; joins = refl; holds = TypesName.T-Var1 }

-- a derivation by Figure 19 is one by Figure 6 on what it used
mutual
  uses : {gs : List Signature} {g n r : ℕ} {Δ Δ' : List ℕ} {e : Expr} {τ : Ty} → Checks gs g n r Δ e τ Δ' → Uses (λ us. Types gs g n us e τ) Δ Δ'
  uses (T-Var2 bound) = record { used = []; joins = refl; holds = Types.T-Var2 bound }
  uses T-Int = record { used = []; joins = refl; holds = Types.T-Int }
  uses (T-App known d) = uses_one (λ us h. Types.T-App known h) (uses_applied d)
  uses (T-Plus d₁ d₂) = uses_two (λ us vs h₁ h₂. Types.T-Plus h₁ h₂) (uses d₁) (uses d₂)
  uses (T-Leaf d) = uses_one (λ us h. Types.T-Leaf h) (uses d)
  uses (T-Node d₁ d₂) = uses_two (λ us vs h₁ h₂. Types.T-Node h₁ h₂) (uses d₁) (uses d₂)
  uses (T-Case {n = n} name d₁ d₂) =
      uses_two (λ us vs h h'. Types.T-Case h h'.0 h'.1) (uses_name name) (uses_both (n ∷ suc n ∷ []) (uses d₁) (uses d₂))
  uses (Let-01 d₁ d₂) = uses_two (λ us vs h₁ h₂. Types.Let-01 h₁ h₂) (uses d₁) (uses d₂)
  uses (IfZero-01 d₀ d₁ d₂) = uses_two (λ us vs h h'. Types.IfZero-01 h h'.0 h'.1) (uses d₀) (uses_both [] (uses d₁) (uses d₂))

  uses_applied :
      {gs : List Signature} {g n r a : ℕ} {Δ Δ' : List ℕ} {σ : Ty} {xs : Args} {τ : Ty}
      → ChecksApplied gs g n r Δ σ xs a τ Δ'
      → Uses (λ us. Applies gs g n us σ xs a τ) Δ Δ'
  uses_applied (to_number d rest) = uses_two (λ us vs h₁ h₂. Applies.to_number h₁ h₂) (uses d) (uses_applied rest)
  uses_applied (to_tree name) = uses_one (λ us h. Applies.to_tree h) (uses_name name)

pub checks_types : {gs : List Signature} {g n r : ℕ} {Δ Δ' : List ℕ} {e : Expr} {τ : Ty} → Checks gs g n r Δ e τ Δ' → Split gs g n Δ e τ Δ'
checks_types d = let u = uses d in record { used = u.used; joins = u.joins; types = u.holds }

-- ---- from Figure 6 to Figure 19

checks_name : {Δ : List ℕ} {a : ℕ} {τ : Ty} → TypesName Δ a τ → (Δ' : List ℕ) → ChecksName (Δ ++ Δ') a τ Δ'
checks_name TypesName.T-Var1 Δ' = T-Var1

-- a derivation by Figure 6 is one by Figure 19 that leaves whatever stands after
pub types_checks :
    {gs : List Signature} {g n : ℕ} {Δ : List ℕ} {e : Expr} {τ : Ty}
    → Types gs g n Δ e τ
    → (r : ℕ) (Δ' : List ℕ)
    → Checks gs g n r (Δ ++ Δ') e τ Δ'
types_checks {gs} t = elim t
    as (λ g n Δ e τ t. (r : ℕ) (Δ' : List ℕ) → Checks gs g n r (Δ ++ Δ') e τ Δ')
    (λ g n Δ σ xs a τ t. (r : ℕ) (Δ' : List ℕ) → ChecksApplied gs g n r (Δ ++ Δ') σ xs a τ Δ') [
      | Types.T-Var2 bound ↦ λ r Δ'. T-Var2 bound
      | Types.T-Int ↦ λ r Δ'. T-Int
      | Types.T-App known (t → h) ↦ λ r Δ'. T-App known (h _ Δ')
      | Types.T-Plus {Δ₂ = Δ₂} (t₁ → h₁) (t₂ → h₂) ↦ λ r Δ'. rw append_assoc (T-Plus (h₁ _ (Δ₂ ++ Δ')) (h₂ _ Δ'))
      | Types.T-Leaf (t → h) ↦ λ r Δ'. T-Leaf (h _ Δ')
      | Types.T-Node {Δ₂ = Δ₂} (t₁ → h₁) (t₂ → h₂) ↦ λ r Δ'. rw append_assoc (T-Node (h₁ _ (Δ₂ ++ Δ')) (h₂ _ Δ'))
      | Types.T-Case {Δ₂ = Δ₂} name (t₁ → h₁) (t₂ → h₂) ↦ λ r Δ'. rw append_assoc (T-Case (checks_name name (Δ₂ ++ Δ')) (h₁ _ Δ') (h₂ _ Δ'))
      | Types.Let-01 {Δ₂ = Δ₂} (t₁ → h₁) (t₂ → h₂) ↦ λ r Δ'. rw append_assoc (Let-01 (h₁ _ (Δ₂ ++ Δ')) (h₂ _ Δ'))
      | Types.IfZero-01 {Δ₂ = Δ₂} (t₀ → h₀) (t₁ → h₁) (t₂ → h₂) ↦ λ r Δ'. rw append_assoc (IfZero-01 (h₀ _ (Δ₂ ++ Δ')) (h₁ _ Δ') (h₂ _ Δ'))
      | Applies.to_number {Δ₂ = Δ₂} (t → h) (rest → h') ↦ λ r Δ'. rw append_assoc (to_number (h _ (Δ₂ ++ Δ')) (h' _ Δ'))
      | Applies.to_tree name ↦ λ r Δ'. to_tree (checks_name name Δ')
    ]

pub splits : (gs : List Signature) (g n r : ℕ) (Δ : List ℕ) (e : Expr) (τ : Ty) (Δ' : List ℕ) → Checks gs g n r Δ e τ Δ' ↔ Split gs g n Δ e τ Δ'
splits gs g n r Δ e τ Δ' = (checks_types, λ s. rw s.joins (types_checks s.types r Δ'))

-- ---- the limit of 16 pending

-- a tree name is the first one
name_first : {Δ Δ' : List ℕ} {a : ℕ} {τ : Ty} → ChecksName Δ a τ Δ' → Δ ≡ a ∷ Δ'
name_first T-Var1 = refl

-- what is left is not longer
left_fits : {P : List ℕ → Type 0} {Δ Δ' : List ℕ} → Uses P Δ Δ' → length Δ ≤ most_pending → length Δ' ≤ most_pending
left_fits {Δ' = Δ'} u h = let long = ap length u.joins ∙ length-append u.used Δ' in omega arith

-- the line after two parts' lines
line_after : (P : Line → Type 0) (ks ls : List Line) (l : Line) → Every P (ks ++ (ls ++ (l ∷ []))) → P l
line_after P ks ls l h = (every_right P ls (l ∷ []) (every_right P ks (ls ++ (l ∷ [])) h)).0

-- where no list is longer than 16, the one before the whole is not
before_fits :
    {gs : List Signature} {g n r : ℕ} {Δ Δ' : List ℕ} {e : Expr} {τ : Ty} (d : Checks gs g n r Δ e τ Δ')
    → Every NoLonger (lines d)
    → length Δ ≤ most_pending
unfolding lines
before_fits (T-Var2 bound) h = h.0.0
before_fits T-Int h = h.0.0
before_fits (T-App known d) h = (every_right NoLonger (lines_applied d) _ h).0.0
before_fits (T-Plus d₁ d₂) h = (line_after NoLonger (lines d₁) (lines d₂) _ h).0
before_fits (T-Leaf d) h = (every_right NoLonger (lines d) _ h).0.0
before_fits (T-Node d₁ d₂) h = (line_after NoLonger (lines d₁) (lines d₂) _ h).0
before_fits (T-Case name d₁ d₂) h = (line_after NoLonger (lines d₁) (lines d₂) _ h).0
before_fits (Let-01 d₁ d₂) h = (line_after NoLonger (lines d₁) (lines d₂) _ h).0
before_fits (IfZero-01 d₀ d₁ d₂) h = (line_after NoLonger (lines d₁) (lines d₂) _ (every_right NoLonger (lines d₀) _ h)).0

-- both forms of the limit say the same of lines
record Agree (ls : List Line) : Type 0 where
  to_short : Every FewAtCase ls → Every NoLonger ls
  to_few : Every NoLonger ls → Every FewAtCase ls

agree_one : {l : Line} → FewAtCase l → NoLonger l → Agree (l ∷ [])
agree_one few short = record { to_short = λ h. (short, tt); to_few = λ h. (few, tt) }

agree_join : {ks ls : List Line} → Agree ks → Agree ls → Agree (ks ++ ls)
agree_join {ks} {ls} a b = record {
  to_short = λ h. every_append NoLonger ks ls (a.to_short (every_left FewAtCase ks ls h)) (b.to_short (every_right FewAtCase ks ls h));
  to_few = λ h. every_append FewAtCase ks ls (a.to_few (every_left NoLonger ks ls h)) (b.to_few (every_right NoLonger ks ls h));
}

-- two parts' lines, and the whole's
agree_two : (l : Line) {ks ls : List Line} → Agree ks → Agree ls → FewAtCase l → NoLonger l → Agree (ks ++ (ls ++ (l ∷ [])))
agree_two l a b few short = agree_join a (agree_join b (agree_one few short))

-- what either form gives may be used
agree_given : {C : Type 0} {ls : List Line} → (Every FewAtCase ls → C) → (Every NoLonger ls → C) → (C → Agree ls) → Agree ls
agree_given few short a = record { to_short = λ h. (a (few h)).to_short h; to_few = λ h. (a (short h)).to_few h }

-- both forms say the same of a derivation's lines
mutual
  unfolding lines

  agree :
      {gs : List Signature} {g n r : ℕ} {Δ Δ' : List ℕ} {e : Expr} {τ : Ty} (d : Checks gs g n r Δ e τ Δ')
      → length Δ ≤ most_pending
      → Agree (lines d)
  agree (T-Var2 bound) h = agree_one tt (h, h)
  agree T-Int h = agree_one tt (h, h)
  agree (T-App known d) h = agree_join (agree_applied d h) (agree_one tt (h, left_fits (uses_applied d) h))
  agree (T-Plus d₁ d₂) h = let h' = left_fits (uses d₁) h in agree_two _ (agree d₁ h) (agree d₂ h') tt (h, left_fits (uses d₂) h')
  agree (T-Leaf d) h = agree_join (agree d h) (agree_one tt (h, left_fits (uses d) h))
  agree (T-Node d₁ d₂) h = let h' = left_fits (uses d₁) h in agree_two _ (agree d₁ h) (agree d₂ h') tt (h, left_fits (uses d₂) h')
  agree (T-Case {Δ = Δ} {Δ' = Δ'} name d₁ d₂) h =
      let long : length Δ ≡ suc (length Δ') = ap length (name_first name) in
      let h' : length Δ' ≤ most_pending = omega arith in
      agree_given {C = length Δ < most_pending}
      (λ few. line_after FewAtCase (lines d₁) (lines d₂) _ few)
      (λ short. let more = before_fits d₂ (every_left NoLonger (lines d₂) _ (every_right NoLonger (lines d₁) _ short)) in omega arith)
      (λ few. agree_two _ (agree d₁ h') (agree d₂ (omega arith)) few (h, left_fits (uses d₁) h'))
  agree (Let-01 d₁ d₂) h = let h' = left_fits (uses d₁) h in agree_two _ (agree d₁ h) (agree d₂ h') tt (h, left_fits (uses d₂) h')
  agree (IfZero-01 d₀ d₁ d₂) h =
      let h' = left_fits (uses d₀) h in
      agree_join (agree d₀ h) (agree_two _ (agree d₁ h') (agree d₂ h') tt (h, left_fits (uses d₂) h'))

  agree_applied :
      {gs : List Signature} {g n r a : ℕ} {Δ Δ' : List ℕ} {σ : Ty} {xs : Args} {τ : Ty} (d : ChecksApplied gs g n r Δ σ xs a τ Δ')
      → length Δ ≤ most_pending
      → Agree (lines_applied d)
  agree_applied (to_number d rest) h = agree_join (agree d h) (agree_applied rest (left_fits (uses d) h))
  agree_applied (to_tree name) h = record { to_short = λ t. t; to_few = λ t. t }

pub no_longer :
    (gs : List Signature) (g n r : ℕ) (Δ : List ℕ) (e : Expr) (τ : Ty) (Δ' : List ℕ) (d : Checks gs g n r Δ e τ Δ')
    → length Δ ≤ most_pending
    → Every FewAtCase (lines d) ↔ Every NoLonger (lines d)
no_longer gs g n r Δ e τ Δ' d h = let a = agree d h in (a.to_short, a.to_few)

-- ---- one listing

same_name : {Δ Δ' Δ₁ Δ₂ : List ℕ} {a : ℕ} {τ τ' : Ty} → ChecksName Δ a τ Δ₁ → ChecksName Δ' a τ' Δ₂ → Δ ≡ Δ' → Δ₁ ≡ Δ₂
same_name c c' e = tail-eq_of_cons-eq (sym (name_first c) ∙ e ∙ name_first c')

-- whatever the types, one list before gives one list after, and the same lines
mutual
  unfolding lines

  same_lines :
      {gs : List Signature} {g n r : ℕ} {Δ Δ' Δ₁ Δ₂ : List ℕ} {e : Expr} {τ τ' : Ty} (d : Checks gs g n r Δ e τ Δ₁) (d' : Checks gs g n r Δ' e τ' Δ₂)
      → Δ ≡ Δ'
      → (Δ₁ ≡ Δ₂) × (lines d ≡ lines d')
  same_lines (T-Var2 bound) (T-Var2 bound') e = (e, cc)
  same_lines T-Int T-Int e = (e, cc)
  same_lines (T-App known d) (T-App known' d') e = let s = same_applied d d' e in (s.0, cc)
  same_lines (T-Plus d₁ d₂) (T-Plus d₁' d₂') e = let s₁ = same_lines d₁ d₁' e in let s₂ = same_lines d₂ d₂' s₁.0 in (s₂.0, cc)
  same_lines (T-Leaf d) (T-Leaf d') e = let s = same_lines d d' e in (s.0, cc)
  same_lines (T-Node d₁ d₂) (T-Node d₁' d₂') e = let s₁ = same_lines d₁ d₁' e in let s₂ = same_lines d₂ d₂' s₁.0 in (s₂.0, cc)
  same_lines (T-Case name d₁ d₂) (T-Case name' d₁' d₂') e =
      let e' = same_name name name' e in
      let s₁ = same_lines d₁ d₁' e' in
      let s₂ = same_lines d₂ d₂' (cc) in
      (s₂.0, cc)
  same_lines (Let-01 d₁ d₂) (Let-01 d₁' d₂') e = let s₁ = same_lines d₁ d₁' e in let s₂ = same_lines d₂ d₂' s₁.0 in (s₂.0, cc)
  same_lines (IfZero-01 d₀ d₁ d₂) (IfZero-01 d₀' d₁' d₂') e =
      let s₀ = same_lines d₀ d₀' e in
      let s₁ = same_lines d₁ d₁' s₀.0 in
      let s₂ = same_lines d₂ d₂' s₀.0 in
      (s₂.0, cc)

  same_applied :
      {gs : List Signature} {g n r a : ℕ} {Δ Δ' Δ₁ Δ₂ : List ℕ} {σ σ' : Ty} {xs : Args} {τ τ' : Ty}
      (d : ChecksApplied gs g n r Δ σ xs a τ Δ₁) (d' : ChecksApplied gs g n r Δ' σ' xs a τ' Δ₂)
      → Δ ≡ Δ'
      → (Δ₁ ≡ Δ₂) × (lines_applied d ≡ lines_applied d')
  same_applied (to_number d rest) (to_number d' rest') e = let s₁ = same_lines d d' e in let s₂ = same_applied rest rest' s₁.0 in (s₂.0, cc)
  same_applied (to_tree name) (to_tree name') e = (same_name name name' e, refl)

pub one_listing :
    (gs : List Signature) (g n r : ℕ) (Δ : List ℕ) (e : Expr) (τ : Ty) (Δ₁ Δ₂ : List ℕ) (d : Checks gs g n r Δ e τ Δ₁) (d' : Checks gs g n r Δ e τ Δ₂)
    → (Δ₁ ≡ Δ₂) × (lines d ≡ lines d')
one_listing gs g n r Δ e τ Δ₁ Δ₂ d d' = same_lines d d' refl
