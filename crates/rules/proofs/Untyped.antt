-- Where Figure 6 types an expression, the name of each of its records is bound and the type is the
-- one expected. So pass one refuses nothing but its words, and where it refuses a name or a type,
-- the function with that record has no derivation.
use Prim.Native.Nat.{ℕ, suc, ◌+◌, ◌<◌}
use mathlib.Core.Bool.{true, false≢true}
use mathlib.Core.List.{List, [], ◌∷◌, ◌++◌}
use mathlib.Core.Logic.{◌⊎◌, inl, inr}
use mathlib.Core.Option.{some}
use mathlib.Core.Path.{◌≡◌, refl, sym, ap, ◌∙◌}
use native.Mathlib.Omega.{arith}
use lib.Dec.{lit<}
use lib.ListN.{length, length-map}
use borrow.Author.Tests.{lt-ltb}
use Rattle.formats.specs.Refusals.{not_bound, wrong_type, too_many_words}
use Rattle.formats.specs.Results.{refusal}
use Rattle.formats.specs.Records.{Kind, Call, nth}
use Rattle.formats.specs.Programs.{Expr, Args, size, Every, Signature, Function, Program, signatures}
use Rattle.formats.proofs.Programs.{every_append, every_left, every_right}
use Rattle.rules.specs.Types.{Ty, result_type, function_type, is_int, is_output_tree}
use Rattle.rules.specs.Typing.{Types, T-Var2, T-Int, T-App, T-Plus, T-Leaf, T-Node, T-Case, Let-01, IfZero-01, to_number, to_tree, TypedFunction}
use Rattle.rules.specs.Scopes.{Scope, scope, start_of, inside, Entry, entry, entered, entered_args, entered_all}
use Rattle.rules.specs.PassOne.{name_bound, type_fits, pass_one, name_not_bound, wrong-type, too-many-words, FirstFails, here, later}
use Rattle.rules.specs.OrderChecker.{first_node, Numbered, kind_in, InFunction, this_one, after_it, Untyped}
use Rattle.rules.proofs.Entries.{kinds_entered, numbered}
use Rattle.rules.proofs.PassOne.{pass-one}
use Rattle.rules.proofs.Typed.{applied_type, Bound, bound_more, name-bound, value_fits}
use Rattle.rules.proofs.Positions.{Among, widen, own}

-- ---- where Figure 6 types

-- at a record the name is bound and the type is the one expected
abbrev BoundTyped : List Signature → Entry → Type 0
BoundTyped gs (entry sc r kind) = (name_bound sc kind ≡ true) × (type_fits gs sc kind ≡ true)

-- so it is at each of these records
record AllFine (gs : List Signature) (xs : List Entry) : Type 0 where
  each : Every (BoundTyped gs) xs

-- the type of a Call of a known function, where its value's is expected
call_typed : (gs : List Signature) (g n w a b : ℕ) (s : Signature) → nth gs b ≡ some s → type_fits gs (scope g n w (result_type s.sort)) (Call a b) ≡ true
unfolding type_fits
call_typed gs g n w a b s known = rw (known, type_fits) (value_fits s.sort)

module _ (gs : List Signature) where
  -- what is to be shown of a derivation
  abbrev Fine : (g n : ℕ) (Δ : List ℕ) (e : Expr) (τ : Ty) → Type 0
  Fine g n Δ e τ = (w r : ℕ) → Bound n Δ → AllFine gs (entered (scope g n w τ) r e)

  abbrev FineArgs : (g n : ℕ) (Δ : List ℕ) (xs : Args) (a : ℕ) → Type 0
  FineArgs g n Δ xs a =
      (b i w r : ℕ) (τ : Ty) → Bound n Δ → (a < n) × AllFine gs (entered_args (Call a b) i (scope g n w τ) r xs)

  -- a record before others, and two parts, one after the other
  one_more : (sc : Scope) (r : ℕ) (kind : Kind) (xs : List Entry) → name_bound sc kind ≡ true → type_fits gs sc kind ≡ true → AllFine gs xs
      → AllFine gs (entry sc r kind ∷ xs)
  one_more sc r kind xs bound right rest = record { each = ((bound, right), rest.each) }

  both : (xs ys : List Entry) → AllFine gs xs → AllFine gs ys → AllFine gs (xs ++ ys)
  both xs ys h k = record { each = every_append (BoundTyped gs) xs ys h.each k.each }

  none_more : AllFine gs []
  none_more = record { each = tt }

  fine : {g n : ℕ} {Δ : List ℕ} {e : Expr} {τ : Ty} → Types gs g n Δ e τ → Fine g n Δ e τ
  unfolding entered inside name_bound type_fits is_int is_output_tree function_type
  fine t = elim t as (λ g n Δ e τ t. Fine g n Δ e τ) (λ g n Δ σ xs a τ t. FineArgs g n Δ xs a) [
    | T-Var2 {g = g} {x = x} x<g ↦ λ w r below. one_more _ r _ [] (lt-ltb x g x<g) refl none_more
    | T-Int ↦ λ w r below. one_more _ r _ [] refl refl none_more
    | T-App {g = g} {n = n} {a = a} {b = b} {τ = τ} {s = s} known (applied → h) ↦ λ w r below.
        let args = h b 0 w (suc r) τ below in
        let same : τ ≡ result_type s.sort = applied_type applied s.parameters _ refl in
        one_more (scope g n w τ) r (Call a b) _ (lt-ltb a n args.0) (rw same (call_typed gs g n w a b s known)) args.1
    | T-Plus {Δ₁ = Δ₁} {Δ₂ = Δ₂} (d₁ → h₁) (d₂ → h₂) ↦ λ w r below.
        one_more _ r _ _ refl refl (both _ _ (h₁ w (suc r) (every_left _ Δ₁ Δ₂ below)) (h₂ (suc w) _ (every_right _ Δ₁ Δ₂ below)))
    | T-Leaf (d → h) ↦ λ w r below. one_more _ r _ _ refl refl (h w (suc r) below)
    | T-Node {Δ₁ = Δ₁} {Δ₂ = Δ₂} (d₁ → h₁) (d₂ → h₂) ↦ λ w r below.
        one_more _ r _ _ refl refl (both _ _ (h₁ w (suc r) (every_left _ Δ₁ Δ₂ below)) (h₂ w _ (every_right _ Δ₁ Δ₂ below)))
    | T-Case {n = n} {a = a} {Δ₁ = Δ₁} {Δ₂ = Δ₂} name (d₁ → h₁) (d₂ → h₂) ↦ λ w r below.
        let rest = every_right _ Δ₁ Δ₂ below in
        let own_name = lt-ltb a n (name-bound name (every_left _ Δ₁ Δ₂ below)) in
        one_more _ r _ _ own_name refl (both _ _ (h₁ (suc w) (suc r) rest) (h₂ w _ (omega arith, (omega arith, bound_more n Δ₂ rest))))
    | Let-01 {Δ₁ = Δ₁} {Δ₂ = Δ₂} (d₁ → h₁) (d₂ → h₂) ↦ λ w r below.
        one_more _ r _ _ refl refl (both _ _ (h₁ w (suc r) (every_left _ Δ₁ Δ₂ below)) (h₂ (suc w) _ (every_right _ Δ₁ Δ₂ below)))
    | IfZero-01 {Δ₁ = Δ₁} {Δ₂ = Δ₂} (d₀ → h₀) (d₁ → h₁) (d₂ → h₂) ↦ λ w r below.
        let rest = every_right _ Δ₁ Δ₂ below in
        one_more _ r _ _ refl refl (both _ _ (h₀ w (suc r) (every_left _ Δ₁ Δ₂ below)) (both _ _ (h₁ w _ rest) (h₂ w _ rest)))
    | to_number {Δ₁ = Δ₁} {Δ₂ = Δ₂} (d → h) (rest → k) ↦ λ b i w r τ below.
        let others = k b (suc i) w _ τ (every_right _ Δ₁ Δ₂ below) in
        (others.0, both _ _ (h (w + i) r (every_left _ Δ₁ Δ₂ below)) others.1)
    | to_tree name ↦ λ b i w r τ below. (name-bound name below, none_more)
  ]

  -- a function that is typed
  fine_function : (f : Function) (r : ℕ) → TypedFunction gs f → AllFine gs (entered (start_of f) r f.body)
  unfolding start_of
  fine_function f r d = fine d f.parameters r (lit< tt, tt)

  -- ---- where a condition first fails

  -- where names are bound and types right, it is the words
  fails_words : {number r : ℕ} (xs : List Entry) → Every (BoundTyped gs) xs → FirstFails gs xs number r → number ≡ too_many_words
  fails_words [] h e = elim e [ ]
  fails_words (entry sc k kind ∷ xs) h (here (name_not_bound e)) = absurd (false≢true (sym e ∙ h.0.0))
  fails_words (entry sc k kind ∷ xs) h (here (wrong-type e f)) = absurd (false≢true (sym f ∙ h.0.1))
  fails_words (entry sc k kind ∷ xs) h (here (too-many-words e f g)) = refl
  fails_words (x ∷ xs) h (later g f) = fails_words xs h.1 f

  -- in the first of two lists, or in the second
  pub fails_split : {number r : ℕ} (xs ys : List Entry) → FirstFails gs (xs ++ ys) number r → FirstFails gs xs number r ⊎ FirstFails gs ys number r
  fails_split [] ys f = inr f
  fails_split (x ∷ xs) ys (here f) = inl (here f)
  fails_split (x ∷ xs) ys (later h f) = elim (fails_split xs ys f) [ inl g ↦ inl (later h g) | inr g ↦ inr g ]

  -- at one of their records
  fails_among : {number r : ℕ} (k : ℕ) (xs : List Entry) → Numbered k xs → FirstFails gs xs number r → Among k (length xs) r
  fails_among k [] h e = elim e [ ]
  fails_among k (entry sc q kind ∷ xs) h (here (name_not_bound e)) = rw h.0 (own k (length xs))
  fails_among k (entry sc q kind ∷ xs) h (here (wrong-type e f)) = rw h.0 (own k (length xs))
  fails_among k (entry sc q kind ∷ xs) h (here (too-many-words e f g)) = rw h.0 (own k (length xs))
  fails_among k (entry sc q kind ∷ xs) h (later g f) = widen (omega arith) (omega arith) (fails_among (suc k) xs h.1 f)

  -- ---- functions

  -- as many records as the body has
  many_entered : (f : Function) (k : ℕ) → length (entered (start_of f) k f.body) ≡ size f.body
  unfolding size
  many_entered f k = sym (length-map (entered (start_of f) k f.body) kind_in) ∙ ap length (kinds_entered f.body (start_of f) k)

  -- a function, or one after it, has the record, and of it holds what follows where a condition
  -- first fails in its body
  pub in_function :
      {number r : ℕ} (P : Function → Type 0) (k : ℕ) (fs : List Function)
      → ((f : Function) (j : ℕ) → FirstFails gs (entered (start_of f) j f.body) number r → P f)
      → FirstFails gs (entered_all k fs) number r
      → InFunction P r k fs
  unfolding entered_all
  in_function P k [] follows fails = elim fails [ ]
  in_function P k (f ∷ fs) follows fails = elim (fails_split (entered (start_of f) k f.body) _ fails) [
    | inl first ↦
        let many = many_entered f k in
        let position = fails_among k _ (numbered f.body (start_of f) k) first in
        this_one {f = f} position.from (omega (arith, position.before)) (follows f k first)
    | inr after ↦ after_it (in_function P (k + size f.body) fs follows after)
  ]

  -- it has no derivation
  untyped : {number r : ℕ} (k : ℕ) (fs : List Function) → (number ≡ too_many_words → ⊥) → FirstFails gs (entered_all k fs) number r → Untyped gs r k fs
  untyped k fs other fails = in_function _ k fs (λ f j first d. other (fails_words _ (fine_function f j d).each first)) fails

  -- where every function is typed
  all_typed : {number r : ℕ} (k : ℕ) (fs : List Function) → Every (TypedFunction gs) fs → FirstFails gs (entered_all k fs) number r → number ≡ too_many_words
  unfolding entered_all
  all_typed k [] type_fits fails = elim fails [ ]
  all_typed k (f ∷ fs) type_fits fails = elim (fails_split (entered (start_of f) k f.body) _ fails) [
    | inl first ↦ fails_words _ (fine_function f k type_fits.0).each first
    | inr after ↦ all_typed (k + size f.body) fs type_fits.1 after
  ]

-- ---- programs

-- 9 and 8 are not 10
other_number : {number : ℕ} → (number ≡ not_bound) ⊎ (number ≡ wrong_type) → number ≡ too_many_words → ⊥
other_number (inl e) f = omega arith
other_number (inr e) f = omega arith

pub only_words :
    (program : Program) (number r : ℕ)
    → Every (TypedFunction (signatures program)) program.functions
    → pass_one program ≡ refusal number r
    → number ≡ too_many_words
only_words program number r type_fits e = all_typed (signatures program) _ program.functions type_fits ((pass-one program number r).0 e)

pub pass_one_no_typing :
    (program : Program) (number r : ℕ)
    → pass_one program ≡ refusal number r
    → (number ≡ not_bound) ⊎ (number ≡ wrong_type)
    → Every (TypedFunction (signatures program)) program.functions
    → ⊥
pass_one_no_typing program number r e which type_fits = other_number which (only_words program number r type_fits e)

pub pass_one_untyped_there :
    (program : Program) (number r : ℕ)
    → pass_one program ≡ refusal number r
    → (number ≡ not_bound) ⊎ (number ≡ wrong_type)
    → Untyped (signatures program) r (first_node program) program.functions
pass_one_untyped_there program number r e which =
    untyped (signatures program) _ program.functions (other_number which) ((pass-one program number r).0 e)
