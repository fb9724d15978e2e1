-- Laws of substitution, and the substitution that an environment stands for.
--
-- The terms of values have no free names, and a function's fixed point has none but functions'
-- names, since pass one has found every name bound. So a substitution that replaces no function's
-- name leaves them as they are, and two substitutions, one after the other, do what one does. To
-- put a value in for the name that a binder binds is then to have it in the environment.
use Prim.Native.Nat.{ℕ, zero, suc, ◌+◌, ◌<◌}
use mathlib.Core.Bool.{Bool, true, false}
use mathlib.Core.List.{List, [], ◌∷◌}
use mathlib.Core.Option.{Option, none, some, map}
use mathlib.Core.Path.{◌≡◌, refl, ap, ap₂, fun_ext}
use native.Mathlib.Nat.{zero-add, add-zero}
use native.Mathlib.Omega.{arith}
use lib.ListN.{length}
use lib.Dec.{eqb}
use borrow.Author.Tests.{eqb-true, eqb-false}
use Rattle.formats.specs.Tokens.{Tree, leaf as a_leaf, node as a_node}
use Rattle.formats.specs.Records.{nth}
use Rattle.formats.specs.Programs.{Expr, Sort, Function, Program}
use Rattle.rules.specs.Printed.{Name, number_name, tree_name, function_name, Term, int, lam, name, app, compute_term, fix, leaf_term, node_term, case, let_01, if_zero_01}
use Rattle.rules.specs.Printed.{term_of, applied, lams, function_term}
use Rattle.meaning.specs.Levels.{at_level}
use Rattle.meaning.specs.Evaluation.{Environment, with_number, with_trees, in_call}
use Rattle.meaning.specs.Reductions.{Substitution, same_name, only, both, without, replaced, substitute, fix_of, fixes, fixing, tree_term}
use Rattle.meaning.proofs.Levels.{level_newest, level_older}
use Rattle.meaning.proofs.Proper.{Proper, proper_const, proper_var, proper_compute, proper_if_zero, proper_let, proper_leaf, proper_node, proper_case}
use Rattle.meaning.proofs.Proper.{proper_call, proper_none, proper_arg, ProperProgram}

-- ---- names that are not replaced

-- under a binder a name is not replaced if it is the binder's, or was not before
kept_under : (b : Bool) (o : Option Term) → (b ≡ false → o ≡ none) → ◌≡◌ {A = Option Term} (elim b [ true ↦ none | false ↦ o ]) none
kept_under true o before = refl
kept_under false o before = before refl

-- A substitution that replaces no function's name ..
abbrev KeepsFunctions : Substitution → Type 0
KeepsFunctions τ = (b : ℕ) → τ (function_name b) ≡ none

-- it does not under a binder either
functions_under : (τ : Substitution) (x : Name) → KeepsFunctions τ → KeepsFunctions (without x τ)
unfolding without
functions_under τ x k b = kept_under (same_name x (function_name b)) (τ (function_name b)) (λ e. k b)

-- .. and none of the names bound, where these are g number names and n tree names.
record Keeps (g n : ℕ) (τ : Substitution) : Type 0 where
  numbers : (k : ℕ) → k < g → τ (number_name k) ≡ none
  trees : (k : ℕ) → k < n → τ (tree_name k) ≡ none
  functions : KeepsFunctions τ

-- under a binder of the next number, of the next tree, or of the next two trees, it replaces none
-- of the names bound there
keeps_number : {g n : ℕ} {τ : Substitution} → Keeps g n τ → Keeps (suc g) n (without (number_name g) τ)
unfolding without same_name
keeps_number {g} k = record {
  numbers = λ j h. kept_under (eqb g j) _ (λ e. k.numbers j (omega (arith, eqb-false g j e)));
  trees = k.trees;
  functions = k.functions;
}

keeps_tree : {g n : ℕ} {τ : Substitution} → Keeps g n τ → Keeps g (suc n) (without (tree_name n) τ)
unfolding without same_name
keeps_tree {n} k = record {
  numbers = k.numbers;
  trees = λ j h. kept_under (eqb n j) _ (λ e. k.trees j (omega (arith, eqb-false n j e)));
  functions = k.functions;
}

keeps_trees : {g n : ℕ} {τ : Substitution} → Keeps g n τ → Keeps g (suc (suc n)) (without (tree_name n) (without (tree_name (suc n)) τ))
unfolding without same_name
keeps_trees {n} k = record {
  numbers = k.numbers;
  trees = λ j h.
      kept_under (eqb n j) _ (λ e. kept_under (eqb (suc n) j) _ (λ f. k.trees j (omega (arith, eqb-false n j e, eqb-false (suc n) j f))));
  functions = k.functions;
}

-- ---- terms that it leaves as they are

-- A term with no free names but g numbers', n trees' and functions'.
abbrev Scoped : ℕ → ℕ → Term → Type 0
Scoped g n M = (τ : Substitution) → Keeps g n τ → substitute τ M ≡ M

-- an expression's term is one
scoped : {fs : List Function} {g n : ℕ} {s : Sort} {e : Expr} → Proper fs g n s e → Scoped g n (term_of g n e)
unfolding substitute term_of replaced
scoped d = elim d as (λ g n s e d. Scoped g n (term_of g n e)) (λ g n j xs d. (M : Term) → Scoped g n M → Scoped g n (applied g n M xs)) [
  | proper_const i ↦ λ τ k. refl
  | proper_var {a} a< ↦ λ τ k. rw (k.numbers a a<)
  | proper_compute {op = op} (d₁ → h₁) (d₂ → h₂) ↦ λ τ k. ap₂ (compute_term op) (h₁ τ k) (h₂ τ k)
  | proper_if_zero (d₁ → h₁) (d₂ → h₂) (d₃ → h₃) ↦ λ τ k. rw (h₁ τ k, h₂ τ k, h₃ τ k)
  | proper_let {g} (d₁ → h₁) (d₂ → h₂) ↦ λ τ k. ap₂ (let_01 (number_name g)) (h₁ τ k) (h₂ _ (keeps_number k))
  | proper_leaf (d → h) ↦ λ τ k. ap leaf_term (h τ k)
  | proper_node (d₁ → h₁) (d₂ → h₂) ↦ λ τ k. ap₂ node_term (h₁ τ k) (h₂ τ k)
  | proper_case {a} a< (d₁ → h₁) (d₂ → h₂) ↦ λ τ k. rw (k.trees a a<, h₁ _ (keeps_number k), h₂ _ (keeps_trees k))
  | proper_call {a} {b} a< known same (ds → hs) ↦ λ τ k. ap₂ app (hs (name (function_name b)) (λ τ k. rw (k.functions b)) τ k) (rw (k.trees a a<))
  | proper_none ↦ λ M h. h
  | proper_arg (d → h) (ds → hs) ↦ λ M head. hs (app M _) (λ τ k. ap₂ app (head τ k) (h τ k))
]

-- so are abstractions over a tree, and over j numbers
scoped_lam : {g : ℕ} {M : Term} → Scoped g 1 M → Scoped g 0 (lam (tree_name 0) M)
unfolding substitute
scoped_lam h τ k = ap (lam (tree_name 0)) (h _ (keeps_tree k))

scoped_lams : {M : Term} (j g : ℕ) → Scoped (g + j) 0 M → Scoped g 0 (lams g j M)
unfolding substitute lams
scoped_lams zero g h τ k = h τ (rw add-zero k)
scoped_lams (suc j) g h τ k =
    let shift : suc g + j ≡ g + suc j = omega arith in
    ap (lam (number_name g)) (scoped_lams j (suc g) (rw shift h) _ (keeps_number k))

-- A term with no free names but functions'.
abbrev Closed : Term → Type 0
Closed W = (τ : Substitution) → KeepsFunctions τ → substitute τ W ≡ W

-- trees' terms are closed ..
tree_closed : (t : Tree) → Closed (tree_term t)
unfolding substitute tree_term
tree_closed (a_leaf x) τ k = refl
tree_closed (a_node l r) τ k = ap₂ node_term (tree_closed l τ k) (tree_closed r τ k)

-- .. and functions' fixed points
fix_closed : (program : Program) → ProperProgram program → (b : ℕ) (f : Function) → nth program.functions b ≡ some f → Closed (fix_of b f)
unfolding substitute fix_of function_term
fix_closed program proper b f known τ k =
    ap (fix (function_name b))
    (scoped_lams f.parameters 0 (rw zero-add (scoped_lam (scoped (proper.bodies b f known)))) _
    (record { numbers = λ j h. absurd (omega arith); trees = λ j h. absurd (omega arith); functions = functions_under τ (function_name b) k }))

-- ---- one substitution after another

-- What a name is replaced by, where the first gives one thing and the second another: what the
-- first gives stays, since it is closed.
data Joined : Option Term → Option Term → Option Term → Type 0 where
  by_first : {W : Term} {o : Option Term} → Closed W → Joined (some W) o (some W)
  by_second : {o : Option Term} → Joined none o o

-- On each name ρ does what σ and then τ do, and τ replaces no function's name.
record Joins (σ τ ρ : Substitution) : Type 0 where
  functions : KeepsFunctions τ
  names : (z : Name) → Joined (σ z) (τ z) (ρ z)

-- so they do under a binder
joins_under : {σ τ ρ : Substitution} (x : Name) → Joins σ τ ρ → Joins (without x σ) (without x τ) (without x ρ)
unfolding without
joins_under {σ} {τ} {ρ} x j = record { functions = functions_under τ x j.functions; names = λ z. by_test z (same_name x z) }
  where
    by_test :
        (z : Name) (b : Bool)
        → Joined (elim b [ true ↦ none | false ↦ σ z ]) (elim b [ true ↦ none | false ↦ τ z ]) (elim b [ true ↦ none | false ↦ ρ z ])
    by_test z true = by_second
    by_test z false = j.names z

-- then they do so on each term
joined : (M : Term) {σ τ ρ : Substitution} → Joins σ τ ρ → substitute τ (substitute σ M) ≡ substitute ρ M
unfolding substitute replaced
joined (int i) j = refl
joined (lam x M) j = ap (lam x) (joined M (joins_under x j))
joined (name x) {σ} {τ} {ρ} j = in_the_end (j.names x) refl
  where
    in_the_end : {o p q : Option Term} → Joined o p q → τ x ≡ p → substitute τ (replaced x o) ≡ replaced x q
    in_the_end (by_first closed) e = closed τ j.functions
    in_the_end by_second e = ap (replaced x) e
joined (app M N) j = ap₂ app (joined M j) (joined N j)
joined (compute_term op M N) j = ap₂ (compute_term op) (joined M j) (joined N j)
joined (fix f M) j = ap (fix f) (joined M (joins_under f j))
joined (leaf_term M) j = ap leaf_term (joined M j)
joined (node_term M N) j = ap₂ node_term (joined M j) (joined N j)
joined (case L x M x₁ x₂ N) j = rw (joined L j, joined M (joins_under x j), joined N (joins_under x₁ (joins_under x₂ j)))
joined (let_01 x M N) j = ap₂ (let_01 x) (joined M j) (joined N (joins_under x j))
joined (if_zero_01 L M N) j = rw (joined L j, joined M j, joined N j)

-- ---- environments

-- What an environment's names and the functions' names are replaced by.
unfoldable pub environment_of : Program → Environment → Substitution
environment_of program E (number_name k) = map int (at_level E.numbers k)
environment_of program E (tree_name k) = map tree_term (at_level E.trees k)
environment_of program E (function_name b) = fixes program (function_name b)

-- A call's numbers, before its tree is named.
abbrev pub bare : List ℕ → Environment
bare numbers = record { numbers = numbers; trees = [] }

-- with no names bound, only functions' are replaced: as Es-Fix does in a function's term
pub unfolded :
    (program : Program) (b : ℕ) (f : Function)
    → nth program.functions b ≡ some f
    → fixing program (function_name b) (function_term f) ≡ environment_of program (bare [])
unfolding environment_of fixing fixes fix_of same_name at_level
unfolded program b f known = fun_ext by_name
  where
    by_test : (c : ℕ) (same : Bool) → eqb b c ≡ same → ◌≡◌ {A = Option Term} (elim same [ true ↦ some (fix_of b f) | false ↦ fixes program (function_name c) ]) (fixes program (function_name c))
    by_test c true e = rw (← eqb-true b c e) (rw (known, fixes))
    by_test c false e = refl

    by_name : (z : Name) → fixing program (function_name b) (function_term f) z ≡ environment_of program (bare []) z
    by_name (number_name k) = refl
    by_name (tree_name k) = refl
    by_name (function_name c) = by_test c (eqb b c) refl

-- what a name stands for stays, if it is closed
named_stays : {A : Type 0} (f : A → Term) → ((x : A) → Closed (f x)) → (o : Option A) → Joined (map f o) none (map f o)
named_stays f closed none = by_second
named_stays f closed (some x) = by_first (closed x)

-- a name that the first does not replace, and the second does, among others
joined_at :
    (b : Bool) (W : Term) {o p q : Option Term}
    → (b ≡ true → q ≡ some W)
    → (b ≡ false → Joined o p q)
    → Joined (elim b [ true ↦ none | false ↦ o ]) (elim b [ true ↦ some W | false ↦ p ]) q
joined_at true W newest others = rw (newest refl) by_second
joined_at false W newest others = others refl

-- the newest entry is what the next name is replaced by
joined_newest :
    {A : Type 0} (f : A → Term) → ((x : A) → Closed (f x)) → (x : A) (xs : List A) (g k : ℕ)
    → g ≡ length xs
    → Joined (elim (eqb g k) [ true ↦ none | false ↦ map f (at_level xs k) ]) (elim (eqb g k) [ true ↦ some (f x) | false ↦ none ])
    (map f (at_level (x ∷ xs) k))
joined_newest f closed x xs g k e =
    joined_at (eqb g k) (f x) (λ same. rw (level_newest x k xs (omega (arith, eqb-true g k same))))
    (λ other. rw (level_older x k xs (omega (arith, eqb-false g k other))) (named_stays f closed (at_level xs k)))

module _ (program : Program) (proper : ProperProgram program) where
  -- so does all that an environment puts in
  stays : (E : Environment) (z : Name) → Joined (environment_of program E z) none (environment_of program E z)
  unfolding environment_of fixes substitute
  stays E (number_name k) = named_stays int (λ i τ k. refl) (at_level E.numbers k)
  stays E (tree_name k) = named_stays tree_term tree_closed (at_level E.trees k)
  stays E (function_name b) = of_function (nth program.functions b) refl
    where
      of_function : (o : Option Function) → nth program.functions b ≡ o → Joined (fixes program (function_name b)) none (fixes program (function_name b))
      of_function none known = rw (fixes, known) by_second
      of_function (some f) known = rw (fixes, known) (by_first (fix_closed program proper b f known))

  -- a number put in for the next name is in the environment
  pub put_number :
      (E : Environment) (g i : ℕ) (M : Term)
      → g ≡ length E.numbers
      → substitute (only (number_name g) (int i)) (substitute (without (number_name g) (environment_of program E)) M)
      ≡ substitute (environment_of program (with_number i E)) M
  unfolding environment_of substitute only without same_name
  put_number E g i M e = joined M (record {
    functions = λ b. refl;
    names = λ z. elim z as (λ z. Joined (without (number_name g) (environment_of program E) z) (only (number_name g) (int i) z) (environment_of program (with_number i E) z)) [
      | number_name k ↦ joined_newest int (λ i τ k. refl) i E.numbers g k e
      | tree_name k ↦ stays E (tree_name k)
      | function_name b ↦ stays E (function_name b)
    ];
  })

  -- so is a call's tree ..
  pub put_tree :
      (numbers : List ℕ) (t : Tree) (M : Term)
      → substitute (only (tree_name 0) (tree_term t)) (substitute (without (tree_name 0) (environment_of program (bare numbers))) M)
      ≡ substitute (environment_of program (in_call numbers t)) M
  unfolding environment_of only without same_name
  put_tree numbers t M = joined M (record {
    functions = λ b. refl;
    names = λ z. elim z as (λ z. Joined (without (tree_name 0) (environment_of program (bare numbers)) z) (only (tree_name 0) (tree_term t) z) (environment_of program (in_call numbers t) z)) [
      | number_name k ↦ stays (bare numbers) (number_name k)
      | tree_name k ↦ joined_newest tree_term tree_closed t [] 0 k refl
      | function_name b ↦ stays (bare numbers) (function_name b)
    ];
  })

  -- .. and are the two of a node
  pub put_trees :
      (E : Environment) (n : ℕ) (l r : Tree) (M : Term)
      → n ≡ length E.trees
      → substitute (both (tree_name n) (tree_term l) (tree_name (suc n)) (tree_term r))
      (substitute (without (tree_name n) (without (tree_name (suc n)) (environment_of program E))) M)
      ≡ substitute (environment_of program (with_trees l r E)) M
  unfolding environment_of only both without same_name
  put_trees E n l r M e = joined M (record {
    functions = λ b. refl;
    names = λ z. elim z as (λ z. Joined (without (tree_name n) (without (tree_name (suc n)) (environment_of program E)) z)
        (both (tree_name n) (tree_term l) (tree_name (suc n)) (tree_term r) z) (environment_of program (with_trees l r E) z)) [
          | number_name k ↦ stays E (number_name k)
          | tree_name k ↦
              joined_at (eqb n k) (tree_term l)
              (λ left. let is = eqb-true n k left in rw (level_older r k (l ∷ E.trees) (omega arith), level_newest l k E.trees (omega arith)))
              (λ not_left.
              let not_l = eqb-false n k not_left in
              joined_at (eqb (suc n) k) (tree_term r) (λ right. rw (level_newest r k (l ∷ E.trees) (omega (arith, eqb-true (suc n) k right))))
              (λ not_right.
              let not_r = eqb-false (suc n) k not_right in
              rw (level_older r k (l ∷ E.trees) (omega arith), level_older l k E.trees (omega arith))
              (named_stays tree_term tree_closed (at_level E.trees k))))
          | function_name b ↦ stays E (function_name b)
        ];
  })
