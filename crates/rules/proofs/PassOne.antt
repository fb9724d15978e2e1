-- Laws of pass one: where it refuses, what passes in joined parts, and what passing says of an
-- expression of each kind.
use Prim.Native.Nat.{ℕ, suc, ◌+◌, ◌<◌}
use mathlib.Core.Bool.{Bool, true, false, false≢true}
use mathlib.Core.List.{List, [], ◌∷◌, ◌++◌}
use mathlib.Core.Logic.{◌↔◌}
use mathlib.Core.Option.{Option, none, some}
use mathlib.Core.Path.{◌≡◌, refl, sym, ◌∙◌}
use borrow.Author.Tests.{ltb-true}
use Rattle.formats.specs.Arithmetic.{Op}
use Rattle.formats.specs.Refusals.{wrong_type, not_bound, too_many_words}
use Rattle.formats.specs.Results.{Result, done, refusal, and_then}
use Rattle.formats.specs.Records.{Kind, Const, Var, Compute, IfZero, Let, Leaf, Node, Case, Call, nth}
use Rattle.formats.specs.Programs.{Expr, const, var, compute, if_zero, let_in, leaf_of, node_of, case_of, call, Args, arg, size}
use Rattle.formats.specs.Programs.{Sort, number_valued, tree_valued, Signature, Program, signatures}
use Rattle.formats.proofs.Results.{done_not, then_done, then_refused, then_inv, check_inv}
use Rattle.rules.specs.Types.{Ty, Int, Tree⁻, Tree⁺, arrow, result_type, is_int, is_output_tree, has_type}
use Rattle.rules.specs.Scopes.{Scope, scope, inside, Entry, entry, entered, entered_args, entered_all}
use Rattle.rules.specs.PassOne.{name_bound, type_fits, has_room, at_entry, pass_over, pass_one}
use Rattle.rules.specs.PassOne.{Fails, name_not_bound, wrong-type, too-many-words, AllHold, all_three, FirstFails, here, later}
use Rattle.rules.specs.OrderChecker.{first_node}

-- ---- where a condition first fails

module _ (gs : List Signature) where
  -- what a record's tests give
  holds_says : {x : Entry} → AllHold gs x → at_entry gs x ≡ done tt
  unfolding at_entry
  holds_says (all_three e f h) = rw (e, f, h)

  fails_says : {x : Entry} {number r : ℕ} → Fails gs x number r → at_entry gs x ≡ refusal number r
  unfolding at_entry
  fails_says (name_not_bound e) = rw e
  fails_says (wrong-type e f) = rw (e, f)
  fails_says (too-many-words e f h) = rw (e, f, h)

  -- all three hold at a record, or one fails first
  data Reported (x : Entry) : Type 0 where
    fine : AllHold gs x → Reported x
    fault : {number r : ℕ} → Fails gs x number r → Reported x

  reported : (x : Entry) → Reported x
  reported (entry sc r kind) = at_tests (name_bound sc kind) refl (type_fits gs sc kind) refl (has_room gs sc kind) refl
    where
      at_tests : (a : Bool) → name_bound sc kind ≡ a → (b : Bool) → type_fits gs sc kind ≡ b → (c : Bool) → has_room gs sc kind ≡ c → Reported (entry sc r kind)
      at_tests false e b f c h = fault (name_not_bound e)
      at_tests true e false f c h = fault (wrong-type e f)
      at_tests true e true f false h = fault (too-many-words e f h)
      at_tests true e true f true h = fine (all_three e f h)

  -- pass one refuses where a condition first fails
  first_fails : (xs : List Entry) (number r : ℕ) → pass_over gs xs ≡ refusal number r → FirstFails gs xs number r
  unfolding pass_over
  first_fails [] number r e = done_not refl e
  first_fails (x ∷ xs) number r e = elim (reported x) [
    | fine h ↦ later h (first_fails xs number r (sym (then_done _ (holds_says h)) ∙ e))
    | fault {number = m} {r = q} f ↦
        let says = sym (then_refused _ (fails_says f)) ∙ e in
        let same : m ≡ number = cc in
        let position : q ≡ r = cc in
        here (rw (same, position) at f)
  ]

  fails_first : (xs : List Entry) (number r : ℕ) → FirstFails gs xs number r → pass_over gs xs ≡ refusal number r
  unfolding pass_over
  fails_first [] number r h = elim h [ ]
  fails_first (x ∷ xs) number r (here f) = then_refused _ (fails_says f)
  fails_first (x ∷ xs) number r (later h f) = then_done _ (holds_says h) ∙ fails_first xs number r f

pub pass-one :
    (program : Program) (number r : ℕ)
    → (pass_one program ≡ refusal number r) ↔ FirstFails (signatures program) (entered_all (first_node program) program.functions) number r
unfolding pass_one
pass-one program number r = (first_fails (signatures program) _ number r, fails_first (signatures program) _ number r)

-- ---- entries one after the other

-- a record that passes, with what follows it
pub record Passed (gs : List Signature) (sc : Scope) (kind : Kind) (xs : List Entry) : Type 0 where
  pub bound : name_bound sc kind ≡ true
  pub right : type_fits gs sc kind ≡ true
  pub room : has_room gs sc kind ≡ true
  pub rest : pass_over gs xs ≡ done tt

pub pass_inv : (gs : List Signature) (sc : Scope) (r : ℕ) (kind : Kind) (xs : List Entry) → pass_over gs (entry sc r kind ∷ xs) ≡ done tt
    → Passed gs sc kind xs
unfolding pass_over at_entry
pass_inv gs sc r kind xs e =
    let here = then_inv (at_entry gs (entry sc r kind)) _ tt e in
    let first = then_inv _ _ tt here.first in
    let second = then_inv _ _ tt first.second in
    record {
      bound = (check_inv (name_bound sc kind) not_bound r tt tt first.first).held;
      right = (check_inv (type_fits gs sc kind) wrong_type r tt tt second.first).held;
      room = (check_inv (has_room gs sc kind) too_many_words r tt tt second.second).held;
      rest = here.second;
    }

-- a record whose tests hold passes with what follows it
pub pass_more : (gs : List Signature) (sc : Scope) (r : ℕ) (kind : Kind) (xs : List Entry)
    → name_bound sc kind ≡ true
    → type_fits gs sc kind ≡ true
    → has_room gs sc kind ≡ true
    → pass_over gs xs ≡ done tt
    → pass_over gs (entry sc r kind ∷ xs) ≡ done tt
unfolding pass_over
pass_more gs sc r kind xs bound right room rest = then_done _ (holds_says gs (all_three bound right room)) ∙ rest

pub pass_nothing : (gs : List Signature) → pass_over gs [] ≡ done tt
unfolding pass_over
pass_nothing gs = refl

-- joined entries pass one after the other
pub pass_join : (gs : List Signature) (xs ys : List Entry) → pass_over gs (xs ++ ys) ≡ and_then (pass_over gs xs) (λ u. pass_over gs ys)
unfolding pass_over
pass_join gs [] ys = refl
pass_join gs (x ∷ xs) ys = after (at_entry gs x) (pass_over gs xs) (λ u. pass_over gs ys) (pass_join gs xs ys)
  where
    after : (r a : Result (Unit {0})) (next : Unit {0} → Result (Unit {0})) {b : Result (Unit {0})} → b ≡ and_then a next
        → and_then r (λ u. b) ≡ and_then (and_then r (λ u. a)) next
    after (done u) a next e = e
    after (refusal number position) a next e = refl

-- where they pass, each part does
pub pass_left : (gs : List Signature) (xs ys : List Entry) → pass_over gs (xs ++ ys) ≡ done tt → pass_over gs xs ≡ done tt
pass_left gs xs ys e = (then_inv (pass_over gs xs) _ tt (sym (pass_join gs xs ys) ∙ e)).first

pub pass_right : (gs : List Signature) (xs ys : List Entry) → pass_over gs (xs ++ ys) ≡ done tt → pass_over gs ys ≡ done tt
pass_right gs xs ys e = (then_inv (pass_over gs xs) _ tt (sym (pass_join gs xs ys) ∙ e)).second

-- where both parts pass, so do they joined
pub pass_both : (gs : List Signature) (xs ys : List Entry) → pass_over gs xs ≡ done tt → pass_over gs ys ≡ done tt → pass_over gs (xs ++ ys) ≡ done tt
pass_both gs xs ys e f = pass_join gs xs ys ∙ then_done _ e ∙ f

-- ---- types that pass the tests

pub int_is : (τ : Ty) → is_int τ ≡ true → τ ≡ Int
unfolding is_int
int_is Int e = refl
int_is Tree⁻ e = absurd (false≢true e)
int_is Tree⁺ e = absurd (false≢true e)
int_is (arrow σ τ) e = absurd (false≢true e)

pub tree_is : (τ : Ty) → is_output_tree τ ≡ true → τ ≡ Tree⁺
unfolding is_output_tree
tree_is Int e = absurd (false≢true e)
tree_is Tree⁻ e = absurd (false≢true e)
tree_is Tree⁺ e = refl
tree_is (arrow σ τ) e = absurd (false≢true e)

pub fits_is : (sort : Sort) (τ : Ty) → has_type sort τ ≡ true → τ ≡ result_type sort
unfolding has_type result_type
fits_is number_valued τ e = int_is τ e
fits_is tree_valued τ e = tree_is τ e

-- ---- expressions of each kind

-- the records of an expression pass, the first of them number r
abbrev pub Passes : List Signature → Scope → ℕ → Expr → Type 0
Passes gs sc r e = pass_over gs (entered sc r e) ≡ done tt

-- so do those of a Call's arguments from part i on
abbrev pub PassesArgs : List Signature → Kind → ℕ → Scope → ℕ → Args → Type 0
PassesArgs gs kind i sc r xs = pass_over gs (entered_args kind i sc r xs) ≡ done tt

-- a Call that passes
pub record Called (gs : List Signature) (g n w r : ℕ) (τ : Ty) (a b : ℕ) (xs : Args) : Type 0 where
  pub bound : a < n
  pub signature : Signature
  pub known : nth gs b ≡ some signature
  pub same : τ ≡ result_type signature.sort
  pub arguments : PassesArgs gs (Call a b) 0 (scope g n w τ) (suc r) xs

module _ (gs : List Signature) (g n w r : ℕ) (τ : Ty) where
  pub pass_const : (i : ℕ) → Passes gs (scope g n w τ) r (const i) → τ ≡ Int
  unfolding entered type_fits
  pass_const i e = int_is τ (pass_inv gs (scope g n w τ) r (Const i) [] e).right

  pub pass_var : (a : ℕ) → Passes gs (scope g n w τ) r (var a) → (a < g) × (τ ≡ Int)
  unfolding entered name_bound type_fits
  pass_var a e =
      let h = pass_inv gs (scope g n w τ) r (Var a) [] e in
      (ltb-true a g h.bound, int_is τ h.right)

  pub pass_compute : (op : Op) (p q : Expr) → Passes gs (scope g n w τ) r (compute op p q)
      → (τ ≡ Int) × Passes gs (scope g n w Int) (suc r) p × Passes gs (scope g n (suc w) Int) (suc r + size p) q
  unfolding entered inside type_fits
  pass_compute op p q e =
      let h = pass_inv gs (scope g n w τ) r (Compute op) _ e in
      let first = entered (scope g n w Int) (suc r) p in
      (int_is τ h.right, pass_left gs first _ h.rest, pass_right gs first _ h.rest)

  pub pass_if_zero : (t z o : Expr) → Passes gs (scope g n w τ) r (if_zero t z o)
      → Passes gs (scope g n w Int) (suc r) t
      × Passes gs (scope g n w τ) (suc r + size t) z
      × Passes gs (scope g n w τ) (suc r + size t + size z) o
  unfolding entered inside
  pass_if_zero t z o e =
      let h = pass_inv gs (scope g n w τ) r IfZero _ e in
      let first = entered (scope g n w Int) (suc r) t in
      let second = entered (scope g n w τ) (suc r + size t) z in
      let parts = pass_right gs first _ h.rest in
      (pass_left gs first _ h.rest, pass_left gs second _ parts, pass_right gs second _ parts)

  pub pass_let : (p body : Expr) → Passes gs (scope g n w τ) r (let_in p body)
      → Passes gs (scope g n w Int) (suc r) p × Passes gs (scope (suc g) n (suc w) τ) (suc r + size p) body
  unfolding entered inside
  pass_let p body e =
      let h = pass_inv gs (scope g n w τ) r Let _ e in
      let first = entered (scope g n w Int) (suc r) p in
      (pass_left gs first _ h.rest, pass_right gs first _ h.rest)

  pub pass_leaf : (p : Expr) → Passes gs (scope g n w τ) r (leaf_of p) → (τ ≡ Tree⁺) × Passes gs (scope g n w Int) (suc r) p
  unfolding entered inside type_fits
  pass_leaf p e =
      let h = pass_inv gs (scope g n w τ) r Leaf _ e in
      (tree_is τ h.right, h.rest)

  pub pass_node : (p q : Expr) → Passes gs (scope g n w τ) r (node_of p q)
      → (τ ≡ Tree⁺) × Passes gs (scope g n w Tree⁺) (suc r) p × Passes gs (scope g n w Tree⁺) (suc r + size p) q
  unfolding entered inside type_fits
  pass_node p q e =
      let h = pass_inv gs (scope g n w τ) r Node _ e in
      let first = entered (scope g n w Tree⁺) (suc r) p in
      (tree_is τ h.right, pass_left gs first _ h.rest, pass_right gs first _ h.rest)

  pub pass_case : (a : ℕ) (p q : Expr) → Passes gs (scope g n w τ) r (case_of a p q)
      → (a < n)
      × Passes gs (scope (suc g) n (suc w) τ) (suc r) p
      × Passes gs (scope g (suc (suc n)) w τ) (suc r + size p) q
  unfolding entered inside name_bound
  pass_case a p q e =
      let h = pass_inv gs (scope g n w τ) r (Case a) _ e in
      let first = entered (scope (suc g) n (suc w) τ) (suc r) p in
      (ltb-true a n h.bound, pass_left gs first _ h.rest, pass_right gs first _ h.rest)

  pub pass_call : (a b : ℕ) (xs : Args) → Passes gs (scope g n w τ) r (call a b xs) → Called gs g n w r τ a b xs
  unfolding entered name_bound type_fits
  pass_call a b xs e = known (nth gs b) refl (pass_inv gs (scope g n w τ) r (Call a b) _ e)
    where
      known : (o : Option Signature) → nth gs b ≡ o → Passed gs (scope g n w τ) (Call a b) (entered_args (Call a b) 0 (scope g n w τ) (suc r) xs)
          → Called gs g n w r τ a b xs
      known none f h = absurd (false≢true (rw (f, type_fits) at h.right))
      known (some s) f h = record {
        bound = ltb-true a n h.bound;
        signature = s;
        known = f;
        same = fits_is s.sort τ (rw (f, type_fits) at h.right);
        arguments = h.rest;
      }

  pub pass_arg : (a b i : ℕ) (x : Expr) (xs : Args) → PassesArgs gs (Call a b) i (scope g n w τ) r (arg x xs)
      → Passes gs (scope g n (w + i) Int) r x × PassesArgs gs (Call a b) (suc i) (scope g n w τ) (r + size x) xs
  unfolding entered_args inside
  pass_arg a b i x xs e = let first = entered (scope g n (w + i) Int) r x in (pass_left gs first _ e, pass_right gs first _ e)
