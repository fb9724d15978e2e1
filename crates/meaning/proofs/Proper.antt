-- What pass one says of a program, expression by expression: every name is bound, every part is of
-- the sort that is expected, and each Call has as many arguments as its function has number
-- parameters.
--
-- That a program which passes is proper is shown by recursion on each body, with the laws of pass
-- one for each kind of record. Pass one speaks of types and of signatures: a sort is known by its
-- values' type, and a signature is that of a function. The ranges of constants and the counts of
-- arguments come from the limits of 01, Lawful programs.
use Prim.Native.Nat.{ℕ, zero, suc, ◌+◌, ◌^◌, ◌≤◌, ◌<◌}
use mathlib.Core.List.{List, [], ◌∷◌, map}
use mathlib.Core.Option.{some, some-injective, none-ne-some, map-eq-some_iff}
use mathlib.Core.Path.{◌≡◌, refl, sym, ap, ◌∙◌}
use native.Mathlib.Omega.{arith}
use lib.ListN.{length}
use Rattle.formats.specs.Arithmetic.{Op}
use Rattle.formats.specs.Results.{done}
use Rattle.formats.specs.Records.{Call, nth}
use Rattle.formats.specs.Programs.{Expr, const, var, compute, if_zero, let_in, leaf_of, node_of, case_of, call, Args, no_args, arg, prefix, prefixes}
use Rattle.formats.specs.Programs.{count_args, CallsComplete, ArgsComplete, Sort, number_valued, tree_valued, Signature, arity_of, Function, signature_of}
use Rattle.formats.specs.Programs.{Program, signatures, most_parameters, InRange, Every, LawfulFunctions}
use Rattle.formats.proofs.Records.{nth_map}
use Rattle.formats.proofs.Programs.{every_left, every_right}
use Rattle.rules.specs.Types.{Ty, result_type}
use Rattle.rules.specs.Scopes.{scope, start_of, entered, entered_all}
use Rattle.rules.specs.PassOne.{pass_over, pass_one}
use Rattle.rules.proofs.PassOne.{Passes, PassesArgs, pass_left, pass_right}
use Rattle.rules.proofs.PassOne.{pass_const, pass_var, pass_compute, pass_if_zero, pass_let, pass_leaf, pass_node, pass_case, pass_call, pass_arg}
use Rattle.meaning.specs.Meaning.{PassesOne}

-- `Proper fs g n s e`: among functions fs, with g number names and n tree names bound, e has a
-- value of sort s.
mutual
  pub data Proper (fs : List Function) : ℕ → ℕ → Sort → Expr → Type 0 where
    proper_const : {g n i : ℕ} → i < 2 ^ 32 → Proper fs g n number_valued (const i)
    proper_var : {g n a : ℕ} → a < g → Proper fs g n number_valued (var a)
    proper_compute :
        {g n : ℕ} {op : Op} {p q : Expr}
        → Proper fs g n number_valued p
        → Proper fs g n number_valued q
        → Proper fs g n number_valued (compute op p q)
    proper_if_zero :
        {g n : ℕ} {s : Sort} {t z o : Expr}
        → Proper fs g n number_valued t
        → Proper fs g n s z
        → Proper fs g n s o
        → Proper fs g n s (if_zero t z o)
    proper_let : {g n : ℕ} {s : Sort} {p body : Expr} → Proper fs g n number_valued p → Proper fs (suc g) n s body → Proper fs g n s (let_in p body)
    proper_leaf : {g n : ℕ} {p : Expr} → Proper fs g n number_valued p → Proper fs g n tree_valued (leaf_of p)
    proper_node : {g n : ℕ} {p q : Expr} → Proper fs g n tree_valued p → Proper fs g n tree_valued q → Proper fs g n tree_valued (node_of p q)
    proper_case :
        {g n a : ℕ} {s : Sort} {p q : Expr}
        → a < n
        → Proper fs (suc g) n s p
        → Proper fs g (suc (suc n)) s q
        → Proper fs g n s (case_of a p q)
    proper_call :
        {g n a b : ℕ} {s : Sort} {xs : Args} {f : Function}
        → a < n
        → nth fs b ≡ some f
        → s ≡ f.sort
        → ProperArgs fs g n f.parameters xs
        → Proper fs g n s (call a b xs)

  -- So many arguments, each a number.
  pub data ProperArgs (fs : List Function) : ℕ → ℕ → ℕ → Args → Type 0 where
    proper_none : {g n : ℕ} → ProperArgs fs g n 0 no_args
    proper_arg : {g n k : ℕ} {x : Expr} {xs : Args} → Proper fs g n number_valued x → ProperArgs fs g n k xs → ProperArgs fs g n (suc k) (arg x xs)

-- there are as many as it says
pub count_proper : {fs : List Function} {g n count : ℕ} {xs : Args} → ProperArgs fs g n count xs → count_args xs ≡ count
unfolding count_args
count_proper proper_none = refl
count_proper (proper_arg x xs) = ap suc (count_proper xs)

-- Each function's body is proper under its own parameters; function 0 has no number parameters.
pub record ProperProgram (program : Program) : Type 0 where
  pub bodies : (b : ℕ) (f : Function) → nth program.functions b ≡ some f → Proper program.functions f.parameters 1 f.sort f.body
  pub first : Function
  pub is_first : nth program.functions 0 ≡ some first
  pub bare : first.parameters ≡ 0

-- ---- what passes is proper

-- a sort is known by its values' type
pub sort_by_type : (s u : Sort) → result_type s ≡ result_type u → s ≡ u
unfolding result_type
sort_by_type number_valued number_valued e = refl
sort_by_type number_valued tree_valued e = cc
sort_by_type tree_valued number_valued e = cc
sort_by_type tree_valued tree_valued e = refl

module _ (fs : List Function) where
  -- Their signatures.
  abbrev gs : List Signature
  gs = map signature_of fs

  -- expression by expression
  mutual
    unfolding prefix result_type arity_of signature_of count_args

    passing : {g n : ℕ} {s : Sort} (w r : ℕ) (e : Expr)
        → Passes gs (scope g n w (result_type s)) r e
        → Every (InRange (length gs)) (prefix e)
        → CallsComplete (arity_of gs) e
        → Proper fs g n s e
    passing {g} {n} {s} w r (const i) h ranged applied = rw (sort_by_type s number_valued (pass_const _ g n w r _ i h)) (proper_const ranged.0)
    passing {g} {n} {s} w r (var a) h ranged applied =
        let found = pass_var _ g n w r _ a h in
        rw (sort_by_type s number_valued found.1) (proper_var found.0)
    passing {g} {n} {s} w r (compute op p q) h ranged applied =
        let parts = pass_compute _ g n w r _ op p q h in
        rw (sort_by_type s number_valued parts.0)
        (proper_compute
        (passing w _ p parts.1 (every_left _ (prefix p) (prefix q) ranged.1) applied.0)
        (passing (suc w) _ q parts.2 (every_right _ (prefix p) (prefix q) ranged.1) applied.1))
    passing {g} {n} {s} w r (if_zero t z o) h ranged applied =
        let parts = pass_if_zero _ g n w r _ t z o h in
        let others = every_right _ (prefix t) _ ranged.1 in
        proper_if_zero
        (passing w _ t parts.0 (every_left _ (prefix t) _ ranged.1) applied.0)
        (passing w _ z parts.1 (every_left _ (prefix z) (prefix o) others) applied.1.0)
        (passing w _ o parts.2 (every_right _ (prefix z) (prefix o) others) applied.1.1)
    passing {g} {n} {s} w r (let_in p body) h ranged applied =
        let parts = pass_let _ g n w r _ p body h in
        proper_let
        (passing w _ p parts.0 (every_left _ (prefix p) (prefix body) ranged.1) applied.0)
        (passing (suc w) _ body parts.1 (every_right _ (prefix p) (prefix body) ranged.1) applied.1)
    passing {g} {n} {s} w r (leaf_of p) h ranged applied =
        let parts = pass_leaf _ g n w r _ p h in
        rw (sort_by_type s tree_valued parts.0) (proper_leaf (passing w _ p parts.1 ranged.1 applied))
    passing {g} {n} {s} w r (node_of p q) h ranged applied =
        let parts = pass_node _ g n w r _ p q h in
        rw (sort_by_type s tree_valued parts.0)
        (proper_node
        (passing w _ p parts.1 (every_left _ (prefix p) (prefix q) ranged.1) applied.0)
        (passing w _ q parts.2 (every_right _ (prefix p) (prefix q) ranged.1) applied.1))
    passing {g} {n} {s} w r (case_of a p q) h ranged applied =
        let parts = pass_case _ g n w r _ a p q h in
        proper_case
        parts.0
        (passing (suc w) _ p parts.1 (every_left _ (prefix p) (prefix q) ranged.1) applied.0)
        (passing w _ q parts.2 (every_right _ (prefix p) (prefix q) ranged.1) applied.1)
    passing {g} {n} {s} w r (call a b xs) h ranged applied =
        let c = pass_call _ g n w r _ a b xs h in
        let (f, known, its) = (map-eq-some_iff signature_of (nth fs b)).0 (sym (nth_map signature_of fs b) ∙ c.known) in
        let same : result_type s ≡ result_type f.sort = c.same ∙ ap (λ u. result_type u.sort) (sym its) in
        let many : count_args xs ≡ f.parameters = rw (c.known, arity_of) at applied.0 ∙ ap (λ u. u.parameters) (sym its) in
        let args = passing_args w _ _ a b 0 xs c.arguments ranged.1 applied.1 in
        proper_call c.bound known (sort_by_type s f.sort same) (rw many at args)

    -- a Call's arguments from part i on, where τ is expected of the Call
    passing_args : {g n : ℕ} (w r : ℕ) (τ : Ty) (a b i : ℕ) (xs : Args)
        → PassesArgs gs (Call a b) i (scope g n w τ) r xs
        → Every (InRange (length gs)) (prefixes xs)
        → ArgsComplete (arity_of gs) xs
        → ProperArgs fs g n (count_args xs) xs
    passing_args w r τ a b i no_args h ranged applied = proper_none
    passing_args {g} {n} w r τ a b i (arg x xs) h ranged applied =
        let parts = pass_arg _ g n w r τ a b i x xs h in
        proper_arg
        (passing (w + i) r x parts.0 (every_left _ (prefix x) (prefixes xs) ranged) applied.0)
        (passing_args w _ τ a b (suc i) xs parts.1 (every_right _ (prefix x) (prefixes xs) ranged) applied.1)

  -- function by function, numbered from j on, the first body at record r
  passing_bodies : (j r : ℕ) (others : List Function)
      → pass_over gs (entered_all r others) ≡ done tt
      → LawfulFunctions gs j others
      → (b : ℕ) (f : Function) → nth others b ≡ some f → Proper fs f.parameters 1 f.sort f.body
  unfolding entered_all start_of nth
  passing_bodies j r [] h lawful b f e = absurd (none-ne-some f e)
  passing_bodies j r (g ∷ others) h lawful zero f e =
      let here = pass_left gs (entered (start_of g) r g.body) _ h in
      rw (← some-injective g f e) (passing g.parameters r g.body here lawful.0.in_range lawful.0.applied)
  passing_bodies j r (g ∷ others) h lawful (suc b) f e =
      passing_bodies (suc j) _ others (pass_right gs (entered (start_of g) r g.body) _ h) lawful.1 b f e

-- a program that passes pass one is proper
pub proper : (program : Program) → PassesOne program → ProperProgram program
unfolding pass_one nth most_parameters
proper program p = by_first program.functions refl p.lawful.some_function p.lawful.functions
  where
    by_first : (fs : List Function) → program.functions ≡ fs → 1 ≤ length fs → LawfulFunctions (signatures program) 0 fs → ProperProgram program
    by_first [] e some_function lawful = absurd (omega arith)
    by_first (f ∷ fs) e some_function lawful = record {
      bodies = passing_bodies program.functions 0 _ program.functions p.passes p.lawful.functions;
      first = f;
      is_first = ap (λ l. nth l 0) e;
      bare = omega (arith, lawful.0.few_parameters);
    }
