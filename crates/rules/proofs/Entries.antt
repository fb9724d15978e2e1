-- Pass one goes through the nodes in prefix order, one record after the other. What it expects of
-- parts, and all that is known in them, is what the match over the kinds says of them.
use Prim.Native.Nat.{ℕ, zero, suc, ◌+◌, ◌<◌}
use mathlib.Core.List.{List, [], ◌∷◌, ◌++◌, map, map-append}
use mathlib.Core.Path.{◌≡◌, refl, sym, ap, subst, ◌∙◌}
use native.Mathlib.Nat.{add-zero, add-suc, suc-add}
use native.Mathlib.Numerals.{add-one}
use native.Mathlib.Omega.{arith}
use lib.ListN.{length, length-map}
use Rattle.formats.specs.Records.{Kind, Const, Var, Compute, IfZero, Let, Leaf, Node, Case, Call, nth, a_number, a_tree, as_whole, under_number, under_trees, parts_of, nth_part, part_count}
use Rattle.formats.specs.Programs.{Expr, const, var, compute, if_zero, let_in, leaf_of, node_of, case_of, call, Args, no_args, arg}
use Rattle.formats.specs.Programs.{prefix, prefixes, size, Function, Program, nodes}
use Rattle.rules.specs.Types.{Int}
use Rattle.rules.specs.Scopes.{Scope, scope, inside, part_scope, expected_in, part_type, PartTyped, one_of_these, none_of_these, an_argument}
use Rattle.rules.specs.Scopes.{start_of, Entry, entry, entered, entered_args, entered_all}
use Rattle.rules.specs.OrderChecker.{first_node, Numbered, kind_in}

-- ---- prefix order

-- the kinds of an expression's entries are its records'
mutual
  unfolding entered prefix kind_in

  pub kinds_entered : (e : Expr) (sc : Scope) (r : ℕ) → map kind_in (entered sc r e) ≡ prefix e
  kinds_entered (const i) sc r = refl
  kinds_entered (var a) sc r = refl
  kinds_entered (compute op p q) sc r = simp (map-append, kinds_entered p, kinds_entered q)
  kinds_entered (if_zero t z o) sc r = simp (map-append, kinds_entered t, kinds_entered z, kinds_entered o)
  kinds_entered (let_in p body) sc r = simp (map-append, kinds_entered p, kinds_entered body)
  kinds_entered (leaf_of p) sc r = simp (kinds_entered p)
  kinds_entered (node_of p q) sc r = simp (map-append, kinds_entered p, kinds_entered q)
  kinds_entered (case_of a p q) sc r = simp (map-append, kinds_entered p, kinds_entered q)
  kinds_entered (call a b xs) sc r = ap (λ l. Call a b ∷ l) (kinds_args xs (Call a b) 0 sc (suc r))

  kinds_args : (xs : Args) (kind : Kind) (i : ℕ) (sc : Scope) (r : ℕ) → map kind_in (entered_args kind i sc r xs) ≡ prefixes xs
  kinds_args no_args kind i sc r = refl
  kinds_args (arg x xs) kind i sc r = simp (map-append, kinds_entered x (inside kind i sc) r, kinds_args xs)

kinds_all : (r : ℕ) (fs : List Function) → map kind_in (entered_all r fs) ≡ nodes fs
unfolding entered_all nodes
kinds_all r [] = refl
kinds_all r (f ∷ fs) = simp (map-append, kinds_entered, kinds_all (r + size f.body) fs)

pub in_prefix_order : (program : Program) → map kind_in (entered_all (first_node program) program.functions) ≡ nodes program.functions
in_prefix_order program = kinds_all (first_node program) program.functions

-- ---- one by one

-- entries after others
numbered_join : (r : ℕ) (xs ys : List Entry) → Numbered r xs → Numbered (r + length xs) ys → Numbered r (xs ++ ys)
numbered_join r [] ys h k = rw add-zero at k
numbered_join r (entry sc m kind ∷ xs) ys h k =
    (h.0, numbered_join (suc r) xs ys h.1 (subst (λ (j : ℕ). Numbered j ys) (add-suc _ _ ∙ sym (suc-add _ _)) k))

-- entries after those of an expression
numbered_after : (sc : Scope) (r : ℕ) (e : Expr) (ys : List Entry) → Numbered r (entered sc r e) → Numbered (r + size e) ys
    → Numbered r (entered sc r e ++ ys)
unfolding size
numbered_after sc r e ys h k = numbered_join r (entered sc r e) ys h (rw (← (kinds_entered e sc r), length-map) at k)

-- an expression's entries are numbered from its own record on
mutual
  unfolding entered

  pub numbered : (e : Expr) (sc : Scope) (r : ℕ) → Numbered r (entered sc r e)
  numbered (const i) sc r = (refl, tt)
  numbered (var a) sc r = (refl, tt)
  numbered (compute op p q) sc r = (refl, numbered_after _ (suc r) p _ (numbered p _ _) (numbered q _ _))
  numbered (if_zero t z o) sc r =
      (refl, numbered_after _ (suc r) t _ (numbered t _ _) (numbered_after _ _ z _ (numbered z _ _) (numbered o _ _)))
  numbered (let_in p body) sc r = (refl, numbered_after _ (suc r) p _ (numbered p _ _) (numbered body _ _))
  numbered (leaf_of p) sc r = (refl, numbered p _ _)
  numbered (node_of p q) sc r = (refl, numbered_after _ (suc r) p _ (numbered p _ _) (numbered q _ _))
  numbered (case_of a p q) sc r = (refl, numbered_after _ (suc r) p _ (numbered p _ _) (numbered q _ _))
  numbered (call a b xs) sc r = (refl, numbered_args xs (Call a b) 0 sc (suc r))

  numbered_args : (xs : Args) (kind : Kind) (i : ℕ) (sc : Scope) (r : ℕ) → Numbered r (entered_args kind i sc r xs)
  numbered_args no_args kind i sc r = tt
  numbered_args (arg x xs) kind i sc r =
      numbered_after _ r x _ (numbered x (inside kind i sc) r) (numbered_args xs kind (suc i) sc (r + size x))

numbered_all : (r : ℕ) (fs : List Function) → Numbered r (entered_all r fs)
unfolding entered_all
numbered_all r [] = tt
numbered_all r (f ∷ fs) = numbered_after _ r f.body _ (numbered f.body (start_of f) r) (numbered_all (r + size f.body) fs)

pub one_by_one : (program : Program) → Numbered (first_node program) (entered_all (first_node program) program.functions)
one_by_one program = numbered_all (first_node program) program.functions

-- ---- the types of parts

pub part_types : (kind : Kind) (i : ℕ) (sc : Scope) → PartTyped (parts_of kind) i (expected_in sc) (expected_in (inside kind i sc))
unfolding parts_of inside expected_in part_type nth
part_types (Const c) i sc = none_of_these refl
part_types (Var a) i sc = none_of_these refl
part_types (Compute op) zero (scope g n w τ) = one_of_these a_number refl
part_types (Compute op) (suc zero) (scope g n w τ) = one_of_these a_number refl
part_types (Compute op) (suc (suc i)) (scope g n w τ) = none_of_these refl
part_types IfZero zero (scope g n w τ) = one_of_these a_number refl
part_types IfZero (suc zero) (scope g n w τ) = one_of_these as_whole refl
part_types IfZero (suc (suc zero)) (scope g n w τ) = one_of_these as_whole refl
part_types IfZero (suc (suc (suc i))) (scope g n w τ) = none_of_these refl
part_types Let zero (scope g n w τ) = one_of_these a_number refl
part_types Let (suc zero) (scope g n w τ) = one_of_these under_number refl
part_types Let (suc (suc i)) (scope g n w τ) = none_of_these refl
part_types Leaf zero (scope g n w τ) = one_of_these a_number refl
part_types Leaf (suc i) (scope g n w τ) = none_of_these refl
part_types Node zero (scope g n w τ) = one_of_these a_tree refl
part_types Node (suc zero) (scope g n w τ) = one_of_these a_tree refl
part_types Node (suc (suc i)) (scope g n w τ) = none_of_these refl
part_types (Case a) zero (scope g n w τ) = one_of_these under_number refl
part_types (Case a) (suc zero) (scope g n w τ) = one_of_these under_trees refl
part_types (Case a) (suc (suc i)) (scope g n w τ) = none_of_these refl
part_types (Call a b) i (scope g n w τ) = an_argument

-- ---- what is known on entering them

-- a number part as the first, and as the second
first_number : (g n w : ℕ) → scope g n w Int ≡ scope g n (w + 0) Int
first_number g n w = sym (ap (λ m. scope g n m Int) (add-zero w))

second_number : (g n w : ℕ) → scope g n (suc w) Int ≡ scope g n (w + 1) Int
second_number g n w = sym (ap (λ m. scope g n m Int) (add-one w))

pub part_scopes : (arity : ℕ → ℕ) (kind : Kind) (i : ℕ) (sc : Scope) → i < part_count arity (parts_of kind) → inside kind i sc ≡ part_scope (nth_part (parts_of kind) i) i sc
unfolding parts_of part_count nth_part inside part_scope nth
part_scopes arity (Const c) i (scope g n w τ) h = absurd (omega arith)
part_scopes arity (Var a) i (scope g n w τ) h = absurd (omega arith)
part_scopes arity (Compute op) zero (scope g n w τ) h = first_number g n w
part_scopes arity (Compute op) (suc zero) (scope g n w τ) h = second_number g n w
part_scopes arity (Compute op) (suc (suc i)) (scope g n w τ) h = absurd (omega arith)
part_scopes arity IfZero zero (scope g n w τ) h = first_number g n w
part_scopes arity IfZero (suc zero) (scope g n w τ) h = refl
part_scopes arity IfZero (suc (suc zero)) (scope g n w τ) h = refl
part_scopes arity IfZero (suc (suc (suc i))) (scope g n w τ) h = absurd (omega arith)
part_scopes arity Let zero (scope g n w τ) h = first_number g n w
part_scopes arity Let (suc zero) (scope g n w τ) h = refl
part_scopes arity Let (suc (suc i)) (scope g n w τ) h = absurd (omega arith)
part_scopes arity Leaf zero (scope g n w τ) h = first_number g n w
part_scopes arity Leaf (suc i) (scope g n w τ) h = absurd (omega arith)
part_scopes arity Node zero (scope g n w τ) h = refl
part_scopes arity Node (suc zero) (scope g n w τ) h = refl
part_scopes arity Node (suc (suc i)) (scope g n w τ) h = absurd (omega arith)
part_scopes arity (Case a) zero (scope g n w τ) h = refl
part_scopes arity (Case a) (suc zero) (scope g n w τ) h = refl
part_scopes arity (Case a) (suc (suc i)) (scope g n w τ) h = absurd (omega arith)
part_scopes arity (Call a b) i (scope g n w τ) h = refl
