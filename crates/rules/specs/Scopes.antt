-- 01, Names, 01, Words and 01, Pass one: what is known on entering each record of a function body,
-- in prefix order.
use Rattle.std.specs.Prelude.{ℕ, zero, suc, ◌+◌, List, [], ◌∷◌, ◌++◌, ◌≡◌}
use Rattle.std.proofs.Math.Option.{none, some}
use Rattle.formats.specs.Records.{Kind, Const, Var, Compute, IfZero, Let, Leaf, Node, Case, Call, nth, Part, a_number, a_tree, as_whole, under_number, under_trees, Parts, these, arguments_of}
use Rattle.formats.specs.Programs.{Expr, const, var, compute, if_zero, let_in, leaf_of, node_of, case_of, call, Args, no_args, arg, size, Function}
use Rattle.rules.specs.Types.{Ty, Int, Tree⁺, result_type}

-- How many number names and tree names are bound, how many words stand above the frame's base, and
-- the type that is expected.
pub data Scope : Type 0 where
  scope : (numbers trees words : ℕ) (expected : Ty) → Scope

-- What is known on entering a function's body. 01, Names: "Names count from 0 along the path:
-- parameters first". Its number parameters are the first words of the frame.
unfoldable pub start_of : Function → Scope
start_of f = scope f.parameters 1 f.parameters (result_type f.sort)

-- What is known on entering part i of a record, counted from 0. 01, Names: "Let's body and Case's
-- leaf part add one number name, Case's node part two tree names". 01, Pass one: "Add's parts,
-- tests, Let's first part, Leaf's part and arguments are numbers; Node's parts are trees; other
-- parts take the type expected of the whole." A number of an earlier part stands on a word of its
-- own, and so does the number of a name. The word of a test is gone.
unfoldable pub inside : Kind → ℕ → Scope → Scope
inside (Const c) i sc = sc
inside (Var a) i sc = sc
inside (Compute op) zero (scope g n w τ) = scope g n w Int
inside (Compute op) (suc i) (scope g n w τ) = scope g n (suc w) Int
inside IfZero zero (scope g n w τ) = scope g n w Int
inside IfZero (suc i) (scope g n w τ) = scope g n w τ
inside Let zero (scope g n w τ) = scope g n w Int
inside Let (suc i) (scope g n w τ) = scope (suc g) n (suc w) τ
inside Leaf i (scope g n w τ) = scope g n w Int
inside Node i (scope g n w τ) = scope g n w Tree⁺
inside (Case a) zero (scope g n w τ) = scope (suc g) n (suc w) τ
inside (Case a) (suc i) (scope g n w τ) = scope g (suc (suc n)) w τ
inside (Call a b) i (scope g n w τ) = scope g n (w + i) Int

-- The same from what part i is, whatever the record's kind (OrderChecker: `part_scopes`).
unfoldable pub part_scope : Part → ℕ → Scope → Scope
part_scope a_number i (scope g n w τ) = scope g n (w + i) Int
part_scope a_tree i (scope g n w τ) = scope g n w Tree⁺
part_scope as_whole i (scope g n w τ) = scope g n w τ
part_scope under_number i (scope g n w τ) = scope (suc g) n (suc w) τ
part_scope under_trees i (scope g n w τ) = scope g (suc (suc n)) w τ

unfoldable pub expected_in : Scope → Ty
expected_in (scope g n w τ) = τ

-- The type of a part, where τ is expected of the whole.
unfoldable pub part_type : Part → Ty → Ty
part_type a_number τ = Int
part_type a_tree τ = Tree⁺
part_type as_whole τ = τ
part_type under_number τ = τ
part_type under_trees τ = τ

-- Part i of these parts, if there is one, has type σ where τ is expected of the whole.
pub data PartTyped : Parts → ℕ → Ty → Ty → Type 0 where
  one_of_these : {ps : List Part} {i : ℕ} {τ : Ty} (p : Part) → nth ps i ≡ some p → PartTyped (these ps) i τ (part_type p τ)
  none_of_these : {ps : List Part} {i : ℕ} {τ σ : Ty} → nth ps i ≡ none → PartTyped (these ps) i τ σ
  an_argument : {b i : ℕ} {τ : Ty} → PartTyped (arguments_of b) i τ Int

-- A record entered: what is known, its number, its kind.
pub data Entry : Type 0 where
  entry : (known : Scope) (at_record : ℕ) (kind : Kind) → Entry

-- The records of the expression at record r, in prefix order, each with what is known on entering
-- it.
unfoldable mutual
  pub entered : Scope → ℕ → Expr → List Entry
  entered sc r (const i) = entry sc r (Const i) ∷ []
  entered sc r (var a) = entry sc r (Var a) ∷ []
  entered sc r (compute op p q) = entry sc r (Compute op) ∷ (entered (inside (Compute op) 0 sc) (suc r) p ++ entered (inside (Compute op) 1 sc) (suc r + size p) q)
  entered sc r (if_zero t z o) =
      entry sc r IfZero
      ∷ (entered (inside IfZero 0 sc) (suc r) t
      ++ (entered (inside IfZero 1 sc) (suc r + size t) z ++ entered (inside IfZero 2 sc) (suc r + size t + size z) o))
  entered sc r (let_in p body) = entry sc r Let ∷ (entered (inside Let 0 sc) (suc r) p ++ entered (inside Let 1 sc) (suc r + size p) body)
  entered sc r (leaf_of p) = entry sc r Leaf ∷ entered (inside Leaf 0 sc) (suc r) p
  entered sc r (node_of p q) = entry sc r Node ∷ (entered (inside Node 0 sc) (suc r) p ++ entered (inside Node 1 sc) (suc r + size p) q)
  entered sc r (case_of a p q) =
      entry sc r (Case a) ∷ (entered (inside (Case a) 0 sc) (suc r) p ++ entered (inside (Case a) 1 sc) (suc r + size p) q)
  entered sc r (call a b xs) = entry sc r (Call a b) ∷ entered_args (Call a b) 0 sc (suc r) xs

  -- The arguments of a Call from part i on.
  pub entered_args : Kind → ℕ → Scope → ℕ → Args → List Entry
  entered_args kind i sc r no_args = []
  entered_args kind i sc r (arg x xs) = entered (inside kind i sc) r x ++ entered_args kind (suc i) sc (r + size x) xs

-- The same for all nodes of these functions. The first node of the first one is record r.
unfoldable pub entered_all : ℕ → List Function → List Entry
entered_all r [] = []
entered_all r (f ∷ fs) = entered (start_of f) r f.body ++ entered_all (r + size f.body) fs
