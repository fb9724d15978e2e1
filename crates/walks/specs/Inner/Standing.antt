-- Expressions in flat records: their own record, and their parts one after the other.
use Rattle.std.specs.Prelude.{ℕ, suc, ◌+◌, ◌≤◌, List, [], ◌∷◌, ◌≡◌}
use Rattle.formats.specs.Results.{Result, done, and_then, each}
use Rattle.formats.specs.Records.{Kind, Const, Var, Compute, IfZero, Let, Leaf, Node, Case, Call}
use Rattle.formats.specs.Programs.{Expr, const, var, compute, if_zero, let_in, leaf_of, node_of, case_of, call, prefix, size, Placed, placed_at, CallsComplete, Every, InRange, Signature, signature_of, Function, arity_of}
use Rattle.formats.specs.Inner.Fields.{header_in, function_in}
use Rattle.formats.specs.ProgramFiles.{RecordsAt}
use Rattle.rules.specs.Scopes.{Scope, inside, entered}
use Rattle.rules.specs.PassOne.{pass_over}
use Rattle.rules.specs.PassTwo.{walk}
use Rattle.walks.specs.Inner.Limits.{parameters_of_any}

-- gs are the signatures in the function records of s.
abbrev pub Known : List ℕ → List Signature → Type 0
Known s gs = each (function_in s) (header_in s).functions 0 ≡ done gs

-- The kind of an expression's own record.
unfoldable pub head_of : Expr → Kind
head_of (const i) = Const i
head_of (var a) = Var a
head_of (compute op p q) = Compute op
head_of (if_zero t z o) = IfZero
head_of (let_in p body) = Let
head_of (leaf_of p) = Leaf
head_of (node_of p q) = Node
head_of (case_of a p q) = Case a
head_of (call a b xs) = Call a b

-- The records of e stand in s from record k on, and it is an expression of a program with these
-- signatures.
pub record Holds (s : List ℕ) (gs : List Signature) (k : ℕ) (e : Expr) : Type 0 where
  pub stands : RecordsAt s k (prefix e)
  pub in_range : Every (InRange (header_in s).functions) (prefix e)
  pub applied : CallsComplete (arity_of gs) e

-- Expressions stand one after the other, the first from record k on, and the last ends before
-- record m.
pub data Row (s : List ℕ) (gs : List Signature) : ℕ → List Placed → ℕ → Type 0 where
  end : {k : ℕ} → Row s gs k [] k
  next : {k m : ℕ} {e : Expr} {ps : List Placed} → Holds s gs k e → Row s gs (k + size e) ps m → Row s gs k (placed_at k e ∷ ps) m

-- Pass one over the parts of a record of this kind, the first of them part i.
unfoldable pub pass_parts : List Signature → Kind → ℕ → Scope → List Placed → Result (Unit {0})
pass_parts gs kind i sc [] = done tt
pass_parts gs kind i sc (p ∷ ps) =
    and_then (pass_over gs (entered (inside kind i sc) p.at_record p.expr)) (λ u. pass_parts gs kind (suc i) sc ps)

-- Pass two over parts, one after the other.
unfoldable pub walk_parts : ℕ → List ℕ → List Placed → Result (List ℕ)
walk_parts n Δ [] = done Δ
walk_parts n Δ (p ∷ ps) = and_then (walk n p.at_record Δ p.expr) (λ Δ'. walk_parts n Δ' ps)

-- The bodies of functions from number j on stand in s, the first from record k on, with these
-- signatures.
pub data Bodies (s : List ℕ) (gs : List Signature) : ℕ → ℕ → List Function → Type 0 where
  no_more : {j k : ℕ} → Bodies s gs j k []
  one_more :
      {j k : ℕ} {f : Function} {fs : List Function}
      → function_in s j ≡ done (signature_of f)
      → f.parameters ≤ parameters_of_any
      → Holds s gs k f.body
      → Bodies s gs (suc j) (k + size f.body) fs
      → Bodies s gs j k (f ∷ fs)
