-- 01, Where each refusal arises: the rows header, functions, nodes and prefix form over flat
-- records. 01, The order of the tests: "A check row is finished for the whole file before the next
-- begins."
use Rattle.std.specs.Prelude.{ℕ, zero, suc, ◌+◌, ◌*◌, ◌&&◌, List, [], ◌∷◌, length, take, drop, leb, eqb}
use Rattle.std.proofs.Math.Option.{Option, none, some}
use Rattle.formats.specs.Refusals.{header_field, function_field, prefix_form}
use Rattle.formats.specs.Results.{Result, done, refusal, and_then, value_if, each}
use Rattle.formats.specs.Records.{Record, fields, record_bytes, record_at, Kind, Const, Var, Compute, IfZero, Let, Leaf, Node, Case, Call, nth, node_record}
use Rattle.formats.specs.Programs.{Expr, const, var, compute, if_zero, let_in, leaf_of, node_of, case_of, call, Args, no_args, arg}
use Rattle.formats.specs.Programs.{Sort, number_valued, tree_valued, Signature, arity_of, sum_of_counts, Function, Program, Header, first_edition, most_functions, most_nodes, most_parameters}

-- The header, from the fields of record 0 and the number of bytes of all flat records. 01, The
-- table of refusals: "4 a field, or the record count", at record 0.
unfoldable pub header_from : ℕ → Record → Result Header
header_from bytes (fields edition f n i) =
    value_if
    (eqb edition first_edition
    && ((leb 1 f && leb f most_functions) && ((leb 1 n && leb n most_nodes) && (eqb i 0 && eqb bytes (record_bytes * suc (f + n))))))
    header_field
    0
    (record { edition = edition; functions = f; nodes = n })

-- The row "header".
unfoldable pub header_row : List ℕ → Result Header
header_row s = header_from (length s) (record_at s 0)

-- The sorts of an edition in the order of their numbers.
unfoldable pub sorts : ℕ → List Sort
sorts edition = number_valued ∷ tree_valued ∷ []

-- The signature of function j, from the fields of its record, record j + 1. 01, The table of
-- refusals: "5 a field", at that record.
unfoldable pub function_from : ℕ → ℕ → Record → Result Signature
function_from edition j (fields x a n i) =
    elim (nth (sorts edition) x) [
      | none ↦ refusal function_field (suc j)
      | some sort ↦
          value_if (leb a (most_parameters j) && (leb 1 n && eqb i 0)) function_field (suc j) (record { sort = sort; parameters = a; count = n })
    ]

-- The signature of function j in the flat records s.
unfoldable pub function_at : ℕ → List ℕ → ℕ → Result Signature
function_at edition s j = function_from edition j (record_at s (suc j))

-- The row "functions": the fields of every record first, then the sum of the counts. 01, The table
-- of refusals: "a wrong sum of counts at the last one".
unfoldable pub function_row : Header → List ℕ → Result (List Signature)
function_row h s =
    and_then (each (function_at h.edition s) h.functions 0) (λ gs. value_if (eqb (sum_of_counts gs) h.nodes) function_field h.functions gs)

-- Record k as a node. 01, The table of refusals: "6 ..", at the record.
unfoldable pub node_at : Header → List ℕ → ℕ → Result Kind
node_at h s k = node_record h.edition h.functions k (record_at s k)

-- The row "nodes".
unfoldable pub node_row : Header → List ℕ → Result (List Kind)
node_row h s = each (node_at h s) h.nodes (suc h.functions)

-- ---- prefix form

-- Takes the first expression off the list and goes on with it and the rest; none where the list is
-- empty.
abbrev pub pop : List Expr → (Expr → List Expr → Option (List Expr)) → Option (List Expr)
pop [] next = none
pop (e ∷ es) next = next e es

-- Takes so many expressions off the list, as arguments, and goes on with them and the rest.
unfoldable pub pop_args : ℕ → List Expr → (Args → List Expr → Option (List Expr)) → Option (List Expr)
pop_args zero es next = next no_args es
pop_args (suc n) es next = pop es (λ x rest. pop_args n rest (λ xs after. next (arg x xs) after))

-- A record takes its parts off the expressions after it, and is one expression with them, in front
-- of the rest; none where parts are missing.
unfoldable pub build : (ℕ → ℕ) → Kind → List Expr → Option (List Expr)
build arity (Const i) es = some (const i ∷ es)
build arity (Var a) es = some (var a ∷ es)
build arity (Compute op) es = pop es (λ p es'. pop es' (λ q rest. some (compute op p q ∷ rest)))
build arity IfZero es = pop es (λ t es'. pop es' (λ z es''. pop es'' (λ o rest. some (if_zero t z o ∷ rest))))
build arity Let es = pop es (λ p es'. pop es' (λ body rest. some (let_in p body ∷ rest)))
build arity Leaf es = pop es (λ p rest. some (leaf_of p ∷ rest))
build arity Node es = pop es (λ p es'. pop es' (λ q rest. some (node_of p q ∷ rest)))
build arity (Case a) es = pop es (λ p es'. pop es' (λ q rest. some (case_of a p q ∷ rest)))
build arity (Call a b) es = pop_args (arity b) es (λ xs rest. some (call a b xs ∷ rest))

-- The expressions that records make up, one after the other, found from the last record to the
-- first; none where parts are missing.
unfoldable pub exprs_of : (ℕ → ℕ) → List Kind → Option (List Expr)
exprs_of arity [] = some []
exprs_of arity (k ∷ ks) = elim (exprs_of arity ks) [ none ↦ none | some es ↦ build arity k es ]

-- The one expression, of a function whose first node is record r. 01, The table of refusals: "7 a
-- function's records aren't exactly one expression", at "its first node's record".
unfoldable pub exactly_one : ℕ → Option (List Expr) → Result Expr
exactly_one r none = refusal prefix_form r
exactly_one r (some []) = refusal prefix_form r
exactly_one r (some (e ∷ [])) = done e
exactly_one r (some (e ∷ (d ∷ es))) = refusal prefix_form r

-- The functions with signatures gs whose nodes are ks, the first of them record r. Each function
-- takes as many nodes as its count says.
unfoldable pub bodies : (ℕ → ℕ) → List Signature → List Kind → ℕ → Result (List Function)
bodies arity [] ks r = done []
bodies arity (g ∷ gs) ks r =
    and_then
    (exactly_one r (exprs_of arity (take g.count ks)))
    (λ e. and_then
    (bodies arity gs (drop g.count ks) (r + g.count))
    (λ fs. done (record { sort = g.sort; parameters = g.parameters; body = e } ∷ fs)))

-- The row "prefix form".
unfoldable pub prefix_row : Header → List Signature → List Kind → Result (List Function)
prefix_row h gs ks = bodies (arity_of gs) gs ks (suc h.functions)

-- The program that flat records are, or the first refusal of the rows.
unfoldable pub read_program : List ℕ → Result Program
read_program s =
    and_then
    (header_row s)
    (λ h. and_then
    (function_row h s)
    (λ gs. and_then
    (node_row h s)
    (λ ks. and_then (prefix_row h gs ks) (λ fs. done (record { edition = h.edition; functions = fs })))))
