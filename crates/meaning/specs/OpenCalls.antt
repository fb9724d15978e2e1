-- The source evaluation with a bound on the open calls. A body has no loop, so the evaluation
-- always comes to an end: with a value, at a sum out of range, or at a call too many. It is a
-- function, by recursion on the calls that may still be opened and, inside a body, on the
-- expression.
use Rattle.std.specs.Prelude.{ℕ, zero, suc, ◌+◌, List, [], ◌∷◌, length, take}
use Rattle.std.proofs.Math.Option.{Option, none, some}
use Rattle.formats.specs.Arithmetic.{Op, result_of}
use Rattle.formats.specs.Refusals.{fuel_used_up, too_many_calls, out_of_range}
use Rattle.formats.specs.Tokens.{Tree, leaf, node}
use Rattle.formats.specs.Records.{nth}
use Rattle.formats.specs.Programs.{Expr, const, var, compute, if_zero, let_in, leaf_of, node_of, case_of, call, Args, no_args, arg, size, sum_of_counts, Program, signatures}
use Rattle.meaning.specs.Evaluation.{Value, number, tree, Environment, number_named, tree_named, with_number, with_trees, in_call, result_number}

-- Why an evaluation stops before it has a value.
pub data Reason : Type 0 where
  -- no fuel for the next expression
  no_fuel : Reason
  -- a call too many
  no_call : Reason
  -- N3: an operation whose exact result is out of range, and its two numbers
  no_result : (op : Op) (i j : ℕ) → Reason

-- The number of its refusal.
unfoldable pub refusal_of : Reason → ℕ
refusal_of no_fuel = fuel_used_up
refusal_of no_call = too_many_calls
refusal_of (no_result op i j) = out_of_range

-- What an evaluation comes to: a mark for each expression begun, then its value, or why it stops,
-- with the record (0 where there is none).
pub data Outcome (A : Type 0) : Type 0 where
  gives : (value : A) → Outcome A
  stops : (why : Reason) (at_record : ℕ) → Outcome A
  begins : (rest : Outcome A) → Outcome A

-- How many expressions begin.
unfoldable pub begun : {A : Type 0} → Outcome A → ℕ
begun (gives x) = 0
begun (stops why r) = 0
begun (begins o) = suc (begun o)

-- An outcome with n more expressions begun before it.
unfoldable pub after_begun : {A : Type 0} → ℕ → Outcome A → Outcome A
after_begun zero o = o
after_begun (suc n) o = begins (after_begun n o)

-- A value goes on to what follows; a stop stays.
unfoldable pub followed_by : {A B : Type 0} → Outcome A → (A → Outcome B) → Outcome B
followed_by (gives x) f = f x
followed_by (stops why r) f = stops why r
followed_by (begins o) f = begins (followed_by o f)

-- What the file's rows and pass one rule out is given a value too: an unbound name, a tree where a
-- number is expected, a number where a tree is, a function that is not there.
unfoldable pub number_or : Option ℕ → ℕ
number_or none = 0
number_or (some i) = i

unfoldable pub tree_or : Option Tree → Tree
tree_or none = leaf 0
tree_or (some t) = t

unfoldable pub result_tree : Value → Tree
result_tree (number i) = leaf 0
result_tree (tree t) = t

-- What a call comes to, given the Call's record, the function, its numbers and its tree.
abbrev pub Handler : Type 0
Handler = ℕ → ℕ → List ℕ → Tree → Outcome Value

-- The operation at record r on these numbers. N3: "tested when both numbers stand".
unfoldable pub computed : ℕ → Op → ℕ → ℕ → Outcome Value
computed r op i j = elim (result_of op i j) [ some x ↦ gives (number x) | none ↦ stops (no_result op i j) r ]

-- The expression at record r, by kind. 01, The source run: "a call's depth is tested after its
-- arguments".
unfoldable mutual
  pub evaluate : Handler → Environment → ℕ → Expr → Outcome Value
  evaluate h E r (const i) = begins (gives (number i))
  evaluate h E r (var a) = begins (gives (number (number_or (number_named E a))))
  evaluate h E r (compute op p q) =
      begins
      (followed_by (evaluate h E (suc r) p) (λ x. followed_by (evaluate h E (suc r + size p) q) (λ y. computed r op (result_number x) (result_number y))))
  evaluate h E r (if_zero t z o) =
      begins
      (followed_by (evaluate h E (suc r) t) (λ x. elim (result_number x) [
        | zero ↦ evaluate h E (suc r + size t) z
        | suc i ↦ evaluate h E (suc r + size t + size z) o
      ]))
  evaluate h E r (let_in p body) =
      begins (followed_by (evaluate h E (suc r) p) (λ x. evaluate h (with_number (result_number x) E) (suc r + size p) body))
  evaluate h E r (leaf_of p) = begins (followed_by (evaluate h E (suc r) p) (λ x. gives (tree (leaf (result_number x)))))
  evaluate h E r (node_of p q) =
      begins
      (followed_by (evaluate h E (suc r) p) (λ x. followed_by (evaluate h E (suc r + size p) q) (λ y. gives (tree (node (result_tree x) (result_tree y))))))
  evaluate h E r (case_of a p q) =
      begins
      (elim (tree_or (tree_named E a)) [
        | leaf x ↦ evaluate h (with_number x E) (suc r) p
        | node left right ↦ evaluate h (with_trees left right E) (suc r + size p) q
      ])
  evaluate h E r (call a b xs) = begins (followed_by (evaluate_args h E (suc r) xs []) (λ numbers. h r b numbers (tree_or (tree_named E a))))

  -- A Call's arguments from record r on, after the numbers found before.
  pub evaluate_args : Handler → Environment → ℕ → Args → List ℕ → Outcome (List ℕ)
  evaluate_args h E r no_args numbers = gives numbers
  evaluate_args h E r (arg x xs) numbers = followed_by (evaluate h E r x) (λ v. evaluate_args h E (r + size x) xs (result_number v ∷ numbers))

-- The record of a function's first node.
unfoldable pub first_record : Program → ℕ → ℕ
first_record program b = suc (length program.functions) + sum_of_counts (take b (signatures program))

-- A call where this many may be open, itself among them. 01, The table of refusals: "18 a call with
-- 1,024 open (the first frame counts)".
unfoldable pub called : Program → ℕ → Handler
called program zero r b numbers t = stops no_call r
called program (suc calls) r b numbers t =
    elim (nth program.functions b) [
      | none ↦ gives (number 0)
      | some f ↦ evaluate (called program calls) (in_call numbers t) (first_record program b) f.body
    ]

-- 01, The source evaluation: "It starts in function 0's body, the tree being tree 0". The first
-- call is opened by no Call.
unfoldable pub evaluation : Program → ℕ → Tree → Outcome Value
evaluation program calls t = called program calls 0 0 [] t

-- 01, The source run: "The source run's fuel is expressions begun, looked at before each".
unfoldable pub with_fuel : {A : Type 0} → ℕ → Outcome A → Outcome A
with_fuel fuel (gives x) = gives x
with_fuel fuel (stops why r) = stops why r
with_fuel zero (begins o) = stops no_fuel 0
with_fuel (suc fuel) (begins o) = begins (with_fuel fuel o)
