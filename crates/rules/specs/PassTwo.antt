-- Pass two: trees are taken in order, each once. 01, Pass two: "The pending trees are a list of at
-- most 16 numbers, at first the parameter alone."
use Rattle.std.specs.Prelude.{ℕ, suc, ◌+◌, Bool, true, false, ◌&&◌, List, [], ◌∷◌, ltb, eqb, length}
use Rattle.formats.specs.Refusals.{out_of_order, too_many_pending}
use Rattle.formats.specs.Results.{Result, done, refusal, and_then, value_if}
use Rattle.formats.specs.Programs.{Expr, const, var, compute, if_zero, let_in, leaf_of, node_of, case_of, call, Args, no_args, arg, size, Function, Program}
use Rattle.formats.specs.Rows.{read_program}
use Rattle.formats.specs.Blocks.{flat_in}
use Rattle.rules.specs.Limits.{most_pending}
use Rattle.rules.specs.PassOne.{holds_at, pass_one}

-- What is left of the list when record r takes tree a. 01, Pass two: "11 not the head", at the
-- record.
unfoldable pub take_head : ℕ → ℕ → List ℕ → Result (List ℕ)
take_head a r [] = refusal out_of_order r
take_head a r (x ∷ rest) = value_if (eqb x a) out_of_order r rest

-- Whether two lists are equal.
unfoldable pub same_names : List ℕ → List ℕ → Bool
same_names [] [] = true
same_names [] (y ∷ ys) = false
same_names (x ∷ xs) [] = false
same_names (x ∷ xs) (y ∷ ys) = eqb x y && same_names xs ys

-- The list with which both branches end. 01, Pass two: "Both branches of Case or IfZero must end
-- with equal lists, compared once both are through", else 11 at record r, the Case or IfZero.
unfoldable pub equal_branches : ℕ → Result (List ℕ) → Result (List ℕ) → Result (List ℕ)
equal_branches r one other = and_then one (λ Δ₁. and_then other (λ Δ₂. value_if (same_names Δ₁ Δ₂) out_of_order r Δ₂))

-- From the pending trees before the expression at record r to those after it; n tree names are
-- bound.
unfoldable mutual
  pub walk : ℕ → ℕ → List ℕ → Expr → Result (List ℕ)
  walk n r Δ (const i) = done Δ
  walk n r Δ (var a) = done Δ
  walk n r Δ (compute op p q) = and_then (walk n (suc r) Δ p) (λ Δ'. walk n (suc r + size p) Δ' q)
  walk n r Δ (if_zero t z o) =
      and_then (walk n (suc r) Δ t) (λ Δ'. equal_branches r (walk n (suc r + size t) Δ' z) (walk n (suc r + size t + size z) Δ' o))
  walk n r Δ (let_in p body) = and_then (walk n (suc r) Δ p) (λ Δ'. walk n (suc r + size p) Δ' body)
  walk n r Δ (leaf_of p) = walk n (suc r) Δ p
  walk n r Δ (node_of p q) = and_then (walk n (suc r) Δ p) (λ Δ'. walk n (suc r + size p) Δ' q)
  -- 01, Pass two: "Case takes the head, and puts its two names in front in the node part." "12 Case
  -- with 16 pending".
  walk n r Δ (case_of a p q) =
      and_then
      (take_head a r Δ)
      (λ rest. and_then
      (holds_at (ltb (length Δ) most_pending) too_many_pending r)
      (λ u. equal_branches r (walk n (suc r) rest p) (walk (suc (suc n)) (suc r + size p) (n ∷ (suc n ∷ rest)) q)))
  -- 01, Pass two: "Call takes the head after its arguments."
  walk n r Δ (call a b xs) = and_then (walk_args n (suc r) Δ xs) (λ Δ'. take_head a r Δ')

  pub walk_args : ℕ → ℕ → List ℕ → Args → Result (List ℕ)
  walk_args n r Δ no_args = done Δ
  walk_args n r Δ (arg x xs) = and_then (walk n r Δ x) (λ Δ'. walk_args n (r + size x) Δ' xs)

-- A function leaves no tree. 01, Pass two: "a function ends with none", else 11 "at the function's
-- first node", record r.
unfoldable pub none_left : ℕ → List ℕ → Result (Unit {0})
none_left r [] = done tt
none_left r (x ∷ xs) = refusal out_of_order r

-- One function after the other. The first node of the first one is record r.
unfoldable pub walk_all : ℕ → List Function → Result (Unit {0})
walk_all r [] = done tt
walk_all r (f ∷ fs) =
    and_then (walk 1 r (0 ∷ []) f.body) (λ Δ. and_then (none_left r Δ) (λ u. walk_all (r + size f.body) fs))

unfoldable pub pass_two : Program → Result (Unit {0})
pass_two program = walk_all (suc (length program.functions)) program.functions

-- Both passes. 01, The order of the tests: "A check row is finished for the whole file before the
-- next begins".
unfoldable pub both_passes : Program → Result (Unit {0})
both_passes program = and_then (pass_one program) (λ u. pass_two program)

-- Flat records: the rows header to prefix form, then both passes. 01, Checking: "the translator
-- needs both passes".
unfoldable pub check_records : List ℕ → Result (Unit {0})
check_records s = and_then (read_program s) both_passes

-- A program file: the block rows first.
unfoldable pub check_file : List ℕ → Result (Unit {0})
check_file s = and_then (flat_in s) check_records
