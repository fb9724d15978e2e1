-- The rows of an expression: its own, then those of its parts. How many words the rows of parts
-- are.
use Prim.Native.Nat.{ℕ, suc, ◌+◌, ◌*◌}
use mathlib.Core.List.{List, [], ◌∷◌, ◌++◌, append-nil}
use mathlib.Core.Path.{◌≡◌, refl, sym, ap, ap₂}
use native.Mathlib.Nat.{add-zero}
use native.Mathlib.Omega.{arith}
use lib.ListN.{length, length-append}
use Rattle.formats.specs.Records.{Kind, Const, Var, Compute, IfZero, Let, Leaf, Node, Case, Call}
use Rattle.formats.specs.Programs.{Expr, const, var, compute, if_zero, let_in, leaf_of, node_of, case_of, call, Args, no_args, arg, size, Placed, placed_at, args_at, parts_at, Signature}
use Rattle.walks.specs.Inner.Standing.{head_of, Row, end, next}
use Rattle.stepwise.specs.Inner.Rows.{Location, row_words, part_location, row_of, rows_of, rows_of_args}
use Rattle.stepwise.proofs.Rows.{size_const, size_var, size_compute, size_if_zero, size_let, size_leaf, size_node, size_case, size_call, after-args, length_rows}
use Rattle.decode.specs.Inner.Walk.{rows_of_parts}

module _ (entry arity : ℕ → ℕ) where
  module _ (p : Location) (kind : Kind) (r : ℕ) where
    -- the last part; the last two; arguments
    rows_last : (i k : ℕ) (x : Expr) → rows_of entry arity (part_location entry arity p kind r i) k x ≡ rows_of_parts entry arity p kind r i (placed_at k x ∷ [])
    unfolding rows_of_parts
    rows_last i k x = sym (append-nil _)

    rows_two : (i k : ℕ) (x y : Expr)
        → rows_of entry arity (part_location entry arity p kind r i) k x ++ rows_of entry arity (part_location entry arity p kind r (suc i)) (k + size x) y
        ≡ rows_of_parts entry arity p kind r i (placed_at k x ∷ placed_at (k + size x) y ∷ [])
    unfolding rows_of_parts
    rows_two i k x y = ap (λ (l : List ℕ). rows_of entry arity (part_location entry arity p kind r i) k x ++ l) (rows_last (suc i) (k + size x) y)

    rows_args : (i k : ℕ) (xs : Args) → rows_of_args entry arity p kind r i k xs ≡ rows_of_parts entry arity p kind r i (args_at k xs)
    unfolding rows_of_args rows_of_parts args_at
    rows_args i k no_args = refl
    rows_args i k (arg x xs) = ap (λ (l : List ℕ). rows_of entry arity (part_location entry arity p kind r i) k x ++ l) (rows_args (suc i) (k + size x) xs)

  -- a row before other rows, with its record `after` replaced by an equal one
  in-front : (p : Location) (kind : Kind) {m n : ℕ} {xs ys : List ℕ} → m ≡ n → xs ≡ ys → row_of entry arity p m kind ++ xs ≡ row_of entry arity p n kind ++ ys
  in-front p kind e f = ap₂ (λ b l. row_of entry arity p b kind ++ l) e f

  pub rows_split : (p : Location) (r : ℕ) (e : Expr)
      → rows_of entry arity p r e ≡ row_of entry arity p (r + size e) (head_of e) ++ rows_of_parts entry arity p (head_of e) r 0 (parts_at r e)
  unfolding rows_of rows_of_parts parts_at head_of
  rows_split p r (const i) = in-front p (Const i) {xs = []} (omega (arith, size_const i)) refl
  rows_split p r (var a) = in-front p (Var a) {xs = []} (omega (arith, size_var a)) refl
  rows_split p r (compute op x y) = in-front p (Compute op) (omega (arith, size_compute x y op)) (rows_two p (Compute op) r 0 (suc r) x y)
  rows_split p r (if_zero t z o) =
      in-front p IfZero (omega (arith, size_if_zero t z o))
      (ap (λ (l : List ℕ). rows_of entry arity (part_location entry arity p IfZero r 0) (suc r) t ++ l) (rows_two p IfZero r 1 (suc r + size t) z o))
  rows_split p r (let_in x body) = in-front p Let (omega (arith, size_let x body)) (rows_two p Let r 0 (suc r) x body)
  rows_split p r (leaf_of x) = in-front p Leaf (omega (arith, size_leaf x)) (rows_last p Leaf r 0 (suc r) x)
  rows_split p r (node_of x y) = in-front p Node (omega (arith, size_node x y)) (rows_two p Node r 0 (suc r) x y)
  rows_split p r (case_of a x y) = in-front p (Case a) (omega (arith, size_case x y a)) (rows_two p (Case a) r 0 (suc r) x y)
  rows_split p r (call a b xs) = in-front p (Call a b) (omega (arith, after-args entry arity (suc r) xs, size_call a b xs)) (rows_args p (Call a b) r 0 (suc r) xs)

  -- rows of parts that stand one after the other reach up to their end
  pub length_parts : (p : Location) (kind : Kind) (r : ℕ) {s : List ℕ} {gs : List Signature} (i : ℕ) {k m : ℕ} {ps : List Placed} → Row s gs k ps m
      → row_words * k + length (rows_of_parts entry arity p kind r i ps) ≡ row_words * m
  unfolding rows_of_parts
  length_parts p kind r i end = add-zero _
  length_parts p kind r i (next {k = k} {e = e} {ps = ps} here others) =
      omega (
        arith,
        length-append (rows_of entry arity (part_location entry arity p kind r i) k e) (rows_of_parts entry arity p kind r (suc i) ps),
        length_rows entry arity (part_location entry arity p kind r i) k e,
        length_parts p kind r (suc i) others,
      )
