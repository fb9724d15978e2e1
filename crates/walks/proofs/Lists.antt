-- Pass two over an expression: its parts one after the other, and the three kinds that do more:
-- Call, Case, IfZero.
use Prim.Native.Nat.{ℕ, suc, ◌+◌}
use mathlib.Core.List.{List, [], ◌∷◌}
use mathlib.Core.Path.{◌≡◌, refl, ap}
use Rattle.formats.specs.Results.{Result, done, refusal, and_then}
use Rattle.formats.specs.Records.{Kind, Const, Var, Compute, IfZero, Let, Leaf, Node, Case, Call}
use Rattle.formats.specs.Programs.{Expr, const, var, compute, if_zero, let_in, leaf_of, node_of, case_of, call, Args, no_args, arg, size, Placed, placed_at, args_at, parts_at, Signature}
use Rattle.rules.specs.PassTwo.{take_head, walk, walk_args}
use Rattle.walks.specs.Inner.Standing.{head_of, Holds, Row, end, next, walk_parts}
use Rattle.walks.proofs.Walks.{then_nothing}

-- the continuation may be replaced by one that gives the same
then_same : {A B : Type 0} (r : Result A) (f g : A → Result B) → ((x : A) → f x ≡ g x) → and_then r f ≡ and_then r g
then_same (done x) f g h = h x
then_same (refusal number position) f g h = refl

-- the last part, and a part in front of others
walk_last : (n k : ℕ) (Δ : List ℕ) (p : Expr) → walk n k Δ p ≡ walk_parts n Δ (placed_at k p ∷ [])
unfolding walk_parts
walk_last n k Δ p = then_nothing (walk n k Δ p)

walk_two : (n k : ℕ) (Δ : List ℕ) (p q : Expr)
    → and_then (walk n k Δ p) (λ Δ'. walk n (k + size p) Δ' q) ≡ walk_parts n Δ (placed_at k p ∷ placed_at (k + size p) q ∷ [])
unfolding walk_parts
walk_two n k Δ p q = then_same (walk n k Δ p) _ _ (λ Δ'. walk_last n (k + size p) Δ' q)

walk-args : (n k : ℕ) (Δ : List ℕ) (xs : Args) → walk_args n k Δ xs ≡ walk_parts n Δ (args_at k xs)
unfolding walk_args walk_parts args_at
walk-args n k Δ no_args = refl
walk-args n k Δ (arg x xs) = then_same (walk n k Δ x) _ _ (λ Δ'. walk-args n (k + size x) Δ' xs)

-- 01, Pass two: "Call takes the head after its arguments."
pub walk_call : (n k : ℕ) (Δ : List ℕ) (a b : ℕ) (xs : Args) → walk n k Δ (call a b xs) ≡ and_then (walk_parts n Δ (args_at (suc k) xs)) (take_head a k)
unfolding walk
walk_call n k Δ a b xs = ap (λ r. and_then r (take_head a k)) (walk-args n (suc k) Δ xs)

-- the six kinds that do no more than their parts
abbrev pub Plain : Kind → Type 0
Plain (Const i) = Unit {0}
Plain (Var a) = Unit {0}
Plain (Compute op) = Unit {0}
Plain IfZero = ⊥
Plain Let = Unit {0}
Plain Leaf = Unit {0}
Plain Node = Unit {0}
Plain (Case a) = ⊥
Plain (Call a b) = ⊥

pub walk-parts : (n k : ℕ) (Δ : List ℕ) (e : Expr) → Plain (head_of e) → walk n k Δ e ≡ walk_parts n Δ (parts_at k e)
unfolding walk walk_parts parts_at head_of
walk-parts n k Δ (const i) h = refl
walk-parts n k Δ (var a) h = refl
walk-parts n k Δ (compute op p q) h = walk_two n (suc k) Δ p q
walk-parts n k Δ (if_zero t z o) h = absurd h
walk-parts n k Δ (let_in p body) h = walk_two n (suc k) Δ p body
walk-parts n k Δ (leaf_of p) h = walk_last n (suc k) Δ p
walk-parts n k Δ (node_of p q) h = walk_two n (suc k) Δ p q
walk-parts n k Δ (case_of a p q) h = absurd h
walk-parts n k Δ (call a b xs) h = absurd h

-- which of them an expression is, by its own record's kind
pub data Shaped : Kind → Expr → Type 0 where
  plain : {kind : Kind} {e : Expr} → Plain kind → Shaped kind e
  an_if : {t z o : Expr} → Shaped IfZero (if_zero t z o)
  a-case : {a : ℕ} {p q : Expr} → Shaped (Case a) (case_of a p q)
  a-call : {a b : ℕ} {xs : Args} → Shaped (Call a b) (call a b xs)

pub shaped : (e : Expr) → Shaped (head_of e) e
unfolding head_of
shaped (const i) = plain tt
shaped (var a) = plain tt
shaped (compute op p q) = plain tt
shaped (if_zero t z o) = an_if
shaped (let_in p body) = plain tt
shaped (leaf_of p) = plain tt
shaped (node_of p q) = plain tt
shaped (case_of a p q) = a-case
shaped (call a b xs) = a-call

-- ---- rows

module _ {s : List ℕ} {gs : List Signature} where
  -- the part in front, the others, and the end of the last one
  pub row_front : {k i m : ℕ} {e : Expr} {ps : List Placed} → Row s gs k (placed_at i e ∷ ps) m → Holds s gs k e
  row_front (next h more) = h

  pub row_others : {k i m : ℕ} {e : Expr} {ps : List Placed} → Row s gs k (placed_at i e ∷ ps) m → Row s gs (k + size e) ps m
  row_others (next h more) = more

  row_done : {k m : ℕ} → Row s gs k [] m → k ≡ m
  row_done end = refl

  pub row_last : {k i m : ℕ} {e : Expr} → Row s gs k (placed_at i e ∷ []) m → k + size e ≡ m
  row_last r = row_done (row_others r)
