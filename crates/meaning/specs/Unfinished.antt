-- Evaluations that have no value: they stop, at a sum out of range or at a call too many. A rule
-- for each part of each kind: the parts before it are taken, in order, and it stops.
use Rattle.std.specs.Prelude.{ℕ, zero, suc, ◌+◌, List, [], ◌∷◌, ◌++◌, ◌≡◌}
use Rattle.std.proofs.Math.Option.{none, some}
use Rattle.formats.specs.Arithmetic.{Op, result_of}
use Rattle.formats.specs.Tokens.{Tree, leaf, node, leaf_tag, node_tag, tokens}
use Rattle.formats.specs.Records.{nth}
use Rattle.formats.specs.Programs.{Expr, compute, if_zero, let_in, leaf_of, node_of, case_of, call, Args, arg, size, Function, Program}
use Rattle.meaning.specs.Evaluation.{number, tree, Environment, tree_named, with_number, in_call, picked, branch, in_branch, Takes, TakesArgs, units_in, units_in_args}
use Rattle.meaning.specs.OpenCalls.{Reason, no_call, no_result, first_record}

-- The record of the part that an IfZero at record r picks, and of the part that a Case at record r
-- takes.
unfoldable pub picked_record : ℕ → ℕ → Expr → Expr → ℕ
picked_record zero r t z = suc r + size t
picked_record (suc i) r t z = suc r + size t + size z

unfoldable pub branch_record : Tree → ℕ → Expr → ℕ
branch_record (leaf x) r p = suc r
branch_record (node left right) r p = suc r + size p

-- `StopsIn program E r e o n why x`: in the environment E the expression e, whose own record is r,
-- stops for the reason `why` at record x; n expressions have begun by then, e among them; at most o
-- calls may be open, the one that e stands in among them.
mutual
  pub data StopsIn (program : Program) : Environment → ℕ → Expr → ℕ → ℕ → Reason → ℕ → Type 0 where
    -- N3: "Add now refuses where the exact sum lies outside −2147483648 to 2147483647"; "at the Add
    -- record .., tested when both numbers stand"
    out-of-range :
        {E : Environment} {r : ℕ} {op : Op} {p q : Expr} {o n m i j : ℕ}
        → Takes program E p o n (number i)
        → Takes program E q o m (number j)
        → result_of op i j ≡ none
        → StopsIn program E r (compute op p q) o (suc (n + m)) (no_result op i j) r
    in_first :
        {E : Environment} {r : ℕ} {op : Op} {p q : Expr} {o n x : ℕ} {why : Reason}
        → StopsIn program E (suc r) p o n why x
        → StopsIn program E r (compute op p q) o (suc n) why x
    in_second :
        {E : Environment} {r : ℕ} {op : Op} {p q : Expr} {o n m i x : ℕ} {why : Reason}
        → Takes program E p o n (number i)
        → StopsIn program E (suc r + size p) q o m why x
        → StopsIn program E r (compute op p q) o (suc (n + m)) why x
    -- IfZero: its test, then the part that it picks
    in_test :
        {E : Environment} {r : ℕ} {t z w : Expr} {o n x : ℕ} {why : Reason}
        → StopsIn program E (suc r) t o n why x
        → StopsIn program E r (if_zero t z w) o (suc n) why x
    in_picked :
        {E : Environment} {r : ℕ} {t z w : Expr} {o n m i x : ℕ} {why : Reason}
        → Takes program E t o n (number i)
        → StopsIn program E (picked_record i r t z) (picked i z w) o m why x
        → StopsIn program E r (if_zero t z w) o (suc (n + m)) why x
    -- Let: its number, then its body
    in_named :
        {E : Environment} {r : ℕ} {p body : Expr} {o n x : ℕ} {why : Reason}
        → StopsIn program E (suc r) p o n why x
        → StopsIn program E r (let_in p body) o (suc n) why x
    in_body :
        {E : Environment} {r : ℕ} {p body : Expr} {o n m i x : ℕ} {why : Reason}
        → Takes program E p o n (number i)
        → StopsIn program (with_number i E) (suc r + size p) body o m why x
        → StopsIn program E r (let_in p body) o (suc (n + m)) why x
    -- Leaf: its number
    in_label :
        {E : Environment} {r : ℕ} {p : Expr} {o n x : ℕ} {why : Reason}
        → StopsIn program E (suc r) p o n why x
        → StopsIn program E r (leaf_of p) o (suc n) why x
    -- Node: left, then right
    in_left :
        {E : Environment} {r : ℕ} {p q : Expr} {o n x : ℕ} {why : Reason}
        → StopsIn program E (suc r) p o n why x
        → StopsIn program E r (node_of p q) o (suc n) why x
    in_right :
        {E : Environment} {r : ℕ} {p q : Expr} {o n m x : ℕ} {left : Tree} {why : Reason}
        → Takes program E p o n (tree left)
        → StopsIn program E (suc r + size p) q o m why x
        → StopsIn program E r (node_of p q) o (suc (n + m)) why x
    -- Case: the part for its tree
    in-branch :
        {E : Environment} {r a : ℕ} {p q : Expr} {o n x : ℕ} {t : Tree} {why : Reason}
        → tree_named E a ≡ some t
        → StopsIn program (in_branch t E) (branch_record t r p) (branch t p q) o n why x
        → StopsIn program E r (case_of a p q) o (suc n) why x
    -- Call: its arguments; then, where no more may be open, the call is one too many; else the body
    -- that it opens
    in_arguments :
        {E : Environment} {r a b : ℕ} {xs : Args} {o n x : ℕ} {why : Reason}
        → StopsInArgs program E (suc r) xs (suc o) n [] why x
        → StopsIn program E r (call a b xs) (suc o) (suc n) why x
    too_many :
        {E : Environment} {r a b : ℕ} {xs : Args} {n : ℕ} {numbers : List ℕ}
        → TakesArgs program E xs 1 n [] numbers
        → StopsIn program E r (call a b xs) 1 (suc n) no_call r
    in-call :
        {E : Environment} {r a b : ℕ} {xs : Args} {o n m x : ℕ} {numbers : List ℕ} {t : Tree} {f : Function} {why : Reason}
        → TakesArgs program E xs (suc o) n [] numbers
        → tree_named E a ≡ some t
        → nth program.functions b ≡ some f
        → StopsIn program (in_call numbers t) (first_record program b) f.body o m why x
        → StopsIn program E r (call a b xs) (suc o) (suc (n + m)) why x

  -- The arguments of a Call from record r on, after the numbers found before: one of them stops.
  pub data StopsInArgs (program : Program) : Environment → ℕ → Args → ℕ → ℕ → List ℕ → Reason → ℕ → Type 0 where
    in_this :
        {E : Environment} {r : ℕ} {y : Expr} {xs : Args} {o n x : ℕ} {before : List ℕ} {why : Reason}
        → StopsIn program E r y o n why x
        → StopsInArgs program E r (arg y xs) o n before why x
    in_later :
        {E : Environment} {r : ℕ} {y : Expr} {xs : Args} {o n m i x : ℕ} {before : List ℕ} {why : Reason}
        → Takes program E y o n (number i)
        → StopsInArgs program E (r + size y) xs o m (i ∷ before) why x
        → StopsInArgs program E r (arg y xs) o (n + m) before why x

-- The evaluation on a tree stops, where at most o calls may be open. Where none may be, the first
-- call, which no Call opens, is one too many.
pub data StopsOn (program : Program) (t : Tree) : ℕ → ℕ → Reason → ℕ → Type 0 where
  none_open : StopsOn program t 0 0 no_call 0
  in_first_call :
      {first : Function} {o n q : ℕ} {why : Reason}
      → nth program.functions 0 ≡ some first
      → StopsIn program (in_call [] t) (first_record program 0) first.body o n why q
      → StopsOn program t o n why q

-- N3: "Such an evaluation has no result". It breaks: with at most o calls open, after n
-- expressions, the operation at record q has no result on these two numbers.
abbrev pub Breaks : Program → Tree → (o n : ℕ) (op : Op) (i j q : ℕ) → Type 0
Breaks program t o n op i j q = StopsOn program t o n (no_result op i j) q

-- ---- what its code has done by then

-- 01, Templates: the instructions before the part that stops. Case: "read tag L, read number" for
-- the leaf part, "read tag L" for the node part.
unfoldable pub branch_units : Tree → ℕ
branch_units (leaf x) = 2
branch_units (node left right) = 1

-- The units spent: those of the parts taken, and the record's own instructions before the part that
-- stops. IfZero: "t, ifnot L"; Leaf: "leaf tag"; Node: "node tag"; Call: "arguments, call". The
-- instruction that is refused counts nothing.
unfoldable pub units_until : {program : Program} {E : Environment} {r : ℕ} {e : Expr} {o n : ℕ} {why : Reason} {x : ℕ} → StopsIn program E r e o n why x → ℕ
units_until s = elim s as (λ E r e o n why x s. ℕ) (λ E r xs o n before why x s. ℕ) [
  | out-of-range d₁ d₂ missing ↦ units_in d₁ + units_in d₂
  | in_first (s → n) ↦ n
  | in_second d (s → n) ↦ units_in d + n
  | in_test (s → n) ↦ n
  | in_picked d (s → n) ↦ units_in d + suc n
  | in_named (s → n) ↦ n
  | in_body d (s → n) ↦ units_in d + n
  | in_label (s → n) ↦ suc n
  | in_left (s → n) ↦ suc n
  | in_right d (s → n) ↦ suc (units_in d + n)
  | in-branch {t = t} named (s → n) ↦ branch_units t + n
  | in_arguments (s → n) ↦ n
  | too_many ds ↦ units_in_args ds
  | in-call ds named known (s → n) ↦ units_in_args ds + suc n
  | in_this (s → n) ↦ n
  | in_later d (s → n) ↦ units_in d + n
]

-- The bytes written: the tags of the Leaf and Node records that have begun and have no value yet,
-- and the left trees that these Nodes have by then. A part that gives a number writes nothing.
unfoldable pub bytes_until : {program : Program} {E : Environment} {r : ℕ} {e : Expr} {o n : ℕ} {why : Reason} {x : ℕ} → StopsIn program E r e o n why x → List ℕ
bytes_until s = elim s as (λ E r e o n why x s. List ℕ) (λ E r xs o n before why x s. List ℕ) [
  | out-of-range d₁ d₂ missing ↦ []
  | in_first (s → bs) ↦ bs
  | in_second d (s → bs) ↦ bs
  | in_test (s → bs) ↦ bs
  | in_picked d (s → bs) ↦ bs
  | in_named (s → bs) ↦ bs
  | in_body d (s → bs) ↦ bs
  | in_label (s → bs) ↦ leaf_tag ∷ bs
  | in_left (s → bs) ↦ node_tag ∷ bs
  | in_right {left = left} d (s → bs) ↦ node_tag ∷ (tokens left ++ bs)
  | in-branch named (s → bs) ↦ bs
  | in_arguments (s → bs) ↦ bs
  | too_many ds ↦ []
  | in-call ds named known (s → bs) ↦ bs
  | in_this (s → bs) ↦ bs
  | in_later d (s → bs) ↦ bs
]

-- The same of the evaluation on a tree.
unfoldable pub stop_units : {program : Program} {t : Tree} {o n : ℕ} {why : Reason} {x : ℕ} → StopsOn program t o n why x → ℕ
stop_units none_open = 0
stop_units (in_first_call first s) = units_until s

unfoldable pub stop_bytes : {program : Program} {t : Tree} {o n : ℕ} {why : Reason} {x : ℕ} → StopsOn program t o n why x → List ℕ
stop_bytes none_open = []
stop_bytes (in_first_call first s) = bytes_until s
