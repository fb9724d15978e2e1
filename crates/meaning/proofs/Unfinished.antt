-- Laws of specs/Unfinished: evaluations that stop, by induction along the rules.
use Prim.Native.Nat.{ℕ, suc, ◌+◌, ◌*◌, ◌≤◌}
use mathlib.Core.List.{List, [], ◌∷◌, ◌++◌}
use native.Mathlib.Omega.{arith}
use Rattle.formats.specs.Tokens.{Tree, leaf, node, leaf_tag, node_tag, tokens}
use Rattle.formats.specs.Programs.{Expr, Args, Program}
use Rattle.meaning.specs.Evaluation.{Environment, units_in, units_in_args}
use Rattle.meaning.specs.OpenCalls.{Reason}
use Rattle.meaning.specs.Unfinished.{StopsIn, out-of-range, in_first, in_second, in_test, in_picked, in_named, in_body, in_label, in_left, in_right}
use Rattle.meaning.specs.Unfinished.{in-branch, in_arguments, too_many, in-call, StopsInArgs, in_this, in_later, StopsOn, none_open, in_first_call}
use Rattle.meaning.specs.Unfinished.{branch_units, units_until, stop_units}
use Rattle.meaning.proofs.Evaluation.{four_each, four_each_args, takes_open}

-- at least one call is open where an expression stops
pub stops_open : {program : Program} {E : Environment} {r : ℕ} {e : Expr} {o n : ℕ} {why : Reason} {x : ℕ} → StopsIn program E r e o n why x → 1 ≤ o
stops_open s = elim s as (λ E r e o n why x s. 1 ≤ o) (λ E r xs o n before why x s. 1 ≤ o) [
  | out-of-range d₁ d₂ missing ↦ takes_open d₁
  | in_first (s → h) ↦ h
  | in_second d (s → h) ↦ h
  | in_test (s → h) ↦ h
  | in_picked d (s → h) ↦ h
  | in_named (s → h) ↦ h
  | in_body d (s → h) ↦ h
  | in_label (s → h) ↦ h
  | in_left (s → h) ↦ h
  | in_right d (s → h) ↦ h
  | in-branch named (s → h) ↦ h
  | in_arguments (s → h) ↦ h
  | too_many ds ↦ omega arith
  | in-call ds named known (s → h) ↦ omega arith
  | in_this (s → h) ↦ h
  | in_later d (s → h) ↦ h
]

-- ---- units and bytes

-- What `units_until` counts along arguments. (The clauses are those of `units_until`, so that the
-- two agree by computation.)
abbrev pub units_until_args :
    {program : Program} {E : Environment} {r : ℕ} {xs : Args} {o n : ℕ} {before : List ℕ} {why : Reason} {x : ℕ}
    → StopsInArgs program E r xs o n before why x
    → ℕ
units_until_args s = elim s as (λ E r e o n why x s. ℕ) (λ E r xs o n before why x s. ℕ) [
  | out-of-range d₁ d₂ missing ↦ units_in d₁ + units_in d₂
  | in_first (s → n) ↦ n
  | in_second d (s → n) ↦ units_in d + n
  | in_test (s → n) ↦ n
  | in_picked d (s → n) ↦ units_in d + suc n
  | in_named (s → n) ↦ n
  | in_body d (s → n) ↦ units_in d + n
  | in_label (s → n) ↦ suc n
  | in_left (s → n) ↦ suc n
  | in_right d (s → n) ↦ suc (units_in d + n)
  | in-branch {t = t} named (s → n) ↦ branch_units t + n
  | in_arguments (s → n) ↦ n
  | too_many ds ↦ units_in_args ds
  | in-call ds named known (s → n) ↦ units_in_args ds + suc n
  | in_this (s → n) ↦ n
  | in_later d (s → n) ↦ units_in d + n
]

-- What `bytes_until` gives along arguments, likewise.
abbrev pub bytes_until_args :
    {program : Program} {E : Environment} {r : ℕ} {xs : Args} {o n : ℕ} {before : List ℕ} {why : Reason} {x : ℕ}
    → StopsInArgs program E r xs o n before why x
    → List ℕ
bytes_until_args s = elim s as (λ E r e o n why x s. List ℕ) (λ E r xs o n before why x s. List ℕ) [
  | out-of-range d₁ d₂ missing ↦ []
  | in_first (s → bs) ↦ bs
  | in_second d (s → bs) ↦ bs
  | in_test (s → bs) ↦ bs
  | in_picked d (s → bs) ↦ bs
  | in_named (s → bs) ↦ bs
  | in_body d (s → bs) ↦ bs
  | in_label (s → bs) ↦ leaf_tag ∷ bs
  | in_left (s → bs) ↦ node_tag ∷ bs
  | in_right {left = left} d (s → bs) ↦ node_tag ∷ (tokens left ++ bs)
  | in-branch named (s → bs) ↦ bs
  | in_arguments (s → bs) ↦ bs
  | too_many ds ↦ []
  | in-call ds named known (s → bs) ↦ bs
  | in_this (s → bs) ↦ bs
  | in_later d (s → bs) ↦ bs
]

-- at most four units for each expression begun before one stops
four_each_until :
    {program : Program} {E : Environment} {r : ℕ} {e : Expr} {o n : ℕ} {why : Reason} {x : ℕ} (s : StopsIn program E r e o n why x)
    → units_until s ≤ 4 * n
unfolding units_until branch_units
four_each_until {program} s =
    elim s as (λ E r e o n why x s. units_until s ≤ 4 * n) (λ E r xs o n before why x s. units_until_args s ≤ 4 * n) [
      | out-of-range d₁ d₂ missing ↦ let first = four_each program _ _ _ _ _ d₁ in let second = four_each program _ _ _ _ _ d₂ in omega arith
      | in_first (s → h) ↦ omega arith
      | in_second d (s → h) ↦ let first = four_each program _ _ _ _ _ d in omega arith
      | in_test (s → h) ↦ omega arith
      | in_picked d (s → h) ↦ let first = four_each program _ _ _ _ _ d in omega arith
      | in_named (s → h) ↦ omega arith
      | in_body d (s → h) ↦ let first = four_each program _ _ _ _ _ d in omega arith
      | in_label (s → h) ↦ omega arith
      | in_left (s → h) ↦ omega arith
      | in_right d (s → h) ↦ let first = four_each program _ _ _ _ _ d in omega arith
      | in-branch {t = t} named (s → h) ↦ let few = branch_few t in omega arith
      | in_arguments (s → h) ↦ omega arith
      | too_many ds ↦ let first = four_each_args ds in omega arith
      | in-call ds named known (s → h) ↦ let first = four_each_args ds in omega arith
      | in_this (s → h) ↦ h
      | in_later d (s → h) ↦ let first = four_each program _ _ _ _ _ d in omega arith
    ]
  where
    branch_few : (t : Tree) → branch_units t ≤ 4
    branch_few (leaf x) = omega arith
    branch_few (node left right) = omega arith

-- so before the evaluation stops
pub four_each_stopped :
    (program : Program) (t : Tree) (o n : ℕ) (why : Reason) (q : ℕ) (s : StopsOn program t o n why q)
    → stop_units s ≤ 4 * n
unfolding stop_units
four_each_stopped program t o n why q none_open = omega arith
four_each_stopped program t o n why q (in_first_call first s) = four_each_until s
