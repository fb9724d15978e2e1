-- The first fault that pass two meets, as a relation: how the walk comes to a record, all before it
-- being in order, and what fails there.
use Rattle.std.specs.Prelude.{ℕ, suc, ◌+◌, ◌≤◌, ◌<◌, List, [], ◌∷◌, ◌≢◌, length}
use Rattle.formats.specs.Arithmetic.{Op}
use Rattle.formats.specs.Refusals.{out_of_order, too_many_pending}
use Rattle.formats.specs.Programs.{Expr, compute, if_zero, let_in, leaf_of, node_of, case_of, call, Args, no_args, arg, size, Signature, Function}
use Rattle.rules.specs.Types.{Ty, Int, Tree⁺, result_type}
use Rattle.rules.specs.Leftover.{InOrder}
use Rattle.rules.specs.Limits.{most_pending}

-- An expression that the walk enters: how many number names and tree names are bound, its record,
-- the pending trees, the expression, its type.
pub data Spot : Type 0 where
  spot : (numbers trees at_record : ℕ) (pending : List ℕ) (expr : Expr) (type : Ty) → Spot

-- The walk goes from list Δ at record r through the arguments xs, all in order, to list Δ'.
pub data ArgsInOrder (gs : List Signature) (g n : ℕ) : ℕ → List ℕ → Args → List ℕ → Type 0 where
  finished : {r : ℕ} {Δ : List ℕ} → ArgsInOrder gs g n r Δ no_args Δ
  one_more :
      {r : ℕ} {Δ Δ' Δ'' : List ℕ} {x : Expr} {xs : Args}
      → InOrder gs g n r Δ x Int Δ'
      → ArgsInOrder gs g n (r + size x) Δ' xs Δ''
      → ArgsInOrder gs g n r Δ (arg x xs) Δ''

-- The walk enters one of the arguments, those before it being in order.
pub data EntersArg (gs : List Signature) (g n : ℕ) : ℕ → List ℕ → Args → Spot → Type 0 where
  this_one : {r : ℕ} {Δ : List ℕ} {x : Expr} {xs : Args} → EntersArg gs g n r Δ (arg x xs) (spot g n r Δ x Int)
  after_it :
      {r : ℕ} {Δ Δ' : List ℕ} {x : Expr} {xs : Args} {s : Spot}
      → InOrder gs g n r Δ x Int Δ'
      → EntersArg gs g n (r + size x) Δ' xs s
      → EntersArg gs g n r Δ (arg x xs) s

-- From an expression the walk enters one of its parts, the parts before it being in order.
pub data Enters (gs : List Signature) : Spot → Spot → Type 0 where
  add_left :
      {g n r : ℕ} {Δ : List ℕ} {op : Op} {p q : Expr}
      → Enters gs (spot g n r Δ (compute op p q) Int) (spot g n (suc r) Δ p Int)
  add_right :
      {g n r : ℕ} {Δ Δ' : List ℕ} {op : Op} {p q : Expr}
      → InOrder gs g n (suc r) Δ p Int Δ'
      → Enters gs (spot g n r Δ (compute op p q) Int) (spot g n (suc r + size p) Δ' q Int)
  if_test :
      {g n r : ℕ} {Δ : List ℕ} {t z o : Expr} {τ : Ty}
      → Enters gs (spot g n r Δ (if_zero t z o) τ) (spot g n (suc r) Δ t Int)
  if-zero :
      {g n r : ℕ} {Δ Δ' : List ℕ} {t z o : Expr} {τ : Ty}
      → InOrder gs g n (suc r) Δ t Int Δ'
      → Enters gs (spot g n r Δ (if_zero t z o) τ) (spot g n (suc r + size t) Δ' z τ)
  if_other :
      {g n r : ℕ} {Δ Δ' Δ'' : List ℕ} {t z o : Expr} {τ : Ty}
      → InOrder gs g n (suc r) Δ t Int Δ'
      → InOrder gs g n (suc r + size t) Δ' z τ Δ''
      → Enters gs (spot g n r Δ (if_zero t z o) τ) (spot g n (suc r + size t + size z) Δ' o τ)
  let_number :
      {g n r : ℕ} {Δ : List ℕ} {p body : Expr} {τ : Ty}
      → Enters gs (spot g n r Δ (let_in p body) τ) (spot g n (suc r) Δ p Int)
  let_body :
      {g n r : ℕ} {Δ Δ' : List ℕ} {p body : Expr} {τ : Ty}
      → InOrder gs g n (suc r) Δ p Int Δ'
      → Enters gs (spot g n r Δ (let_in p body) τ) (spot (suc g) n (suc r + size p) Δ' body τ)
  leaf_number :
      {g n r : ℕ} {Δ : List ℕ} {p : Expr}
      → Enters gs (spot g n r Δ (leaf_of p) Tree⁺) (spot g n (suc r) Δ p Int)
  node_left :
      {g n r : ℕ} {Δ : List ℕ} {p q : Expr}
      → Enters gs (spot g n r Δ (node_of p q) Tree⁺) (spot g n (suc r) Δ p Tree⁺)
  node_right :
      {g n r : ℕ} {Δ Δ' : List ℕ} {p q : Expr}
      → InOrder gs g n (suc r) Δ p Tree⁺ Δ'
      → Enters gs (spot g n r Δ (node_of p q) Tree⁺) (spot g n (suc r + size p) Δ' q Tree⁺)
  case_leaf :
      {g n r a : ℕ} {rest : List ℕ} {p q : Expr} {τ : Ty}
      → length (a ∷ rest) < most_pending
      → Enters gs (spot g n r (a ∷ rest) (case_of a p q) τ) (spot (suc g) n (suc r) rest p τ)
  case_node :
      {g n r a : ℕ} {rest Δ' : List ℕ} {p q : Expr} {τ : Ty}
      → length (a ∷ rest) < most_pending
      → InOrder gs (suc g) n (suc r) rest p τ Δ'
      → Enters gs (spot g n r (a ∷ rest) (case_of a p q) τ) (spot g (suc (suc n)) (suc r + size p) (n ∷ (suc n ∷ rest)) q τ)
  call_number :
      {g n r a b : ℕ} {Δ : List ℕ} {xs : Args} {τ : Ty} {s : Spot}
      → EntersArg gs g n (suc r) Δ xs s
      → Enters gs (spot g n r Δ (call a b xs) τ) s

-- The walk comes from one expression to another, a part at a time.
pub data WalksTo (gs : List Signature) : Spot → Spot → Type 0 where
  here : {s : Spot} → WalksTo gs s s
  further : {s s' s'' : Spot} → Enters gs s s' → WalksTo gs s' s'' → WalksTo gs s s''

-- Tree a is the head of the list.
pub data IsHead (a : ℕ) : List ℕ → Type 0 where
  head : {rest : List ℕ} → IsHead a (a ∷ rest)

-- What fails at the expression just entered, with the refusal's number and its position, a record:
-- a rule for each condition of the row "pass two", and one for each kind that it concerns.
pub data Faults (gs : List Signature) : Spot → ℕ → ℕ → Type 0 where
  -- "11 not the head"
  case_not_head :
      {g n r a : ℕ} {Δ : List ℕ} {p q : Expr} {τ : Ty}
      → (IsHead a Δ → ⊥)
      → Faults gs (spot g n r Δ (case_of a p q) τ) out_of_order r
  call_not_head :
      {g n r a b : ℕ} {Δ Δ' : List ℕ} {xs : Args} {τ : Ty}
      → ArgsInOrder gs g n (suc r) Δ xs Δ'
      → (IsHead a Δ' → ⊥)
      → Faults gs (spot g n r Δ (call a b xs) τ) out_of_order r
  -- "lists unequal (at the Case or IfZero)"
  case_unequal :
      {g n r a : ℕ} {rest Δ₁ Δ₂ : List ℕ} {p q : Expr} {τ : Ty}
      → length (a ∷ rest) < most_pending
      → InOrder gs (suc g) n (suc r) rest p τ Δ₁
      → InOrder gs g (suc (suc n)) (suc r + size p) (n ∷ (suc n ∷ rest)) q τ Δ₂
      → Δ₁ ≢ Δ₂
      → Faults gs (spot g n r (a ∷ rest) (case_of a p q) τ) out_of_order r
  if_unequal :
      {g n r : ℕ} {Δ Δ' Δ₁ Δ₂ : List ℕ} {t z o : Expr} {τ : Ty}
      → InOrder gs g n (suc r) Δ t Int Δ'
      → InOrder gs g n (suc r + size t) Δ' z τ Δ₁
      → InOrder gs g n (suc r + size t + size z) Δ' o τ Δ₂
      → Δ₁ ≢ Δ₂
      → Faults gs (spot g n r Δ (if_zero t z o) τ) out_of_order r
  -- "12 Case with 16 pending"
  case_full :
      {g n r a : ℕ} {rest : List ℕ} {p q : Expr} {τ : Ty}
      → most_pending ≤ length (a ∷ rest)
      → Faults gs (spot g n r (a ∷ rest) (case_of a p q) τ) too_many_pending r

-- The first fault in these functions, with its number and its position. The first node of the first
-- function is record r.
pub data FirstFault (gs : List Signature) : ℕ → List Function → ℕ → ℕ → Type 0 where
  in_this_function :
      {r number position : ℕ} {f : Function} {fs : List Function} {s : Spot}
      → WalksTo gs (spot f.parameters 1 r (0 ∷ []) f.body (result_type f.sort)) s
      → Faults gs s number position
      → FirstFault gs r (f ∷ fs) number position
  -- "trees left (at the function's first node)"
  trees_left :
      {r : ℕ} {f : Function} {fs : List Function} {Δ : List ℕ}
      → InOrder gs f.parameters 1 r (0 ∷ []) f.body (result_type f.sort) Δ
      → Δ ≢ []
      → FirstFault gs r (f ∷ fs) out_of_order r
  after_it :
      {r number position : ℕ} {f : Function} {fs : List Function}
      → InOrder gs f.parameters 1 r (0 ∷ []) f.body (result_type f.sort) []
      → FirstFault gs (r + size f.body) fs number position
      → FirstFault gs r (f ∷ fs) number position
