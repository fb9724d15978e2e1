-- What pass two says of the pending trees: a tree that is taken stands at the head, two branches
-- end with one list, and what is left is a tail of the list.
use Prim.Native.Nat.{ℕ, suc, ◌+◌}
use mathlib.Core.List.{List, [], ◌∷◌}
use mathlib.Core.Path.{◌≡◌, refl, ap, ◌∙◌}
use borrow.Author.Tests.{eqb-true}
use lib.Dec.{eqb, ltb}
use lib.ListN.{length}
use Rattle.formats.specs.Refusals.{out_of_order, too_many_pending}
use Rattle.formats.specs.Results.{Result, done}
use Rattle.formats.specs.Programs.{Expr, const, var, compute, if_zero, let_in, leaf_of, node_of, case_of, call, Args, no_args, arg, size}
use Rattle.formats.proofs.Results.{done_injective, done_not, then_inv, check_inv}
use Rattle.rules.specs.Limits.{most_pending}
use Rattle.rules.specs.PassOne.{holds_at}
use Rattle.rules.specs.PassTwo.{take_head, same_names, equal_branches, walk, walk_args}
use Rattle.rules.proofs.PassTwo.{same-names}

-- a tree that is taken stands at the head
pub head-taken : (a r : ℕ) (Δ Δ' : List ℕ) → take_head a r Δ ≡ done Δ' → Δ ≡ a ∷ Δ'
unfolding take_head
head-taken a r [] Δ' e = done_not e refl
head-taken a r (x ∷ Δ) Δ' e =
    let c = check_inv (eqb x a) out_of_order r Δ Δ' e in
    let same = eqb-true x a c.held in
    let rest = c.same in
    cc

-- two branches end with the same list
pub both_branches : (r : ℕ) (one other : Result (List ℕ)) (Δ : List ℕ) → equal_branches r one other ≡ done Δ → (one ≡ done Δ) × (other ≡ done Δ)
unfolding equal_branches
both_branches r one other Δ e =
    let first = then_inv one _ Δ e in
    let second = then_inv other _ Δ first.second in
    let c = check_inv (same_names first.value second.value) out_of_order r second.value Δ second.second in
    let same = same-names first.value second.value c.held in
    (first.first ∙ ap done (same ∙ c.same), second.first ∙ ap done c.same)

-- What a Case that passes says: its tree stands at the head, and both branches end with the same
-- list.
pub record CaseInOrder (n r a : ℕ) (Δ Δ' : List ℕ) (p q : Expr) : Type 0 where
  pub rest : List ℕ
  pub at_head : Δ ≡ a ∷ rest
  pub leaf_part : walk n (suc r) rest p ≡ done Δ'
  pub node_part : walk (suc (suc n)) (suc r + size p) (n ∷ (suc n ∷ rest)) q ≡ done Δ'

pub case_in_order : (n r a : ℕ) (Δ Δ' : List ℕ) (p q : Expr) → walk n r Δ (case_of a p q) ≡ done Δ' → CaseInOrder n r a Δ Δ' p q
unfolding walk
case_in_order n r a Δ Δ' p q e =
    let head = then_inv (take_head a r Δ) _ Δ' e in
    let few = then_inv (holds_at (ltb (length Δ) most_pending) too_many_pending r) _ Δ' head.second in
    let both = both_branches r (walk n (suc r) head.value p) _ Δ' few.second in
    record { rest = head.value; at_head = head-taken a r Δ head.value head.first; leaf_part = both.0; node_part = both.1 }

-- ---- what is left

-- The second list is a tail of the first.
pub data Tail : List ℕ → List ℕ → Type 0 where
  all_left : {Δ : List ℕ} → Tail Δ Δ
  one_taken : {x : ℕ} {Δ Δ' : List ℕ} → Tail Δ Δ' → Tail (x ∷ Δ) Δ'

tail_on : {Δ Δ' Δ'' : List ℕ} → Tail Δ Δ' → Tail Δ' Δ'' → Tail Δ Δ''
tail_on all_left h = h
tail_on (one_taken g) h = one_taken (tail_on g h)

same_tail : {Δ Δ' : List ℕ} → done Δ ≡ done Δ' → Tail Δ Δ'
same_tail e = rw (← done_injective e) all_left

head_tail : (a r : ℕ) (Δ Δ' : List ℕ) → take_head a r Δ ≡ done Δ' → Tail Δ Δ'
head_tail a r Δ Δ' e = rw (head-taken a r Δ Δ' e) (one_taken all_left)

mutual
  unfolding walk walk_args

  pub walk_tail : (n r : ℕ) (Δ Δ' : List ℕ) (e : Expr) → walk n r Δ e ≡ done Δ' → Tail Δ Δ'
  walk_tail n r Δ Δ' (const i) h = same_tail h
  walk_tail n r Δ Δ' (var a) h = same_tail h
  walk_tail n r Δ Δ' (compute op p q) h =
      let c = then_inv (walk n _ Δ p) _ Δ' h in tail_on (walk_tail n _ Δ _ p c.first) (walk_tail n _ _ Δ' q c.second)
  walk_tail n r Δ Δ' (if_zero t z o) h =
      let c = then_inv (walk n _ Δ t) _ Δ' h in
      tail_on (walk_tail n _ Δ _ t c.first) (walk_tail n _ _ Δ' z (both_branches r (walk n _ _ z) (walk n _ _ o) Δ' c.second).0)
  walk_tail n r Δ Δ' (let_in p body) h =
      let c = then_inv (walk n _ Δ p) _ Δ' h in tail_on (walk_tail n _ Δ _ p c.first) (walk_tail n _ _ Δ' body c.second)
  walk_tail n r Δ Δ' (leaf_of p) h = walk_tail n _ Δ Δ' p h
  walk_tail n r Δ Δ' (node_of p q) h =
      let c = then_inv (walk n _ Δ p) _ Δ' h in tail_on (walk_tail n _ Δ _ p c.first) (walk_tail n _ _ Δ' q c.second)
  walk_tail n r Δ Δ' (case_of a p q) h =
      let c = case_in_order n r a Δ Δ' p q h in rw c.at_head (one_taken (walk_tail n _ c.rest Δ' p c.leaf_part))
  walk_tail n r Δ Δ' (call a b xs) h =
      let c = then_inv (walk_args n _ Δ xs) _ Δ' h in tail_on (walk_tail_args n _ Δ _ xs c.first) (head_tail a r _ Δ' c.second)

  walk_tail_args : (n r : ℕ) (Δ Δ' : List ℕ) (xs : Args) → walk_args n r Δ xs ≡ done Δ' → Tail Δ Δ'
  walk_tail_args n r Δ Δ' no_args h = same_tail h
  walk_tail_args n r Δ Δ' (arg x xs) h =
      let c = then_inv (walk n _ Δ x) _ Δ' h in tail_on (walk_tail n _ Δ _ x c.first) (walk_tail_args n _ _ Δ' xs c.second)
