-- The first fault is where pass two refuses. What comes before it is in order, so the refusal there
-- is that of the whole walk.
use Prim.Native.Nat.{ℕ, suc, ◌+◌}
use mathlib.Core.Bool.{false, not-eq-not}
use mathlib.Core.List.{List, [], ◌∷◌, cons≢nil}
use mathlib.Core.Logic.{◌↔◌, ◌≢◌}
use mathlib.Core.Path.{◌≡◌, refl, ap, ◌∙◌}
use Rattle.formats.specs.Refusals.{out_of_order}
use Rattle.formats.specs.Results.{Result, done, refusal, value_if}
use Rattle.formats.specs.Programs.{Args, size, Signature, Function, Program, signatures, LawfulFunctions, Lawful}
use Rattle.formats.proofs.Results.{then_done, then_refused}
use Rattle.rules.specs.Types.{result_type}
use Rattle.rules.specs.Scopes.{start_of, entered, entered_all}
use Rattle.rules.specs.PassOne.{pass_over, pass_one}
use Rattle.rules.specs.PassTwo.{same_names, equal_branches, walk, walk_args, none_left, walk_all, pass_two}
use Rattle.rules.specs.FirstFault.{Spot, spot, EntersArg, this_one, Enters, WalksTo, here, further, Faults, FirstFault, in_this_function, trees_left}
use Rattle.rules.specs.FirstFault.{add_left, add_right, if_test, if-zero, if_other, let_number, let_body, leaf_number, node_left, node_right, case_leaf, case_node, call_number}
use Rattle.rules.specs.FirstFault.{case_not_head, call_not_head, case_unequal, if_unequal, case_full}
use Rattle.rules.specs.OrderChecker.{first_node}
use Rattle.rules.proofs.PassOne.{pass_left, pass_right}
use Rattle.rules.proofs.PassTwo.{ValueOrRefusal, good, bad, said_refused, said_then, said_worse, same-names, take_other, case_open, case_stops, walks, walks_args, reported}

-- the walk from a spot on
abbrev walk_from : Spot → Result (List ℕ)
walk_from (spot g n r Δ e τ) = walk n r Δ e

-- ---- from the first fault to the refusal

module _ {gs : List Signature} {number position : ℕ} where
  -- a part's refusal is the whole's
  arg_refused :
      {g n r : ℕ} {Δ : List ℕ} {xs : Args} {s : Spot}
      → EntersArg gs g n r Δ xs s
      → walk_from s ≡ refusal number position
      → walk_args n r Δ xs ≡ refusal number position
  unfolding walk_args
  arg_refused this_one e = then_refused _ e
  arg_refused (EntersArg.after_it o more) e = then_done _ (walks o) ∙ arg_refused more e

  part_refused : {s s' : Spot} → Enters gs s s' → walk_from s' ≡ refusal number position → walk_from s ≡ refusal number position
  unfolding walk equal_branches
  part_refused add_left e = then_refused _ e
  part_refused (add_right o) e = then_done _ (walks o) ∙ e
  part_refused if_test e = then_refused _ e
  part_refused (if-zero o) e = then_done _ (walks o) ∙ then_refused _ e
  part_refused (if_other o o₁) e = then_done _ (walks o) ∙ (then_done _ (walks o₁) ∙ then_refused _ e)
  part_refused let_number e = then_refused _ e
  part_refused (let_body o) e = then_done _ (walks o) ∙ e
  part_refused leaf_number e = e
  part_refused node_left e = then_refused _ e
  part_refused (node_right o) e = then_done _ (walks o) ∙ e
  part_refused (case_leaf {n = n} {p = p} {q = q} few) e = case_open n _ _ _ p q few ∙ then_refused _ e
  part_refused (case_node {n = n} {p = p} {q = q} few o) e = case_open n _ _ _ p q few ∙ (then_done _ (walks o) ∙ then_refused _ e)
  part_refused (call_number enters) e = then_refused _ (arg_refused enters e)

  -- so it is all the way back
  refused_from : {s s' : Spot} → WalksTo gs s s' → walk_from s' ≡ refusal number position → walk_from s ≡ refusal number position
  refused_from here e = e
  refused_from (further enters more) e = part_refused enters (refused_from more e)

-- what fails is refused
unequal_refused : (r : ℕ) (Δ₁ Δ₂ : List ℕ) → Δ₁ ≢ Δ₂ → value_if (same_names Δ₁ Δ₂) out_of_order r Δ₂ ≡ refusal out_of_order r
unequal_refused r Δ₁ Δ₂ unequal =
    let h : same_names Δ₁ Δ₂ ≡ false = not-eq-not.0 (λ same. unequal (same-names Δ₁ Δ₂ same)) in
    ap (λ t. value_if t out_of_order r Δ₂) h

fault_refused : {gs : List Signature} {s : Spot} {number position : ℕ} → Faults gs s number position → walk_from s ≡ refusal number position
unfolding walk equal_branches
fault_refused (case_not_head other) = then_refused _ (take_other _ _ _ other)
fault_refused (call_not_head os other) = then_done _ (walks_args os) ∙ take_other _ _ _ other
fault_refused (case_unequal {n = n} {p = p} {q = q} few o₁ o₂ unequal) =
    case_open n _ _ _ p q few ∙ (then_done _ (walks o₁) ∙ (then_done _ (walks o₂) ∙ unequal_refused _ _ _ unequal))
fault_refused (if_unequal o o₁ o₂ unequal) =
    then_done _ (walks o) ∙ (then_done _ (walks o₁) ∙ (then_done _ (walks o₂) ∙ unequal_refused _ _ _ unequal))
fault_refused (case_full {n = n} {p = p} {q = q} full) = case_stops n _ _ _ p q full

trees_refused : (r : ℕ) (Δ : List ℕ) → Δ ≢ [] → none_left r Δ ≡ refusal out_of_order r
unfolding none_left
trees_refused r [] left = absurd (left refl)
trees_refused r (x ∷ xs) left = refl

-- the first fault of functions is what their walk refuses
refused_there : {gs : List Signature} {r : ℕ} {fs : List Function} {number position : ℕ} → FirstFault gs r fs number position → walk_all r fs ≡ refusal number position
unfolding walk_all none_left
refused_there (in_this_function comes faults) = then_refused _ (refused_from comes (fault_refused faults))
refused_there (trees_left {r = r} {Δ = Δ} o left) = then_done _ (walks o) ∙ then_refused _ (trees_refused r Δ left)
refused_there (FirstFault.after_it o more) = then_done _ (walks o) ∙ refused_there more

-- ---- from the refusal to the first fault

-- the walk of functions that passed pass one is refused only at their first fault
all_reported :
    (gs : List Signature) (j r : ℕ) (fs : List Function)
    → LawfulFunctions gs j fs
    → pass_over gs (entered_all r fs) ≡ done tt
    → ValueOrRefusal (λ u. Unit {0}) (FirstFault gs r fs) (walk_all r fs)
unfolding entered_all start_of walk_all none_left
all_reported gs j r [] lawful passed = good tt
all_reported gs j r (f ∷ fs) lawful passed =
    let k = f.parameters in
    let own = entered (start_of f) r f.body in
    let more = all_reported gs (suc j) (r + size f.body) fs lawful.1 (pass_right gs own _ passed) in
    said_then
    (reported gs k 1 k r (0 ∷ []) (result_type f.sort) f.body lawful.0.applied (pass_left gs own _ passed))
    (λ number position m. in_this_function m.comes m.faults)
    (elim [ [] ↦ λ o. said_worse (λ number position m. FirstFault.after_it o m) more | ◌∷◌ x xs ↦ λ o. bad (trees_left o cons≢nil) ])

-- ---- both

pub pass-two :
    (program : Program) (number r : ℕ)
    → Lawful program
    → pass_one program ≡ done tt
    → (pass_two program ≡ refusal number r) ↔ FirstFault (signatures program) (first_node program) program.functions number r
unfolding pass_one pass_two
pass-two program number r lawful passed =
    (said_refused (all_reported (signatures program) 0 (first_node program) program.functions lawful.functions passed), refused_there)

pub only_one :
    (program : Program) (number r number' r' : ℕ)
    → Lawful program
    → pass_one program ≡ done tt
    → FirstFault (signatures program) (first_node program) program.functions number r
    → FirstFault (signatures program) (first_node program) program.functions number' r'
    → (number ≡ number') × (r ≡ r')
only_one program number r number' r' lawful passed f f' =
    let e = (pass-two program number r lawful passed).1 f in
    let e' = (pass-two program number' r' lawful passed).1 f' in
    (cc, cc)
