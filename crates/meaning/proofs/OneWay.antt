-- Reductions go one way: a term reduces to at most one other, a value to none, and a term that is
-- stuck at a sum to none.
--
-- The contexts fix the order in which a term's parts reduce. So a function finds the position where
-- a term may reduce: in its first part, else in its second, else the whole term; a value has none.
-- By cases on the context, where a redex stands in its hole, that position is the hole. So a term
-- is a redex in a context in one way only, and a redex becomes one term only. The same holds of an
-- operation on two numbers in place of the redex: without a result it is none, and so the term that
-- is stuck there does not reduce.
use Prim.Native.Nat.{ℕ, zero, suc}
use mathlib.Core.List.{[], ◌∷◌}
use mathlib.Core.Option.{Option, none, some, some-injective, none-ne-some}
use mathlib.Core.Path.{◌≡◌, refl, sym, ap, fun_ext, ◌∙◌}
use Rattle.formats.specs.Arithmetic.{Op, result_of}
use Rattle.formats.specs.Records.{nth}
use Rattle.formats.specs.Programs.{Function, Program}
use Rattle.rules.specs.Printed.{Name, number_name, tree_name, function_name, Term, int, lam, name, app, compute_term, fix, leaf_term, node_term, case, let_01, if_zero_01}
use Rattle.meaning.specs.Reductions.{TreeValue, leaf_value, node_value, IsValue, an_integer, an_abstraction, a-tree}
use Rattle.meaning.specs.Reductions.{same_name, only, substitute, fixes, fixing}
use Rattle.meaning.specs.Reductions.{Redex, Es-Plus, Es-App, Es-App-let, Es-Fix, Es-Case1, Es-Case2, IfZero-zero, IfZero-other}
use Rattle.meaning.specs.Reductions.{Context, hole, app_left, app_right, plus_left, plus_right, in_leaf, node_left, node_right, in_case, in_let, in_test, plug}
use Rattle.meaning.specs.Reductions.{Reduces, in_context, StuckAt, at_sum}
use Rattle.meaning.specs.Meaning.{Stuck}

-- ---- the position where a term reduces

-- a part of a term, and the term around it as a function of that part
record Location : Type 0 where
  part : Term
  around : Term → Term

-- the whole term, with nothing around
whole : Term → Option Location
whole M = some (record { part = M; around = λ L. L })

-- the position in a part, with what stands around that part; where the part has none, another
inside : Option Location → (Term → Term) → Option Location → Option Location
inside none around other = other
inside (some p) around other = some (record { part = p.part; around = λ L. around (p.around L) })

-- the only position where a term may reduce, whether or not a redex stands there
position : Term → Option Location
position (int i) = none
position (lam x M) = none
position (name x) = none
position (app M N) = inside (position M) (λ L. app L N) (inside (position N) (app M) (whole (app M N)))
position (compute_term op M N) =
    inside (position M) (λ L. compute_term op L N) (inside (position N) (compute_term op M) (whole (compute_term op M N)))
position (fix f M) = whole (fix f M)
position (leaf_term M) = inside (position M) leaf_term none
position (node_term M N) = inside (position M) (λ L. node_term L N) (inside (position N) (node_term M) none)
position (case M x M₁ x₁ x₂ M₂) = inside (position M) (λ L. case L x M₁ x₁ x₂ M₂) (whole (case M x M₁ x₁ x₂ M₂))
position (let_01 x M N) = inside (position M) (λ L. let_01 x L N) (whole (let_01 x M N))
position (if_zero_01 M M₁ M₂) = inside (position M) (λ L. if_zero_01 L M₁ M₂) (whole (if_zero_01 M M₁ M₂))

-- a value has none: first a tree value, then any
focus_tree : {M : Term} → TreeValue M → position M ≡ none
unfolding position inside
focus_tree leaf_value = refl
focus_tree (node_value v w) = rw (focus_tree v, focus_tree w)

focus_value : {M : Term} → IsValue M → position M ≡ none
unfolding position
focus_value an_integer = refl
focus_value an_abstraction = refl
focus_value (a-tree v) = focus_tree v

-- a redex's position is the whole of it
focus_redex : {program : Program} {M N : Term} → Redex program M N → position M ≡ whole M
unfolding position inside
focus_redex (Es-Plus e) = refl
focus_redex (Es-App w) = rw (focus_value w)
focus_redex (Es-App-let (Es-App w)) = rw (focus_value w)
focus_redex Es-Fix = refl
focus_redex Es-Case1 = refl
focus_redex (Es-Case2 v w) = rw (focus_tree v, focus_tree w)
focus_redex IfZero-zero = refl
focus_redex IfZero-other = refl

-- so is that of an operation on two numbers, whether or not it has a result
focus_operation : (op : Op) (i j : ℕ) → position (compute_term op (int i) (int j)) ≡ whole (compute_term op (int i) (int j))
unfolding position inside
focus_operation op i j = refl

-- with such a term in the hole of a context, it is the hole
focus_plug : {M : Term} → position M ≡ whole M → (E : Context) → position (plug E M) ≡ some (record { part = M; around = plug E })
unfolding position inside whole plug
focus_plug is hole = is
focus_plug is (app_left E N) = rw (focus_plug is E)
focus_plug is (app_right x N E) = rw (focus_plug is E)
focus_plug is (plus_left op E N) = rw (focus_plug is E)
focus_plug is (plus_right op i E) = rw (focus_plug is E)
focus_plug is (in_leaf E) = rw (focus_plug is E)
focus_plug is (node_left E N) = rw (focus_plug is E)
focus_plug is (node_right v E) = rw (focus_tree v, focus_plug is E)
focus_plug is (in_case E x M₁ x₁ x₂ M₂) = rw (focus_plug is E)
focus_plug is (in_let x E N) = rw (focus_plug is E)
focus_plug is (in_test E M₁ M₂) = rw (focus_plug is E)

-- so a term is such a term in a context in one way only
one_location :
    {L L' : Term} (E E' : Context)
    → position L ≡ whole L
    → position L' ≡ whole L'
    → plug E L ≡ plug E' L'
    → ◌≡◌ {A = Location} (record { part = L; around = plug E }) (record { part = L'; around = plug E' })
one_location E E' is is' e = some-injective _ _ (sym (focus_plug is E) ∙ ap position e ∙ focus_plug is' E')

-- ---- terms that are stuck

-- a term is stuck at one operation on two numbers only
pub stuck_once :
    {op op' : Op} {i j i' j' : ℕ} {M : Term}
    → StuckAt op i j M
    → StuckAt op' i' j' M
    → compute_term op (int i) (int j) ≡ compute_term op' (int i') (int j')
stuck_once {op} {op'} {i} {j} {i'} {j'} {M} (at_sum E missing) s = same s refl
  where
    same : {N : Term} → StuckAt op' i' j' N → M ≡ N → compute_term op (int i) (int j) ≡ compute_term op' (int i') (int j')
    same (at_sum E' missing') e =
        ap (λ p. p.part) (one_location E E' (focus_operation op i j) (focus_operation op' i' j') e)

-- it is no value
pub stuck_no_value : (M : Term) → Stuck M → IsValue M → ⊥
stuck_no_value M s v = at_operation s.stuck v
  where
    at_operation : {op : Op} {i j : ℕ} {N : Term} → StuckAt op i j N → IsValue N → ⊥
    at_operation (at_sum E missing) v = none-ne-some _ (sym (focus_value v) ∙ focus_plug (focus_operation _ _ _) E)

module _ (program : Program) where
  -- ---- one way

  -- a redex becomes one term only
  redex_one_way : {M N N' : Term} → Redex program M N → Redex program M N' → N ≡ N'
  redex_one_way (Es-Plus e) (Es-Plus e') = ap int (some-injective _ _ (sym e ∙ e'))
  redex_one_way (Es-App w) (Es-App w') = refl
  redex_one_way (Es-App-let r) (Es-App-let r') = redex_one_way r r'
  redex_one_way Es-Fix Es-Fix = refl
  redex_one_way Es-Case1 Es-Case1 = refl
  redex_one_way (Es-Case2 v w) (Es-Case2 v' w') = refl
  redex_one_way IfZero-zero IfZero-zero = refl
  redex_one_way IfZero-other IfZero-other = refl

  -- a term reduces to at most one other: its position gives the redex and what stands around it
  pub one_way : (M N N' : Term) → Reduces program M N → Reduces program M N' → N ≡ N'
  one_way M N N' (in_context {M = L} {N = K} E r) d = same d refl
    where
      same : {P Q : Term} → Reduces program P Q → M ≡ P → N ≡ Q
      same (in_context {M = L'} E' r') e =
          let one_position = one_location E E' (focus_redex r) (focus_redex r') e in
          let one_redex : L ≡ L' = ap (λ p. p.part) one_position in
          ap (λ p. p.around K) one_position ∙ ap (plug E') (redex_one_way r (rw one_redex r'))

  -- a value does not reduce
  pub at-end : (M N : Term) → IsValue M → Reduces program M N → ⊥
  at-end M N v (in_context E r) = none-ne-some _ (sym (focus_value v) ∙ focus_plug (focus_redex r) E)

  -- an operation that has no result is no redex ..
  no_redex : {op : Op} {i j : ℕ} {K : Term} → result_of op i j ≡ none → Redex program (compute_term op (int i) (int j)) K → ⊥
  no_redex missing (Es-Plus e) = none-ne-some _ (sym missing ∙ e)

  -- .. so a term that is stuck there does not reduce
  pub stuck_there : (M N : Term) → Stuck M → Reduces program M N → ⊥
  stuck_there M N s r = at_operation s.stuck r refl
    where
      at_operation : {op : Op} {i j : ℕ} {P Q R : Term} → StuckAt op i j P → Reduces program Q R → P ≡ Q → ⊥
      at_operation {op} {i} {j} (at_sum E missing) (in_context {M = L} {N = K} E' r) e =
          let one_redex : compute_term op (int i) (int j) ≡ L = ap (λ p. p.part) (one_location E E' (focus_operation op i j) (focus_redex r) e) in
          no_redex {K = K} missing (rw one_redex r)

  -- ---- one function

  -- where there is one, its name is the only one that Es-Fix replaces
  pub one_function :
      (f : Function) (M : Term)
      → program.functions ≡ f ∷ []
      → Redex program (fix (function_name 0) M) (substitute (only (function_name 0) (fix (function_name 0) M)) M)
  unfolding nth fixes fixing only same_name
  one_function f M e = rw (← fun_ext one_name) Es-Fix
    where
      one_name : (x : Name) → fixing program (function_name 0) M x ≡ only (function_name 0) (fix (function_name 0) M) x
      one_name (number_name k) = refl
      one_name (tree_name k) = refl
      one_name (function_name zero) = refl
      one_name (function_name (suc b)) = rw e
