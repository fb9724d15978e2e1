-- Pass one: names, types and words. 01, Pass one: "Pass one, in prefix order, at each record: name
-- bound, then type, then words."
use Rattle.std.specs.Prelude.{ℕ, zero, suc, max, Bool, true, false, List, [], ◌∷◌, ◌≡◌, ltb, length}
use Rattle.std.proofs.Math.Option.{none, some}
use Rattle.formats.specs.Refusals.{wrong_type, not_bound, too_many_words}
use Rattle.formats.specs.Results.{Result, done, and_then, value_if}
use Rattle.formats.specs.Records.{Kind, Const, Var, Compute, IfZero, Let, Leaf, Node, Case, Call, nth}
use Rattle.formats.specs.Programs.{Expr, const, var, compute, if_zero, let_in, leaf_of, node_of, case_of, call, Args, no_args, arg, Sort, number_valued, tree_valued, Signature, Program, signatures}
use Rattle.rules.specs.Types.{is_int, is_output_tree, has_type}
use Rattle.rules.specs.Scopes.{Scope, scope, Entry, entry, entered_all}
use Rattle.rules.specs.Limits.{most_frame_words}

-- Whether the name that the record uses is bound; most kinds use none.
unfoldable pub name_bound : Scope → Kind → Bool
name_bound (scope g n w τ) (Const i) = true
name_bound (scope g n w τ) (Var a) = ltb a g
name_bound (scope g n w τ) (Compute op) = true
name_bound (scope g n w τ) IfZero = true
name_bound (scope g n w τ) Let = true
name_bound (scope g n w τ) Leaf = true
name_bound (scope g n w τ) Node = true
name_bound (scope g n w τ) (Case a) = ltb a n
name_bound (scope g n w τ) (Call a b) = ltb a n

-- Whether the record has the type that is expected. IfZero, Let and Case have the type of their
-- parts, so any is right.
unfoldable pub type_fits : List Signature → Scope → Kind → Bool
type_fits gs (scope g n w τ) (Const i) = is_int τ
type_fits gs (scope g n w τ) (Var a) = is_int τ
type_fits gs (scope g n w τ) (Compute op) = is_int τ
type_fits gs (scope g n w τ) IfZero = true
type_fits gs (scope g n w τ) Let = true
type_fits gs (scope g n w τ) Leaf = is_output_tree τ
type_fits gs (scope g n w τ) Node = is_output_tree τ
type_fits gs (scope g n w τ) (Case a) = true
type_fits gs (scope g n w τ) (Call a b) = elim (nth gs b) [ none ↦ false | some s ↦ has_type s.sort τ ]

-- Whether a function gives a number and has no number parameters.
unfoldable pub bare_number : Signature → Bool
bare_number s = elim s.sort [ tree_valued ↦ false | number_valued ↦ elim s.parameters [ zero ↦ true | suc k ↦ false ] ]

-- 01, Words: "It is tested on entering Const, Var, Case, and a number-valued Call with no
-- arguments: refused where 16 stand already."
unfoldable pub words_tested : List Signature → Kind → Bool
words_tested gs (Const i) = true
words_tested gs (Var a) = true
words_tested gs (Compute op) = false
words_tested gs IfZero = false
words_tested gs Let = false
words_tested gs Leaf = false
words_tested gs Node = false
words_tested gs (Case a) = true
words_tested gs (Call a b) = elim (nth gs b) [ none ↦ false | some s ↦ bare_number s ]

-- Whether there is room for one word more, where the words are tested.
unfoldable pub has_room : List Signature → Scope → Kind → Bool
has_room gs (scope g n w τ) kind = elim (words_tested gs kind) [ true ↦ ltb w most_frame_words | false ↦ true ]

-- Passed where the condition holds, else its refusal at record r.
abbrev pub holds_at : Bool → ℕ → ℕ → Result (Unit {0})
holds_at condition number r = value_if condition number r tt

-- The tests of one record, in their order.
unfoldable pub at_entry : List Signature → Entry → Result (Unit {0})
at_entry gs (entry sc r kind) =
    and_then
    (holds_at (name_bound sc kind) not_bound r)
    (λ u. and_then (holds_at (type_fits gs sc kind) wrong_type r) (λ v. holds_at (has_room gs sc kind) too_many_words r))

-- The tests of one record after the other.
unfoldable pub pass_over : List Signature → List Entry → Result (Unit {0})
pass_over gs [] = done tt
pass_over gs (x ∷ xs) = and_then (at_entry gs x) (λ u. pass_over gs xs)

unfoldable pub pass_one : Program → Result (Unit {0})
pass_one program = pass_over (signatures program) (entered_all (suc (length program.functions)) program.functions)

-- ---- where a condition first fails

-- One of the three conditions fails at a record, and those before it in the row hold.
pub data Fails (gs : List Signature) : Entry → ℕ → ℕ → Type 0 where
  name_not_bound : {sc : Scope} {r : ℕ} {kind : Kind} → name_bound sc kind ≡ false → Fails gs (entry sc r kind) not_bound r
  wrong-type : {sc : Scope} {r : ℕ} {kind : Kind} → name_bound sc kind ≡ true → type_fits gs sc kind ≡ false → Fails gs (entry sc r kind) wrong_type r
  too-many-words :
      {sc : Scope} {r : ℕ} {kind : Kind}
      → name_bound sc kind ≡ true
      → type_fits gs sc kind ≡ true
      → has_room gs sc kind ≡ false
      → Fails gs (entry sc r kind) too_many_words r

-- All three conditions hold at a record.
pub data AllHold (gs : List Signature) : Entry → Type 0 where
  all_three : {sc : Scope} {r : ℕ} {kind : Kind} → name_bound sc kind ≡ true → type_fits gs sc kind ≡ true → has_room gs sc kind ≡ true → AllHold gs (entry sc r kind)

-- A condition fails at a record, and all three hold at each record before it.
pub data FirstFails (gs : List Signature) : List Entry → ℕ → ℕ → Type 0 where
  here : {x : Entry} {xs : List Entry} {number r : ℕ} → Fails gs x number r → FirstFails gs (x ∷ xs) number r
  later : {x : Entry} {xs : List Entry} {number r : ℕ} → AllHold gs x → FirstFails gs xs number r → FirstFails gs (x ∷ xs) number r

-- ---- the limit of 16 words

-- The words that stand once a value is found, where w stood before: a number is left on a word, a
-- tree is not.
unfoldable pub words_with_value : Sort → ℕ → ℕ
words_with_value number_valued w = suc w
words_with_value tree_valued w = w

-- The most words that stand while an expression is taken, where w stand on entering it. 01, Words:
-- "The word count is that of the value stack above the frame's base".
unfoldable mutual
  pub words_of : List Signature → ℕ → Expr → ℕ
  words_of gs w (const i) = suc w
  words_of gs w (var a) = suc w
  words_of gs w (compute op p q) = max (words_of gs w p) (words_of gs (suc w) q)
  words_of gs w (if_zero t z o) = max (words_of gs w t) (max (words_of gs w z) (words_of gs w o))
  words_of gs w (let_in p body) = max (words_of gs w p) (words_of gs (suc w) body)
  words_of gs w (leaf_of p) = words_of gs w p
  words_of gs w (node_of p q) = max (words_of gs w p) (words_of gs w q)
  words_of gs w (case_of a p q) = max (words_of gs (suc w) p) (words_of gs w q)
  words_of gs w (call a b xs) = elim (nth gs b) [ none ↦ w | some s ↦ max (words_with_value s.sort w) (words_of_args gs w xs) ]

  pub words_of_args : List Signature → ℕ → Args → ℕ
  words_of_args gs w no_args = w
  words_of_args gs w (arg x xs) = max (words_of gs w x) (words_of_args gs (suc w) xs)
