-- A record's own tests: a law for each way out of their functions.
use Prim.Native.Nat.{ℕ, zero, suc}
use mathlib.Core.Bool.{Bool, true, false, not, beq, false≢true}
use mathlib.Core.List.{List}
use mathlib.Core.Logic.{◌⊎◌, inl, inr}
use mathlib.Core.Path.{◌≡◌, refl, sym, ap, subst, ◌∙◌}
use native.Mathlib.Omega.{arith}
use borrow.Author.Tests.{ltb-true, eq-eqb, ne_eqb, not-true, not-false}
use lib.Dec.{ltb, eqb}
use Rattle.formats.specs.Refusals.{wrong_type, not_bound, too_many_words}
use Rattle.formats.specs.Results.{Result, and_then}
use Rattle.formats.specs.Records.{function_below}
use Rattle.formats.specs.Programs.{Sort, number_valued, tree_valued, sort_number, Signature}
use Rattle.formats.specs.Inner.Fields.{header_in, sort_in, arity_in}
use Rattle.formats.proofs.Rows.{function_read}
use Rattle.refusal.specs.declared.Refusal.TheVariants.{WrongType, NotBound, TooManyWords}
use Rattle.std.specs.Prelude.{Ok, Err}
use Rattle.refusal.specs.declared.Refused.{Refused}
use Rattle.records.specs.Inner.Read.{meant}
use Rattle.records.specs.declared.Record.{Record}
use Rattle.records.specs.declared.Record.TheVariants.{Const, Var, Add, IfZero, Let, Leaf, Node, Case, Call}
use Rattle.records.specs.declared.Constant.{Constant}
use Rattle.records.specs.declared.NumberName.{NumberName}
use Rattle.records.specs.declared.TreeName.{TreeName}
use Rattle.records.specs.declared.Called.{Called}
use Rattle.rules.specs.Types.{is_int, is_output_tree, has_type}
use Rattle.rules.specs.Scopes.{entry}
use Rattle.rules.specs.PassOne.{name_bound, type_fits, bare_number, words_tested, has_room, holds_at, at_entry}
use Rattle.rules.specs.Limits.{most_frame_words}
use Rattle.walks.specs.Inner.Standing.{Known}
use Rattle.walks.proofs.Walks.{Signed, signature-of}
use Rattle.pass_one.specs.Inner.Walk.{expected, scope_of, Typed, Bare, WordTested, Roomy, Tested}
use Rattle.pass_one.specs.declared.Scope.{Scope}

-- ---- `is_named`

module _ (c : Scope) (node : Record) where
  pub named_var : (v : NumberName) → node ≡ Var v → ltb v.a c.numbers ≡ name_bound (scope_of c) (meant node)
  unfolding name_bound
  named_var v case = sym (ap (λ n. name_bound (scope_of c) (meant n)) case)

  pub named_case : (v : TreeName) → node ≡ Case v → ltb v.a c.trees ≡ name_bound (scope_of c) (meant node)
  unfolding name_bound
  named_case v case = sym (ap (λ n. name_bound (scope_of c) (meant n)) case)

  pub named_call : (v : Called) → node ≡ Call v → ltb v.a c.trees ≡ name_bound (scope_of c) (meant node)
  unfolding name_bound
  named_call v case = sym (ap (λ n. name_bound (scope_of c) (meant n)) case)

pub named_other : (c : Scope) (node : Record) → ((x : NumberName) → node ≡ Var x → ⊥) → ((x : TreeName) → node ≡ Case x → ⊥) → ((x : Called) → node ≡ Call x → ⊥) → true ≡ name_bound (scope_of c) (meant node)
unfolding name_bound
named_other c (Const x) _ _ _ = refl
named_other c (Var x) no_var _ _ = absurd (no_var x refl)
named_other c Add _ _ _ = refl
named_other c IfZero _ _ _ = refl
named_other c Let _ _ _ = refl
named_other c Leaf _ _ _ = refl
named_other c Node _ _ _ = refl
named_other c (Case x) _ no_case _ = absurd (no_case x refl)
named_other c (Call x) _ _ no_call = absurd (no_call x refl)

pub ruleset names = (named_var, named_case, named_call, named_other)

-- ---- `is_typed`

number_expected : (tree : Bool) → not tree ≡ is_int (expected tree)
unfolding is_int
number_expected true = refl
number_expected false = refl

tree_expected : (tree : Bool) → tree ≡ is_output_tree (expected tree)
unfolding is_output_tree
tree_expected true = refl
tree_expected false = refl

-- the sort's number decides which type the function's value has
as_tree : (tree : Bool) → beq tree true ≡ tree
as_tree true = refl
as_tree false = refl

as_number : (tree : Bool) → beq tree false ≡ not tree
as_number true = refl
as_number false = refl

sort_fits : (sort : Sort) (n : ℕ) (tree : Bool) → sort_number sort ≡ n → beq tree (eqb n 1) ≡ has_type sort (expected tree)
unfolding sort_number has_type is_int is_output_tree
sort_fits number_valued n true e = rw (← e)
sort_fits number_valued n false e = rw (← e)
sort_fits tree_valued n true e = rw (← e)
sort_fits tree_valued n false e = rw (← e)

module _ (s : List ℕ) (node : Record) where
  -- a Call's function is one of those with these signatures
  called : (gs : List Signature) (v : Called) → node ≡ Call v → Known s gs → function_below (header_in s).functions (meant node) ≡ true → Signed s gs v.b
  unfolding function_below
  called gs v case known low =
      signature-of s gs v.b known (ltb-true v.b (header_in s).functions (sym (ap (λ n. function_below (header_in s).functions (meant n)) case) ∙ low))

module _ (s : List ℕ) (c : Scope) (node : Record) where
  typed_number : ((gs : List Signature) → type_fits gs (scope_of c) (meant node) ≡ is_int (expected c.tree)) → Typed s c node (not c.tree)
  typed_number e = record { is = λ gs known low. number_expected c.tree ∙ sym (e gs) }

  typed_tree : ((gs : List Signature) → type_fits gs (scope_of c) (meant node) ≡ is_output_tree (expected c.tree)) → Typed s c node c.tree
  typed_tree e = record { is = λ gs known low. tree_expected c.tree ∙ sym (e gs) }

  pub typed_const : (i : Constant) → node ≡ Const i → Typed s c node (not c.tree)
  unfolding type_fits
  typed_const i case = typed_number (λ gs. ap (λ n. type_fits gs (scope_of c) (meant n)) case)

  pub typed_var : (v : NumberName) → node ≡ Var v → Typed s c node (not c.tree)
  unfolding type_fits
  typed_var v case = typed_number (λ gs. ap (λ n. type_fits gs (scope_of c) (meant n)) case)

  pub typed_add : node ≡ Add → Typed s c node (not c.tree)
  unfolding type_fits
  typed_add case = typed_number (λ gs. ap (λ n. type_fits gs (scope_of c) (meant n)) case)

  pub typed_leaf : node ≡ Leaf → Typed s c node c.tree
  unfolding type_fits
  typed_leaf case = typed_tree (λ gs. ap (λ n. type_fits gs (scope_of c) (meant n)) case)

  pub typed_node : node ≡ Node → Typed s c node c.tree
  unfolding type_fits
  typed_node case = typed_tree (λ gs. ap (λ n. type_fits gs (scope_of c) (meant n)) case)

  pub typed_numbers : ((i : Constant) × (node ≡ Const i)) ⊎ (((v : NumberName) × (node ≡ Var v)) ⊎ (node ≡ Add)) → Typed s c node (not c.tree)
  typed_numbers (inl h) = typed_const h.0 h.1
  typed_numbers (inr (inl h)) = typed_var h.0 h.1
  typed_numbers (inr (inr case)) = typed_add case

  -- the type of a Call is that of its function
  pub typed_call : (v : Called) (t : Bool) → node ≡ Call v → t ≡ eqb (sort_in s v.b) 1 → Typed s c node (beq c.tree t)
  unfolding type_fits
  typed_call v t case is = record {
    is = λ gs known low.
        let g = called s node gs v case known low in
        ap (beq c.tree) is
        ∙ sort_fits g.signature.sort (sort_in s v.b) c.tree g.its_fields.sort
        ∙ sym (ap (λ n. type_fits gs (scope_of c) (meant n)) case ∙ rw (g.there, type_fits));
  }

  module _ (v : Called) (n : ℕ) (case : node ≡ Call v) (is : n ≡ sort_in s v.b) where
    pub typed_tree_call : n ≡ 1 → Typed s c node c.tree
    typed_tree_call one = subst (Typed s c node) (as_tree c.tree) (typed_call v true case (sym (eq-eqb (sort_in s v.b) 1 (sym is ∙ one))))

    pub typed_number_call : (n ≡ 1 → ⊥) → Typed s c node (not c.tree)
    typed_number_call other =
        subst (Typed s c node) (as_number c.tree) (typed_call v false case (sym (ne_eqb (sort_in s v.b) 1 (λ one. other (is ∙ one)))))

pub typed_other : (s : List ℕ) (c : Scope) (node : Record) → ((x : Constant) → node ≡ Const x → ⊥) → ((x : NumberName) → node ≡ Var x → ⊥) → (node ≡ Add → ⊥) → (node ≡ Leaf → ⊥) → (node ≡ Node → ⊥) → ((x : Called) → node ≡ Call x → ⊥) → Typed s c node true
unfolding type_fits
typed_other s c (Const x) no_const _ _ _ _ _ = absurd (no_const x refl)
typed_other s c (Var x) _ no_var _ _ _ _ = absurd (no_var x refl)
typed_other s c Add _ _ no_add _ _ _ = absurd (no_add refl)
typed_other s c IfZero _ _ _ _ _ _ = record { is = λ gs known low. refl }
typed_other s c Let _ _ _ _ _ _ = record { is = λ gs known low. refl }
typed_other s c Leaf _ _ _ no_leaf _ _ = absurd (no_leaf refl)
typed_other s c Node _ _ _ _ no_node _ = absurd (no_node refl)
typed_other s c (Case x) _ _ _ _ _ _ = record { is = λ gs known low. refl }
typed_other s c (Call x) _ _ _ _ _ no_call = absurd (no_call x refl)

pub ruleset typings = (typed_numbers, typed_leaf, typed_node, typed_call, typed_other)

-- ---- `is_bare_number`

module _ (s : List ℕ) (b : ℕ) (t : Bool) (is : t ≡ eqb (sort_in s b) 1) where
  bare_of : (r : Bool) → ((sort : Sort) (p : ℕ) → sort_number sort ≡ sort_in s b → arity_in s b ≡ p → r ≡ elim sort [ tree_valued ↦ false | number_valued ↦ elim p [ zero ↦ true | suc k ↦ false ] ])
      → Bare s b r
  unfolding bare_number
  bare_of r by_sort = record { is = λ g e. let f = function_read s b g e in by_sort g.sort g.parameters f.sort (sym f.arity) }

  pub bare_tree : not t ≡ false → Bare s b (not t)
  unfolding sort_number
  bare_tree tree = bare_of (not t) by_sort
    where
      by_sort : (sort : Sort) (p : ℕ) → sort_number sort ≡ sort_in s b → arity_in s b ≡ p
          → not t ≡ elim sort [ tree_valued ↦ false | number_valued ↦ elim p [ zero ↦ true | suc k ↦ false ] ]
      by_sort tree_valued p e same = tree
      by_sort number_valued p e same = let other : t ≡ false = rw (is, ← e) in absurd (false≢true (sym (rw other at tree)))

  pub bare-number : (m : ℕ) → not t ≡ true → m ≡ arity_in s b → Bare s b (eqb m 0)
  unfolding sort_number
  bare-number m number many = bare_of (eqb m 0) by_sort
    where
      by_sort : (sort : Sort) (p : ℕ) → sort_number sort ≡ sort_in s b → arity_in s b ≡ p
          → eqb m 0 ≡ elim sort [ tree_valued ↦ false | number_valued ↦ elim p [ zero ↦ true | suc k ↦ false ] ]
      by_sort tree_valued p e same = let tree : t ≡ true = rw (is, ← e) in absurd (false≢true (rw tree at number))
      by_sort number_valued zero e same = ap (λ x. eqb x 0) (many ∙ same)
      by_sort number_valued (suc k) e same = ne_eqb m 0 (λ z. omega (arith, many, same))

pub ruleset bare = (bare_tree, bare-number)

-- ---- `is_word_tested`

module _ (s : List ℕ) (node : Record) where
  -- the words are tested at four kinds ..
  pub tested_kinds : ((i : Constant) × (node ≡ Const i)) ⊎ (((v : NumberName) × (node ≡ Var v)) ⊎ ((v : TreeName) × (node ≡ Case v))) → WordTested s node true
  unfolding words_tested
  tested_kinds (inl h) = record { is = λ gs known low. sym (ap (λ n. words_tested gs (meant n)) h.1) }
  tested_kinds (inr (inl h)) = record { is = λ gs known low. sym (ap (λ n. words_tested gs (meant n)) h.1) }
  tested_kinds (inr (inr h)) = record { is = λ gs known low. sym (ap (λ n. words_tested gs (meant n)) h.1) }

  -- .. at a Call where its function gives a number and has no number parameters
  pub tested_call : (v : Called) (r : Bool) → node ≡ Call v → Bare s v.b r → WordTested s node r
  unfolding words_tested
  tested_call v r case reported = record {
    is = λ gs known low.
        let g = called s node gs v case known low in
        sym (ap (λ n. words_tested gs (meant n)) case ∙ (rw (g.there, words_tested) (sym (reported.is g.signature g.given))));
  }

pub tested_other : (s : List ℕ) (node : Record) → ((x : Constant) → node ≡ Const x → ⊥) → ((x : NumberName) → node ≡ Var x → ⊥) → ((x : TreeName) → node ≡ Case x → ⊥) → ((x : Called) → node ≡ Call x → ⊥) → WordTested s node false
unfolding words_tested
tested_other s (Const x) no_const _ _ _ = absurd (no_const x refl)
tested_other s (Var x) _ no_var _ _ = absurd (no_var x refl)
tested_other s Add _ _ _ _ = record { is = λ gs known low. refl }
tested_other s IfZero _ _ _ _ = record { is = λ gs known low. refl }
tested_other s Let _ _ _ _ = record { is = λ gs known low. refl }
tested_other s Leaf _ _ _ _ = record { is = λ gs known low. refl }
tested_other s Node _ _ _ _ = record { is = λ gs known low. refl }
tested_other s (Case x) _ _ no_case _ = absurd (no_case x refl)
tested_other s (Call x) _ _ _ no_call = absurd (no_call x refl)

pub ruleset words = (tested_kinds, tested_call, tested_other)

-- ---- `is_roomy`

module _ (s : List ℕ) (c : Scope) (node : Record) (t : Bool) (reported : WordTested s node t) where
  pub roomy_untested : not t ≡ true → Roomy s c node (not t)
  unfolding has_room
  roomy_untested e = record { is = λ gs known low. sym (rw (sym (reported.is gs known low) ∙ not-true t e, has_room) (sym e)) }

  pub roomy_tested : not t ≡ false → Roomy s c node (ltb c.words most_frame_words)
  unfolding has_room
  roomy_tested e = record { is = λ gs known low. sym (rw (sym (reported.is gs known low) ∙ not-false t e, has_room)) }

-- the kinds whose words are not tested
pub roomy_other : (s : List ℕ) (c : Scope) (node : Record) → ((x : Constant) → node ≡ Const x → ⊥) → ((x : NumberName) → node ≡ Var x → ⊥) → ((x : TreeName) → node ≡ Case x → ⊥) → ((x : Called) → node ≡ Call x → ⊥) → Roomy s c node true
roomy_other s c node no_const no_var no_case no_call = roomy_untested s c node false (tested_other s node no_const no_var no_case no_call) refl

pub ruleset roomy = (roomy_untested, roomy_tested)

-- kind by kind
module _ (s : List ℕ) (c : Scope) (node : Record) where
  pub roomy_const : (i : Constant) → node ≡ Const i → Roomy s c node (ltb c.words most_frame_words)
  roomy_const i case = roomy_tested s c node true (tested_kinds s node (inl (i, case))) refl

  pub roomy_var : (v : NumberName) → node ≡ Var v → Roomy s c node (ltb c.words most_frame_words)
  roomy_var v case = roomy_tested s c node true (tested_kinds s node (inr (inl (v, case)))) refl

  pub roomy_case : (v : TreeName) → node ≡ Case v → Roomy s c node (ltb c.words most_frame_words)
  roomy_case v case = roomy_tested s c node true (tested_kinds s node (inr (inr (v, case)))) refl

  module _ (v : Called) (r : Bool) (case : node ≡ Call v) (reported : Bare s v.b r) where
    pub roomy_bare_call : r ≡ true → Roomy s c node (ltb c.words most_frame_words)
    roomy_bare_call e = roomy_tested s c node r (tested_call s node v r case reported) (ap not e)

    pub roomy_call : r ≡ false → Roomy s c node true
    roomy_call e = subst (Roomy s c node) (ap not e) (roomy_untested s c node r (tested_call s node v r case reported) (ap not e))

-- ---- `tests`

-- the verdict of the three conditions, in their order
abbrev in_order : ℕ → Bool → Bool → Bool → Result (Unit {0})
in_order k n t w = and_then (holds_at n not_bound k) (λ u. and_then (holds_at t wrong_type k) (λ v. holds_at w too_many_words k))

module _ (s : List ℕ) (c : Scope) (k : ℕ) (node : Record) (n : Bool) (en : n ≡ name_bound (scope_of c) (meant node)) where
  in-order : (gs : List Signature) (t w : Bool) → t ≡ type_fits gs (scope_of c) (meant node) → w ≡ has_room gs (scope_of c) (meant node)
      → in_order k n t w ≡ at_entry gs (entry (scope_of c) k (meant node))
  unfolding at_entry
  in-order gs t w et ew = rw (en, et, ew)

  pub tests_name : not n ≡ true → (r : Refused) → r ≡ record { why = NotBound; position = k } → Tested s c k node (Err r)
  tests_name fails r at_k = record { is = λ gs known low. rw at_k (rw (not-true n fails) at (in-order gs _ _ refl refl)) }

  module _ (t : Bool) (et : Typed s c node t) (n_holds : not n ≡ false) where
    pub tests_type : not t ≡ true → (r : Refused) → r ≡ record { why = WrongType; position = k } → Tested s c k node (Err r)
    tests_type fails r at_k = record {
      is = λ gs known low. rw at_k (rw (not-false n n_holds, not-true t fails) at (in-order gs t _ (et.is gs known low) refl));
    }

    module _ (w : Bool) (ew : Roomy s c node w) (t_holds : not t ≡ false) where
      pub tests_words : w ≡ false → (r : Refused) → r ≡ record { why = TooManyWords; position = k } → Tested s c k node (Err r)
      tests_words fails r at_k = record {
        is = λ gs known low.
            rw at_k (rw (not-false n n_holds, not-false t t_holds, fails) at (in-order gs t w (et.is gs known low) (ew.is gs known low)));
      }

      pub tests_passed : w ≡ true → Tested s c k node (Ok tt)
      tests_passed w_holds = record {
        is = λ gs known low. rw (not-false n n_holds, not-false t t_holds, w_holds) at (in-order gs t w (et.is gs known low) (ew.is gs known low));
      }

pub ruleset conditions = (tests_name, tests_type, tests_words, tests_passed)
