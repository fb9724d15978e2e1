-- Laws of the steps: one for each thing that may happen when a record begins, when it is finished,
-- and when a call opens.
use Prim.Native.Nat.{ℕ, suc, ◌+◌, ◌*◌, ◌%◌, ◌≤◌, ◌<◌}
use mathlib.Core.List.{List, [], ◌∷◌}
use mathlib.Core.Logic.{◌≢◌}
use mathlib.Core.Option.{none, some}
use mathlib.Core.Path.{◌≡◌, refl, ap, ◌∙◌}
use mathlib.Core.Bool.{false}
use borrow.Author.Tests.{eq-eqb, ne_eqb, le-leb, lt-leb, lt-ltb, le-ltb}
use lib.Dec.{eqb}
use lib.ListN.{length, get_or}
use Rattle.formats.specs.Numbers.{number_at}
use Rattle.formats.specs.Arithmetic.{Op, plus, result_of}
use Rattle.formats.specs.Tokens.{leaf, leaf_tag, node_tag, tokens}
use Rattle.formats.specs.Inner.Trees.{leaf_bytes}
use Rattle.stepwise.specs.Inner.Rows.{gives_constant, gives_named, tags_node, looks_at_tree, calls_function}
use Rattle.stepwise.specs.Inner.Rows.{whole, kept, added, second_of, tested, passed, labelled, followed, last_argument}
use Rattle.stepwise.specs.Inner.Steps.{State, begin, finished, opens, ended, deep, broken, stuck, action_at, operand_at, more_at, role_at, parent_at, slot_at, after_at}
use Rattle.stepwise.specs.Inner.Steps.{word_at, with_word, with_end, framed, most_waiting, looking, beginning, emitted_first, known_after, closing, following, computing, rising}
use Rattle.stepwise.specs.Inner.Steps.{emitted_last, opening}

-- a number that is m is not n
pub off : (k m n : ℕ) → k ≡ m → eqb m n ≡ false → eqb k n ≡ false
off k m n e h = ap (λ i. eqb i n) e ∙ h

-- ---- a record begins

module _ (T input : List ℕ) (p r : ℕ) (s : State) where
  pub begins_const : action_at T r ≡ gives_constant → beginning T input p r s ≡ finished r (operand_at T r + 65536 * more_at T r) s
  unfolding beginning
  begins_const k = simp (beginning, eq-eqb _ _ k)

  pub begins_var : action_at T r ≡ gives_named → beginning T input p r s ≡ finished r (word_at s (operand_at T r)) s
  unfolding beginning
  begins_var k = simp (beginning, off _ 1 0 k refl, eq-eqb _ _ k)

  -- a Case looks at its tree
  pub begins_case : action_at T r ≡ looks_at_tree → beginning T input p r s ≡ looking T input p r s
  unfolding beginning
  begins_case k = simp (beginning, off _ 4 0 k refl, off _ 4 1 k refl, eq-eqb _ _ k)

  pub looks_leaf : p < length input → get_or input p 0 ≡ leaf_tag
      → looking T input p r s ≡ begin (suc r) (with_end (with_word s (operand_at T r) (number_at 4 input (suc p))) p (p + leaf_bytes))
  unfolding looking
  looks_leaf there tag = simp (looking, lt-ltb _ _ there, eq-eqb _ _ tag)

  pub looks_node : p < length input → get_or input p 0 ≢ leaf_tag → looking T input p r s ≡ begin (after_at T (suc r)) s
  unfolding looking
  looks_node there tag = simp (looking, lt-ltb _ _ there, ne_eqb _ _ tag)

  pub looks_past : length input ≤ p → looking T input p r s ≡ stuck
  unfolding looking
  looks_past past = simp (looking, le-ltb _ _ past)

  pub begins_leaf : action_at T r ≡ looks_at_tree → p < length input → get_or input p 0 ≡ leaf_tag
      → beginning T input p r s ≡ begin (suc r) (with_end (with_word s (operand_at T r) (number_at 4 input (suc p))) p (p + leaf_bytes))
  begins_leaf k there tag = rw (begins_case k) (looks_leaf there tag)

  pub begins_node : action_at T r ≡ looks_at_tree → p < length input → get_or input p 0 ≢ leaf_tag → beginning T input p r s ≡ begin (after_at T (suc r)) s
  begins_node k there tag = rw (begins_case k) (looks_node there tag)

  pub begins_bare : action_at T r ≡ calls_function → more_at T r ≡ 0 → beginning T input p r s ≡ opens r s
  unfolding beginning
  begins_bare k bare = simp (beginning, off _ 5 0 k refl, off _ 5 1 k refl, off _ 5 4 k refl, eq-eqb _ _ k, eq-eqb _ _ bare)

  pub begins_args : action_at T r ≡ calls_function → more_at T r ≢ 0 → beginning T input p r s ≡ begin (suc r) s
  unfolding beginning
  begins_args k more = simp (beginning, off _ 5 0 k refl, off _ 5 1 k refl, off _ 5 4 k refl, eq-eqb _ _ k, ne_eqb _ _ more)

  -- all else: the first part begins
  pub begins_first : action_at T r ≢ gives_constant → action_at T r ≢ gives_named → action_at T r ≢ looks_at_tree → action_at T r ≢ calls_function → beginning T input p r s ≡ begin (suc r) s
  unfolding beginning
  begins_first a b c d = simp (beginning, ne_eqb _ _ a, ne_eqb _ _ b, ne_eqb _ _ c, ne_eqb _ _ d)

-- what is written
pub said_node : (T : List ℕ) (r : ℕ) → action_at T r ≡ tags_node → emitted_first T r ≡ node_tag ∷ []
unfolding emitted_first
said_node T r k = simp (emitted_first, eq-eqb _ _ k)

pub said_nothing : (T : List ℕ) (r : ℕ) → action_at T r ≢ tags_node → emitted_first T r ≡ []
unfolding emitted_first
said_nothing T r k = simp (emitted_first, ne_eqb _ _ k)

-- ---- a record is finished

module _ (T : List ℕ) (r x : ℕ) (s : State) where
  pub follows_passed : role_at T r ≡ passed → following T r x s ≡ finished (parent_at T r) x s
  unfolding following
  follows_passed k = simp (following, eq-eqb _ _ k)

  pub follows_labelled : role_at T r ≡ labelled → following T r x s ≡ finished (parent_at T r) 0 s
  unfolding following
  follows_labelled k = simp (following, off _ 5 4 k refl, eq-eqb _ _ k)

  pub follows_followed : role_at T r ≡ followed → following T r x s ≡ begin (after_at T r) s
  unfolding following
  follows_followed k = simp (following, off _ 6 4 k refl, off _ 6 5 k refl, eq-eqb _ _ k)

  pub follows_last : role_at T r ≢ passed → role_at T r ≢ labelled → role_at T r ≢ followed
      → following T r x s ≡ opens (parent_at T r) (with_word s (slot_at T r) x)
  unfolding following
  follows_last a b c = simp (following, ne_eqb _ _ a, ne_eqb _ _ b, ne_eqb _ _ c)

-- an operation with a result, and one without
module _ (op : Op) (i j r : ℕ) (s : State) where
  pub computes_result : (y : ℕ) → result_of op i j ≡ some y → computing op i j r s ≡ finished r y s
  unfolding computing
  computes_result y is = simp (computing, is)

  pub computes_none : result_of op i j ≡ none → computing op i j r s ≡ broken op i j r
  unfolding computing
  computes_none is = simp (computing, is)

module _ (T input : List ℕ) (r x : ℕ) (s : State) where
  pub rises_whole : role_at T r ≡ whole → rising T input r x s ≡ closing T input x s
  unfolding rising
  rises_whole k = simp (rising, eq-eqb _ _ k)

  pub rises_kept : role_at T r ≡ kept → rising T input r x s ≡ begin (after_at T r) (with_word s (slot_at T r) x)
  unfolding rising
  rises_kept k = simp (rising, off _ 1 0 k refl, eq-eqb _ _ k)

  pub rises_added : role_at T r ≡ added → rising T input r x s ≡ computing plus (word_at s (slot_at T r)) x (parent_at T r) s
  unfolding rising
  rises_added k = simp (rising, off _ 2 0 k refl, off _ 2 1 k refl, eq-eqb _ _ k)

  -- the second part of any operation
  pub rises_second : (op : Op) → role_at T r ≡ second_of op → rising T input r x s ≡ computing op (word_at s (slot_at T r)) x (parent_at T r) s
  unfolding second_of
  rises_second plus k = rises_added k

  pub rises_zero : role_at T r ≡ tested → x ≡ 0 → rising T input r x s ≡ begin (after_at T r) s
  unfolding rising
  rises_zero k z = simp (rising, off _ 3 0 k refl, off _ 3 1 k refl, off _ 3 2 k refl, eq-eqb _ _ k, eq-eqb _ _ z)

  pub rises_other : role_at T r ≡ tested → x ≢ 0 → rising T input r x s ≡ begin (after_at T (after_at T r)) s
  unfolding rising
  rises_other k o = simp (rising, off _ 3 0 k refl, off _ 3 1 k refl, off _ 3 2 k refl, eq-eqb _ _ k, ne_eqb _ _ o)

  -- a part with any other role
  pub rises_on : role_at T r ≢ whole → role_at T r ≢ kept → role_at T r ≢ added → role_at T r ≢ tested → rising T input r x s ≡ following T r x s
  unfolding rising
  rises_on a b c d = simp (rising, ne_eqb _ _ a, ne_eqb _ _ b, ne_eqb _ _ c, ne_eqb _ _ d)

  -- a role of four or more
  late : (k : ℕ) → role_at T r ≡ k → eqb k 0 ≡ false → eqb k 1 ≡ false → eqb k 2 ≡ false → eqb k 3 ≡ false → rising T input r x s ≡ following T r x s
  unfolding rising
  late k e a b c d = simp (rising, off _ k 0 e a, off _ k 1 e b, off _ k 2 e c, off _ k 3 e d)

  pub rises_passed : role_at T r ≡ passed → rising T input r x s ≡ finished (parent_at T r) x s
  rises_passed k = late 4 k refl refl refl refl ∙ follows_passed T r x s k

  pub rises_labelled : role_at T r ≡ labelled → rising T input r x s ≡ finished (parent_at T r) 0 s
  rises_labelled k = late 5 k refl refl refl refl ∙ follows_labelled T r x s k

  pub rises_followed : role_at T r ≡ followed → rising T input r x s ≡ begin (after_at T r) s
  rises_followed k = late 6 k refl refl refl refl ∙ follows_followed T r x s k

  pub rises_last : role_at T r ≡ last_argument → rising T input r x s ≡ opens (parent_at T r) (with_word s (slot_at T r) x)
  unfolding following
  rises_last k = late 7 k refl refl refl refl ∙ simp (following, off _ 7 4 k refl, off _ 7 5 k refl, off _ 7 6 k refl)

-- a call closes
pub closes_first : (T input : List ℕ) (x : ℕ) (s : State) → s.calls ≡ 0 → closing T input x s ≡ ended x
unfolding closing
closes_first T input x s k = simp (closing, k)

pub closes_waiting : (T input : List ℕ) (x n : ℕ) (s : State) → s.calls ≡ suc n
    → closing T input x s
    ≡ finished (get_or s.returns (2 * n) 0 % 65536) x
    (record {
      words = s.words;
      returns = s.returns;
      calls = n;
      tree = get_or s.returns (suc (2 * n)) 0;
      known = known_after T input (get_or s.returns (2 * n) 0 % 65536) (get_or s.returns (suc (2 * n)) 0) s;
      end = s.end;
    })
unfolding closing
closes_waiting T input x n s k = simp (closing, k)

-- what is written
pub said_leaf : (T : List ℕ) (r x : ℕ) → role_at T r ≡ labelled → emitted_last T r x ≡ tokens (leaf x)
unfolding emitted_last
said_leaf T r x k = simp (emitted_last, eq-eqb _ _ k)

pub said_none : (T : List ℕ) (r x : ℕ) → role_at T r ≢ labelled → emitted_last T r x ≡ []
unfolding emitted_last
said_none T r x k = simp (emitted_last, ne_eqb _ _ k)

-- ---- a call opens

pub opens_deep : (T : List ℕ) (p r : ℕ) (s : State) → most_waiting ≤ s.calls → opening T p r s ≡ deep r
unfolding opening
opens_deep T p r s h = simp (opening, le-leb _ _ h)

pub opens_frame : (T : List ℕ) (p r : ℕ) (s : State) → s.calls < most_waiting → opening T p r s ≡ begin (operand_at T r) (framed T p r s)
unfolding opening
opens_frame T p r s h = simp (opening, lt-leb _ _ h)
