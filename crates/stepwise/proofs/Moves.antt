-- Single steps, taken backwards: each law says what a turn comes to, given what the next turn comes
-- to.
use Prim.Native.Nat.{ℕ, suc, ◌+◌, ◌*◌, ◌≤◌, ◌<◌}
use mathlib.Core.List.{List, [], ◌∷◌, ◌++◌, append-nil}
use mathlib.Core.Logic.{◌≢◌}
use mathlib.Core.Option.{Option, none, some}
use mathlib.Core.Path.{◌≡◌, refl, sym, ap, ◌∙◌}
use native.Mathlib.Omega.{arith}
use lib.ListN.{length, get_or}
use Rattle.formats.specs.Numbers.{number_at}
use Rattle.formats.specs.Arithmetic.{Op, plus, result_of}
use Rattle.formats.specs.Tokens.{leaf, leaf_tag, node_tag, tokens}
use Rattle.formats.specs.Inner.Trees.{leaf_bytes}
use Rattle.meaning.specs.OpenCalls.{no_call, Outcome, gives, stops, begins, followed_by}
use Rattle.stepwise.specs.Inner.Rows.{whole, kept, second_of, tested, passed, labelled, followed, last_argument}
use Rattle.stepwise.specs.Inner.Steps.{State, Turn, begin, finished, opens, ended, broken, record_limit, most_waiting}
use Rattle.stepwise.specs.Inner.Rows.{gives_constant, gives_named, enters_part, tags_node, looks_at_tree, calls_function}
use Rattle.stepwise.specs.Inner.Steps.{action_at, tree_at, operand_at, more_at, role_at, parent_at, slot_at, after_at}
use Rattle.stepwise.specs.Inner.Steps.{Found, the_own, word_at, with_word, with_end, framed, beginning, closing, computing, rising, weight}
use Rattle.stepwise.specs.Inner.Outcomes.{Reported, reported, Comes, at_begin, at_finished, at_open, at-end, at_deep}
use Rattle.stepwise.proofs.Steps.{begins_const, begins_var, begins_leaf, begins_node, begins_bare, begins_args, begins_first, said_node, said_nothing}
use Rattle.stepwise.proofs.Steps.{rises_whole, rises_kept, rises_second, rises_zero, rises_other, rises_passed}
use Rattle.stepwise.proofs.Steps.{rises_labelled, rises_followed, rises_last, closes_first, said_leaf, said_none, opens_deep, opens_frame}

-- `followed_by` is associative
pub next_next : {A B C : Type 0} (o : Outcome A) (f : A → Outcome B) (g : B → Outcome C) → followed_by (followed_by o f) g ≡ followed_by o (λ x. followed_by (f x) g)
unfolding followed_by
next_next (gives x) f g = refl
next_next (stops why r) f g = refl
next_next (begins o) f g = ap begins (next_next o f g)

-- where no tree is named, the frame's own is found
own : (T input : List ℕ) (r : ℕ) (s : State) → tree_at T r ≡ 0 → Found T input s (tree_at T r) s.tree
own T input r s unnamed = rw unnamed the_own

-- a second part is no label
second_writes_none : (op : Op) → second_of op ≡ labelled → ⊥
unfolding second_of
second_writes_none plus e = absurd (omega arith)

-- an operation's record is an earlier one than its second part
computed_less : (op : Op) (i j parent r x : ℕ) (s : State) → parent < r → weight (computing op i j parent s) < weight (finished r x s)
unfolding computing weight
computed_less op i j parent r x s earlier = by_result (result_of op i j)
  where
    by_result : (found : Option ℕ) → weight (elim found [ some y ↦ finished parent y s | none ↦ broken op i j parent ]) < weight (finished r x s)
    by_result (some y) = omega arith
    by_result none = omega arith

module _ (T input : List ℕ) {out : List ℕ} {o : Outcome Reported} where
  -- ---- a record begins

  module _ (p r : ℕ) (s : State) (low : r < record_limit) (found : Found T input s (tree_at T r) p) where
    -- a record that is no Node writes nothing when it begins
    begin_quiet : (t : Turn) → action_at T r ≢ tags_node → beginning T input p r s ≡ t → Comes T input out t o → Comes T input out (begin r s) (begins o)
    begin_quiet t kind is c = at_begin {out = out} {r = r} {s = s} {o = o} p low found (rw (said_nothing T r kind, append-nil, is) c)

    -- a Case on a leaf
    pub begin_leaf :
        (slot x : ℕ)
        → action_at T r ≡ looks_at_tree
        → operand_at T r ≡ slot
        → p < length input
        → get_or input p 0 ≡ leaf_tag
        → number_at 4 input (suc p) ≡ x
        → Comes T input out (begin (suc r) (with_end (with_word s slot x) p (p + leaf_bytes))) o
        → Comes T input out (begin r s) (begins o)
    begin_leaf slot x kind operand within tag label c =
        begin_quiet _ (λ e. absurd (omega arith)) (begins_leaf T input p r s kind within tag) (rw (operand, label) c)

    -- a Case on a node
    pub begin_node :
        (after : ℕ)
        → action_at T r ≡ looks_at_tree
        → p < length input
        → get_or input p 0 ≢ leaf_tag
        → after_at T (suc r) ≡ after
        → Comes T input out (begin after s) o
        → Comes T input out (begin r s) (begins o)
    begin_node after kind within tag is c =
        begin_quiet _ (λ e. absurd (omega arith)) (begins_node T input p r s kind within tag) (rw is c)

    -- a Call without arguments, and with some
    pub begin_bare : action_at T r ≡ calls_function → more_at T r ≡ 0 → Comes T input out (opens r s) o → Comes T input out (begin r s) (begins o)
    begin_bare kind bare c = begin_quiet _ (λ e. absurd (omega arith)) (begins_bare T input p r s kind bare) c

    pub begin_args : action_at T r ≡ calls_function → more_at T r ≢ 0 → Comes T input out (begin (suc r) s) o → Comes T input out (begin r s) (begins o)
    begin_args kind more c = begin_quiet _ (λ e. absurd (omega arith)) (begins_args T input p r s kind more) c

    -- a Call one too many, and one that opens
    pub open_deep : most_waiting ≤ s.calls → o ≡ stops no_call r → Comes T input out (opens r s) o
    open_deep many is = at_open {out = out} {r = r} {s = s} {o = o} p low found (rw (opens_deep T p r s many, is) at_deep)

    pub open_frame :
        (entry : ℕ)
        → s.calls < most_waiting
        → operand_at T r ≡ entry
        → Comes T input out (begin entry (framed T p r s)) o
        → Comes T input out (opens r s) o
    open_frame entry few is c = at_open {out = out} {r = r} {s = s} {o = o} p low found (rw (opens_frame T p r s few, is) c)

  -- the other kinds name no tree
  module _ (r : ℕ) (s : State) (low : r < record_limit) (unnamed : tree_at T r ≡ 0) where
    pub begin_const : (i : ℕ) → action_at T r ≡ gives_constant → operand_at T r + 65536 * more_at T r ≡ i → Comes T input out (finished r i s) o
        → Comes T input out (begin r s) (begins o)
    begin_const i kind is c =
        begin_quiet _ r s low (own T input r s unnamed) _ (λ e. absurd (omega arith)) (begins_const T input s.tree r s kind) (rw is c)

    pub begin_var : (a : ℕ) → action_at T r ≡ gives_named → operand_at T r ≡ a → Comes T input out (finished r (word_at s a) s) o
        → Comes T input out (begin r s) (begins o)
    begin_var a kind is c =
        begin_quiet _ r s low (own T input r s unnamed) _ (λ e. absurd (omega arith)) (begins_var T input s.tree r s kind) (rw is c)

    -- Add, IfZero, Let, Leaf: the first part begins
    pub begin_first : action_at T r ≡ enters_part → Comes T input out (begin (suc r) s) o → Comes T input out (begin r s) (begins o)
    begin_first kind c =
        begin_quiet _ r s low (own T input r s unnamed) _ (λ e. absurd (omega arith))
        (begins_first T input s.tree r s
        (λ e. absurd (omega arith)) (λ e. absurd (omega arith))
        (λ e. absurd (omega arith)) (λ e. absurd (omega arith))) c

    -- so does the first part of a Node, with the tag written
    pub begin_pair : action_at T r ≡ tags_node → Comes T input (out ++ (node_tag ∷ [])) (begin (suc r) s) o → Comes T input out (begin r s) (begins o)
    begin_pair kind c =
        at_begin {out = out} {r = r} {s = s} {o = o} s.tree low (own T input r s unnamed)
        (rw (
          said_node T r kind,
          begins_first T input s.tree r s
              (λ e. absurd (omega arith)) (λ e. absurd (omega arith))
              (λ e. absurd (omega arith)) (λ e. absurd (omega arith)),
        ) c)

  -- ---- a record is finished

  module _ (r x : ℕ) (s : State) where
    -- a part that is no label writes nothing when it is finished
    finished_quiet : (t : Turn) → role_at T r ≢ labelled → rising T input r x s ≡ t → weight t < weight (finished r x s) → Comes T input out t o
        → Comes T input out (finished r x s) o
    finished_quiet t role is less c =
        at_finished {out = out} {r = r} {x = x} {s = s} {o = o} (rw is less) (rw (said_none T r x role, append-nil, is) c)

    -- the number is put on a word, and the next part begins
    pub finished_kept : (slot after : ℕ) → role_at T r ≡ kept → slot_at T r ≡ slot → after_at T r ≡ after
        → Comes T input out (begin after (with_word s slot x)) o
        → Comes T input out (finished r x s) o
    unfolding weight
    finished_kept slot after role is then c =
        finished_quiet _ (λ e. absurd (omega arith)) (rises_kept T input r x s role) (omega arith) (rw (is, then) c)

    -- the operation on the one kept and on it
    pub finished_second : (op : Op) (slot parent y : ℕ) → role_at T r ≡ second_of op → slot_at T r ≡ slot → parent_at T r ≡ parent → parent < r
        → word_at s slot ≡ y
        → Comes T input out (computing op y x parent s) o
        → Comes T input out (finished r x s) o
    finished_second op slot parent y role is above earlier word c =
        finished_quiet (computing op (word_at s slot) x parent s) (λ e. absurd (second_writes_none op (sym role ∙ e)))
        (rw (← is, ← above) (rises_second T input r x s op role)) (computed_less op (word_at s slot) x parent r x s earlier) (rw word c)

    -- a test that is zero, and another
    pub finished_zero : (after : ℕ) → role_at T r ≡ tested → x ≡ 0 → after_at T r ≡ after → Comes T input out (begin after s) o
        → Comes T input out (finished r x s) o
    unfolding weight
    finished_zero after role z then c =
        finished_quiet _ (λ e. absurd (omega arith)) (rises_zero T input r x s role z) (omega arith) (rw then c)

    pub finished_other : (middle after : ℕ) → role_at T r ≡ tested → x ≢ 0 → after_at T r ≡ middle → after_at T middle ≡ after
        → Comes T input out (begin after s) o
        → Comes T input out (finished r x s) o
    unfolding weight
    finished_other middle after role other then last c =
        finished_quiet _ (λ e. absurd (omega arith)) (rises_other T input r x s role other) (omega arith) (rw (then, last) c)

    -- the part's value is its record's value
    pub finished_passed : (parent : ℕ) → role_at T r ≡ passed → parent_at T r ≡ parent → parent < r → Comes T input out (finished parent x s) o
        → Comes T input out (finished r x s) o
    unfolding weight
    finished_passed parent role above earlier c =
        finished_quiet (finished parent x s) (λ e. absurd (omega arith)) (rw (← above) (rises_passed T input r x s role)) (omega arith) c

    -- a leaf is written
    pub finished_labelled : (parent : ℕ) → role_at T r ≡ labelled → parent_at T r ≡ parent → parent < r
        → Comes T input (out ++ tokens (leaf x)) (finished parent 0 s) o
        → Comes T input out (finished r x s) o
    unfolding weight
    finished_labelled parent role above earlier c =
        at_finished {out = out} {r = r} {x = x} {s = s} {o = o} (rw (rises_labelled T input r x s role, above) (omega arith))
        (rw (said_leaf T r x role, rises_labelled T input r x s role, above) c)

    -- the next part begins
    pub finished_followed : (after : ℕ) → role_at T r ≡ followed → after_at T r ≡ after → Comes T input out (begin after s) o
        → Comes T input out (finished r x s) o
    unfolding weight
    finished_followed after role then c =
        finished_quiet _ (λ e. absurd (omega arith)) (rises_followed T input r x s role) (omega arith) (rw then c)

    -- the number is put on a word, and the call opens
    pub finished_last : (slot parent : ℕ) → role_at T r ≡ last_argument → slot_at T r ≡ slot → parent_at T r ≡ parent
        → Comes T input out (opens parent (with_word s slot x)) o
        → Comes T input out (finished r x s) o
    unfolding weight
    finished_last slot parent role is above c =
        finished_quiet _ (λ e. absurd (omega arith)) (rises_last T input r x s role) (omega arith) (rw (is, above) c)

    -- a body in the first frame, and in another
    pub finished_end : role_at T r ≡ whole → s.calls ≡ 0 → o ≡ gives (reported x out) → Comes T input out (finished r x s) o
    unfolding weight
    finished_end role first is =
        finished_quiet (ended x) (λ e. absurd (omega arith)) (rises_whole T input r x s role ∙ closes_first T input x s first) (omega arith) (rw is at-end)

    pub finished_call : (parent : ℕ) (s' : State) → role_at T r ≡ whole → closing T input x s ≡ finished parent x s' → s.calls ≡ suc s'.calls → parent < 65536
        → Comes T input out (finished parent x s') o
        → Comes T input out (finished r x s) o
    unfolding weight
    finished_call parent s' role is fewer low c =
        finished_quiet (finished parent x s') (λ e. absurd (omega arith)) (rises_whole T input r x s role ∙ is) (omega (arith, fewer)) c
