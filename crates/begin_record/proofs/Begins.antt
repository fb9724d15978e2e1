-- A record begins: a law for each way out of the functions; and the steps say the same.
use Prim.Native.Nat.{ℕ, suc, ◌+◌, ◌*◌, ◌≤◌, ◌<◌}
use mathlib.Core.List.{List}
use mathlib.Core.Logic.{◌≢◌, ◌⊎◌, inl, inr}
use mathlib.Core.Path.{◌≡◌, refl, sym, ap, ap₂, ◌∙◌}
use native.Mathlib.Numerals.{add-one}
use native.Mathlib.Omega.{arith}
use borrow.Author.Tests.{lt-ltb, le-ltb}
use lib.ListN.{length, get_or, set, length-set}
use Rattle.formats.specs.Numbers.{number_at}
use Rattle.formats.specs.Tokens.{leaf_tag}
use Rattle.formats.specs.Inner.Trees.{leaf_bytes}
use Rattle.stepwise.specs.Inner.Rows.{tags_node}
use Rattle.stepwise.specs.Inner.Steps.{State, begin, stuck, action_at, operand_at, tree_at, more_at, after_at, frame_words, record_limit, Found, beginning}
use Rattle.stepwise.proofs.Steps.{looks_leaf, looks_node, looks_past, begins_const, begins_var, begins_case, begins_bare, begins_args, begins_first}
use Rattle.frames.specs.declared.Action.{Action}
use Rattle.frames.specs.declared.Action.TheVariants.{GivesConstant, GivesNamed, EntersPart, TagsNode, LooksAtTree, CallsFunction}
use Rattle.frames.specs.Inner.Named.{action_of_number}
use Rattle.frames.proofs.Named.{ActionSays, action_says}
use Rattle.stages.specs.declared.Stage.{Stage}
use Rattle.stages.specs.declared.StageInNumbers.{StageInNumbers}
use Rattle.stages.specs.declared.Next.TheVariants.{Begin, Finished, Open, Stuck}
use Rattle.stages.specs.Inner.Stages.{state_of, staged, stage_of, words_of, returns_of}
use Rattle.stages.specs.Inner.InNumbers.{numbers_of, with_next}
use Rattle.stages.proofs.InNumbers.{same_step}
use Rattle.stages.proofs.Stages.{reach_begin, reach_finished, reach_open, reach_stuck}
use Rattle.named_trees.specs.Inner.Offsets.{tree_offset, named_by}
use Rattle.named_trees.proofs.Offsets.{found_offset}
use Rattle.begin_record.specs.Inner.Begins.{begun_turn, Begins, Looks}
use Rattle.begin_record.specs.Inner.InNumbers.{Begins as BeginsInNumbers}

-- the stage whose record r is to begin
abbrev from_begin : Stage → ℕ → Stage
from_begin s r = staged s (Begin r)

-- ---- `put_label`, `named_number`

module _ (l : List ℕ) (base slot f : ℕ) (is : f ≡ slot) where
  pub label_put : (k : List ℕ) (x y : ℕ) → x ≡ y → k ≡ set l (base + f) x → k ≡ set l (base + slot) y
  label_put k x y same e = e ∙ ap₂ (λ j z. set l (base + j) z) is same

  pub slot_there : (x : ℕ) → x ≡ get_or l (base + f) 0 → x ≡ get_or l (base + slot) 0
  slot_there x e = e ∙ ap (λ j. get_or l (base + j) 0) is

pub ruleset slots = (label_put, slot_there)

-- ---- `look`

module _ (T input values : List ℕ) (r : ℕ) (s : Stage) (q : ℕ) (found : q ≡ tree_offset T input s.tree s.known s.end (tree_at T r)) where
  -- The next record begins, and the end of the leaf at q is known.
  abbrev leaf_stage : ℕ → Stage
  leaf_stage k =
      record {
        next = Begin k;
        calls = s.calls;
        tree = s.tree;
        known = q;
        end = q + leaf_bytes;
        written = s.written;
      }

  pub look_past : (t : Stage) → length input ≤ q → t ≡ staged s (Stuck r) → Looks T input values values r s t
  look_past t past e =
      rw e (record { is = λ returns. rw (← found, looks_past T input q r (state_of values returns s) past) (reach_stuck values returns (from_begin s r)) })

  pub look_leaf :
      (values' : List ℕ)
      → q < length input
      → get_or input q 0 ≡ leaf_tag
      → values' ≡ set values (frame_words * s.calls + operand_at T r) (number_at 4 input (q + 1))
      → Looks T input values values' r s (leaf_stage (r + 1))
  unfolding stage_of words_of returns_of
  look_leaf values' there tag put =
      rw (put, add-one r, add-one q)
      (record {
        is = λ returns.
            rw (← found, looks_leaf T input q r (state_of values returns s) there tag)
            (record {
              stage = refl;
              words = refl;
              returns_are = refl;
              words_long = length-set values (frame_words * s.calls + operand_at T r) (number_at 4 input (suc q));
              returns_long = refl;
            });
      })

  pub look_node :
      (b : ℕ) (t : Stage)
      → q < length input
      → get_or input q 0 ≢ leaf_tag
      → b ≡ after_at T (r + 1)
      → t ≡ staged s (Begin b)
      → Looks T input values values r s t
  look_node b t there tag eb e =
      rw (e, eb, add-one r)
      (record {
        is = λ returns.
            rw (← found, looks_node T input q r (state_of values returns s) there tag)
            (reach_begin values returns (from_begin s r) (after_at T (suc r)));
      })

pub ruleset looks = (look_past, look_leaf, look_node)

-- ---- `begin`

module _ (T input : List ℕ) (r : ℕ) (s : State) where
  begun_in : r < record_limit → begun_turn T input r s ≡ beginning T input (named_by T input r s) r s
  unfolding begun_turn
  begun_in few = simp (begun_turn, lt-ltb _ _ few)

  begun_past : record_limit ≤ r → begun_turn T input r s ≡ stuck
  unfolding begun_turn
  begun_past past = simp (begun_turn, le-ltb _ _ past)

module _ (T input values : List ℕ) (r : ℕ) (s : Stage) where
  pub begin_past : (t : Stage) → record_limit ≤ r → t ≡ staged s (Stuck r) → Begins T input values values r s t
  begin_past t past e =
      rw e (record { is = λ returns. rw (begun_past T input r (state_of values returns s) past) (reach_stuck values returns (from_begin s r)) })

  module _ (few : r < record_limit) (a : Action) (action : a ≡ action_of_number (action_at T r)) where
    says : (b : Action) → a ≡ b → ActionSays b (action_at T r)
    says b is = action_says (action_at T r) a b action is

    -- The offset of the tree that the record names, whatever the return words hold.
    abbrev at : List ℕ → ℕ
    at returns = named_by T input r (state_of values returns s)

    pub begin_const :
        (x : ℕ) (t : Stage)
        → a ≡ GivesConstant
        → x ≡ operand_at T r + 65536 * more_at T r
        → t ≡ staged s (Finished r x)
        → Begins T input values values r s t
    begin_const x t is ex e =
        rw (e, ex)
        (record {
          is = λ returns.
              rw (begun_in T input r (state_of values returns s) few, begins_const T input (at returns) r (state_of values returns s) (says GivesConstant is))
              (reach_finished values returns (from_begin s r) r (operand_at T r + 65536 * more_at T r));
        })

    pub begin_var :
        (x : ℕ) (t : Stage)
        → a ≡ GivesNamed
        → x ≡ get_or values (frame_words * s.calls + operand_at T r) 0
        → t ≡ staged s (Finished r x)
        → Begins T input values values r s t
    begin_var x t is ex e =
        rw (e, ex)
        (record {
          is = λ returns.
              rw (begun_in T input r (state_of values returns s) few, begins_var T input (at returns) r (state_of values returns s) (says GivesNamed is))
              (reach_finished values returns (from_begin s r) r (get_or values (frame_words * s.calls + operand_at T r) 0));
        })

    pub begin_case : (values' : List ℕ) (t : Stage) → a ≡ LooksAtTree → Looks T input values values' r s t → Begins T input values values' r s t
    begin_case values' t is looked =
        record {
          is = λ returns.
              rw (begun_in T input r (state_of values returns s) few, begins_case T input (at returns) r (state_of values returns s) (says LooksAtTree is))
              (looked.is returns);
        }

    pub begin_bare :
        (m : ℕ) (t : Stage)
        → a ≡ CallsFunction
        → m ≡ more_at T r
        → m ≡ 0
        → t ≡ staged s (Open r)
        → Begins T input values values r s t
    begin_bare m t is em none e =
        rw e
        (record {
          is = λ returns.
              rw (
                begun_in T input r (state_of values returns s) few,
                begins_bare T input (at returns) r (state_of values returns s) (says CallsFunction is) (sym em ∙ none),
              )
              (reach_open values returns (from_begin s r) r);
        })

    -- the first part begins
    first_part : (t : Stage)
        → ((returns : List ℕ) → beginning T input (at returns) r (state_of values returns s) ≡ begin (suc r) (state_of values returns s))
        → t ≡ staged s (Begin (r + 1))
        → Begins T input values values r s t
    first_part t begins e =
        rw (e, add-one r)
        (record {
          is = λ returns.
              rw (begun_in T input r (state_of values returns s) few, begins returns) (reach_begin values returns (from_begin s r) (suc r));
        })

    pub begin_args :
        (m : ℕ) (t : Stage)
        → a ≡ CallsFunction
        → m ≡ more_at T r
        → m ≢ 0
        → t ≡ staged s (Begin (r + 1))
        → Begins T input values values r s t
    begin_args m t is em some e =
        first_part t
        (λ returns. begins_args T input (at returns) r (state_of values returns s) (says CallsFunction is) (rw em at some))
        e

    pub begin_first : (t : Stage) → (a ≡ EntersPart) ⊎ (a ≡ TagsNode) → t ≡ staged s (Begin (r + 1)) → Begins T input values values r s t
    begin_first t (inl is) e =
        let no = says EntersPart is in
        first_part t (λ returns. begins_first T input (at returns) r (state_of values returns s) no.0 no.1 no.3 no.4) e
    begin_first t (inr is) e =
        let node : action_at T r ≡ tags_node = says TagsNode is in
        first_part t
        (λ returns.
        begins_first T input (at returns) r (state_of values returns s)
        (λ h. absurd (omega arith)) (λ h. absurd (omega arith)) (λ h. absurd (omega arith)) (λ h. absurd (omega arith)))
        e

pub ruleset beginnings = (begin_past, begin_const, begin_var, begin_case, begin_bare, begin_args, begin_first)

-- ---- `begin_in_numbers`

module _ (T input values values' : List ℕ) (s : StageInNumbers) where
  pub numbers_begun : (t : Stage) (b : StageInNumbers) → Begins T input values values' s.node (with_next s (Begin s.node)) t → b ≡ numbers_of t
      → BeginsInNumbers T input values values' s b
  numbers_begun t b begun e =
      rw e (record { is = λ returns. same_step _ values values' returns returns s (Begin s.node) t refl (begun.is returns) })

pub ruleset begin_numbers = (numbers_begun)

-- ---- the steps

-- where the steps find the tree, the record begins as they say
pub begun_found : (T input : List ℕ) (r p : ℕ) (s : State) → r < record_limit → Found T input s (tree_at T r) p → begun_turn T input r s ≡ beginning T input p r s
begun_found T input r p s few found =
    begun_in T input r s few ∙ ap (λ q. beginning T input q r s) (found_offset T input s found)
