-- A call opens: a law for each way out of the functions; and the steps say the same.
use Prim.Native.Nat.{ℕ, suc, ◌+◌, ◌-◌, ◌*◌, ◌≤◌, ◌<◌}
use mathlib.Core.Bool.{Bool, true, false}
use mathlib.Core.List.{List}
use mathlib.Core.Path.{◌≡◌, refl, ap, ap₂, ◌∙◌}
use native.Mathlib.Numerals.{add-one}
use native.Mathlib.Omega.{arith}
use borrow.Author.Tests.{lt-ltb, le-ltb}
use lib.Dec.{leb, ltb}
use lib.ListN.{length, get_or, set, length-set}
use Rattle.stepwise.specs.Inner.Steps.{State, begin, deep, stuck, operand_at, tree_at, more_at, slot_at, frame_words, record_limit, most_waiting, Found, copied, opening}
use Rattle.stepwise.proofs.Steps.{opens_deep, opens_frame}
use Rattle.stepwise.proofs.Words.{copied_length}
use Rattle.stages.specs.declared.Stage.{Stage}
use Rattle.stages.specs.declared.StageInNumbers.{StageInNumbers}
use Rattle.stages.specs.declared.Next.TheVariants.{Begin, Open, Deep, Stuck}
use Rattle.stages.specs.Inner.Stages.{is_finished, to_open, state_of, staged, stage_of, words_of, returns_of}
use Rattle.stages.specs.Inner.InNumbers.{numbers_of, with_next}
use Rattle.stages.proofs.InNumbers.{same_step}
use Rattle.stages.proofs.Stages.{reach_deep, reach_stuck}
use Rattle.named_trees.specs.Inner.Offsets.{tree_offset, named_by}
use Rattle.named_trees.proofs.Offsets.{found_offset}
use Rattle.open_call.specs.Inner.Opens.{opened_turn, Opens}
use Rattle.open_call.specs.Inner.InNumbers.{Opens as OpensInNumbers}

-- ---- `copy`

-- The first n arguments are copied.
pub record Copying (values₀ : List ℕ) (calls slot count : ℕ) (values : List ℕ) (n : ℕ) : Type 0 where
  pub so_far : values ≡ copied values₀ (frame_words * calls) slot n
  pub few : n ≤ count

module _ (values₀ : List ℕ) (calls slot count : ℕ) where
  pub copy_first : Copying values₀ calls slot count values₀ 0
  unfolding copied
  copy_first = record { so_far = refl; few = omega arith }

  pub copy_more : (values values' : List ℕ) (n d x : ℕ) → n < count → Copying values₀ calls slot count values n
      → d ≡ slot - n
      → x ≡ get_or values (frame_words * calls + d) 0
      → values' ≡ set values (frame_words * (calls + 1) + n) x
      → Copying values₀ calls slot count values' (n + 1)
  unfolding copied
  copy_more values values' n d x more c down is put =
      let there : frame_words * (calls + 1) + n ≡ frame_words * calls + frame_words + n = omega arith in
      record { so_far = rw (add-one n, put, there, is, down, c.so_far); few = omega arith }

  pub copy_done : (values : List ℕ) (n : ℕ) → count ≤ n → Copying values₀ calls slot count values n → values ≡ copied values₀ (frame_words * calls) slot count
  copy_done values n over c = let all : n ≡ count = omega (arith, c.few) in rw (← all) c.so_far

  pub copy_long : (values : List ℕ) (n : ℕ) → Copying values₀ calls slot count values n → length values ≡ length values₀
  copy_long values n c = ap length c.so_far ∙ copied_length values₀ (frame_words * calls) slot n

pub ruleset copying = (copy_first, copy_more)

-- ---- `pass_arguments`, `save`

pub arguments_passed : (T l k : List ℕ) (base node f c : ℕ) → f ≡ slot_at T (node + 1) → c ≡ more_at T node → k ≡ copied l base f c
    → k ≡ copied l base (slot_at T (suc node)) (more_at T node)
arguments_passed T l k base node f c ef ec e =
    let slot : f ≡ slot_at T (suc node) = ef ∙ ap (slot_at T) (add-one node) in
    e ∙ ap₂ (λ i n. copied l base i n) slot ec

pub both_saved : (l k m : List ℕ) (i x y : ℕ) → k ≡ set l i x → m ≡ set k (i + 1) y → m ≡ set (set l i x) (suc i) y
both_saved l k m i x y e f = rw (← e, ← (add-one i)) f

pub ruleset passing = (arguments_passed, both_saved)

-- ---- `open`

module _ (T input : List ℕ) (r : ℕ) (s : State) where
  opened_in : r < record_limit → opened_turn T input r s ≡ opening T (named_by T input r s) r s
  unfolding opened_turn
  opened_in few = simp (opened_turn, lt-ltb _ _ few)

  opened_past : record_limit ≤ r → opened_turn T input r s ≡ stuck
  unfolding opened_turn
  opened_past past = simp (opened_turn, le-ltb _ _ past)

module _ (T input values returns : List ℕ) (r : ℕ) (s : Stage) where
  pub open_past : (t : Stage) → record_limit ≤ r → t ≡ staged s (Stuck r) → Opens T input values values returns returns r s t
  open_past t past e = rw e (record { is = rw (opened_past T input r (state_of values returns s) past) (reach_stuck values returns (staged s (Open r))) })

  module _ (few : r < record_limit) where
    pub open_deep : (t : Stage) → most_waiting ≤ s.calls → t ≡ staged s (Deep r) → Opens T input values values returns returns r s t
    open_deep t full e =
        rw e
        (record {
          is =
              rw (
                opened_in T input r (state_of values returns s) few,
                opens_deep T (named_by T input r (state_of values returns s)) r (state_of values returns s) full,
              )
              (reach_deep values returns (staged s (Open r)) r);
        })

    pub open_frame :
        (q f : ℕ) (values' returns' : List ℕ) (b : Stage)
        → s.calls < most_waiting
        → q ≡ tree_offset T input s.tree s.known s.end (tree_at T r)
        → values' ≡ copied values (frame_words * s.calls) (slot_at T (suc r)) (more_at T r)
        → returns' ≡ set (set returns (2 * s.calls) r) (suc (2 * s.calls)) s.tree
        → f ≡ operand_at T r
        → b ≡ staged s (Begin f)
        → Opens T input values values' returns returns' r s
        (record { next = b.next; calls = s.calls + 1; tree = q; known = b.known; end = b.end; written = b.written })
    unfolding stage_of words_of returns_of
    open_frame q f values' returns' b room found passed-on saved ef at =
        rw (at, passed-on, saved, ef, add-one s.calls)
        (record {
          is =
              rw (opened_in T input r (state_of values returns s) few, ← found, opens_frame T q r (state_of values returns s) room)
              (record {
                stage = refl;
                words = refl;
                returns_are = refl;
                words_long = copied_length values _ _ (more_at T r);
                returns_long = length-set (set returns (2 * s.calls) r) (suc (2 * s.calls)) s.tree ∙ length-set returns (2 * s.calls) r;
              });
        })

pub ruleset opening_ways = (open_past, open_deep, open_frame)

-- ---- `open_in_numbers`

module _ (T input values values' returns returns' : List ℕ) (s : StageInNumbers) where
  pub numbers_opened :
      (f t : Stage) (b : StageInNumbers)
      → f ≡ with_next s (Open s.node)
      → Opens T input values values' returns returns' s.node f t
      → b ≡ numbers_of t
      → OpensInNumbers T input values values' returns returns' s b
  numbers_opened f t b from opened e =
      let there : Opens T input values values' returns returns' s.node (with_next s (Open s.node)) t = rw (← from) opened in
      rw e (record { is = same_step _ values values' returns returns' s (Open s.node) t refl there.is })

pub ruleset open_numbers = (numbers_opened)

-- ---- the steps

-- where the steps find the tree, the call opens as they say
pub opened_found : (T input : List ℕ) (r p : ℕ) (s : State) → r < record_limit → Found T input s (tree_at T r) p → opened_turn T input r s ≡ opening T p r s
opened_found T input r p s few found =
    opened_in T input r s few ∙ ap (λ q. opening T q r s) (found_offset T input s found)

-- a call that has opened leaves no record finished, and no other call to open
module _ (s : Stage) (r f : ℕ) (t : State) where
  settled_by : (a b : Bool)
      → (is_finished (stage_of s (elim a [ true ↦ elim b [ true ↦ deep r | false ↦ begin f t ] | false ↦ stuck ])).next ≡ false)
      × (to_open (stage_of s (elim a [ true ↦ elim b [ true ↦ deep r | false ↦ begin f t ] | false ↦ stuck ])).next ≡ false)
  unfolding stage_of
  settled_by true true = (refl, refl)
  settled_by true false = (refl, refl)
  settled_by false b = (refl, refl)

pub opened_settled : (T input : List ℕ) (r : ℕ) (t : State) (s : Stage)
    → (is_finished (stage_of s (opened_turn T input r t)).next ≡ false) × (to_open (stage_of s (opened_turn T input r t)).next ≡ false)
unfolding opened_turn opening
opened_settled T input r t s = settled_by s r _ _ (ltb r record_limit) (leb most_waiting t.calls)
