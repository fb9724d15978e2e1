-- What the lent words stand for: the frame's words, and the frames that wait. A word set at or
-- above a base leaves the frames below it.
use Prim.Native.Nat.{ℕ, zero, suc, ◌+◌, ◌-◌, ◌*◌, ◌≤◌, ◌<◌}
use mathlib.Core.Bool.{Bool, true, false}
use mathlib.Core.List.{List, ◌∷◌}
use mathlib.Core.Option.{none, some}
use mathlib.Core.Logic.{◌≢◌, ◌⊎◌, inl, inr}
use mathlib.Core.Path.{◌≡◌, refl, sym, ap, ap₂, ◌∙◌}
use native.Mathlib.Nat.{le_refl, le_trans}
use native.Mathlib.Omega.{arith}
use borrow.Author.Tests.{eqb-true, eqb-false}
use lib.Dec.{eqb}
use lib.ListN.{length, get_or, set, take, drop, length-set}
use lib.Seq.{get_or-set_same, get_or-set_other}
use Rattle.formats.specs.Refusals.{cannot_perform}
use Rattle.meaning.specs.Levels.{at_level}
use Rattle.meaning.proofs.Levels.{level_newest, level_older}
use Rattle.meaning.specs.Performing.{Caller, words_below, words_standing, Step, refuses, pop_one, pop_two}
use Rattle.machine_state.specs.declared.Machine.{Machine}
use Rattle.machine_state.proofs.Laws.{words_top}
use Rattle.machine_state.specs.Inner.States.{words_from, waiting, state_of, Chained, first, above}

decide : (b : Bool) → (b ≡ true) ⊎ (b ≡ false)
decide true = inl refl
decide false = inr refl

-- ---- a frame's words

pub length_words : (values : List ℕ) (base n : ℕ) → length (words_from values base n) ≡ n
unfolding words_from
length_words values base zero = refl
length_words values base (suc n) = ap suc (length_words values base n)

-- a word set above them
pub words-kept : (values : List ℕ) (base n i x : ℕ) → base + n ≤ i → words_from (set values i x) base n ≡ words_from values base n
unfolding words_from
words-kept values base zero i x h = refl
words-kept values base (suc n) i x h =
    ap₂ (λ (y : ℕ) (ys : List ℕ). y ∷ ys) (get_or-set_other values i (base + n) x 0 (λ e. absurd (omega arith))) (words-kept values base n i x (omega arith))

-- a word set on top of them
pub words_pushed :
    (values : List ℕ) (base n i x : ℕ)
    → i < length values
    → i ≡ base + n
    → words_from (set values i x) base (suc n) ≡ x ∷ words_from values base n
unfolding words_from
words_pushed values base n i x h e =
    ap₂ (λ (y : ℕ) (ys : List ℕ). y ∷ ys)
    (ap (λ j. get_or (set values i x) j 0) (sym e) ∙ get_or-set_same values i x 0 h)
    (words-kept values base n i x (omega arith))

-- one word or two are taken, or are missing
module _ (values : List ℕ) (base top : ℕ) where
  pub one_missing : (f : ℕ → List ℕ → Step) → top ≤ base → pop_one (words_from values base (top - base)) f ≡ refuses cannot_perform
  unfolding words_from pop_one
  one_missing f few = let none_there : top - base ≡ 0 = omega arith in rw none_there

  pub one_taken :
      (f : ℕ → List ℕ → Step)
      → base < top
      → pop_one (words_from values base (top - base)) f ≡ f (get_or values (top - 1) 0) (words_from values base (top - 1 - base))
  unfolding pop_one
  one_taken f some_there = ap (λ ws. pop_one ws f) (words_top values base top some_there)

module _ (values : List ℕ) (base top : ℕ) (f : ℕ → ℕ → List ℕ → Step) where
  pub two_missing : top - base < 2 → pop_two (words_from values base (top - base)) f ≡ refuses cannot_perform
  unfolding words_from pop_one pop_two
  two_missing few = by (top - base) few
    where
      by : (n : ℕ) → n < 2 → pop_two (words_from values base n) f ≡ refuses cannot_perform
      by zero h = refl
      by (suc zero) h = refl
      by (suc (suc n)) h = absurd (omega arith)

  pub two_taken :
      base + 2 ≤ top
      → pop_two (words_from values base (top - base)) f
      ≡ f (get_or values (top - 1) 0) (get_or values (top - 2) 0) (words_from values base (top - 2 - base))
  unfolding pop_two
  two_taken there =
      let less : top - 1 - 1 ≡ top - 2 = omega arith in
      one_taken values base top _ (omega arith)
      ∙ one_taken values base (top - 1) _ (omega arith)
      ∙ ap (λ i. f (get_or values (top - 1) 0) (get_or values i 0) (words_from values base (i - base))) less

-- the word that stands k above the base
pub word_found : (values : List ℕ) (base n k : ℕ) → k < n → at_level (words_from values base n) k ≡ some (get_or values (base + k) 0)
unfolding words_from
word_found values base zero k h = absurd (omega arith)
word_found values base (suc n) k h =
    let counted = length_words values base n in
    elim (decide (eqb k n)) [
      | inl e ↦ level_newest _ k _ (eqb-true k n e ∙ sym counted) ∙ ap (λ j. some (get_or values (base + j) 0)) (sym (eqb-true k n e))
      | inr e ↦
          let other : k ≢ n = eqb-false k n e in
          level_older _ k _ (λ d. other (d ∙ counted)) ∙ word_found values base n k (omega arith)
    ]

pub word_missing : (values : List ℕ) (base n k : ℕ) → n ≤ k → at_level (words_from values base n) k ≡ none
unfolding words_from at_level
word_missing values base zero k h = refl
word_missing values base (suc n) k h =
    let counted = length_words values base n in
    level_older (get_or values (base + n) 0) k (words_from values base n) (λ d. let same : k ≡ n = d ∙ counted in absurd (omega arith)) ∙ word_missing values base n k (omega arith)

-- the topmost k of them, and those under these
pub words_taken : (values : List ℕ) (base n lo k : ℕ) → base + n ≡ lo + k → base ≤ lo → take k (words_from values base n) ≡ words_from values lo k
unfolding words_from
words_taken values base n lo zero e h = refl
words_taken values base zero lo (suc k) e h = absurd (omega arith)
words_taken values base (suc n) lo (suc k) e h =
    let same : base + n ≡ lo + k = omega arith in
    ap₂ (λ (y : ℕ) (ys : List ℕ). y ∷ ys) (ap (λ j. get_or values j 0) same) (words_taken values base n lo k same h)

pub words_left : (values : List ℕ) (base n rest k : ℕ) → n ≡ rest + k → drop k (words_from values base n) ≡ words_from values base rest
unfolding words_from
words_left values base n rest zero e = let same : n ≡ rest = omega arith in ap (words_from values base) same
words_left values base zero rest (suc k) e = absurd (omega arith)
words_left values base (suc n) rest (suc k) e = words_left values base n rest k (omega arith)

-- ---- the frames that wait

-- a value word set above them
pub waiting_kept :
    (values returns : List ℕ) (base saved i x : ℕ)
    → Chained returns base saved
    → base ≤ i
    → waiting (set values i x) returns base saved ≡ waiting values returns base saved
unfolding waiting
waiting_kept values returns base saved i x first h = refl
waiting_kept values returns base saved i x (above {n = n} below c) h =
    let own : ℕ = get_or returns (suc n) 0 in
    ap₂ (λ (ws : List ℕ) (cs : List Caller). record { back = get_or returns n 0; words = ws } ∷ cs)
    (words-kept values own (base - own) i x (omega arith))
    (waiting_kept values returns own n i x c (le_trans below h))

-- a return place set above them
pub waiting_saved :
    (values returns : List ℕ) (base saved i x : ℕ)
    → Chained returns base saved
    → saved ≤ i
    → waiting values (set returns i x) base saved ≡ waiting values returns base saved
unfolding waiting
waiting_saved values returns base saved i x first h = refl
waiting_saved values returns base saved i x (above {n = n} below c) h =
    let own_kept : get_or (set returns i x) (suc n) 0 ≡ get_or returns (suc n) 0 = get_or-set_other returns i (suc n) x 0 (λ e. absurd (omega arith)) in
    let back_kept : get_or (set returns i x) n 0 ≡ get_or returns n 0 = get_or-set_other returns i n x 0 (λ e. absurd (omega arith)) in
    rw (own_kept, back_kept, waiting_saved values returns (get_or returns (suc n) 0) n i x c (omega arith)) refl

pub chained_saved : (returns : List ℕ) (base saved i x : ℕ) → Chained returns base saved → saved ≤ i → Chained (set returns i x) base saved
chained_saved returns base saved i x first h = first
chained_saved returns base saved i x (above {n = n} below c) h =
    let own_kept : get_or (set returns i x) (suc n) 0 ≡ get_or returns (suc n) 0 = get_or-set_other returns i (suc n) x 0 (λ e. absurd (omega arith)) in
    above {base = base} {n = n} (rw own_kept below) (rw own_kept (chained_saved returns (get_or returns (suc n) 0) n i x c (omega arith)))

-- one frame more waits: its return place is saved, below a new base
module _ (returns : List ℕ) (base saved back : ℕ) (c : Chained returns base saved) (fits : saved + 1 < length returns) where
  abbrev back_set : List ℕ
  back_set = set returns saved back

  abbrev position_set : List ℕ
  position_set = set back_set (suc saved) base

  own_there : get_or position_set (suc saved) 0 ≡ base
  own_there = get_or-set_same back_set (suc saved) base 0 (simp length-set (omega arith))

  back_there : get_or position_set saved 0 ≡ back
  back_there = get_or-set_other back_set (suc saved) saved base 0 (λ e. omega arith) ∙ get_or-set_same returns saved back 0 (omega arith)

  chained_still : Chained back_set base saved
  chained_still = chained_saved returns base saved saved back c (le_refl saved)

  waiting_still : (values : List ℕ) → waiting values position_set base saved ≡ waiting values returns base saved
  waiting_still values =
      waiting_saved values back_set base saved (suc saved) base chained_still (omega arith)
      ∙ waiting_saved values returns base saved saved back c (le_refl saved)

  pub waiting_more :
      (values : List ℕ) (lo : ℕ)
      → waiting values position_set lo (suc (suc saved))
      ≡ record { back = back; words = words_from values base (lo - base) } ∷ waiting values returns base saved
  unfolding waiting
  waiting_more values lo = rw (own_there, back_there, waiting_still values)

  pub chained_more : (lo : ℕ) → base ≤ lo → Chained position_set lo (suc (suc saved))
  chained_more lo h =
      above {base = lo} {n = saved} (rw own_there h) (rw own_there (chained_saved back_set base saved (suc saved) base chained_still (omega arith)))

-- they hold all words below the base
pub words-below : (values returns : List ℕ) (base saved : ℕ) → Chained returns base saved → words_below (waiting values returns base saved) ≡ base
unfolding waiting words_below
words-below values returns base saved first = refl
words-below values returns base saved (above {n = n} below c) =
    let own : ℕ = get_or returns (suc n) 0 in
    rw (length_words values own (base - own), words-below values returns own n c) (omega arith)

-- there is one for every two words saved
pub count_waiting : (values returns : List ℕ) (base saved : ℕ) → Chained returns base saved → saved ≡ 2 * length (waiting values returns base saved)
unfolding waiting
count_waiting values returns base saved first = refl
count_waiting values returns base saved (above {n = n} below c) = let e = count_waiting values returns (get_or returns (suc n) 0) n c in omega arith

-- how many words stand in all
pub all_standing :
    (values returns output : List ℕ) (s : Machine)
    → Chained returns s.base s.saved
    → s.base ≤ s.top
    → words_standing (state_of values returns output s) ≡ s.top
unfolding words_standing
all_standing values returns output s c h =
    rw (length_words values s.base (s.top - s.base), words-below values returns s.base s.saved c) (omega arith)
