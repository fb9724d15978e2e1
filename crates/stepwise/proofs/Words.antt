-- Laws of a frame's words and of return words: what stays when a part is taken, when a word is set,
-- and when a call's arguments are copied to the next frame.
use Prim.Native.Nat.{ℕ, zero, suc, ◌+◌, ◌-◌, ◌*◌, ◌%◌, ◌≤◌, ◌<◌}
use mathlib.Core.Bool.{Bool, true, false}
use mathlib.Core.List.{List}
use mathlib.Core.Logic.{◌≢◌}
use mathlib.Core.Path.{◌≡◌, refl, ◌∙◌}
use native.Mathlib.Omega.{arith}
use borrow.Author.Tests.{eqb-true, eqb-false}
use lib.Dec.{eqb}
use lib.ListN.{length, get_or, set, length-set}
use lib.Seq.{get_or-set_same, get_or-set_other}
use Rattle.formats.specs.Tokens.{Tree}
use Rattle.stepwise.specs.Inner.Steps.{State, Found, finished, known_after, closing, frame_words, word_at, with_word, with_end, copied}
use Rattle.stepwise.specs.Inner.Steps.{tree_at, slot_at, more_at, framed}
use Rattle.stepwise.proofs.Steps.{closes_waiting}
use Rattle.stepwise.proofs.Trees.{Lies, Cached, cached_after}

-- ---- what taking a part leaves

-- What stays: of the frame's words the first `names` and the last `keeps`, all words below the
-- frame, and the return words of the calls that wait. What is known of the end of a tree stays
-- right.
pub record Leaves (input : List ℕ) (names keeps : ℕ) (s s' : State) : Type 0 where
  pub calls : s'.calls ≡ s.calls
  pub tree : s'.tree ≡ s.tree
  pub as_many_words : length s'.words ≡ length s.words
  pub as_many_returns : length s'.returns ≡ length s.returns
  pub below : (i : ℕ) → i < frame_words * s.calls + names → get_or s'.words i 0 ≡ get_or s.words i 0
  pub above :
      (i : ℕ)
      → i < frame_words * s.calls + frame_words
      → frame_words * s.calls + frame_words ≤ i + keeps
      → get_or s'.words i 0 ≡ get_or s.words i 0
  pub waiting : (i : ℕ) → i < 2 * s.calls → get_or s'.returns i 0 ≡ get_or s.returns i 0
  pub cached : Cached input s.known s.end → Cached input s'.known s'.end

-- the end of another tree becomes known
pub leaves_end : {input : List ℕ} (names keeps : ℕ) (s : State) (known end : ℕ) → (Cached input s.known s.end → Cached input known end)
    → Leaves input names keeps s (with_end s known end)
leaves_end names keeps s known end right = record {
  calls = refl;
  tree = refl;
  as_many_words = refl;
  as_many_returns = refl;
  below = λ i h. refl;
  above = λ i h h'. refl;
  waiting = λ i h. refl;
  cached = right;
}

-- nothing done
pub leaves_all : {input : List ℕ} (names keeps : ℕ) (s : State) → Leaves input names keeps s s
leaves_all names keeps s = leaves_end names keeps s s.known s.end (λ h. h)

-- two changes, one after the other
pub leaves_both : {input : List ℕ} (names keeps : ℕ) (s s' s'' : State) → Leaves input names keeps s s' → Leaves input names keeps s' s''
    → Leaves input names keeps s s''
leaves_both names keeps s s' s'' a b = record {
  calls = b.calls ∙ a.calls;
  tree = b.tree ∙ a.tree;
  as_many_words = b.as_many_words ∙ a.as_many_words;
  as_many_returns = b.as_many_returns ∙ a.as_many_returns;
  below = λ i h. b.below i (omega (arith, a.calls)) ∙ a.below i h;
  above = λ i h h'. b.above i (omega (arith, a.calls)) (omega (arith, a.calls)) ∙ a.above i h h';
  waiting = λ i h. b.waiting i (omega (arith, a.calls)) ∙ a.waiting i h;
  cached = λ h. b.cached (a.cached h);
}

-- what stays with more names and more numbers kept also stays with fewer
pub leaves_less :
    {input : List ℕ} (names keeps names' keeps' : ℕ) (s s' : State) → names ≤ names' → keeps ≤ keeps' → Leaves input names' keeps' s s'
    → Leaves input names keeps s s'
leaves_less names keeps names' keeps' s s' fewer less a = record {
  calls = a.calls;
  tree = a.tree;
  as_many_words = a.as_many_words;
  as_many_returns = a.as_many_returns;
  below = λ i h. a.below i (omega (arith, fewer));
  above = λ i h h'. a.above i h (omega (arith, less));
  waiting = a.waiting;
  cached = a.cached;
}

-- a word set between the named and the kept numbers
pub leaves_word : {input : List ℕ} (names keeps : ℕ) (s : State) (slot x : ℕ) → names ≤ slot → slot + keeps < frame_words
    → Leaves input names keeps s (with_word s slot x)
leaves_word names keeps s slot x high low = record {
  calls = refl;
  tree = refl;
  as_many_words = length-set s.words _ x;
  as_many_returns = refl;
  below = λ i h. get_or-set_other s.words (frame_words * s.calls + slot) i x 0 (λ e. absurd (omega arith));
  above = λ i h h'. get_or-set_other s.words (frame_words * s.calls + slot) i x 0 (λ e. absurd (omega arith));
  waiting = λ i h. refl;
  cached = λ h. h;
}

module _ {input : List ℕ} (names keeps : ℕ) (s s' : State) (a : Leaves input names keeps s s') where
  -- a named number's word
  pub word_named : (slot : ℕ) → slot < names → word_at s' slot ≡ word_at s slot
  word_named slot h = rw a.calls (a.below (frame_words * s.calls + slot) (omega arith))

  -- a kept number's word
  pub word_kept : (slot : ℕ) → slot < frame_words → frame_words ≤ slot + keeps → word_at s' slot ≡ word_at s slot
  word_kept slot h h' = rw a.calls (a.above (frame_words * s.calls + slot) (omega arith) (omega arith))

-- the word that is set, and the others
pub word_set : (s : State) (slot x : ℕ) → frame_words * s.calls + slot < length s.words → word_at (with_word s slot x) slot ≡ x
word_set s slot x h = get_or-set_same s.words (frame_words * s.calls + slot) x 0 h

pub word_other : (s : State) (slot other x : ℕ) → other ≢ slot → word_at (with_word s slot x) other ≡ word_at s other
word_other s slot other x h =
    get_or-set_other s.words (frame_words * s.calls + slot) (frame_words * s.calls + other) x 0 (λ e. h (omega arith))

-- ---- a call's arguments on the next frame's words

module _ (words : List ℕ) (base slot : ℕ) where
  pub copied_length : (n : ℕ) → length (copied words base slot n) ≡ length words
  unfolding copied
  copied_length zero = refl
  copied_length (suc n) = length-set (copied words base slot n) _ _ ∙ copied_length n

  -- the words below stay
  pub copied_below : (n i : ℕ) → i < base + frame_words → get_or (copied words base slot n) i 0 ≡ get_or words i 0
  unfolding copied
  copied_below zero i h = refl
  copied_below (suc n) i h =
      get_or-set_other (copied words base slot n) (base + frame_words + n) i _ 0 (λ e. absurd (omega arith)) ∙ copied_below n i h

  -- each argument is there
  pub copied_there :
      (n j : ℕ)
      → slot < frame_words
      → base + frame_words + n ≤ length words
      → j < n
      → get_or (copied words base slot n) (base + frame_words + j) 0 ≡ get_or words (base + (slot - j)) 0
  unfolding copied
  copied_there zero j low room h = absurd (omega arith)
  copied_there (suc n) j low room h = by_test (copied_there n j low (omega arith)) (eqb j n) refl
    where
      before : List ℕ
      before = copied words base slot n

      by_test :
          (j < n → get_or before (base + frame_words + j) 0 ≡ get_or words (base + (slot - j)) 0)
          → (b : Bool)
          → eqb j n ≡ b
          → get_or (copied words base slot (suc n)) (base + frame_words + j) 0 ≡ get_or words (base + (slot - j)) 0
      by_test earlier true e =
          let same : j ≡ n = eqb-true j n e in
          rw same
          (get_or-set_same before (base + frame_words + n) (get_or before (base + (slot - n)) 0) 0 (omega (arith, copied_length n))
          ∙ copied_below n (base + (slot - n)) (omega arith))
      by_test earlier false e =
          let other : j ≢ n = eqb-false j n e in
          get_or-set_other before (base + frame_words + n) (base + frame_words + j) (get_or before (base + (slot - n)) 0) 0 (λ d. other (omega arith))
          ∙ earlier (omega arith)

-- ---- a call opens and closes

-- Back in the frame of the Call at record r, with the words that the call left.
abbrev pub back_in : List ℕ → List ℕ → ℕ → State → State → State
back_in T input r s s' =
    record {
      words = s'.words;
      returns = s'.returns;
      calls = s.calls;
      tree = s.tree;
      known = known_after T input r s.tree s';
      end = s'.end;
    }

-- after a call closes, its return words still hold its record and its caller's tree
module _ (T input : List ℕ) (p r : ℕ) (s s' : State) (names keeps : ℕ) (left : Leaves input names keeps (framed T p r s) s') where
  pub closes_back : (x : ℕ) → r < 65536 → suc (2 * s.calls) < length s.returns → closing T input x s' ≡ finished r x (back_in T input r s s')
  closes_back x low room =
      let saved : List ℕ = set s.returns (2 * s.calls) r in
      let the_record : get_or s'.returns (2 * s.calls) 0 ≡ r =
      left.waiting (2 * s.calls) (omega arith)
      ∙ get_or-set_other saved (suc (2 * s.calls)) (2 * s.calls) s.tree 0 (λ e. absurd (omega arith))
      ∙ get_or-set_same s.returns (2 * s.calls) r 0 (omega arith) in
      let the_tree : get_or s'.returns (suc (2 * s.calls)) 0 ≡ s.tree =
      left.waiting (suc (2 * s.calls)) (omega arith)
      ∙ get_or-set_same saved (suc (2 * s.calls)) s.tree 0 (omega (arith, length-set s.returns (2 * s.calls) r)) in
      let small : r % 65536 ≡ r = omega arith in
      closes_waiting T input x s.calls s' left.calls ∙ rw (the_record, the_tree, small) refl

  -- and all that must stay in the caller's frame has stayed
  pub leaves_call : (names' keeps' : ℕ) (own : Tree) → names' ≤ frame_words → Found T input s (tree_at T r) p → Lies input s.tree own
      → Leaves input names' keeps' s (back_in T input r s s')
  leaves_call names' keeps' own few found lies = record {
    calls = refl;
    tree = refl;
    as_many_words = left.as_many_words ∙ copied_length s.words (frame_words * s.calls) (slot_at T (suc r)) (more_at T r);
    as_many_returns = left.as_many_returns ∙ length-set (set s.returns (2 * s.calls) r) _ _ ∙ length-set s.returns _ _;
    below = λ i h. words_left i (omega (arith, few));
    above = λ i h h'. words_left i h;
    waiting = λ i h.
        left.waiting i (omega arith)
        ∙ get_or-set_other (set s.returns (2 * s.calls) r) (suc (2 * s.calls)) i s.tree 0 (λ e. absurd (omega arith))
        ∙ get_or-set_other s.returns (2 * s.calls) i r 0 (λ e. absurd (omega arith));
    cached = λ h. cached_after r found h own s' lies left.tree (left.cached h);
  }
    where
      words_left : (i : ℕ) → i < frame_words * s.calls + frame_words → get_or s'.words i 0 ≡ get_or s.words i 0
      words_left i h = left.below i (omega arith) ∙ copied_below s.words (frame_words * s.calls) (slot_at T (suc r)) (more_at T r) i h
