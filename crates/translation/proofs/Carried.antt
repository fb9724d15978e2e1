-- What names stand for while code runs: numbers on words of the frame, trees still to come in the
-- input.
use Prim.Native.Nat.{ℕ, suc, ◌+◌, ◌≤◌, ◌<◌}
use mathlib.Core.Bool.{Bool, true, false}
use mathlib.Core.List.{List, [], ◌∷◌}
use mathlib.Core.Option.{Option, none, some, some-injective, none-ne-some}
use mathlib.Core.Path.{◌≡◌, refl, sym, ap, ◌∙◌}
use lib.Dec.{eqb}
use lib.ListN.{length}
use Rattle.formats.specs.Numbers.{number_at}
use Rattle.formats.specs.Tokens.{Tree, leaf, node, label_bytes, no_byte, a_leaf, a_node, other, tag_at}
use Rattle.meaning.specs.Levels.{at_level}
use Rattle.meaning.proofs.Levels.{level_newest, level_kept}
use Rattle.translation.specs.Templates.{WordNumbers, word_of, first_words}
use Rattle.translation.proofs.InOrder.{Tail, all_left, one_taken}

-- ---- entries by their numbers

-- The entries with these numbers are these.
pub data Picks {A : Type 0} (xs : List A) : List ℕ → List A → Type 0 where
  none_picked : Picks xs [] []
  picked : {k : ℕ} {ks : List ℕ} {y : A} {ys : List A} → at_level xs k ≡ some y → Picks xs ks ys → Picks xs (k ∷ ks) (y ∷ ys)

-- they are the same when a newer entry comes
pub picks_kept : {A : Type 0} {xs : List A} {ks : List ℕ} {ys : List A} (x : A) → Picks xs ks ys → Picks (x ∷ xs) ks ys
picks_kept x none_picked = none_picked
picks_kept {xs = xs} x (picked {k = k} e h) = picked (level_kept x xs k e) (picks_kept x h)

-- as many as their numbers
picks_many : {A : Type 0} {xs : List A} {ks : List ℕ} {ys : List A} → Picks xs ks ys → length ks ≡ length ys
picks_many none_picked = refl
picks_many (picked e h) = ap suc (picks_many h)

-- they are determined
pub picks_one : {A : Type 0} {xs : List A} {ks : List ℕ} {ys zs : List A} → Picks xs ks ys → Picks xs ks zs → ys ≡ zs
picks_one none_picked none_picked = refl
picks_one (picked {y = y} e h) (picked {y = z} d k) =
    let same : y ≡ z = some-injective y z (sym e ∙ d) in
    let rest = picks_one h k in
    cc

-- the entries of a tail of the numbers
pub record PickedTail {A : Type 0} (xs : List A) (ks : List ℕ) : Type 0 where
  pub entries : List A
  pub picks : Picks xs ks entries

pub picks_tail : {A : Type 0} {xs : List A} {ks ls : List ℕ} {ys : List A} → Tail ks ls → Picks xs ks ys → PickedTail xs ls
picks_tail {ys = ys} all_left h = record { entries = ys; picks = h }
picks_tail (one_taken t) (picked e h) = picks_tail t h

-- a name's number stands on its word
pub on_its_word : {frame : List ℕ} {words : WordNumbers} {numbers : List ℕ} (a i : ℕ) → Picks frame words numbers → at_level numbers a ≡ some i
    → at_level frame (word_of words a) ≡ some i
unfolding at_level word_of
on_its_word a i none_picked e = absurd (none-ne-some i e)
on_its_word {frame} a i (picked {k = w} {ks = ws} {y = j} {ys = js} h hs) e =
    by_test (λ older. on_its_word a i hs older) (eqb a (length js)) (eqb a (length ws)) (ap (eqb a) (picks_many hs)) e
  where
    by_test : (at_level js a ≡ some i → at_level frame (elim (at_level ws a) [ none ↦ 0 | some v ↦ v ]) ≡ some i)
        → (b c : Bool) → c ≡ b → elim b [ true ↦ some j | false ↦ at_level js a ] ≡ some i
        → at_level frame (elim (elim c as (λ c. Option ℕ) [ true ↦ some w | false ↦ at_level ws a ]) [ none ↦ 0 | some v ↦ v ]) ≡ some i
    by_test older true true s e = h ∙ e
    by_test older false false s e = older e
    by_test older true false s e = cc
    by_test older false true s e = cc

-- parameters stand on the new frame's first words
pub on_first_words : (numbers : List ℕ) → Picks numbers (first_words (length numbers)) numbers
unfolding first_words
on_first_words [] = none_picked
on_first_words (i ∷ numbers) = picked (level_newest i (length numbers) numbers refl) (picks_kept i (on_first_words numbers))

-- ---- the input

-- From offset p on the input carries the tokens of these trees, in order, up to the offset `end`.
-- Where `Faulty` allows it, only up to a first fault: a tag that is not there, a byte that is no
-- tag, or a label that is not whole; what the trees are from there on does not matter then.
pub data Carries (Faulty : Type 0) (s : List ℕ) (end : ℕ) : ℕ → List Tree → Type 0 where
  carried : {p : ℕ} → p ≡ end → Carries Faulty s end p []
  a-leaf :
      {p x : ℕ} {ts : List Tree}
      → tag_at s p ≡ a_leaf
      → p + 1 + label_bytes ≤ length s
      → number_at label_bytes s (p + 1) ≡ x
      → Carries Faulty s end (p + 1 + label_bytes) ts
      → Carries Faulty s end p (leaf x ∷ ts)
  a-node : {p : ℕ} {l r : Tree} {ts : List Tree} → tag_at s p ≡ a_node → Carries Faulty s end (p + 1) (l ∷ (r ∷ ts)) → Carries Faulty s end p (node l r ∷ ts)
  no_tag : {p : ℕ} {t : Tree} {ts : List Tree} → Faulty → tag_at s p ≡ no_byte → Carries Faulty s end p (t ∷ ts)
  other_tag : {p : ℕ} {t : Tree} {ts : List Tree} → Faulty → tag_at s p ≡ other → Carries Faulty s end p (t ∷ ts)
  label_cut : {p x : ℕ} {ts : List Tree} → Faulty → tag_at s p ≡ a_leaf → length s < p + 1 + label_bytes → Carries Faulty s end p (leaf x ∷ ts)
