-- Words read and put. No function here is answered by these: they say what a word past the end is,
-- and that a word stays where its offset is written in another way.
use Prim.Native.Nat.{ℕ, ◌≤◌}
use mathlib.Core.List.{List}
use mathlib.Core.Path.{◌≡◌, sym, ap, ◌∙◌}
use lib.ListN.{length, get_or, set, get_or-eq_default}
use lib.Seq.{set_out}

-- past the end nothing is put
pub none_put : (l : List ℕ) (i x : ℕ) → length l ≤ i → l ≡ set l i x
none_put l i x cut = sym (set_out l i x cut)

module _ (l : List ℕ) (offset i : ℕ) (is : i ≡ offset) where
  pub word_there : get_or l i 0 ≡ get_or l offset 0
  word_there = ap (λ k. get_or l k 0) is

  pub word_cut : length l ≤ i → 0 ≡ get_or l offset 0
  word_cut cut = sym (get_or-eq_default l 0 cut) ∙ word_there

  pub word_put : (x : ℕ) → set l i x ≡ set l offset x
  word_put x = ap (λ j. set l j x) is

  pub word_kept : (x : ℕ) → length l ≤ i → l ≡ set l offset x
  word_kept x cut = none_put l i x cut ∙ word_put x

pub ruleset words = (word_there, word_cut, word_put, word_kept)
