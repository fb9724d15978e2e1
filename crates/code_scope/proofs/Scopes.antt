-- Scopes: the words of names, and a law for each way out of the functions that say what is known on
-- entering a part.
use Rattle.std.proofs.Common.{◌≡◌, ℕ, zero, suc, ◌+◌, ◌%◌, ◌^◌, ◌<◌, ◌≤◌, min, true, false, ◌≢◌, List, ◌∷◌, get_or, set, sym, refl, ap, ◌∙◌, subst, ap₂, arith, length-set, eq-eqb, ne_eqb, take}
use lib.ListN.{get_or-eq_default, length-take}
use lib.Seq.{get_or-take}
use mathlib.Core.Option.{none, some}
use native.Mathlib.Decide.{dec_le}
use Rattle.formats.specs.Inner.Buffers.{from_last}
use Rattle.formats.specs.Programs.{number_valued}
use Rattle.formats.specs.Records.{a_number, a_tree, as_whole, under_number, under_trees, Part as PartOfKind}
use Rattle.formats.proofs.Buffers.{length_from, from_top}
use Rattle.meaning.specs.Levels.{at_level}
use Rattle.meaning.proofs.Levels.{level_newest, level_older}
use Rattle.records.specs.Inner.Read.{part_of}
use Rattle.records.specs.declared.Part.{Part}
use Rattle.records.specs.declared.Part.TheVariants.{Number, Tree, Whole, UnderNumber, UnderTrees}
use Rattle.translation.specs.Templates.{word_of}
use Rattle.code_scope.specs.declared.Scope.{Scope}
use Rattle.code_scope.specs.Inner.Around.{around, part_around, most_names, sort_of, words_in, around_of, Enterable, Enters, under_scope, inside_scope}

-- ---- `word_of`

-- past the last name there is no word; a name's word is the array's
none_there : (ws : List ℕ) (n a : ℕ) → n ≤ a → at_level (from_last ws n) a ≡ none
unfolding from_last at_level
none_there ws zero a h = refl
none_there ws (suc n) a h =
    level_older (get_or ws n 0) a (from_last ws n) (λ e. absurd (omega (arith, length_from ws n))) ∙ none_there ws n a (omega arith)

some_there : (ws : List ℕ) (n a : ℕ) → a < n → at_level (from_last ws n) a ≡ some (get_or ws a 0)
unfolding from_last
some_there ws zero a h = absurd (omega arith)
some_there ws (suc n) a h = elim (dec_le n a) [
  | yes over ↦
      let e : a ≡ n = omega arith in
      level_newest (get_or ws n 0) a (from_last ws n) (e ∙ sym (length_from ws n)) ∙ ap (λ k. some (get_or ws k 0)) (sym e)
  | no below ↦
      level_older (get_or ws n 0) a (from_last ws n) (λ e. absurd (omega (arith, length_from ws n))) ∙ some_there ws n a (omega arith)
]

-- the array's first words, read up to the last name, are the words of names; 0 past it
pub word_read : (c : Scope) (n a w : ℕ) → n ≡ min c.names most_names → w ≡ get_or (take n c.words) a 0 → w ≡ word_of (words_in c) a
unfolding word_of words_in
word_read c n a w counted is = elim (dec_le n a) [
  | yes over ↦
      let past : get_or (take n c.words) a 0 ≡ 0 = get_or-eq_default (take n c.words) 0 (omega (arith, length-take n c.words)) in
      is ∙ past ∙ sym (rw (none_there c.words (min c.names most_names) a (omega arith), word_of))
  | no below ↦
      let here : get_or (take n c.words) a 0 ≡ get_or c.words a 0 = get_or-take n c.words a 0 (omega arith) in
      is ∙ here ∙ sym (rw (some_there c.words (min c.names most_names) a (omega arith), word_of))
]

module _ (c : Scope) (n a : ℕ) (counted : n ≡ min c.names most_names) where
  pub word_none : n ≤ a → 0 ≡ word_of (words_in c) a
  unfolding word_of words_in
  word_none over = sym (rw (none_there c.words (min c.names most_names) a (omega arith), word_of))

  pub word_found : a < n → get_or c.words a 0 ≡ word_of (words_in c) a
  unfolding word_of words_in
  word_found below = sym (rw (some_there c.words (min c.names most_names) a (omega arith), word_of))

pub ruleset words_found = (word_none, word_found)

-- ---- `under_number`

module _ (c : Scope) (n : ℕ) (counted : n ≡ min c.names most_names) where
  pub under_full : n ≡ 16 → c ≡ under_scope c
  unfolding under_scope
  under_full full = sym (rw (under_scope, eq-eqb (min c.names most_names) most_names (sym counted ∙ full)))

  pub under_next : (w : ℕ) → n ≢ 16 → w ≡ (c.standing + 1) % 2 ^ 64
      → record { words = set c.words n (c.standing % 65536); names = n + 1; standing = w; tree = c.tree } ≡ under_scope c
  unfolding under_scope
  under_next w free e =
      ap₂ (λ m v. record { words = set c.words m (c.standing % 65536); names = m + 1; standing = v; tree = c.tree }) counted e
      ∙ sym (rw (under_scope, ne_eqb (min c.names most_names) most_names (λ full. free (counted ∙ full))))

pub ruleset under = (under_full, under_next)

-- ---- `inside`

module _ (part : Part) (i : ℕ) (c : Scope) where
  pub in_number : (w : ℕ) → part ≡ Number → w ≡ (c.standing + i) % 2 ^ 64
      → record { words = c.words; names = c.names; standing = w; tree = false } ≡ inside_scope (part_of part) i c
  unfolding inside_scope
  in_number w case e = rw case (ap (λ n. record { words = c.words; names = c.names; standing = n; tree = false }) e)

  pub in_tree : part ≡ Tree → record { words = c.words; names = c.names; standing = c.standing; tree = true } ≡ inside_scope (part_of part) i c
  unfolding inside_scope
  in_tree case = rw case

  pub in_whole : part ≡ Whole → c ≡ inside_scope (part_of part) i c
  unfolding inside_scope
  in_whole case = rw case

  pub in_under_number : (r : Scope) → part ≡ UnderNumber → r ≡ under_scope c → r ≡ inside_scope (part_of part) i c
  unfolding inside_scope
  in_under_number r case e = rw case e

  pub in_under_trees : part ≡ UnderTrees → c ≡ inside_scope (part_of part) i c
  unfolding inside_scope
  in_under_trees case = rw case

pub ruleset insides = (in_number, in_tree, in_whole, in_under_number, in_under_trees)

-- ---- a part that can be entered

-- a part where nothing changes
as_it_was : (p : PartOfKind) (i : ℕ) (c : Scope) → Enterable p i c → around_of c ≡ part_around p i (around_of c) → Enters p i c c
as_it_was p i c h e = record { is = e; named = h.named; standing = omega arith; table = h.table }

pub enters : (p : PartOfKind) (i : ℕ) (c : Scope) → Enterable p i c → Enters p i c (inside_scope p i c)
unfolding inside_scope part_around words_in
enters a_number i c h =
    let own : (c.standing + i) % 2 ^ 64 ≡ c.standing + i = omega (arith, h.fits) in
    record {
      is = ap (around number_valued (words_in c)) own;
      named = record { few = omega (arith, h.named.few) };
      standing = omega arith;
      table = h.table;
    }
enters a_tree i c h = record { is = refl; named = record { few = h.named.few }; standing = omega arith; table = h.table }
enters as_whole i c h = as_it_was as_whole i c h refl
enters under_number i c h =
    let n = min c.names most_names in
    let below = h.room tt in
    let few = h.named.few in
    let w = (c.standing + 1) % 2 ^ 64 in
    let free : n ≢ 16 = λ full. absurd (omega arith) in
    let v = c.standing % 65536 in
    let next : w ≡ suc c.standing = omega arith in
    let own : v ≡ c.standing = omega arith in
    let long = h.table in
    let one_more : min (n + 1) most_names ≡ suc n = omega arith in
    let there : from_last (set c.words n v) (min (n + 1) most_names) ≡ c.standing ∷ from_last c.words n =
    ap (from_last (set c.words n v)) one_more ∙ from_top c.words n v (omega arith) ∙ ap (λ x. x ∷ from_last c.words n) own in
    subst (Enters under_number i c) (under_next c n refl w free refl)
    (record {
      is = ap₂ (around (sort_of c.tree)) there next;
      named = record { few = omega arith };
      standing = omega arith;
      table = length-set c.words n v ∙ long;
    })
enters under_trees i c h = as_it_was under_trees i c h refl
