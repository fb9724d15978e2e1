-- The offset of a named tree: a law for each way out of `offset_of`; and it is the offset at which
-- the steps find the tree.
use Prim.Native.Nat.{ℕ, zero, suc, ◌+◌, ◌-◌, ◌*◌, ◌/◌, ◌%◌, ◌≤◌, ◌<◌}
use mathlib.Core.List.{List}
use mathlib.Core.Logic.{◌≢◌}
use mathlib.Core.Path.{◌≡◌, refl, sym, ap, ◌∙◌}
use native.Mathlib.Decide.{dec_le}
use native.Mathlib.Numerals.{add-one}
use native.Mathlib.Omega.{arith}
use borrow.Author.Tests.{eq-eqb, ne_eqb, le-leb, lt-leb}
use lib.ListN.{length, drop, take, length-drop}
use lib.Seq.{take_all}
use Rattle.formats.specs.Tokens.{first_end}
use Rattle.formats.specs.Measures.{first_measures}
use Rattle.formats.specs.Results.{Result, on_value}
use Rattle.formats.proofs.Endings.{end_within}
use Rattle.formats.proofs.Measures.{first-end}
use Rattle.std.specs.Prelude.{Result as Answer, Ok, Err}
use Rattle.std.specs.Result.{MatchResult}
use Rattle.std.proofs.lemmas.Result.{MatchResult-at_ok, MatchResult-at_err}
use Rattle.refusal.specs.declared.Refused.{Refused}
use Rattle.tree.specs.declared.Measures.{Measures}
use Rattle.tree.specs.Inner.TreeResults.{measured, tree_result}
use Rattle.stepwise.specs.Inner.Steps.{State, Found, the_own, the_left, the_right, the_known, tree_at}
use Rattle.named_trees.specs.Inner.Offsets.{after_tree, part_at, offset_within, tree_offset}

-- ---- `part_of`

module _ (input : List ℕ) (known end p j : ℕ) where
  pub part_past : length input ≤ p → 0 ≡ part_at input known end p j
  unfolding part_at
  part_past past = sym (simp (part_at, le-leb _ _ past))

  module _ (there : p < length input) where
    pub part_left : j % 2 ≡ 0 → p + 1 ≡ part_at input known end p j
    unfolding part_at
    part_left even = add-one p ∙ sym (simp (part_at, lt-leb _ _ there, eq-eqb _ _ even))

    module _ (odd : j % 2 ≢ 0) where
      pub part_known : p + 1 ≡ known → end ≡ part_at input known end p j
      unfolding part_at
      part_known e =
          let same : suc p ≡ known = sym (add-one p) ∙ e in
          sym (simp (part_at, lt-leb _ _ there, ne_eqb _ _ odd, eq-eqb _ _ same))

      module _ (other : p + 1 ≢ known) where
        -- the input after the node's tag
        abbrev after : List ℕ
        after = take (length input - (p + 1)) (drop (p + 1) input)

        after_is : after ≡ drop (suc p) input
        after_is = rw (add-one p) (take_all (length input - suc p) (drop (suc p) input) (omega (arith, length-drop (suc p) input)))

        part_sought : part_at input known end p j ≡ after_tree (suc p) (first_end (drop (suc p) input))
        unfolding part_at
        part_sought =
            let unlike : suc p ≢ known = λ e. other (add-one p ∙ e) in
            simp (part_at, lt-leb _ _ there, ne_eqb _ _ odd, ne_eqb _ _ unlike)

        module _ (found : Answer Measures Refused) (read : tree_result found ≡ first_measures after) where
          -- The end among what the reader measured.
          abbrev found_end : Answer Measures Refused → Result ℕ
          found_end a = on_value (λ m. m.bytes) (tree_result a)

          by_end : part_at input known end p j ≡ after_tree (suc p) (found_end found)
          by_end = part_sought ∙ ap (after_tree (suc p)) (ap first_end (sym after_is) ∙ sym (first-end after) ∙ ap (on_value (λ m. m.bytes)) (sym read))

          pub part_broken : (r : Refused) → found ≡ Err r → 0 ≡ part_at input known end p j
          unfolding after_tree
          part_broken r e = sym (by_end ∙ ap (λ a. after_tree (suc p) (found_end a)) e)

          pub part_right : (m : Measures) → found ≡ Ok m → p + 1 + m.bytes ≡ part_at input known end p j
          unfolding after_tree
          part_right m e = ap (λ q. q + m.bytes) (add-one p) ∙ sym (by_end ∙ ap (λ a. after_tree (suc p) (found_end a)) e)

          -- the reader's answer, whatever it is
          pub part_read : (r : ℕ) (P : Measures → Type 0) → MatchResult found P (λ why. r ≡ 0) → ((m : Measures) → P m → r ≡ p + 1 + m.bytes)
              → r ≡ part_at input known end p j
          part_read r P given counted = by found refl
            where
              by : (a : Answer Measures Refused) → found ≡ a → r ≡ part_at input known end p j
              by (Ok m) e = counted m (MatchResult-at_ok P (λ why. r ≡ 0) m e given) ∙ part_right m e
              by (Err why) e = MatchResult-at_err P (λ why. r ≡ 0) why e given ∙ part_broken why e

          -- a tree ends within its bytes
          pub part_within : (m : Measures) → found ≡ Ok m → m.bytes ≤ length after
          part_within m e = end_within after (measured m) (sym read ∙ ap tree_result e)

pub ruleset parts = (part_past, part_left, part_known, part_broken, part_right)

-- ---- `offset_of`

module _ (T input : List ℕ) (own known end : ℕ) where
  -- The offset of a code, and the code of the tree that its Case looks at.
  abbrev offset : ℕ → ℕ
  offset = tree_offset T input own known end

  abbrev outer_of : ℕ → ℕ
  outer_of code = tree_at T ((code - 1) / 2)

  -- ---- a number of steps

  within_own : (n code : ℕ) → code ≡ 0 → offset_within T input own known end n code ≡ own
  unfolding offset_within
  within_own zero code e = refl
  within_own (suc n) code e = simp (offset_within, eq-eqb _ _ e)

  within_none : (n code : ℕ) → code ≢ 0 → code ≤ outer_of code → offset_within T input own known end (suc n) code ≡ 0
  unfolding offset_within
  within_none n code some large = simp (offset_within, ne_eqb _ _ some, le-leb _ _ large)

  within_part : (n code : ℕ) → code ≢ 0 → outer_of code < code
      → offset_within T input own known end (suc n) code ≡ part_at input known end (offset_within T input own known end n (outer_of code)) (code - 1)
  unfolding offset_within
  within_part n code some small = simp (offset_within, ne_eqb _ _ some, lt-leb _ _ small)

  -- more steps than the code make no difference
  enough : (n m code : ℕ) → code ≤ n → code ≤ m → offset_within T input own known end n code ≡ offset_within T input own known end m code
  enough zero m code a b = within_own zero code (omega arith) ∙ sym (within_own m code (omega arith))
  enough (suc n) zero code a b = within_own (suc n) code (omega arith) ∙ sym (within_own zero code (omega arith))
  enough (suc n) (suc m) code a b =
      elim (dec_le code 0) [
        | yes z ↦ within_own (suc n) code (omega arith) ∙ sym (within_own (suc m) code (omega arith))
        | no h ↦
            let some : code ≢ 0 = λ e. absurd (omega arith) in
            elim (dec_le code (outer_of code)) [
              | yes large ↦ within_none n code some large ∙ sym (within_none m code some large)
              | no small ↦
                  let less : outer_of code < code = omega arith in
                  within_part n code some less
                  ∙ ap (λ q. part_at input known end q (code - 1)) (enough n m (outer_of code) (omega arith) (omega arith))
                  ∙ sym (within_part m code some less)
            ]
      ]

  -- the offset of a branch, from that of its node
  step : (code : ℕ) → code ≢ 0 → outer_of code < code → offset code ≡ part_at input known end (offset (outer_of code)) (code - 1)
  step zero some small = absurd (some refl)
  step (suc n) some small =
      within_part n (suc n) some small
      ∙ ap (λ q. part_at input known end q (suc n - 1)) (enough n (outer_of (suc n)) (outer_of (suc n)) (omega arith) (omega arith))

  none : (code : ℕ) → code ≢ 0 → code ≤ outer_of code → offset code ≡ 0
  none zero some large = absurd (some refl)
  none (suc n) some large = within_none n (suc n) some large

  module _ (code : ℕ) where
    pub offset_own : code ≡ 0 → own ≡ offset code
    offset_own e = sym (within_own code code e)

    module _ (outer : ℕ) (some : code ≢ 0) (is : outer ≡ outer_of code) where
      pub offset_none : code ≤ outer → 0 ≡ offset code
      offset_none large = sym (none code some (rw is at large))

      module _ (small : outer < code) (node : ℕ) (at : node ≡ offset outer) where
        pub offset_part : (r : ℕ) → r ≡ part_at input known end node (code - 1) → r ≡ offset code
        offset_part r e = e ∙ sym (step code some (rw is at small) ∙ ap (λ q. part_at input known end q (code - 1)) (ap offset (sym is) ∙ sym at))

pub ruleset placed = (offset_own, offset_none, offset_part)

-- ---- `named_offset`

pub offset_named : (T input : List ℕ) (own known end code tree r : ℕ) → code ≡ tree → r ≡ tree_offset T input own known end code → r ≡ tree_offset T input own known end tree
offset_named T input own known end code tree r e at = at ∙ ap (tree_offset T input own known end) e

pub ruleset named_trees = (offset_named)

-- ---- where the steps find it

module _ (T input : List ℕ) (s : State) where
  -- The offset in the state's frame.
  abbrev pub offset_in : ℕ → ℕ
  offset_in = tree_offset T input s.tree s.known s.end

  -- a branch, from its node
  found_part : (c p code j : ℕ) → code ≡ suc j → j / 2 ≡ c → 2 * c < code → tree_at T c < suc (2 * c) → offset_in (tree_at T c) ≡ p
      → offset_in code ≡ part_at input s.known s.end p j
  found_part c p code j next half more small is =
      let back : code - 1 ≡ j = omega arith in
      let outer : tree_at T ((code - 1) / 2) ≡ tree_at T c = ap (λ i. tree_at T (i / 2)) back ∙ ap (tree_at T) half in
      step T input s.tree s.known s.end code (λ e. absurd (omega arith)) (omega arith)
      ∙ ap (λ q. part_at input s.known s.end q (code - 1)) (ap offset_in outer ∙ is)
      ∙ ap (part_at input s.known s.end p) back

  pub found_offset : {code p : ℕ} → Found T input s code p → offset_in code ≡ p
  unfolding after_tree
  found_offset the_own = within_own T input s.tree s.known s.end 0 0 refl
  found_offset (the_left c p small there f) =
      found_part c p (suc (2 * c)) (2 * c) refl (omega arith) (omega arith) small (found_offset f)
      ∙ sym (part_left input s.known s.end p (2 * c) there (omega arith))
      ∙ add-one p
  found_offset (the_right c p n small there f other ends) =
      found_part c p (suc (suc (2 * c))) (suc (2 * c)) refl (omega arith) (omega arith) small (found_offset f)
      ∙ part_sought input s.known s.end p (suc (2 * c)) there (λ e. absurd (omega arith)) (λ e. other (sym (add-one p) ∙ e))
      ∙ ap (after_tree (suc p)) ends
  found_offset (the_known c p small there f known) =
      found_part c p (suc (suc (2 * c))) (suc (2 * c)) refl (omega arith) (omega arith) small (found_offset f)
      ∙ sym (part_known input s.known s.end p (suc (2 * c)) there (λ e. absurd (omega arith)) (add-one p ∙ known))
