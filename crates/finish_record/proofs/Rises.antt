-- A record is finished: a law for each way out of the functions.
use Prim.Native.Nat.{ℕ, suc, ◌+◌, ◌-◌, ◌*◌, ◌/◌, ◌%◌, ◌≤◌, ◌<◌}
use mathlib.Core.Bool.{Bool, true, false, ◌&&◌}
use mathlib.Core.List.{List}
use mathlib.Core.Logic.{◌≢◌}
use mathlib.Core.Path.{◌≡◌, refl, sym, ap, ◌∙◌}
use native.Mathlib.Numerals.{add-one}
use native.Mathlib.Decide.{dec_le}
use native.Mathlib.Omega.{arith}
use borrow.Author.Tests.{eq-eqb, ne_eqb, lt-ltb, le-ltb}
use lib.Dec.{eqb, ltb}
use lib.ListN.{length, get_or, set}
use Rattle.formats.specs.Arithmetic.{plus, result_of}
use Rattle.formats.specs.Tokens.{node_tag}
use Rattle.stepwise.specs.Inner.Rows.{tested}
use Rattle.stepwise.specs.Inner.Steps.{tree_at, role_at, parent_at, slot_at, after_at, frame_words, on_right, known_after}
use Rattle.stepwise.proofs.Steps.{closes_first, closes_waiting, computes_result, computes_none, rises_whole, rises_kept, rises_added, rises_zero, rises_other, rises_passed, rises_labelled, rises_followed, rises_on, follows_last}
use Rattle.std.specs.Prelude.{Option, Some, None}
use Rattle.numbers.specs.Inner.Sums.{word_in}
use Rattle.frames.specs.declared.Role.{Role}
use Rattle.frames.specs.declared.Role.TheVariants.{Whole, Kept, Added, Tested, Passed, Labelled, Followed, LastArgument}
use Rattle.frames.specs.Inner.Named.{role_of_number}
use Rattle.frames.proofs.Named.{RoleSays, role_says}
use Rattle.stages.specs.declared.Stage.{Stage}
use Rattle.stages.specs.declared.StageInNumbers.{StageInNumbers}
use Rattle.stages.specs.declared.Next.TheVariants.{Begin, Finished, Open, Ended, Broken}
use Rattle.stages.specs.Inner.Stages.{state_of, staged, stage_of, words_of, returns_of}
use Rattle.stages.specs.Inner.InNumbers.{numbers_of, with_next}
use Rattle.stages.proofs.InNumbers.{same_step}
use Rattle.stages.proofs.Stages.{reach_begin, reach_finished, reach_ended, reach_broken, put_begin, put_open}
use Rattle.finish_record.specs.Inner.Rises.{Knows, Closes, Adds, Picks, Rises}
use Rattle.finish_record.specs.Inner.InNumbers.{Rises as RisesInNumbers}

-- ---- `on_right`, `known_after`

-- both tests hold, or one does not
both_true : {a b : Bool} → a ≡ true → b ≡ true → (a && b) ≡ true
both_true e f = rw (e, f)

first_false : (a b : Bool) → a ≡ false → (a && b) ≡ false
first_false a b e = rw e

then_false : (a b : Bool) → b ≡ false → (a && b) ≡ false
then_false true b e = e
then_false false b e = refl

module _ (T input : List ℕ) (r own code : ℕ) (is : code ≡ tree_at T r) where
  -- the tests after the first and the second
  abbrev deeper : Bool
  deeper = ltb own (length input) && eqb (get_or input own 0) node_tag

  pub right_odd : code % 2 ≢ 0 → false ≡ on_right T input r own
  unfolding on_right
  right_odd h = sym (rw (on_right, ← is) (first_false (eqb (code % 2) 0) _ (ne_eqb _ _ h)))

  pub right_own : code ≡ 0 → false ≡ on_right T input r own
  unfolding on_right
  right_own e =
      sym (rw (on_right, ← is) (then_false (eqb (code % 2) 0) _ (first_false (ltb 0 code) _ (le-ltb 0 code (omega arith)))))

  module _ (outer : ℕ) (inner : outer ≡ tree_at T ((code - 1) / 2)) where
    pub right_deeper : outer ≢ 0 → false ≡ on_right T input r own
    unfolding on_right
    right_deeper h =
        sym
        (rw (on_right, ← is, ← inner)
        (then_false (eqb (code % 2) 0) _ (then_false (ltb 0 code) _ (first_false (eqb outer 0) deeper (ne_eqb _ _ h)))))

    pub right_past : length input ≤ own → false ≡ on_right T input r own
    unfolding on_right
    right_past h =
        sym
        (rw (on_right, ← is, ← inner)
        (then_false (eqb (code % 2) 0) _ (then_false (ltb 0 code) _ (then_false (eqb outer 0) deeper (first_false (ltb own (length input)) _ (le-ltb _ _ h))))))

    pub right_tag : code % 2 ≡ 0 → code ≢ 0 → outer ≡ 0 → own < length input → eqb (get_or input own 0) node_tag ≡ on_right T input r own
    unfolding on_right
    right_tag even some none there =
        let first : eqb (code % 2) 0 ≡ true = eq-eqb _ _ even in
        let second : ltb 0 code ≡ true = lt-ltb 0 code (omega arith) in
        let third : eqb outer 0 ≡ true = eq-eqb _ _ none in
        let fourth : ltb own (length input) ≡ true = lt-ltb _ _ there in
        sym (rw (on_right, ← is, ← inner, first, second, third, fourth))

pub ruleset rights = (right_odd, right_own, right_deeper, right_past, right_tag)

module _ (T input : List ℕ) (r own : ℕ) (s : Stage) where
  pub knows_other : s.known ≢ s.tree → Knows T input r own s s.known
  unfolding known_after
  knows_other h =
      record {
        is = λ values returns.
            let none : (eqb s.known s.tree && on_right T input r own) ≡ false = first_false _ (on_right T input r own) (ne_eqb _ _ h) in
            sym (rw (known_after, none));
      }

  module _ (same : s.known ≡ s.tree) (b : Bool) (is : b ≡ on_right T input r own) where
    pub knows_node : b ≡ true → Knows T input r own s own
    unfolding known_after
    knows_node e =
        record {
          is = λ values returns.
              let both : (eqb s.known s.tree && on_right T input r own) ≡ true = both_true (eq-eqb _ _ same) (sym is ∙ e) in
              sym (rw (known_after, both));
        }

    pub knows_still : b ≡ false → Knows T input r own s s.known
    unfolding known_after
    knows_still e =
        record {
          is = λ values returns.
              let none : (eqb s.known s.tree && on_right T input r own) ≡ false = then_false (eqb s.known s.tree) _ (sym is ∙ e) in
              sym (rw (known_after, none));
        }

pub ruleset knowing = (knows_other, knows_node, knows_still)

-- ---- `close`

module _ (T input returns : List ℕ) (x : ℕ) (s : Stage) where
  pub close_first : (t : Stage) → s.calls ≡ 0 → t ≡ staged s (Ended x) → Closes T input returns x s t
  close_first t none e =
      rw e
      (record { is = λ values. rw (closes_first T input x (state_of values returns s) none) (reach_ended values returns s x) })

  pub close_waiting :
      (a b k : ℕ)
      → s.calls ≢ 0
      → a ≡ get_or returns (2 * (s.calls - 1)) 0
      → b ≡ get_or returns (2 * (s.calls - 1) + 1) 0
      → Knows T input (a % 65536) b s k
      → Closes T input returns x s
      (record {
        next = Finished (a % 65536) x;
        calls = s.calls - 1;
        tree = b;
        known = k;
        end = s.end;
        written = s.written;
      })
  unfolding stage_of words_of returns_of
  close_waiting a b k some ea eb knows =
      let n = s.calls - 1 in
      let later : s.calls ≡ suc n = omega arith in
      let there : b ≡ get_or returns (suc (2 * n)) 0 = eb ∙ ap (λ i. get_or returns i 0) (add-one (2 * n)) in
      record {
        is = λ values.
            rw (knows.is values returns, there, ea, closes_waiting T input x n (state_of values returns s) later)
            (record { stage = refl; words = refl; returns_are = refl; words_long = refl; returns_long = refl });
      }

pub ruleset closes = (close_first, close_waiting)

-- ---- `keep`, `add_kept`

module _ (l : List ℕ) (base slot f : ℕ) (is : f ≡ slot) where
  pub slot_put : (k : List ℕ) (x : ℕ) → k ≡ set l (base + f) x → k ≡ set l (base + slot) x
  slot_put k x e = e ∙ ap (λ j. set l (base + j) x) is

pub ruleset slots = (slot_put)

module _ (T values : List ℕ) (r x : ℕ) (s t : Stage) (f left parent : ℕ) (sum : Option ℕ) (slot : f ≡ slot_at T r)
    (word : left ≡ get_or values (frame_words * s.calls + f) 0)
    (above : parent ≡ parent_at T r)
    (is_sum : word_in sum ≡ result_of plus left x)
  where
    -- the sum is of the number kept
    kept_word : left ≡ get_or values (frame_words * s.calls + slot_at T r) 0
    kept_word = word ∙ ap (λ j. get_or values (frame_words * s.calls + j) 0) slot

    pub adds_word : (w : ℕ) → sum ≡ Some w → t ≡ staged s (Finished parent w) → Adds T values r x s t
    adds_word w case e =
        rw (e, above)
        (record {
          is = λ returns.
              rw (
                ← kept_word,
                computes_result plus left x (parent_at T r) (state_of values returns s) w (sym is_sum ∙ ap word_in case),
              )
              (reach_finished values returns s (parent_at T r) w);
        })

    pub adds_none : sum ≡ None → t ≡ staged s (Broken parent) → Adds T values r x s t
    adds_none case e =
        rw (e, above)
        (record {
          is = λ returns.
              rw (
                ← kept_word,
                computes_none plus left x (parent_at T r) (state_of values returns s) (sym is_sum ∙ ap word_in case),
              )
              (reach_broken values returns s plus left x (parent_at T r));
        })

pub ruleset additions = (adds_word, adds_none)

-- ---- `picked`

module _ (T : List ℕ) (r x : ℕ) where
  pub pick_zero : (b : ℕ) → b ≡ after_at T r → x ≡ 0 → Picks T r x b
  pick_zero b eb z = record { zero_part = λ z. eb; other_part = λ o. absurd (o z) }

  pub pick_other : (b c : ℕ) → b ≡ after_at T r → x ≢ 0 → c ≡ after_at T b → Picks T r x c
  pick_other b c eb o ec = record { zero_part = λ z. absurd (o z); other_part = λ o. ec ∙ ap (after_at T) eb }

pub ruleset picks = (pick_zero, pick_other)

-- ---- `rise`

module _ (T input values returns : List ℕ) (r x : ℕ) (s : Stage) (k : Role) (role : k ≡ role_of_number (role_at T r)) where
  says : (b : Role) → k ≡ b → RoleSays b (role_at T r)
  says b is = role_says (role_at T r) k b role is

  pub rise_whole : (t : Stage) → k ≡ Whole → Closes T input returns x s t → Rises T input values values returns r x s t
  rise_whole t is closed =
      record { is = rw (rises_whole T input r x (state_of values returns s) (says Whole is)) (closed.is values) }

  pub rise_kept :
      (b : ℕ) (values' : List ℕ) (t : Stage)
      → k ≡ Kept
      → values' ≡ set values (frame_words * s.calls + slot_at T r) x
      → b ≡ after_at T r
      → t ≡ staged s (Begin b)
      → Rises T input values values' returns r x s t
  rise_kept b values' t is put eb e =
      rw (e, eb, put)
      (record {
        is =
            rw (rises_kept T input r x (state_of values returns s) (says Kept is))
            (put_begin values returns s (frame_words * s.calls + slot_at T r) x (after_at T r));
      })

  pub rise_added : (t : Stage) → k ≡ Added → Adds T values r x s t → Rises T input values values returns r x s t
  rise_added t is adds =
      record { is = rw (rises_added T input r x (state_of values returns s) (says Added is)) (adds.is returns) }

  pub rise_tested : (b : ℕ) (t : Stage) → k ≡ Tested → Picks T r x b → t ≡ staged s (Begin b) → Rises T input values values returns r x s t
  rise_tested b t is picks e =
      let at : role_at T r ≡ tested = says Tested is in
      rw e
      (record {
        is =
            elim (dec_le x 0) [
              | yes z ↦
                  let none : x ≡ 0 = omega arith in
                  rw (picks.zero_part none, rises_zero T input r x (state_of values returns s) at none)
                  (reach_begin values returns s (after_at T r))
              | no o ↦
                  let some : x ≢ 0 = λ e. absurd (omega arith) in
                  rw (picks.other_part some, rises_other T input r x (state_of values returns s) at some)
                  (reach_begin values returns s (after_at T (after_at T r)))
            ];
      })

  pub rise_followed : (b : ℕ) (t : Stage) → k ≡ Followed → b ≡ after_at T r → t ≡ staged s (Begin b) → Rises T input values values returns r x s t
  rise_followed b t is eb e =
      rw (e, eb)
      (record {
        is =
            rw (rises_followed T input r x (state_of values returns s) (says Followed is))
            (reach_begin values returns s (after_at T r));
      })

  module _ (p : ℕ) (above : p ≡ parent_at T r) where
    pub rise_passed : (t : Stage) → k ≡ Passed → t ≡ staged s (Finished p x) → Rises T input values values returns r x s t
    rise_passed t is e =
        rw (e, above)
        (record {
          is =
              rw (rises_passed T input r x (state_of values returns s) (says Passed is))
              (reach_finished values returns s (parent_at T r) x);
        })

    pub rise_labelled : (t : Stage) → k ≡ Labelled → t ≡ staged s (Finished p 0) → Rises T input values values returns r x s t
    rise_labelled t is e =
        rw (e, above)
        (record {
          is =
              rw (rises_labelled T input r x (state_of values returns s) (says Labelled is))
              (reach_finished values returns s (parent_at T r) 0);
        })

    pub rise_last :
        (values' : List ℕ) (t : Stage)
        → k ≡ LastArgument
        → values' ≡ set values (frame_words * s.calls + slot_at T r) x
        → t ≡ staged s (Open p)
        → Rises T input values values' returns r x s t
    rise_last values' t is put e =
        let no = says LastArgument is in
        rw (e, above, put)
        (record {
          is =
              rw (
                rises_on T input r x (state_of values returns s) no.0 no.1 no.2 no.3,
                follows_last T r x (state_of values returns s) no.4 no.5 no.6,
              )
              (put_open values returns s (frame_words * s.calls + slot_at T r) x (parent_at T r));
        })

pub ruleset risings = (
  rise_whole,
  rise_kept,
  rise_added,
  rise_tested,
  rise_followed,
  rise_passed,
  rise_labelled,
  rise_last,
)

-- ---- `rise_in_numbers`

module _ (T input values values' returns : List ℕ) (s : StageInNumbers) where
  pub numbers_risen :
      (f t : Stage) (b : StageInNumbers)
      → f ≡ with_next s (Finished s.node s.number)
      → Rises T input values values' returns s.node s.number f t
      → b ≡ numbers_of t
      → RisesInNumbers T input values values' returns s b
  numbers_risen f t b from risen e =
      let there : Rises T input values values' returns s.node s.number (with_next s (Finished s.node s.number)) t = rw (← from) risen in
      rw e (record { is = same_step _ values values' returns returns s (Finished s.node s.number) t refl there.is })

pub ruleset rise_numbers = (numbers_risen)
