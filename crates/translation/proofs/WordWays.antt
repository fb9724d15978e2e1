-- Word counts along the code of an expression. `words_of` is the most words that stand while the
-- expression is taken; in its code:
--
-- - a way leads through it, and leaves the word of a number (`finished`), so a count of `words_of`
--   or more is reached (`most_reached`);
-- - where `words_of` is at most 16, and so is every count on the ways from the address after it,
--   every count on the ways from its first address is at most 16 (`all_safe`).
--
-- Both by induction on the expression's parts with their code. A jump leads to the address after
-- the code that it stands in, and a call to the address after itself, so a way through the code is
-- made of ways through its parts.
use Prim.Native.Nat.{ℕ, suc, pred, ◌+◌, ◌≤◌, max}
use mathlib.Core.Option.{some, some-injective}
use mathlib.Core.Path.{◌≡◌, refl, sym, ◌∙◌}
use native.Mathlib.Decide.{dec_le}
use native.Mathlib.Nat.{zero-add, suc-add, add-suc, le_refl, le_trans}
use native.Mathlib.Omega.{arith}
use Rattle.formats.specs.Records.{nth}
use Rattle.formats.specs.Programs.{Expr, call as call_of, Args, count_args, Sort, number_valued, tree_valued, Function, signature_of, Program, signatures}
use Rattle.formats.proofs.Records.{nth_mapped}
use Rattle.rules.specs.PassOne.{words_with_value, words_of, words_of_args}
use Rattle.rules.specs.Limits.{most_frame_words}
use Rattle.rules.proofs.Words.{words_call}
use Rattle.meaning.specs.Instructions.{Operation, Push, Get, Compute, Ifnot, Jump, Slide, Drop, LeafTag, NodeTag}
use Rattle.meaning.specs.Instructions.{WriteNumber, ReadTag, ReadNumber, Call, Return}
use Rattle.translation.specs.Templates.{end_of, words_kept, entry_of}
use Rattle.translation.specs.CodeLimits.{Leaves, MovesWords, by_push, by_get, by_compute, by_ifnot_zero, by_ifnot_other, by_jump, by_slide, by_drop, by_leaf_tag, by_node_tag}
use Rattle.translation.specs.CodeLimits.{by_write_number, by_read_leaf, by_read_node, by_read_number, by_call, WordsStand, onward}
use Rattle.translation.proofs.CodeStands.{Holds, one_function}
use Rattle.translation.proofs.Coded.{Coded, coded_const, coded_var, coded_compute, coded_if_zero, coded_let, coded_leaf}
use Rattle.translation.proofs.Coded.{coded_node, coded_case, coded_call, coded_none, coded_arg}

module _ (program : Program) where
  -- ---- a way through

  -- "end" takes away the word of a name, from under the value
  end_leads : (s : Sort) (a w : ℕ) → MovesWords program (end_of s) a (words_with_value s (suc w)) (suc a) (words_with_value s w)
  unfolding end_of words_with_value
  end_leads number_valued a w = by_slide
  end_leads tree_valued a w = by_drop

  -- a call leaves its function's value in place of the arguments
  kept_value : (s : Sort) (w : ℕ) → words_kept s + w ≡ words_with_value s w
  unfolding words_kept words_with_value
  kept_value number_valued w = omega arith
  kept_value tree_valued w = zero-add w

  call_leads : (n k a w : ℕ) (f : Function) → nth program.functions k ≡ some f
      → MovesWords program (Call (entry_of program k) n) a (n + w) (suc a) (words_with_value f.sort w)
  call_leads n k a w f known =
      rw (← kept_value f.sort w) (by_call w (record { index = k; function = f; known = known; begins = refl; kept = refl }))

  -- from the code's first address a way leads after it, with the value's word; after arguments,
  -- with a word for each
  finished : {s : Sort} {e : Expr} {a b : ℕ} → Coded program s e a b → (w : ℕ) → WordsStand program a w → WordsStand program b (words_with_value s w)
  unfolding words_with_value count_args
  finished d = elim d
      as (λ s e a b d. (w : ℕ) → WordsStand program a w → WordsStand program b (words_with_value s w))
      (λ xs a b d. (w : ℕ) → WordsStand program a w → WordsStand program b (count_args xs + w)) [
        | coded_const h ↦ λ w here. onward here h by_push
        | coded_var h ↦ λ w here. onward here h by_get
        | coded_compute (d₁ → p) (d₂ → q) h ↦ λ w here. onward (q (suc w) (p w here)) h by_compute
        | coded_if_zero (d₀ → t) h (d₁ → z) k (d₂ → o) ↦ λ w here. onward (z w (onward (t w here) h by_ifnot_zero)) k by_jump
        | coded_let {s = s} (d₁ → p) (d₂ → body) h ↦ λ w here. onward (body (suc w) (p w here)) h (end_leads s _ w)
        | coded_leaf h (d → p) k ↦ λ w here. onward (p w (onward here h by_leaf_tag)) k by_write_number
        | coded_node h (d₁ → p) (d₂ → q) ↦ λ w here. q w (p w (onward here h by_node_tag))
        | coded_case {s = s} h i (d₁ → p) j k (d₂ → q) ↦ λ w here.
            onward (onward (p (suc w) (onward (onward here h by_read_leaf) i by_read_number)) j (end_leads s _ w)) k by_jump
        | coded_call {k = k} {f = f} known (ds → args) h ↦ λ w here. onward (args w here) h (call_leads _ k _ w f known)
        | coded_none ↦ λ w here. rw zero-add here
        | coded_arg (d → x) (ds → xs) ↦ λ w here. rw (suc-add, ← add-suc) (xs (suc w) (x w here))
      ]

  -- ---- the most words are reached

  -- A count of k or more stands at some address.
  pub record Reached (k : ℕ) : Type 0 where
    pub address : ℕ
    pub count : ℕ
    pub stands : WordsStand program address count
    pub enough : k ≤ count

  -- what stands is reached, and of two counts the greater
  reached_here : {a w : ℕ} → WordsStand program a w → Reached w
  reached_here here = record { address = _; count = _; stands = here; enough = le_refl _ }

  reached_both : (j k : ℕ) → Reached j → Reached k → Reached (max j k)
  reached_both j k r u = elim (dec_le j k) [
    | yes h ↦ record { address = u.address; count = u.count; stands = u.stands; enough = omega (arith, u.enough) }
    | no h ↦ record { address = r.address; count = r.count; stands = r.stands; enough = omega (arith, r.enough) }
  ]

  -- the most words of a Call: those of its function's value, or of its arguments
  pub call_words : (w v k : ℕ) (xs : Args) (f : Function) → nth program.functions k ≡ some f
      → words_of (signatures program) w (call_of v k xs) ≡ max (words_with_value f.sort w) (words_of_args (signatures program) w xs)
  unfolding signature_of
  call_words w v k xs f known = words_call (signatures program) w v k xs (signature_of f) (nth_mapped signature_of program.functions k f known)

  -- the most words of an expression are reached from its code's first address
  pub most_reached : {s : Sort} {e : Expr} {a b : ℕ} → Coded program s e a b → (w : ℕ) → WordsStand program a w
      → Reached (words_of (signatures program) w e)
  unfolding words_of words_with_value
  most_reached d = elim d
      as (λ s e a b d. (w : ℕ) → WordsStand program a w → Reached (words_of (signatures program) w e))
      (λ xs a b d. (w : ℕ) → WordsStand program a w → Reached (words_of_args (signatures program) w xs)) [
        | coded_const h ↦ λ w here. reached_here (onward here h by_push)
        | coded_var h ↦ λ w here. reached_here (onward here h by_get)
        | coded_compute (d₁ → p) (d₂ → q) h ↦ λ w here. reached_both _ _ (p w here) (q (suc w) (finished d₁ w here))
        | coded_if_zero (d₀ → t) h (d₁ → z) k (d₂ → o) ↦ λ w here.
            let tested = finished d₀ w here in
            reached_both _ _ (t w here) (reached_both _ _ (z w (onward tested h by_ifnot_zero)) (o w (onward tested h by_ifnot_other)))
        | coded_let (d₁ → p) (d₂ → body) h ↦ λ w here. reached_both _ _ (p w here) (body (suc w) (finished d₁ w here))
        | coded_leaf h (d → p) k ↦ λ w here. p w (onward here h by_leaf_tag)
        | coded_node h (d₁ → p) (d₂ → q) ↦ λ w here.
            let begun = onward here h by_node_tag in
            reached_both _ _ (p w begun) (q w (finished d₁ w begun))
        | coded_case h i (d₁ → p) j k (d₂ → q) ↦ λ w here.
            reached_both _ _ (p (suc w) (onward (onward here h by_read_leaf) i by_read_number)) (q w (onward here h by_read_node))
        | coded_call {v = v} {k = k} {f = f} {xs = xs} known (ds → args) h ↦ λ w here.
            rw (call_words w v k xs f known) (reached_both _ _ (reached_here (finished (coded_call {v = v} known ds h) w here)) (args w here))
        | coded_none ↦ λ w here. reached_here here
        | coded_arg (d → x) (ds → xs) ↦ λ w here. reached_both _ _ (x w here) (xs (suc w) (finished d w here))
      ]

  -- ---- no count exceeds the most words

  -- With w words at address a, no count on any way from there exceeds 16.
  pub data Safe : (a w : ℕ) → Type 0 where
    safe : {a w : ℕ} → w ≤ most_frame_words → ((op : Operation) (b v : ℕ) → Holds program a op → MovesWords program op a w b v → Safe b v) → Safe a w

  -- so not there, and not where its instruction leads
  pub safe_few : {a w : ℕ} → Safe a w → w ≤ most_frame_words
  safe_few (safe few next) = few

  pub safe_next : {a w b v : ℕ} {op : Operation} → Safe a w → Holds program a op → MovesWords program op a w b v → Safe b v
  safe_next (safe few next) h lead = next _ _ _ h lead

  -- What is to be shown of an instruction at address a with w words: it is safe wherever it leads.
  abbrev SafeAfter : Operation → (a w : ℕ) → Type 0
  SafeAfter (Push i) a w = Safe (suc a) (suc w)
  SafeAfter (Get k) a w = Safe (suc a) (suc w)
  SafeAfter (Compute op) a w = Safe (suc a) (pred w)
  SafeAfter (Ifnot b) a w = Safe (suc a) (pred w) × Safe b (pred w)
  SafeAfter (Jump b) a w = Safe b w
  SafeAfter Slide a w = Safe (suc a) (pred w)
  SafeAfter Drop a w = Safe (suc a) (pred w)
  SafeAfter LeafTag a w = Safe (suc a) w
  SafeAfter NodeTag a w = Safe (suc a) w
  SafeAfter WriteNumber a w = Safe (suc a) (pred w)
  SafeAfter (ReadTag b) a w = Safe (suc a) w × Safe b w
  SafeAfter ReadNumber a w = Safe (suc a) (suc w)
  SafeAfter (Call b n) a w = (u k : ℕ) → w ≡ n + u → Leaves program b k → Safe (suc a) (k + u)
  SafeAfter (Return k) a w = Unit {0}

  safe_after : {op : Operation} {a w b v : ℕ} → MovesWords program op a w b v → SafeAfter op a w → Safe b v
  safe_after by_push h = h
  safe_after by_get h = h
  safe_after by_compute h = h
  safe_after by_ifnot_zero h = h.0
  safe_after by_ifnot_other h = h.1
  safe_after by_jump h = h
  safe_after by_slide h = h
  safe_after by_drop h = h
  safe_after by_leaf_tag h = h
  safe_after by_node_tag h = h
  safe_after by_write_number h = h
  safe_after by_read_leaf h = h.0
  safe_after by_read_node h = h.1
  safe_after by_read_number h = h
  safe_after (by_call u leaves) h = h u _ refl leaves

  -- so it is safe at the instruction's own address
  pub safe_at : {a w : ℕ} {op : Operation} → Holds program a op → w ≤ most_frame_words → SafeAfter op a w → Safe a w
  safe_at {op = op} h few after = safe few (λ op' b v k lead. safe_after (rw (some-injective op' op (sym k ∙ h)) at lead) after)

  -- after "end" a value's words are left
  end_safe : (s : Sort) (a w : ℕ) → Safe (suc a) (words_with_value s w) → SafeAfter (end_of s) a (words_with_value s (suc w))
  unfolding end_of words_with_value
  end_safe number_valued a w h = h
  end_safe tree_valued a w h = h

  -- .. no more than stood before it
  value_grows : (s : Sort) (w : ℕ) → words_with_value s w ≤ words_with_value s (suc w)
  unfolding words_with_value
  value_grows number_valued w = omega arith
  value_grows tree_valued w = omega arith

  -- after a call the words of its function's value are left, since no other function begins at its
  -- entry
  call_safe : (k : ℕ) (f : Function) → nth program.functions k ≡ some f → (n a w : ℕ) → Safe (suc a) (words_with_value f.sort w)
      → SafeAfter (Call (entry_of program k) n) a (n + w)
  call_safe k f known n a w h u j many leaves =
      let same : leaves.function ≡ f = one_function program leaves.index k leaves.function f leaves.known known leaves.begins in
      let kept : words_kept f.sort ≡ j = rw same at leaves.kept in
      let left : j + u ≡ words_with_value f.sort w = omega (arith, kept_value f.sort w) in
      rw left h

  -- It is safe there, if those words are few.
  abbrev SafeIfFew : (a w : ℕ) → Type 0
  SafeIfFew a w = w ≤ most_frame_words → Safe a w

  -- where the most words are few, and it is safe after the code, it is safe from its first address
  -- on
  pub all_safe :
      {s : Sort} {e : Expr} {a b : ℕ}
      → Coded program s e a b
      → (w : ℕ)
      → words_of (signatures program) w e ≤ most_frame_words
      → SafeIfFew b (words_with_value s w)
      → Safe a w
  unfolding words_of words_with_value count_args
  all_safe d = elim d
      as (λ s e a b d. (w : ℕ) → words_of (signatures program) w e ≤ most_frame_words → SafeIfFew b (words_with_value s w) → Safe a w)
      (λ xs a b d. (w : ℕ) → words_of_args (signatures program) w xs ≤ most_frame_words → SafeIfFew b (count_args xs + w) → Safe a w) [
        | coded_const h ↦ λ w few end. safe_at h (omega arith) (end few)
        | coded_var h ↦ λ w few end. safe_at h (omega arith) (end few)
        | coded_compute (d₁ → p) (d₂ → q) h ↦ λ w few end.
            p w (omega arith) λ one. q (suc w) (omega arith) λ two. safe_at h two (end one)
        | coded_if_zero (d₀ → t) h (d₁ → z) k (d₂ → o) ↦ λ w few end.
            t w (omega arith) λ one. safe_at h one (z w (omega arith) (λ value. safe_at k value (end value)), o w (omega arith) end)
        | coded_let {s = s} (d₁ → p) (d₂ → body) h ↦ λ w few end.
            p w (omega arith) λ one. body (suc w) (omega arith) λ both. safe_at h both (end_safe s _ w (end (le_trans (value_grows s w) both)))
        | coded_leaf h (d → p) k ↦ λ w few end.
            let number = p w few (λ one. safe_at k one (end (omega arith))) in
            safe_at h (safe_few number) number
        | coded_node h (d₁ → p) (d₂ → q) ↦ λ w few end.
            let parts = p w (omega arith) (λ none. q w (omega arith) end) in
            safe_at h (safe_few parts) parts
        | coded_case {s = s} h i (d₁ → p) j k (d₂ → q) ↦ λ w few end.
            let leaf_part = p (suc w) (omega arith) (λ both.
            let value = le_trans (value_grows s w) both in safe_at j both (end_safe s _ w (safe_at k value (end value)))) in
            let node_part = q w (omega arith) end in
            safe_at h (safe_few node_part) (safe_at i (safe_few node_part) leaf_part, node_part)
        | coded_call {v = v} {k = k} {f = f} {xs = xs} known (ds → args) h ↦ λ w few end.
            let both : max (words_with_value f.sort w) (words_of_args (signatures program) w xs) ≤ most_frame_words = rw (call_words w v k xs f known) at few in
            args w (omega arith) λ given. safe_at h given (call_safe k f known _ _ w (end (omega arith)))
        | coded_none ↦ λ w few end. rw zero-add at (end (omega arith))
        | coded_arg (d → x) (ds → xs) ↦ λ w few end.
            x w (omega arith) λ one. xs (suc w) (omega arith) (rw (suc-add, ← add-suc) at end)
      ]
