-- A run rests on the bytes of its input that it has read or looked at, and on no others. Only two
-- instructions look at the input, one at a tag, one at a number; inputs that agree on the bytes
-- that these rest on say the same there. Bytes read only grow, so a run rests on what its last step
-- does.
use Prim.Native.Nat.{ℕ, zero, suc, ◌+◌, ◌≤◌, zero-le, min}
use mathlib.Core.Bool.{Bool, true, false}
use mathlib.Core.List.{List, [], ◌∷◌}
use mathlib.Core.Option.{Option, none, some}
use mathlib.Core.Path.{◌≡◌, refl, sym, ap, ap₂, ◌∙◌}
use native.Mathlib.Decide.{dec_le}
use native.Mathlib.Nat.{zero-add, suc-add, le_refl, le-add_right}
use native.Mathlib.Omega.{arith}
use borrow.Author.Tests.{le-leb, lt-leb}
use lib.Dec.{leb, ltb}
use lib.ListN.{length, get_or, take, drop, length-take}
use lib.Seq.{get_or-take, take-take, take-nil}
use Rattle.formats.specs.Numbers.{number_of, number_at}
use Rattle.formats.specs.Refusals.{input_ended, cannot_perform}
use Rattle.formats.specs.Results.{refusal}
use Rattle.formats.specs.Tokens.{label_bytes, Tag, no_byte, a_leaf, a_node, other, tag_of, tag_at}
use Rattle.meaning.specs.Instructions.{Operation, Push, Get, Compute, Ifnot, Jump, Slide, Drop, LeafTag, NodeTag, WriteNumber, ReadTag, ReadNumber, Call, Return, operation_of}
use Rattle.meaning.specs.Performing.{Setting, State, to_next, holding, reading, words_standing, Step, goes, ends, refuses, if_room, push_word, write, on_tag, take_number, open_call, operate, perform, step}
use Rattle.meaning.specs.Running.{Run, after_performing, stopped, ended as returned, refused, run, answer_of, outcome_of}
use Rattle.meaning.specs.StreamRun.{looked_at, rests_on, Runs}

-- ---- buffers with the same opening

-- a part of an opening is a part of the buffer
drop_take : (p n : ℕ) (s : List ℕ) → drop p (take (p + n) s) ≡ take n (drop p s)
drop_take zero n s = ap (λ k. take k s) (zero-add n)
drop_take (suc p) n [] = rw suc-add (sym (take-nil n))
drop_take (suc p) n (x ∷ s) = rw suc-add (drop_take p n s)

module _ (a b : List ℕ) where
  -- what an opening decides is the same for both: ..
  reported : {A : Type 0} (j : ℕ) (f g : List ℕ → A) → ((s : List ℕ) → f (take j s) ≡ g s) → take j a ≡ take j b → g a ≡ g b
  reported j f g reports e = sym (reports a) ∙ ap f e ∙ reports b

  -- .. a shorter opening,
  opens_less : (j k : ℕ) → j ≤ k → take k a ≡ take k b → take j a ≡ take j b
  opens_less j k h = reported k (take j) (take j) (λ s. take-take j k s h)

  -- .. whether there are so many bytes,
  same_whole : (j : ℕ) → take j a ≡ take j b → leb j (length a) ≡ leb j (length b)
  same_whole j e =
      let both : min j (length a) ≡ min j (length b) = reported j length (λ s. min j (length s)) (length-take j) e in
      elim (dec_le j (length a)) [
        | yes h ↦ le-leb j (length a) h ∙ sym (le-leb j (length b) (omega arith))
        | no h ↦ lt-leb j (length a) (omega arith) ∙ sym (lt-leb j (length b) (omega arith))
      ]

  -- .. a tag, and a number
  same_tag : (p : ℕ) → take (suc p) a ≡ take (suc p) b → tag_at a p ≡ tag_at b p
  unfolding tag_at
  same_tag p e =
      ap₂ (λ t b. elim t [ true ↦ tag_of b | false ↦ no_byte ])
      (same_whole (suc p) e)
      (reported (suc p) (λ s. get_or s p 0) (λ s. get_or s p 0) (λ s. get_or-take (suc p) s p 0 (le_refl _)) e)

  same_number : (width p : ℕ) → take (p + width) a ≡ take (p + width) b → number_at width a p ≡ number_at width b p
  unfolding number_at
  same_number width p e =
      ap₂ (λ t bs. elim t [ true ↦ number_of bs | false ↦ 0 ])
      (same_whole (p + width) e)
      (reported (p + width) (drop p) (λ s. take width (drop p s)) (drop_take p width) e)

-- ---- one step

-- With another input.
abbrev pub given : List ℕ → Setting → Setting
given input m = record { holds = m.holds; input = input; space = m.space; most_words = m.most_words; most_open = m.most_open }

-- The opening bytes of the input that a step rests on.
abbrev pub rests : State → Step → ℕ
rests s (goes t) = t.read
rests s (ends number) = s.read
rests s (refuses number) = s.read + looked_at (refusal number s.read)

-- to look at a tag is to rest on it, whatever it is ..
tag_rests : (g : Tag) (a : ℕ) (s : State) → suc s.read ≤ rests s (on_tag g a s)
unfolding on_tag looked_at
tag_rests no_byte a s = omega arith
tag_rests a_leaf a s = omega arith
tag_rests a_node a s = omega arith
tag_rests other a s = omega arith

-- A number read, if it is whole.
abbrev number_read : State → Bool → ℕ → Step
number_read s whole x = elim whole [ true ↦ goes (to_next (reading label_bytes (holding (x ∷ s.frame) s))) | false ↦ refuses input_ended ]

-- .. and so with a number
number_rests : (m : Setting) (s : State) → s.read + label_bytes ≤ rests s (take_number m s)
unfolding take_number looked_at
number_rests m s = either (leb (s.read + label_bytes) (length m.input)) (number_at label_bytes m.input s.read)
  where
    either : (whole : Bool) (x : ℕ) → s.read + label_bytes ≤ rests s (number_read s whole x)
    either true x = le_refl _
    either false x = le_refl _

module _ (m : Setting) (input : List ℕ) (s : State) where
  -- If the other input agrees with the setting's on the bytes that this step rests on, that step is
  -- the same.
  abbrev pub Same : Step → Step → Type 0
  Same this that = take (rests s this) input ≡ take (rests s this) m.input → that ≡ this

  -- a number read
  read_same : Same (take_number m s) (take_number (given input m) s)
  unfolding take_number
  read_same e =
      let agree = opens_less input m.input (s.read + label_bytes) _ (number_rests m s) e in
      ap₂ (number_read s) (same_whole input m.input (s.read + label_bytes) agree) (same_number input m.input label_bytes s.read agree)

  -- steps after a test, and after what may be none
  same_test :
      (b : Bool) (this that : Step)
      → Same this that
      → Same (elim b [ true ↦ this | false ↦ refuses cannot_perform ]) (elim b [ true ↦ that | false ↦ refuses cannot_perform ])
  same_test true this that same e = same e
  same_test false this that same e = refl

  same_option :
      {A : Type 0} (o : Option A) (this that : A → Step)
      → ((x : A) → Same (this x) (that x))
      → Same (elim o [ some x ↦ this x | none ↦ refuses cannot_perform ]) (elim o [ some x ↦ that x | none ↦ refuses cannot_perform ])
  same_option (some x) this that same e = same x e
  same_option none this that same e = refl

  -- no other operation looks at the input
  operate_same : (op : Operation) → Same (operate m s op) (operate (given input m) s op)
  unfolding operate if_room push_word write open_call
  operate_same (Push x) e = refl
  operate_same (Get k) e = refl
  operate_same (Compute op) e = refl
  operate_same (Ifnot a) e = refl
  operate_same (Jump a) e = refl
  operate_same Slide e = refl
  operate_same Drop e = refl
  operate_same LeafTag e = refl
  operate_same NodeTag e = refl
  operate_same WriteNumber e = refl
  operate_same (ReadTag a) e =
      let agree = opens_less input m.input (suc s.read) _ (tag_rests (tag_at m.input s.read) a s) e in
      ap (λ g. on_tag g a s) (same_tag input m.input s.read agree)
  operate_same ReadNumber e = same_test (ltb (words_standing s) m.most_words) (take_number m s) (take_number (given input m) s) read_same e
  operate_same (Call entry n) e = refl
  operate_same (Return k) e = refl

  -- one step with another input
  pub step_same : Same (step m s) (step (given input m) s)
  unfolding step perform
  step_same =
      same_option (m.holds s.address) (perform m s) (perform (given input m) s)
      (λ i. same_option (operation_of i) (operate m s) (operate (given input m) s) operate_same)

-- ---- runs

-- A run from the outcome of its first instruction on, with the fuel left after it.
abbrev onward : Setting → ℕ → State → Step → Run
onward m fuel s this =
    elim this [
      | goes t ↦ after_performing s.address (run m fuel t)
      | ends number ↦ after_performing s.address (stopped s (returned number))
      | refuses number ↦ stopped s (refused number)
    ]

module _ (runs : (m : Setting) (s : State) → Runs m s) (m : Setting) (input : List ℕ) where
  -- If the other input agrees with the setting's on the bytes that this run rests on, that run is
  -- the same.
  abbrev pub SameRun : Run → Run → Type 0
  SameRun this that = take (rests_on (answer_of this)) input ≡ take (rests_on (answer_of this)) m.input → that ≡ this

  -- a run is the same if its first step and the run after it are
  onward_same :
      (fuel : ℕ) (s : State) (this that : Step)
      → ((t : State) → SameRun (run m fuel t) (run (given input m) fuel t))
      → Same m input s this that
      → SameRun (onward m fuel s this) (onward (given input m) fuel s that)
  unfolding run outcome_of looked_at
  onward_same fuel s (goes t) that rest same e =
      let grown : t.read ≤ rests_on (answer_of (run m fuel t)) = omega (arith, ((runs m t).grows 0 fuel zero-le).reads) in
      ap (onward (given input m) fuel s) (same (opens_less input m.input _ _ grown e)) ∙ ap (after_performing s.address) (rest t e)
  onward_same fuel s (ends number) that rest same e =
      ap (onward (given input m) fuel s) (same (opens_less input m.input _ _ (le-add_right s.read 0) e))
  onward_same fuel s (refuses number) that rest same e = ap (onward (given input m) fuel s) (same e)

  -- a run with another input
  pub run_same : (fuel : ℕ) (s : State) → SameRun (run m fuel s) (run (given input m) fuel s)
  unfolding run
  run_same zero s e = refl
  run_same (suc fuel) s e = onward_same fuel s (step m s) (step (given input m) s) (run_same fuel) (step_same m input s) e
