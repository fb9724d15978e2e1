-- Wider limits. Under smaller limits an instruction does what it does under larger ones, or is
-- refused because words, calls or space are too few (`Widened`). That is shown once, by cases over
-- the operation: each line is made of tests that come out the same in both settings, and at most
-- one test against a limit. What steps do under other limits is read off it.
use Prim.Native.Nat.{ℕ, suc, ◌+◌, ◌≤◌, ◌<◌}
use mathlib.Core.Bool.{Bool, true, false}
use mathlib.Core.List.{List, [], ◌∷◌}
use mathlib.Core.Option.{Option, none, some}
use mathlib.Core.Path.{◌≡◌, refl, sym, subst, ◌∙◌}
use native.Mathlib.Decide.{dec_le}
use native.Mathlib.Nat.{le_refl, le_trans}
use native.Mathlib.Omega.{arith}
use borrow.Author.Tests.{le-leb, lt-leb}
use lib.Dec.{leb}
use lib.ListN.{length, length-append}
use Rattle.formats.specs.Arithmetic.{result_of}
use Rattle.formats.specs.Refusals.{input_ended, output_full, too_many_calls, cannot_perform}
use Rattle.formats.specs.Tokens.{label_bytes, Tag, no_byte, a_leaf, a_node, other, tag_at}
use Rattle.meaning.specs.Levels.{at_level}
use Rattle.meaning.specs.Instructions.{Instruction, Operation, Push, Get, Compute, Ifnot, Jump, Slide, Drop, LeafTag, NodeTag}
use Rattle.meaning.specs.Instructions.{WriteNumber, ReadTag, ReadNumber, Call, Return, operation_of}
use Rattle.meaning.specs.Performing.{Setting, Caller, State, words_standing, calls_open, Step, goes, ends, refuses, holding}
use Rattle.meaning.specs.Performing.{pop_one, pop_two, if_room, push_word, push_result, write, on_tag, take_number, open_call, kept, leave, operate, perform, step}
use Rattle.meaning.specs.StreamRun.{Steps, here, on}
use Rattle.meaning.proofs.Inputs.{given}
use Rattle.translation.proofs.Paths.{with_space}

-- The same code and input, and no smaller limits.
pub record Wider (m M : Setting) : Type 0 where
  pub holds : (a : ℕ) → M.holds a ≡ m.holds a
  pub input : M.input ≡ m.input
  pub space : m.space ≤ M.space
  pub words : m.most_words ≤ M.most_words
  pub calls : m.most_open ≤ M.most_open

-- with more space, and all else as it is
more_space : (m : Setting) (space : ℕ) → m.space ≤ space → Wider m (with_space space m)
more_space m space h = record { holds = λ a. refl; input = refl; space = h; words = le_refl _; calls = le_refl _ }

-- ---- one instruction

-- What has been written fits the output, if it did before.
abbrev Fits : Setting → State → Step → Type 0
Fits m s (goes t) = length s.output ≤ m.space → length t.output ≤ m.space
Fits m s (ends number) = Unit {0}
Fits m s (refuses number) = Unit {0}

-- The outcome of an instruction under the limits of m, and under those of M: the same, or m has
-- fewer words, fewer calls, or too little space.
data Widened (m M : Setting) (s : State) : Step → Step → Type 0 where
  same : {r : Step} → Fits m s r → Widened m M s r r
  few_words : {q : Step} → m.most_words < M.most_words → Widened m M s (refuses cannot_perform) q
  few_calls : {q : Step} → m.most_open < M.most_open → Widened m M s (refuses too_many_calls) q
  short : {t : State} → m.space < length t.output → Widened m M s (refuses output_full) (goes t)

module _ {m M : Setting} (w : Wider m M) (s : State) where
  -- nothing written
  silent : (t : State) → t.output ≡ s.output → Widened m M s (goes t) (goes t)
  silent t e = same {r = goes t} (λ h. rw e h)

  -- after a test that both make; where something is found; with a word, or two
  wide_if :
      (b : Bool) (why : ℕ) (r q : Step)
      → Widened m M s r q
      → Widened m M s (elim b [ true ↦ r | false ↦ refuses why ]) (elim b [ true ↦ q | false ↦ refuses why ])
  wide_if true why r q h = h
  wide_if false why r q h = same tt

  wide_some :
      {A : Type 0} (found : Option A) (f g : A → Step)
      → ((x : A) → Widened m M s (f x) (g x))
      → Widened m M s (elim found [ some x ↦ f x | none ↦ refuses cannot_perform ]) (elim found [ some x ↦ g x | none ↦ refuses cannot_perform ])
  wide_some (some x) f g h = h x
  wide_some none f g h = same tt

  wide_one :
      (words : List ℕ) (f g : ℕ → List ℕ → Step)
      → ((x : ℕ) (rest : List ℕ) → Widened m M s (f x rest) (g x rest))
      → Widened m M s (pop_one words f) (pop_one words g)
  unfolding pop_one
  wide_one [] f g h = same tt
  wide_one (x ∷ rest) f g h = h x rest

  wide_two :
      (words : List ℕ) (f : ℕ → ℕ → List ℕ → Step)
      → ((x y : ℕ) (rest : List ℕ) → Fits m s (f x y rest))
      → Widened m M s (pop_two words f) (pop_two words f)
  unfolding pop_two
  wide_two words f h = wide_one words _ _ (λ x under. wide_one under _ _ (λ y rest. same (h x y rest)))

  -- a result writes nothing, nor does the lack of one
  pushed_fits : (rest : List ℕ) (found : Option ℕ) → Fits m s (push_result found rest s)
  unfolding push_result
  pushed_fits rest (some x) = λ h. h
  pushed_fits rest none = tt

  -- after a test against a limit: both pass it, or only M does, or neither
  wide_limit :
      (need small large why : ℕ) (r q : Step)
      → small ≤ large
      → (need ≤ small → Widened m M s r q)
      → (small < need → need ≤ large → Widened m M s (refuses why) q)
      → Widened m M s (elim (leb need small) [ true ↦ r | false ↦ refuses why ]) (elim (leb need large) [ true ↦ q | false ↦ refuses why ])
  wide_limit need small large why r q l both only =
      elim (dec_le need small) [
        | yes h ↦ rw (le-leb need small h, le-leb need large (le_trans h l)) (both h)
        | no h ↦
            let less : small < need = omega arith in
            elim (dec_le need large) [
              | yes k ↦ rw (lt-leb need small less, le-leb need large k) (only less k)
              | no k ↦ rw (lt-leb need small less, lt-leb need large (omega arith)) (same tt)
            ]
      ]

  -- room for one word more, and that word pushed; bytes written; one call more
  wide_room : (r q : Step) → Widened m M s r q → Widened m M s (if_room m s r) (if_room M s q)
  unfolding if_room
  wide_room r q h =
      wide_limit (suc (words_standing s)) m.most_words M.most_words cannot_perform r q w.words (λ _. h) (λ less k. few_words (le_trans less k))

  wide_push : (x : ℕ) → Widened m M s (push_word m x s) (push_word M x s)
  unfolding push_word
  wide_push x = wide_room _ _ (silent _ refl)

  wide_write : (words bytes : List ℕ) → Widened m M s (write m bytes (holding words s)) (write M bytes (holding words s))
  unfolding write
  wide_write words bytes =
      let long = length-append s.output bytes in
      wide_limit (length s.output + length bytes) m.space M.space output_full _ _ w.space
      (λ h. same (λ _. omega arith))
      (λ less _. short (omega arith))

  wide_call : (entry n : ℕ) → Widened m M s (open_call m entry n s) (open_call M entry n s)
  unfolding open_call
  wide_call entry n =
      wide_limit (suc (calls_open s)) m.most_open M.most_open too_many_calls _ _ w.calls
      (λ _. silent _ refl)
      (λ less k. few_calls (le_trans less k))

  -- what looks at the input looks at the same one
  wide_input : (f : List ℕ → Step) → Widened m M s (f m.input) (f m.input) → Widened m M s (f m.input) (f M.input)
  wide_input f h = subst (λ input. Widened m M s (f m.input) (f input)) (sym w.input) h

  -- a tag or a number read; a return
  wide_tag : (g : Tag) (a : ℕ) → Widened m M s (on_tag g a s) (on_tag g a s)
  unfolding on_tag
  wide_tag no_byte a = same tt
  wide_tag a_leaf a = silent _ refl
  wide_tag a_node a = silent _ refl
  wide_tag other a = same tt

  wide_number : Widened m M s (take_number m s) (take_number m s)
  unfolding take_number
  wide_number = wide_if (leb (s.read + label_bytes) (length m.input)) input_ended _ _ (silent _ refl)

  wide_leave : (cs : List Caller) (words : List ℕ) → Widened m M s (leave cs words s) (leave cs words s)
  unfolding leave
  wide_leave [] words = same tt
  wide_leave (c ∷ cs) words = silent _ refl

  -- one line for each opcode
  wide_operate : (op : Operation) → Widened m M s (operate m s op) (operate M s op)
  unfolding operate take_number
  wide_operate (Push x) = wide_push x
  wide_operate (Get k) = wide_some (at_level s.frame k) _ _ wide_push
  wide_operate (Compute op) = wide_two _ _ (λ q p rest. pushed_fits rest (result_of op p q))
  wide_operate (Ifnot a) = wide_one _ _ _ (λ x rest. silent _ refl)
  wide_operate (Jump a) = silent _ refl
  wide_operate Slide = wide_two _ _ (λ x under rest h. h)
  wide_operate Drop = wide_one _ _ _ (λ x rest. silent _ refl)
  wide_operate LeafTag = wide_write s.frame _
  wide_operate NodeTag = wide_write s.frame _
  wide_operate WriteNumber = wide_one _ _ _ (λ x rest. wide_write rest _)
  wide_operate (ReadTag a) = wide_input (λ input. on_tag (tag_at input s.read) a s) (wide_tag _ a)
  wide_operate ReadNumber = wide_room _ _ (wide_input (λ input. take_number (given input m) s) wide_number)
  wide_operate (Call entry n) = wide_if (leb n (length s.frame)) cannot_perform _ _ (wide_call entry n)
  wide_operate (Return k) = wide_some (kept k s.frame) _ _ (λ words. wide_leave s.callers words)

  -- on the instruction's fields, and on what its address holds
  wide_perform : (i : Instruction) → Widened m M s (perform m s i) (perform M s i)
  unfolding perform
  wide_perform i = wide_some (operation_of i) _ _ wide_operate

  wide_step : Widened m M s (step m s) (step M s)
  unfolding step
  wide_step = rw (w.holds s.address, step) (wide_some (m.holds s.address) _ _ wide_perform)

-- ---- steps

-- a step that goes on does so under larger limits, to the same state
wide_goes : {m M : Setting} {s t : State} {r q : Step} → Widened m M s r q → r ≡ goes t → q ≡ goes t
wide_goes (same fits) e = e
wide_goes (few_words less) e = cc
wide_goes (few_calls less) e = cc
wide_goes (short less) e = cc

module _ {m M : Setting} (w : Wider m M) where
  wider_goes : (s : State) {t : State} → step m s ≡ goes t → step M s ≡ goes t
  wider_goes s = wide_goes (wide_step w s)

  -- so steps lead to the same state
  pub wider_steps : {past : List ℕ} {s t : State} → Steps m past s t → Steps M past s t
  wider_steps d = elim d as (λ past s t d. Steps M past s t) [ here ↦ here | on {s = s} e (d → h) ↦ on (wider_goes s e) h ]

-- what a step writes fits
wide_fits : {m M : Setting} {s : State} {r q : Step} → Widened m M s r q → Fits m s r
wide_fits (same fits) = fits
wide_fits (few_words less) = tt
wide_fits (few_calls less) = tt
wide_fits (short less) = tt

pub step_fits : (m : Setting) (s : State) {t : State} → step m s ≡ goes t → length s.output ≤ m.space → length t.output ≤ m.space
step_fits m s e = subst (Fits m s) e (wide_fits (wide_step (more_space m m.space (le_refl _)) s))

-- ---- another space

-- With this space too the step goes to t, or the output is full, because t has written more.
pub data Narrowed (m : Setting) (space : ℕ) (s t : State) : Type 0 where
  goes_too : step (with_space space m) s ≡ goes t → Narrowed m space s t
  full : step (with_space space m) s ≡ refuses output_full → space < length t.output → Narrowed m space s t

-- with less space, compared with the setting's own; with more, as under wider limits
pub narrowed : {m : Setting} (space : ℕ) {s t : State} → step m s ≡ goes t → Narrowed m space s t
narrowed {m} space {s} {t} e =
    elim (dec_le space m.space) [
      | yes less ↦ read_off (wide_step (more_space (with_space space m) m.space less) s) refl e
      | no more ↦ goes_too (wider_goes (more_space m space (omega arith)) s e)
    ]
  where
    read_off : {r q : Step} → Widened (with_space space m) m s r q → step (with_space space m) s ≡ r → q ≡ goes t → Narrowed m space s t
    read_off (same fits) d e = goes_too (d ∙ e)
    read_off (few_words less) d e = absurd (omega (arith, less))
    read_off (few_calls less) d e = absurd (omega (arith, less))
    read_off (short {t = u} less) d e = let alike : u ≡ t = cc in full d (rw (← alike) less)
