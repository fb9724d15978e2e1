-- Laws of one step. A state follows another if bytes read and written only grow and the limits are
-- kept. Each change of the state is shown to follow once, with what its test gives; each opcode's
-- line is made of such changes, one after the other.
use Prim.Native.Nat.{ℕ, zero, suc, ◌+◌, ◌≤◌, ◌<◌}
use mathlib.Core.Bool.{Bool, true, false}
use mathlib.Core.List.{List, [], ◌∷◌, ◌++◌, append-nil, append_assoc}
use mathlib.Core.Option.{Option, none, some}
use mathlib.Core.Path.{◌≡◌, refl, sym, ap, subst, ◌∙◌}
use native.Mathlib.Nat.{le_refl, le_trans}
use native.Mathlib.Omega.{arith}
use borrow.Author.Tests.{ltb-true, leb-true}
use lib.ListN.{length, take, drop, length-append, length-take, length-drop}
use Rattle.formats.specs.Numbers.{number_at}
use Rattle.formats.specs.Arithmetic.{result_of}
use Rattle.formats.specs.Refusals.{cannot_perform}
use Rattle.formats.specs.Tokens.{label_bytes, Tag, no_byte, a_leaf, a_node, other}
use Rattle.formats.proofs.Tokens.{Look, at_leaf, at_node, look}
use Rattle.meaning.specs.Instructions.{Instruction, Operation, Push, Get, Compute, Ifnot, Jump, Slide, Drop, LeafTag, NodeTag, WriteNumber, ReadTag, ReadNumber, Call, Return, operation_of}
use Rattle.meaning.specs.Levels.{at_level}
use Rattle.meaning.specs.Performing.{Setting, Caller, State, words_below, words_standing, calls_open, Step, goes, ends, refuses, go_to, holding, reading, writing}
use Rattle.meaning.specs.Performing.{pop_one, pop_two, if_room, push_word, push_result, write, on_tag, take_number, open_call, kept, leave, operate, perform, step}
use Rattle.meaning.specs.StreamRun.{StepRefusal, ended_there, not-a-tag, full, too_many, cannot, out-of-range, Within, Grows, OneStep}
use Rattle.meaning.proofs.CannotPerform.{cannot_first}
use Rattle.meaning.proofs.Stopping.{refused_exactly, ends_exactly}

-- The outcome of a state's instruction, with the equation kept
pub data Stepped (m : Setting) (s : State) : Type 0 where
  it_goes : (t : State) → step m s ≡ goes t → Stepped m s
  it_ends : (number : ℕ) → step m s ≡ ends number → Stepped m s
  it_refuses : (number : ℕ) → step m s ≡ refuses number → Stepped m s

pub stepped : (m : Setting) (s : State) → Stepped m s
stepped m s = view (step m s) refl
  where
    view : (r : Step) → step m s ≡ r → Stepped m s
    view (goes t) e = it_goes t e
    view (ends number) e = it_ends number e
    view (refuses number) e = it_refuses number e

-- ---- states that follow

-- bytes read and written only grow, and the limits are kept
pub record Follows (m : Setting) (s t : State) : Type 0 where
  pub grows : Grows s t
  pub within : Within m s → Within m t

pub grows_same : (s : State) → Grows s s
grows_same s = record { reads = le_refl _; writes = record { rest = []; joined = sym (append-nil s.output) } }

grows_on : {s t u : State} → Grows s t → Grows t u → Grows s u
grows_on {s} g h =
    let more = g.writes.rest in
    let later = h.writes.rest in
    let joined = h.writes.joined ∙ ap (λ (l : List ℕ). l ++ later) g.writes.joined ∙ append_assoc s.output more later in
    record { reads = le_trans g.reads h.reads; writes = record { rest = more ++ later; joined = joined } }

pub follows_same : (m : Setting) (s : State) → Follows m s s
follows_same m s = record { grows = grows_same s; within = λ w. w }

pub follows_on : {m : Setting} {s t u : State} → Follows m s t → Follows m t u → Follows m s u
follows_on f g = record { grows = grows_on f.grows g.grows; within = λ w. g.within (f.within w) }

module _ (m : Setting) (s : State) where
  -- other words in other frames, and nothing read or written
  follows_frames :
      (a : ℕ) (words : List ℕ) (cs : List Caller)
      → (words_standing s ≤ m.most_words → length words + words_below cs ≤ m.most_words)
      → (calls_open s ≤ m.most_open → suc (length cs) ≤ m.most_open)
      → Follows m s (record { address = a; frame = words; callers = cs; read = s.read; output = s.output })
  unfolding words_standing calls_open
  follows_frames a words cs fewer deep = record {
    grows = record { reads = le_refl _; writes = (grows_same s).writes };
    within = λ w. record { words = fewer w.words; calls = deep w.calls; read = w.read; written = w.written };
  }

  -- other words in the frame
  follows_holding :
      (a : ℕ) (words : List ℕ)
      → (words_standing s ≤ m.most_words → length words + words_below s.callers ≤ m.most_words)
      → Follows m s (go_to a (holding words s))
  unfolding calls_open
  follows_holding a words fewer = follows_frames a words s.callers fewer (λ h. h)

  -- a frame with no more words
  follows_fewer : (a : ℕ) (words : List ℕ) → length words ≤ length s.frame → Follows m s (go_to a (holding words s))
  unfolding words_standing
  follows_fewer a words h = follows_holding a words (λ w. omega arith)

  -- bytes that are there read, bytes that fit written
  follows_reading : (a bytes : ℕ) → s.read + bytes ≤ length m.input → Follows m s (go_to a (reading bytes s))
  unfolding words_standing calls_open
  follows_reading a bytes there = record {
    grows = record { reads = omega arith; writes = (grows_same s).writes };
    within = λ w. record { words = w.words; calls = w.calls; read = there; written = w.written };
  }

  follows_writing : (a : ℕ) (bytes : List ℕ) → length s.output + length bytes ≤ m.space → Follows m s (go_to a (writing bytes s))
  unfolding words_standing calls_open
  follows_writing a bytes fits = record {
    grows = record { reads = le_refl _; writes = record { rest = bytes; joined = refl } };
    within = λ w. record { words = w.words; calls = w.calls; read = w.read; written = simp length-append fits };
  }

-- ---- a property of the outcome of an instruction, carried through the tests that instructions
-- make

module _ (P : Step → Type 0) where
  -- where a test is passed, and where it is not; where something is found
  pub holds_if : (test : Bool) (r o : Step) → (test ≡ true → P r) → P o → P (elim test [ true ↦ r | false ↦ o ])
  holds_if true r o h g = h refl
  holds_if false r o h g = g

  pub holds_some :
      {A : Type 0} (found : Option A) (f : A → Step)
      → P (refuses cannot_perform)
      → ((x : A) → P (f x))
      → P (elim found [ some x ↦ f x | none ↦ refuses cannot_perform ])
  holds_some (some x) f g h = h x
  holds_some none f g h = g

  -- one word, or two, and those under them
  pub holds_one :
      (words : List ℕ) (f : ℕ → List ℕ → Step)
      → P (refuses cannot_perform)
      → ((x : ℕ) (rest : List ℕ) → length words ≡ suc (length rest) → P (f x rest))
      → P (pop_one words f)
  unfolding pop_one
  holds_one [] f g h = g
  holds_one (x ∷ rest) f g h = h x rest refl

  pub holds_two :
      (words : List ℕ) (f : ℕ → ℕ → List ℕ → Step)
      → P (refuses cannot_perform)
      → ((x y : ℕ) (rest : List ℕ) → length words ≡ suc (suc (length rest)) → P (f x y rest))
      → P (pop_two words f)
  unfolding pop_two
  holds_two words f g h = holds_one words _ g (λ x under e. holds_one under _ g (λ y rest d. h x y rest (e ∙ ap suc d)))

-- ---- the outcome of an instruction is sound: the next state follows, a refusal is one of the six

abbrev Sound : Setting → State → Step → Type 0
Sound m s (goes t) = Follows m s t
Sound m s (ends number) = Unit {0}
Sound m s (refuses number) = StepRefusal number

module _ (m : Setting) (s : State) where
  -- room for one word more, and that word pushed
  sound_room : (r : Step) → (words_standing s < m.most_words → Sound m s r) → Sound m s (if_room m s r)
  unfolding if_room
  sound_room r h = holds_if (Sound m s) _ r _ (λ e. h (ltb-true _ _ e)) cannot

  sound_push : (x : ℕ) → Sound m s (push_word m x s)
  unfolding push_word words_standing
  sound_push x = sound_room _ (λ h. follows_holding m s _ (x ∷ s.frame) (λ w. omega arith))

  -- a result in place of two words
  sound_result : (found : Option ℕ) (rest : List ℕ) → suc (length rest) ≤ length s.frame → Sound m s (push_result found rest s)
  unfolding push_result
  sound_result (some x) rest h = follows_fewer m s _ (x ∷ rest) h
  sound_result none rest h = out-of-range

  -- bytes written, with no more words in the frame
  sound_write : (words bytes : List ℕ) → length words ≤ length s.frame → Sound m s (write m bytes (holding words s))
  unfolding write
  sound_write words bytes h =
      holds_if (Sound m s) _ _ _ (λ e. follows_on (follows_fewer m s s.address words h) (follows_writing m _ _ bytes (leb-true _ _ e))) full

  -- a tag or a number read
  sound_tag : (g : Tag) (a : ℕ) → Look m.input s.read g → Sound m s (on_tag g a s)
  unfolding on_tag
  sound_tag no_byte a l = ended_there
  sound_tag a_leaf a (at_leaf there is) = follows_reading m s _ 1 (omega arith)
  sound_tag a_node a (at_node there is) = follows_reading m s a 1 (omega arith)
  sound_tag other a l = not-a-tag

  sound_number : words_standing s < m.most_words → Sound m s (take_number m s)
  unfolding take_number words_standing
  sound_number h =
      let x = number_at label_bytes m.input s.read in
      holds_if (Sound m s) _ _ _
      (λ e. follows_on (follows_holding m s s.address (x ∷ s.frame) (λ w. omega arith)) (follows_reading m _ _ label_bytes (leb-true _ _ e)))
      ended_there

  -- the arguments and the words that wait are the frame's
  sound_call : (entry n : ℕ) → n ≤ length s.frame → Sound m s (open_call m entry n s)
  unfolding open_call words_standing calls_open words_below
  sound_call entry n h =
      let front = length-take n s.frame in
      let back = length-drop n s.frame in
      let waits : Caller = record { back = suc s.address; words = drop n s.frame } in
      holds_if (Sound m s) _ _ _
      (λ e. let deep = ltb-true _ _ e in follows_frames m s entry (take n s.frame) (waits ∷ s.callers) (λ w. omega arith) (λ w. deep))
      too_many

  -- no more words are kept than there are
  sound_kept :
      (k : ℕ) (words : List ℕ) (f : List ℕ → Step)
      → ((few : List ℕ) → length few ≤ length words → Sound m s (f few))
      → Sound m s (elim (kept k words) [ some few ↦ f few | none ↦ refuses cannot_perform ])
  unfolding kept
  sound_kept zero words f h = h [] (omega arith)
  sound_kept (suc zero) [] f h = cannot
  sound_kept (suc zero) (x ∷ rest) f h = h (x ∷ []) (omega arith)
  sound_kept (suc (suc k)) words f h = cannot

  sound_leave : (cs : List Caller) (words : List ℕ) → s.callers ≡ cs → length words ≤ length s.frame → Sound m s (leave cs words s)
  unfolding leave words_standing calls_open words_below
  sound_leave [] words e h = tt
  sound_leave (c ∷ cs) words e h =
      let long = length-append words c.words in
      let below = ap words_below e in
      let fewer = ap length e in
      follows_frames m s _ _ cs (λ w. omega arith) (λ w. omega arith)

  -- one line for each opcode
  sound_operate : (op : Operation) → Sound m s (operate m s op)
  unfolding operate
  sound_operate (Push x) = sound_push x
  sound_operate (Get k) = holds_some (Sound m s) (at_level s.frame k) _ cannot sound_push
  sound_operate (Compute op) = holds_two (Sound m s) _ _ cannot (λ q p rest h. sound_result (result_of op p q) rest (omega arith))
  sound_operate (Ifnot a) = holds_one (Sound m s) _ _ cannot (λ x rest h. follows_fewer m s _ rest (omega arith))
  sound_operate (Jump a) = follows_fewer m s a s.frame (le_refl _)
  sound_operate Slide = holds_two (Sound m s) _ _ cannot (λ x under rest h. follows_fewer m s _ (x ∷ rest) (omega arith))
  sound_operate Drop = holds_one (Sound m s) _ _ cannot (λ x rest h. follows_fewer m s _ rest (omega arith))
  sound_operate LeafTag = sound_write s.frame _ (le_refl _)
  sound_operate NodeTag = sound_write s.frame _ (le_refl _)
  sound_operate WriteNumber = holds_one (Sound m s) _ _ cannot (λ x rest h. sound_write rest _ (omega arith))
  sound_operate (ReadTag a) = sound_tag _ a (look m.input s.read)
  sound_operate ReadNumber = sound_room _ sound_number
  sound_operate (Call entry n) = holds_if (Sound m s) _ _ _ (λ e. sound_call entry n (leb-true _ _ e)) cannot
  sound_operate (Return k) = sound_kept k s.frame _ (λ few h. sound_leave s.callers few refl h)

  sound_perform : (i : Instruction) → Sound m s (perform m s i)
  unfolding perform
  sound_perform i = holds_some (Sound m s) (operation_of i) _ cannot sound_operate

  sound : Sound m s (step m s)
  unfolding step
  sound = holds_some (Sound m s) (m.holds s.address) _ cannot sound_perform

  -- the next state follows
  pub follows_step : {t : State} → step m s ≡ goes t → Follows m s t
  follows_step e = subst (Sound m s) e sound

  pub one_step : OneStep m s
  one_step = record {
    refusals = λ number e. subst (Sound m s) e sound;
    cannot_first = cannot_first m s;
    refused_exactly = refused_exactly m s;
    ends_exactly = ends_exactly m s;
    grows = λ t e. (follows_step e).grows;
    within = λ t w e. (follows_step e).within w;
  }
