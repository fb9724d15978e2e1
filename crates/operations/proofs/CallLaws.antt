-- Calls and returns: a law for each way out of their functions.
use Prim.Native.Nat.{ℕ, zero, suc, ◌+◌, ◌-◌, ◌≤◌, ◌<◌}
use mathlib.Core.List.{List, [], ◌∷◌, ◌++◌, append-nil}
use mathlib.Core.Option.{none, some}
use mathlib.Core.Logic.{◌≢◌}
use mathlib.Core.Path.{◌≡◌, refl, sym, ap, ◌∙◌}
use native.Mathlib.Nat.{le_refl}
use native.Mathlib.Omega.{arith}
use native.Mathlib.Numerals.{towards_suc}
use borrow.Author.Tests.{le-leb, lt-leb, le-ltb, lt-ltb}
use lib.ListN.{length, get_or, set, take, drop, length-set}
use Rattle.meaning.specs.Instructions.{Call, Return}
use Rattle.meaning.specs.Performing.{Setting, calls_open, ends, open_call, kept, number_kept, leave, operate}
use Rattle.meaning.specs.Running.{value_words, return_words}
use Rattle.machine_state.specs.declared.Machine.{Machine}
use Rattle.refusal.specs.declared.Refusal.TheVariants.{TooManyCalls, CannotPerform}
use Rattle.machine_state.specs.declared.Stop.TheVariants.{GoesOn, Ended}
use Rattle.machine_state.proofs.Laws.{words_top}
use Rattle.machine_state.specs.Inner.States.{words_from, waiting, frame_of, state_of, step_of, Chained, first, above, Held, Sound}
use Rattle.machine_state.specs.Inner.States.{stopped_by, refused_by, jump_to, left}
use Rattle.operations.specs.Inner.Effects.{Does, OnReturns, FromReturns}
use Rattle.operations.proofs.Frames.{length_words, words_pushed, words_taken, words_left}
use Rattle.operations.proofs.Frames.{waiting_kept, waiting_more, chained_more, count_waiting}
use Rattle.operations.proofs.Effects.{held_as, refused_so, goes_so}

-- ---- `leave`

module _ (returns : List ℕ) (top : ℕ) (s : Machine) where
  pub left_first :
      s.saved < 2
      → record { stop = Ended; address = s.address; top = top; base = s.base; saved = s.saved; read = s.read; written = s.written }
      ≡ left returns top s
  unfolding left
  left_first h = sym (rw (left, lt-ltb s.saved 2 h))

  pub left_back :
      2 ≤ s.saved
      → record {
        stop = s.stop;
        address = get_or returns (s.saved - 2) 0;
        top = top;
        base = get_or returns (s.saved - 1) 0;
        saved = s.saved - 2;
        read = s.read;
        written = s.written;
      }
      ≡ left returns top s
  unfolding left
  left_back h = sym (rw (left, le-ltb s.saved 2 h))

pub ruleset leaves = (left_first, left_back)

-- ---- `call`

module _ (entry n : ℕ) (returns : List ℕ) (s : Machine) where
  -- 01, Instructions that cannot be performed: "19 .. (.. missing .. words)"
  pub call_few : (r : Machine) → s.top - s.base < n → r ≡ refused_by CannotPerform s → OnReturns (Call entry n) returns returns s r
  unfolding operate
  call_few r few e =
      record {
        does =
            λ m values output h.
            refused_so m _ values returns output s r CannotPerform e (rw (operate, length_words, lt-leb n (s.top - s.base) few)) h;
      }

  module _ (there : n ≤ s.top - s.base) where
    calls :
        (m : Setting) (values output : List ℕ)
        → operate m (state_of values returns output s) (Call entry n) ≡ open_call m entry n (state_of values returns output s)
    unfolding operate
    calls m values output = rw (operate, length_words, le-leb n (s.top - s.base) there)

    -- 01, The table of refusals: "18 a call with 1,024 open"
    pub call_deep : (r : Machine) → return_words - 2 ≤ s.saved → r ≡ refused_by TooManyCalls s → OnReturns (Call entry n) returns returns s r
    unfolding open_call calls_open
    call_deep r deep e =
        record {
          does =
              λ m values output h.
              let counted = count_waiting values returns s.base s.saved h.chained in
              let full : m.most_open ≤ suc (length (waiting values returns s.base s.saved)) = omega (arith, h.calls_limit) in
              refused_so m _ values returns output s r TooManyCalls e (calls m values output ∙ rw (open_call, calls_open, le-ltb _ _ full)) h;
        }

    -- the machine in the new frame, and the return places after the call
    abbrev inside : Machine
    inside =
        record {
          stop = s.stop;
          address = entry;
          top = s.top;
          base = s.top - n;
          saved = suc (suc s.saved);
          read = s.read;
          written = s.written;
        }

    abbrev returns' : List ℕ
    returns' = set (set returns s.saved (suc s.address)) (suc s.saved) s.base

    -- the arguments are its words, and the rest of the present frame's words wait
    called :
        (m : Setting) (values output : List ℕ)
        → s.stop ≡ GoesOn
        → s.saved < return_words - 2
        → Held m values returns output s
        → Does m (operate m (state_of values returns output s) (Call entry n)) values returns output values returns' output s inside
    unfolding open_call calls_open
    called m values output going fits h =
        let counted = count_waiting values returns s.base s.saved h.chained in
        let few : suc (length (waiting values returns s.base s.saved)) < m.most_open = omega (arith, h.calls_limit) in
        let based = h.based in
        let lent = h.returns_lent in
        let back = suc s.address in
        let all : n ≡ s.top - (s.top - n) = omega arith in
        let arguments : take n (frame_of values s) ≡ frame_of values inside =
        words_taken values s.base (s.top - s.base) (s.top - n) n (omega arith) (omega arith) ∙ ap (words_from values (s.top - n)) all in
        let rest : drop n (frame_of values s) ≡ words_from values s.base (s.top - n - s.base) =
        words_left values s.base (s.top - s.base) (s.top - n - s.base) n (omega arith) in
        let callers = waiting_more returns s.base s.saved back h.chained (omega arith) values (s.top - n) in
        let chained = chained_more returns s.base s.saved back h.chained (omega arith) (s.top - n) (omega arith) in
        let same : length returns' ≡ length returns = simp length-set in
        goes_so m _ values returns output values returns' output s inside
        (calls m values output ∙ rw (open_call, calls_open, lt-ltb _ _ few, arguments, rest, callers))
        going
        (held_as m values returns output values returns' output s inside h refl same refl (omega arith) h.topped (omega arith) chained h.read_there h.written_there)
        refl same refl refl

    pub call_made :
        (j : Machine)
        → Sound s
        → s.saved < return_words - 2
        → j ≡ jump_to entry s
        → OnReturns (Call entry n) returns (set (set returns s.saved (s.address + 1)) (s.saved + 1) s.base) s
        (record {
          stop = j.stop;
          address = j.address;
          top = j.top;
          base = s.top - n;
          saved = s.saved + 2;
          read = j.read;
          written = j.written;
        })
    call_made j sound fits e = simp (e, towards_suc) (record { does = λ m values output h. called m values output sound.going fits h })

pub ruleset called_so = (call_few, call_deep, call_made)

-- ---- `give_back`

-- The frame cut down to the words kept, up to a new top: they stand on the words below its base,
-- and no frame below is changed.
record Cut (values values' : List ℕ) (base top : ℕ) (words : List ℕ) : Type 0 where
  same_length : length values' ≡ length values
  based : base ≤ top
  topped : top ≤ value_words
  on : (own : ℕ) → own ≤ base → words_from values' own (top - own) ≡ words ++ words_from values own (base - own)
  below : (returns : List ℕ) (own n : ℕ) → Chained returns own n → own ≤ base → waiting values' returns own n ≡ waiting values returns own n

cut_all : (values : List ℕ) (base : ℕ) → base ≤ value_words → Cut values values base base []
cut_all values base fits =
    record { same_length = refl; based = le_refl base; topped = fits; on = λ own h. refl; below = λ returns own n c h. refl }

cut_to_one :
    (values : List ℕ) (base x : ℕ)
    → base < value_words
    → value_words ≤ length values
    → Cut values (set values base x) base (base + 1) (x ∷ [])
cut_to_one values base x fits lent =
    record {
      same_length = length-set values base x;
      based = omega arith;
      topped = omega arith;
      on =
          λ own h.
          let one_more : base + 1 - own ≡ suc (base - own) = omega arith in
          ap (words_from (set values base x) own) one_more ∙ words_pushed values own (base - own) base x (omega arith) (omega arith);
      below = λ returns own n c h. waiting_kept values returns own n base x c h;
    }

-- A frame cut is left: the first one with its number, another one for the frame that waits.
module _ (m : Setting) (values values' returns output words : List ℕ) (address top read written top' : ℕ) where
  abbrev at_frame : ℕ → ℕ → Machine
  at_frame base saved = record { stop = GoesOn; address = address; top = top; base = base; saved = saved; read = read; written = written }

  left_so :
      (base saved : ℕ)
      → Chained returns base saved
      → Cut values values' base top' words
      → Held m values returns output (at_frame base saved)
      → Does m (leave (waiting values returns base saved) words (state_of values returns output (at_frame base saved)))
      values returns output values' returns output (at_frame base saved) (left returns top' (at_frame base saved))
  unfolding step_of left leave waiting words_from number_kept
  left_so base saved first cut h =
      record {
        reported = ap (λ ws. ends (number_kept ws)) (cut.on 0 (le_refl 0) ∙ append-nil words);
        held =
            held_as m values returns output values' returns output (at_frame 0 0) _ h cut.same_length refl refl
            cut.based cut.topped h.saved_fits first h.read_there h.written_there;
        same_values = cut.same_length;
        same_returns = refl;
        same_output = refl;
        untouched = refl;
        still = λ stops. record { read = refl; written = refl; same = refl };
      }
  left_so base saved (above {n = n} under c) cut h =
      let s : Machine = at_frame base (suc (suc n)) in
      let own : ℕ = get_or returns (suc n) 0 in
      let back : Machine = record { stop = GoesOn; address = get_or returns n 0; top = top'; base = own; saved = n; read = read; written = written } in
      let two_less : suc (suc n) - 2 ≡ n = omega arith in
      let one_less : suc (suc n) - 1 ≡ suc n = omega arith in
      let is_back : left returns top' s ≡ back = sym (left_back returns top' s (omega arith)) ∙ rw (two_less, one_less) in
      let based = cut.based in
      let fits = h.saved_fits in
      rw is_back
      (goes_so m _ values returns output values' returns output s back
      (rw (cut.on own under, cut.below returns own n c under))
      refl
      (held_as m values returns output values' returns output s back h cut.same_length refl refl (omega arith) cut.topped (omega arith) c
      h.read_there h.written_there)
      cut.same_length refl refl refl)

-- 01, Opcodes: "0 or 1 words kept"
kept_more : (k : ℕ) (frame : List ℕ) → k ≢ 0 → k ≢ 1 → kept k frame ≡ none
unfolding kept
kept_more zero frame h g = absurd (h refl)
kept_more (suc zero) frame h g = absurd (g refl)
kept_more (suc (suc k)) frame h g = refl

module _ (k : ℕ) (returns values : List ℕ) (s r : Machine) where
  -- what a return does where these words can be kept, or none can
  gives :
      (values' words : List ℕ) (top : ℕ)
      → s.stop ≡ GoesOn
      → kept k (frame_of values s) ≡ some words
      → Cut values values' s.base top words
      → r ≡ left returns top s
      → FromReturns (Return k) returns values values' s r
  unfolding operate
  gives values' words top going keeps cut e =
      let same : stopped_by GoesOn s ≡ s = ap (λ stop. stopped_by stop s) (sym going) in
      record {
        does =
            λ m output h.
            let so =
            left_so m values values' returns output words s.address s.top s.read s.written top s.base s.saved
            h.chained cut (rw same h) in
            rw (e, operate, keeps) (rw same at so);
      }

  gives_none : kept k (frame_of values s) ≡ none → r ≡ refused_by CannotPerform s → FromReturns (Return k) returns values values s r
  unfolding operate
  gives_none missing e =
      record { does = λ m output h. refused_so m _ values returns output s r CannotPerform e (rw (operate, missing)) h }

  pub return_none : Sound s → k ≡ 0 → r ≡ left returns s.base s → FromReturns (Return k) returns values values s r
  unfolding kept
  return_none sound is e = gives values [] s.base sound.going (rw is) (cut_all values s.base (omega arith)) e

  pub return_more : k ≢ 0 → k ≢ 1 → r ≡ refused_by CannotPerform s → FromReturns (Return k) returns values values s r
  return_more h g e = gives_none (kept_more k (frame_of values s) h g) e

  -- 01, Instructions that cannot be performed: "19 .. (.. missing .. words)"
  pub return_empty : k ≡ 1 → s.top ≤ s.base → r ≡ refused_by CannotPerform s → FromReturns (Return k) returns values values s r
  unfolding kept words_from
  return_empty is empty e = let no_word : s.top - s.base ≡ 0 = omega arith in gives_none (rw (is, no_word)) e

  pub return_one :
      Sound s
      → value_words ≤ length values
      → k ≡ 1
      → s.base < s.top
      → r ≡ left returns (s.base + 1) s
      → FromReturns (Return k) returns values (set values s.base (get_or values (s.top - 1) 0)) s r
  unfolding kept
  return_one sound lent is filled e =
      let x : ℕ = get_or values (s.top - 1) 0 in
      gives (set values s.base x) (x ∷ []) (s.base + 1) sound.going (rw (is, words_top values s.base s.top filled))
      (cut_to_one values s.base x (omega arith) lent) e

pub ruleset returns = (return_none, return_more, return_empty, return_one)
