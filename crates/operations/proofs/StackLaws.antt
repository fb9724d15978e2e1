-- The operations on the value words: push, get, add, ifnot, slide and drop. A law for each way out
-- of their functions.
use Prim.Native.Nat.{ℕ, suc, ◌+◌, ◌-◌, ◌≤◌, ◌<◌}
use mathlib.Core.List.{List, ◌∷◌}
use mathlib.Core.Logic.{◌≢◌}
use mathlib.Core.Path.{◌≡◌, refl, sym, ap, ◌∙◌}
use native.Mathlib.Numerals.{add-one}
use native.Mathlib.Omega.{arith}
use borrow.Author.Tests.{eq-eqb, ne_eqb, lt-ltb, le-ltb}
use lib.ListN.{length, get_or, set, length-set}
use Rattle.formats.specs.Arithmetic.{plus, result_of}
use Rattle.formats.specs.Refusals.{cannot_perform}
use Rattle.meaning.specs.Instructions.{Operation, Push, Get, Add, Ifnot, Slide, Drop}
use Rattle.meaning.specs.Performing.{Setting, Step, goes, refuses, to_next, holding, if_room, push_word, push_result, operate}
use Rattle.meaning.specs.Running.{value_words}
use Rattle.numbers.specs.Inner.Sums.{word_in}
use Rattle.std.specs.Prelude.{Option, Some, None}
use Rattle.machine_state.specs.declared.Machine.{Machine}
use Rattle.refusal.specs.Inner.Numbers.{number}
use Rattle.refusal.specs.declared.Refusal.{Refusal}
use Rattle.refusal.specs.declared.Refusal.TheVariants.{CannotPerform, OutOfRange}
use Rattle.machine_state.specs.Inner.States.{words_from, state_of, Held, Sound, refused_by, next_to, jump_to}
use Rattle.operations.specs.Inner.Effects.{OnNumbers, OnValues}
use Rattle.operations.proofs.Frames.{words_pushed, one_missing, one_taken, two_missing, two_taken, word_found, word_missing, waiting_kept, all_standing}
use Rattle.operations.proofs.Effects.{moved, held_moved, refused_so, goes_so}

-- ---- an operation refused, and one that goes on in its frame

-- The outcome of an operation, whatever the other buffers hold.
abbrev Becomes : Operation → List ℕ → Machine → (List ℕ → List ℕ → Step) → Type 0
Becomes op values s due =
    (m : Setting) (returns output : List ℕ)
    → Held m values returns output s
    → operate m (state_of values returns output s) op ≡ due returns output

-- an operation on the numbers alone: it leaves the value words, whatever they hold
on_numbers : (op : Operation) (s r : Machine) → ((values : List ℕ) → OnValues op values values s r) → OnNumbers op s r
on_numbers op s r h = record { does = λ m values returns output held. (h values).does m returns output held }

-- it is refused
refused :
    (why : Refusal) (op : Operation) (values : List ℕ) (s r : Machine)
    → r ≡ refused_by why s
    → Becomes op values s (λ returns output. refuses (number why))
    → OnValues op values values s r
refused why op values s r is e =
    record { does = λ m returns output h. refused_so m _ values returns output s r why is (e m returns output h) h }

-- it cannot be performed
cannot :
    (op : Operation) (values : List ℕ) (s r : Machine)
    → r ≡ refused_by CannotPerform s
    → Becomes op values s (λ returns output. refuses cannot_perform)
    → OnValues op values values s r
cannot op values s r = refused CannotPerform op values s r

-- it goes on at an address, with the frame's words up to a new top
stays :
    (op : Operation) (values values' : List ℕ) (s r : Machine) (a top : ℕ)
    → Sound s
    → r ≡ moved a top s.read s.written s
    → s.base ≤ top
    → top ≤ value_words
    → length values' ≡ length values
    → Becomes op values s (λ returns output. goes (state_of values' returns output (moved a top s.read s.written s)))
    → OnValues op values values' s r
stays op values values' s r a top sound is based topped long e =
    record {
      does = λ m returns output h.
          let held = held_moved m values returns output values' output s a top s.read s.written h long refl based topped h.read_there h.written_there in
          rw is (goes_so m _ values returns output values' returns output s _ (e m returns output h) sound.going held long refl refl refl);
    }

-- it goes on at the next address, with a word set on top of those that stay
stays_set :
    (op : Operation) (values : List ℕ) (s r : Machine) (i top x : ℕ)
    → Sound s
    → value_words ≤ length values
    → r ≡ next_to top s
    → top ≡ suc i
    → s.base ≤ i
    → i < value_words
    → Becomes op values s
    (λ returns output. goes (to_next (holding (x ∷ words_from values s.base (i - s.base)) (state_of values returns output s))))
    → OnValues op values (set values i x) s r
stays_set op values s r i top x sound lent is above based topped e =
    stays op values (set values i x) s r (s.address + 1) top sound is (omega arith) (omega arith) (length-set values i x)
    (λ m returns output h.
    let n : ℕ = i - s.base in
    let counted : top - s.base ≡ suc n = omega arith in
    let frame = words_pushed values s.base n i x (omega arith) (omega arith) in
    let below = waiting_kept values returns s.base s.saved i x h.chained based in
    e m returns output h ∙ sym (rw (add-one, counted, frame, below)))

-- ---- `push`

module _ (values : List ℕ) (x : ℕ) (s r : Machine) (sound : Sound s) where
  pub push_full : value_words ≤ s.top → r ≡ refused_by CannotPerform s → OnValues (Push x) values values s r
  unfolding operate push_word if_room
  push_full full is =
      cannot (Push x) values s r is
      (λ m returns output h.
      let all = all_standing values returns output s h.chained sound.based in
      rw (if_room, all, h.words_limit, le-ltb _ _ full))

  pub push_room :
      value_words ≤ length values
      → s.top < value_words
      → r ≡ next_to (s.top + 1) s
      → OnValues (Push x) values (set values s.top x) s r
  unfolding operate push_word if_room
  push_room lent fits is =
      stays_set (Push x) values s r s.top (s.top + 1) x sound lent is (omega arith) sound.based fits
      (λ m returns output h.
      let all = all_standing values returns output s h.chained sound.based in
      rw (if_room, all, h.words_limit, lt-ltb _ _ fits))

pub ruleset pushes = (push_full, push_room)

-- ---- `get`

module _ (values : List ℕ) (k : ℕ) (s r : Machine) where
  pub get_missing : s.top - s.base ≤ k → r ≡ refused_by CannotPerform s → OnValues (Get k) values values s r
  unfolding operate
  get_missing few is = cannot (Get k) values s r is (λ m returns output h. rw (operate, word_missing values s.base (s.top - s.base) k few))

  -- a word found is pushed
  pub get_found :
      (values' : List ℕ)
      → k < s.top - s.base
      → OnValues (Push (get_or values (s.base + k) 0)) values values' s r
      → OnValues (Get k) values values' s r
  unfolding operate
  get_found values' there pushed =
      record { does = λ m returns output h. rw (operate, word_found values s.base (s.top - s.base) k there) (pushed.does m returns output h) }

pub ruleset gets = (get_missing, get_found)

-- ---- `add`

module _ (values : List ℕ) (s r : Machine) where
  pub add_missing : s.top - s.base < 2 → r ≡ refused_by CannotPerform s → OnValues Add values values s r
  unfolding operate
  add_missing few is = cannot Add values s r is (λ m returns output h. two_missing values s.base s.top _ few)

  -- the sum of the two words, if it is in range
  module _ (sum : Option ℕ) (sound : Sound s) (there : 2 ≤ s.top - s.base)
      (is_sum : word_in sum ≡ result_of plus (get_or values (s.top - 2) 0) (get_or values (s.top - 1) 0)) where
    pub add_two :
        (x : ℕ)
        → value_words ≤ length values
        → sum ≡ Some x
        → r ≡ next_to (s.top - 1) s
        → OnValues Add values (set values (s.top - 2) x) s r
    unfolding operate push_result
    add_two x lent word is =
        let topped = sound.topped in
        let result = sym is_sum ∙ ap word_in word in
        stays_set Add values s r (s.top - 2) (s.top - 1) x sound lent is (omega arith) (omega arith) (omega arith)
        (λ m returns output h. two_taken values s.base s.top _ (omega arith) ∙ rw (result, push_result))

    pub add_outside : sum ≡ None → r ≡ refused_by OutOfRange s → OnValues Add values values s r
    unfolding operate push_result
    add_outside none_there is =
        let missing = sym is_sum ∙ ap word_in none_there in
        refused OutOfRange Add values s r is
        (λ m returns output h. two_taken values s.base s.top _ (omega arith) ∙ rw (missing, push_result))

pub ruleset adds = (add_missing, add_two, add_outside)

-- ---- `ifnot`

module _ (values : List ℕ) (a : ℕ) (s t : Machine) where
  pub ifnot_missing : s.top ≤ s.base → t ≡ refused_by CannotPerform s → OnValues (Ifnot a) values values s t
  unfolding operate
  ifnot_missing few is = cannot (Ifnot a) values s t is (λ m returns output h. one_missing values s.base s.top _ few)

  module _ (sound : Sound s) (there : s.base < s.top) (is : t ≡ next_to (s.top - 1) s) where
    pub ifnot_goes : (r : Machine) → get_or values (s.top - 1) 0 ≢ 0 → r ≡ jump_to a t → OnValues (Ifnot a) values values s r
    unfolding operate
    ifnot_goes r Some-number jumped =
        let topped = sound.topped in
        stays (Ifnot a) values values s r a (s.top - 1) sound (jumped ∙ ap (jump_to a) is) (omega arith) (omega arith) refl
        (λ m returns output h. one_taken values s.base s.top _ there ∙ rw (ne_eqb _ _ Some-number))

    pub ifnot_stays : get_or values (s.top - 1) 0 ≡ 0 → OnValues (Ifnot a) values values s t
    unfolding operate
    ifnot_stays zero_there =
        let topped = sound.topped in
        stays (Ifnot a) values values s t (s.address + 1) (s.top - 1) sound is (omega arith) (omega arith) refl
        (λ m returns output h. one_taken values s.base s.top _ there ∙ rw (eq-eqb _ _ zero_there, add-one))

pub ruleset ifnots = (ifnot_missing, ifnot_goes, ifnot_stays)

-- ---- `slide`

module _ (values : List ℕ) (s r : Machine) where
  pub slide_missing : s.top - s.base < 2 → r ≡ refused_by CannotPerform s → OnValues Slide values values s r
  unfolding operate
  slide_missing few is = cannot Slide values s r is (λ m returns output h. two_missing values s.base s.top _ few)

  pub slide_two :
      Sound s
      → value_words ≤ length values
      → 2 ≤ s.top - s.base
      → r ≡ next_to (s.top - 1) s
      → OnValues Slide values (set values (s.top - 2) (get_or values (s.top - 1) 0)) s r
  unfolding operate
  slide_two sound lent there is =
      let topped = sound.topped in
      stays_set Slide values s r (s.top - 2) (s.top - 1) _ sound lent is (omega arith) (omega arith) (omega arith)
      (λ m returns output h. two_taken values s.base s.top _ (omega arith))

pub ruleset slides = (slide_missing, slide_two)

-- ---- `drop`

module _ (s r : Machine) where
  pub drop_missing : s.top ≤ s.base → r ≡ refused_by CannotPerform s → OnNumbers Drop s r
  unfolding operate
  drop_missing few is =
      on_numbers Drop s r (λ values. cannot Drop values s r is (λ m returns output h. one_missing values s.base s.top _ few))

  pub drop_top : Sound s → s.base < s.top → r ≡ next_to (s.top - 1) s → OnNumbers Drop s r
  unfolding operate
  drop_top sound there is =
      let topped = sound.topped in
      on_numbers Drop s r
      (λ values.
      stays Drop values values s r (s.address + 1) (s.top - 1) sound is (omega arith) (omega arith) refl
      (λ m returns output h. one_taken values s.base s.top _ there ∙ rw add-one))

pub ruleset drops = (drop_missing, drop_top)
