-- An instruction is refused with a number, or the run ends with one, exactly where a rule of
-- specs/Stopping says so. One way is found by the walk over the opcodes (`exactly_step`). The other
-- way is a computation for each rule: a test that gives 19 is passed, because the instruction can
-- be performed.
use Prim.Native.Nat.{ℕ, suc}
use mathlib.Core.Bool.{Bool, true, false}
use mathlib.Core.List.{List, [], ◌∷◌, map}
use mathlib.Core.Logic.{◌↔◌}
use mathlib.Core.Path.{◌≡◌, refl, ap, subst, ◌∙◌}
use native.Mathlib.Omega.{arith}
use borrow.Author.Tests.{le-ltb, lt-leb}
use lib.Dec.{leb, ltb}
use lib.ListN.{length}
use Rattle.formats.specs.Refusals.{input_ended, not_a_tag, output_full, too_many_calls, cannot_perform, out_of_range}
use Rattle.formats.specs.Tokens.{label_bytes, tag_of, tag_at}
use Rattle.formats.specs.Numbers.{bytes_of, number_of, number_at, signed32}
use Rattle.formats.specs.Arithmetic.{unbounded, word_for, result_of}
use Rattle.formats.specs.Records.{nth, bytes_of_record, record_at}
use Rattle.formats.proofs.Numbers.{length_bytes_of}
use Rattle.formats.proofs.Tokens.{past, at_other, tag_is}
use Rattle.meaning.specs.Instructions.{Operation, Add, LeafTag, NodeTag, WriteNumber, ReadTag, ReadNumber, Call, Return, held_by, operations, operation_of, instruction_of}
use Rattle.meaning.specs.Performing.{Setting, State, words_below, words_standing, calls_open, Step, goes, ends, refuses}
use Rattle.meaning.specs.Performing.{pop_one, pop_two, if_room, push_result, write, on_tag, take_number, open_call, kept, number_kept, leave, operate, perform, step}
use Rattle.meaning.specs.Running.{of_code}
use Rattle.meaning.specs.CannotPerform.{Fetches, fetched, CannotPerform}
use Rattle.meaning.specs.Stopping.{Prevented, no_tag, no_label, no_such_tag, no_room_for_leaf, no_room_for_node, no_room_for_number, all_open, no_result, Refused, cannot, prevented, ReturnsFirst, none_kept, one_kept}
use Rattle.meaning.proofs.CannotPerform.{Exactly, stuck, going, ending, refused, exactly_step, cannot_first, number_in, zero_words, waiting, standing_at}

module _ (m : Setting) (s : State) where
  -- ---- from the outcome of an instruction to a rule

  abbrev ByRule : Step → Type 0
  ByRule (goes t) = Unit {0}
  ByRule (ends number) = ReturnsFirst m s number
  ByRule (refuses number) = Refused m s number

  by_rule : {r : Step} → Exactly (CannotPerform m s) (Refused m s) (ReturnsFirst m s) r → ByRule r
  by_rule (stuck c) = cannot c
  by_rule (going h) = tt
  by_rule (ending x h) = x
  by_rule (refused x differs h) = x

  -- ---- from a rule to the outcome of the instruction

  step_fetched : {op : Operation} → Fetches m s op → step m s ≡ operate m s op
  unfolding step perform
  step_fetched (fetched i held is) = rw (step, held, perform, is)

  -- a test that gives 19, a word that must be there
  passed_test :
      {number : ℕ} (test : Bool) (r : Step)
      → (CannotPerform m s → ⊥)
      → step m s ≡ elim test [ true ↦ r | false ↦ refuses cannot_perform ]
      → r ≡ refuses number
      → step m s ≡ refuses number
  passed_test true r can e is = e ∙ is
  passed_test false r can e is = absurd (can ((cannot_first m s).0 e))

  finished_one :
      {number : ℕ} (words : List ℕ) (f : ℕ → List ℕ → Step)
      → (CannotPerform m s → ⊥)
      → step m s ≡ pop_one words f
      → ((x : ℕ) (rest : List ℕ) → f x rest ≡ refuses number)
      → step m s ≡ refuses number
  unfolding pop_one
  finished_one [] f can e is = absurd (can ((cannot_first m s).0 e))
  finished_one (x ∷ rest) f can e is = e ∙ is x rest

  stops : {op : Operation} {number : ℕ} → (CannotPerform m s → ⊥) → Fetches m s op → Prevented m s op number → step m s ≡ refuses number
  unfolding operate pop_one pop_two push_result if_room write on_tag take_number open_call
  stops can f (no_tag h) = step_fetched f ∙ simp (operate, on_tag, tag_is {s = m.input} {p = s.read} (past h))
  stops can f (no_such_tag there no_leaf no_node) = step_fetched f ∙ simp (operate, on_tag, tag_is {s = m.input} {p = s.read} (at_other there no_leaf no_node))
  stops can f (no_label h) = passed_test (ltb (words_standing s) m.most_words) (take_number m s) can (step_fetched f) (simp (take_number, lt-leb _ _ h))
  stops can f (no_room_for_leaf h) = step_fetched f ∙ simp (operate, write, lt-leb _ _ h)
  stops can f (no_room_for_node h) = step_fetched f ∙ simp (operate, write, lt-leb _ _ h)
  stops can f (no_room_for_number h) =
      finished_one s.frame _ can (step_fetched f) (λ x rest. simp (write, length_bytes_of label_bytes x, lt-leb _ _ h))
  stops can f (all_open {entry = entry} {n = n} h) =
      passed_test (leb n (length s.frame)) (open_call m entry n s) can (step_fetched f) (simp (open_call, le-ltb _ _ h))
  stops can f (no_result is missing) = step_fetched f ∙ simp (operate, is, missing)

  stops_so : {number : ℕ} → Refused m s number → step m s ≡ refuses number
  stops_so (cannot c) = (cannot_first m s).1 c
  stops_so (prevented op number can f p) = stops can f p

  returns_so : {number : ℕ} → ReturnsFirst m s number → step m s ≡ ends number
  unfolding operate kept number_kept leave
  returns_so (none_kept f none_waits) = step_fetched f ∙ simp (operate, kept, leave, none_waits)
  returns_so (one_kept x rest f none_waits word) = step_fetched f ∙ simp (operate, kept, leave, word, none_waits)

  -- ---- both ways

  pub refused_exactly : (number : ℕ) → (step m s ≡ refuses number) ↔ Refused m s number
  refused_exactly number = (λ e. subst ByRule e (by_rule (exactly_step m s)), stops_so)

  pub ends_exactly : (number : ℕ) → (step m s ≡ ends number) ↔ ReturnsFirst m s number
  ends_exactly number = (λ e. subst ByRule e (by_rule (exactly_step m s)), returns_so)

-- ---- closed cases

-- One operation as code, with the limits of 01, Limits.
alone_with : Operation → List ℕ → ℕ → Setting
alone_with op input space = of_code (bytes_of_record (instruction_of op)) input space

-- What it is refused with, and 0 where it is not, with so many words in the frame, all 0, and so
-- many frames that wait.
refused-with : Operation → List ℕ → ℕ → ℕ → ℕ → ℕ
refused-with op input space words calls = number_in (step (alone_with op input space) (standing_at words calls))

-- Each rule, and the nearest case in which it does not hold.
at_the_limits :
    refused-with (ReadTag 0) [] 0 0 0 ∷ refused-with (ReadTag 0) (1 ∷ []) 0 0 0
    ∷ refused-with ReadNumber (5 ∷ 0 ∷ 0 ∷ []) 0 0 0 ∷ refused-with ReadNumber (5 ∷ 0 ∷ 0 ∷ 0 ∷ []) 0 0 0
    ∷ refused-with (ReadTag 0) (3 ∷ []) 0 0 0 ∷ refused-with (ReadTag 0) (2 ∷ []) 0 0 0
    ∷ refused-with LeafTag [] 0 0 0 ∷ refused-with LeafTag [] 1 0 0 ∷ refused-with NodeTag [] 0 0 0 ∷ refused-with NodeTag [] 1 0 0
    ∷ refused-with WriteNumber [] 3 1 0 ∷ refused-with WriteNumber [] 4 1 0
    ∷ refused-with (Call 0 0) [] 0 0 1023 ∷ refused-with (Call 0 0) [] 0 0 1022 ∷ []
    ≡ 15 ∷ 0 ∷ 15 ∷ 0 ∷ 16 ∷ 0 ∷ 17 ∷ 0 ∷ 17 ∷ 0 ∷ 17 ∷ 0 ∷ 18 ∷ 0 ∷ []
unfolding refused-with alone_with number_in standing_at waiting zero_words step perform operate held_by operation_of operations instruction_of nth record_at bytes_of_record bytes_of number_of number_at words_standing words_below calls_open pop_one if_room write take_number on_tag tag_at tag_of open_call
at_the_limits = refl

-- so there are derivations by each rule
derivations :
    Refused (alone_with (ReadTag 0) [] 0) (standing_at 0 0) input_ended
    × Refused (alone_with ReadNumber (5 ∷ 0 ∷ 0 ∷ []) 0) (standing_at 0 0) input_ended
    × Refused (alone_with (ReadTag 0) (3 ∷ []) 0) (standing_at 0 0) not_a_tag
    × Refused (alone_with LeafTag [] 0) (standing_at 0 0) output_full
    × Refused (alone_with NodeTag [] 0) (standing_at 0 0) output_full
    × Refused (alone_with WriteNumber [] 3) (standing_at 1 0) output_full
    × Refused (alone_with (Call 0 0) [] 0) (standing_at 0 1023) too_many_calls
unfolding alone_with standing_at waiting zero_words step perform operate held_by operation_of operations instruction_of nth record_at bytes_of_record bytes_of number_of number_at words_standing words_below calls_open pop_one if_room write take_number on_tag tag_at tag_of open_call
derivations = (
  (refused_exactly _ _ _).0 refl,
  (refused_exactly _ _ _).0 refl,
  (refused_exactly _ _ _).0 refl,
  (refused_exactly _ _ _).0 refl,
  (refused_exactly _ _ _).0 refl,
  (refused_exactly _ _ _).0 refl,
  (refused_exactly _ _ _).0 refl,
)

-- At address 0 in the first frame, with these words.
holding_words : List ℕ → State
holding_words words = record { address = 0; frame = words; callers = []; read = 0; output = [] }

-- An add at the limits of 32 bits: what it is refused with, and 0 where it is not. 4294967295 is
-- −1. Where a word is missing it is 19, whatever the other is.
sum_limits :
    map (λ words. number_in (step (alone_with Add [] 0) (holding_words words)))
    ((0 ∷ 2147483647 ∷ []) ∷ (1 ∷ 2147483647 ∷ []) ∷ (2147483647 ∷ 1 ∷ []) ∷ (0 ∷ 2147483648 ∷ []) ∷ (4294967295 ∷ 2147483648 ∷ [])
    ∷ (4294967295 ∷ 1 ∷ []) ∷ (2147483647 ∷ []) ∷ [] ∷ [])
    ≡ 0 ∷ 21 ∷ 21 ∷ 0 ∷ 21 ∷ 0 ∷ 19 ∷ 19 ∷ []
unfolding alone_with holding_words number_in step perform operate held_by operation_of operations instruction_of nth record_at bytes_of_record bytes_of number_of number_at pop_one pop_two push_result result_of unbounded word_for signed32
sum_limits = refl

sum_refused : Refused (alone_with Add [] 0) (holding_words (1 ∷ 2147483647 ∷ [])) out_of_range
unfolding alone_with holding_words step perform operate held_by operation_of operations instruction_of nth record_at bytes_of_record bytes_of number_of number_at pop_one pop_two push_result result_of unbounded word_for signed32
sum_refused = (refused_exactly _ _ _).0 refl

-- At address 0 in the first frame, with two words.
first_frame : State
first_frame = record { address = 0; frame = 5 ∷ 7 ∷ []; callers = []; read = 0; output = [] }

-- The first frame's return ends the run, with the top word, or with 0 if none is kept ..
returned_none : ReturnsFirst (alone_with (Return 0) [] 0) first_frame 0
unfolding alone_with first_frame held_by operation_of operations instruction_of nth record_at bytes_of_record bytes_of number_of number_at
returned_none = none_kept (fetched (instruction_of (Return 0)) refl refl) refl

returned_one : ReturnsFirst (alone_with (Return 1) [] 0) first_frame 5
unfolding alone_with first_frame held_by operation_of operations instruction_of nth record_at bytes_of_record bytes_of number_of number_at
returned_one = one_kept 5 (7 ∷ []) (fetched (instruction_of (Return 1)) refl refl) refl refl

-- .. and the return of another frame does not.
goes_back : (number : ℕ) → ReturnsFirst (alone_with (Return 0) [] 0) (standing_at 0 1) number → ⊥
unfolding standing_at waiting
goes_back number (none_kept f none_waits) = let one_waits : suc 0 ≡ 0 = ap length none_waits in omega arith
goes_back number (one_kept x rest f none_waits word) = let one_waits : suc 0 ≡ 0 = ap length none_waits in omega arith
