-- An instruction is refused with 19 exactly where it can't be performed, and closed cases in which
-- another refusal applies as well. The walk over the opcodes also finds the rule by which an
-- instruction is refused with another number, or ends the run (Stopping.antt).
use Prim.Native.Nat.{ℕ, zero, suc, ◌+◌, ◌≤◌, ◌<◌}
use mathlib.Core.Bool.{Bool, true, false}
use mathlib.Core.List.{List, [], ◌∷◌}
use mathlib.Core.Logic.{◌↔◌, ◌≢◌}
use mathlib.Core.Option.{Option, none, some, some-injective, none-ne-some}
use mathlib.Core.Path.{◌≡◌, refl, sym, ap, ◌∙◌}
use native.Mathlib.Decide.{dec_le}
use native.Mathlib.Omega.{arith}
use borrow.Author.Tests.{ltb-true, ltb-false, leb-true, leb-false}
use lib.Dec.{lit<, leb, ltb}
use lib.ListN.{length}
use Rattle.formats.specs.Arithmetic.{Op, result_of}
use Rattle.formats.specs.Refusals.{input_ended, not_a_tag, output_full, too_many_calls, cannot_perform, out_of_range}
use Rattle.formats.specs.Tokens.{label_bytes, Tag, no_byte, a_leaf, a_node, other, tag_at}
use Rattle.formats.specs.Numbers.{bytes_of, number_of, number_at}
use Rattle.formats.specs.Records.{fields, bytes_of_record, record_at, nth}
use Rattle.formats.proofs.Numbers.{length_bytes_of}
use Rattle.formats.proofs.Records.{none_past}
use Rattle.formats.proofs.Tokens.{Look, past, at_other, look}
use Rattle.meaning.specs.Levels.{at_level}
use Rattle.meaning.specs.Instructions.{Instruction, Operation, Push, Get, Compute, Ifnot, Jump, Slide, Drop, LeafTag, NodeTag, WriteNumber, ReadTag, ReadNumber, Call, Return, held_by, operations, operation_of, instruction_of}
use Rattle.meaning.specs.Performing.{Setting, Caller, State, words_below, words_standing, calls_open, Step, goes, ends, refuses}
use Rattle.meaning.specs.Performing.{holding, pop_one, pop_two, if_room, push_word, push_result, write, on_tag, take_number, open_call, kept, number_kept, leave, operate, perform, step}
use Rattle.meaning.specs.Running.{of_code}
use Rattle.meaning.specs.CannotPerform.{words_needed, words_added, Fetches, fetched, CannotPerform, no_instruction, no_operation, return_byte, missing_words, surplus_words}
use Rattle.meaning.specs.Stopping.{Prevented, no_tag, no_label, no_such_tag, no_room_for_leaf, no_room_for_node, no_room_for_number, all_open, no_result, Refused, prevented, ReturnsFirst, none_kept, one_kept}
use Rattle.meaning.proofs.Levels.{level_found, level_below}

-- ---- the outcome of an instruction: refused with 19 where C holds, and nowhere else. R holds of
-- the number of every other refusal, and E of the number with which the run ends

pub data Exactly (C : Type 0) (R E : ℕ → Type 0) : Step → Type 0 where
  stuck : C → Exactly C R E (refuses cannot_perform)
  going : {t : State} → (C → ⊥) → Exactly C R E (goes t)
  ending : {number : ℕ} → E number → (C → ⊥) → Exactly C R E (ends number)
  refused : {number : ℕ} → R number → number ≢ cannot_perform → (C → ⊥) → Exactly C R E (refuses number)

-- the number of a refusal, or 0
unfoldable pub number_in : Step → ℕ
number_in (goes t) = 0
number_in (ends number) = 0
number_in (refuses number) = number

exactly_to : {C : Type 0} {R E : ℕ → Type 0} {r : Step} → Exactly C R E r → r ≡ refuses cannot_perform → C
unfolding number_in
exactly_to (stuck c) e = c
exactly_to (going h) e = let n : 0 ≡ cannot_perform = ap number_in e in absurd (omega arith)
exactly_to (ending x h) e = let n : 0 ≡ cannot_perform = ap number_in e in absurd (omega arith)
exactly_to (refused x differs h) e = absurd (differs (ap number_in e))

exactly_from : {C : Type 0} {R E : ℕ → Type 0} {r : Step} → Exactly C R E r → C → r ≡ refuses cannot_perform
exactly_from (stuck c) d = refl
exactly_from (going h) d = absurd (h d)
exactly_from (ending x h) d = absurd (h d)
exactly_from (refused x differs h) d = absurd (h d)

-- of another condition that holds in the same cases, and of what follows from R and E
exactly_of :
    {C D : Type 0} {R S E F : ℕ → Type 0} {r : Step}
    → (C → D)
    → (D → C)
    → ((number : ℕ) → (D → ⊥) → R number → S number)
    → ((number : ℕ) → E number → F number)
    → Exactly C R E r
    → Exactly D S F r
exactly_of to from numbered end (stuck c) = stuck (to c)
exactly_of to from numbered end (going h) = going (λ d. h (from d))
exactly_of to from numbered end (ending x h) = ending (end _ x) (λ d. h (from d))
exactly_of to from numbered end (refused x differs h) = refused (numbered _ (λ d. h (from d)) x) differs (λ d. h (from d))

module _ {C : Type 0} {R E : ℕ → Type 0} where
  -- where a test fails, 19
  exactly_if :
      (test : Bool) (r : Step)
      → (test ≡ true → Exactly C R E r)
      → (test ≡ false → C)
      → Exactly C R E (elim test [ true ↦ r | false ↦ refuses cannot_perform ])
  exactly_if true r h g = h refl
  exactly_if false r h g = stuck (g refl)

  -- where it fails, something else
  exactly_or : (test : Bool) (r o : Step) → Exactly C R E r → (test ≡ false → Exactly C R E o) → Exactly C R E (elim test [ true ↦ r | false ↦ o ])
  exactly_or true r o h g = h
  exactly_or false r o h g = g refl

  -- one word, or two
  exactly-one :
      (words : List ℕ) (f : ℕ → List ℕ → Step)
      → (length words < 1 → C)
      → ((x : ℕ) (rest : List ℕ) → 1 ≤ length words → Exactly C R E (f x rest))
      → Exactly C R E (pop_one words f)
  unfolding pop_one
  exactly-one [] f g h = stuck (g (omega arith))
  exactly-one (x ∷ rest) f g h = h x rest (omega arith)

  exactly_two :
      (words : List ℕ) (f : ℕ → ℕ → List ℕ → Step)
      → (length words < 2 → C)
      → ((x y : ℕ) (rest : List ℕ) → words ≡ x ∷ (y ∷ rest) → 2 ≤ length words → Exactly C R E (f x y rest))
      → Exactly C R E (pop_two words f)
  unfolding pop_two pop_one
  exactly_two [] f g h = stuck (g (omega arith))
  exactly_two (x ∷ []) f g h = stuck (g (omega arith))
  exactly_two (x ∷ y ∷ rest) f g h = h x y rest refl (omega arith)

-- ---- operations

-- a list has nothing past its end alone
pub past_end : {A : Type 0} (xs : List A) (k : ℕ) → nth xs k ≡ none → length xs ≤ k
unfolding nth
past_end [] k e = omega arith
past_end (x ∷ xs) zero e = absurd (none-ne-some x (sym e))
past_end (x ∷ xs) (suc k) e = let h = past_end xs k e in omega arith

module _ (m : Setting) (s : State) where
  -- what of the rules concerns an operation that has been fetched
  data Cannot (op : Operation) : Type 0 where
    byte : (k : ℕ) → op ≡ Return k → 1 < k → Cannot op
    missing : length s.frame < words_needed op → Cannot op
    surplus : 0 < words_added op → m.most_words < words_standing s + words_added op → Cannot op

  -- a return's byte, or 0
  byte_in : Operation → ℕ
  byte_in (Push x) = 0
  byte_in (Get k) = 0
  byte_in (Compute op) = 0
  byte_in (Ifnot a) = 0
  byte_in (Jump a) = 0
  byte_in Slide = 0
  byte_in Drop = 0
  byte_in LeafTag = 0
  byte_in NodeTag = 0
  byte_in WriteNumber = 0
  byte_in (ReadTag a) = 0
  byte_in ReadNumber = 0
  byte_in (Call entry n) = 0
  byte_in (Return k) = k

  -- none does
  can :
      (op : Operation)
      → byte_in op ≤ 1
      → words_needed op ≤ length s.frame
      → (0 < words_added op → words_standing s + words_added op ≤ m.most_words)
      → Cannot op
      → ⊥
  unfolding byte_in
  can op small enough fits (byte k e h) = let is : byte_in op ≡ k = ap byte_in e in omega arith
  can op small enough fits (missing h) = omega arith
  can op small enough fits (surplus adds h) = let most = fits adds in omega arith

  -- where it adds no word
  can_plain : (op : Operation) → words_added op ≡ 0 → byte_in op ≤ 1 → words_needed op ≤ length s.frame → Cannot op → ⊥
  can_plain op none_added small enough = can op small enough (λ adds. absurd (omega arith))

  -- what is shown of an operation
  abbrev Performs : Operation → Step → Type 0
  Performs op = Exactly (Cannot op) (Prevented m s op) (λ number. Fetches m s op → ReturnsFirst m s number)

  -- room for the word that an operation adds
  exactly_room :
      (op : Operation) (r : Step)
      → words_added op ≡ 1
      → ((0 < words_added op → words_standing s + words_added op ≤ m.most_words) → Performs op r)
      → Performs op (if_room m s r)
  unfolding if_room
  exactly_room op r adds h =
      exactly_if _ r
      (λ e. let below = ltb-true (words_standing s) m.most_words e in h (λ some_added. omega arith))
      (λ e. let full = ltb-false (words_standing s) m.most_words e in surplus (omega arith) (omega arith))

  exactly_push : (op : Operation) (x : ℕ) → words_added op ≡ 1 → byte_in op ≤ 1 → words_needed op ≤ length s.frame → Performs op (push_word m x s)
  unfolding push_word
  exactly_push op x adds small enough = exactly_room op _ adds (λ fits. going (can op small enough fits))

  -- a word of the frame, if there is one
  exactly_get :
      (k : ℕ) (found : Option ℕ)
      → at_level s.frame k ≡ found
      → Performs (Get k) (elim found [ some x ↦ push_word m x s | none ↦ refuses cannot_perform ])
  unfolding words_needed words_added byte_in
  exactly_get k (some x) e = exactly_push (Get k) x refl (omega arith) (level_below s.frame k e)
  exactly_get k none e = stuck (missing (by_count (dec_le (suc k) (length s.frame))))
    where
      by_count : Dec (suc k ≤ length s.frame) → length s.frame < suc k
      by_count (no h) = omega arith
      by_count (yes h) = let f = level_found s.frame k h in absurd (none-ne-some f.entry (sym e ∙ f.is))

  -- the result of two words, if there is one
  exactly_result :
      (op : Op) (q p : ℕ) (rest : List ℕ) (found : Option ℕ)
      → result_of op p q ≡ found
      → s.frame ≡ q ∷ (p ∷ rest)
      → (Cannot (Compute op) → ⊥)
      → Performs (Compute op) (push_result found rest s)
  unfolding push_result
  exactly_result op q p rest (some x) e is h = going h
  exactly_result op q p rest none e is h = refused {number = out_of_range} (no_result is e) (λ e. absurd (omega arith)) h

  -- bytes written, a number read, a call
  exactly_write :
      {C : Type 0} {R E : ℕ → Type 0} (bytes words : List ℕ)
      → (m.space < length s.output + length bytes → R output_full)
      → (C → ⊥)
      → Exactly C R E (write m bytes (holding words s))
  unfolding write
  exactly_write bytes words full h =
      exactly_or (leb (length s.output + length bytes) m.space) _ _ (going h) (λ e. refused {number = output_full} (full (leb-false _ _ e)) (λ e. absurd (omega arith)) h)

  exactly_number : (Cannot ReadNumber → ⊥) → Performs ReadNumber (take_number m s)
  unfolding take_number
  exactly_number h =
      exactly_or (leb (s.read + label_bytes) (length m.input)) _ _ (going h) (λ e. refused {number = input_ended} (no_label (leb-false _ _ e)) (λ e. absurd (omega arith)) h)

  exactly_call : (entry n : ℕ) → (Cannot (Call entry n) → ⊥) → Performs (Call entry n) (open_call m entry n s)
  unfolding open_call
  exactly_call entry n h =
      exactly_or (ltb (calls_open s) m.most_open) _ _ (going h) (λ e. refused {number = too_many_calls} (all_open (ltb-false _ _ e)) (λ e. absurd (omega arith)) h)

  -- a tag read
  exactly_tag : (g : Tag) (a : ℕ) → Look m.input s.read g → (Cannot (ReadTag a) → ⊥) → Performs (ReadTag a) (on_tag g a s)
  unfolding on_tag
  exactly_tag no_byte a (past ends_before) h = refused {number = input_ended} (no_tag ends_before) (λ e. absurd (omega arith)) h
  exactly_tag a_leaf a l h = going h
  exactly_tag a_node a l h = going h
  exactly_tag other a (at_other there no_leaf no_node) h = refused {number = not_a_tag} (no_such_tag there no_leaf no_node) (λ e. absurd (omega arith)) h

  -- a return
  exactly_leave :
      {C : Type 0} {R E : ℕ → Type 0} (cs : List Caller) (words : List ℕ)
      → (cs ≡ [] → E (number_kept words))
      → (C → ⊥)
      → Exactly C R E (leave cs words s)
  unfolding leave
  exactly_leave [] words end h = ending (end refl) h
  exactly_leave (c ∷ cs) words end h = going h

  exactly_return :
      (k : ℕ) (frame : List ℕ)
      → s.frame ≡ frame
      → Performs (Return k) (elim (kept k frame) [ some words ↦ leave s.callers words s | none ↦ refuses cannot_perform ])
  unfolding kept number_kept words_needed words_added byte_in
  exactly_return zero frame e =
      exactly_leave s.callers [] (λ none_waits fetch. none_kept fetch none_waits) (can_plain (Return 0) refl (omega arith) (omega arith))
  exactly_return (suc zero) [] e = let none_there = ap length e in stuck (missing (omega arith))
  exactly_return (suc zero) (x ∷ rest) e =
      let there = ap length e in
      exactly_leave s.callers (x ∷ []) (λ none_waits fetch. one_kept x rest fetch none_waits e) (can_plain (Return 1) refl (omega arith) (omega arith))
  exactly_return (suc (suc k)) frame e = stuck (byte (suc (suc k)) refl (omega arith))

  -- one line for each opcode
  exactly_operate : (op : Operation) → Performs op (operate m s op)
  unfolding operate words_needed words_added byte_in
  exactly_operate (Push x) = exactly_push (Push x) x refl (omega arith) (omega arith)
  exactly_operate (Get k) = exactly_get k (at_level s.frame k) refl
  exactly_operate (Compute op) =
      exactly_two s.frame _ missing
      (λ q p rest is h. exactly_result op q p rest (result_of op p q) refl is (can_plain (Compute op) refl (omega arith) h))
  exactly_operate (Ifnot a) = exactly-one s.frame _ missing (λ x rest h. going (can_plain (Ifnot a) refl (omega arith) h))
  exactly_operate (Jump a) = going (can_plain (Jump a) refl (omega arith) (omega arith))
  exactly_operate Slide = exactly_two s.frame _ missing (λ x under rest is h. going (can_plain Slide refl (omega arith) h))
  exactly_operate Drop = exactly-one s.frame _ missing (λ x rest h. going (can_plain Drop refl (omega arith) h))
  exactly_operate LeafTag = exactly_write _ s.frame no_room_for_leaf (can_plain LeafTag refl (omega arith) (omega arith))
  exactly_operate NodeTag = exactly_write _ s.frame no_room_for_node (can_plain NodeTag refl (omega arith) (omega arith))
  exactly_operate WriteNumber =
      exactly-one s.frame _ missing
      (λ x rest h.
      exactly_write _ rest (λ full. no_room_for_number (rw length_bytes_of at full)) (can_plain WriteNumber refl (omega arith) h))
  exactly_operate (ReadTag a) =
      exactly_tag (tag_at m.input s.read) a (look m.input s.read) (can_plain (ReadTag a) refl (omega arith) (omega arith))
  exactly_operate ReadNumber = exactly_room ReadNumber _ refl (λ fits. exactly_number (can ReadNumber (omega arith) (omega arith) fits))
  exactly_operate (Call entry n) =
      exactly_if _ _
      (λ e. exactly_call entry n (can_plain (Call entry n) refl (omega arith) (leb-true _ _ e)))
      (λ e. missing (leb-false _ _ e))
  exactly_operate (Return k) = exactly_return k s.frame refl

  -- ---- an instruction

  -- an operation that is fetched
  exactly_fetched :
      (i : Instruction) (op : Operation)
      → m.holds s.address ≡ some i
      → operation_of i ≡ some op
      → Exactly (CannotPerform m s) (Refused m s) (ReturnsFirst m s) (operate m s op)
  unfolding operation_of operations
  exactly_fetched i op held is =
      let fetch = fetched i held is in
      exactly_of to from (λ number can p. prevented op number can fetch p) (λ number end. end fetch) (exactly_operate op)
    where
      to : Cannot op → CannotPerform m s
      to (byte k e h) = return_byte k (fetched i held (is ∙ ap some e)) h
      to (missing h) = missing_words op (fetched i held is) h
      to (surplus adds h) = surplus_words op (fetched i held is) adds h

      same : (op' : Operation) → Fetches m s op' → op' ≡ op
      same op' (fetched j holds names) =
          let alike : i ≡ j = some-injective i j (sym held ∙ holds) in
          some-injective op' op (sym names ∙ ap operation_of (sym alike) ∙ is)

      from : CannotPerform m s → Cannot op
      from (no_instruction e) = absurd (none-ne-some i (sym e ∙ held))
      from (no_operation opcode byte1 operand number e above) =
          let alike : i ≡ fields opcode byte1 operand number = some-injective i _ (sym held ∙ e) in
          let none_named : operation_of (fields opcode byte1 operand number) ≡ none = none_past (operations byte1 operand number) opcode (omega arith) in
          absurd (none-ne-some op (sym none_named ∙ ap operation_of (sym alike) ∙ is))
      from (return_byte k f h) = byte k (sym (same (Return k) f)) h
      from (missing_words op' f h) = missing (rw (same op' f) at h)
      from (surplus_words op' f adds h) = surplus (rw (same op' f) at adds) (rw (same op' f) at h)

  -- an opcode that names none
  no_name : (i : Instruction) → m.holds s.address ≡ some i → operation_of i ≡ none → CannotPerform m s
  unfolding operation_of operations
  no_name (fields opcode byte1 operand number) holds names =
      no_operation opcode byte1 operand number holds (past_end (operations byte1 operand number) opcode names)

  exactly_perform : (i : Instruction) → m.holds s.address ≡ some i → Exactly (CannotPerform m s) (Refused m s) (ReturnsFirst m s) (perform m s i)
  unfolding perform
  exactly_perform i held = by_operation (operation_of i) refl
    where
      by_operation :
          (o : Option Operation)
          → operation_of i ≡ o
          → Exactly (CannotPerform m s) (Refused m s) (ReturnsFirst m s) (elim o [ some op ↦ operate m s op | none ↦ refuses cannot_perform ])
      by_operation (some op) e = exactly_fetched i op held e
      by_operation none e = stuck (no_name i held e)

  pub exactly_step : Exactly (CannotPerform m s) (Refused m s) (ReturnsFirst m s) (step m s)
  unfolding step
  exactly_step = by_holds (m.holds s.address) refl
    where
      by_holds :
          (o : Option Instruction)
          → m.holds s.address ≡ o
          → Exactly (CannotPerform m s) (Refused m s) (ReturnsFirst m s) (elim o [ some i ↦ perform m s i | none ↦ refuses cannot_perform ])
      by_holds (some i) e = exactly_perform i e
      by_holds none e = stuck (no_instruction e)

  pub cannot_first : (step m s ≡ refuses cannot_perform) ↔ CannotPerform m s
  cannot_first = (exactly_to exactly_step, exactly_from exactly_step)

-- ---- closed cases

-- One operation as code, with the limits of 01, Limits, no input and no output: whatever reads or
-- writes is refused with 15 or 17.
alone : Operation → Setting
alone op = of_code (bytes_of_record (instruction_of op)) [] 0

-- So many words, all 0; so many frames that wait, each without words.
unfoldable pub zero_words : ℕ → List ℕ
zero_words zero = []
zero_words (suc n) = 0 ∷ zero_words n

unfoldable pub waiting : ℕ → List Caller
waiting zero = []
waiting (suc n) = record { back = 0; words = [] } ∷ waiting n

-- At address 0, with so many words and so many frames that wait.
unfoldable pub standing_at : ℕ → ℕ → State
standing_at words calls = record { address = 0; frame = zero_words words; callers = waiting calls; read = 0; output = [] }

-- What an operation is refused with there.
refusal-of : Operation → ℕ → ℕ → ℕ
refusal-of op words calls = number_in (step (alone op) (standing_at words calls))

-- The input has ended: 19 where 16,384 words stand already, else 15. The output is full: 19 where
-- the number is missing, else 17. 1,024 calls are open: 19 where an argument is missing, else 18.
-- (A read tag, which alone is refused with 16, neither needs a word nor adds one.)
both_apply :
    refusal-of ReadNumber 16384 0 ∷ refusal-of ReadNumber 16383 0 ∷ refusal-of WriteNumber 0 0 ∷ refusal-of WriteNumber 1 0 ∷ refusal-of (Call 0 1) 0 1023
    ∷ refusal-of (Call 0 1) 1 1023 ∷ []
    ≡ 19 ∷ 15 ∷ 19 ∷ 17 ∷ 19 ∷ 18 ∷ []
unfolding refusal-of number_in alone standing_at waiting step perform operate held_by operation_of operations instruction_of nth record_at bytes_of_record bytes_of number_of number_at words_standing words_below calls_open pop_one if_room write take_number open_call zero_words
both_apply = refl

-- a derivation by each rule
stack_full : CannotPerform (alone ReadNumber) (standing_at 16384 0)
unfolding alone standing_at waiting held_by operation_of operations instruction_of nth record_at bytes_of_record bytes_of number_of number_at words_standing words_below words_added zero_words
stack_full = surplus_words ReadNumber (fetched (instruction_of ReadNumber) refl refl) (lit< tt) (lit< tt)

number_missing : CannotPerform (alone WriteNumber) (standing_at 0 0)
unfolding alone standing_at waiting held_by operation_of operations instruction_of nth record_at bytes_of_record bytes_of number_of number_at words_needed zero_words
number_missing = missing_words WriteNumber (fetched (instruction_of WriteNumber) refl refl) (lit< tt)

argument_missing : CannotPerform (alone (Call 0 1)) (standing_at 0 1023)
unfolding alone standing_at waiting held_by operation_of operations instruction_of nth record_at bytes_of_record bytes_of number_of number_at words_needed zero_words
argument_missing = missing_words (Call 0 1) (fetched (instruction_of (Call 0 1)) refl refl) (lit< tt)

two_kept : CannotPerform (alone (Return 2)) (standing_at 2 0)
unfolding alone standing_at waiting held_by operation_of operations instruction_of nth record_at bytes_of_record bytes_of number_of number_at zero_words
two_kept = return_byte 2 (fetched (instruction_of (Return 2)) refl refl) (lit< tt)

opcode_14 : CannotPerform (of_code (bytes_of_record (fields 14 0 0 0)) [] 0) (standing_at 0 0)
unfolding standing_at waiting held_by record_at bytes_of_record bytes_of number_of number_at zero_words
opcode_14 = no_operation 14 0 0 0 refl (lit< tt)

no_code : CannotPerform (of_code [] [] 0) (standing_at 0 0)
unfolding standing_at held_by
no_code = no_instruction refl
