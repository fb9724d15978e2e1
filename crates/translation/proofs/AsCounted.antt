-- `MovesWords` is what the machine does with the words of a frame, in a step that neither opens a
-- call nor leaves one: shown opcode by opcode.
use Prim.Native.Nat.{ℕ, suc, ◌+◌}
use mathlib.Core.Bool.{Bool, true, false}
use mathlib.Core.List.{List, [], ◌∷◌}
use mathlib.Core.Option.{Option, none, some}
use mathlib.Core.Path.{◌≡◌, refl, ap, subst}
use native.Mathlib.Omega.{arith}
use lib.Dec.{eqb, ltb, leb}
use lib.ListN.{length, take, drop as drop-words}
use Rattle.formats.specs.Arithmetic.{result_of}
use Rattle.formats.specs.Tokens.{leaf_tag, node_tag, label_bytes, tag_at, Tag, no_byte, a_leaf, a_node, other}
use Rattle.formats.specs.Refusals.{cannot_perform, output_full, too_many_calls, input_ended}
use Rattle.formats.specs.Programs.{Program}
use Rattle.meaning.specs.Levels.{at_level}
use Rattle.formats.specs.Numbers.{bytes_of, number_at}
use Rattle.meaning.specs.Instructions.{Operation, Push, Get, Compute, Ifnot, Jump, Slide, Drop, LeafTag, NodeTag, WriteNumber, ReadTag, ReadNumber, Call, Return}
use Rattle.meaning.specs.Performing.{Setting, Caller, State, Step, goes, ends, refuses, if_room, push_result, write, on_tag, take_number, kept, leave, operate}
use Rattle.meaning.specs.Performing.{push_word as pushed, open_call as calls, calling, go_to, writing, holding, reading, calls_open, words_standing}
use Rattle.meaning.proofs.Steps.{holds_if, holds_some, holds_one, holds_two}
use Rattle.translation.specs.CodeLimits.{MovesWords, by_push, by_get, by_compute, by_ifnot_zero, by_ifnot_other, by_jump, by_slide, by_drop, by_leaf_tag, by_node_tag, by_write_number, by_read_leaf, by_read_node, by_read_number}

module _ (program : Program) (m : Setting) (s : State) where
  -- What is to be shown of each outcome of an instruction.
  abbrev Led : Operation → Step → Type 0
  Led op (goes t) =
      length t.callers ≡ length s.callers → MovesWords program op s.address (length s.frame) t.address (length t.frame)
  Led op (ends n) = Unit {0}
  Led op (refuses n) = Unit {0}

  -- a state that comes next if a test passes
  led_goes : (op : Operation) (test : Bool) (t : State) (n : ℕ)
      → MovesWords program op s.address (length s.frame) t.address (length t.frame)
      → Led op (elim test [ true ↦ goes t | false ↦ refuses n ])
  led_goes op test t n h = holds_if (Led op) test (goes t) (refuses n) (λ passed same. h) tt

  -- a word pushed, bytes written
  led_push : (op : Operation) (x : ℕ) → MovesWords program op s.address (length s.frame) (suc s.address) (suc (length s.frame)) → Led op (pushed m x s)
  unfolding pushed if_room
  led_push op x h = led_goes op (ltb (words_standing s) m.most_words) (go_to (suc s.address) (holding (x ∷ s.frame) s)) cannot_perform h

  led_write : (op : Operation) (bytes words : List ℕ) → MovesWords program op s.address (length s.frame) (suc s.address) (length words)
      → Led op (write m bytes (holding words s))
  unfolding write
  led_write op bytes words h =
      led_goes op (leb (length s.output + length bytes) m.space) (go_to (suc s.address) (writing bytes (holding words s))) output_full h

  -- one line for each opcode; a call opens a frame, and a return leaves one
  leads_so : (op : Operation) → Led op (operate m s op)
  unfolding operate if_room push_result on_tag take_number calls leave
  leads_so (Push x) = led_push (Push x) x by_push
  leads_so (Get k) = holds_some (Led (Get k)) (at_level s.frame k) (λ x. pushed m x s) tt (λ x. led_push (Get k) x by_get)
  leads_so (Compute op) = holds_two (Led (Compute op)) s.frame _ tt (λ x y rest e. by_result rest e (result_of op y x))
    where
      by_result : (rest : List ℕ) → length s.frame ≡ suc (suc (length rest)) → (found : Option ℕ) → Led (Compute op) (push_result found rest s)
      by_result rest e none = tt
      by_result rest e (some x) = λ c. rw e by_compute
  leads_so (Ifnot a) = holds_one (Led (Ifnot a)) s.frame _ tt (λ x rest e c. rw e (by_test a (eqb x 0) rest))
    where
      by_test : (a : ℕ) (b : Bool) (rest : List ℕ)
          → MovesWords program (Ifnot a) s.address (suc (length rest)) (elim b [ true ↦ suc s.address | false ↦ a ]) (length rest)
      by_test a true rest = by_ifnot_zero
      by_test a false rest = by_ifnot_other
  leads_so (Jump a) = λ e. by_jump
  leads_so Slide = holds_two (Led Slide) s.frame _ tt (λ x y rest e c. rw e by_slide)
  leads_so Drop = holds_one (Led Drop) s.frame _ tt (λ x rest e c. rw e by_drop)
  leads_so LeafTag = led_write LeafTag (leaf_tag ∷ []) s.frame by_leaf_tag
  leads_so NodeTag = led_write NodeTag (node_tag ∷ []) s.frame by_node_tag
  leads_so WriteNumber =
      holds_one (Led WriteNumber) s.frame (λ x rest. write m (bytes_of label_bytes x) (holding rest s)) tt
      (λ x rest e. led_write WriteNumber (bytes_of label_bytes x) rest (rw e by_write_number))
  leads_so (ReadTag a) = by_tag a (tag_at m.input s.read)
    where
      by_tag : (a : ℕ) (t : Tag) → Led (ReadTag a) (on_tag t a s)
      by_tag a no_byte = tt
      by_tag a a_leaf = λ e. by_read_leaf
      by_tag a a_node = λ e. by_read_node
      by_tag a other = tt
  leads_so ReadNumber =
      let read = go_to (suc s.address) (reading label_bytes (holding (number_at label_bytes m.input s.read ∷ s.frame) s)) in
      holds_if (Led ReadNumber) (ltb (words_standing s) m.most_words) (take_number m s) (refuses cannot_perform)
      (λ passed. led_goes ReadNumber (leb (s.read + label_bytes) (length m.input)) read input_ended by_read_number)
      tt
  leads_so (Call b n) =
      holds_if (Led (Call b n)) (leb n (length s.frame)) (calls m b n s) (refuses cannot_perform)
      (λ passed. no_call b n (ltb (calls_open s) m.most_open)) tt
    where
      no_call : (b n : ℕ) (test : Bool)
          → Led (Call b n) (elim test [ true ↦ goes (calling b (take n s.frame) (drop-words n s.frame) s) | false ↦ refuses too_many_calls ])
      no_call b n true = λ (e : suc (length s.callers) ≡ length s.callers). absurd (omega arith)
      no_call b n false = tt
  leads_so (Return k) = by_kept k (kept k s.frame)
    where
      by_left : (k : ℕ) (words : List ℕ) (cs : List Caller) → s.callers ≡ cs → Led (Return k) (leave cs words s)
      by_left k words [] e = tt
      by_left k words (c ∷ cs) e = λ (d : length cs ≡ length s.callers). absurd (omega (arith, ap length e))

      by_kept : (k : ℕ) (o : Option (List ℕ)) → Led (Return k) (elim o [ some words ↦ leave s.callers words s | none ↦ refuses cannot_perform ])
      by_kept k none = tt
      by_kept k (some words) = by_left k words s.callers refl

-- a step that neither opens a call nor leaves one
pub as_counted :
    (program : Program) (m : Setting) (s t : State) (op : Operation)
    → operate m s op ≡ goes t
    → length t.callers ≡ length s.callers
    → MovesWords program op s.address (length s.frame) t.address (length t.frame)
as_counted program m s t op e = subst (Led program m s op) e (leads_so program m s op)
