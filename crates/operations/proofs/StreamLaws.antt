-- What the operations on the output and the input do: a law for each way out of `write_tag`,
-- `write_number`, `read_tag` and `read_number`.
use Prim.Native.Nat.{ℕ, suc, ◌+◌, ◌-◌, ◌≤◌, ◌<◌}
use mathlib.Core.List.{List, [], ◌∷◌}
use mathlib.Core.Logic.{◌≢◌}
use mathlib.Core.Path.{◌≡◌, refl, ap, ◌∙◌}
use native.Mathlib.Nat.{le_refl}
use native.Mathlib.Numerals.{add-one}
use native.Mathlib.Omega.{arith}
use borrow.Author.Tests.{le-leb, lt-leb, lt-ltb, le-ltb}
use lib.ListN.{length, get_or, set, take, drop, length-set}
use borrow.Rule.Slice.PartMut.{put_mid}
use Rattle.std.specs.Int.{w32, from_le_bytes, to_le_bytes}
use Rattle.std.specs.Array.{IsFirstChunk}
use Rattle.std.proofs.lemmas.List.{length-drop, take_all}
use Rattle.words.proofs.Bytes.{four_read}
use Rattle.writing.proofs.Placed.{place, four_bytes_of, as_bytes}
use lib.Seq.{length-take-le}
use Rattle.formats.specs.Numbers.{bytes_of, number_at}
use Rattle.formats.specs.Refusals.{output_full}
use Rattle.formats.specs.Tokens.{leaf_tag, node_tag, label_bytes, Tag, no_byte, a_leaf, a_node, other, tag_at}
use Rattle.formats.specs.Written.{written}
use Rattle.formats.proofs.Tokens.{past, at_leaf, at_node, at_other, tag_is}
use Rattle.formats.proofs.Written.{front_written, after_written, written_one, wrote}
use Rattle.meaning.specs.Instructions.{WriteNumber, ReadTag, ReadNumber}
use Rattle.meaning.specs.Performing.{Setting, State, Step, goes, refuses, to_next, holding, writing, words_standing}
use Rattle.meaning.specs.Performing.{if_room, write, on_tag, take_number, operate}
use Rattle.meaning.specs.Running.{value_words}
use Rattle.machine_state.specs.declared.Machine.{Machine}
use Rattle.refusal.specs.Inner.Numbers.{number}
use Rattle.refusal.specs.declared.Refusal.{Refusal}
use Rattle.refusal.specs.declared.Refusal.TheVariants.{InputEnded, NotATag, OutputFull, CannotPerform}
use Rattle.machine_state.specs.declared.Stop.TheVariants.{GoesOn}
use Rattle.machine_state.specs.Inner.States.{words_from, frame_of, state_of, Sound, Held, refused_by, next_to, jump_to}
use Rattle.operations.specs.Inner.Effects.{Does, WritesTag, OnOutput, FromInput, OnInput}
use Rattle.operations.proofs.Frames.{words_pushed, one_missing, one_taken, waiting_kept, all_standing}
use Rattle.operations.proofs.Effects.{moved, held_moved, refused_so, goes_so}

-- ---- bytes to the output

-- the bytes written are as many as the machine counts
length_out :
    (m : Setting) (values returns output : List ℕ) (s : Machine)
    → Held m values returns output s
    → length (take s.written output) ≡ s.written
length_out m values returns output s h = length-take-le s.written output h.written_there

-- bytes do not fit after those written
full_so :
    (m : Setting) (values returns output bytes words : List ℕ) (s : Machine)
    → Held m values returns output s
    → length output < s.written + length bytes
    → write m bytes (holding words (state_of values returns output s)) ≡ refuses output_full
unfolding write
full_so m values returns output bytes words s h full =
    let over : m.space < length (take s.written output) + length bytes = rw (length_out m values returns output s h, h.space_is) full in
    rw (write, lt-leb _ _ over)

-- bytes that fit are written, with the frame's words up to a new top
writes_so :
    (m : Setting) (due : Step) (values returns output bytes : List ℕ) (s : Machine) (top : ℕ)
    → due ≡ write m bytes (holding (words_from values s.base (top - s.base)) (state_of values returns output s))
    → Held m values returns output s
    → s.stop ≡ GoesOn
    → s.base ≤ top
    → top ≤ s.top
    → s.written + length bytes ≤ length output
    → Does m due values returns output values returns (written output s.written bytes) s
    (moved (s.address + 1) top s.read (s.written + length bytes) s)
unfolding write
writes_so m due values returns output bytes s top e h going based fewer fits =
    let output' = written output s.written bytes in
    let keeps = (wrote output s.written bytes).same_length in
    let r = moved (s.address + 1) top s.read (s.written + length bytes) s in
    let t = holding (words_from values s.base (top - s.base)) (state_of values returns output s) in
    let inside : length (take s.written output) + length bytes ≤ m.space = rw (length_out m values returns output s h, h.space_is) fits in
    let passed : write m bytes t ≡ goes (to_next (writing bytes t)) = rw (write, le-leb _ _ inside) in
    let state : goes (to_next (writing bytes t)) ≡ goes (state_of values returns output' r) =
    rw (front_written output s.written bytes fits, add-one s.address) in
    goes_so m due values returns output values returns output' s r (e ∙ passed ∙ state) going
    (held_moved m values returns output values output' s _ top _ _ h refl keeps based (omega (arith, h.topped)) h.read_there fits)
    refl refl keeps (after_written output s.written bytes fits)

-- ---- `write_tag`

module _ (tag : ℕ) (output : List ℕ) (s r : Machine) where
  -- the byte does not fit
  pub tag_full : length output ≤ s.written → r ≡ refused_by OutputFull s → WritesTag tag output output s r
  tag_full full is = record {
    does = λ m values returns h.
        refused_so m _ values returns output s r OutputFull is (full_so m values returns output (tag ∷ []) _ s h (omega arith)) h;
  }

  -- it fits
  pub tag_fits :
      s.written < length output
      → Sound s
      → r ≡ next_to s.top s
      → WritesTag tag output (set output s.written tag) s (moved r.address r.top r.read (s.written + 1) r)
  tag_fits fits sound is = record {
    does = λ m values returns h.
        rw (is, written_one output s.written tag fits)
        (writes_so m _ values returns output (tag ∷ []) s s.top refl h sound.going sound.based (le_refl _) (omega arith));
  }

pub ruleset tags = (tag_full, tag_fits)

-- ---- `write_number`

module _ (values output : List ℕ) (s r : Machine) where
  -- no word, which comes first
  pub number_missing : s.top ≤ s.base → r ≡ refused_by CannotPerform s → OnOutput WriteNumber values output output s r
  unfolding operate
  number_missing none is = record {
    does = λ m returns h.
        refused_so m _ values returns output s r CannotPerform is (one_missing values s.base s.top _ none) h;
  }

  module _ (some : s.base < s.top) where
    -- the word's bytes do not fit
    pub number_full :
        length output - s.written < label_bytes
        → r ≡ refused_by OutputFull s
        → OnOutput WriteNumber values output output s r
    unfolding operate bytes_of
    number_full full is = record {
      does = λ m returns h.
          let bytes = bytes_of label_bytes (get_or values (s.top - 1) 0) in
          let over = full_so m values returns output bytes _ s h (omega arith) in
          refused_so m _ values returns output s r OutputFull is (one_taken values s.base s.top _ some ∙ over) h;
    }

    -- they fit, and are written after the others
    pub number_written :
        (output' : List ℕ)
        → label_bytes ≤ length output - s.written
        → output' ≡ written output s.written (bytes_of label_bytes (get_or values (s.top - 1) 0))
        → Sound s
        → r ≡ next_to (s.top - 1) s
        → OnOutput WriteNumber values output output' s (moved r.address r.top r.read (s.written + label_bytes) r)
    unfolding operate bytes_of
    number_written output' fits out sound is = record {
      does = λ m returns h.
          rw (is, out)
          (writes_so m _ values returns output (bytes_of label_bytes (get_or values (s.top - 1) 0)) s (s.top - 1)
          (one_taken values s.base s.top _ some) h sound.going (omega arith) (omega arith) (omega arith));
    }

    -- so they are where they are put in place of four bytes there
    pub number_fits :
        (bytes placed : List ℕ)
        → label_bytes ≤ length output - s.written
        → bytes ≡ to_le_bytes w32 (get_or values (s.top - 1) 0)
        → placed ≡ bytes
        → Sound s
        → r ≡ next_to (s.top - 1) s
        → OnOutput WriteNumber values output (put_mid s.written (s.written + label_bytes - s.written) output placed) s
        (moved r.address r.top r.read (s.written + label_bytes) r)
    number_fits bytes placed fits own put sound is =
        let four : length bytes ≡ label_bytes = ap length own in
        number_written _ fits
        (four_bytes_of output _ bytes s.written (get_or values (s.top - 1) 0)
        (place output s.written bytes _ placed (omega arith) (omega arith) (omega arith) put ∙ as_bytes output s.written bytes) own)
        sound is

pub ruleset numbers_out = (number_missing, number_full, number_written, number_fits)

-- ---- bytes from the input

-- bytes that are there are read, with the frame's words up to a new top
reads_so :
    (m : Setting) (due : Step) (values values' returns output : List ℕ) (s : Machine) (address top read : ℕ)
    → due ≡ goes (state_of values' returns output (moved address top read s.written s))
    → Held m values returns output s
    → s.stop ≡ GoesOn
    → length values' ≡ length values
    → s.base ≤ top
    → top ≤ value_words
    → read ≤ length m.input
    → Does m due values returns output values' returns output s (moved address top read s.written s)
reads_so m due values values' returns output s address top read e h going lv based topped there =
    goes_so m due values returns output values' returns output s _ e going
    (held_moved m values returns output values' output s address top read _ h lv refl based topped there h.written_there)
    lv refl refl refl

-- ---- `read_tag`

-- the machine after a tag is read, at an address
abbrev tag_read : ℕ → Machine → Machine
tag_read to s = moved to s.top (s.read + 1) s.written s

module _ (address : ℕ) (input : List ℕ) (s r : Machine) where
  -- what is done, by the tag found
  by_tag : (m : Setting) (t : State) (g : Tag) → m.input ≡ input → tag_at input t.read ≡ g → operate m t (ReadTag address) ≡ on_tag g address t
  unfolding operate
  by_tag m t g e found = ap (λ k. on_tag k address t) (ap (λ i. tag_at i t.read) e ∙ found)

  -- .. it is refused, whatever the state
  tag_refused :
      (g : Tag) (why : Refusal)
      → tag_at input s.read ≡ g
      → ((t : State) → on_tag g address t ≡ refuses (number why))
      → r ≡ refused_by why s
      → OnInput (ReadTag address) input s r
  tag_refused g why found refused is = record {
    does = λ values. record {
      does = λ m returns output e h. refused_so m _ values returns output s r why is (by_tag m _ g e found ∙ refused _) h;
    };
  }

  -- the input has ended; its next byte is no tag; a leaf's; a node's
  pub tag_ended : length input ≤ s.read → r ≡ refused_by InputEnded s → OnInput (ReadTag address) input s r
  unfolding on_tag
  tag_ended end is = tag_refused no_byte InputEnded (tag_is (past end)) (λ t. refl) is

  module _ (there : s.read < length input) where
    pub tag_other :
        get_or input s.read 0 ≢ leaf_tag
        → get_or input s.read 0 ≢ node_tag
        → r ≡ refused_by NotATag s
        → OnInput (ReadTag address) input s r
    unfolding on_tag
    tag_other no_leaf no_node is = tag_refused other NotATag (tag_is (at_other there no_leaf no_node)) (λ t. refl) is

    -- .. it goes on, to an address
    tag_goes :
        (g : Tag) (to : ℕ)
        → tag_at input s.read ≡ g
        → ((values returns output : List ℕ) → on_tag g address (state_of values returns output s) ≡ goes (state_of values returns output (tag_read to s)))
        → Sound s
        → OnInput (ReadTag address) input s (tag_read to s)
    tag_goes g to found gone sound = record {
      does = λ values. record {
        does = λ m returns output e h.
            reads_so m _ values values returns output s to s.top (s.read + 1) (by_tag m _ g e found ∙ gone values returns output) h
            sound.going refl h.based h.topped (rw e (omega arith));
      };
    }

    pub tag_leaf :
        get_or input s.read 0 ≡ leaf_tag
        → Sound s
        → r ≡ next_to s.top s
        → OnInput (ReadTag address) input s (moved r.address r.top (s.read + 1) r.written r)
    unfolding on_tag
    tag_leaf leaf sound is =
        rw is (tag_goes a_leaf (s.address + 1) (tag_is (at_leaf there leaf)) (λ values returns output. rw (on_tag, add-one s.address)) sound)

    pub tag_node :
        (q : Machine)
        → get_or input s.read 0 ≡ node_tag
        → Sound s
        → q ≡ next_to s.top s
        → r ≡ jump_to address (moved q.address q.top (s.read + 1) q.written q)
        → OnInput (ReadTag address) input s r
    unfolding on_tag
    tag_node q node sound is jumped =
        rw (jumped, is) (tag_goes a_node address (tag_is (at_node there node)) (λ values returns output. refl) sound)

pub ruleset tags_in = (tag_ended, tag_other, tag_leaf, tag_node)

-- ---- `read_number`

module _ (input values : List ℕ) (s r : Machine) where
  -- no room, which comes first
  pub number_surplus : value_words ≤ s.top → r ≡ refused_by CannotPerform s → FromInput ReadNumber input values values s r
  unfolding operate if_room
  number_surplus surplus is = record {
    does = λ m returns output e h.
        let full : m.most_words ≤ words_standing (state_of values returns output s) =
        rw (h.words_limit, all_standing values returns output s h.chained h.based) surplus in
        refused_so m _ values returns output s r CannotPerform is (rw (operate, if_room, le-ltb _ _ full)) h;
  }

  module _ (more : s.top < value_words) where
    -- there is room for the word
    roomy : (m : Setting) (returns output : List ℕ) → Held m values returns output s → words_standing (state_of values returns output s) < m.most_words
    roomy m returns output h = rw (h.words_limit, all_standing values returns output s h.chained h.based) more

    -- the four bytes are not there
    pub number_ended : length (take (length input - s.read) (drop s.read input)) < label_bytes → r ≡ refused_by InputEnded s → FromInput ReadNumber input values values s r
    unfolding operate if_room take_number
    number_ended end is = record {
      does = λ m returns output e h.
          let all = length-take-le (length input - s.read) (drop s.read input) (omega (arith, length-drop s.read input)) in
          let cut : length m.input < s.read + label_bytes = rw e (omega arith) in
          refused_so m _ values returns output s r InputEnded is
          (rw (operate, if_room, lt-ltb _ _ (roomy m returns output h), take_number, lt-leb _ _ cut)) h;
    }

    -- they are, and their number is set on top
    pub number_there :
        (label : List ℕ) (x : ℕ)
        → s.read ≤ length input
        → IsFirstChunk (take (length input - s.read) (drop s.read input)) label label_bytes
        → x ≡ from_le_bytes w32 label
        → Sound s
        → r ≡ next_to (s.top + 1) s
        → FromInput ReadNumber input values (set values s.top x) s (moved r.address r.top (s.read + label_bytes) r.written r)
    unfolding operate if_room take_number
    number_there label x inside front is_x sound is = record {
      does = λ m returns output e h.
          let rest : take (length input - s.read) (drop s.read input) ≡ drop s.read input = take_all _ _ (omega (arith, length-drop s.read input)) in
          let whole : s.read + label_bytes ≤ length input = let enough = front.enough in let long = ap length rest in omega (arith, length-drop s.read input) in
          let there : s.read + label_bytes ≤ length m.input = rw e whole in
          let number : x ≡ number_at label_bytes input s.read = four_read input label s.read x whole (front.same ∙ ap (take label_bytes) rest) is_x in
          let count : s.top + 1 - s.base ≡ suc (s.top - s.base) = omega (arith, h.based) in
          let pushed : words_from (set values s.top x) s.base (s.top + 1 - s.base) ≡ x ∷ frame_of values s =
          ap (words_from (set values s.top x) s.base) count
          ∙ words_pushed values s.base (s.top - s.base) s.top x (omega (arith, h.values_lent)) (omega (arith, h.based)) in
          let kept = waiting_kept values returns s.base s.saved s.top x h.chained h.based in
          rw is
          (reads_so m _ values (set values s.top x) returns output s (s.address + 1) (s.top + 1) (s.read + label_bytes)
          (rw (operate, if_room, lt-ltb _ _ (roomy m returns output h), take_number, le-leb _ _ there, e, ← number, pushed, kept, add-one s.address))
          h sound.going (length-set values s.top x) (omega (arith, h.based)) (omega arith) there);
    }

pub ruleset numbers_in = (number_surplus, number_ended, number_there)
