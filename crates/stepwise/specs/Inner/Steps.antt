-- The steps of the source evaluation over the rows of a program.
--
-- A record begins; it is finished, with its number (0 for a tree); or a call opens. The tree of a
-- frame is known by its offset in the input, and every other named tree by the path that leads to
-- it from there. A frame's numbers stand on 16 words. A call that waits has two return words: its
-- record and its frame's tree.
use Rattle.std.specs.Prelude.{ℕ, zero, suc, ◌+◌, ◌-◌, ◌*◌, ◌/◌, ◌%◌, ◌<◌, Bool, true, false, ◌&&◌, List, [], ◌∷◌, ◌≢◌, ◌≡◌, eqb, leb, ltb, length, get_or, set, drop}
use Rattle.std.proofs.Math.Option.{none, some}
use Rattle.formats.specs.Numbers.{number_at}
use Rattle.formats.specs.Arithmetic.{Op, plus, result_of}
use Rattle.formats.specs.Results.{done}
use Rattle.formats.specs.Tokens.{leaf, leaf_tag, node_tag, tokens, first_end}
use Rattle.formats.specs.Inner.Trees.{leaf_bytes}
use Rattle.stepwise.specs.Inner.Rows.{gives_constant, gives_named, tags_node, looks_at_tree, calls_function}
use Rattle.stepwise.specs.Inner.Rows.{row_words, whole, kept, added, tested, passed, labelled, followed}

-- How many words a frame has.
abbrev pub frame_words : ℕ
frame_words = 16

-- The most calls that may wait: with the one that goes on, 1,024 are open.
abbrev pub most_waiting : ℕ
most_waiting = 1023

-- The numbers of records are below this limit.
abbrev pub record_limit : ℕ
record_limit = 2048

-- The lent words, how many calls wait, and the offset of the frame's tree. The end of one tree that
-- was passed is remembered: this tree begins at `known` and ends at `end`. Both are 0 as long as
-- there is none; no tree whose end is asked for begins at offset 0.
pub record State : Type 0 where
  pub words : List ℕ
  pub returns : List ℕ
  pub calls : ℕ
  pub tree : ℕ
  pub known : ℕ
  pub end : ℕ

pub data Turn : Type 0 where
  -- the record is to begin
  begin : ℕ → State → Turn
  -- the record is finished, with this number
  finished : ℕ → ℕ → State → Turn
  -- the call at this record is to open
  opens : ℕ → State → Turn
  -- the first frame is finished, with this number
  ended : ℕ → Turn
  -- the call at this record is one too many
  deep : ℕ → Turn
  -- the operation at this record has no result on these two numbers
  broken : (op : Op) (i j r : ℕ) → Turn
  -- the rows lead nowhere, which a program's rows never do
  stuck : Turn

-- ---- rows

-- Field f of the row of record r; 0 where the table has none.
abbrev pub field : List ℕ → ℕ → ℕ → ℕ
field T r f = get_or T (row_words * r + f) 0

abbrev pub action_at : List ℕ → ℕ → ℕ
action_at T r = field T r 0

abbrev pub operand_at : List ℕ → ℕ → ℕ
operand_at T r = field T r 1

abbrev pub tree_at : List ℕ → ℕ → ℕ
tree_at T r = field T r 2

abbrev pub more_at : List ℕ → ℕ → ℕ
more_at T r = field T r 3

abbrev pub role_at : List ℕ → ℕ → ℕ
role_at T r = field T r 4

abbrev pub parent_at : List ℕ → ℕ → ℕ
parent_at T r = field T r 5

abbrev pub slot_at : List ℕ → ℕ → ℕ
slot_at T r = field T r 6

abbrev pub after_at : List ℕ → ℕ → ℕ
after_at T r = field T r 7

-- ---- the offset of a named tree

-- `Found T input s code p`: in the frame of s, the tree of this code is at offset p of the input. A
-- left tree stands after its node's tag, a right tree after the left one, whose end is known or is
-- to be found. The Case that looks at the node is an earlier record, so its own code is smaller.
pub data Found (T input : List ℕ) (s : State) : ℕ → ℕ → Type 0 where
  the_own : Found T input s 0 s.tree
  the_left : (c p : ℕ) → tree_at T c < suc (2 * c) → p < length input → Found T input s (tree_at T c) p → Found T input s (suc (2 * c)) (suc p)
  the_right :
      (c p n : ℕ)
      → tree_at T c < suc (2 * c)
      → p < length input
      → Found T input s (tree_at T c) p
      → suc p ≢ s.known
      → first_end (drop (suc p) input) ≡ done n
      → Found T input s (suc (suc (2 * c))) (suc p + n)
  the_known :
      (c p : ℕ)
      → tree_at T c < suc (2 * c)
      → p < length input
      → Found T input s (tree_at T c) p
      → suc p ≡ s.known
      → Found T input s (suc (suc (2 * c))) s.end

-- ---- words

abbrev pub word_at : State → ℕ → ℕ
word_at s slot = get_or s.words (frame_words * s.calls + slot) 0

abbrev pub with_word : State → ℕ → ℕ → State
with_word s slot x =
    record {
      words = set s.words (frame_words * s.calls + slot) x;
      returns = s.returns;
      calls = s.calls;
      tree = s.tree;
      known = s.known;
      end = s.end;
    }

-- The tree at offset `known` is known to end at `end`.
abbrev pub with_end : State → ℕ → ℕ → State
with_end s known end = record { words = s.words; returns = s.returns; calls = s.calls; tree = s.tree; known = known; end = end }

-- The words once the first n arguments of a call are copied to the first words of the next frame.
-- The arguments stand on the words from `slot` down, in the frame that begins at word `base`.
unfoldable pub copied : List ℕ → ℕ → ℕ → ℕ → List ℕ
copied words base slot zero = words
copied words base slot (suc n) =
    let before : List ℕ = copied words base slot n in
    set before (base + frame_words + n) (get_or before (base + (slot - n)) 0)

-- ---- a record begins

-- A Case looks at the tag of the tree at offset p. At a leaf its label is put on its word, and the
-- leaf part begins; else the node part begins.
unfoldable pub looking : List ℕ → List ℕ → ℕ → ℕ → State → Turn
looking T input p r s =
    elim (ltb p (length input)) [
      | true ↦
          elim (eqb (get_or input p 0) leaf_tag) [
            | true ↦ begin (suc r) (with_end (with_word s (operand_at T r) (number_at 4 input (suc p))) p (p + leaf_bytes))
            | false ↦ begin (after_at T (suc r)) s
          ]
      | false ↦ stuck
    ]

-- The turn after record r begins, by its action: a number is given; a tree is looked at, at offset
-- p; a call without arguments opens; else the first part begins.
unfoldable pub beginning : List ℕ → List ℕ → ℕ → ℕ → State → Turn
beginning T input p r s =
    elim (eqb (action_at T r) gives_constant) [
      | true ↦ finished r (operand_at T r + 65536 * more_at T r) s
      | false ↦
          elim (eqb (action_at T r) gives_named) [
            | true ↦ finished r (word_at s (operand_at T r)) s
            | false ↦
                elim (eqb (action_at T r) looks_at_tree) [
                  | true ↦ looking T input p r s
                  | false ↦
                      elim (eqb (action_at T r) calls_function) [
                        | true ↦ elim (eqb (more_at T r) 0) [ true ↦ opens r s | false ↦ begin (suc r) s ]
                        | false ↦ begin (suc r) s
                      ]
                ]
          ]
    ]

-- What is written when record r begins: the tag of a node, for a Node.
unfoldable pub emitted_first : List ℕ → ℕ → List ℕ
emitted_first T r = elim (eqb (action_at T r) tags_node) [ true ↦ node_tag ∷ [] | false ↦ [] ]

-- ---- a record is finished

-- Whether the Call at record r is on the right tree of a node that is its frame's own tree, at
-- offset `own`.
unfoldable pub on_right : List ℕ → List ℕ → ℕ → ℕ → Bool
on_right T input r own =
    eqb (tree_at T r % 2) 0 && (ltb 0 (tree_at T r) && (eqb (tree_at T ((tree_at T r - 1) / 2)) 0 && (ltb own (length input) && eqb (get_or input own 0) node_tag)))

-- Where the tree begins whose end is known after a call closes. If the call was on the right tree
-- of the node at `own`, and the end of that right tree is known, then the node ends there too. Else
-- what was known stays.
unfoldable pub known_after : List ℕ → List ℕ → ℕ → ℕ → State → ℕ
known_after T input r own s = elim (eqb s.known s.tree && on_right T input r own) [ true ↦ own | false ↦ s.known ]

-- A function's body is finished, with number x: the call that waits goes on, or the first frame has
-- ended.
unfoldable pub closing : List ℕ → List ℕ → ℕ → State → Turn
closing T input x s =
    elim s.calls [
      | zero ↦ ended x
      | suc n ↦
          finished (get_or s.returns (2 * n) 0 % 65536) x
          (record {
            words = s.words;
            returns = s.returns;
            calls = n;
            tree = get_or s.returns (suc (2 * n)) 0;
            known = known_after T input (get_or s.returns (2 * n) 0 % 65536) (get_or s.returns (suc (2 * n)) 0) s;
            end = s.end;
          })
    ]

-- The turn after a part with one of the other roles. Its value is the record's, or the label of a
-- leaf; or the next part begins; or the call opens.
unfoldable pub following : List ℕ → ℕ → ℕ → State → Turn
following T r x s =
    elim (eqb (role_at T r) passed) [
      | true ↦ finished (parent_at T r) x s
      | false ↦
          elim (eqb (role_at T r) labelled) [
            | true ↦ finished (parent_at T r) 0 s
            | false ↦
                elim (eqb (role_at T r) followed) [
                  | true ↦ begin (after_at T r) s
                  | false ↦ opens (parent_at T r) (with_word s (slot_at T r) x)
                ]
          ]
    ]

-- The operation at record r is finished, with its result; or it has none.
unfoldable pub computing : Op → (i j r : ℕ) → State → Turn
computing op i j r s = elim (result_of op i j) [ some y ↦ finished r y s | none ↦ broken op i j r ]

-- The turn after record r is finished with number x, by its role.
unfoldable pub rising : List ℕ → List ℕ → ℕ → ℕ → State → Turn
rising T input r x s =
    elim (eqb (role_at T r) whole) [
      | true ↦ closing T input x s
      | false ↦
          elim (eqb (role_at T r) kept) [
            | true ↦ begin (after_at T r) (with_word s (slot_at T r) x)
            | false ↦
                elim (eqb (role_at T r) added) [
                  | true ↦ computing plus (word_at s (slot_at T r)) x (parent_at T r) s
                  | false ↦
                      elim (eqb (role_at T r) tested) [
                        | true ↦ elim (eqb x 0) [ true ↦ begin (after_at T r) s | false ↦ begin (after_at T (after_at T r)) s ]
                        | false ↦ following T r x s
                      ]
                ]
          ]
    ]

-- What is written when record r is finished with number x: a leaf, if x is its label.
unfoldable pub emitted_last : List ℕ → ℕ → ℕ → List ℕ
emitted_last T r x = elim (eqb (role_at T r) labelled) [ true ↦ tokens (leaf x) | false ↦ [] ]

-- This falls at each step from one finished record to the next: a parent is an earlier record, and
-- when a call closes, fewer calls wait.
unfoldable pub weight : Turn → ℕ
weight (begin r s) = 0
weight (finished r x s) = suc (65536 * s.calls + r)
weight (opens r s) = 0
weight (ended x) = 0
weight (deep r) = 0
weight (broken op i j r) = 0
weight stuck = 0

-- ---- a call opens

-- The state in the frame that the call at record r opens, with its tree at offset p.
abbrev pub framed : List ℕ → ℕ → ℕ → State → State
framed T p r s =
    record {
      words = copied s.words (frame_words * s.calls) (slot_at T (suc r)) (more_at T r);
      returns = set (set s.returns (2 * s.calls) r) (suc (2 * s.calls)) s.tree;
      calls = suc s.calls;
      tree = p;
      known = s.known;
      end = s.end;
    }

-- The function's body begins, or the call is one too many.
unfoldable pub opening : List ℕ → ℕ → ℕ → State → Turn
opening T p r s = elim (leb most_waiting s.calls) [ true ↦ deep r | false ↦ begin (operand_at T r) (framed T p r s) ]
