-- 01, Program file: records and the nine kinds.
use Rattle.std.specs.Prelude.{ℕ, zero, suc, ◌+◌, ◌*◌, ◌^◌, ◌<◌, Bool, true, ◌&&◌, List, [], ◌∷◌, ◌++◌, length, get_or, ltb, eqb}
use Rattle.std.proofs.Math.Option.{Option, none, some}
use Rattle.formats.specs.Arithmetic.{Op, plus}
use Rattle.formats.specs.Numbers.{bytes_of, number_at}
use Rattle.formats.specs.Refusals.{node_field}
use Rattle.formats.specs.Results.{Result, refusal, value_if}

-- 01, Blocks: "63 records of 8 bytes".
abbrev pub record_bytes : ℕ
record_bytes = 8

-- A record's fields. 01, Program file: "byte 0 (byte 1 is a, bytes 2–3 b, bytes 4–7 i ..)".
pub data Record : Type 0 where
  fields : (byte0 a b i : ℕ) → Record

-- Each field fits its bytes.
abbrev pub Ranged : Record → Type 0
Ranged (fields x a b i) = (x < 256) × (a < 256) × (b < 2 ^ 16) × (i < 2 ^ 32)

-- A record's eight bytes.
unfoldable pub bytes_of_record : Record → List ℕ
bytes_of_record (fields x a b i) = x ∷ a ∷ (bytes_of 2 b ++ bytes_of 4 i)

-- Flat records: their bytes, one record after the other.
unfoldable pub flat : List Record → List ℕ
flat [] = []
flat (r ∷ rs) = bytes_of_record r ++ flat rs

-- Record k of the flat records s. What is not there reads as 0.
unfoldable pub record_at : List ℕ → ℕ → Record
record_at s k =
    let p = record_bytes * k in
    fields (get_or s p 0) (get_or s (p + 1) 0) (number_at 2 s (p + 2)) (number_at 4 s (p + 4))

-- 01, Nine kinds of record: "Nine kinds of record". A kind with its operands, in the order of the
-- table.
pub data Kind : Type 0 where
  Const : (i : ℕ) → Kind
  -- a: number name
  Var : (a : ℕ) → Kind
  -- an operation on two numbers: Add
  Compute : (op : Op) → Kind
  IfZero : Kind
  Let : Kind
  Leaf : Kind
  Node : Kind
  -- a: tree name
  Case : (a : ℕ) → Kind
  -- a: tree name, b: function
  Call : (a b : ℕ) → Kind

-- 01, Nine kinds of record: "2 Add". The operation is the sum.
abbrev pub Add : Kind
Add = Compute plus

-- 01, Nine kinds of record: "by byte 0 (.. unused ones zero)". The fields of each kind's record.
unfoldable pub fields_of : Kind → Record
fields_of (Const i) = fields 0 0 0 i
fields_of (Var a) = fields 1 a 0 0
fields_of (Compute plus) = fields 2 0 0 0
fields_of IfZero = fields 3 0 0 0
fields_of Let = fields 4 0 0 0
fields_of Leaf = fields 5 0 0 0
fields_of Node = fields 6 0 0 0
fields_of (Case a) = fields 7 a 0 0
fields_of (Call a b) = fields 8 a b 0

-- The kinds of an edition in the order of their numbers, with operands from the fields a, b and i.
-- (There is edition 1 alone; a later one may have more kinds.)
unfoldable pub kinds : ℕ → ℕ → ℕ → ℕ → List Kind
kinds edition a b i = Const i ∷ Var a ∷ Add ∷ IfZero ∷ Let ∷ Leaf ∷ Node ∷ Case a ∷ Call a b ∷ []

-- Element k of a list, counted from 0, if there is one.
unfoldable pub nth : {A : Type 0} → List A → ℕ → Option A
nth [] k = none
nth (x ∷ xs) zero = some x
nth (x ∷ xs) (suc k) = nth xs k

-- The kind whose number is byte 0 of the record, if there is one.
unfoldable pub kind_of : ℕ → Record → Option Kind
kind_of edition (fields x a b i) = nth (kinds edition a b i) x

-- Whether two records have the same fields.
unfoldable pub same_fields : Record → Record → Bool
same_fields (fields x a b i) (fields y c d j) = eqb x y && (eqb a c && (eqb b d && eqb i j))

-- Whether the function that a Call names is one of so many functions. Other kinds name none.
unfoldable pub function_below : ℕ → Kind → Bool
function_below functions (Call a b) = ltb b functions
function_below functions (Const i) = true
function_below functions (Var a) = true
function_below functions (Compute op) = true
function_below functions IfZero = true
function_below functions Let = true
function_below functions Leaf = true
function_below functions Node = true
function_below functions (Case a) = true

-- 01, Nine kinds of record: "A record read is its kind with its operands, or a refusal with its
-- place." Record k, whose fields are r, read as a node. 01, The table of refusals: "6 kind above 8,
-- unused field not zero, b not below F". Unused fields are zero exactly where r is the record that
-- `fields_of` gives for the kind.
unfoldable pub node_record : ℕ → ℕ → ℕ → Record → Result Kind
node_record edition functions k r =
    elim (kind_of edition r) [
      | none ↦ refusal node_field k
      | some kind ↦ value_if (same_fields (fields_of kind) r && function_below functions kind) node_field k kind
    ]

-- A part: what is expected of it, and what more is named in it. 01, Pass one: "Add's parts, tests,
-- Let's first part, Leaf's part and arguments are numbers; Node's parts are trees; other parts take
-- the type expected of the whole." 01, Names: "Let's body and Case's leaf part add one number name,
-- Case's node part two tree names, left first."
pub data Part : Type 0 where
  -- A number is expected. The numbers of the parts before it, i of them before part i, stand on
  -- words of their own.
  a_number : Part
  -- A tree is expected.
  a_tree : Part
  -- What is expected of the whole.
  as_whole : Part
  -- What is expected of the whole, with one number name more.
  under_number : Part
  -- What is expected of the whole, with two tree names more.
  under_trees : Part

-- A kind's parts in order: these, or a function's number arguments.
pub data Parts : Type 0 where
  these : List Part → Parts
  arguments_of : ℕ → Parts

-- The parts of each kind.
unfoldable pub parts_of : Kind → Parts
parts_of (Const i) = these []
parts_of (Var a) = these []
parts_of (Compute op) = these (a_number ∷ a_number ∷ [])
parts_of IfZero = these (a_number ∷ as_whole ∷ as_whole ∷ [])
parts_of Let = these (a_number ∷ under_number ∷ [])
parts_of Leaf = these (a_number ∷ [])
parts_of Node = these (a_tree ∷ a_tree ∷ [])
parts_of (Case a) = these (under_number ∷ under_trees ∷ [])
parts_of (Call a b) = arguments_of b

-- Part i, counted from 0. Where these parts have no part i, it is as the whole.
unfoldable pub nth_part : Parts → ℕ → Part
nth_part (these ps) i = elim (nth ps i) [ none ↦ as_whole | some p ↦ p ]
nth_part (arguments_of b) i = a_number

-- How many parts there are. `arity` says how many number parameters a function has.
unfoldable pub part_count : (ℕ → ℕ) → Parts → ℕ
part_count arity (these ps) = length ps
part_count arity (arguments_of b) = arity b
