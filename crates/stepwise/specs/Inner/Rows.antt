-- A table with a row for each record of a program: what the source run looks at when a record
-- begins, and when it is finished.
--
-- A frame of the source run has 16 words: its named numbers stand from the first word up, numbers
-- kept for later (an Add's left number, a Call's earlier arguments) from the last word down. So the
-- word of each number is known for each record.
use Rattle.std.specs.Prelude.{ℕ, zero, suc, ◌+◌, ◌-◌, ◌*◌, ◌/◌, ◌%◌, true, false, List, [], ◌∷◌, ◌++◌, eqb, length, get_or}
use Rattle.formats.specs.Arithmetic.{Op, plus}
use Rattle.formats.specs.Records.{Kind, Const, Var, Compute, IfZero, Let, Leaf, Node, Case, Call}
use Rattle.formats.specs.Programs.{Expr, const, var, compute, if_zero, let_in, leaf_of, node_of, case_of, call, Args, no_args, arg, size, arity_of, Function, Program, signatures}
use Rattle.formats.specs.Written.{written}
use Rattle.meaning.specs.OpenCalls.{first_record}

-- ---- roles: what a record does with the value of its part

-- It is the body of a function, so its value is that of the call.
abbrev pub whole : ℕ
whole = 0

-- Its number is put on a word, and the next part begins: Add's first part, Let's first part, each
-- argument of a Call but the last.
abbrev pub kept : ℕ
kept = 1

-- Its number is added to the one kept: Add's second part.
abbrev pub added : ℕ
added = 2

-- The role of the second part of each operation.
unfoldable pub second_of : Op → ℕ
second_of plus = added

-- Its number decides which part begins: IfZero's first part.
abbrev pub tested : ℕ
tested = 3

-- Its value is the value of the whole record: a part after IfZero's test, Let's second part, Node's
-- second part, a part of a Case.
abbrev pub passed : ℕ
passed = 4

-- Its number is the label of a leaf: Leaf's part.
abbrev pub labelled : ℕ
labelled = 5

-- Nothing is kept, and the next part begins: Node's left part.
abbrev pub followed : ℕ
followed = 6

-- Its number is put on a word, and the call opens: the last argument of a Call.
abbrev pub last_argument : ℕ
last_argument = 7

-- ---- where a record stands

pub record Location : Type 0 where
  -- its role, and its parent: the record that it is a part of
  pub role : ℕ
  pub parent : ℕ
  -- the word that its number is put on, or added to
  pub slot : ℕ
  -- how many numbers are named, and how many are kept
  pub names : ℕ
  pub keeps : ℕ
  -- the records of the Cases in whose node parts it stands, the outermost first
  pub cases : List ℕ

-- The last word of a frame.
abbrev pub last_word : ℕ
last_word = 15

-- ---- what a record does when it begins

-- It gives its constant: Const.
abbrev pub gives_constant : ℕ
gives_constant = 0

-- It gives a named number: Var.
abbrev pub gives_named : ℕ
gives_named = 1

-- Its first part begins: Add, IfZero, Let, Leaf.
abbrev pub enters_part : ℕ
enters_part = 2

-- A node's tag is written, and its first part begins: Node.
abbrev pub tags_node : ℕ
tags_node = 3

-- It looks at a tree, and the part for that kind of tree begins: Case.
abbrev pub looks_at_tree : ℕ
looks_at_tree = 4

-- Its first argument begins, or the call opens where there is none: Call.
abbrev pub calls_function : ℕ
calls_function = 5

unfoldable pub action_of : Kind → ℕ
action_of (Const i) = gives_constant
action_of (Var a) = gives_named
action_of (Compute op) = enters_part
action_of IfZero = enters_part
action_of Let = enters_part
action_of Leaf = enters_part
action_of Node = tags_node
action_of (Case a) = looks_at_tree
action_of (Call a b) = calls_function

-- The code of a tree, which a row has instead of the tree's name: 0 is the frame's own tree, 2c + 1
-- the left tree and 2c + 2 the right tree of the tree that the Case at record c looks at. Names
-- count along the path: first the frame's tree, then two for each Case in whose node part the
-- record stands.
unfoldable pub naming_code : List ℕ → ℕ → ℕ
naming_code cases zero = 0
naming_code cases (suc j) = suc (2 * get_or cases (j / 2) 0 + j % 2)

module _ (entry arity : ℕ → ℕ) where
  -- The role of part i of a record.
  unfoldable pub role_of : Kind → ℕ → ℕ
  role_of (Const c) i = passed
  role_of (Var a) i = passed
  role_of (Compute op) zero = kept
  role_of (Compute op) (suc i) = second_of op
  role_of IfZero zero = tested
  role_of IfZero (suc i) = passed
  role_of Let zero = kept
  role_of Let (suc i) = passed
  role_of Leaf i = labelled
  role_of Node zero = followed
  role_of Node (suc i) = passed
  role_of (Case a) i = passed
  role_of (Call a b) i = elim (eqb (suc i) (arity b)) [ true ↦ last_argument | false ↦ kept ]

  -- The word that part i's number is put on, or added to; 0 where there is none.
  unfoldable pub slot_of : Location → Kind → ℕ → ℕ
  slot_of p (Const c) i = 0
  slot_of p (Var a) i = 0
  slot_of p (Compute op) i = last_word - p.keeps
  slot_of p IfZero i = 0
  slot_of p Let i = p.names
  slot_of p Leaf i = 0
  slot_of p Node i = 0
  slot_of p (Case a) i = 0
  slot_of p (Call a b) i = last_word - (p.keeps + i)

  -- How many numbers are named on entering part i.
  unfoldable pub names_in : Location → Kind → ℕ → ℕ
  names_in p (Const c) i = p.names
  names_in p (Var a) i = p.names
  names_in p (Compute op) i = p.names
  names_in p IfZero i = p.names
  names_in p Let zero = p.names
  names_in p Let (suc i) = suc p.names
  names_in p Leaf i = p.names
  names_in p Node i = p.names
  names_in p (Case a) zero = suc p.names
  names_in p (Case a) (suc i) = p.names
  names_in p (Call a b) i = p.names

  -- How many numbers are kept on entering part i.
  unfoldable pub keeps_in : Location → Kind → ℕ → ℕ
  keeps_in p (Const c) i = p.keeps
  keeps_in p (Var a) i = p.keeps
  keeps_in p (Compute op) zero = p.keeps
  keeps_in p (Compute op) (suc i) = suc p.keeps
  keeps_in p IfZero i = p.keeps
  keeps_in p Let i = p.keeps
  keeps_in p Leaf i = p.keeps
  keeps_in p Node i = p.keeps
  keeps_in p (Case a) i = p.keeps
  keeps_in p (Call a b) i = p.keeps + i

  -- The Cases in whose node parts part i of the record r stands.
  unfoldable pub cases_in : Location → Kind → ℕ → ℕ → List ℕ
  cases_in p (Const c) r i = p.cases
  cases_in p (Var a) r i = p.cases
  cases_in p (Compute op) r i = p.cases
  cases_in p IfZero r i = p.cases
  cases_in p Let r i = p.cases
  cases_in p Leaf r i = p.cases
  cases_in p Node r i = p.cases
  cases_in p (Case a) r zero = p.cases
  cases_in p (Case a) r (suc i) = p.cases ++ (r ∷ [])
  cases_in p (Call a b) r i = p.cases

  -- Where part i of the record r stands.
  abbrev pub part_location : Location → Kind → ℕ → ℕ → Location
  part_location p kind r i =
      record {
        role = role_of kind i;
        parent = r;
        slot = slot_of p kind i;
        names = names_in p kind i;
        keeps = keeps_in p kind i;
        cases = cases_in p kind r i;
      }

  -- ---- rows

  -- The row's operand: Const's number modulo 2^16, Var's word, the word of the label that a Case
  -- names, or the first record of the function that a Call calls.
  unfoldable pub operand_of : Location → Kind → ℕ
  operand_of p (Const i) = i % 65536
  operand_of p (Var a) = a
  operand_of p (Compute op) = 0
  operand_of p IfZero = 0
  operand_of p Let = 0
  operand_of p Leaf = 0
  operand_of p Node = 0
  operand_of p (Case a) = p.names
  operand_of p (Call a b) = entry b

  -- The code of the tree that a Case or a Call names.
  unfoldable pub tree_of : Location → Kind → ℕ
  tree_of p (Const i) = 0
  tree_of p (Var a) = 0
  tree_of p (Compute op) = 0
  tree_of p IfZero = 0
  tree_of p Let = 0
  tree_of p Leaf = 0
  tree_of p Node = 0
  tree_of p (Case a) = naming_code p.cases a
  tree_of p (Call a b) = naming_code p.cases a

  -- The upper half of Const's number, or how many arguments a Call has.
  unfoldable pub more_of : Kind → ℕ
  more_of (Const i) = i / 65536
  more_of (Var a) = 0
  more_of (Compute op) = 0
  more_of IfZero = 0
  more_of Let = 0
  more_of Leaf = 0
  more_of Node = 0
  more_of (Case a) = 0
  more_of (Call a b) = arity b

  -- The eight words of a record's row. The record's expression ends before record `after`.
  abbrev pub row_of : Location → ℕ → Kind → List ℕ
  row_of p after kind =
      action_of kind ∷ operand_of p kind ∷ tree_of p kind ∷ more_of kind ∷ p.role ∷ p.parent ∷ p.slot ∷ after ∷ []

  -- The rows of the expression at record r, in prefix order.
  unfoldable mutual
    pub rows_of : Location → ℕ → Expr → List ℕ
    rows_of p r (const i) = row_of p (suc r) (Const i)
    rows_of p r (var a) = row_of p (suc r) (Var a)
    rows_of p r (compute op x y) =
        row_of p (suc r + size x + size y) (Compute op)
        ++ (rows_of (part_location p (Compute op) r 0) (suc r) x ++ rows_of (part_location p (Compute op) r 1) (suc r + size x) y)
    rows_of p r (if_zero t z o) =
        row_of p (suc r + size t + size z + size o) IfZero
        ++ (rows_of (part_location p IfZero r 0) (suc r) t
        ++ (rows_of (part_location p IfZero r 1) (suc r + size t) z ++ rows_of (part_location p IfZero r 2) (suc r + size t + size z) o))
    rows_of p r (let_in x body) =
        row_of p (suc r + size x + size body) Let
        ++ (rows_of (part_location p Let r 0) (suc r) x ++ rows_of (part_location p Let r 1) (suc r + size x) body)
    rows_of p r (leaf_of x) = row_of p (suc r + size x) Leaf ++ rows_of (part_location p Leaf r 0) (suc r) x
    rows_of p r (node_of x y) =
        row_of p (suc r + size x + size y) Node
        ++ (rows_of (part_location p Node r 0) (suc r) x ++ rows_of (part_location p Node r 1) (suc r + size x) y)
    rows_of p r (case_of a x y) =
        row_of p (suc r + size x + size y) (Case a)
        ++ (rows_of (part_location p (Case a) r 0) (suc r) x ++ rows_of (part_location p (Case a) r 1) (suc r + size x) y)
    rows_of p r (call a b xs) = row_of p (after_args (suc r) xs) (Call a b) ++ rows_of_args p (Call a b) r 0 (suc r) xs

    -- The rows of the arguments of the Call at record r, from part i on, the next one at record k.
    pub rows_of_args : Location → Kind → ℕ → ℕ → ℕ → Args → List ℕ
    rows_of_args p kind r i k no_args = []
    rows_of_args p kind r i k (arg x xs) = rows_of (part_location p kind r i) k x ++ rows_of_args p kind r (suc i) (k + size x) xs

    -- The record after arguments that begin at record k.
    pub after_args : ℕ → Args → ℕ
    after_args k no_args = k
    after_args k (arg x xs) = after_args (k + size x) xs

  -- Where the body of a function stands: its number parameters are named.
  abbrev pub body_location : Function → Location
  body_location f = record { role = whole; parent = 0; slot = 0; names = f.parameters; keeps = 0; cases = [] }

  -- The rows of functions, the first body at record r.
  unfoldable pub rows_of_all : ℕ → List Function → List ℕ
  rows_of_all r [] = []
  rows_of_all r (f ∷ fs) = rows_of (body_location f) r f.body ++ rows_of_all (r + size f.body) fs

-- ---- of a program

-- How many words a row has.
abbrev pub row_words : ℕ
row_words = 8

-- The rows of all nodes of a program.
abbrev pub rows_in : Program → List ℕ
rows_in program = rows_of_all (first_record program) (arity_of (signatures program)) (suc (length program.functions)) program.functions

-- A table with the row of each node: the row of record k begins at word 8k.
unfoldable pub tabled : List ℕ → Program → List ℕ
tabled table program = written table (row_words * suc (length program.functions)) (rows_in program)
