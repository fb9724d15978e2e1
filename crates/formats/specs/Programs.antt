-- 01, Program file: programs as syntax trees, and their records.
use Rattle.std.specs.Prelude.{ℕ, zero, suc, ◌+◌, ◌^◌, ◌≤◌, ◌<◌, List, [], ◌∷◌, ◌++◌, map, ◌≡◌, length}
use Rattle.std.proofs.Math.Option.{none, some}
use Rattle.formats.specs.Arithmetic.{Op}
use Rattle.formats.specs.Records.{Record, fields, flat, Kind, Const, Var, Compute, IfZero, Let, Leaf, Node, Case, Call, fields_of, nth}

-- An expression of each kind: its operands, then its parts. A Call's number arguments are a list.
mutual
  pub data Expr : Type 0 where
    const : (i : ℕ) → Expr
    var : (a : ℕ) → Expr
    compute : (op : Op) (p q : Expr) → Expr
    if_zero : (test zero_part other_part : Expr) → Expr
    let_in : (p body : Expr) → Expr
    leaf_of : (label : Expr) → Expr
    node_of : (left right : Expr) → Expr
    case_of : (a : ℕ) (leaf_part node_part : Expr) → Expr
    call : (a b : ℕ) (arguments : Args) → Expr

  pub data Args : Type 0 where
    no_args : Args
    arg : (first : Expr) (rest : Args) → Args

-- 01, Prefix order: "in prefix order". An expression's records: its own, then its parts'.
unfoldable mutual
  pub prefix : Expr → List Kind
  prefix (const i) = Const i ∷ []
  prefix (var a) = Var a ∷ []
  prefix (compute op p q) = Compute op ∷ (prefix p ++ prefix q)
  prefix (if_zero t z o) = IfZero ∷ (prefix t ++ (prefix z ++ prefix o))
  prefix (let_in p body) = Let ∷ (prefix p ++ prefix body)
  prefix (leaf_of p) = Leaf ∷ prefix p
  prefix (node_of p q) = Node ∷ (prefix p ++ prefix q)
  prefix (case_of a p q) = Case a ∷ (prefix p ++ prefix q)
  prefix (call a b xs) = Call a b ∷ prefixes xs

  pub prefixes : Args → List Kind
  prefixes no_args = []
  prefixes (arg x xs) = prefix x ++ prefixes xs

-- How many records an expression takes.
unfoldable pub size : Expr → ℕ
size e = length (prefix e)

-- An expression and the number of its own record, which is the first of its records.
pub record Placed : Type 0 where
  pub at_record : ℕ
  pub expr : Expr

-- Expression e, whose own record is record r.
abbrev pub placed_at : ℕ → Expr → Placed
placed_at r e = record { at_record = r; expr = e }

-- The arguments of a Call, from record r on.
unfoldable pub args_at : ℕ → Args → List Placed
args_at r no_args = []
args_at r (arg x xs) = placed_at r x ∷ args_at (r + size x) xs

-- The parts of the expression at record r, each with its own record: the first right after r, each
-- other after the one before it.
unfoldable pub parts_at : ℕ → Expr → List Placed
parts_at r (const i) = []
parts_at r (var a) = []
parts_at r (compute op p q) = placed_at (suc r) p ∷ placed_at (suc r + size p) q ∷ []
parts_at r (if_zero t z o) = placed_at (suc r) t ∷ placed_at (suc r + size t) z ∷ placed_at (suc r + size t + size z) o ∷ []
parts_at r (let_in p body) = placed_at (suc r) p ∷ placed_at (suc r + size p) body ∷ []
parts_at r (leaf_of p) = placed_at (suc r) p ∷ []
parts_at r (node_of p q) = placed_at (suc r) p ∷ placed_at (suc r + size p) q ∷ []
parts_at r (case_of a p q) = placed_at (suc r) p ∷ placed_at (suc r + size p) q ∷ []
parts_at r (call a b xs) = args_at (suc r) xs

unfoldable pub count_args : Args → ℕ
count_args no_args = 0
count_args (arg x xs) = suc (count_args xs)

-- 01, Nine kinds of record: "Call .. its number arguments": each Call has as many as its function
-- has number parameters. `arity` says how many these are.
abbrev mutual
  pub CallsComplete : (ℕ → ℕ) → Expr → Type 0
  CallsComplete arity (const i) = Unit {0}
  CallsComplete arity (var a) = Unit {0}
  CallsComplete arity (compute op p q) = CallsComplete arity p × CallsComplete arity q
  CallsComplete arity (if_zero t z o) = CallsComplete arity t × (CallsComplete arity z × CallsComplete arity o)
  CallsComplete arity (let_in p body) = CallsComplete arity p × CallsComplete arity body
  CallsComplete arity (leaf_of p) = CallsComplete arity p
  CallsComplete arity (node_of p q) = CallsComplete arity p × CallsComplete arity q
  CallsComplete arity (case_of a p q) = CallsComplete arity p × CallsComplete arity q
  CallsComplete arity (call a b xs) = (count_args xs ≡ arity b) × ArgsComplete arity xs

  pub ArgsComplete : (ℕ → ℕ) → Args → Type 0
  ArgsComplete arity no_args = Unit {0}
  ArgsComplete arity (arg x xs) = CallsComplete arity x × ArgsComplete arity xs

-- 01, Function records: "byte 0 result (0 number, 1 tree)". The sort of a function.
pub data Sort : Type 0 where
  number_valued : Sort
  tree_valued : Sort

unfoldable pub sort_number : Sort → ℕ
sort_number number_valued = 0
sort_number tree_valued = 1

-- 01, Function records: "F function records: byte 0 result .., byte 1 number parameters .., bytes
-- 2–3 its node count". "Each function has besides one tree parameter."
pub record Signature : Type 0 where
  pub sort : Sort
  pub parameters : ℕ
  pub count : ℕ

-- The function record that a signature makes.
unfoldable pub signature_record : Signature → Record
signature_record g = fields (sort_number g.sort) g.parameters g.count 0

-- The number parameters of function b; 0 where there is no such function.
unfoldable pub arity_of : List Signature → ℕ → ℕ
arity_of gs b = elim (nth gs b) [ none ↦ 0 | some g ↦ g.parameters ]

-- 01, Function records: "the counts sum to N".
unfoldable pub sum_of_counts : List Signature → ℕ
sum_of_counts [] = 0
sum_of_counts (g ∷ gs) = g.count + sum_of_counts gs

-- A function: its sort, its number parameters and its body. It takes one tree besides.
pub record Function : Type 0 where
  pub sort : Sort
  pub parameters : ℕ
  pub body : Expr

-- The signature of a function: its node count is the number of records of its body.
unfoldable pub signature_of : Function → Signature
signature_of f = record { sort = f.sort; parameters = f.parameters; count = size f.body }

-- A program: its edition and its functions. It starts in function 0.
pub record Program : Type 0 where
  pub edition : ℕ
  pub functions : List Function

abbrev pub signatures : Program → List Signature
signatures program = map signature_of program.functions

-- The nodes of the functions. 01, Nine kinds of record: "Then the nodes, function by function, in
-- prefix order."
unfoldable pub nodes : List Function → List Kind
nodes [] = []
nodes (f ∷ fs) = prefix f.body ++ nodes fs

-- 01, Header: "Record 0 is the header: byte 0 edition 1, byte 1 functions F .., bytes 2–3 nodes N
-- .., rest zero."
pub record Header : Type 0 where
  pub edition : ℕ
  pub functions : ℕ
  pub nodes : ℕ

unfoldable pub header_record : Header → Record
header_record h = fields h.edition h.functions h.nodes 0

unfoldable pub header_of : Program → Header
header_of program = record { edition = program.edition; functions = length program.functions; nodes = sum_of_counts (signatures program) }

-- 01, Header: "There are 1 + F + N records": the header, the function records, the nodes.
unfoldable pub records_of : Program → List Record
records_of program =
    header_record (header_of program) ∷ (map signature_record (signatures program) ++ map fields_of (nodes program.functions))

-- These records as bytes.
unfoldable pub flat_of : Program → List ℕ
flat_of program = flat (records_of program)

-- ---- the limits

-- 01, Header: "byte 0 edition 1, byte 1 functions F (1 to 32), bytes 2–3 nodes N (1 to 1,024)".
abbrev pub first_edition : ℕ
first_edition = 1

abbrev pub most_functions : ℕ
most_functions = 32

abbrev pub most_nodes : ℕ
most_nodes = 1024

-- 01, Function records: "number parameters (0 to 4; function 0 has none)".
unfoldable pub most_parameters : ℕ → ℕ
most_parameters zero = 0
most_parameters (suc j) = 4

-- The operands fit their fields, and the function that a Call names is one of the functions.
abbrev pub InRange : ℕ → Kind → Type 0
InRange functions (Const i) = i < 2 ^ 32
InRange functions (Var a) = a < 256
InRange functions (Compute op) = Unit {0}
InRange functions IfZero = Unit {0}
InRange functions Let = Unit {0}
InRange functions Leaf = Unit {0}
InRange functions Node = Unit {0}
InRange functions (Case a) = a < 256
InRange functions (Call a b) = (a < 256) × (b < functions)

-- Each element has the property.
abbrev pub Every : {A : Type 0} → (A → Type 0) → List A → Type 0
Every P [] = Unit {0}
Every P (x ∷ xs) = P x × Every P xs

-- Function j is within the limits, in a program whose functions have the signatures gs.
pub record LawfulFunction (gs : List Signature) (j : ℕ) (f : Function) : Type 0 where
  pub few_parameters : f.parameters ≤ most_parameters j
  pub in_range : Every (InRange (length gs)) (prefix f.body)
  pub applied : CallsComplete (arity_of gs) f.body

-- So are all these functions, the first of them function j.
abbrev pub LawfulFunctions : List Signature → ℕ → List Function → Type 0
LawfulFunctions gs j [] = Unit {0}
LawfulFunctions gs j (f ∷ fs) = LawfulFunction gs j f × LawfulFunctions gs (suc j) fs

-- A program within the limits of 01, Lawful programs.
pub record Lawful (program : Program) : Type 0 where
  pub edition : program.edition ≡ first_edition
  pub some_function : 1 ≤ length program.functions
  pub few_functions : length program.functions ≤ most_functions
  pub few_nodes : sum_of_counts (signatures program) ≤ most_nodes
  pub functions : LawfulFunctions (signatures program) 0 program.functions
