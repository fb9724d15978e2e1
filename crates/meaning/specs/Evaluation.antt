-- 01, The source evaluation: what a program means. "This is document 000's, without fuel or limits;
-- it is fed a program's records and a tree." "Nothing is refused." N3: an evaluation with a sum out
-- of range "has no result": no rule gives it one. Unfinished.antt says where it stops.
--
-- What is proved of it is stated in Meaning.antt: among other things that it gives the value that
-- the reductions of 000, Figure 3 (Reductions.antt) lead to.
use Rattle.std.specs.Prelude.{ℕ, zero, suc, ◌+◌, max, List, [], ◌∷◌, ◌≡◌}
use Rattle.std.proofs.Math.Option.{Option, some}
use Rattle.formats.specs.Arithmetic.{Op, result_of}
use Rattle.formats.specs.Tokens.{Tree, leaf, node, tokens}
use Rattle.formats.specs.Records.{nth}
use Rattle.formats.specs.Programs.{Expr, const, var, compute, if_zero, let_in, leaf_of, node_of, case_of, call, Args, no_args, arg, Function, Program}
use Rattle.meaning.specs.Levels.{at_level}

-- A value: a number or a tree.
pub data Value : Type 0 where
  number : ℕ → Value
  tree : Tree → Value

-- What names stand for: the numbers and the trees named so far, the newest first.
pub record Environment : Type 0 where
  pub numbers : List ℕ
  pub trees : List Tree

-- 01, Names: "Names count from 0 along the path".
abbrev pub number_named : Environment → ℕ → Option ℕ
number_named E a = at_level E.numbers a

abbrev pub tree_named : Environment → ℕ → Option Tree
tree_named E a = at_level E.trees a

-- 01, Names: "Let's body and Case's leaf part add one number name".
abbrev pub with_number : ℕ → Environment → Environment
with_number i E = record { numbers = i ∷ E.numbers; trees = E.trees }

-- 01, Names: "Case's node part two tree names, left first".
abbrev pub with_trees : Tree → Tree → Environment → Environment
with_trees l r E = record { numbers = E.numbers; trees = r ∷ (l ∷ E.trees) }

-- 01, The source evaluation: "with these numbers and the named tree alone".
abbrev pub in_call : List ℕ → Tree → Environment
in_call numbers t = record { numbers = numbers; trees = t ∷ [] }

-- 01, Let and IfZero: "IfZero takes its zero part on 0, else the other".
unfoldable pub picked : ℕ → Expr → Expr → Expr
picked zero z o = z
picked (suc i) z o = o

-- 01, The source evaluation: "Case, by its tree, takes the leaf part with the label named, or the
-- node part with the two trees named."
unfoldable pub branch : Tree → Expr → Expr → Expr
branch (leaf x) p q = p
branch (node l r) p q = q

-- The environment in which that part is taken.
unfoldable pub in_branch : Tree → Environment → Environment
in_branch (leaf x) E = with_number x E
in_branch (node l r) E = with_trees l r E

-- `Takes program E e o n v`: in the environment E, e has the value v; n expressions begin, e among
-- them; at most o calls are open at once, the one that e stands in among them. 01, The source
-- evaluation: "Each expression begun adds 1; to take a part is to begin it and find its value." A
-- rule for each kind of record:
mutual
  pub data Takes (program : Program) : Environment → Expr → ℕ → ℕ → Value → Type 0 where
    -- "Const gives i"
    Const : {E : Environment} {i o : ℕ} → Takes program E (const i) (suc o) 1 (number i)
    -- "Var its name's number."
    Var : {E : Environment} {a i o : ℕ} → number_named E a ≡ some i → Takes program E (var a) (suc o) 1 (number i)
    -- "Add takes its parts in order and gives their sum"; N3: there is no value "where the exact
    -- sum lies outside −2147483648 to 2147483647"
    Compute :
        {E : Environment} {op : Op} {p q : Expr} {o n m i j x : ℕ}
        → Takes program E p o n (number i)
        → Takes program E q o m (number j)
        → result_of op i j ≡ some x
        → Takes program E (compute op p q) o (suc (n + m)) (number x)
    -- "IfZero takes its test, then the part it picks."
    IfZero :
        {E : Environment} {t zero_part other_part : Expr} {o n m i : ℕ} {v : Value}
        → Takes program E t o n (number i)
        → Takes program E (picked i zero_part other_part) o m v
        → Takes program E (if_zero t zero_part other_part) o (suc (n + m)) v
    -- "Let takes and names its number, then takes its body."
    Let :
        {E : Environment} {p body : Expr} {o n m i : ℕ} {v : Value}
        → Takes program E p o n (number i)
        → Takes program (with_number i E) body o m v
        → Takes program E (let_in p body) o (suc (n + m)) v
    -- "Leaf takes its number and gives that leaf"
    Leaf : {E : Environment} {p : Expr} {o n i : ℕ} → Takes program E p o n (number i) → Takes program E (leaf_of p) o (suc n) (tree (leaf i))
    -- "Node takes left, then right, and gives that node."
    Node :
        {E : Environment} {p q : Expr} {o n m : ℕ} {l r : Tree}
        → Takes program E p o n (tree l)
        → Takes program E q o m (tree r)
        → Takes program E (node_of p q) o (suc (n + m)) (tree (node l r))
    -- "Case, by its tree, takes the leaf part .., or the node part .."
    Case :
        {E : Environment} {a : ℕ} {p q : Expr} {o n : ℕ} {t : Tree} {v : Value}
        → tree_named E a ≡ some t
        → Takes program (in_branch t E) (branch t p q) o n v
        → Takes program E (case_of a p q) o (suc n) v
    -- "Call takes its arguments, then opens a call: b's body, with these numbers and the named tree
    -- alone; its value closes it and is the Call's."
    Call :
        {E : Environment} {a b : ℕ} {xs : Args} {o n m : ℕ} {numbers : List ℕ} {t : Tree} {f : Function} {v : Value}
        → TakesArgs program E xs (suc o) n [] numbers
        → tree_named E a ≡ some t
        → nth program.functions b ≡ some f
        → Takes program (in_call numbers t) f.body o m v
        → Takes program E (call a b xs) (suc o) (suc (n + m)) v

  -- The arguments of a Call, in order: each one's number is the next that the function's names
  -- stand for.
  pub data TakesArgs (program : Program) : Environment → Args → ℕ → ℕ → List ℕ → List ℕ → Type 0 where
    no_more : {E : Environment} {o : ℕ} {numbers : List ℕ} → TakesArgs program E no_args o 0 numbers numbers
    one_more :
        {E : Environment} {x : Expr} {xs : Args} {o n m i : ℕ} {before after : List ℕ}
        → Takes program E x o n (number i)
        → TakesArgs program E xs o m (i ∷ before) after
        → TakesArgs program E (arg x xs) o (n + m) before after

-- 01, The source evaluation: "It starts in function 0's body, the tree being tree 0, with 0
-- expressions begun and 1 call open." "It ends where finitely many expressions begin, n in all; the
-- result is function 0's value". At most o calls are open at once, the first included.
pub record Ends (program : Program) (t : Tree) (o n : ℕ) (v : Value) : Type 0 where
  pub first : Function
  pub is_first : nth program.functions 0 ≡ some first
  pub takes : Takes program (in_call [] t) first.body o n v

-- 01, The source evaluation: "its bytes the tokens, none for a number".
unfoldable pub result_bytes : Value → List ℕ
result_bytes (number i) = []
result_bytes (tree t) = tokens t

-- The number of a result (01, The source evaluation), which both runs answer. 01, The answer of a
-- stream run: "the number (0 for a tree ..)".
unfoldable pub result_number : Value → ℕ
result_number (number i) = i
result_number (tree t) = 0

-- ---- counted along a derivation

-- 01, Templates: the column "units". What a record spends by the part that it takes. IfZero: "2
-- zero, 1 other".
unfoldable pub if_zero_units : ℕ → ℕ
if_zero_units zero = 2
if_zero_units (suc i) = 1

-- Case: "4 leaf, 1 node".
unfoldable pub case_units : Tree → ℕ
case_units (leaf x) = 4
case_units (node l r) = 1

-- A count along a derivation. `begin` is applied at each rule, to the units of its record and to
-- what its premises count; `enter` is applied at the body that a Call opens; `join` joins what two
-- premises count.
unfoldable pub counted :
    {program : Program} {E : Environment} {e : Expr} {o n : ℕ} {v : Value} (begin : ℕ → ℕ → ℕ) (enter : ℕ → ℕ) (join : ℕ → ℕ → ℕ)
    → Takes program E e o n v
    → ℕ
counted begin enter join d = elim d as (λ E e o n v d. ℕ) (λ E xs o n before after ds. ℕ) [
  | Const ↦ begin 1 0
  | Var named ↦ begin 1 0
  | Compute (d₁ → n) (d₂ → m) fits ↦ begin 1 (join n m)
  | IfZero {i = i} (d₁ → n) (d₂ → m) ↦ begin (if_zero_units i) (join n m)
  | Let (d₁ → n) (d₂ → m) ↦ begin 1 (join n m)
  | Leaf (d → n) ↦ begin 2 n
  | Node (d₁ → n) (d₂ → m) ↦ begin 1 (join n m)
  | Case {t = t} named (d → n) ↦ begin (case_units t) n
  | Call (ds → n) named known (d → m) ↦ begin 2 (join n (enter m))
  | no_more ↦ 0
  | one_more (d → n) (ds → m) ↦ join n m
]

-- What `counted` counts along arguments. (The clauses are those of `counted`, so that the two agree
-- by computation.)
abbrev pub counted_args :
    {program : Program} {E : Environment} {xs : Args} {o n : ℕ} {before after : List ℕ} (begin : ℕ → ℕ → ℕ) (enter : ℕ → ℕ) (join : ℕ → ℕ → ℕ)
    → TakesArgs program E xs o n before after
    → ℕ
counted_args begin enter join ds = elim ds as (λ E e o n v d. ℕ) (λ E xs o n before after ds. ℕ) [
  | Const ↦ begin 1 0
  | Var named ↦ begin 1 0
  | Compute (d₁ → n) (d₂ → m) fits ↦ begin 1 (join n m)
  | IfZero {i = i} (d₁ → n) (d₂ → m) ↦ begin (if_zero_units i) (join n m)
  | Let (d₁ → n) (d₂ → m) ↦ begin 1 (join n m)
  | Leaf (d → n) ↦ begin 2 n
  | Node (d₁ → n) (d₂ → m) ↦ begin 1 (join n m)
  | Case {t = t} named (d → n) ↦ begin (case_units t) n
  | Call (ds → n) named known (d → m) ↦ begin 2 (join n (enter m))
  | no_more ↦ 0
  | one_more (d → n) (ds → m) ↦ join n m
]

-- How many rules a derivation has: one for each expression begun.
abbrev pub rules_in : {program : Program} {E : Environment} {e : Expr} {o n : ℕ} {v : Value} → Takes program E e o n v → ℕ
rules_in d = counted (λ units n. suc n) (λ m. m) ◌+◌ d

-- The units column summed over the expressions begun.
abbrev pub units_in : {program : Program} {E : Environment} {e : Expr} {o n : ℕ} {v : Value} → Takes program E e o n v → ℕ
units_in d = counted ◌+◌ (λ m. m) ◌+◌ d

-- The units column summed along arguments.
abbrev pub units_in_args : {program : Program} {E : Environment} {xs : Args} {o n : ℕ} {before after : List ℕ} → TakesArgs program E xs o n before after → ℕ
units_in_args ds = counted_args ◌+◌ (λ n. n) ◌+◌ ds

-- How deep a derivation's Call rules are nested: a call is open while its body is taken, and no
-- longer.
abbrev pub nesting_in : {program : Program} {E : Environment} {e : Expr} {o n : ℕ} {v : Value} → Takes program E e o n v → ℕ
nesting_in d = counted (λ units m. m) suc max d
