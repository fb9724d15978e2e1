-- The code of a program, by 01, Templates. Demand 2: "the code is the one its templates give, with
-- no optimiser: readers compare listings by eye".
use Rattle.std.specs.Prelude.{ℕ, zero, suc, List, [], ◌∷◌, ◌++◌, map}
use Rattle.std.proofs.Math.Option.{none, some}
use Rattle.formats.specs.Records.{flat}
use Rattle.formats.specs.Programs.{Expr, const, var, compute, if_zero, let_in, leaf_of, node_of, case_of, call, Args, no_args, arg, count_args}
use Rattle.formats.specs.Programs.{Sort, number_valued, tree_valued, Function, Program}
use Rattle.meaning.specs.Levels.{at_level}
use Rattle.meaning.specs.Instructions.{Operation, Push, Get, Compute, Ifnot, Jump, Slide, Drop, LeafTag, NodeTag, WriteNumber, ReadTag, ReadNumber, Call, Return, instruction_of}

-- ---- addresses

-- The address after the code of an expression that begins at a.
unfoldable mutual
  pub code_end : Expr → ℕ → ℕ
  code_end (const i) a = suc a
  code_end (var k) a = suc a
  code_end (compute op p q) a = suc (code_end q (code_end p a))
  code_end (if_zero t z o) a = code_end o (suc (code_end z (suc (code_end t a))))
  code_end (let_in p body) a = suc (code_end body (code_end p a))
  code_end (leaf_of p) a = suc (code_end p (suc a))
  code_end (node_of p q) a = code_end q (code_end p (suc a))
  code_end (case_of k p q) a = code_end q (suc (suc (code_end p (suc (suc a)))))
  code_end (call k b xs) a = suc (args_end xs a)

  -- The address after the code of a Call's arguments.
  pub args_end : Args → ℕ → ℕ
  args_end no_args a = a
  args_end (arg x xs) a = args_end xs (code_end x a)

-- ---- words

-- The word that each number name stands on, the newest name first. 01, Opcodes: "get (operand: word
-- above the base)". A number found before and not named has a word of its own below, so a name's
-- word may be higher than its number. (01, Traps: "Forgetting that a temporary below moves a
-- variable's word.")
abbrev pub WordNumbers : Type 0
WordNumbers = List ℕ

-- The word of a name; 0 for a name that is not bound, which pass one refuses.
unfoldable pub word_of : WordNumbers → ℕ → ℕ
word_of words a = elim (at_level words a) [ none ↦ 0 | some w ↦ w ]

-- 01, Opcodes: "the new frame's first words". The words of so many parameters: 0 and up, the newest
-- first.
unfoldable pub first_words : ℕ → WordNumbers
first_words zero = []
first_words (suc k) = k ∷ first_words k

-- ---- templates

-- 01, Templates: ""end" is slide where a number is expected, drop where a tree is."
unfoldable pub end_of : Sort → Operation
end_of number_valued = Slide
end_of tree_valued = Drop

-- The code of an expression, by the table's column "code". Its program's functions have these
-- entries; a value of sort s is expected; the names stand on these words; w words stand above the
-- base on entering; the code begins at address a. 01, Names: "Let's body and Case's leaf part add
-- one number name": it stands on word w, where its number was pushed. L and M of the table are
-- addresses.
unfoldable mutual
  pub code : (entries : ℕ → ℕ) (s : Sort) (words : WordNumbers) (w a : ℕ) → Expr → List Operation
  -- "push i"
  code entries s words w a (const i) = Push i ∷ []
  -- "get"
  code entries s words w a (var k) = Get (word_of words k) ∷ []
  -- "p, q, add"
  code entries s words w a (compute op p q) =
      code entries number_valued words w a p ++ (code entries number_valued words (suc w) (code_end p a) q ++ (Compute op ∷ []))
  -- "t, ifnot L, z, jump M, L: o, M:"
  code entries s words w a (if_zero t z o) =
      let at_z = suc (code_end t a) in
      let L = suc (code_end z at_z) in
      let M = code_end o L in
      code entries number_valued words w a t ++ (Ifnot L ∷ (code entries s words w at_z z ++ (Jump M ∷ code entries s words w L o)))
  -- "p, body, end"
  code entries s words w a (let_in p body) =
      code entries number_valued words w a p ++ (code entries s (w ∷ words) (suc w) (code_end p a) body ++ (end_of s ∷ []))
  -- "leaf tag, p, write number"
  code entries s words w a (leaf_of p) = LeafTag ∷ (code entries number_valued words w (suc a) p ++ (WriteNumber ∷ []))
  -- "node tag, p, q"
  code entries s words w a (node_of p q) =
      NodeTag ∷ (code entries tree_valued words w (suc a) p ++ code entries tree_valued words w (code_end p (suc a)) q)
  -- "read tag L, read number, p, end, jump M, L: q, M:"
  code entries s words w a (case_of k p q) =
      let at_p = suc (suc a) in
      let L = suc (suc (code_end p at_p)) in
      let M = code_end q L in
      ReadTag L ∷ (ReadNumber ∷ (code entries s (w ∷ words) (suc w) at_p p ++ (end_of s ∷ (Jump M ∷ code entries s words w L q))))
  -- "arguments, call"
  code entries s words w a (call k b xs) = code_args entries words w a xs ++ (Call (entries b) (count_args xs) ∷ [])

  -- The arguments of a Call, one after the other.
  pub code_args : (entries : ℕ → ℕ) (words : WordNumbers) (w a : ℕ) → Args → List Operation
  code_args entries words w a no_args = []
  code_args entries words w a (arg x xs) = code entries number_valued words w a x ++ code_args entries words (suc w) (code_end x a) xs

-- ---- functions

-- 01, Opcodes: "return (byte 1: 0 or 1 words kept ..)": a number is kept.
unfoldable pub words_kept : Sort → ℕ
words_kept number_valued = 1
words_kept tree_valued = 0

-- 01, Templates: "A function is its body, then return".
unfoldable pub function_code : (entries : ℕ → ℕ) → ℕ → Function → List Operation
function_code entries a f =
    code entries f.sort (first_words f.parameters) f.parameters a f.body ++ (Return (words_kept f.sort) ∷ [])

-- The address after a function that begins at a.
unfoldable pub function_end : Function → ℕ → ℕ
function_end f a = suc (code_end f.body a)

-- 01, Addresses and entries: "Functions follow in order; each one's instructions go into the part
-- of the code buffer that begins at its entry." Where function b begins, if the first of these
-- begins at a; after the last where there is no function b.
unfoldable pub entry_from : ℕ → List Function → ℕ → ℕ
entry_from a fs zero = a
entry_from a [] (suc b) = a
entry_from a (f ∷ fs) (suc b) = entry_from (function_end f a) fs b

-- The code of these functions, if the first begins at a.
unfoldable pub functions_code : (entries : ℕ → ℕ) → ℕ → List Function → List Operation
functions_code entries a [] = []
functions_code entries a (f ∷ fs) = function_code entries a f ++ functions_code entries (function_end f a) fs

-- ---- programs

-- Where function b of a program begins.
unfoldable pub entry_of : Program → ℕ → ℕ
entry_of program b = entry_from 0 program.functions b

-- The instructions of a program, in order.
unfoldable pub operations_of : Program → List Operation
operations_of program = functions_code (entry_of program) 0 program.functions

-- The code of a program, as bytes. 01, Instructions: "Unused fields are written zero".
unfoldable pub code_of : Program → List ℕ
code_of program = flat (map instruction_of (operations_of program))
