-- The first half of the row of a record, over flat records s, whatever these are: what
-- `stepwise/specs/Inner/Rows` says of it, as 16-bit words.
use Rattle.std.specs.Prelude.{ℕ, ◌+◌, ◌%◌, List}
use Rattle.formats.specs.Records.{Kind, Const, Var, Compute, IfZero, Let, Leaf, Node, Case, Call}
use Rattle.formats.specs.Inner.Fields.{header_in, arity_in}
use Rattle.functions.specs.Inner.Counts.{counts_from}
use Rattle.stepwise.specs.Inner.Rows.{action_of, naming_code, more_of}
use Rattle.frames.specs.Inner.Named.{action_of_number}
use Rattle.record_rows.specs.declared.Own.{Own}

-- The first record of function b, from the node counts of the function records.
unfoldable pub first_in : List ℕ → ℕ → ℕ
first_in s b = 1 + (header_in s).functions + counts_from b s 0

-- The row's operand: Const's number modulo 2^16, Var's word, the word of the label that a Case
-- names, or the first record of the function that a Call calls.
unfoldable pub operand_in : List ℕ → (names : ℕ) → Kind → ℕ
operand_in s names (Const i) = i % 65536
operand_in s names (Var a) = a
operand_in s names (Compute op) = 0
operand_in s names IfZero = 0
operand_in s names Let = 0
operand_in s names Leaf = 0
operand_in s names Node = 0
operand_in s names (Case a) = names % 65536
operand_in s names (Call a b) = first_in s b % 65536

-- The code of the tree that a Case or a Call names, inside these Cases.
unfoldable pub tree_in : (cases : List ℕ) → Kind → ℕ
tree_in cases (Const i) = 0
tree_in cases (Var a) = 0
tree_in cases (Compute op) = 0
tree_in cases IfZero = 0
tree_in cases Let = 0
tree_in cases Leaf = 0
tree_in cases Node = 0
tree_in cases (Case a) = naming_code cases a % 65536
tree_in cases (Call a b) = naming_code cases a % 65536

unfoldable pub own_in : (s cases : List ℕ) (names : ℕ) → Kind → Own
own_in s cases names kind =
    record {
      action = action_of_number (action_of kind);
      operand = operand_in s names kind;
      tree = tree_in cases kind;
      more = more_of (λ b. 0) (arity_in s) kind;
    }
