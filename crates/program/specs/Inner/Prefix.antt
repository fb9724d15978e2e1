-- What the functions of the row "prefix form" answer.
use Rattle.std.specs.Prelude.{ℕ, ◌-◌, ◌<◌, Bool, List, ◌≡◌}
use Rattle.formats.specs.Refusals.{prefix_form}
use Rattle.formats.specs.Results.{Result, done, verdict, value_if, each}
use Rattle.formats.specs.Records.{Kind}
use Rattle.formats.specs.Programs.{Signature}
use Rattle.formats.specs.Rows.{function_row, node_row, exprs_of, exactly_one, prefix_row}
use Rattle.formats.specs.Inner.Fields.{header_in, arity_in, node_in}

-- Each function has as many number parameters as its record says.
abbrev pub Arities : List ℕ → (ℕ → ℕ) → Type 0
Arities s arity = (b : ℕ) → b < (header_in s).functions → arity b ≡ arity_in s b

-- Whether the records from `first` up to `end`, where they are nodes, are exactly one expression.
pub record IsOne (s : List ℕ) (first end : ℕ) (one : Bool) : Type 0 where
  pub is : (arity : ℕ → ℕ) (ks : List Kind) → Arities s arity → each (node_in s) (end - first) first ≡ done ks
      → value_if one prefix_form first tt ≡ verdict (exactly_one first (exprs_of arity ks))

-- What the row "prefix form" says, where the rows before it have passed.
pub record PrefixSays (s : List ℕ) (r : Result (Unit {0})) : Type 0 where
  pub is : (gs : List Signature) (ks : List Kind) → function_row (header_in s) s ≡ done gs → node_row (header_in s) s ≡ done ks
      → r ≡ verdict (prefix_row (header_in s) gs ks)
