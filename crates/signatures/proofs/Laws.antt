-- Laws of where the fields stand: those of the header at the start, those of function b's record
-- after the header and the records of the functions before it.
use Prim.Native.Nat.{ℕ, suc, ◌+◌, ◌*◌}
use mathlib.Core.List.{List}
use mathlib.Core.Path.{◌≡◌, ap}
use native.Mathlib.Omega.{arith}
use lib.ListN.{get_or}
use Rattle.formats.specs.Numbers.{number_at}
use Rattle.formats.specs.Records.{record_at, record_bytes}
use Rattle.formats.specs.Inner.Fields.{header_in, sort_in, arity_in, count_in}

-- ---- the header

module _ (s : List ℕ) (n : ℕ) where
  pub functions_are : n ≡ get_or s 1 0 → n ≡ (header_in s).functions
  unfolding header_in record_at
  functions_are e = e

  pub nodes_are : n ≡ number_at 2 s 2 → n ≡ (header_in s).nodes
  unfolding header_in record_at
  nodes_are e = e

pub ruleset header_read = (functions_are, nodes_are)

-- ---- a function's record

module _ (s : List ℕ) (b : ℕ) where
  -- the record's offset, as the code has it
  position : record_bytes * suc b ≡ record_bytes * (1 + b)
  position = omega arith

  pub sort_is : sort_in s b ≡ get_or s (record_bytes * (1 + b) + 0) 0
  unfolding sort_in record_at
  sort_is =
      let first : record_bytes * suc b ≡ record_bytes * (1 + b) + 0 = omega arith in
      ap (λ p. get_or s p 0) first

  pub arity_is : arity_in s b ≡ get_or s (record_bytes * (1 + b) + 1) 0
  unfolding arity_in record_at
  arity_is = ap (λ p. get_or s (p + 1) 0) position

  pub count_is : count_in s b ≡ number_at 2 s (record_bytes * (1 + b) + 2)
  unfolding count_in record_at
  count_is = ap (λ p. number_at 2 s (p + 2)) position

pub ruleset fields_read = (sort_is, arity_is, count_is)
