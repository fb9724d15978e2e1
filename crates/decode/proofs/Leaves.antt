-- The first half of a row, where counts are small: it is the one wanted.
use Prim.Native.Nat.{ℕ, zero, suc, ◌/◌, ◌%◌, ◌≤◌, ◌<◌}
use mathlib.Core.Bool.{true}
use mathlib.Core.List.{List}
use mathlib.Core.Path.{◌≡◌, refl, sym, ap, ◌∙◌}
use native.Mathlib.Decide.{dec_le}
use native.Mathlib.Omega.{arith}
use borrow.Author.Tests.{ltb-true}
use lib.ListN.{get_or, take, length-take, get_or-eq_default}
use lib.Seq.{get_or-take}
use Rattle.formats.specs.Records.{Kind, Const, Var, Compute, IfZero, Let, Leaf, Node, Case, Call, function_below}
use Rattle.formats.specs.Inner.Limits.{most_records}
use Rattle.formats.specs.Inner.Fields.{header_in}
use Rattle.walks.specs.Inner.Limits.{most_count}
use Rattle.stepwise.specs.Inner.Rows.{action_of, naming_code, operand_of, tree_of, more_of}
use Rattle.frames.specs.Inner.Named.{action_of_number}
use Rattle.part_locations.specs.declared.Location.{Location}
use Rattle.part_locations.specs.Inner.Locations.{location_with}
use Rattle.record_rows.specs.Inner.Halves.{first_in, operand_in, tree_in, own_in}
use Rattle.decode.specs.Inner.Walk.{Agrees, Stacked, FirstHalf}

-- codes are small where the entries of the stack are records
module _ {cases : List ℕ} {depth more : ℕ} (h : Stacked cases depth more) where
  entry_low : (n : ℕ) → get_or (take depth cases) n 0 ≤ most_records
  entry_low n = elim (dec_le depth n) [
    | yes over ↦ omega (arith, get_or-eq_default (take depth cases) 0 {n = n} (omega (arith, length-take depth cases)))
    | no under ↦ omega (arith, get_or-take depth cases n 0 (omega arith), h.low n (omega arith))
  ]

  code_low : (a : ℕ) → naming_code (take depth cases) a % 65536 ≡ naming_code (take depth cases) a
  unfolding naming_code
  code_low zero = refl
  code_low (suc j) = omega (arith, entry_low (j / 2))

-- a number below 65,536 is its own remainder
low_word : (n most : ℕ) → n ≤ most → most < 65536 → n % 65536 ≡ n
low_word n most h g = omega arith

module _ (s cases : List ℕ) (p : Location) (entry arity : ℕ → ℕ) (more : ℕ) (agrees : Agrees s entry arity) (few : p.names ≤ most_count) (stacked : Stacked cases p.depth more) where
  pub reported : (kind : Kind) → function_below (header_in s).functions kind ≡ true → FirstHalf entry arity (location_with p cases) kind (own_in s (take p.depth cases) p.names kind)
  unfolding own_in action_of_number action_of operand_in tree_in operand_of tree_of more_of function_below
  reported (Const i) low = record { action = refl; operand = refl; tree = refl; more = refl }
  reported (Var a) low = record { action = refl; operand = refl; tree = refl; more = refl }
  reported (Compute op) low = record { action = refl; operand = refl; tree = refl; more = refl }
  reported IfZero low = record { action = refl; operand = refl; tree = refl; more = refl }
  reported Let low = record { action = refl; operand = refl; tree = refl; more = refl }
  reported Leaf low = record { action = refl; operand = refl; tree = refl; more = refl }
  reported Node low = record { action = refl; operand = refl; tree = refl; more = refl }
  reported (Case a) low = record { action = refl; operand = low_word p.names most_count few (omega arith); tree = code_low stacked a; more = refl }
  reported (Call a b) low =
      let there : b < (header_in s).functions = ltb-true b (header_in s).functions low in
      let same : first_in s b ≡ entry b = sym (agrees.entries b there) in
      record {
        action = refl;
        operand = ap (λ n. n % 65536) same ∙ low_word (entry b) most_records (agrees.low b there) (omega arith);
        tree = code_low stacked a;
        more = sym (agrees.arities b there);
      }
