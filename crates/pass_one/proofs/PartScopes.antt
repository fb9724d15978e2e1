-- What is known on entering a part: a law for each way out of `inside`, and that counts stay small
-- from one part to the next.
use Prim.Native.Nat.{ℕ, suc, ◌+◌, ◌≤◌}
use mathlib.Core.Bool.{true, false}
use mathlib.Core.Path.{◌≡◌, ap, ap₂}
use native.Mathlib.Numerals.{add-one}
use native.Mathlib.Omega.{arith}
use Rattle.formats.specs.Records.{a_number, a_tree, as_whole, under_number, under_trees, Part as PartOfKind}
use Rattle.records.specs.Inner.Read.{part_of}
use Rattle.records.specs.declared.Part.{Part}
use Rattle.records.specs.declared.Part.TheVariants.{Number, Tree, Whole, UnderNumber, UnderTrees}
use Rattle.rules.specs.Scopes.{scope, part_scope, Scope as ScopeThere}
use Rattle.pass_one.specs.Inner.Walk.{expected, scope_of, Small, Fits, FitsParts}
use Rattle.pass_one.specs.declared.Scope.{Scope}

-- ---- `inside`

module _ (c : Scope) (part : Part) (i : ℕ) where
  pub in_number : part ≡ Number
      → scope_of (record { numbers = c.numbers; trees = c.trees; words = c.words + i; tree = false }) ≡ part_scope (part_of part) i (scope_of c)
  unfolding part_scope
  in_number case = rw case

  pub in_tree : part ≡ Tree
      → scope_of (record { numbers = c.numbers; trees = c.trees; words = c.words; tree = true }) ≡ part_scope (part_of part) i (scope_of c)
  unfolding part_scope
  in_tree case = rw case

  pub in_whole : part ≡ Whole → scope_of c ≡ part_scope (part_of part) i (scope_of c)
  unfolding part_scope
  in_whole case = rw case

  pub in_under_number : part ≡ UnderNumber
      → scope_of (record { numbers = c.numbers + 1; trees = c.trees; words = c.words + 1; tree = c.tree }) ≡ part_scope (part_of part) i (scope_of c)
  unfolding part_scope
  in_under_number case = rw case (ap₂ (λ g w. scope g c.trees w (expected c.tree)) (add-one c.numbers) (add-one c.words))

  pub in_under_trees : part ≡ UnderTrees
      → scope_of (record { numbers = c.numbers; trees = c.trees + 2; words = c.words; tree = c.tree }) ≡ part_scope (part_of part) i (scope_of c)
  unfolding part_scope
  in_under_trees case =
      let two : c.trees + 2 ≡ suc (suc c.trees) = omega arith in
      rw case (ap (λ n. scope c.numbers n c.words (expected c.tree)) two)

pub ruleset part_scopes = (in_number, in_tree, in_whole, in_under_number, in_under_trees)

-- ---- counts stay small

less : {k end g n w g' n' w' : ℕ} → Small k end g n w → g' ≤ g → n' ≤ n → w' ≤ w → Small k end g' n' w'
less h lg ln lw = record {
  inside = h.inside;
  numbers = omega (arith, h.numbers);
  trees = omega (arith, h.trees);
  words = omega (arith, h.words);
}

-- what fits the parts of a record fits each of them
pub inside_fits : (p : PartOfKind) (i k end : ℕ) (sc : ScopeThere) → FitsParts i k end sc → Fits k end (part_scope p i sc)
unfolding part_scope
inside_fits a_number i k end (scope g n w τ) h = less h (omega arith) (omega arith) (omega arith)
inside_fits a_tree i k end (scope g n w τ) h = less h (omega arith) (omega arith) (omega arith)
inside_fits as_whole i k end (scope g n w τ) h = less h (omega arith) (omega arith) (omega arith)
inside_fits under_number i k end (scope g n w τ) h = less h (omega arith) (omega arith) (omega arith)
inside_fits under_trees i k end (scope g n w τ) h = less h (omega arith) (omega arith) (omega arith)
