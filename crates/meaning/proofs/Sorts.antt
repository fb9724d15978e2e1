-- Values by their sort, and environments where every number and every label fits 32 bits.
use Prim.Native.Nat.{ℕ, ◌^◌, ◌<◌}
use mathlib.Core.List.{List}
use mathlib.Core.Option.{some}
use mathlib.Core.Path.{◌≡◌}
use lib.ListN.{length}
use Rattle.formats.specs.Tokens.{Tree, node, Labelled}
use Rattle.formats.specs.Programs.{Sort, number_valued, tree_valued, Every}
use Rattle.meaning.specs.Evaluation.{Value, number, tree, Environment, number_named, tree_named, with_number, with_trees, in_call}
use Rattle.meaning.proofs.Levels.{level_every}

-- ---- the values that pass one promises

-- Of an expression of a sort: the numbers or the trees, and each as a value.
abbrev pub ValuesOf : Sort → Type 0
ValuesOf number_valued = ℕ
ValuesOf tree_valued = Tree

abbrev pub value_of : (s : Sort) → ValuesOf s → Value
value_of number_valued i = number i
value_of tree_valued t = tree t

-- Of so many arguments: as many numbers, and these as a list.
pub record Numbers (count : ℕ) : Type 0 where
  pub all : List ℕ
  pub many : length all ≡ count

abbrev pub numbers_of : (count : ℕ) → Numbers count → List ℕ
numbers_of count numbers = numbers.all

-- ---- what fits 32 bits

-- A number of 32 bits.
abbrev pub Fits : ℕ → Type 0
Fits i = i < 2 ^ 32

-- All that names stand for fits: every number, and every label of every tree.
pub record AllFit (E : Environment) : Type 0 where
  pub numbers : Every Fits E.numbers
  pub trees : Every Labelled E.trees

-- so does each number and each tree that is named
pub number_fits : {E : Environment} {i : ℕ} (a : ℕ) → AllFit E → number_named E a ≡ some i → Fits i
number_fits {E} a fit named = level_every Fits E.numbers a fit.numbers named

pub tree_fits : {E : Environment} {t : Tree} (a : ℕ) → AllFit E → tree_named E a ≡ some t → Labelled t
tree_fits {E} a fit named = level_every Labelled E.trees a fit.trees named

-- all fits with one more number that does, with the two trees of a node that does, and in a call
-- with numbers and a tree that do
pub fit_number : {E : Environment} {i : ℕ} → AllFit E → Fits i → AllFit (with_number i E)
fit_number fit fits = record { numbers = (fits, fit.numbers); trees = fit.trees }

pub fit_trees : {E : Environment} {l r : Tree} → AllFit E → Labelled (node l r) → AllFit (with_trees l r E)
fit_trees fit fits = record { numbers = fit.numbers; trees = (fits.1, (fits.0, fit.trees)) }

pub fit_call : {numbers : List ℕ} {t : Tree} → Every Fits numbers → Labelled t → AllFit (in_call numbers t)
fit_call fits labelled = record { numbers = fits; trees = (labelled, tt) }
