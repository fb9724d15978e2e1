-- Items found: a law for each way out of the function.
use Prim.Native.Nat.{ℕ, suc, ◌-◌, ◌≤◌}
use mathlib.Core.Logic.{◌≢◌}
use mathlib.Core.Path.{◌≡◌, refl}
use native.Mathlib.Omega.{arith}
use lib.ListN.{length}
use Rattle.formats.specs.Inner.CodeColumn.{items_before}
use Rattle.records.specs.Inner.Read.{row}
use Rattle.records.specs.declared.Items.{Items}
use Rattle.records.specs.declared.Items.TheVariants.{None, One, Two}
use Rattle.records.specs.declared.Template.{Template}
use Rattle.template.specs.Inner.Items.{ItemsBefore}

-- ---- `items_before`

-- there are at most two items
pub few_items : (items : Items) → length (row items) ≤ 2
few_items None = omega arith
few_items (One x) = omega arith
few_items (Two x y) = omega arith

module _ (template : Template) (i : ℕ) where
  pub before_first : i ≡ 0 → ItemsBefore template i template.first
  unfolding items_before
  before_first e = rw e (record { is = refl; few = omega (arith, few_items template.first) })

  pub before_second : i ≡ 1 → ItemsBefore template i template.second
  unfolding items_before
  before_second e = rw e (record { is = refl; few = omega (arith, few_items template.second) })

  pub before_third : i ≡ 2 → ItemsBefore template i template.third
  unfolding items_before
  before_third e = rw e (record { is = refl; few = omega (arith, few_items template.third) })

  pub before_later : i ≢ 0 → i ≢ 1 → i ≢ 2 → ItemsBefore template i None
  unfolding items_before
  before_later n0 n1 n2 =
      let later : i ≡ suc (suc (suc (i - 3))) = omega arith in
      rw later (record { is = refl; few = omega arith })

pub ruleset before_ways = (before_first, before_second, before_third, before_later)
