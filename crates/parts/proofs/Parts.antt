-- Part i of a record's parts, of those in a row and of each case.
use Prim.Native.Nat.{ℕ, zero, suc, ◌-◌}
use mathlib.Core.List.{List, [], ◌∷◌, map}
use mathlib.Core.Logic.{◌≢◌}
use mathlib.Core.Path.{◌≡◌, refl, ◌∙◌}
use native.Mathlib.Omega.{arith}
use lib.ListN.{get_or}
use Rattle.std.proofs.lemmas.Option.{unwrap_or-slice_get}
use Rattle.formats.specs.Records.{as_whole, a_number, nth, these, nth_part, Part as PartOfKind}
use Rattle.records.specs.Inner.Read.{part_of, listed}
use Rattle.records.specs.declared.Part.{Part}
use Rattle.records.specs.declared.Part.TheVariants.{Whole}
use Rattle.records.specs.declared.Parts.{Parts}
use Rattle.records.specs.declared.Parts.TheVariants.{None, One, Two, Three, Arguments}

pub of_these : (ps : List Part) (i : ℕ) → part_of (get_or ps i Whole) ≡ nth_part (these (map part_of ps)) i
unfolding nth_part nth
of_these [] i = refl
of_these (p ∷ ps) zero = refl
of_these (p ∷ ps) (suc i) = of_these ps i

pub ruleset in_a_row = (of_these, unwrap_or-slice_get)

-- ---- three parts, where those that are left out are as the whole

module _ (p q r : PartOfKind) (i : ℕ) where
  pub of_first : i ≡ 0 → p ≡ nth_part (these (p ∷ q ∷ r ∷ [])) i
  unfolding nth_part nth
  of_first e = rw e

  pub of_second : i ≡ 1 → q ≡ nth_part (these (p ∷ q ∷ r ∷ [])) i
  unfolding nth_part nth
  of_second e = rw e

  pub of_third : i ≡ 2 → r ≡ nth_part (these (p ∷ q ∷ r ∷ [])) i
  unfolding nth_part nth
  of_third e = rw e

  pub of_later : i ≢ 0 → i ≢ 1 → i ≢ 2 → as_whole ≡ nth_part (these (p ∷ q ∷ r ∷ [])) i
  unfolding nth_part nth
  of_later n0 n1 n2 =
      let later : i ≡ suc (suc (suc (i - 3))) = omega arith in
      rw later

pub ruleset of_three = (of_first, of_second, of_third, of_later)

-- parts at the end that are as the whole may be left out
two_of_three : (p q : PartOfKind) (i : ℕ) → nth_part (these (p ∷ q ∷ as_whole ∷ [])) i ≡ nth_part (these (p ∷ q ∷ [])) i
unfolding nth_part nth
two_of_three p q zero = refl
two_of_three p q (suc zero) = refl
two_of_three p q (suc (suc zero)) = refl
two_of_three p q (suc (suc (suc i))) = refl

one_of_two : (p : PartOfKind) (i : ℕ) → nth_part (these (p ∷ as_whole ∷ [])) i ≡ nth_part (these (p ∷ [])) i
unfolding nth_part nth
one_of_two p zero = refl
one_of_two p (suc zero) = refl
one_of_two p (suc (suc i)) = refl

module _ (parts : Parts) (i : ℕ) where
  pub part_one : (p : Part) (x : PartOfKind) → parts ≡ One p → x ≡ nth_part (these (part_of p ∷ as_whole ∷ as_whole ∷ [])) i → x ≡ nth_part (listed parts) i
  part_one p x case is = rw case (is ∙ two_of_three (part_of p) as_whole i ∙ one_of_two (part_of p) i)

  pub part_two : (p q : Part) (x : PartOfKind) → parts ≡ Two p q → x ≡ nth_part (these (part_of p ∷ part_of q ∷ as_whole ∷ [])) i → x ≡ nth_part (listed parts) i
  part_two p q x case is = rw case (is ∙ two_of_three (part_of p) (part_of q) i)

  pub part_three : (p q r : Part) (x : PartOfKind) → parts ≡ Three p q r → x ≡ nth_part (these (part_of p ∷ part_of q ∷ part_of r ∷ [])) i → x ≡ nth_part (listed parts) i
  part_three p q r x case is = rw case is

-- ---- `nth_part`

pub part_none : (parts : Parts) (i : ℕ) → parts ≡ None → nth_part (listed parts) i ≡ as_whole
unfolding nth_part nth
part_none parts i case = rw case

pub part_argument : (parts : Parts) (i b : ℕ) → parts ≡ Arguments b → nth_part (listed parts) i ≡ a_number
unfolding nth_part
part_argument parts i b case = rw case

pub ruleset part_ways = (part_none, part_argument)
