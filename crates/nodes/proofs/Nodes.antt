-- The row "nodes", and how many parts a record has: a law for each way out of their functions.
use Prim.Native.Nat.{ℕ, suc, ◌+◌, ◌-◌, ◌<◌}
use mathlib.Core.List.{List}
use mathlib.Core.Path.{◌≡◌, refl, sym, ap, ap₂, ◌∙◌}
use native.Mathlib.Omega.{arith}
use lib.ListN.{get_or}
use Rattle.formats.specs.Numbers.{number_at}
use Rattle.formats.specs.Results.{Result, done, refusal, on_value, verdict, each}
use Rattle.formats.specs.Records.{record_at, part_count}
use Rattle.formats.specs.Rows.{node_row}
use Rattle.formats.specs.Inner.Fields.{header_in, arity_in, node_in}
use Rattle.formats.proofs.Results.{by_result, done_injective, done_not, Passing, pass_more, pass_refused, pass_all}
use Rattle.refusal.specs.Inner.Numbers.{number}
use Rattle.refusal.specs.declared.Refused.{Refused}
use Rattle.std.specs.Prelude.{Result as Answer, Ok, Err}
use Rattle.std.specs.Result.{MatchResult}
use Rattle.records.specs.Inner.Read.{Shape, described, listed, shape_of}
use Rattle.records.specs.declared.Part.{Part}
use Rattle.records.specs.declared.Parts.{Parts}
use Rattle.records.specs.declared.Parts.TheVariants.{None, One, Two, Three, Arguments}
use Rattle.records.specs.declared.Described.{Described}
use Rattle.nodes.specs.Inner.Parts.{parts_in}

-- ---- `node-row`

-- a changed value has the same verdict as the value
value_said : {A B : Type 0} (f : A → B) (r : Result A) → verdict (on_value f r) ≡ verdict r
value_said f (done x) = refl
value_said f (refusal number position) = refl

module _ (s : List ℕ) where
  pub nodes_first : (first end : ℕ) → first ≡ 1 + (header_in s).functions → end ≡ 1 + (header_in s).functions + (header_in s).nodes
      → Passing (node_in s) (verdict (node_row (header_in s) s)) end first
  unfolding node_row header_in record_at node_in
  nodes_first first end ef ee =
      let count : number_at 2 s 2 ≡ end - first = omega arith in
      let position : suc (get_or s 1 0) ≡ first = omega arith in
      record { left = ap₂ (λ n k. verdict (each (node_in s) n k)) count position }

  module _ (all : Result (Unit {0})) (end k : ℕ) (more : k < end) (p : Passing (node_in s) all end k)
      (found : Answer Described Refused) (reported : described found ≡ on_value shape_of (node_in s k))
    where
      -- the verdict on the node is that of the record read
      node_said : verdict (node_in s k) ≡ verdict (described found)
      node_said = sym (ap verdict reported ∙ value_said shape_of (node_in s k))

      pub nodes_more : (d : Described) → found ≡ Ok d → Passing (node_in s) all end (k + 1)
      nodes_more d case = pass_more _ all end k more p (node_said ∙ ap (λ f. verdict (described f)) case)

      pub nodes_refused : (r : Refused) → found ≡ Err r → refusal (number r.why) r.position ≡ all
      nodes_refused r case = pass_refused _ all end k (number r.why) r.position more p (node_said ∙ ap (λ f. verdict (described f)) case)

pub ruleset nodes_checked = (nodes_first, nodes_more, nodes_refused, pass_all)

-- ---- `part_count`

module _ (s : List ℕ) (parts : Parts) where
  pub count_none : parts ≡ None → 0 ≡ part_count (arity_in s) (listed parts)
  unfolding part_count
  count_none case = sym (ap (λ ps. part_count (arity_in s) (listed ps)) case)

  pub count_one : (p : Part) → parts ≡ One p → 1 ≡ part_count (arity_in s) (listed parts)
  unfolding part_count
  count_one p case = sym (ap (λ ps. part_count (arity_in s) (listed ps)) case)

  pub count_two : (p q : Part) → parts ≡ Two p q → 2 ≡ part_count (arity_in s) (listed parts)
  unfolding part_count
  count_two p q case = sym (ap (λ ps. part_count (arity_in s) (listed ps)) case)

  pub count_three : (p q r : Part) → parts ≡ Three p q r → 3 ≡ part_count (arity_in s) (listed parts)
  unfolding part_count
  count_three p q r case = sym (ap (λ ps. part_count (arity_in s) (listed ps)) case)

  pub count_arguments : (b n : ℕ) → parts ≡ Arguments b → n ≡ arity_in s b → n ≡ part_count (arity_in s) (listed parts)
  unfolding part_count
  count_arguments b n case e = e ∙ sym (ap (λ ps. part_count (arity_in s) (listed ps)) case)

pub ruleset parts_counted = (count_none, count_one, count_two, count_three, count_arguments)

-- ---- `parts_at`

module _ (s : List ℕ) (k : ℕ) (found : Answer Described Refused) (reported : described found ≡ on_value shape_of (node_in s k)) where
  pub parts_read : (d : Described) (n : ℕ) → found ≡ Ok d → n ≡ part_count (arity_in s) (listed d.parts) → n ≡ parts_in s k
  unfolding parts_in
  parts_read d n case e = by_result (node_in s k)
      (λ kind h.
      let same = done_injective (ap described (sym case) ∙ reported ∙ ap (on_value shape_of) h) in
      e ∙ ap (λ (shape : Shape). part_count (arity_in s) shape.parts) same ∙ sym (rw (h, parts_in)))
      (λ m q h. done_not (sym reported ∙ ap described case) (ap (on_value shape_of) h))

  pub parts_refused : (r : Refused) → found ≡ Err r → 0 ≡ parts_in s k
  unfolding parts_in
  parts_refused r case = by_result (node_in s k)
      (λ kind h. done_not (ap (on_value shape_of) h) (sym reported ∙ ap described case))
      (λ m q h. sym (rw (h, parts_in)))

  -- the number is that of the record's parts, or 0
  pub parts_or_none : (counted : Described → Type 0) (n : ℕ) → MatchResult found counted (λ r. n ≡ 0) → ((d : Described) → counted d → n ≡ part_count (arity_in s) (listed d.parts)) → n ≡ parts_in s k
  parts_or_none counted n = by found refl
    where
      by : (r : Answer Described Refused) → found ≡ r → MatchResult r counted (λ e. n ≡ 0) → ((d : Described) → counted d → n ≡ part_count (arity_in s) (listed d.parts)) → n ≡ parts_in s k
      by (Ok d) case is counts = parts_read d n case (counts d is)
      by (Err r) case is counts = is ∙ parts_refused r case
