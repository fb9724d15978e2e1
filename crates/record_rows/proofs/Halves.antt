-- The first half of a row: a law for each way out of its functions.
use Prim.Native.Nat.{ℕ, zero, suc, ◌+◌, ◌-◌, ◌*◌, ◌/◌, ◌%◌, ◌^◌, ◌≤◌, ◌<◌}
use mathlib.Core.List.{List}
use mathlib.Core.Logic.{◌≢◌, ◌⊎◌, inl, inr}
use mathlib.Core.Path.{◌≡◌, refl, sym, ap, ◌∙◌}
use native.Mathlib.Omega.{arith}
use lib.ListN.{length, get_or, take, length-take, get_or-eq_default}
use lib.Seq.{get_or-take}
use Rattle.formats.specs.Numbers.{Bytes}
use Rattle.formats.specs.Records.{record_at}
use Rattle.formats.specs.Inner.Fields.{header_in, arity_in, count_in}
use Rattle.functions.specs.Inner.Counts.{counts_from}
use Rattle.formats.proofs.Records.{ranged_at}
use Rattle.records.specs.Inner.Read.{meant}
use Rattle.records.specs.declared.Record.{Record}
use Rattle.records.specs.declared.Record.TheVariants.{Const, Var, Add, IfZero, Let, Leaf, Node, Case, Call}
use Rattle.records.specs.declared.Constant.{Constant}
use Rattle.records.specs.declared.NumberName.{NumberName}
use Rattle.records.specs.declared.TreeName.{TreeName}
use Rattle.records.specs.declared.Called.{Called}
use Rattle.stepwise.specs.Inner.Rows.{action_of, naming_code, more_of}
use Rattle.frames.specs.declared.Action.TheVariants.{GivesConstant, GivesNamed, EntersPart, TagsNode, LooksAtTree, CallsFunction}
use Rattle.frames.specs.Inner.Named.{action_of_number}
use Rattle.record_rows.specs.Inner.Halves.{first_in, operand_in, tree_in, own_in}

-- ---- `first_record`

-- a count fits its field, and so does a sum of fewer than 65,536 of them its type
count_low : (s : List ℕ) (j : ℕ) → Bytes s → count_in s j < 65536
unfolding count_in record_at
count_low s j bytes = (ranged_at s (suc j) bytes).2

counts_low : (s : List ℕ) (n j : ℕ) → Bytes s → counts_from n s j ≤ 65535 * n
unfolding counts_from
counts_low s zero j bytes = omega arith
counts_low s (suc n) j bytes = omega (arith, count_low s j bytes, counts_low s n (suc j) bytes)

pub first_is : (s : List ℕ) (b : ℕ) → 1 + (header_in s).functions + counts_from b s 0 ≡ first_in s b
unfolding first_in
first_is s b = refl

-- the header's count of functions fits its field
functions_low : (s : List ℕ) → Bytes s → (header_in s).functions < 256
unfolding header_in record_at
functions_low s bytes = (ranged_at s 0 bytes).1

-- so the sum fits its type
pub first_low : (s : List ℕ) (b : ℕ) → Bytes s → b < 65536 → first_in s b < 2 ^ 64
unfolding first_in
first_low s b bytes low = omega (arith, counts_low s b 0 bytes, functions_low s bytes)

-- ---- an entry of the Cases around a record

module _ (cases : List ℕ) (depth n : ℕ) where
  pub case_above : depth ≤ n → 0 ≡ get_or (take depth cases) n 0
  case_above over = sym (get_or-eq_default (take depth cases) 0 (omega (arith, length-take depth cases)))

  pub case_past : length cases ≤ n → 0 ≡ get_or (take depth cases) n 0
  case_past over = sym (get_or-eq_default (take depth cases) 0 (omega (arith, length-take depth cases)))

  pub case_there : n < depth → get_or cases n 0 ≡ get_or (take depth cases) n 0
  case_there below = sym (get_or-take depth cases n 0 below)

pub ruleset cases_at = (case_above, case_past, case_there)

-- ---- `code_of`

module _ (cases : List ℕ) (a : ℕ) where
  pub code_own : a ≡ 0 → 0 ≡ naming_code cases a % 65536
  unfolding naming_code
  code_own e = sym (ap (λ n. naming_code cases n % 65536) e)

  pub code_case : (x : ℕ) → a ≢ 0 → x ≡ get_or cases ((a - 1) / 2) 0 → (1 + (2 * x + (a - 1) % 2)) % 65536 ≡ naming_code cases a % 65536
  unfolding naming_code
  code_case x other e =
      let next : a ≡ suc (a - 1) = omega arith in
      let same : 1 + (2 * x + (a - 1) % 2) ≡ suc (2 * get_or cases ((a - 1) / 2) 0 + (a - 1) % 2) = omega arith in
      ap (λ n. n % 65536) (same ∙ sym (ap (naming_code cases) next))

pub ruleset codes = (code_own, code_case)

-- ---- `own_of`

module _ (s cases : List ℕ) (names : ℕ) (node : Record) where
  pub owns_const : (c : Constant) → node ≡ Const c → own_in s cases names (meant node) ≡ record { action = GivesConstant; operand = c.i % 65536; tree = 0; more = c.i / 65536 }
  unfolding own_in action_of_number action_of operand_in tree_in more_of
  owns_const c case = rw case refl

  pub owns_var : (v : NumberName) → node ≡ Var v → own_in s cases names (meant node) ≡ record { action = GivesNamed; operand = v.a; tree = 0; more = 0 }
  unfolding own_in action_of_number action_of operand_in tree_in more_of
  owns_var v case = rw case refl

  -- the four kinds whose first part begins, and which have no operands
  pub owns_entered : (node ≡ Add) ⊎ (node ≡ IfZero) ⊎ (node ≡ Let) ⊎ (node ≡ Leaf) → own_in s cases names (meant node) ≡ record { action = EntersPart; operand = 0; tree = 0; more = 0 }
  unfolding own_in action_of_number action_of operand_in tree_in more_of
  owns_entered (inl case) = rw case refl
  owns_entered (inr (inl case)) = rw case refl
  owns_entered (inr (inr (inl case))) = rw case refl
  owns_entered (inr (inr (inr case))) = rw case refl

  pub owns_node : node ≡ Node → own_in s cases names (meant node) ≡ record { action = TagsNode; operand = 0; tree = 0; more = 0 }
  unfolding own_in action_of_number action_of operand_in tree_in more_of
  owns_node case = rw case refl

  pub owns_case : (t : TreeName) → node ≡ Case t → own_in s cases names (meant node) ≡ record { action = LooksAtTree; operand = names % 65536; tree = naming_code cases t.a % 65536; more = 0 }
  unfolding own_in action_of_number action_of operand_in tree_in more_of
  owns_case t case = rw case refl

  pub owns_call : (c : Called) → node ≡ Call c → own_in s cases names (meant node) ≡ record { action = CallsFunction; operand = first_in s c.b % 65536; tree = naming_code cases c.a % 65536; more = arity_in s c.b }
  unfolding own_in action_of_number action_of operand_in tree_in more_of
  owns_call c case = rw case refl

pub ruleset owned = (owns_const, owns_var, owns_entered, owns_node, owns_case, owns_call)
