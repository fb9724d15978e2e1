-- Where parts stand: a law for each way out of the functions. Where counts are small, no sum is
-- cut.
use Prim.Native.Nat.{ℕ, suc, ◌+◌, ◌-◌, ◌%◌, ◌≤◌, ◌<◌}
use mathlib.Core.Bool.{Bool, true, false}
use mathlib.Core.List.{List}
use mathlib.Core.Logic.{◌≢◌, ◌⊎◌, inl, inr}
use mathlib.Core.Path.{◌≡◌, refl, sym, ap, ap₂, ◌∙◌}
use native.Mathlib.Omega.{arith}
use borrow.Author.Rules.{rules}
use borrow.Author.Tests.{eq-eqb, ne_eqb, eqb-true, eqb-false}
use lib.Dec.{eqb}
use lib.ListN.{length, set}
use lib.Seq.{set_out}
use Rattle.records.specs.Inner.Read.{meant, part_of}
use Rattle.records.specs.declared.Part.{Part}
use Rattle.records.specs.declared.Part.TheVariants.{Number, Tree, Whole, UnderNumber, UnderTrees}
use Rattle.records.specs.declared.Record.{Record}
use Rattle.records.specs.declared.Record.TheVariants.{Const, Var, Add, IfZero, Let, Leaf, Node, Case, Call}
use Rattle.records.specs.declared.Called.{Called}
use Rattle.frames.specs.declared.Role.{Role}
use Rattle.frames.specs.declared.Role.TheVariants.{Kept, Added, Tested, Passed, Labelled, Followed, LastArgument}
use Rattle.frames.specs.Inner.Named.{role_of_number}
use Rattle.stepwise.specs.Inner.Rows.{kept, second_of, last_argument, last_word, role_of, slot_of}
use Rattle.part_locations.specs.declared.Location.{Location}
use Rattle.part_locations.specs.Inner.Locations.{largest, capped, names_inside, keeps_inside, depth_inside, used_in, part_in, noted}

-- ---- sums that stop at the largest number

pub cap_low : (n : ℕ) → n ≤ largest → capped n ≡ n
cap_low n low = omega arith

pub cap_high : (n : ℕ) → largest < n → capped n ≡ largest
cap_high n high = omega arith

pub sum_high : (x y : ℕ) → largest - x < y → largest ≡ capped (x + y)
sum_high x y high = sym (cap_high (x + y) (omega arith))

pub sum_low : (x y : ℕ) → y ≤ largest - x → x ≤ largest → x + y ≡ capped (x + y)
sum_low x y low small = sym (cap_low (x + y) (omega arith))

pub ruleset sums = (sum_high, sum_low, rules)

-- ---- whether part i is the last

pub last_none : (i count : ℕ) → count ≡ 0 → false ≡ eqb (suc i) count
last_none i count none = sym (ne_eqb (suc i) count (λ e. absurd (omega arith)))

pub last_is : (i count : ℕ) → count ≢ 0 → eqb i (count - 1) ≡ eqb (suc i) count
last_is i count some = by (eqb i (count - 1)) refl
  where
    by : (b : Bool) → eqb i (count - 1) ≡ b → b ≡ eqb (suc i) count
    by true e = let same = eqb-true i (count - 1) e in sym (eq-eqb (suc i) count (omega arith))
    by false e = let unlike = eqb-false i (count - 1) e in sym (ne_eqb (suc i) count (λ f. unlike (omega arith)))

pub ruleset lasts = (last_none, last_is)

-- ---- what is named in a part

module _ (part : Part) (n : ℕ) where
  pub names_more : (m : ℕ) → part ≡ UnderNumber → m ≡ capped (n + 1) → m ≡ names_inside (part_of part) n
  unfolding names_inside
  names_more m case e = rw case e

  pub depth_more : (m : ℕ) → part ≡ UnderTrees → m ≡ capped (n + 1) → m ≡ depth_inside (part_of part) n
  unfolding depth_inside
  depth_more m case e = rw case e

-- parts in which no number is named ..
pub names_same : (part : Part) (n : ℕ) → (part ≡ UnderNumber → ⊥) → n ≡ names_inside (part_of part) n
unfolding names_inside
names_same Number n h = refl
names_same Tree n h = refl
names_same Whole n h = refl
names_same UnderNumber n h = absurd (h refl)
names_same UnderTrees n h = refl

-- .. and parts in which no tree is named
pub depth_same : (part : Part) (n : ℕ) → (part ≡ UnderTrees → ⊥) → n ≡ depth_inside (part_of part) n
unfolding depth_inside
depth_same Number n h = refl
depth_same Tree n h = refl
depth_same Whole n h = refl
depth_same UnderNumber n h = refl
depth_same UnderTrees n h = absurd (h refl)

pub ruleset namings = (names_more, depth_more, names_same, depth_same)

-- ---- `used`

module _ (node : Record) (i count : ℕ) (p : Location) where
  -- a part after the first
  later : i ≢ 0 → i ≡ suc (i - 1)
  later h = omega arith

  pub used_add_first : node ≡ Add → i ≡ 0 → used_in (meant node) i count p ≡ (Kept, last_word - p.keeps, p.keeps)
  unfolding used_in role_of_number second_of role_of slot_of keeps_inside
  used_add_first case first = rw (case, first) refl

  pub used_add_second : node ≡ Add → i ≢ 0 → used_in (meant node) i count p ≡ (Added, last_word - p.keeps, capped (p.keeps + 1))
  unfolding used_in role_of_number second_of role_of slot_of keeps_inside
  used_add_second case other = rw (case, later other) refl

  pub used_if_test : node ≡ IfZero → i ≡ 0 → used_in (meant node) i count p ≡ (Tested, 0, p.keeps)
  unfolding used_in role_of_number second_of role_of slot_of keeps_inside
  used_if_test case first = rw (case, first) refl

  pub used_if_part : node ≡ IfZero → i ≢ 0 → used_in (meant node) i count p ≡ (Passed, 0, p.keeps)
  unfolding used_in role_of_number second_of role_of slot_of keeps_inside
  used_if_part case other = rw (case, later other) refl

  pub used_let_first : node ≡ Let → i ≡ 0 → used_in (meant node) i count p ≡ (Kept, p.names, p.keeps)
  unfolding used_in role_of_number second_of role_of slot_of keeps_inside
  used_let_first case first = rw (case, first) refl

  pub used_let_body : node ≡ Let → i ≢ 0 → used_in (meant node) i count p ≡ (Passed, p.names, p.keeps)
  unfolding used_in role_of_number second_of role_of slot_of keeps_inside
  used_let_body case other = rw (case, later other) refl

  pub used_leaf : node ≡ Leaf → used_in (meant node) i count p ≡ (Labelled, 0, p.keeps)
  unfolding used_in role_of_number second_of role_of slot_of keeps_inside
  used_leaf case = rw (case) refl

  pub used_node_left : node ≡ Node → i ≡ 0 → used_in (meant node) i count p ≡ (Followed, 0, p.keeps)
  unfolding used_in role_of_number second_of role_of slot_of keeps_inside
  used_node_left case first = rw (case, first) refl

  pub used_node_right : node ≡ Node → i ≢ 0 → used_in (meant node) i count p ≡ (Passed, 0, p.keeps)
  unfolding used_in role_of_number second_of role_of slot_of keeps_inside
  used_node_right case other = rw (case, later other) refl

  module _ (c : Called) (case : node ≡ Call c) where
    -- the role of the last argument, or of another
    abbrev call_role : Bool → Role
    call_role last = role_of_number (elim last [ true ↦ last_argument | false ↦ kept ])

    -- the word is the same where the sum is cut: it is the first
    call_word : last_word - (p.keeps + i) ≡ last_word - capped (p.keeps + i)
    call_word = omega arith

    pub used_call_last : count - i ≡ 1 → used_in (meant node) i count p ≡ (LastArgument, last_word - capped (p.keeps + i), capped (p.keeps + i))
    unfolding used_in role_of_number role_of slot_of keeps_inside
    used_call_last one = rw case (ap₂ (λ role slot. (role, slot, capped (p.keeps + i))) (ap call_role (eq-eqb (suc i) count (omega arith))) call_word)

    pub used_call_other : count - i ≢ 1 → used_in (meant node) i count p ≡ (Kept, last_word - capped (p.keeps + i), capped (p.keeps + i))
    unfolding used_in role_of_number role_of slot_of keeps_inside
    used_call_other other = rw case (ap₂ (λ role slot. (role, slot, capped (p.keeps + i))) (ap call_role (ne_eqb (suc i) count (λ e. absurd (omega arith)))) call_word)

-- the value of a Case's part is the Case's; a Const and a Var have no parts
pub used_passed : (node : Record) (i count : ℕ) (p : Location) → (node ≡ Add → ⊥) → (node ≡ IfZero → ⊥) → (node ≡ Let → ⊥) → (node ≡ Leaf → ⊥) → (node ≡ Node → ⊥) → ((x : Called) → node ≡ Call x → ⊥)
    → used_in (meant node) i count p ≡ (Passed, 0, p.keeps)
unfolding used_in role_of_number role_of slot_of keeps_inside
used_passed (Const x) i count p _ _ _ _ _ _ = refl
used_passed (Var x) i count p _ _ _ _ _ _ = refl
used_passed Add i count p no_add _ _ _ _ _ = absurd (no_add refl)
used_passed IfZero i count p _ no_if_zero _ _ _ _ = absurd (no_if_zero refl)
used_passed Let i count p _ _ no_let _ _ _ = absurd (no_let refl)
used_passed Leaf i count p _ _ _ no_leaf _ _ = absurd (no_leaf refl)
used_passed Node i count p _ _ _ _ no_node _ = absurd (no_node refl)
used_passed (Case x) i count p _ _ _ _ _ _ = refl
used_passed (Call x) i count p _ _ _ _ _ no_call = absurd (no_call x refl)

pub ruleset uses = (used_add_first, used_add_second, used_if_test, used_if_part, used_let_first, used_let_body, used_leaf, used_node_left, used_node_right, used_call_last, used_call_other, used_passed)

-- ---- `inside`

-- a location with these fields
abbrev pub placed : Role → (parent slot names keeps depth : ℕ) → Location
placed role parent slot names keeps depth = record { role = role; parent = parent; slot = slot; names = names; keeps = keeps; depth = depth }

module _ (part : Part) (parent : Record) (r i count : ℕ) (p : Location) (u : Role × ℕ × ℕ) (used : u ≡ used_in (meant parent) i count p) where
  -- by what is named in the part
  placed_in : (names depth : ℕ) → names ≡ names_inside (part_of part) p.names → depth ≡ depth_inside (part_of part) p.depth
      → placed u.0 r u.1 names u.2 depth ≡ part_in (part_of part) (meant parent) r i count p
  unfolding part_in used_in
  placed_in names depth en ed = rw (en, ed) (ap (λ (u : Role × ℕ × ℕ). placed u.0 r u.1 (names_inside (part_of part) p.names) u.2 (depth_inside (part_of part) p.depth)) used)

  pub inside_same : (part ≡ Number) ⊎ (part ≡ Tree) ⊎ (part ≡ Whole) → placed u.0 r u.1 p.names u.2 p.depth ≡ part_in (part_of part) (meant parent) r i count p
  unfolding names_inside depth_inside
  inside_same (inl case) = placed_in p.names p.depth (rw case refl) (rw case refl)
  inside_same (inr (inl case)) = placed_in p.names p.depth (rw case refl) (rw case refl)
  inside_same (inr (inr case)) = placed_in p.names p.depth (rw case refl) (rw case refl)

  pub inside_number : (more : ℕ) → part ≡ UnderNumber → more ≡ capped (p.names + 1) → placed u.0 r u.1 more u.2 p.depth ≡ part_in (part_of part) (meant parent) r i count p
  unfolding names_inside depth_inside
  inside_number more case e = placed_in more p.depth (rw case e) (rw case refl)

  pub inside_trees : (more : ℕ) → part ≡ UnderTrees → more ≡ capped (p.depth + 1) → placed u.0 r u.1 p.names u.2 more ≡ part_in (part_of part) (meant parent) r i count p
  unfolding names_inside depth_inside
  inside_trees more case e = placed_in p.names more (rw case refl) (rw case e)

pub ruleset insides = (inside_same, inside_number, inside_trees)

-- The same for each kind of record, whatever the part is.

-- kinds of record whose parts have the record's value, or that have no parts
passed_part : (part : Part) (node : Record) (r i count : ℕ) (p : Location) → (node ≡ Add → ⊥) → (node ≡ IfZero → ⊥) → (node ≡ Let → ⊥) → (node ≡ Leaf → ⊥) → (node ≡ Node → ⊥) → ((x : Called) → node ≡ Call x → ⊥)
    → placed Passed r 0 (names_inside (part_of part) p.names) p.keeps (depth_inside (part_of part) p.depth) ≡ part_in (part_of part) (meant node) r i count p
passed_part part node r i count p no_add no_if_zero no_let no_leaf no_node no_call =
    placed_in part node r i count p (Passed, 0, p.keeps) (sym (used_passed node i count p no_add no_if_zero no_let no_leaf no_node no_call)) _ _ refl refl

module _ (part : Part) (node : Record) (r i count : ℕ) (p q : Location) (names depth : ℕ) (en : names ≡ names_inside (part_of part) p.names)
    (ed : depth ≡ depth_inside (part_of part) p.depth) where
  -- by the role, the word and how many numbers are kept
  by_used : (role : Role) (slot keeps : ℕ) → used_in (meant node) i count p ≡ (role, slot, keeps) → q ≡ placed role r slot names keeps depth
      → q ≡ part_in (part_of part) (meant node) r i count p
  by_used role slot keeps used own = own ∙ placed_in part node r i count p (role, slot, keeps) (sym used) names depth en ed

  pub inside_add_first : (slot : ℕ) → node ≡ Add → i ≡ 0 → slot ≡ last_word - p.keeps → q ≡ placed Kept r slot names p.keeps depth
      → q ≡ part_in (part_of part) (meant node) r i count p
  inside_add_first slot case first es = by_used Kept slot p.keeps (used_add_first node i count p case first ∙ ap (λ n. (Kept, n, p.keeps)) (sym es))

  pub inside_add_second : (slot more : ℕ) → node ≡ Add → i ≢ 0 → slot ≡ last_word - p.keeps → more ≡ capped (p.keeps + 1)
      → q ≡ placed Added r slot names more depth
      → q ≡ part_in (part_of part) (meant node) r i count p
  inside_add_second slot more case other es em =
      by_used Added slot more (used_add_second node i count p case other ∙ ap₂ (λ n m. (Added, n, m)) (sym es) (sym em))

  pub inside_if_test : node ≡ IfZero → i ≡ 0 → q ≡ placed Tested r 0 names p.keeps depth → q ≡ part_in (part_of part) (meant node) r i count p
  inside_if_test case first = by_used Tested 0 p.keeps (used_if_test node i count p case first)

  pub inside_if_part : node ≡ IfZero → i ≢ 0 → q ≡ placed Passed r 0 names p.keeps depth → q ≡ part_in (part_of part) (meant node) r i count p
  inside_if_part case other = by_used Passed 0 p.keeps (used_if_part node i count p case other)

  pub inside_let_first : node ≡ Let → i ≡ 0 → q ≡ placed Kept r p.names names p.keeps depth → q ≡ part_in (part_of part) (meant node) r i count p
  inside_let_first case first = by_used Kept p.names p.keeps (used_let_first node i count p case first)

  pub inside_let_body : node ≡ Let → i ≢ 0 → q ≡ placed Passed r p.names names p.keeps depth → q ≡ part_in (part_of part) (meant node) r i count p
  inside_let_body case other = by_used Passed p.names p.keeps (used_let_body node i count p case other)

  pub inside_leaf : node ≡ Leaf → q ≡ placed Labelled r 0 names p.keeps depth → q ≡ part_in (part_of part) (meant node) r i count p
  inside_leaf case = by_used Labelled 0 p.keeps (used_leaf node i count p case)

  pub inside_node_left : node ≡ Node → i ≡ 0 → q ≡ placed Followed r 0 names p.keeps depth → q ≡ part_in (part_of part) (meant node) r i count p
  inside_node_left case first = by_used Followed 0 p.keeps (used_node_left node i count p case first)

  pub inside_node_right : node ≡ Node → i ≢ 0 → q ≡ placed Passed r 0 names p.keeps depth → q ≡ part_in (part_of part) (meant node) r i count p
  inside_node_right case other = by_used Passed 0 p.keeps (used_node_right node i count p case other)

  -- an argument, the last one or not
  pub inside_call : (c : Called) (more : ℕ) (last : Bool) → node ≡ Call c → more ≡ capped (p.keeps + i) → last ≡ eqb (suc i) count
      → q ≡ placed (elim last [ true ↦ LastArgument | false ↦ Kept ]) r (last_word - more) names more depth
      → q ≡ part_in (part_of part) (meant node) r i count p
  inside_call c more last case em el = by last el
    where
      by : (b : Bool) → b ≡ eqb (suc i) count → q ≡ placed (elim b [ true ↦ LastArgument | false ↦ Kept ]) r (last_word - more) names more depth
          → q ≡ part_in (part_of part) (meant node) r i count p
      by true e =
          let same = eqb-true (suc i) count (sym e) in
          let one : count - i ≡ 1 = omega arith in
          by_used LastArgument (last_word - more) more (used_call_last node i count p c case one ∙ ap (λ n. (LastArgument, last_word - n, n)) (sym em))
      by false e =
          let unlike = eqb-false (suc i) count (sym e) in
          by_used Kept (last_word - more) more
          (used_call_other node i count p c case (λ one. unlike (omega arith)) ∙ ap (λ n. (Kept, last_word - n, n)) (sym em))

  -- the value of a Case's part is the Case's; a Const and a Var have no parts
  pub inside_passed : (node ≡ Add → ⊥) → (node ≡ IfZero → ⊥) → (node ≡ Let → ⊥) → (node ≡ Leaf → ⊥) → (node ≡ Node → ⊥) → ((x : Called) → node ≡ Call x → ⊥) → q ≡ placed Passed r 0 names p.keeps depth
      → q ≡ part_in (part_of part) (meant node) r i count p
  inside_passed no_add no_if_zero no_let no_leaf no_node no_call =
      by_used Passed 0 p.keeps (used_passed node i count p no_add no_if_zero no_let no_leaf no_node no_call)

-- ---- `note_case`

module _ (part : Part) (r depth : ℕ) (cases : List ℕ) where
  pub note_full : part ≡ UnderTrees → length cases ≤ depth → cases ≡ noted (part_of part) r depth cases
  unfolding noted
  note_full case full = rw case (sym (set_out cases depth (r % 65536) full))

  pub note_node : part ≡ UnderTrees → set cases depth (r % 65536) ≡ noted (part_of part) r depth cases
  unfolding noted
  note_node case = rw case

pub note_other : (part : Part) (r depth : ℕ) (cases : List ℕ) → (part ≡ UnderTrees → ⊥) → cases ≡ noted (part_of part) r depth cases
unfolding noted
note_other Number r depth cases h = refl
note_other Tree r depth cases h = refl
note_other Whole r depth cases h = refl
note_other UnderNumber r depth cases h = refl
note_other UnderTrees r depth cases h = absurd (h refl)

pub ruleset notes = (note_node, note_other, rules)
