-- The location of a part where counts are small, and what holds of it.
use Prim.Native.Nat.{ℕ, zero, suc, ◌+◌, ◌-◌, ◌%◌, ◌≤◌, ◌<◌}
use mathlib.Core.Bool.{Bool, true, false}
use mathlib.Core.List.{List, [], ◌∷◌, ◌++◌}
use mathlib.Core.Path.{◌≡◌, refl, sym, ap, ap₂, ◌∙◌}
use native.Mathlib.Decide.{dec_le}
use native.Mathlib.Nat.{le_refl}
use native.Mathlib.Omega.{arith}
use lib.Dec.{eqb}
use lib.ListN.{length, get_or, set, take, length-set}
use lib.Seq.{get_or-set_same, get_or-set_other, get_or-take, take-set-le, take-suc-set, take-take}
use Rattle.formats.specs.Arithmetic.{Op, plus}
use Rattle.formats.specs.Records.{Kind, Part, a_number, a_tree, as_whole, under_number, under_trees, parts_of, part_count, nth, nth_part}
use Rattle.formats.specs.Records.{Const as a_const, Var as a_var, Compute as an_operation, IfZero as an_if_zero, Let as a_let, Leaf as a_leaf, Node as a_node, Case as a_case, Call as a_call}
use Rattle.formats.specs.Programs.{signature_of}
use Rattle.formats.specs.Inner.Limits.{most_records}
use Rattle.formats.specs.Inner.Fields.{arity_in}
use Rattle.formats.proofs.Rows.{function_read}
use Rattle.records.specs.Inner.Read.{meant, part_of}
use Rattle.records.specs.declared.Part.{Part as RecordPart}
use Rattle.records.specs.declared.Record.{Record}
use Rattle.walks.specs.Inner.Limits.{most_count}
use Rattle.stepwise.specs.Inner.Rows.{kept, last_argument, last_word, second_of, role_of, slot_of, names_in, keeps_in, cases_in, part_location}
use Rattle.frames.specs.declared.Role.{Role}
use Rattle.frames.specs.declared.Role.TheVariants.{Whole}
use Rattle.frames.specs.Inner.Named.{role_number, role_of_number}
use Rattle.part_locations.specs.declared.Location.{Location}
use Rattle.part_locations.specs.Inner.Locations.{location_with, role_inside, slot_inside, capped, names_inside, keeps_inside, depth_inside, part_in, noted}
use Rattle.part_locations.proofs.Parts.{placed}
use Rattle.decode.specs.Inner.Walk.{names_under, deeper, inside_location, Grows, Stacked, Small, SmallParts, Counted, Same, Starts}

-- ---- `inside`, where counts are small

-- one more is below the cap
one_more : (n : ℕ) → n < most_count → capped (n + 1) ≡ suc n
one_more n low = omega arith

names_plain : (part : Part) (n : ℕ) → n < most_count → names_inside part n ≡ names_under part n
unfolding names_inside names_under
names_plain a_number n low = refl
names_plain a_tree n low = refl
names_plain as_whole n low = refl
names_plain under_number n low = one_more n low
names_plain under_trees n low = refl

depth_plain : (part : Part) (n : ℕ) → n < most_count → depth_inside part n ≡ deeper part n
unfolding depth_inside deeper
depth_plain a_number n low = refl
depth_plain a_tree n low = refl
depth_plain as_whole n low = refl
depth_plain under_number n low = refl
depth_plain under_trees n low = one_more n low

module _ (part : Part) (r count : ℕ) where
  keeps_plain : (kind : Kind) (i : ℕ) (p : Location) → p.keeps + i < most_count → keeps_inside kind i p.keeps ≡ (inside_location part kind r i count p).keeps
  unfolding inside_location keeps_inside keeps_in
  keeps_plain (a_const c) i p low = refl
  keeps_plain (a_var a) i p low = refl
  keeps_plain (an_operation op) zero p low = refl
  keeps_plain (an_operation op) (suc i) p low = one_more p.keeps (omega arith)
  keeps_plain an_if_zero i p low = refl
  keeps_plain a_let i p low = refl
  keeps_plain a_leaf i p low = refl
  keeps_plain a_node i p low = refl
  keeps_plain (a_case a) i p low = refl
  keeps_plain (a_call a b) i p low = omega arith

  -- no count is cut
  pub inside_plain : (kind : Kind) (i : ℕ) (p : Location) → Grows i p → part_in part kind r i count p ≡ inside_location part kind r i count p
  unfolding part_in inside_location
  inside_plain kind i p g =
      ap₂ (λ n k. placed (role_inside kind i count) r (slot_inside kind i count p) n k (depth_inside part p.depth))
      (names_plain part p.names g.names) (keeps_plain kind i p g.keeps)
      ∙ ap (placed (role_inside kind i count) r (slot_inside kind i count p) _ _) (depth_plain part p.depth g.depth)

-- ---- `start`

pub started : (s : List ℕ) (j m : ℕ) (p : Location) → m ≡ arity_in s j → p ≡ placed Whole 0 0 m 0 0 → Starts s j p
unfolding signature_of
started s j m p em e = record {
  is = λ f signed few. e ∙ ap (λ n. placed Whole 0 0 n 0 0) (em ∙ sym (function_read s j (signature_of f) signed).arity);
}

-- ---- what holds of a part's location

-- counts grow by one at most, or by the parts before it
record Near (r i : ℕ) (p q : Location) : Type 0 where
  parent : q.parent ≡ r
  slot : q.slot ≤ p.names + last_word
  names : q.names ≤ p.names + 1
  keeps : q.keeps ≤ p.keeps + i
  depth : q.depth ≤ p.depth + 1

-- one name more at most ..
names_near : (part : Part) (n : ℕ) → names_under part n ≤ n + 1
unfolding names_under
names_near a_number n = omega arith
names_near a_tree n = omega arith
names_near as_whole n = omega arith
names_near under_number n = omega arith
names_near under_trees n = omega arith

-- .. and one Case
depth_near : (part : Part) (n : ℕ) → deeper part n ≤ n + 1
unfolding deeper
depth_near a_number n = omega arith
depth_near a_tree n = omega arith
depth_near as_whole n = omega arith
depth_near under_number n = omega arith
depth_near under_trees n = omega arith

-- a location that is near, by its counts
near_to : (part : Part) (r i : ℕ) (p : Location) (role : Role) (slot keeps : ℕ) → slot ≤ p.names + last_word → keeps ≤ p.keeps + i
    → Near r i p (placed role r slot (names_under part p.names) keeps (deeper part p.depth))
near_to part r i p role slot keeps hs hk =
    record { parent = refl; slot = hs; names = names_near part p.names; keeps = hk; depth = depth_near part p.depth }

-- each part's location is near
near : (part : Part) (kind : Kind) (r i count : ℕ) (p : Location) → Near r i p (inside_location part kind r i count p)
unfolding inside_location role_of slot_of keeps_in
near part (a_const c) r i count p = near_to part r i p _ _ _ (omega arith) (omega arith)
near part (a_var a) r i count p = near_to part r i p _ _ _ (omega arith) (omega arith)
near part (an_operation op) r zero count p = near_to part r zero p _ _ _ (omega arith) (omega arith)
near part (an_operation op) r (suc i) count p = near_to part r (suc i) p _ _ _ (omega arith) (omega arith)
near part an_if_zero r zero count p = near_to part r zero p _ _ _ (omega arith) (omega arith)
near part an_if_zero r (suc i) count p = near_to part r (suc i) p _ _ _ (omega arith) (omega arith)
near part a_let r zero count p = near_to part r zero p _ _ _ (omega arith) (omega arith)
near part a_let r (suc i) count p = near_to part r (suc i) p _ _ _ (omega arith) (omega arith)
near part a_leaf r i count p = near_to part r i p _ _ _ (omega arith) (omega arith)
near part a_node r zero count p = near_to part r zero p _ _ _ (omega arith) (omega arith)
near part a_node r (suc i) count p = near_to part r (suc i) p _ _ _ (omega arith) (omega arith)
near part (a_case a) r i count p = near_to part r i p _ _ _ (omega arith) (omega arith)
near part (a_call a b) r i count p = near_to part r i p _ _ _ (omega arith) (omega arith)

-- the counts can grow on entering a part
pub grows : (r i k end : ℕ) (p : Location) → SmallParts r i k end p → Grows i p
grows r i k end p small = record { names = omega (arith, small.names); keeps = omega (arith, small.keeps); depth = omega (arith, small.depth) }

-- so the counts of a part are small
module _ (part : RecordPart) (node : Record) (r i count k end : ℕ) (p q : Location) (small : SmallParts r i k end p) (is : q ≡ part_in (part_of part) (meant node) r i count p) where
  pub few_part : Small k end q
  few_part =
      let n : Near r i p q = rw (is, inside_plain (part_of part) r count (meant node) i p (grows r i k end p small)) (near (part_of part) (meant node) r i count p) in
      record {
        inside = small.inside;
        parent = omega (arith, n.parent, small.parent);
        slot = omega (arith, n.slot, small.names);
        names = omega (arith, n.names, small.names);
        keeps = omega (arith, n.keeps, small.keeps);
        depth = omega (arith, n.depth, small.depth);
      }

-- the number of the role of an operation's second part
second_role : (op : Op) → role_number (role_of_number (second_of op)) ≡ second_of op
unfolding role_of_number second_of
second_role plus = refl

-- .. and of an argument's role
call_role : (last : Bool) → role_number (role_of_number (elim last [ true ↦ last_argument | false ↦ kept ])) ≡ elim last [ true ↦ last_argument | false ↦ kept ]
unfolding role_of_number
call_role true = refl
call_role false = refl

-- it is the location wanted, with the stack as noted: what a part names by its kind is what it
-- names by itself
pub location_inside : (entry arity : ℕ → ℕ) (kind : Kind) (r i count : ℕ) (p : Location) (cases : List ℕ) → Counted arity kind count → i < count → r ≤ most_records → p.depth < length cases
    → location_with (inside_location (nth_part (parts_of kind) i) kind r i count p) (noted (nth_part (parts_of kind) i) r p.depth cases) ≡ part_location entry arity (location_with p cases) kind r i
unfolding inside_location role_of_number names_under noted role_of slot_of names_in keeps_in cases_in deeper parts_of part_count nth_part nth
location_inside entry arity (a_const c) r i count p cases counted more low room = absurd (omega (arith, counted.is))
location_inside entry arity (a_var a) r i count p cases counted more low room = absurd (omega (arith, counted.is))
location_inside entry arity (an_operation op) r zero count p cases counted more low room = refl
location_inside entry arity (an_operation op) r (suc zero) count p cases counted more low room =
    ap (λ n. record { role = n; parent = r; slot = last_word - p.keeps; names = p.names; keeps = suc p.keeps; cases = take p.depth cases }) (second_role op)
location_inside entry arity (an_operation op) r (suc (suc i)) count p cases counted more low room = absurd (omega (arith, counted.is))
location_inside entry arity an_if_zero r zero count p cases counted more low room = refl
location_inside entry arity an_if_zero r (suc zero) count p cases counted more low room = refl
location_inside entry arity an_if_zero r (suc (suc zero)) count p cases counted more low room = refl
location_inside entry arity an_if_zero r (suc (suc (suc i))) count p cases counted more low room = absurd (omega (arith, counted.is))
location_inside entry arity a_let r zero count p cases counted more low room = refl
location_inside entry arity a_let r (suc zero) count p cases counted more low room = refl
location_inside entry arity a_let r (suc (suc i)) count p cases counted more low room = absurd (omega (arith, counted.is))
location_inside entry arity a_leaf r zero count p cases counted more low room = refl
location_inside entry arity a_leaf r (suc i) count p cases counted more low room = absurd (omega (arith, counted.is))
location_inside entry arity a_node r zero count p cases counted more low room = refl
location_inside entry arity a_node r (suc zero) count p cases counted more low room = refl
location_inside entry arity a_node r (suc (suc i)) count p cases counted more low room = absurd (omega (arith, counted.is))
location_inside entry arity (a_case a) r zero count p cases counted more low room = refl
location_inside entry arity (a_case a) r (suc zero) count p cases counted more low room =
    let own : r % 65536 ≡ r = omega arith in
    ap (λ (l : List ℕ). record { role = 4; parent = r; slot = 0; names = p.names; keeps = p.keeps; cases = l })
    (take-suc-set cases p.depth (r % 65536) room ∙ ap (λ n. take p.depth cases ++ (n ∷ [])) own)
location_inside entry arity (a_case a) r (suc (suc i)) count p cases counted more low room = absurd (omega (arith, counted.is))
location_inside entry arity (a_call a b) r i count p cases counted more low room =
    ap (λ n. record { role = n; parent = r; slot = last_word - (p.keeps + i); names = p.names; keeps = p.keeps + i; cases = take p.depth cases })
    (call_role (eqb (suc i) count) ∙ ap (λ n. elim (eqb (suc i) n) [ true ↦ last_argument | false ↦ kept ]) (sym counted.is))

-- ---- the stack

-- less room is asked for
pub stacked_less : (cases : List ℕ) (depth more less : ℕ) → Stacked cases depth more → less ≤ more → Stacked cases depth less
stacked_less cases depth more less h few = record { room = omega (arith, h.room); low = h.low }

-- one less
one_less : (cases : List ℕ) (depth more : ℕ) → Stacked cases depth (suc more) → Stacked cases depth more
one_less cases depth more h = stacked_less cases depth (suc more) more h (omega arith)

module _ (cases cases' : List ℕ) (depth : ℕ) (same : Same cases cases' depth) where
  -- what holds of the stack holds of one that is the same up to the depth
  pub stacked_same : (more : ℕ) → Stacked cases depth more → Stacked cases' depth more
  stacked_same more h = record {
    room = omega (arith, h.room, same.long);
    low = λ n below.
        let e : get_or cases' n 0 ≡ get_or cases n 0 =
        sym (get_or-take depth cases' n 0 below) ∙ ap (λ (l : List ℕ). get_or l n 0) same.below_depth ∙ get_or-take depth cases n 0 below in
        omega (arith, e, h.low n below);
  }

  -- .. and the same is true of a third stack
  pub same_more : (after : List ℕ) → Same cases' after depth → Same cases after depth
  same_more after next = record { long = next.long ∙ same.long; below_depth = next.below_depth ∙ same.below_depth }

-- a record is put on top
module _ (cases : List ℕ) (depth r : ℕ) where
  top_stacked : (more : ℕ) → Stacked cases depth (suc more) → r ≤ most_records → Stacked (set cases depth (r % 65536)) (suc depth) more
  top_stacked more h few =
      let room = h.room in
      record {
        room = omega (arith, length-set cases depth (r % 65536));
        low = λ n below. elim (dec_le depth n) [
          | yes over ↦
              let here : n ≡ depth = omega arith in
              let own : r % 65536 ≡ r = omega arith in
              let e = get_or-set_same cases depth (r % 65536) 0 (omega arith) in
              rw here (omega (arith, e))
          | no under ↦ omega (arith, get_or-set_other cases depth n (r % 65536) 0 (λ e. absurd (omega arith)), h.low n (omega arith))
        ];
      }

  top_same : (after : List ℕ) → Same (set cases depth (r % 65536)) after (suc depth) → Same cases after depth
  top_same after same = record {
    long = same.long ∙ length-set cases depth (r % 65536);
    below_depth =
        sym (take-take depth (suc depth) after (omega arith))
        ∙ ap (take depth) same.below_depth
        ∙ take-take depth (suc depth) (set cases depth (r % 65536)) (omega arith)
        ∙ take-set-le depth cases depth (r % 65536) (le_refl depth);
  }

-- the stack as it is noted has records up to the part's depth
pub stacked_inside : (part : Part) (r depth : ℕ) (cases : List ℕ) (more : ℕ) → Stacked cases depth (suc more) → r ≤ most_records
    → Stacked (noted part r depth cases) (deeper part depth) more
unfolding noted deeper
stacked_inside a_number r depth cases more h few = one_less cases depth more h
stacked_inside a_tree r depth cases more h few = one_less cases depth more h
stacked_inside as_whole r depth cases more h few = one_less cases depth more h
stacked_inside under_number r depth cases more h few = one_less cases depth more h
stacked_inside under_trees r depth cases more h few = top_stacked cases depth r more h few

-- one that is the same up to the part's depth is the same up to the record's
pub same_inside : (part : Part) (r depth : ℕ) (cases after : List ℕ) → Same (noted part r depth cases) after (deeper part depth) → Same cases after depth
unfolding noted deeper
same_inside a_number r depth cases after h = h
same_inside a_tree r depth cases after h = h
same_inside as_whole r depth cases after h = h
same_inside under_number r depth cases after h = h
same_inside under_trees r depth cases after h = top_same cases depth r after h
