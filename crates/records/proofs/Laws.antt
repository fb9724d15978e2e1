-- A law for each way out of the functions over node records. A record read is that of its kind
-- number: its fields that the kind does not use pass their test exactly where the record is the one
-- that its kind has.
use Prim.Native.Nat.{ℕ, zero, suc, ◌+◌, ◌*◌, ◌/◌, ◌≤◌, ◌<◌, min}
use mathlib.Core.Bool.{Bool, true, false, ◌&&◌, and-true, and_comm}
use mathlib.Core.List.{List, [], ◌∷◌}
use mathlib.Core.Logic.{◌≢◌}
use mathlib.Core.Option.{some}
use mathlib.Core.Path.{◌≡◌, refl, sym, ap, ap₂, ◌∙◌}
use native.Mathlib.Nat.{le_refl}
use native.Mathlib.Omega.{arith}
use borrow.Author.Tests.{lt-ltb, le-ltb, ltb-true, ltb-false, eq-eqb, ne_eqb}
use lib.Dec.{eqb, ltb, eqb-zero-suc, eqb-suc-zero}
use lib.ListN.{length, get_or, get_or-eq_default}
use Rattle.formats.specs.Numbers.{number_at}
use Rattle.formats.specs.Refusals.{node_field}
use Rattle.formats.specs.Results.{done, refusal, value_if, on_value}
use Rattle.formats.specs.Records.{Kind, Parts, fields, record_bytes, record_at, kinds, kind_of, nth, same_fields, function_below, fields_of, node_record, parts_of}
use Rattle.formats.specs.Records.{a_number, a_tree, as_whole, under_number, under_trees, these, arguments_of, Const, Var, Add, IfZero, Let, Leaf, Node, Case, Call}
use Rattle.formats.specs.Inner.CodeColumn.{template_of}
use Rattle.formats.specs.Rows.{node_at}
use Rattle.formats.specs.Inner.Fields.{header_in, node_in}
use Rattle.formats.proofs.Numbers.{number_at_cut}
use Rattle.formats.proofs.Records.{none_past, but}
use Rattle.refusal.specs.declared.Refusal.TheVariants.{NodeField}
use Rattle.records.specs.declared.Item.{Item}
use Rattle.records.specs.declared.Item.TheVariants.{Push, Get, Ifnot, Jump, End, LeafTag, NodeTag, WriteNumber, ReadTag, ReadNumber, Add as AddItem, Call as CallItem}
use Rattle.records.specs.declared.Items.{Items}
use Rattle.records.specs.declared.Items.TheVariants.{None, One, Two}
use Rattle.records.specs.declared.Template.{Template}
use Rattle.refusal.specs.declared.Refused.{Refused}
use Rattle.std.specs.Prelude.{Result as Answer, Err}
use Rattle.records.specs.declared.Described.{Described}
use Rattle.records.specs.Inner.Read.{OfKind, StandsAt, Shape, column_of, described, shape_of}

-- ---- templates

-- an item after all parts
abbrev pub lastly : Item → Template
lastly item = record { first = None; second = None; third = None; last = One item }

-- items before the first, second and third part
abbrev pub parted : Items → Items → Items → Template
parted first second third = record { first = first; second = second; third = third; last = None }

-- ---- fields that should be zero

-- a field compared with 0, and with itself
flip : (a : ℕ) → eqb 0 a ≡ eqb a 0
flip zero = refl
flip (suc a) = eqb-zero-suc a ∙ sym (eqb-suc-zero a)

same : (a : ℕ) → eqb a a ≡ true
same a = eq-eqb a a refl

-- a record is the one of its kind exactly where the fields that the kind does not use are 0: of a
-- kind with no operand, with a tree's or a number's name, with a number, and of a Call
no_operand : (x a b i : ℕ) (u : Bool) → u ≡ (eqb a 0 && (eqb b 0 && eqb i 0)) → same_fields (fields x 0 0 0) (fields x a b i) ≡ u
unfolding same_fields
no_operand x a b i u e = simp (same, flip) (sym e)

named : (x a b i : ℕ) (u : Bool) → u ≡ (eqb b 0 && eqb i 0) → same_fields (fields x a 0 0) (fields x a b i) ≡ u
unfolding same_fields
named x a b i u e = simp (same, flip) (sym e)

numbered : (x a b i : ℕ) (u : Bool) → u ≡ (eqb a 0 && (eqb b 0 && true)) → same_fields (fields x 0 0 i) (fields x a b i) ≡ u
unfolding same_fields
numbered x a b i u e = simp (same, flip) (sym e)

called : (x a b i : ℕ) → same_fields (fields x a b 0) (fields x a b i) ≡ eqb i 0
unfolding same_fields
called x a b i = simp (same, flip)

-- ---- the match

-- The arms: for each kind number the kind with its operands, its parts, its template, and what is
-- known of u, whether the fields that it does not use are right.
pub data Arm (functions a b i : ℕ) (u : Bool) : ℕ → Kind → Parts → Template → Type 0 where
  const_arm : u ≡ (eqb a 0 && (eqb b 0 && true)) → Arm functions a b i u 0 (Const i) (these []) (lastly (Push i))
  var_arm : u ≡ (eqb b 0 && eqb i 0) → Arm functions a b i u 1 (Var a) (these []) (lastly (Get a))
  add_arm : u ≡ (eqb a 0 && (eqb b 0 && eqb i 0)) → Arm functions a b i u 2 Add (these (a_number ∷ a_number ∷ [])) (lastly AddItem)
  if_zero_arm : u ≡ (eqb a 0 && (eqb b 0 && eqb i 0)) → Arm functions a b i u 3 IfZero (these (a_number ∷ as_whole ∷ as_whole ∷ [])) (parted None (One Ifnot) (One Jump))
  let_arm : u ≡ (eqb a 0 && (eqb b 0 && eqb i 0)) → Arm functions a b i u 4 Let (these (a_number ∷ under_number ∷ [])) (lastly End)
  leaf_arm : u ≡ (eqb a 0 && (eqb b 0 && eqb i 0)) → Arm functions a b i u 5 Leaf (these (a_number ∷ [])) (record { first = One LeafTag; second = None; third = None; last = One WriteNumber })
  node_arm : u ≡ (eqb a 0 && (eqb b 0 && eqb i 0)) → Arm functions a b i u 6 Node (these (a_tree ∷ a_tree ∷ [])) (parted (One NodeTag) None None)
  case_arm : u ≡ (eqb b 0 && eqb i 0) → Arm functions a b i u 7 (Case a) (these (under_number ∷ under_trees ∷ [])) (parted (Two ReadTag ReadNumber) (Two End Jump) None)
  call_arm : u ≡ (ltb b functions && eqb i 0) → Arm functions a b i u 8 (Call a b) (arguments_of b) (lastly (CallItem b))

-- What an arm says: the kind of that number, whether its unused fields are zero, its parts and its
-- template.
record Says (functions a b i : ℕ) (u : Bool) (x : ℕ) (k : Kind) (parts : Parts) (t : Template) : Type 0 where
  kind : (edition : ℕ) → kind_of edition (fields x a b i) ≡ some k
  unused : (same_fields (fields_of k) (fields x a b i) && function_below functions k) ≡ u
  its_parts : parts ≡ parts_of k
  column : column_of t ≡ template_of k

says : {functions a b i : ℕ} {u : Bool} {x : ℕ} {k : Kind} {parts : Parts} {t : Template} → Arm functions a b i u x k parts t → Says functions a b i u x k parts t
unfolding kind_of kinds nth fields_of function_below parts_of template_of
says (const_arm e) = record { kind = λ edition. refl; unused = and-true _ ∙ numbered _ _ _ _ _ e; its_parts = refl; column = refl }
says (var_arm e) = record { kind = λ edition. refl; unused = and-true _ ∙ named _ _ _ _ _ e; its_parts = refl; column = refl }
says (add_arm e) = record { kind = λ edition. refl; unused = and-true _ ∙ no_operand _ _ _ _ _ e; its_parts = refl; column = refl }
says (if_zero_arm e) = record { kind = λ edition. refl; unused = and-true _ ∙ no_operand _ _ _ _ _ e; its_parts = refl; column = refl }
says (let_arm e) = record { kind = λ edition. refl; unused = and-true _ ∙ no_operand _ _ _ _ _ e; its_parts = refl; column = refl }
says (leaf_arm e) = record { kind = λ edition. refl; unused = and-true _ ∙ no_operand _ _ _ _ _ e; its_parts = refl; column = refl }
says (node_arm e) = record { kind = λ edition. refl; unused = and-true _ ∙ no_operand _ _ _ _ _ e; its_parts = refl; column = refl }
says (case_arm e) = record { kind = λ edition. refl; unused = and-true _ ∙ named _ _ _ _ _ e; its_parts = refl; column = refl }
says {functions = functions} {b = b} {i = i} (call_arm e) = record {
  kind = λ edition. refl;
  unused = ap (λ t. t && ltb b functions) (called _ _ b i) ∙ and_comm (eqb i 0) (ltb b functions) ∙ sym e;
  its_parts = refl;
  column = refl;
}

-- the one law of all arms
pub of_arm :
    (functions position x n a b i : ℕ) (u : Bool) (k : Kind) (parts : Parts) (t own : Template) (r : Answer Described Refused)
    → x ≡ n
    → t ≡ own
    → Arm functions a b i u n k parts own
    → described r ≡ value_if u node_field position (record { kind = k; parts = parts; template = column_of t })
    → OfKind functions position x a b i r
unfolding node_record
of_arm functions position x n a b i u k parts t own r number is arm reported =
    let s = says arm in
    record {
      is = λ edition.
          reported
          ∙ ap₂ (λ p c. value_if u node_field position (record { kind = k; parts = p; template = c })) s.its_parts (ap column_of is ∙ s.column)
          ∙ checked u
          ∙ ap (on_value shape_of) (sym (ap (λ m. node_record edition functions position (fields m a b i)) number ∙ reads s edition));
    }
  where
    reads : Says functions a b i u n k parts own → (edition : ℕ) → node_record edition functions position (fields n a b i) ≡ value_if u node_field position k
    reads s edition = rw (node_record, s.kind edition, s.unused)

    checked : (t : Bool) → value_if t node_field position (shape_of k) ≡ on_value shape_of (value_if t node_field position k)
    checked true = refl
    checked false = refl

-- a kind number above the last
pub of_none :
    (functions position x a b i : ℕ) (r : Refused)
    → r ≡ record { why = NodeField; position = position }
    → x ≢ 0
    → x ≢ 1
    → x ≢ 2
    → x ≢ 3
    → x ≢ 4
    → x ≢ 5
    → x ≢ 6
    → x ≢ 7
    → x ≢ 8
    → OfKind functions position x a b i (Err r)
unfolding node_record kind_of kinds
of_none functions position x a b i r e n0 n1 n2 n3 n4 n5 n6 n7 n8 =
    let above : 9 ≤ x = but 8 x (but 7 x (but 6 x (but 5 x (but 4 x (but 3 x (but 2 x (but 1 x (but 0 x (omega arith) n0) n1) n2) n3) n4) n5) n6) n7) n8 in
    rw e (record { is = λ edition. simp (node_record, kind_of, none_past (kinds edition a b i) x above) })

pub ruleset arms =
    (of_arm, const_arm, var_arm, add_arm, if_zero_arm, let_arm, leaf_arm, node_arm, case_arm, call_arm, of_none)

-- ---- the other functions

pub row_zero : (sum position : ℕ) (x : Shape) → sum ≡ 0 → done x ≡ value_if (eqb sum 0) node_field position x
row_zero sum position x h = rw (eq-eqb _ _ h)

pub row_other : (sum position : ℕ) (x : Shape) → sum ≢ 0 → refusal node_field position ≡ value_if (eqb sum 0) node_field position x
row_other sum position x h = rw (ne_eqb _ _ h)

pub call_below : (b i functions : ℕ) → b < functions → eqb i 0 ≡ (ltb b functions && eqb i 0)
call_below b i functions h = rw (lt-ltb _ _ h)

pub call_above : (b i functions : ℕ) → functions ≤ b → eqb 1 0 ≡ (ltb b functions && eqb i 0)
call_above b i functions h = rw (le-ltb _ _ h)

-- past the end all fields read as 0, at every offset
past_end : (s : List ℕ) (k : ℕ) → length s < record_bytes * k → StandsAt s k (length s)
past_end s k past = record {
  within = le_refl _;
  byte_0 = get_or-eq_default s 0 (le_refl _) ∙ sym (get_or-eq_default s 0 (omega arith));
  byte_1 = get_or-eq_default s 0 (omega arith) ∙ sym (get_or-eq_default s 0 (omega arith));
  bytes_2 = number_at_cut 2 s _ (omega arith) ∙ sym (number_at_cut 2 s _ (omega arith));
  bytes_4 = number_at_cut 4 s _ (omega arith) ∙ sym (number_at_cut 4 s _ (omega arith));
}

there : (s : List ℕ) (k : ℕ) → record_bytes * k ≤ length s → StandsAt s k (record_bytes * k)
there s k within = record { within = within; byte_0 = refl; byte_1 = refl; bytes_2 = refl; bytes_4 = refl }

pub stands_past : (s : List ℕ) (k : ℕ) → length s / record_bytes < k → StandsAt s k (length s)
stands_past s k h = past_end s k (omega arith)

pub stands_there : (s : List ℕ) (k : ℕ) → k ≤ length s / record_bytes → StandsAt s k (record_bytes * k)
stands_there s k h = there s k (omega arith)

-- the lesser of both, where a product that is too large is the largest number
pub stands :
    (s : List ℕ) (k q p largest : ℕ)
    → p ≡ min q (length s)
    → q ≡ min (k * record_bytes) largest
    → length s ≤ largest
    → StandsAt s k p
stands s k q p largest lesser product fits = by_test (ltb (length s) (record_bytes * k)) refl
  where
    by_test : (test : Bool) → ltb (length s) (record_bytes * k) ≡ test → StandsAt s k p
    by_test true h =
        let past : length s < record_bytes * k = ltb-true _ _ h in
        let end : length s ≡ p = omega arith in
        rw end at (past_end s k past)
    by_test false h =
        let within : record_bytes * k ≤ length s = ltb-false _ _ h in
        let own : record_bytes * k ≡ p = omega arith in
        rw own at (there s k within)

-- the record read at its offset, with the header's number of functions
pub read_there :
    (s : List ℕ) (k p x a b i f : ℕ) (r : Answer Described Refused)
    → StandsAt s k p
    → x ≡ get_or s p 0
    → a ≡ get_or s (p + 1) 0
    → b ≡ number_at 2 s (p + 2)
    → i ≡ number_at 4 s (p + 4)
    → f ≡ (header_in s).functions
    → OfKind f k x a b i r
    → described r ≡ on_value shape_of (node_in s k)
unfolding node_in node_at header_in record_at
read_there s k p x a b i f r h ex ea eb ei ef o =
    o.is (get_or s 0 0) ∙ ap (λ q. on_value shape_of (node_record (get_or s 0 0) f k q)) (cc) ∙ ap (λ n. on_value shape_of (node_record (get_or s 0 0) n k (record_at s k))) ef
