-- Laws of records: flat records and the records read from them determine one another, and so do
-- kinds and the node records that are read.
use Prim.Native.Nat.{ℕ, zero, suc, ◌+◌, ◌*◌, ◌^◌, ◌≤◌}
use mathlib.Core.Bool.{true, ◌&&◌}
use mathlib.Core.List.{List, [], ◌∷◌, ◌++◌, append_assoc, map}
use mathlib.Core.Logic.{◌≢◌}
use mathlib.Core.Option
use mathlib.Core.Option.{Option, none, some}
use mathlib.Core.Path.{◌≡◌, refl, sym, ap, ap₂, subst, ◌∙◌}
use native.Mathlib.Nat.{add_assoc, lt_of_lt_of_le, le_of_suc-le-suc}
use native.Mathlib.Numerals.{towards_suc}
use native.Mathlib.Omega.{arith}
use borrow.Author.Tests.{eqb-true, eq-eqb, ltb-true, lt-ltb}
use lib.Dec.{lit<, eqb}
use lib.ListN.{length, get_or, take, drop, length-append, take-append-drop, drop_of_length-le}
use lib.Seq.{get_or-append-add, take-add, drop-drop, drop-cons}
use Rattle.formats.specs.Arithmetic.{plus}
use Rattle.formats.specs.Numbers.{Bytes, bytes_of, number_at}
use Rattle.formats.specs.Refusals.{node_field}
use Rattle.formats.specs.Results.{done, refusal, value_if}
use Rattle.formats.specs.Records.{record_bytes, Record, fields, Ranged, bytes_of_record, flat, record_at, Kind, Const, Var, Compute, IfZero, Let, Leaf, Node, Case, Call, fields_of, kinds, nth, kind_of, same_fields, function_below, node_record}
use Rattle.formats.specs.Programs.{InRange, Every}
use Rattle.formats.specs.Rows.{node_at}
use Rattle.formats.specs.Inner.Fields.{header_in, node_in}
use Rattle.formats.proofs.Numbers.{length_bytes_of, bytes_of_number_at, bytes_append, bytes_bytes_of, number_at_fits, number_at_after, number_at_there}
use Rattle.formats.proofs.Results.{done_not, check_inv, both_held}

-- ---- entries of a mapped list

-- they are the mapped entries
pub nth_map : {A B : Type 0} (h : A → B) (xs : List A) (k : ℕ) → nth (map h xs) k ≡ Option.map h (nth xs k)
unfolding nth
nth_map h [] k = refl
nth_map h (x ∷ xs) zero = refl
nth_map h (x ∷ xs) (suc k) = nth_map h xs k

-- so where a list has an entry, the mapped list has the mapped one
pub nth_mapped : {A B : Type 0} (h : A → B) (xs : List A) (k : ℕ) (x : A) → nth xs k ≡ some x → nth (map h xs) k ≡ some (h x)
nth_mapped h xs k x e = nth_map h xs k ∙ ap (Option.map h) e

-- ---- numbers above the last, in a list of kinds or the like

-- past the end of a list stands nothing
pub none_past : {A : Type 0} (xs : List A) (n : ℕ) → length xs ≤ n → nth xs n ≡ none
unfolding nth
none_past [] n h = refl
none_past (x ∷ xs) zero h = absurd (omega arith)
none_past (x ∷ xs) (suc n) h = none_past xs n (le_of_suc-le-suc h)

-- a number from m up that is not m is from m + 1 up
pub but : (m n : ℕ) → m ≤ n → n ≢ m → suc m ≤ n
but m n h e = omega arith

-- ---- flat records

-- a record takes eight bytes
pub length_record : (r : Record) → length (bytes_of_record r) ≡ record_bytes
unfolding bytes_of_record
length_record (fields x a b i) = simp (length-append, length_bytes_of)

-- flat records take eight bytes for each record
pub length_flat : (rs : List Record) → length (flat rs) ≡ record_bytes * length rs
unfolding flat
length_flat [] = refl
length_flat (r ∷ rs) = simp (length-append, length_record, length_flat rs) (omega arith)

-- what is read as a record fits its fields
pub ranged_at : (s : List ℕ) (k : ℕ) → Bytes s → Ranged (record_at s k)
unfolding record_at
ranged_at s k bs = (bs _, bs _, number_at_fits 2 s (record_bytes * k + 2) bs, number_at_fits 4 s (record_bytes * k + 4) bs)

-- the bytes of records that fit their fields are bytes
record-bytes : (r : Record) → Ranged r → Bytes (bytes_of_record r)
unfolding bytes_of_record
record-bytes (fields x a b i) h zero = h.0
record-bytes (fields x a b i) h (suc zero) = h.1
record-bytes (fields x a b i) h (suc (suc p)) = bytes_append (bytes_of 2 b) (bytes_of 4 i) (bytes_bytes_of 2 b) (bytes_bytes_of 4 i) p

pub flat_bytes : (rs : List Record) → Every Ranged rs → Bytes (flat rs)
unfolding flat
flat_bytes [] h = λ i. lit< tt
flat_bytes (r ∷ rs) h = bytes_append (bytes_of_record r) (flat rs) (record-bytes r h.0) (flat_bytes rs h.1)

-- the first record is read as it was
at_first : (r : Record) (s : List ℕ) → Ranged r → record_at (bytes_of_record r ++ s) 0 ≡ r
unfolding record_at bytes_of_record
at_first (fields x a b i) s h =
    let second : number_at 2 (x ∷ a ∷ ((bytes_of 2 b ++ bytes_of 4 i) ++ s)) 2 ≡ b =
    rw append_assoc (number_at_there 2 b (x ∷ a ∷ []) (bytes_of 4 i ++ s) 2 refl h.2) in
    let third : number_at 4 (x ∷ a ∷ ((bytes_of 2 b ++ bytes_of 4 i) ++ s)) 4 ≡ i =
    rw append_assoc (number_at_there 4 i (x ∷ a ∷ bytes_of 2 b) s 4 (ap (λ (n : ℕ). suc (suc n)) (length_bytes_of 2 b)) h.3) in
    ap₂ (fields x a) second third

-- a record in front raises the numbers by one
at_after : (r : Record) (s : List ℕ) (k : ℕ) → record_at (bytes_of_record r ++ s) (suc k) ≡ record_at s k
unfolding record_at
at_after r s k =
    let position : record_bytes * suc k ≡ length (bytes_of_record r) + record_bytes * k = omega (arith, length_record r) in
    let t = bytes_of_record r ++ s in
    ap (λ (p : ℕ). fields (get_or t p 0) (get_or t (p + 1) 0) (number_at 2 t (p + 2)) (number_at 4 t (p + 4))) position
    ∙ simp (add_assoc, get_or-append-add, number_at_after)

-- a record of flat records is read by its number
pub at_flat : (rs : List Record) (k : ℕ) (r : Record) → Every Ranged rs → nth rs k ≡ some r → record_at (flat rs) k ≡ r
unfolding flat nth
at_flat [] k r h e = cc
at_flat (q ∷ rs) zero r h e = at_first q (flat rs) h.0 ∙ cc
at_flat (q ∷ rs) (suc k) r h e = at_after q (flat rs) k ∙ at_flat rs k r h.1 e

-- n records of a byte string, the first of them record k
unfoldable pub records_from : ℕ → List ℕ → ℕ → List Record
records_from zero s k = []
records_from (suc n) s k = record_at s k ∷ records_from n s (suc k)

-- eight bytes, by the fields that they hold
eight_bytes : (s : List ℕ) (p : ℕ) → p + record_bytes ≤ length s
    → take record_bytes (drop p s) ≡ get_or s p 0 ∷ get_or s (suc p) 0 ∷ (take 2 (drop (suc (suc p)) s) ++ take 4 (drop (suc (suc p) + 2) s))
eight_bytes s p h =
    ap (take record_bytes) (drop-cons s p 0 (omega arith) ∙ ap (λ (l : List ℕ). get_or s p 0 ∷ l) (drop-cons s (suc p) 0 (omega arith)))
    ∙ ap (λ (l : List ℕ). get_or s p 0 ∷ get_or s (suc p) 0 ∷ l) (take-add 2 4 (drop (suc (suc p)) s))
    ∙ ap (λ (l : List ℕ). get_or s p 0 ∷ get_or s (suc p) 0 ∷ (take 2 (drop (suc (suc p)) s) ++ take 4 l)) (drop-drop 2 (suc (suc p)) s)

-- a record's bytes are those that it was read from
bytes_at : (s : List ℕ) (k : ℕ) → Bytes s → record_bytes * k + record_bytes ≤ length s → bytes_of_record (record_at s k) ≡ take record_bytes (drop (record_bytes * k) s)
unfolding record_at bytes_of_record
bytes_at s k bs h =
    rw (bytes_of_number_at 2 s (record_bytes * k + 2) bs (omega arith), bytes_of_number_at 4 s (record_bytes * k + 4) bs (omega arith), eight_bytes s (record_bytes * k) h)
    (simp towards_suc)

-- the records of a byte string from record k on are, as bytes, what stands from there on
flat_from : (n : ℕ) (s : List ℕ) (k : ℕ) → Bytes s → length s ≡ record_bytes * (k + n) → flat (records_from n s k) ≡ drop (record_bytes * k) s
unfolding flat records_from
flat_from zero s k bs e = sym (drop_of_length-le s {i = record_bytes * k} (omega arith))
flat_from (suc n) s k bs e =
    let next : record_bytes * suc k ≡ record_bytes * k + record_bytes = omega arith in
    ap₂ ◌++◌ (bytes_at s k bs (omega arith)) (flat_from n s (suc k) bs (omega arith) ∙ ap (λ (p : ℕ). drop p s) next ∙ sym (drop-drop record_bytes (record_bytes * k) s))
    ∙ take-append-drop record_bytes (drop (record_bytes * k) s)

-- so all records of a byte string are, as bytes, the byte string
pub flat_records : (n : ℕ) (s : List ℕ) → Bytes s → length s ≡ record_bytes * n → flat (records_from n s 0) ≡ s
flat_records n s bs e = flat_from n s 0 bs (omega arith)

-- ---- node records

-- records with the same fields are the same
same_is : (r q : Record) → same_fields r q ≡ true → r ≡ q
unfolding same_fields
same_is (fields x a b i) (fields y c d j) e =
    let h = both_held (eqb x y) _ e in
    let g = both_held (eqb a c) _ h.1 in
    let f = both_held (eqb b d) (eqb i j) g.1 in
    let p = eqb-true x y h.0 in
    let q = eqb-true a c g.0 in
    let r = eqb-true b d f.0 in
    let t = eqb-true i j f.1 in
    cc (p, q, r, t)

-- a record is the same as itself
same_self : (r : Record) → same_fields r r ≡ true
unfolding same_fields
same_self (fields x a b i) = simp (eq-eqb x x refl, eq-eqb a a refl, eq-eqb b b refl, eq-eqb i i refl)

-- operands that fit their fields and a function that is one of so many are in range ..
in_range : (functions : ℕ) (kind : Kind) → Ranged (fields_of kind) → function_below functions kind ≡ true → InRange functions kind
unfolding fields_of function_below
in_range functions (Const i) h e = h.3
in_range functions (Var a) h e = h.1
in_range functions (Compute op) h e = tt
in_range functions IfZero h e = tt
in_range functions Let h e = tt
in_range functions Leaf h e = tt
in_range functions Node h e = tt
in_range functions (Case a) h e = h.1
in_range functions (Call a b) h e = (h.1, ltb-true b functions e)

-- .. and what is in range has such a function ..
in_range_below : (functions : ℕ) (kind : Kind) → InRange functions kind → function_below functions kind ≡ true
unfolding function_below
in_range_below functions (Const i) h = refl
in_range_below functions (Var a) h = refl
in_range_below functions (Compute op) h = refl
in_range_below functions IfZero h = refl
in_range_below functions Let h = refl
in_range_below functions Leaf h = refl
in_range_below functions Node h = refl
in_range_below functions (Case a) h = refl
in_range_below functions (Call a b) h = lt-ltb b functions h.1

-- .. and a record that fits its fields, where there are not too many functions
pub ranged_kind : (functions : ℕ) (kind : Kind) → functions ≤ 2 ^ 16 → InRange functions kind → Ranged (fields_of kind)
unfolding fields_of
ranged_kind functions (Const i) m h = (lit< tt, lit< tt, lit< tt, h)
ranged_kind functions (Var a) m h = (lit< tt, h, lit< tt, lit< tt)
ranged_kind functions (Compute plus) m h = (lit< tt, lit< tt, lit< tt, lit< tt)
ranged_kind functions IfZero m h = (lit< tt, lit< tt, lit< tt, lit< tt)
ranged_kind functions Let m h = (lit< tt, lit< tt, lit< tt, lit< tt)
ranged_kind functions Leaf m h = (lit< tt, lit< tt, lit< tt, lit< tt)
ranged_kind functions Node m h = (lit< tt, lit< tt, lit< tt, lit< tt)
ranged_kind functions (Case a) m h = (lit< tt, h, lit< tt, lit< tt)
ranged_kind functions (Call a b) m h = (lit< tt, h.0, lt_of_lt_of_le h.1 m, lit< tt)

-- a kind's own record has that kind
kind_of_own : (edition : ℕ) (kind : Kind) → kind_of edition (fields_of kind) ≡ some kind
unfolding kind_of kinds nth fields_of
kind_of_own edition (Const i) = refl
kind_of_own edition (Var a) = refl
kind_of_own edition (Compute plus) = refl
kind_of_own edition IfZero = refl
kind_of_own edition Let = refl
kind_of_own edition Leaf = refl
kind_of_own edition Node = refl
kind_of_own edition (Case a) = refl
kind_of_own edition (Call a b) = refl

-- what is read as a kind is the kind's own record ..
pub record NodeRead (functions : ℕ) (r : Record) (kind : Kind) : Type 0 where
  pub own : fields_of kind ≡ r
  pub in_range : InRange functions kind

pub node_inv : (edition functions k : ℕ) (r : Record) (kind : Kind) → Ranged r → node_record edition functions k r ≡ done kind → NodeRead functions r kind
unfolding node_record
node_inv edition functions k r kind h e = by_kind (kind_of edition r) e
  where
    by_kind : (o : Option Kind)
        → elim o [ none ↦ refusal node_field k | some found ↦ value_if (same_fields (fields_of found) r && function_below functions found) node_field k found ] ≡ done kind
        → NodeRead functions r kind
    by_kind none e = done_not e refl
    by_kind (some found) e =
        let c = check_inv _ node_field k found kind e in
        let b = both_held _ _ c.held in
        let own : fields_of found ≡ r = same_is (fields_of found) r b.0 in
        subst (NodeRead functions r) c.same (record { own = own; in_range = in_range functions found (rw own h) b.1 })

-- .. and a kind's own record is read as it
pub node_done : (edition functions k : ℕ) (kind : Kind) → InRange functions kind → node_record edition functions k (fields_of kind) ≡ done kind
unfolding node_record
node_done edition functions k kind h = rw (kind_of_own edition kind, node_record, same_self (fields_of kind), in_range_below functions kind h)

-- a node that was read calls one of the functions
pub node_below : (s : List ℕ) (k : ℕ) (kind : Kind) → node_in s k ≡ done kind → function_below (header_in s).functions kind ≡ true
unfolding node_in node_at node_record
node_below s k kind e = by_kind (kind_of (header_in s).edition (record_at s k)) e
  where
    functions : ℕ
    functions = (header_in s).functions

    by_kind : (o : Option Kind)
        → elim o [ none ↦ refusal node_field k | some found ↦ value_if (same_fields (fields_of found) (record_at s k) && function_below functions found) node_field k found ] ≡ done kind
        → function_below functions kind ≡ true
    by_kind none e = done_not e refl
    by_kind (some found) e =
        let c = check_inv _ node_field k found kind e in
        let b = both_held (same_fields (fields_of found) (record_at s k)) _ c.held in
        ap (function_below functions) (sym c.same) ∙ b.1
