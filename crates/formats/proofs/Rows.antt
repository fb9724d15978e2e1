-- Laws of the rows over flat records: programs and the flat records that pass the rows determine
-- one another. For each row, `..Read` says what is known where it is done: the records that stand
-- are the value's own, and the value is within the limits.
use Prim.Native.Nat.{ℕ, zero, suc, ◌+◌, ◌*◌, ◌≤◌, ◌<◌, ◌^◌}
use mathlib.Core.Bool.{◌&&◌}
use mathlib.Core.List.{List, [], ◌∷◌, ◌++◌, map, append-nil}
use mathlib.Core.Option.{Option, none, some}
use mathlib.Core.Path.{◌≡◌, refl, sym, ap, ap₂, subst, ◌∙◌}
use native.Mathlib.Nat.{zero-add, add-zero, add-suc, suc-add}
use native.Mathlib.Omega.{arith}
use borrow.Author.Tests.{eqb-true, eq-eqb, leb-true, le-leb}
use lib.Dec.{leb, eqb}
use lib.ListN.{length, take, drop, length-drop, length-map, take-append-drop}
use lib.Seq.{length-take-le, take-append_seam, drop-append_seam}
use Rattle.formats.specs.Numbers.{Bytes}
use Rattle.formats.specs.Refusals.{header_field, function_field}
use Rattle.formats.specs.Results.{Result, done, value_if, each}
use Rattle.formats.specs.Records.{record_bytes, Record, fields, Ranged, flat, record_at, Kind, fields_of, nth}
use Rattle.formats.specs.Programs.{Expr, prefix, size, CallsComplete, Sort, number_valued, tree_valued, sort_number, Signature, signature_record, arity_of, sum_of_counts}
use Rattle.formats.specs.Programs.{Function, signature_of, Program, signatures, nodes, Header, header_record, header_of, records_of, flat_of}
use Rattle.formats.specs.Programs.{first_edition, most_functions, most_nodes, most_parameters, InRange, Every, LawfulFunctions, Lawful}
use Rattle.formats.specs.Rows.{header_from, header_row, sorts, function_from, function_at, function_row, node_at, node_row, exprs_of, exactly_one, bodies, prefix_row, read_program}
use Rattle.formats.specs.Inner.Fields.{header_in, function_in, sort_in, arity_in, count_in}
use Rattle.formats.specs.ProgramFiles.{Flattened, RecordsAt, nothing, one_more}
use Rattle.formats.proofs.Results.{done_injective, done_not, then_done, then_inv, each_done, each_inv, each_none, each_nth, each_length, check_inv, both_held}
use Rattle.formats.proofs.Records.{length_flat, ranged_at, flat_bytes, at_flat, records_from, flat_records, NodeRead, node_inv, node_done}
use Rattle.formats.proofs.Programs.{some_record, some_nodes, length_nodes, length_records, every_left, every_right, nodes_in_range, records_fit}
use Rattle.formats.proofs.Prefix.{records_of_all, exprs_prefix, exprs_inv}

-- ---- records that are held one after the other

-- the flat records s hold these records, the first of them record k
data Holds (s : List ℕ) : ℕ → List Record → Type 0 where
  no_more : {k : ℕ} → Holds s k []
  and_more : {k : ℕ} {r : Record} {rs : List Record} → record_at s k ≡ r → Holds s (suc k) rs → Holds s k (r ∷ rs)

-- a record number may be exchanged for an equal one
holds_position : {s : List ℕ} {rs : List Record} {k j : ℕ} → k ≡ j → Holds s k rs → Holds s j rs
holds_position {s} {rs} e h = subst (λ (i : ℕ). Holds s i rs) e h

-- joined records are held one after the other ..
holds_append : {s : List ℕ} {us vs : List Record} {k : ℕ} → Holds s k us → Holds s (k + length us) vs → Holds s k (us ++ vs)
holds_append no_more h = holds_position (add-zero _) h
holds_append (and_more is more) h = and_more is (holds_append more (holds_position (add-suc _ _ ∙ sym (suc-add _ _)) h))

-- .. and come apart again
holds_left : {s : List ℕ} {k : ℕ} (us vs : List Record) → Holds s k (us ++ vs) → Holds s k us
holds_left [] vs h = no_more
holds_left (u ∷ us) vs (and_more is more) = and_more is (holds_left us vs more)

holds_right : {s : List ℕ} {k : ℕ} (us vs : List Record) → Holds s k (us ++ vs) → Holds s (k + length us) vs
holds_right [] vs h = holds_position (sym (add-zero _)) h
holds_right (u ∷ us) vs (and_more is more) = holds_position (suc-add _ _ ∙ sym (add-suc _ _)) (holds_right us vs more)

-- records are held where each is read by its number
holds_nth : (s : List ℕ) (k : ℕ) (rs : List Record) → ((m : ℕ) (r : Record) → nth rs m ≡ some r → record_at s (k + m) ≡ r) → Holds s k rs
unfolding nth
holds_nth s k [] h = no_more
holds_nth s k (r ∷ rs) h =
    and_more (ap (record_at s) (sym (add-zero k)) ∙ h 0 r refl)
    (holds_nth s (suc k) rs (λ m q e. ap (record_at s) (suc-add k m ∙ sym (add-suc k m)) ∙ h (suc m) q e))

-- so records that fit their fields are held by their bytes
holds_flat : (rs : List Record) → Every Ranged rs → Holds (flat rs) 0 rs
holds_flat rs fit = holds_nth (flat rs) 0 rs (λ m r e. ap (record_at (flat rs)) (omega arith) ∙ at_flat rs m r fit e)

-- the records that are held are the records read
holds_records : {s : List ℕ} {k : ℕ} {rs : List Record} → Holds s k rs → records_from (length rs) s k ≡ rs
unfolding records_from
holds_records no_more = refl
holds_records (and_more is more) = ap₂ ◌∷◌ is (holds_records more)

-- so bytes that hold as many records as they have room for are the bytes of these
flat_held : (s : List ℕ) (rs : List Record) → Bytes s → length s ≡ record_bytes * length rs → Holds s 0 rs → flat rs ≡ s
flat_held s rs bs long h = ap flat (sym (holds_records h)) ∙ flat_records (length rs) s bs long

-- held records of nodes stand there
holds_stands : (s : List ℕ) (k : ℕ) (ks : List Kind) → Holds s k (map fields_of ks) → RecordsAt s k ks
holds_stands s k [] h = nothing
holds_stands s k (kind ∷ ks) (and_more is more) = one_more is (holds_stands s (suc k) ks more)

-- ---- several readings

-- a property of values with their numbers, the first of them k
abbrev Numbered : {A : Type 0} → (ℕ → A → Type 0) → ℕ → List A → Type 0
Numbered P k [] = Unit {0}
Numbered P k (x ∷ xs) = P k x × Numbered P (suc k) xs

-- it holds of all that was read, where it holds of each
each_numbered : {A : Type 0} (P : ℕ → A → Type 0) (f : ℕ → Result A) → ((k : ℕ) (x : A) → f k ≡ done x → P k x)
    → (n k : ℕ) (xs : List A) → each f n k ≡ done xs → Numbered P k xs
each_numbered P f one zero k xs e = rw (each_none f k xs e) tt
each_numbered P f one (suc n) k xs e =
    let i = each_inv f n k xs e in
    rw i.both (one k i.head i.here, each_numbered P f one n (suc k) i.tail i.later)

-- all are read, where each of which it holds is
numbered_each : {A : Type 0} (P : ℕ → A → Type 0) (f : ℕ → Result A) → ((k : ℕ) (x : A) → P k x → f k ≡ done x)
    → (k : ℕ) (xs : List A) → Numbered P k xs → each f (length xs) k ≡ done xs
unfolding each
numbered_each P f one k [] h = refl
numbered_each P f one k (x ∷ xs) h = each_done f (length xs) k x xs (one k x h.0) (numbered_each P f one (suc k) xs h.1)

-- ---- the header

-- what is known of a header that was read
record HeaderRead (bytes : ℕ) (r : Record) (h : Header) : Type 0 where
  own : header_record h ≡ r
  edition : h.edition ≡ first_edition
  some_function : 1 ≤ h.functions
  few_functions : h.functions ≤ most_functions
  some_node : 1 ≤ h.nodes
  few_nodes : h.nodes ≤ most_nodes
  whole : bytes ≡ record_bytes * suc (h.functions + h.nodes)

-- a header that was read is known ..
header_inv : (bytes : ℕ) (r : Record) (h : Header) → header_from bytes r ≡ done h → HeaderRead bytes r h
unfolding header_from header_record
header_inv bytes (fields edition f n i) h e =
    let c = check_inv _ header_field 0 _ h e in
    let t = both_held (eqb edition first_edition) _ c.held in
    let u = both_held (leb 1 f && leb f most_functions) _ t.1 in
    let v = both_held (leb 1 n && leb n most_nodes) _ u.1 in
    let w = both_held (eqb i 0) _ v.1 in
    let fs = both_held (leb 1 f) _ u.0 in
    let ns = both_held (leb 1 n) _ v.0 in
    subst (HeaderRead bytes (fields edition f n i)) c.same
    (record {
      own = ap (fields edition f n) (sym (eqb-true i 0 w.0));
      edition = eqb-true edition first_edition t.0;
      some_function = leb-true 1 f fs.0;
      few_functions = leb-true f most_functions fs.1;
      some_node = leb-true 1 n ns.0;
      few_nodes = leb-true n most_nodes ns.1;
      whole = eqb-true bytes _ w.1;
    })

-- .. and one that is known is read
header_done : (bytes : ℕ) (r : Record) (h : Header) → HeaderRead bytes r h → header_from bytes r ≡ done h
unfolding header_from header_record
header_done bytes r h k =
    rw (← k.own)
    (simp (header_from, eq-eqb _ _ k.edition, le-leb _ _ k.some_function, le-leb _ _ k.few_functions, le-leb _ _ k.some_node, le-leb _ _ k.few_nodes, eq-eqb _ _ k.whole))

-- ---- the functions

-- what is known of a function record that was read
pub record FunctionRead (j : ℕ) (r : Record) (g : Signature) : Type 0 where
  pub own : signature_record g ≡ r
  pub few_parameters : g.parameters ≤ most_parameters j
  pub some_node : 1 ≤ g.count

-- a function record with that sort, where the other fields are right
sorted_inv : (j a n i : ℕ) (sort : Sort) (g : Signature)
    → value_if (leb a (most_parameters j) && (leb 1 n && eqb i 0)) function_field (suc j) (record { sort = sort; parameters = a; count = n }) ≡ done g
    → FunctionRead j (fields (sort_number sort) a n i) g
unfolding signature_record
sorted_inv j a n i sort g e =
    let c = check_inv _ function_field (suc j) _ g e in
    let t = both_held (leb a (most_parameters j)) _ c.held in
    let u = both_held (leb 1 n) _ t.1 in
    subst (FunctionRead j (fields (sort_number sort) a n i)) c.same
    (record {
      own = ap (fields (sort_number sort) a n) (sym (eqb-true i 0 u.1));
      few_parameters = leb-true a (most_parameters j) t.0;
      some_node = leb-true 1 n u.0;
    })

-- a function record that was read is known
pub function_inv : (edition j : ℕ) (r : Record) (g : Signature) → function_from edition j r ≡ done g → FunctionRead j r g
unfolding function_from sorts nth sort_number
function_inv edition j (fields zero a n i) g e = sorted_inv j a n i number_valued g e
function_inv edition j (fields (suc zero) a n i) g e = sorted_inv j a n i tree_valued g e
function_inv edition j (fields (suc (suc x)) a n i) g e = done_not e refl

-- a count fits its field, so that a sum of counts never wraps
counts_fit : (edition : ℕ) (s : List ℕ) (n j : ℕ) (gs : List Signature) → Bytes s → each (function_at edition s) n j ≡ done gs → sum_of_counts gs ≤ 65535 * n
unfolding sum_of_counts function_at signature_record
counts_fit edition s zero j gs bs e = rw (each_none (function_at edition s) j gs e) (omega arith)
counts_fit edition s (suc n) j gs bs e =
    let i = each_inv (function_at edition s) n j gs e in
    let known = function_inv edition j (record_at s (suc j)) i.head i.here in
    let fits : Ranged (signature_record i.head) = subst Ranged (sym known.own) (ranged_at s (suc j) bs) in
    let first : i.head.count < 2 ^ 16 = fits.2 in
    let others : sum_of_counts i.tail ≤ 65535 * n = counts_fit edition s n (suc j) i.tail bs i.later in
    rw i.both (omega arith)

pub sums_fit : (edition : ℕ) (s : List ℕ) (n : ℕ) (gs : List Signature) → Bytes s → each (function_at edition s) n 0 ≡ done gs → sum_of_counts gs ≤ 65535 * n
sums_fit edition s n gs bs e = counts_fit edition s n 0 gs bs e

-- a sort is found by its number
sort_of_own : (edition : ℕ) (sort : Sort) → nth (sorts edition) (sort_number sort) ≡ some sort
unfolding sorts nth sort_number
sort_of_own edition number_valued = refl
sort_of_own edition tree_valued = refl

-- a function record that is known is read
function_done : (edition j : ℕ) (r : Record) (g : Signature) → FunctionRead j r g → function_from edition j r ≡ done g
unfolding function_from signature_record
function_done edition j r g k =
    rw (← k.own, sort_of_own edition g.sort, function_from, le-leb _ _ k.few_parameters, le-leb _ _ k.some_node)

-- what is known of several, the first of function j
abbrev FunctionsRead : List ℕ → ℕ → List Signature → Type 0
FunctionsRead s = Numbered (λ j g. FunctionRead j (record_at s (suc j)) g)

-- several that were read are known ..
functions_inv : (edition : ℕ) (s : List ℕ) (n j : ℕ) (gs : List Signature) → each (function_at edition s) n j ≡ done gs → FunctionsRead s j gs
unfolding function_at
functions_inv edition s = each_numbered _ (function_at edition s) (λ j g e. function_inv edition j (record_at s (suc j)) g e)

-- .. and those that are known are read
functions_done : (edition : ℕ) (s : List ℕ) (j : ℕ) (gs : List Signature) → FunctionsRead s j gs → each (function_at edition s) (length gs) j ≡ done gs
unfolding function_at
functions_done edition s = numbered_each _ (function_at edition s) (λ j g r. function_done edition j (record_at s (suc j)) g r)

-- they are held ..
functions_held : (s : List ℕ) (j : ℕ) (gs : List Signature) → FunctionsRead s j gs → Holds s (suc j) (map signature_record gs)
functions_held s j [] h = no_more
functions_held s j (g ∷ gs) h = and_more (sym h.0.own) (functions_held s (suc j) gs h.1)

-- .. and lawful functions that are held are known
held_functions : (s : List ℕ) (gs : List Signature) (j : ℕ) (fs : List Function) → LawfulFunctions gs j fs → Holds s (suc j) (map signature_record (map signature_of fs))
    → FunctionsRead s j (map signature_of fs)
unfolding signature_of
held_functions s gs j [] h held = tt
held_functions s gs j (f ∷ fs) h (and_more is more) =
    (record { own = sym is; few_parameters = h.0.few_parameters; some_node = some_record f.body }, held_functions s gs (suc j) fs h.1 more)

-- ---- the nodes

-- what is known of nodes that were read, the first of them record k
abbrev NodesRead : ℕ → List ℕ → ℕ → List Kind → Type 0
NodesRead functions s = Numbered (λ k kind. NodeRead functions (record_at s k) kind)

-- nodes that were read are known ..
nodes_inv : (h : Header) (s : List ℕ) (n k : ℕ) (ks : List Kind) → Bytes s → each (node_at h s) n k ≡ done ks → NodesRead h.functions s k ks
unfolding node_at
nodes_inv h s n k ks bs e =
    each_numbered _ (node_at h s) (λ j kind f. node_inv h.edition h.functions j (record_at s j) kind (ranged_at s j bs) f) n k ks e

-- .. and those that are known are read
nodes_done : (h : Header) (s : List ℕ) (k : ℕ) (ks : List Kind) → NodesRead h.functions s k ks → each (node_at h s) (length ks) k ≡ done ks
unfolding node_at
nodes_done h s = numbered_each _ (node_at h s) (λ j kind r. rw (← r.own) (node_done h.edition h.functions j kind r.in_range))

-- they are held ..
nodes_held : (functions : ℕ) (s : List ℕ) (k : ℕ) (ks : List Kind) → NodesRead functions s k ks → Holds s k (map fields_of ks)
nodes_held functions s k [] h = no_more
nodes_held functions s k (kind ∷ ks) h = and_more (sym h.0.own) (nodes_held functions s (suc k) ks h.1)

-- .. and in range ..
nodes_ranged : (functions : ℕ) (s : List ℕ) (k : ℕ) (ks : List Kind) → NodesRead functions s k ks → Every (InRange functions) ks
nodes_ranged functions s k [] h = tt
nodes_ranged functions s k (kind ∷ ks) h = (h.0.in_range, nodes_ranged functions s (suc k) ks h.1)

-- .. and such are known
held_nodes : (functions : ℕ) (s : List ℕ) (k : ℕ) (ks : List Kind) → Every (InRange functions) ks → Holds s k (map fields_of ks) → NodesRead functions s k ks
held_nodes functions s k [] h held = tt
held_nodes functions s k (kind ∷ ks) h (and_more is more) = (record { own = sym is; in_range = h.0 }, held_nodes functions s (suc k) ks h.1 more)

-- ---- the bodies

-- where the check is done, there is one expression
one_inv : (r : ℕ) (o : Option (List Expr)) (e : Expr) → exactly_one r o ≡ done e → o ≡ some (e ∷ [])
unfolding exactly_one
one_inv r none e h = done_not h refl
one_inv r (some []) e h = done_not h refl
one_inv r (some (x ∷ [])) e h = ap (λ (y : Expr). some (y ∷ [])) (done_injective h)
one_inv r (some (x ∷ (y ∷ es))) e h = done_not h refl

-- what is known of the expression that records are
record BodyRead (arity : ℕ → ℕ) (ks : List Kind) (e : Expr) : Type 0 where
  own : prefix e ≡ ks
  applied : CallsComplete arity e

-- records that are one expression are its own ..
body_inv : (arity : ℕ → ℕ) (ks : List Kind) (r : ℕ) (e : Expr) → exactly_one r (exprs_of arity ks) ≡ done e → BodyRead arity ks e
unfolding records_of_all
body_inv arity ks r e h =
    let p = exprs_inv arity ks (e ∷ []) (one_inv r (exprs_of arity ks) e h) in
    record { own = sym (append-nil (prefix e)) ∙ p.joined; applied = p.applied.0 }

-- .. and an expression's own records are that expression
body_done : (arity : ℕ → ℕ) (r : ℕ) (e : Expr) → CallsComplete arity e → exactly_one r (exprs_of arity (prefix e)) ≡ done e
unfolding exactly_one exprs_of
body_done arity r e h = ap (exactly_one r) (ap (exprs_of arity) (sym (append-nil (prefix e))) ∙ exprs_prefix e arity [] [] h refl)

-- each Call in a function has its arguments
abbrev pub AppliedBody : (ℕ → ℕ) → Function → Type 0
AppliedBody arity f = CallsComplete arity f.body

-- what is known of functions whose bodies were read
pub record BodiesRead (arity : ℕ → ℕ) (gs : List Signature) (ks : List Kind) (fs : List Function) : Type 0 where
  pub signed : map signature_of fs ≡ gs
  pub own : nodes fs ≡ ks
  pub applied : Every (AppliedBody arity) fs

-- functions whose bodies were read are known ..
pub bodies_inv : (arity : ℕ → ℕ) (gs : List Signature) (ks : List Kind) (r : ℕ) (fs : List Function) → length ks ≡ sum_of_counts gs → bodies arity gs ks r ≡ done fs
    → BodiesRead arity gs ks fs
unfolding bodies sum_of_counts nodes signature_of size
bodies_inv arity [] [] r fs n e = subst (BodiesRead arity [] []) (done_injective e) (record { signed = refl; own = refl; applied = tt })
bodies_inv arity [] (k ∷ ks) r fs n e = absurd (omega arith)
bodies_inv arity (g ∷ gs) ks r fs n e =
    let first = then_inv (exactly_one r (exprs_of arity (take g.count ks))) _ fs e in
    let later = then_inv (bodies arity gs (drop g.count ks) (r + g.count)) _ fs first.second in
    let b = body_inv arity (take g.count ks) r first.value first.first in
    let left : length (drop g.count ks) ≡ sum_of_counts gs = simp length-drop (omega arith) in
    let rest = bodies_inv arity gs (drop g.count ks) (r + g.count) later.value left later.first in
    let counted : length (prefix first.value) ≡ g.count = ap length b.own ∙ length-take-le g.count ks (omega arith) in
    subst (BodiesRead arity (g ∷ gs) ks) (done_injective later.second)
    (record {
      signed = ap₂ ◌∷◌ (ap (λ (c : ℕ). record { sort = g.sort; parameters = g.parameters; count = c }) counted) rest.signed;
      own = ap₂ ◌++◌ b.own rest.own ∙ take-append-drop g.count ks;
      applied = (b.applied, rest.applied);
    })

-- .. and the nodes of functions are read as their bodies
bodies_done : (arity : ℕ → ℕ) (fs : List Function) (r : ℕ) → Every (AppliedBody arity) fs → bodies arity (map signature_of fs) (nodes fs) r ≡ done fs
unfolding bodies nodes signature_of size
bodies_done arity [] r h = refl
bodies_done arity (f ∷ fs) r h =
    let here = take-append_seam (prefix f.body) (nodes fs) in
    let there = drop-append_seam (prefix f.body) (nodes fs) in
    then_done _ (ap (λ l. exactly_one r (exprs_of arity l)) here ∙ body_done arity r f.body h.0)
    ∙ then_done _ (ap (λ l. bodies arity (map signature_of fs) l (r + size f.body)) there ∙ bodies_done arity fs (r + size f.body) h.1)

-- ---- the program

-- what is known of a program that was read
record RowsRead (s : List ℕ) (program : Program) : Type 0 where
  header : HeaderRead (length s) (record_at s 0) (header_of program)
  functions : FunctionsRead s 0 (signatures program)
  kinds : NodesRead (length program.functions) s (suc (length program.functions)) (nodes program.functions)
  applied : Every (AppliedBody (arity_of (signatures program))) program.functions

-- what is known where the function row is done
pub record Summed (h : Header) (s : List ℕ) (gs : List Signature) : Type 0 where
  pub each_read : each (function_at h.edition s) h.functions 0 ≡ done gs
  pub sum : sum_of_counts gs ≡ h.nodes

-- its readings are done, and the counts have the sum that the header says
pub summed_inv : (h : Header) (s : List ℕ) (gs : List Signature) → function_row h s ≡ done gs → Summed h s gs
unfolding function_row
summed_inv h s gs e =
    let t = then_inv (each (function_at h.edition s) h.functions 0) _ gs e in
    let c = check_inv _ function_field h.functions t.value gs t.second in
    record { each_read = t.first ∙ ap done c.same; sum = ap sum_of_counts (sym c.same) ∙ eqb-true (sum_of_counts t.value) h.nodes c.held }

-- ---- the fields of records that were read

-- a header that was read is the header's own fields
pub header_own : (s : List ℕ) (h : Header) → header_row s ≡ done h → header_in s ≡ h
unfolding header_row header_from header_in
header_own s h e = own (record_at s 0) e
  where
    own : (r : Record) → header_from (length s) r ≡ done h → elim r [ fields edition f n i ↦ record { edition = edition; functions = f; nodes = n } ] ≡ h
    own (fields edition f n i) e = let c = check_inv (eqb edition first_edition && _) header_field 0 _ h e in c.same

-- a function that was read has the fields of its record
pub record FieldsRead (s : List ℕ) (j : ℕ) (g : Signature) : Type 0 where
  pub sort : sort_number g.sort ≡ sort_in s j
  pub arity : g.parameters ≡ arity_in s j
  pub count : g.count ≡ count_in s j

pub function_read : (s : List ℕ) (j : ℕ) (g : Signature) → function_in s j ≡ done g → FieldsRead s j g
unfolding function_in function_at signature_record sort_in arity_in count_in
function_read s j g e =
    let own = (function_inv (header_in s).edition j (record_at s (suc j)) g e).own in
    record {
      sort = ap (λ (r : Record). elim r [ fields x a n i ↦ x ]) own;
      arity = ap (λ (r : Record). elim r [ fields x a n i ↦ a ]) own;
      count = ap (λ (r : Record). elim r [ fields x a n i ↦ n ]) own;
    }

-- where the function row is done, each function is read ..
pub row_read : (s : List ℕ) (gs : List Signature) → function_row (header_in s) s ≡ done gs → each (function_in s) (header_in s).functions 0 ≡ done gs
unfolding function_in
row_read s gs e = (summed_inv (header_in s) s gs e).each_read

-- .. and has as many number parameters as its record says
pub arity_read : (s : List ℕ) (gs : List Signature) → function_row (header_in s) s ≡ done gs → (b : ℕ) → b < (header_in s).functions → arity_of gs b ≡ arity_in s b
unfolding arity_of
arity_read s gs e b h =
    let f = each_nth (function_in s) (header_in s).functions 0 b gs (row_read s gs e) h in
    let g = function_read s b f.value (rw zero-add at f.given) in
    (rw (f.there, arity_of)) ∙ g.arity

-- where all rows are done, all is known of the program
rows_of : (s : List ℕ) (h : Header) (gs : List Signature) (ks : List Kind) (fs : List Function) → Bytes s → header_row s ≡ done h → function_row h s ≡ done gs
    → node_row h s ≡ done ks → prefix_row h gs ks ≡ done fs → RowsRead s (record { edition = h.edition; functions = fs })
unfolding header_row node_row prefix_row header_of
rows_of s h gs ks fs bs eh eg ek ef =
    let g = summed_inv h s gs eg in
    let b = bodies_inv (arity_of gs) gs ks (suc h.functions) fs (each_length _ h.nodes (suc h.functions) ks ek ∙ sym g.sum) ef in
    let many : length fs ≡ h.functions = sym (length-map fs signature_of) ∙ ap length b.signed ∙ each_length _ h.functions 0 gs g.each_read in
    let sum : sum_of_counts (map signature_of fs) ≡ h.nodes = ap sum_of_counts b.signed ∙ g.sum in
    record {
      header = rw (many, sum) (header_inv (length s) (record_at s 0) h eh);
      functions = rw b.signed (functions_inv h.edition s h.functions 0 gs g.each_read);
      kinds = rw (b.own, many) (nodes_inv h s h.nodes (suc h.functions) ks bs ek);
      applied = rw b.signed b.applied;
    }

-- so it is of a program that was read
rows_inv : (s : List ℕ) (program : Program) → Bytes s → read_program s ≡ done program → RowsRead s program
unfolding read_program
rows_inv s program bs e =
    let h = then_inv (header_row s) _ program e in
    let g = then_inv (function_row h.value s) _ program h.second in
    let k = then_inv (node_row h.value s) _ program g.second in
    let f = then_inv (prefix_row h.value g.value k.value) _ program k.second in
    subst (RowsRead s) (done_injective f.second) (rows_of s h.value g.value k.value f.value bs h.first g.first k.first f.first)

-- where all is known of a program, it is read
module _ (s : List ℕ) (program : Program) (known : RowsRead s program) where
  -- the function row gives the signatures ..
  function-row : function_row (header_of program) s ≡ done (signatures program)
  unfolding function_row header_of
  function-row =
      let all = functions_done program.edition s 0 (signatures program) known.functions in
      then_done _ (rw (length-map program.functions signature_of) at all) ∙ simp (eq-eqb (sum_of_counts (signatures program)) (sum_of_counts (signatures program)) refl)

  -- .. the node row the nodes ..
  node-row : node_row (header_of program) s ≡ done (nodes program.functions)
  unfolding node_row header_of
  node-row = rw (length_nodes program.functions) at (nodes_done (header_of program) s _ (nodes program.functions) known.kinds)

  -- .. the prefix form the functions ..
  prefix-row : prefix_row (header_of program) (signatures program) (nodes program.functions) ≡ done program.functions
  unfolding prefix_row
  prefix-row = bodies_done (arity_of (signatures program)) program.functions _ known.applied

  -- .. and so all rows the program
  rows_done : read_program s ≡ done program
  unfolding read_program header_row header_of
  rows_done =
      then_done _ (header_done (length s) (record_at s 0) (header_of program) known.header)
      ∙ then_done _ function-row
      ∙ then_done _ node-row
      ∙ then_done _ prefix-row

-- ---- lawful programs

-- in the bodies of lawful functions each Call has its arguments
bodies_applied : (gs : List Signature) (j : ℕ) (fs : List Function) → LawfulFunctions gs j fs → Every (AppliedBody (arity_of gs)) fs
bodies_applied gs j [] h = tt
bodies_applied gs j (f ∷ fs) h = (h.0.applied, bodies_applied gs (suc j) fs h.1)

-- functions that were read, with such bodies and nodes in range, are lawful
lawful_functions : (s : List ℕ) (gs : List Signature) (j : ℕ) (fs : List Function) → FunctionsRead s j (map signature_of fs) → Every (InRange (length gs)) (nodes fs)
    → Every (AppliedBody (arity_of gs)) fs → LawfulFunctions gs j fs
unfolding nodes signature_of
lawful_functions s gs j [] r n a = tt
lawful_functions s gs j (f ∷ fs) r n a =
    let ranged = InRange (length gs) in (
      record { few_parameters = r.0.few_parameters; in_range = every_left ranged (prefix f.body) (nodes fs) n; applied = a.0 },
      lawful_functions s gs (suc j) fs r.1 (every_right ranged (prefix f.body) (nodes fs) n) a.1,
    )

-- as many function records as functions
length_signatures : (program : Program) → length (map signature_record (signatures program)) ≡ length program.functions
length_signatures program = simp length-map

module _ (program : Program) (lawful : Lawful program) where
  -- it has a node
  pub some_node : 1 ≤ sum_of_counts (signatures program)
  some_node = some_nodes program.functions lawful.some_function

  -- its flat records are bytes
  pub flat_lawful_bytes : Bytes (flat_of program)
  unfolding flat_of
  flat_lawful_bytes = flat_bytes (records_of program) (records_fit program lawful)

  -- it has 1 + F + N records
  pub lawful_length : length (flat_of program) ≡ record_bytes * suc (length program.functions + sum_of_counts (signatures program))
  unfolding flat_of
  lawful_length = length_flat (records_of program) ∙ ap (λ (n : ℕ). record_bytes * n) (length_records program)

  -- its flat records hold all that is to be known
  lawful_held : Holds (flat_of program) 0 (records_of program) → RowsRead (flat_of program) program
  unfolding records_of header_of
  lawful_held (and_more is more) =
      let s = flat_of program in
      let fs = program.functions in
      let gs = signatures program in
      let after = holds_right (map signature_record gs) (map fields_of (nodes fs)) more in
      let ranged : Every (InRange (length fs)) (nodes fs) = rw (length-map fs signature_of) at (nodes_in_range gs 0 fs lawful.functions) in
      record {
        header = record {
          own = sym is;
          edition = lawful.edition;
          some_function = lawful.some_function;
          few_functions = lawful.few_functions;
          some_node = some_node;
          few_nodes = lawful.few_nodes;
          whole = lawful_length;
        };
        functions = held_functions s gs 0 fs lawful.functions (holds_left (map signature_record gs) (map fields_of (nodes fs)) more);
        kinds = held_nodes (length fs) s (suc (length fs)) (nodes fs) ranged (holds_position (omega (arith, length_signatures program)) after);
        applied = bodies_applied gs 0 fs lawful.functions;
      }

  -- parsing undoes flattening
  pub parses : read_program (flat_of program) ≡ done program
  unfolding flat_of
  parses = rows_done (flat_of program) program (lawful_held (holds_flat (records_of program) (records_fit program lawful)))

module _ (r : List ℕ) (program : Program) (bs : Bytes r) (e : read_program r ≡ done program) where
  -- all is known of a program that was read
  known : RowsRead r program
  known = rows_inv r program bs e

  -- its nodes are held
  held_kinds : Holds r (suc (length program.functions)) (map fields_of (nodes program.functions))
  held_kinds = nodes_held (length program.functions) r (suc (length program.functions)) (nodes program.functions) known.kinds

  -- flat records hold the program's own
  held_own : Holds r 0 (records_of program)
  unfolding records_of
  held_own =
      let position : suc (length program.functions) ≡ 1 + length (map signature_record (signatures program)) = omega (arith, length_signatures program) in
      and_more (sym known.header.own) (holds_append (functions_held r 0 (signatures program) known.functions) (holds_position position held_kinds))

  -- the program that was read is lawful
  read_lawful : Lawful program
  unfolding header_of
  read_lawful =
      let gs = signatures program in
      let fs = program.functions in
      let ranged : Every (InRange (length gs)) (nodes fs) = rw (length-map fs signature_of) (nodes_ranged (length fs) r (suc (length fs)) (nodes fs) known.kinds) in
      record {
        edition = known.header.edition;
        some_function = known.header.some_function;
        few_functions = known.header.few_functions;
        few_nodes = known.header.few_nodes;
        functions = lawful_functions r gs 0 fs known.functions ranged known.applied;
      }

  -- flattening undoes parsing
  pub flattens : Flattened r program
  unfolding flat_of header_of
  flattens = record {
    own = flat_held r (records_of program) bs (known.header.whole ∙ ap (λ (n : ℕ). record_bytes * n) (sym (length_records program))) held_own;
    lawful = read_lawful;
  }

  -- the nodes stand after the header and the function records
  pub nodes_stand : RecordsAt r (suc (length program.functions)) (nodes program.functions)
  nodes_stand = holds_stands r (suc (length program.functions)) (nodes program.functions) held_kinds
