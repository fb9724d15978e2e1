-- Laws of programs: where the records of an expression's parts stand, how many records there are,
-- and that those of a lawful program fit their fields.
use Prim.Native.Nat.{ℕ, zero, suc, ◌+◌, ◌^◌, ◌≤◌, ◌<◌, zero-le, suc-le-suc}
use mathlib.Core.List.{List, [], ◌∷◌, ◌++◌, map}
use mathlib.Core.Path.{◌≡◌, refl, sym, ap, subst, ◌∙◌}
use native.Mathlib.Nat.{add-zero, add-suc, suc-add}
use native.Mathlib.Omega.{arith}
use lib.Dec.{lit<}
use lib.ListN.{length, length-append, length-map}
use Rattle.formats.specs.Records.{Ranged, Kind, fields_of}
use Rattle.formats.specs.Programs.{Expr, const, var, compute, if_zero, let_in, leaf_of, node_of, case_of, call, Args, no_args, arg, prefix, prefixes, size}
use Rattle.formats.specs.Programs.{args_at, parts_at, Sort, number_valued, tree_valued, sort_number, Signature, signature_record, sum_of_counts, Function, signature_of}
use Rattle.formats.specs.Programs.{Program, signatures, nodes, header_record, header_of, records_of, most_functions, most_parameters, InRange, Every, LawfulFunctions, Lawful}
use Rattle.formats.specs.ProgramFiles.{RecordsAt, nothing, one_more, StandsPlaced}
use Rattle.formats.proofs.Records.{ranged_kind}

-- ---- where the parts stand

-- a record number may be exchanged for an equal one
stands_position : {s : List ℕ} {ks : List Kind} {k j : ℕ} → k ≡ j → RecordsAt s k ks → RecordsAt s j ks
stands_position {s} {ks} e h = subst (λ (i : ℕ). RecordsAt s i ks) e h

-- joined records that stand come apart
pub stands_left : {s : List ℕ} {k : ℕ} (us vs : List Kind) → RecordsAt s k (us ++ vs) → RecordsAt s k us
stands_left [] vs h = nothing
stands_left (u ∷ us) vs (one_more is more) = one_more is (stands_left us vs more)

pub stands_right : {s : List ℕ} {k : ℕ} (us vs : List Kind) → RecordsAt s k (us ++ vs) → RecordsAt s (k + length us) vs
stands_right [] vs h = stands_position (sym (add-zero _)) h
stands_right (u ∷ us) vs (one_more is more) = stands_position (suc-add _ _ ∙ sym (add-suc _ _)) (stands_right us vs more)

-- each argument stands after those before it
args_stand : (r : List ℕ) (k : ℕ) (xs : Args) → RecordsAt r k (prefixes xs) → Every (StandsPlaced r) (args_at k xs)
unfolding prefixes args_at size
args_stand r k no_args h = tt
args_stand r k (arg x xs) h =
    (stands_left (prefix x) (prefixes xs) h, args_stand r (k + length (prefix x)) xs (stands_right (prefix x) (prefixes xs) h))

-- two parts stand one after the other
two_stand : (r : List ℕ) (k : ℕ) (p q : Expr) → RecordsAt r k (prefix p ++ prefix q) → RecordsAt r k (prefix p) × (RecordsAt r (k + length (prefix p)) (prefix q) × Unit {0})
two_stand r k p q h = (stands_left (prefix p) (prefix q) h, (stands_right (prefix p) (prefix q) h, tt))

-- the parts of an expression stand at their own records
pub parts_stand : (r : List ℕ) (k : ℕ) (e : Expr) → RecordsAt r k (prefix e) → Every (StandsPlaced r) (parts_at k e)
unfolding prefix parts_at size
parts_stand r k (const i) h = tt
parts_stand r k (var a) h = tt
parts_stand r k (compute op p q) (one_more is more) = two_stand r (suc k) p q more
parts_stand r k (if_zero t z o) (one_more is more) =
    (stands_left (prefix t) (prefix z ++ prefix o) more, two_stand r (suc k + length (prefix t)) z o (stands_right (prefix t) (prefix z ++ prefix o) more))
parts_stand r k (let_in p body) (one_more is more) = two_stand r (suc k) p body more
parts_stand r k (leaf_of p) (one_more is more) = (more, tt)
parts_stand r k (node_of p q) (one_more is more) = two_stand r (suc k) p q more
parts_stand r k (case_of a p q) (one_more is more) = two_stand r (suc k) p q more
parts_stand r k (call a b xs) (one_more is more) = args_stand r (suc k) xs more

-- ---- how many records

-- an expression has at least its own record
pub some_record : (e : Expr) → 1 ≤ size e
unfolding size prefix
some_record (const i) = suc-le-suc zero-le
some_record (var a) = suc-le-suc zero-le
some_record (compute op p q) = suc-le-suc zero-le
some_record (if_zero t z o) = suc-le-suc zero-le
some_record (let_in p body) = suc-le-suc zero-le
some_record (leaf_of p) = suc-le-suc zero-le
some_record (node_of p q) = suc-le-suc zero-le
some_record (case_of a p q) = suc-le-suc zero-le
some_record (call a b xs) = suc-le-suc zero-le

-- functions have at least one node, where there are some
pub some_nodes : (fs : List Function) → 1 ≤ length fs → 1 ≤ sum_of_counts (map signature_of fs)
unfolding sum_of_counts signature_of
some_nodes [] h = absurd (omega arith)
some_nodes (f ∷ fs) h = let here = some_record f.body in omega arith

-- as many nodes as the counts say
pub length_nodes : (fs : List Function) → length (nodes fs) ≡ sum_of_counts (map signature_of fs)
unfolding nodes sum_of_counts signature_of size
length_nodes [] = refl
length_nodes (f ∷ fs) = length-append (prefix f.body) (nodes fs) ∙ ap (λ (n : ℕ). length (prefix f.body) + n) (length_nodes fs)

-- 01, Header: "There are 1 + F + N records."
pub length_records : (program : Program) → length (records_of program) ≡ suc (length program.functions + sum_of_counts (signatures program))
unfolding records_of
length_records program = simp (length-append, length-map, length_nodes)

-- ---- the fields fit

-- a property of the elements of two lists is one of those of the joined list ..
pub every_append : {A : Type 0} (P : A → Type 0) (xs ys : List A) → Every P xs → Every P ys → Every P (xs ++ ys)
every_append P [] ys h g = g
every_append P (x ∷ xs) ys h g = (h.0, every_append P xs ys h.1 g)

-- .. and the other way
pub every_left : {A : Type 0} (P : A → Type 0) (xs ys : List A) → Every P (xs ++ ys) → Every P xs
every_left P [] ys h = tt
every_left P (x ∷ xs) ys h = (h.0, every_left P xs ys h.1)

pub every_right : {A : Type 0} (P : A → Type 0) (xs ys : List A) → Every P (xs ++ ys) → Every P ys
every_right P [] ys h = h
every_right P (x ∷ xs) ys h = every_right P xs ys h.1

-- the fields of a function record fit
sort_fits : (sort : Sort) → sort_number sort < 256
unfolding sort_number
sort_fits number_valued = lit< tt
sort_fits tree_valued = lit< tt

parameters_fit : (j n : ℕ) → n ≤ most_parameters j → n < 256
unfolding most_parameters
parameters_fit zero n h = omega arith
parameters_fit (suc j) n h = omega arith

-- so do those of lawful functions, with not too many nodes
signatures_fit : (gs : List Signature) (j : ℕ) (fs : List Function) → LawfulFunctions gs j fs → sum_of_counts (map signature_of fs) < 2 ^ 16
    → Every Ranged (map signature_record (map signature_of fs))
unfolding sum_of_counts signature_record signature_of
signatures_fit gs j [] h n = tt
signatures_fit gs j (f ∷ fs) h n =
    ((sort_fits f.sort, parameters_fit j f.parameters h.0.few_parameters, omega arith, lit< tt), signatures_fit gs (suc j) fs h.1 (omega arith))

-- each node of lawful functions is in range
pub nodes_in_range : (gs : List Signature) (j : ℕ) (fs : List Function) → LawfulFunctions gs j fs → Every (InRange (length gs)) (nodes fs)
unfolding nodes
nodes_in_range gs j [] h = tt
nodes_in_range gs j (f ∷ fs) h =
    every_append (InRange (length gs)) (prefix f.body) (nodes fs) h.0.in_range (nodes_in_range gs (suc j) fs h.1)

-- the records of such nodes fit their fields
kinds_fit : (functions : ℕ) (ks : List Kind) → functions ≤ 2 ^ 16 → Every (InRange functions) ks → Every Ranged (map fields_of ks)
kinds_fit functions [] few h = tt
kinds_fit functions (k ∷ ks) few h = (ranged_kind functions k few h.0, kinds_fit functions ks few h.1)

-- the records of a lawful program fit their fields
pub records_fit : (program : Program) → Lawful program → Every Ranged (records_of program)
unfolding records_of header_record header_of
records_fit program h =
    let gs = signatures program in
    let ks = nodes program.functions in
    let few : length gs ≤ most_functions = simp length-map h.few_functions in
    let functions = signatures_fit gs 0 program.functions h.functions (omega (arith, h.few_nodes)) in
    let kinds = kinds_fit (length gs) ks (omega arith) (nodes_in_range gs 0 program.functions h.functions) in (
      (omega (arith, h.edition), omega (arith, h.few_functions), omega (arith, h.few_nodes), lit< tt),
      every_append Ranged (map signature_record gs) (map fields_of ks) functions kinds,
    )
