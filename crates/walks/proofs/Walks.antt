-- Laws of expressions in flat records, for functions that walk a program's records: an expression's
-- own record, then its parts; the functions' signatures; and what is known of a program that was
-- read.
use Prim.Native.Nat.{ℕ, zero, suc, ◌+◌, ◌≤◌, ◌<◌}
use mathlib.Core.List.{List, [], ◌∷◌, ◌++◌, map}
use mathlib.Core.Option.{some}
use mathlib.Core.Path.{◌≡◌, refl, sym, ap, subst, ◌∙◌}
use native.Mathlib.Nat.{zero-add, add-zero, add-suc, suc-add, add_assoc}
use native.Mathlib.Omega.{arith}
use lib.ListN.{length, length-append, length-map}
use Rattle.formats.specs.Numbers.{Bytes}
use Rattle.formats.specs.Results.{Result, done, refusal, and_then, each}
use Rattle.formats.specs.Records.{Kind, Compute, IfZero, Let, Leaf, Node, Case, Call, record_at, fields_of, nth, parts_of, part_count}
use Rattle.formats.specs.Programs.{Expr, const, var, compute, if_zero, let_in, leaf_of, node_of, case_of, call, Args, no_args, arg, prefix, prefixes, size, Placed, placed_at, args_at, parts_at}
use Rattle.formats.specs.Programs.{count_args, CallsComplete, ArgsComplete, Signature, arity_of, sum_of_counts, Function, signature_of, Program, signatures, nodes, most_nodes, most_parameters, InRange, Every, LawfulFunctions}
use Rattle.formats.specs.Rows.{node_at, header_row, function_row, node_row, prefix_row, read_program}
use Rattle.formats.specs.Inner.Fields.{header_in, function_in, arity_in, node_in}
use Rattle.formats.specs.ProgramFiles.{RecordsAt, one_more}
use Rattle.formats.proofs.Results.{done_injective, then_inv, each_inv, each_nth, each_length}
use Rattle.formats.proofs.Records.{node_done}
use Rattle.formats.proofs.Programs.{stands_left, stands_right, every_left, every_right}
use Rattle.formats.proofs.Rows.{FieldsRead, header_own, function_read, summed_inv, bodies_inv, row_read, flattens, nodes_stand}
use Rattle.rules.specs.Scopes.{Scope, inside, entry, Entry, entered, entered_args}
use Rattle.rules.specs.PassOne.{at_entry, pass_over}
use Rattle.walks.specs.Inner.Limits.{parameters_of_any}
use Rattle.walks.specs.Inner.Standing.{Known, head_of, Holds, Row, end, next, pass_parts, Bodies, no_more}
use Rattle.walks.specs.Inner.Standing.{one_more as one_body}
use Rattle.rules.proofs.PassOne.{pass_join}

-- ---- an expression's own record

-- it is the first of the expression's records
record Fronted (e : Expr) : Type 0 where
  rest : List Kind
  both : prefix e ≡ head_of e ∷ rest

fronted : (e : Expr) → Fronted e
unfolding prefix head_of
fronted (const i) = record { rest = []; both = refl }
fronted (var a) = record { rest = []; both = refl }
fronted (compute op p q) = record { rest = prefix p ++ prefix q; both = refl }
fronted (if_zero t z o) = record { rest = prefix t ++ (prefix z ++ prefix o); both = refl }
fronted (let_in p body) = record { rest = prefix p ++ prefix body; both = refl }
fronted (leaf_of p) = record { rest = prefix p; both = refl }
fronted (node_of p q) = record { rest = prefix p ++ prefix q; both = refl }
fronted (case_of a p q) = record { rest = prefix p ++ prefix q; both = refl }
fronted (call a b xs) = record { rest = prefixes xs; both = refl }

-- the first record that stands
stands_first : {s : List ℕ} {k : ℕ} {kind : Kind} {ks : List Kind} → RecordsAt s k (kind ∷ ks) → record_at s k ≡ fields_of kind
stands_first (one_more is more) = is

stands_after : {s : List ℕ} {k : ℕ} {kind : Kind} {ks : List Kind} → RecordsAt s k (kind ∷ ks) → RecordsAt s (suc k) ks
stands_after (one_more is more) = more

-- its operands are in range ..
head_in_range : (s : List ℕ) (gs : List Signature) (k : ℕ) (e : Expr) → Holds s gs k e → InRange (header_in s).functions (head_of e)
head_in_range s gs k e h = let all = subst (Every (InRange (header_in s).functions)) (fronted e).both h.in_range in all.0

-- .. and it is read as the expression's kind
pub node_held : (s : List ℕ) (gs : List Signature) (k : ℕ) (e : Expr) → Holds s gs k e → node_in s k ≡ done (head_of e)
unfolding node_in node_at
node_held s gs k e h =
    let own : record_at s k ≡ fields_of (head_of e) = stands_first (subst (RecordsAt s k) (fronted e).both h.stands) in
    rw own (node_done (header_in s).edition (header_in s).functions k (head_of e) (head_in_range s gs k e h))

-- ---- signatures

-- function b, among functions with these signatures
pub record Signed (s : List ℕ) (gs : List Signature) (b : ℕ) : Type 0 where
  pub signature : Signature
  pub there : nth gs b ≡ some signature
  pub given : function_in s b ≡ done signature
  pub its_fields : FieldsRead s b signature

pub signature-of : (s : List ℕ) (gs : List Signature) (b : ℕ) → Known s gs → b < (header_in s).functions → Signed s gs b
signature-of s gs b known h =
    let f = each_nth (function_in s) (header_in s).functions 0 b gs known h in
    let given : function_in s b ≡ done f.value = rw zero-add at f.given in
    record { signature = f.value; there = f.there; given = given; its_fields = function_read s b f.value given }

-- ---- its parts

module _ (s : List ℕ) (gs : List Signature) where
  -- records of these kinds stand from k on, with operands in range
  record Kinds (k : ℕ) (ks : List Kind) : Type 0 where
    stand : RecordsAt s k ks
    ranged : Every (InRange (header_in s).functions) ks

  -- the last of several expressions
  alone : (k : ℕ) (e : Expr) → Kinds k (prefix e) → CallsComplete (arity_of gs) e → Row s gs k (placed_at k e ∷ []) (k + length (prefix e))
  unfolding size
  alone k e h a = next (record { stands = h.stand; in_range = h.ranged; applied = a }) end

  -- one in front of others
  in-front : (k : ℕ) (e : Expr) (ks : List Kind) (ps : List Placed) → Kinds k (prefix e ++ ks) → CallsComplete (arity_of gs) e
      → (Kinds (k + size e) ks → Row s gs (k + size e) ps (k + size e + length ks)) → Row s gs k (placed_at k e ∷ ps) (k + length (prefix e ++ ks))
  unfolding size
  in-front k e ks ps h a others =
      let ranged = InRange (header_in s).functions in
      let here : Holds s gs k e = record { stands = stands_left (prefix e) ks h.stand; in_range = every_left ranged (prefix e) ks h.ranged; applied = a } in
      let there : Kinds (k + size e) ks = record { stand = stands_right (prefix e) ks h.stand; ranged = every_right ranged (prefix e) ks h.ranged } in
      simp (length-append, ← add_assoc) (next here (others there))

  args_row : (k : ℕ) (xs : Args) → Kinds k (prefixes xs) → ArgsComplete (arity_of gs) xs → Row s gs k (args_at k xs) (k + length (prefixes xs))
  unfolding prefixes args_at
  args_row k no_args h a = simp add-zero end
  args_row k (arg x xs) h a = in-front k x (prefixes xs) (args_at (k + size x) xs) h a.0 (λ g. args_row (k + size x) xs g a.1)

  two_row : (k : ℕ) (p q : Expr) → CallsComplete (arity_of gs) p × CallsComplete (arity_of gs) q → Kinds k (prefix p ++ prefix q)
      → Row s gs k (placed_at k p ∷ placed_at (k + size p) q ∷ []) (k + length (prefix p ++ prefix q))
  two_row k p q a h = in-front k p (prefix q) _ h a.0 (λ g. alone (k + size p) q g a.1)

  -- after the expression's own record
  after_own : (k : ℕ) (kind : Kind) (ks : List Kind) (ps : List Placed) → Kinds k (kind ∷ ks) → (Kinds (suc k) ks → Row s gs (suc k) ps (suc k + length ks))
      → Row s gs (suc k) ps (k + suc (length ks))
  after_own k kind ks ps h others = rw (add-suc, ← suc-add) (others (record { stand = stands_after h.stand; ranged = h.ranged.1 }))

  -- the parts stand one after the other, up to the expression's end
  parts_row : (k : ℕ) (e : Expr) → Kinds k (prefix e) → CallsComplete (arity_of gs) e → Row s gs (suc k) (parts_at k e) (k + length (prefix e))
  unfolding prefix parts_at
  parts_row k (const i) h a = after_own k _ _ _ h (λ g. simp add-zero end)
  parts_row k (var v) h a = after_own k _ _ _ h (λ g. simp add-zero end)
  parts_row k (compute op p q) h a = after_own k _ _ _ h (two_row (suc k) p q a)
  parts_row k (if_zero t z o) h a = after_own k _ _ _ h (λ g. in-front (suc k) t _ _ g a.0 (two_row (suc k + size t) z o a.1))
  parts_row k (let_in p body) h a = after_own k _ _ _ h (two_row (suc k) p body a)
  parts_row k (leaf_of p) h a = after_own k _ _ _ h (λ g. alone (suc k) p g a)
  parts_row k (node_of p q) h a = after_own k _ _ _ h (two_row (suc k) p q a)
  parts_row k (case_of v p q) h a = after_own k _ _ _ h (two_row (suc k) p q a)
  parts_row k (call v b xs) h a = after_own k _ _ _ h (λ g. args_row (suc k) xs g a.1)

  pub parts_held : (k : ℕ) (e : Expr) → Holds s gs k e → Row s gs (suc k) (parts_at k e) (k + size e)
  unfolding size
  parts_held k e h = parts_row k e (record { stand = h.stands; ranged = h.in_range }) h.applied

-- the first of several, where there is one
pub record FirstOf (s : List ℕ) (gs : List Signature) (k : ℕ) (ps : List Placed) (m : ℕ) : Type 0 where
  pub expr : Expr
  pub others : List Placed
  pub both : ps ≡ placed_at k expr ∷ others
  pub here : Holds s gs k expr
  pub later : Row s gs (k + size expr) others m

pub row_first : {s : List ℕ} {gs : List Signature} {k m : ℕ} {ps : List Placed} → Row s gs k ps m → 1 ≤ length ps → FirstOf s gs k ps m
row_first end h = absurd (omega arith)
row_first (next {e = e} {ps = others} here later) h = record { expr = e; others = others; both = refl; here = here; later = later }

-- where there is none they end where they begin
pub row_none : {s : List ℕ} {gs : List Signature} {k m : ℕ} {ps : List Placed} → Row s gs k ps m → length ps ≡ 0 → (ps ≡ []) × (m ≡ k)
row_none end h = (refl, refl)
row_none (next here later) h = absurd (omega arith)

pub row_upto : {s : List ℕ} {gs : List Signature} {k m : ℕ} {ps : List Placed} → Row s gs k ps m → k ≤ m
row_upto end = omega arith
row_upto (next here later) = let after_it = row_upto later in omega arith

-- a Call has as many parts as arguments ..
pub length_args : (k : ℕ) (xs : Args) → length (args_at k xs) ≡ count_args xs
unfolding args_at count_args
length_args k no_args = refl
length_args k (arg x xs) = ap suc (length_args (k + size x) xs)

-- .. and a record has as many parts as its kind says
pub parts_counted : (s : List ℕ) (gs : List Signature) (k : ℕ) (e : Expr) → Known s gs → Holds s gs k e
    → length (parts_at k e) ≡ part_count (arity_in s) (parts_of (head_of e))
unfolding parts_at part_count parts_of head_of arity_of
parts_counted s gs k e known h = by_kind e (head_in_range s gs k e h) h.applied
  where
    by_kind : (e : Expr) → InRange (header_in s).functions (head_of e) → CallsComplete (arity_of gs) e → length (parts_at k e) ≡ part_count (arity_in s) (parts_of (head_of e))
    by_kind (const i) r a = refl
    by_kind (var v) r a = refl
    by_kind (compute op p q) r a = refl
    by_kind (if_zero t z o) r a = refl
    by_kind (let_in p body) r a = refl
    by_kind (leaf_of p) r a = refl
    by_kind (node_of p q) r a = refl
    by_kind (case_of v p q) r a = refl
    by_kind (call v b xs) r a =
        let g = signature-of s gs b known r.1 in
        length_args (suc k) xs ∙ a.0 ∙ rw (g.there, arity_of) g.its_fields.arity

-- ---- pass one over an expression

-- nothing more follows
pub then_nothing : {A : Type 0} (r : Result A) → r ≡ and_then r (λ x. done x)
then_nothing (done x) = refl
then_nothing (refusal number position) = refl

module _ (gs : List Signature) where
  module _ (kind : Kind) where
    -- the last part, and a part in front of others
    pass_last : (i : ℕ) (sc : Scope) (r : ℕ) (p : Expr) → pass_over gs (entered (inside kind i sc) r p) ≡ pass_parts gs kind i sc (placed_at r p ∷ [])
    unfolding pass_parts
    pass_last i sc r p = then_nothing (pass_over gs (entered (inside kind i sc) r p))

    pass_more : (i : ℕ) (sc : Scope) (r : ℕ) (p : Expr) (xs : List Entry) (ps : List Placed) → pass_over gs xs ≡ pass_parts gs kind (suc i) sc ps
        → pass_over gs (entered (inside kind i sc) r p ++ xs) ≡ pass_parts gs kind i sc (placed_at r p ∷ ps)
    unfolding pass_parts
    pass_more i sc r p xs ps e =
        let first = entered (inside kind i sc) r p in
        pass_join gs first xs ∙ ap (λ q. and_then (pass_over gs first) (λ u. q)) e

    pass-two : (i : ℕ) (sc : Scope) (r : ℕ) (p q : Expr)
        → pass_over gs (entered (inside kind i sc) r p ++ entered (inside kind (suc i) sc) (r + size p) q) ≡ pass_parts gs kind i sc (placed_at r p ∷ placed_at (r + size p) q ∷ [])
    pass-two i sc r p q = pass_more i sc r p _ _ (pass_last (suc i) sc (r + size p) q)

    pass_args : (i : ℕ) (sc : Scope) (r : ℕ) (xs : Args) → pass_over gs (entered_args kind i sc r xs) ≡ pass_parts gs kind i sc (args_at r xs)
    unfolding entered_args pass_over pass_parts args_at
    pass_args i sc r no_args = refl
    pass_args i sc r (arg x xs) = pass_more i sc r x _ (args_at (r + size x) xs) (pass_args (suc i) sc (r + size x) xs)

  -- the expression's own record in front of them
  own : (x : Entry) {q r : Result (Unit {0})} → q ≡ r → and_then (at_entry gs x) (λ u. q) ≡ and_then (at_entry gs x) (λ u. r)
  own x e = ap (λ r. and_then (at_entry gs x) (λ u. r)) e

  -- its own record, then its parts one after the other
  pub pass-parts : (sc : Scope) (r : ℕ) (e : Expr)
      → pass_over gs (entered sc r e) ≡ and_then (at_entry gs (entry sc r (head_of e))) (λ u. pass_parts gs (head_of e) 0 sc (parts_at r e))
  unfolding pass_over entered pass_parts parts_at head_of
  pass-parts sc r (const i) = refl
  pass-parts sc r (var a) = refl
  pass-parts sc r (compute op p q) = own _ (pass-two (Compute op) 0 sc (suc r) p q)
  pass-parts sc r (if_zero t z o) =
      let others = placed_at (suc r + size t) z ∷ placed_at (suc r + size t + size z) o ∷ [] in
      own _ (pass_more IfZero 0 sc (suc r) t _ others (pass-two IfZero 1 sc (suc r + size t) z o))
  pass-parts sc r (let_in p body) = own _ (pass-two Let 0 sc (suc r) p body)
  pass-parts sc r (leaf_of p) = own _ (pass_last Leaf 0 sc (suc r) p)
  pass-parts sc r (node_of p q) = own _ (pass-two Node 0 sc (suc r) p q)
  pass-parts sc r (case_of a p q) = own _ (pass-two (Case a) 0 sc (suc r) p q)
  pass-parts sc r (call a b xs) = own _ (pass_args (Call a b) 0 sc (suc r) xs)

-- ---- a program that was read

-- what the rows read: all signatures, and as many nodes as they count
record RowsRead (s : List ℕ) (gs : List Signature) : Type 0 where
  known : Known s gs
  sum : sum_of_counts gs ≡ (header_in s).nodes

rows_read : (s : List ℕ) (program : Program) → read_program s ≡ done program → RowsRead s (signatures program)
unfolding read_program node_row prefix_row
rows_read s program e =
    let h = then_inv (header_row s) _ program e in
    let own : header_in s ≡ h.value = header_own s h.value h.first in
    let g = then_inv (function_row h.value s) _ program h.second in
    let k = then_inv (node_row h.value s) _ program g.second in
    let f = then_inv (prefix_row h.value g.value k.value) _ program k.second in
    let sum = (summed_inv h.value s g.value g.first).sum in
    let long = each_length _ h.value.nodes (suc h.value.functions) k.value k.first ∙ sym sum in
    let signed : signatures program ≡ g.value =
    ap signatures (sym (done_injective f.second)) ∙ (bodies_inv _ g.value k.value _ f.value long f.first).signed in
    subst (RowsRead s) (sym signed) (record { known = row_read s g.value (rw own g.first); sum = rw own sum })

-- no function has more parameters than the limit of any
few_parameters : (j : ℕ) → most_parameters j ≤ parameters_of_any
unfolding most_parameters
few_parameters zero = omega arith
few_parameters (suc j) = omega arith

-- the bodies stand one after the other
bodies_stand : (s : List ℕ) (gs : List Signature) (j k : ℕ) (fs : List Function) → length gs ≡ (header_in s).functions
    → each (function_in s) (length fs) j ≡ done (map signature_of fs) → RecordsAt s k (nodes fs) → LawfulFunctions gs j fs → Bodies s gs j k fs
unfolding nodes size
bodies_stand s gs j k [] many e h l = no_more
bodies_stand s gs j k (f ∷ fs) many e h l =
    let i = each_inv (function_in s) (length fs) j (map signature_of (f ∷ fs)) e in
    one_body {f = f}
    (i.here ∙ cc)
    (omega (arith, l.0.few_parameters, few_parameters j))
    (record { stands = stands_left (prefix f.body) (nodes fs) h; in_range = rw (← many) l.0.in_range; applied = l.0.applied })
    (bodies_stand s gs (suc j) (k + length (prefix f.body)) fs many (i.later ∙ cc) (stands_right (prefix f.body) (nodes fs) h) l.1)

pub record ProgramHeld (s : List ℕ) (program : Program) : Type 0 where
  pub known : Known s (signatures program)
  pub held : Bodies s (signatures program) 0 (suc (length program.functions)) program.functions
  pub functions : length program.functions ≡ (header_in s).functions
  pub nodes : sum_of_counts (signatures program) ≡ (header_in s).nodes
  pub few_nodes : (header_in s).nodes ≤ most_nodes

pub program_held : (s : List ℕ) (program : Program) → Bytes s → read_program s ≡ done program → ProgramHeld s program
program_held s program bs e =
    let r = rows_read s program e in
    let l = (flattens s program bs e).lawful in
    let many : length (signatures program) ≡ (header_in s).functions = each_length _ (header_in s).functions 0 (signatures program) r.known in
    let functions : length program.functions ≡ (header_in s).functions = sym (length-map program.functions signature_of) ∙ many in
    record {
      known = r.known;
      held = bodies_stand s (signatures program) 0 _ program.functions many (rw functions r.known) (nodes_stand s program bs e) l.functions;
      functions = functions;
      nodes = r.sum;
      few_nodes = rw (← r.sum) l.few_nodes;
    }
