-- The rows of an expression in a table: its own row first, then those of its parts, one after the
-- other; and the bodies of a program in its table.
use Prim.Native.Nat.{ℕ, zero, suc, ◌+◌, ◌*◌, ◌≤◌, ◌<◌}
use mathlib.Core.List.{List, [], ◌∷◌, ◌++◌, map}
use mathlib.Core.Option.{some, some-injective, none-ne-some}
use mathlib.Core.Path.{◌≡◌, refl, sym, ap, subst, ◌∙◌}
use native.Mathlib.Nat.{add-zero, add_assoc}
use native.Mathlib.Omega.{arith}
use lib.Dec.{lit<}
use lib.ListN.{length, get_or, take, length-append, get_or-append}
use lib.Seq.{get_or-append-add}
use Rattle.formats.specs.Arithmetic.{Op}
use Rattle.formats.specs.Records.{Kind, Compute, IfZero, Let, Leaf, Node, Case, Call, nth}
use Rattle.formats.specs.Programs.{Expr, const, var, compute, if_zero, let_in, leaf_of, node_of, case_of, call, Args, no_args, arg, prefix, prefixes, size}
use Rattle.formats.specs.Programs.{arity_of, sum_of_counts, Function, signature_of, Program, signatures, most_functions, most_nodes}
use Rattle.formats.specs.Inner.Limits.{most_records}
use Rattle.formats.proofs.Written.{wrote}
use Rattle.meaning.specs.OpenCalls.{first_record}
use Rattle.walks.specs.Inner.Standing.{head_of}
use Rattle.stepwise.specs.Inner.Rows.{Location, row_words, action_of, operand_of, tree_of, more_of, row_of, part_location, rows_of, rows_of_args, after_args, body_location, rows_of_all, rows_in, tabled}
use Rattle.stepwise.specs.Inner.Steps.{action_at, operand_at, tree_at, more_at, role_at, parent_at, slot_at, after_at}

-- ---- words in a table

-- vs stands in T from word p on
pub record Shows (T : List ℕ) (p : ℕ) (vs : List ℕ) : Type 0 where
  pub there : (i : ℕ) → i < length vs → get_or T (p + i) 0 ≡ get_or vs i 0

-- the offset replaced by an equal one
shows_offset : {T vs : List ℕ} {p q : ℕ} → p ≡ q → Shows T p vs → Shows T q vs
shows_offset {T} {vs} e h = subst (λ (k : ℕ). Shows T k vs) e h

-- joined words stand one after the other
shows_left : {T : List ℕ} {p : ℕ} (us vs : List ℕ) → Shows T p (us ++ vs) → Shows T p us
shows_left us vs h = record { there = λ i below. h.there i (omega (arith, length-append us vs)) ∙ get_or-append us vs 0 i below }

shows_right : {T : List ℕ} {p : ℕ} (us vs : List ℕ) → Shows T p (us ++ vs) → Shows T (p + length us) vs
shows_right {T} {p} us vs h =
    record {
      there = λ i below.
          ap (λ (k : ℕ). get_or T k 0) (add_assoc p (length us) i)
          ∙ h.there (length us + i) (omega (arith, length-append us vs))
          ∙ get_or-append-add us vs i 0;
    }

-- ---- sizes

-- the records of an expression are its own ..
pub size_const : (i : ℕ) → size (const i) ≡ 1
unfolding size prefix
size_const i = refl

pub size_var : (a : ℕ) → size (var a) ≡ 1
unfolding size prefix
size_var a = refl

-- .. and those of its parts ..
module _ (x y : Expr) where
  size_two : suc (length (prefix x ++ prefix y)) ≡ suc (size x + size y)
  unfolding size
  size_two = ap suc (length-append (prefix x) (prefix y))

  pub size_compute : (op : Op) → size (compute op x y) ≡ suc (size x + size y)
  unfolding size prefix
  size_compute op = size_two

  pub size_let : size (let_in x y) ≡ suc (size x + size y)
  unfolding size prefix
  size_let = size_two

  pub size_node : size (node_of x y) ≡ suc (size x + size y)
  unfolding size prefix
  size_node = size_two

  pub size_case : (a : ℕ) → size (case_of a x y) ≡ suc (size x + size y)
  unfolding size prefix
  size_case a = size_two

pub size_if_zero : (t z o : Expr) → size (if_zero t z o) ≡ suc (size t + (size z + size o))
unfolding size prefix
size_if_zero t z o = ap suc (length-append (prefix t) (prefix z ++ prefix o) ∙ ap (λ (n : ℕ). length (prefix t) + n) (length-append (prefix z) (prefix o)))

pub size_leaf : (x : Expr) → size (leaf_of x) ≡ suc (size x)
unfolding size prefix
size_leaf x = refl

-- .. or those of its arguments
unfoldable pub size_args : Args → ℕ
size_args xs = length (prefixes xs)

pub size_call : (a b : ℕ) (xs : Args) → size (call a b xs) ≡ suc (size_args xs)
unfolding size prefix size_args
size_call a b xs = refl

pub size_none : size_args no_args ≡ 0
unfolding size_args prefixes
size_none = refl

pub size_arg : (x : Expr) (xs : Args) → size_args (arg x xs) ≡ size x + size_args xs
unfolding size size_args prefixes
size_arg x xs = length-append (prefix x) (prefixes xs)

-- ---- how many words

-- words for so many records
record Long (vs : List ℕ) (n : ℕ) : Type 0 where
  long : length vs ≡ row_words * n

-- joined words
long_joined : {us vs : List ℕ} {n m : ℕ} → Long us n → Long vs m → Long (us ++ vs) (n + m)
long_joined {us} {vs} h g = record { long = omega (arith, length-append us vs, h.long, g.long) }

-- a row in front of others
long_own : {a b c d e f g h n m : ℕ} {vs : List ℕ} → m ≡ suc n → Long vs n → Long (a ∷ b ∷ c ∷ d ∷ e ∷ f ∷ g ∷ h ∷ vs) m
long_own same more = record { long = omega (arith, same, more.long) }

-- no words
long_none : Long [] 0
long_none = record { long = refl }

-- the number of records replaced by an equal one
long_as : {vs : List ℕ} {n m : ℕ} → n ≡ m → Long vs n → Long vs m
long_as {vs} e h = subst (Long vs) e h

module _ (entry arity : ℕ → ℕ) where
  -- a row for each record
  mutual
    unfolding rows_of rows_of_args

    rows_long : (p : Location) (r : ℕ) (e : Expr) → Long (rows_of entry arity p r e) (size e)
    rows_long p r (const i) = long_own (size_const i) long_none
    rows_long p r (var a) = long_own (size_var a) long_none
    rows_long p r (compute op x y) = long_own (size_compute x y op) (long_joined (rows_long _ _ x) (rows_long _ _ y))
    rows_long p r (if_zero t z o) = long_own (size_if_zero t z o) (long_joined (rows_long _ _ t) (long_joined (rows_long _ _ z) (rows_long _ _ o)))
    rows_long p r (let_in x y) = long_own (size_let x y) (long_joined (rows_long _ _ x) (rows_long _ _ y))
    rows_long p r (leaf_of x) = long_own (size_leaf x) (rows_long _ _ x)
    rows_long p r (node_of x y) = long_own (size_node x y) (long_joined (rows_long _ _ x) (rows_long _ _ y))
    rows_long p r (case_of a x y) = long_own (size_case x y a) (long_joined (rows_long _ _ x) (rows_long _ _ y))
    rows_long p r (call a b xs) = long_own (size_call a b xs) (rows_long_args _ _ _ _ _ xs)

    rows_long_args : (p : Location) (kind : Kind) (r i k : ℕ) (xs : Args) → Long (rows_of_args entry arity p kind r i k xs) (size_args xs)
    rows_long_args p kind r i k no_args = long_as (sym size_none) long_none
    rows_long_args p kind r i k (arg x xs) = long_as (sym (size_arg x xs)) (long_joined (rows_long _ _ x) (rows_long_args _ _ _ _ _ xs))

  rows_long_all : (r : ℕ) (fs : List Function) → Long (rows_of_all entry arity r fs) (sum_of_counts (map signature_of fs))
  unfolding rows_of_all sum_of_counts signature_of
  rows_long_all r [] = long_none
  rows_long_all r (f ∷ fs) = long_joined (rows_long _ _ f.body) (rows_long_all (r + size f.body) fs)

  -- the same, as equations
  pub length_rows : (p : Location) (r : ℕ) (e : Expr) → length (rows_of entry arity p r e) ≡ row_words * size e
  length_rows p r e = (rows_long p r e).long

  pub length_rows_args : (p : Location) (kind : Kind) (r i k : ℕ) (xs : Args) → length (rows_of_args entry arity p kind r i k xs) ≡ row_words * size_args xs
  length_rows_args p kind r i k xs = (rows_long_args p kind r i k xs).long

  pub length_rows_all : (r : ℕ) (fs : List Function) → length (rows_of_all entry arity r fs) ≡ row_words * sum_of_counts (map signature_of fs)
  length_rows_all r fs = (rows_long_all r fs).long

  -- the record after arguments
  pub after-args : (k : ℕ) (xs : Args) → after_args entry arity k xs ≡ k + size_args xs
  unfolding after_args
  after-args k no_args = rw (size_none, add-zero)
  after-args k (arg x xs) = after-args (k + size x) xs ∙ rw (size_arg x xs, add_assoc)

  -- ---- an expression's own row

  -- it is the first of the expression's rows, and says where these end
  record Fronted (p : Location) (r : ℕ) (e : Expr) : Type 0 where
    rest : List ℕ
    both : rows_of entry arity p r e ≡ row_of entry arity p (r + size e) (head_of e) ++ rest

  -- the same, with the record after the expression given as `after`
  own_front : (p : Location) (r : ℕ) (e : Expr) (after : ℕ) (rest : List ℕ) → after ≡ r + size e
      → rows_of entry arity p r e ≡ row_of entry arity p after (head_of e) ++ rest → Fronted p r e
  own_front p r e after rest same both =
      record { rest = rest; both = both ∙ ap (λ (k : ℕ). row_of entry arity p k (head_of e) ++ rest) same }

  fronted : (p : Location) (r : ℕ) (e : Expr) → Fronted p r e
  unfolding rows_of head_of
  fronted p r (const i) = own_front p r (const i) _ [] (omega (arith, size_const i)) refl
  fronted p r (var a) = own_front p r (var a) _ [] (omega (arith, size_var a)) refl
  fronted p r (compute op x y) = own_front p r (compute op x y) _ _ (omega (arith, size_compute x y op)) refl
  fronted p r (if_zero t z o) = own_front p r (if_zero t z o) _ _ (omega (arith, size_if_zero t z o)) refl
  fronted p r (let_in x y) = own_front p r (let_in x y) _ _ (omega (arith, size_let x y)) refl
  fronted p r (leaf_of x) = own_front p r (leaf_of x) _ _ (omega (arith, size_leaf x)) refl
  fronted p r (node_of x y) = own_front p r (node_of x y) _ _ (omega (arith, size_node x y)) refl
  fronted p r (case_of a x y) = own_front p r (case_of a x y) _ _ (omega (arith, size_case x y a)) refl
  fronted p r (call a b xs) = own_front p r (call a b xs) _ _ (omega (arith, size_call a b xs, after-args (suc r) xs)) refl

  module _ (T : List ℕ) where
    -- the rows of e stand in T
    pub record Stands (p : Location) (r : ℕ) (e : Expr) : Type 0 where
      pub rows : Shows T (row_words * r) (rows_of entry arity p r e)

    -- .. and those of arguments, from part i of the record r on, the first at record k
    pub record StandArgs (p : Location) (kind : Kind) (r i k : ℕ) (xs : Args) : Type 0 where
      pub rows : Shows T (row_words * k) (rows_of_args entry arity p kind r i k xs)

    -- a record's row, field by field
    pub record HasRow (p : Location) (r end : ℕ) (k : Kind) : Type 0 where
      pub action : action_at T r ≡ action_of k
      pub operand : operand_at T r ≡ operand_of entry arity p k
      pub tree : tree_at T r ≡ tree_of entry arity p k
      pub more : more_at T r ≡ more_of entry arity k
      pub role : role_at T r ≡ p.role
      pub parent : parent_at T r ≡ p.parent
      pub slot : slot_at T r ≡ p.slot
      pub after : after_at T r ≡ end

    -- a row that stands has its fields
    row_fields : (p : Location) (r end : ℕ) (k : Kind) → Shows T (row_words * r) (row_of entry arity p end k) → HasRow p r end k
    row_fields p r end k h =
        record {
          action = h.there 0 (lit< tt);
          operand = h.there 1 (lit< tt);
          tree = h.there 2 (lit< tt);
          more = h.there 3 (lit< tt);
          role = h.there 4 (lit< tt);
          parent = h.there 5 (lit< tt);
          slot = h.there 6 (lit< tt);
          after = h.there 7 (lit< tt);
        }

    -- an expression's own row stands
    pub own_row : (p : Location) (r : ℕ) (e : Expr) → Stands p r e → HasRow p r (r + size e) (head_of e)
    own_row p r e h =
        let f = fronted p r e in
        row_fields p r (r + size e) (head_of e)
        (shows_left (row_of entry arity p (r + size e) (head_of e)) f.rest (subst (Shows T (row_words * r)) f.both h.rows))

    -- ---- its parts

    -- what stands after a row
    after_own : {a b c d e f g h : ℕ} {vs : List ℕ} (r : ℕ) → Shows T (row_words * r) (a ∷ b ∷ c ∷ d ∷ e ∷ f ∷ g ∷ h ∷ vs) → Shows T (row_words * suc r) vs
    after_own {a} {b} {c} {d} {e} {f} {g} {h} {vs} r s =
        shows_offset (omega arith) (shows_right (a ∷ b ∷ c ∷ d ∷ e ∷ f ∷ g ∷ h ∷ []) vs s)

    -- an expression in front of others
    part_first : (p : Location) (r : ℕ) (e : Expr) (vs : List ℕ) → Shows T (row_words * r) (rows_of entry arity p r e ++ vs)
        → Stands p r e × Shows T (row_words * (r + size e)) vs
    part_first p r e vs s =
        let offset : row_words * r + length (rows_of entry arity p r e) ≡ row_words * (r + size e) = omega (arith, length_rows p r e) in
        (record { rows = shows_left (rows_of entry arity p r e) vs s }, shows_offset offset (shows_right (rows_of entry arity p r e) vs s))

    -- two expressions
    two_parts : (p q : Location) (r : ℕ) (x y : Expr) → Shows T (row_words * r) (rows_of entry arity p r x ++ rows_of entry arity q (r + size x) y)
        → Stands p r x × Stands q (r + size x) y
    two_parts p q r x y s =
        let both = part_first p r x (rows_of entry arity q (r + size x) y) s in
        (both.0, record { rows = both.1 })

    -- the parts of each kind
    module _ {p : Location} {r : ℕ} where
      pub compute_parts : {op : Op} {x y : Expr} → Stands p r (compute op x y)
          → Stands (part_location entry arity p (Compute op) r 0) (suc r) x × Stands (part_location entry arity p (Compute op) r 1) (suc r + size x) y
      unfolding rows_of
      compute_parts {op} {x} {y} h = two_parts _ _ (suc r) x y (after_own r h.rows)

      pub if_zero_parts : {t z o : Expr} → Stands p r (if_zero t z o)
          → Stands (part_location entry arity p IfZero r 0) (suc r) t
          × (Stands (part_location entry arity p IfZero r 1) (suc r + size t) z × Stands (part_location entry arity p IfZero r 2) (suc r + size t + size z) o)
      unfolding rows_of
      if_zero_parts {t} {z} {o} h =
          let first = part_first _ (suc r) t _ (after_own r h.rows) in
          (first.0, two_parts _ _ (suc r + size t) z o first.1)

      pub let_parts : {x body : Expr} → Stands p r (let_in x body)
          → Stands (part_location entry arity p Let r 0) (suc r) x × Stands (part_location entry arity p Let r 1) (suc r + size x) body
      unfolding rows_of
      let_parts {x} {body} h = two_parts _ _ (suc r) x body (after_own r h.rows)

      pub leaf_part : {x : Expr} → Stands p r (leaf_of x) → Stands (part_location entry arity p Leaf r 0) (suc r) x
      unfolding rows_of
      leaf_part h = record { rows = after_own r h.rows }

      pub node_parts : {x y : Expr} → Stands p r (node_of x y)
          → Stands (part_location entry arity p Node r 0) (suc r) x × Stands (part_location entry arity p Node r 1) (suc r + size x) y
      unfolding rows_of
      node_parts {x} {y} h = two_parts _ _ (suc r) x y (after_own r h.rows)

      pub case_parts : {a : ℕ} {x y : Expr} → Stands p r (case_of a x y)
          → Stands (part_location entry arity p (Case a) r 0) (suc r) x × Stands (part_location entry arity p (Case a) r 1) (suc r + size x) y
      unfolding rows_of
      case_parts {a} {x} {y} h = two_parts _ _ (suc r) x y (after_own r h.rows)

      pub call_args : {a b : ℕ} {xs : Args} → Stands p r (call a b xs) → StandArgs p (Call a b) r 0 (suc r) xs
      unfolding rows_of
      call_args h = record { rows = after_own r h.rows }

      pub args_first : {kind : Kind} {i k : ℕ} {x : Expr} {xs : Args} → StandArgs p kind r i k (arg x xs)
          → Stands (part_location entry arity p kind r i) k x × StandArgs p kind r (suc i) (k + size x) xs
      unfolding rows_of_args
      args_first {kind} {i} {k} {x} {xs} h =
          let both = part_first _ k x (rows_of_args entry arity p kind r (suc i) (k + size x) xs) h.rows in
          (both.0, record { rows = both.1 })

    -- ---- bodies

    -- the body of function b among functions whose rows stand
    body_stands : (r : ℕ) (fs : List Function) (b : ℕ) {f : Function} → nth fs b ≡ some f → Shows T (row_words * r) (rows_of_all entry arity r fs)
        → Stands (body_location entry arity f) (r + sum_of_counts (take b (map signature_of fs))) f.body
    unfolding nth rows_of_all sum_of_counts signature_of
    body_stands r [] b {f} e s = absurd (none-ne-some f e)
    body_stands r (g ∷ fs) zero {f} e s =
        let here = (part_first (body_location entry arity g) r g.body (rows_of_all entry arity (r + size g.body) fs) s).0 in
        rw (← some-injective g f e, add-zero) here
    body_stands r (g ∷ fs) (suc b) e s =
        let later = (part_first (body_location entry arity g) r g.body (rows_of_all entry arity (r + size g.body) fs) s).1 in
        rw (← add_assoc) (body_stands (r + size g.body) fs b e later)

-- ---- of a program

-- a function's first record
first-record : (program : Program) (b : ℕ) → first_record program b ≡ suc (length program.functions) + sum_of_counts (take b (signatures program))
unfolding first_record
first-record program b = refl

-- the first b functions, and function b, have no more nodes than all
body_counted : (fs : List Function) (b : ℕ) (f : Function) → nth fs b ≡ some f → sum_of_counts (take b (map signature_of fs)) + size f.body ≤ sum_of_counts (map signature_of fs)
unfolding nth sum_of_counts signature_of
body_counted [] b f e = absurd (none-ne-some f e)
body_counted (g ∷ fs) zero f e = rw (some-injective g f e) (omega arith)
body_counted (g ∷ fs) (suc b) f e = let later = body_counted fs b f e in omega arith

-- so a body ends within the program's records
pub bodies_fit : (program : Program) (b : ℕ) (f : Function) → nth program.functions b ≡ some f
    → first_record program b + size f.body ≤ suc (length program.functions) + sum_of_counts (signatures program)
bodies_fit program b f e = omega (arith, first-record program b, body_counted program.functions b f e)

-- the rows of a program stand in its table
rows_stand : (program : Program) (table : List ℕ) → row_words * most_records ≤ length table → length program.functions ≤ most_functions → sum_of_counts (signatures program) ≤ most_nodes
    → Shows (tabled table program) (row_words * suc (length program.functions)) (rows_in program)
unfolding tabled
rows_stand program table room functions nodes =
    let p : ℕ = row_words * suc (length program.functions) in
    let long = length_rows_all (first_record program) (arity_of (signatures program)) (suc (length program.functions)) program.functions in
    let fits : p + length (rows_in program) ≤ length table = omega arith in
    record { there = λ i below. (wrote table p (rows_in program)).there i fits below }

-- the body of each function stands in the table
pub bodies_stand : (program : Program) (table : List ℕ)
    → row_words * most_records ≤ length table → length program.functions ≤ most_functions → sum_of_counts (signatures program) ≤ most_nodes
    → (b : ℕ) (f : Function) → nth program.functions b ≡ some f
    → Stands (first_record program) (arity_of (signatures program)) (tabled table program)
    (body_location (first_record program) (arity_of (signatures program)) f) (first_record program b) f.body
bodies_stand program table room functions nodes b f e =
    rw (first-record program b)
    (body_stands (first_record program) (arity_of (signatures program)) (tabled table program) _ program.functions b e (rows_stand program table room functions nodes))
