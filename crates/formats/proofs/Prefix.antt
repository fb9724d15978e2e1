-- Laws of prefix form. A record in front of expressions is built with its parts where there are
-- enough of them (`Built` says all that is then known), and else there is none. So a walk from the
-- last record to the first needs only to count the expressions that stand.
use Prim.Native.Nat.{ℕ, zero, suc, ◌+◌, ◌-◌, ◌≤◌, ◌<◌}
use mathlib.Core.List.{List, [], ◌∷◌, ◌++◌, append_assoc}
use mathlib.Core.Logic.{◌≢◌}
use mathlib.Core.Option.{Option, none, some, some-injective, none-ne-some}
use mathlib.Core.Path.{◌≡◌, refl, sym, ap, subst, ◌∙◌}
use native.Mathlib.Decide.{dec_le}
use native.Mathlib.Nat.{le_of_suc-le-suc}
use native.Mathlib.Omega.{arith}
use lib.ListN.{length}
use Rattle.formats.specs.Refusals.{prefix_form}
use Rattle.formats.specs.Results.{done, refusal, verdict}
use Rattle.formats.specs.Records.{Kind, Const, Var, Compute, IfZero, Let, Leaf, Node, Case, Call, parts_of, part_count}
use Rattle.formats.specs.Programs.{Expr, const, var, compute, if_zero, let_in, leaf_of, node_of, case_of, call, Args, no_args, arg}
use Rattle.formats.specs.Programs.{prefix, prefixes, count_args, CallsComplete, ArgsComplete, Every}
use Rattle.formats.specs.Rows.{pop, pop_args, build, exprs_of, exactly_one}

-- arguments in front of expressions
unfoldable in_front : Args → List Expr → List Expr
in_front no_args es = es
in_front (arg x xs) es = x ∷ in_front xs es

-- the records of expressions, one after the other
unfoldable pub records_of_all : List Expr → List Kind
records_of_all [] = []
records_of_all (e ∷ es) = prefix e ++ records_of_all es

-- the records of the arguments come first
records_in_front : (xs : Args) (es : List Expr) → records_of_all (in_front xs es) ≡ prefixes xs ++ records_of_all es
unfolding in_front records_of_all prefixes
records_in_front no_args es = refl
records_in_front (arg x xs) es = ap (λ (l : List Kind). prefix x ++ l) (records_in_front xs es) ∙ sym (append_assoc (prefix x) (prefixes xs) (records_of_all es))

-- the list is longer by the number of arguments
length_in_front : (xs : Args) (es : List Expr) → length (in_front xs es) ≡ count_args xs + length es
unfolding in_front count_args
length_in_front no_args es = omega arith
length_in_front (arg x xs) es = let h = length_in_front xs es in omega arith

-- where each Call has its arguments, so it is in the arguments and in what follows them
applied_in_front : (arity : ℕ → ℕ) (xs : Args) (es : List Expr) → Every (CallsComplete arity) (in_front xs es) → ArgsComplete arity xs × Every (CallsComplete arity) es
unfolding in_front
applied_in_front arity no_args es a = (tt, a)
applied_in_front arity (arg x xs) es a = let b = applied_in_front arity xs es a.1 in ((a.0, b.0), b.1)

-- the first n expressions, taken as arguments
record Popped (n : ℕ) (es : List Expr) : Type 0 where
  args : Args
  rest : List Expr
  is : (next : Args → List Expr → Option (List Expr)) → pop_args n es next ≡ next args rest
  counted : count_args args ≡ n
  split : es ≡ in_front args rest

-- they can be taken where there are n
popped : (n : ℕ) (es : List Expr) → n ≤ length es → Popped n es
unfolding pop_args count_args in_front
popped zero es h = record { args = no_args; rest = es; is = λ next. refl; counted = refl; split = refl }
popped (suc n) [] h = absurd (omega arith)
popped (suc n) (x ∷ es) h =
    let p = popped n es (le_of_suc-le-suc h) in
    record {
      args = arg x p.args;
      rest = p.rest;
      is = λ next. p.is (λ xs after. next (arg x xs) after);
      counted = ap suc p.counted;
      split = ap (λ (l : List Expr). x ∷ l) p.split;
    }

-- what is known of a record in front of expressions that are enough for its parts
record Built (arity : ℕ → ℕ) (kind : Kind) (es : List Expr) : Type 0 where
  whole : Expr
  rest : List Expr
  is : build arity kind es ≡ some (whole ∷ rest)
  taken : length es ≡ part_count arity (parts_of kind) + length rest
  joined : records_of_all (whole ∷ rest) ≡ kind ∷ records_of_all es
  applied : Every (CallsComplete arity) es → Every (CallsComplete arity) (whole ∷ rest)

-- a record with two parts
two_parts :
    (arity : ℕ → ℕ) (kind : Kind) (f : Expr → Expr → Expr)
    → ((es : List Expr) → build arity kind es ≡ pop es (λ p es'. pop es' (λ q rest. some (f p q ∷ rest))))
    → part_count arity (parts_of kind) ≡ 2
    → ((p q : Expr) → prefix (f p q) ≡ kind ∷ (prefix p ++ prefix q))
    → ((p q : Expr) → CallsComplete arity p → CallsComplete arity q → CallsComplete arity (f p q))
    → (es : List Expr)
    → 2 ≤ length es
    → Built arity kind es
unfolding records_of_all
two_parts arity kind f built two own applied [] h = absurd (omega arith)
two_parts arity kind f built two own applied (p ∷ []) h = absurd (omega arith)
two_parts arity kind f built two own applied (p ∷ (q ∷ rest)) h = record {
  whole = f p q;
  rest = rest;
  is = built _;
  taken = omega arith;
  joined = rw own (ap (λ (l : List Kind). kind ∷ l) (append_assoc (prefix p) (prefix q) (records_of_all rest)));
  applied = λ a. (applied p q a.0 a.1.0, a.1.1);
}

-- a record in front of enough expressions is built
built : (arity : ℕ → ℕ) (kind : Kind) (es : List Expr) → part_count arity (parts_of kind) ≤ length es → Built arity kind es
unfolding build parts_of part_count prefix records_of_all
built arity (Const i) es h = record { whole = const i; rest = es; is = refl; taken = omega arith; joined = refl; applied = λ a. (tt, a) }
built arity (Var v) es h = record { whole = var v; rest = es; is = refl; taken = omega arith; joined = refl; applied = λ a. (tt, a) }
built arity (Compute op) es h = two_parts arity (Compute op) (compute op) (λ es. refl) refl (λ p q. refl) (λ p q a b. (a, b)) es h
built arity IfZero [] h = absurd (omega arith)
built arity IfZero (t ∷ []) h = absurd (omega arith)
built arity IfZero (t ∷ (z ∷ [])) h = absurd (omega arith)
built arity IfZero (t ∷ (z ∷ (o ∷ rest))) h = record {
  whole = if_zero t z o;
  rest = rest;
  is = refl;
  taken = omega arith;
  joined = simp append_assoc;
  applied = λ a. ((a.0, (a.1.0, a.1.1.0)), a.1.1.1);
}
built arity Let es h = two_parts arity Let let_in (λ es. refl) refl (λ p q. refl) (λ p q a b. (a, b)) es h
built arity Leaf [] h = absurd (omega arith)
built arity Leaf (p ∷ rest) h = record { whole = leaf_of p; rest = rest; is = refl; taken = omega arith; joined = refl; applied = λ a. a }
built arity Node es h = two_parts arity Node node_of (λ es. refl) refl (λ p q. refl) (λ p q a b. (a, b)) es h
built arity (Case v) es h = two_parts arity (Case v) (case_of v) (λ es. refl) refl (λ p q. refl) (λ p q a b. (a, b)) es h
built arity (Call v b) es h =
    let p = popped (arity b) es h in
    record {
      whole = call v b p.args;
      rest = p.rest;
      is = p.is _;
      taken = ap length p.split ∙ length_in_front p.args p.rest ∙ ap (λ (n : ℕ). n + length p.rest) p.counted;
      joined = ap (λ (l : List Kind). Call v b ∷ l) (sym (ap records_of_all p.split ∙ records_in_front p.args p.rest));
      applied = λ a. let c = applied_in_front arity p.args p.rest (rw p.split at a) in ((p.counted, c.0), c.1);
    }

-- where there are fewer expressions than arguments, there is none
args_short : (n : ℕ) (es : List Expr) (next : Args → List Expr → Option (List Expr)) → length es < n → pop_args n es next ≡ none
unfolding pop_args
args_short zero es next h = absurd (omega arith)
args_short (suc n) [] next h = refl
args_short (suc n) (x ∷ es) next h = args_short n es (λ xs after. next (arg x xs) after) (le_of_suc-le-suc h)

-- nor where a part of two is missing
two_short : (es : List Expr) (f : Expr → Expr → Expr) → length es < 2 → pop es (λ p es'. pop es' (λ q rest. some (f p q ∷ rest))) ≡ none
two_short [] f h = refl
two_short (p ∷ []) f h = refl
two_short (p ∷ (q ∷ rest)) f h = absurd (omega arith)

-- nor in front of too few for the parts of any kind
build_short : (arity : ℕ → ℕ) (kind : Kind) (es : List Expr) → length es < part_count arity (parts_of kind) → build arity kind es ≡ none
unfolding build parts_of part_count
build_short arity (Const i) es h = absurd (omega arith)
build_short arity (Var v) es h = absurd (omega arith)
build_short arity (Compute op) es h = two_short es (compute op) h
build_short arity IfZero [] h = refl
build_short arity IfZero (t ∷ []) h = refl
build_short arity IfZero (t ∷ (z ∷ [])) h = refl
build_short arity IfZero (t ∷ (z ∷ (o ∷ rest))) h = absurd (omega arith)
build_short arity Let es h = two_short es let_in h
build_short arity Leaf [] h = refl
build_short arity Leaf (p ∷ rest) h = absurd (omega arith)
build_short arity Node es h = two_short es node_of h
build_short arity (Case v) es h = two_short es (case_of v) h
build_short arity (Call v b) es h = args_short (arity b) es _ h

-- ---- the walk from the last record to the first

module _ (arity : ℕ → ℕ) where
  -- a record in front of expressions that stand
  exprs_cons : (kind : Kind) (ks : List Kind) (es : List Expr) → exprs_of arity ks ≡ some es → exprs_of arity (kind ∷ ks) ≡ build arity kind es
  unfolding exprs_of
  exprs_cons kind ks es e = rw (e, exprs_of)

  -- n expressions stand
  pub record Height (ks : List Kind) (n : ℕ) : Type 0 where
    pub exprs : List Expr
    pub found : exprs_of arity ks ≡ some exprs
    pub height : length exprs ≡ n

  -- too few for the parts of the record in front: none stand
  pub height_short : (kind : Kind) (ks : List Kind) (es : List Expr) → exprs_of arity ks ≡ some es → length es < part_count arity (parts_of kind)
      → exprs_of arity (kind ∷ ks) ≡ none
  height_short kind ks es e h = exprs_cons kind ks es e ∙ build_short arity kind es h

  -- enough: it takes its parts and is one more
  pub height_step : (kind : Kind) (ks : List Kind) (es : List Expr) → exprs_of arity ks ≡ some es → part_count arity (parts_of kind) ≤ length es
      → Height (kind ∷ ks) (suc (length es - part_count arity (parts_of kind)))
  height_step kind ks es e h =
      let b = built arity kind es h in
      let taken : length es ≡ part_count arity (parts_of kind) + length b.rest = b.taken in
      record { exprs = b.whole ∷ b.rest; found = exprs_cons kind ks es e ∙ b.is; height = omega arith }

  -- where none stand, none do with more records in front
  pub none_stays : (ms ks : List Kind) → exprs_of arity ks ≡ none → exprs_of arity (ms ++ ks) ≡ none
  unfolding exprs_of
  none_stays [] ks e = e
  none_stays (m ∷ ms) ks e = rw (none_stays ms ks e, exprs_of)

  -- what a function's check says, by how many stand in the end
  pub one_of : (ks : List Kind) (es : List Expr) (r : ℕ) → exprs_of arity ks ≡ some es → length es ≡ 1 → verdict (exactly_one r (exprs_of arity ks)) ≡ done tt
  unfolding exactly_one
  one_of ks es r e h = ap (λ o. verdict (exactly_one r o)) e ∙ single es h
    where
      single : (l : List Expr) → length l ≡ 1 → verdict (exactly_one r (some l)) ≡ done tt
      single [] n = absurd (omega arith)
      single (x ∷ []) n = refl
      single (x ∷ (y ∷ l)) n = absurd (omega arith)

  pub not_one_of : (ks : List Kind) (es : List Expr) (r : ℕ) → exprs_of arity ks ≡ some es → length es ≢ 1
      → verdict (exactly_one r (exprs_of arity ks)) ≡ refusal prefix_form r
  unfolding exactly_one
  not_one_of ks es r e h = ap (λ o. verdict (exactly_one r o)) e ∙ several es h
    where
      several : (l : List Expr) → length l ≢ 1 → verdict (exactly_one r (some l)) ≡ refusal prefix_form r
      several [] n = refl
      several (x ∷ []) n = absurd (n refl)
      several (x ∷ (y ∷ l)) n = refl

  pub none_of : (ks : List Kind) (r : ℕ) → exprs_of arity ks ≡ none → verdict (exactly_one r (exprs_of arity ks)) ≡ refusal prefix_form r
  unfolding exactly_one
  none_of ks r e = ap (λ o. verdict (exactly_one r o)) e

-- ---- expressions and their records

-- arguments are popped as they stand in front
args_popped : (xs : Args) (es : List Expr) (next : Args → List Expr → Option (List Expr)) → pop_args (count_args xs) (in_front xs es) next ≡ next xs es
unfolding pop_args count_args in_front
args_popped no_args es next = refl
args_popped (arg x xs) es next = args_popped xs es (λ ys after. next (arg x ys) after)

-- the records of an expression in front of records give it in front of their expressions
mutual
  unfolding prefix prefixes build in_front

  pub exprs_prefix : (e : Expr) (arity : ℕ → ℕ) (ks : List Kind) (es : List Expr) → CallsComplete arity e → exprs_of arity ks ≡ some es
      → exprs_of arity (prefix e ++ ks) ≡ some (e ∷ es)
  exprs_prefix (const i) arity ks es a h = exprs_cons arity (Const i) ks es h
  exprs_prefix (var v) arity ks es a h = exprs_cons arity (Var v) ks es h
  exprs_prefix (compute op p q) arity ks es a h =
      exprs_cons arity (Compute op) _ (p ∷ q ∷ es) (rw append_assoc (exprs_prefix p arity (prefix q ++ ks) (q ∷ es) a.0 (exprs_prefix q arity ks es a.1 h)))
  exprs_prefix (if_zero t z o) arity ks es a h =
      let last = exprs_prefix o arity ks es a.1.1 h in
      let second = exprs_prefix z arity (prefix o ++ ks) (o ∷ es) a.1.0 last in
      exprs_cons arity IfZero _ (t ∷ z ∷ o ∷ es) (simp append_assoc (exprs_prefix t arity (prefix z ++ (prefix o ++ ks)) (z ∷ o ∷ es) a.0 second))
  exprs_prefix (let_in p q) arity ks es a h =
      exprs_cons arity Let _ (p ∷ q ∷ es) (rw append_assoc (exprs_prefix p arity (prefix q ++ ks) (q ∷ es) a.0 (exprs_prefix q arity ks es a.1 h)))
  exprs_prefix (leaf_of p) arity ks es a h = exprs_cons arity Leaf _ (p ∷ es) (exprs_prefix p arity ks es a h)
  exprs_prefix (node_of p q) arity ks es a h =
      exprs_cons arity Node _ (p ∷ q ∷ es) (rw append_assoc (exprs_prefix p arity (prefix q ++ ks) (q ∷ es) a.0 (exprs_prefix q arity ks es a.1 h)))
  exprs_prefix (case_of v p q) arity ks es a h =
      exprs_cons arity (Case v) _ (p ∷ q ∷ es) (rw append_assoc (exprs_prefix p arity (prefix q ++ ks) (q ∷ es) a.0 (exprs_prefix q arity ks es a.1 h)))
  exprs_prefix (call v b xs) arity ks es a h =
      exprs_cons arity (Call v b) _ (in_front xs es) (exprs_prefixes xs arity ks es a.1 h) ∙ (rw (← a.0) (args_popped xs es _))

  exprs_prefixes : (xs : Args) (arity : ℕ → ℕ) (ks : List Kind) (es : List Expr) → ArgsComplete arity xs → exprs_of arity ks ≡ some es
      → exprs_of arity (prefixes xs ++ ks) ≡ some (in_front xs es)
  exprs_prefixes no_args arity ks es a h = h
  exprs_prefixes (arg x xs) arity ks es a h =
      rw append_assoc (exprs_prefix x arity (prefixes xs ++ ks) (in_front xs es) a.0 (exprs_prefixes xs arity ks es a.1 h))

-- what is known of the expressions that records are: the records are theirs, and each Call in them
-- has its arguments
pub record Parsed (arity : ℕ → ℕ) (ks : List Kind) (es : List Expr) : Type 0 where
  pub joined : records_of_all es ≡ ks
  pub applied : Every (CallsComplete arity) es

-- it stays so with one more record
parsed_step : (arity : ℕ → ℕ) (kind : Kind) (ks : List Kind) (ds es : List Expr) → Parsed arity ks ds → build arity kind ds ≡ some es
    → Parsed arity (kind ∷ ks) es
parsed_step arity kind ks ds es h e = elim (dec_le (part_count arity (parts_of kind)) (length ds)) [
  | yes enough ↦
      let b = built arity kind ds enough in
      let same : b.whole ∷ b.rest ≡ es = some-injective _ _ (sym b.is ∙ e) in
      subst (Parsed arity (kind ∷ ks)) same
      (record { joined = b.joined ∙ ap (λ (l : List Kind). kind ∷ l) h.joined; applied = b.applied h.applied })
  | no few ↦ absurd (none-ne-some es (sym (build_short arity kind ds (omega arith)) ∙ e))
]

-- so it is wherever records are expressions
pub exprs_inv : (arity : ℕ → ℕ) (ks : List Kind) (es : List Expr) → exprs_of arity ks ≡ some es → Parsed arity ks es
unfolding exprs_of records_of_all
exprs_inv arity [] es e = subst (Parsed arity []) (some-injective [] es e) (record { joined = refl; applied = tt })
exprs_inv arity (k ∷ ks) es e = after (exprs_of arity ks) refl (λ ds f. exprs_inv arity ks ds f)
  where
    after : (o : Option (List Expr)) → exprs_of arity ks ≡ o → ((ds : List Expr) → exprs_of arity ks ≡ some ds → Parsed arity ks ds) → Parsed arity (k ∷ ks) es
    after none f before = absurd (none-ne-some es (sym (none_stays arity (k ∷ []) ks f) ∙ e))
    after (some ds) f before = parsed_step arity k ks ds es (before ds f) (sym (exprs_cons arity k ks ds f) ∙ e)
