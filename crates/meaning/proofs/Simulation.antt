-- The reductions do what the evaluation with a bound on the open calls does: a term leads to the
-- term of the value; where the evaluation stops at an operation that has no result, the term leads
-- to one that is stuck there; where it stops at a call too many, the term makes more reductions
-- than calls may be opened.
--
-- The term is an expression's, with what its names stand for put in. The proof is by recursion on
-- the calls that may be opened and, inside a body, on the expression: each part is reduced inside
-- the whole term, and to put a value in for a name is to have it in the environment. A call makes
-- one reduction more than its body.
use Prim.Native.Nat.{ℕ, zero, suc, ◌+◌}
use mathlib.Core.List.{List, [], ◌∷◌}
use mathlib.Core.Option.{some}
use mathlib.Core.Path.{◌≡◌, refl, sym, ap}
use native.Mathlib.Nat.{zero-add, lt-suc_self}
use native.Mathlib.Omega.{arith}
use lib.ListN.{length}
use Rattle.formats.specs.Arithmetic.{Op}
use Rattle.formats.specs.Tokens.{Tree, leaf as a_leaf, node as a_node}
use Rattle.formats.specs.Records.{nth}
use Rattle.formats.specs.Programs.{Expr, call, Args, no_args, arg, Sort, Function, Program}
use Rattle.rules.specs.Printed.{number_name, tree_name, function_name, Term, int, lam, name, app, compute_term, node_term, case, if_zero_01, term_of, applied, lams, function_term}
use Rattle.meaning.specs.Levels.{at_level}
use Rattle.meaning.specs.Evaluation.{Value, Environment, with_number, with_trees, in_call, result_number}
use Rattle.meaning.specs.OpenCalls.{Reason, no_call, no_result, Outcome, gives, stops, begins, after_begun, followed_by, number_or, tree_or, result_tree}
use Rattle.meaning.specs.OpenCalls.{Handler, computed, evaluate, evaluate_args, called, evaluation}
use Rattle.meaning.specs.Reductions.{TreeValue, leaf_value, node_value, an_integer, a-tree, without, replaced, substitute, fix_of, fixes}
use Rattle.meaning.specs.Reductions.{Redex, Es-Plus, Es-App, Es-App-let, Es-Fix, Es-Case1, Es-Case2, IfZero-zero, IfZero-other}
use Rattle.meaning.specs.Reductions.{Context, hole, app_left, app_right, plus_left, plus_right, in_leaf, node_left, node_right, in_let, in_test}
use Rattle.meaning.specs.Reductions.{plug, at_sum, none_made, tree_term, value_term, program_on as applied_to}
use Rattle.meaning.specs.Meaning.{CanReduceTimes, Reaches, GetsStuck}
use Rattle.meaning.proofs.Levels.{level_found}
use Rattle.meaning.proofs.Outcomes.{ComesTo, given, stopped, comes_map, comes_begins, comes_next, comes_computed, comes_value, comes_stop}
use Rattle.meaning.proofs.Leads.{nothing, reaches_on, makes_more, makes_on, reaches_in, makes_in, stuck_on, stuck_in, reduces, reaches_one}
use Rattle.meaning.proofs.Proper.{Proper, proper_const, proper_var, proper_compute, proper_if_zero, proper_let, proper_leaf, proper_node, proper_case}
use Rattle.meaning.proofs.Proper.{proper_call, ProperArgs, proper_none, proper_arg, ProperProgram}
use Rattle.meaning.proofs.Sorts.{value_of, Numbers, numbers_of}
use Rattle.meaning.proofs.Substitution.{environment_of, bare, unfolded, put_number, put_tree, put_trees}

-- ---- terms and outcomes

-- a tree's term is a value
pub tree_value : (t : Tree) → TreeValue (tree_term t)
unfolding tree_term
tree_value (a_leaf x) = leaf_value
tree_value (a_node l r) = node_value (tree_value l) (tree_value r)

-- What M does where the evaluation stops for this reason: it makes k reductions, or gets stuck.
pub data AtStop (program : Program) (k : ℕ) (M : Term) : Reason → Type 0 where
  makes_many : CanReduceTimes program k M → AtStop program k M no_call
  gets_stuck : {op : Op} {i j : ℕ} → GetsStuck program M op i j → AtStop program k M (no_result op i j)

module _ {program : Program} where
  -- other reductions come first
  stop_on : {k : ℕ} {L M : Term} (why : Reason) → Reaches program L M → AtStop program k M why → AtStop program k L why
  stop_on _ r (makes_many m) = makes_many (makes_on r.leads m)
  stop_on _ r (gets_stuck s) = gets_stuck (stuck_on r s)

  -- one reduction comes first, and counts
  stop_more : {k : ℕ} {L M : Term} (why : Reason) → Redex program L M → AtStop program k M why → AtStop program (suc k) L why
  stop_more _ r (makes_many m) = makes_many (makes_more (reduces r) m)
  stop_more _ r (gets_stuck s) = gets_stuck (stuck_on (reaches_one r) s)

  -- inside a context
  stop_in : {k : ℕ} {M : Term} (E : Context) (why : Reason) → AtStop program k M why → AtStop program k (plug E M) why
  stop_in E _ (makes_many m) = makes_many (makes_in E m)
  stop_in E _ (gets_stuck s) = gets_stuck (stuck_in E s)

-- M leads to the term of what the outcome gives, which is of this form, or does what it does at a
-- stop.
abbrev Does : {X A : Type 0} → Program → ℕ → (X → A) → (A → Term) → Term → Outcome A → Type 0
Does program k form term M o = ComesTo form (λ n a. Reaches program M (term a)) (λ n why r. AtStop program k M why) o

module _ {program : Program} {k : ℕ} {X A : Type 0} {form : X → A} {term : A → Term} where
  -- other reductions come first
  does_on : {L M : Term} {o : Outcome A} → Reaches program L M → Does program k form term M o → Does program k form term L o
  does_on r = comes_map (λ n a. reaches_on r.leads) (λ n why q. stop_on why r)

  -- one reduction comes first, and counts
  does_more : {L M : Term} {o : Outcome A} → Redex program L M → Does program k form term M o → Does program (suc k) form term L o
  does_more r = comes_map (λ n a. reaches_on (reaches_one r).leads) (λ n why q. stop_more why r)

  -- a part is reduced inside the whole term, then what comes next has its value there
  does_part :
      {Y B : Type 0} {form' : Y → B} {term' : B → Term} {M : Term} {o : Outcome B} (f : B → Outcome A) (E : Context)
      → Does program k form' term' M o
      → ((y : Y) → Does program k form term (plug E (term' (form' y))) (f (form' y)))
      → Does program k form term (plug E M) (followed_by o f)
  does_part f E m follows =
      comes_next f m (λ n why r. stop_in E why) (λ n y r. does_on (reaches_in E r) (follows y))

  -- an IfZero goes on with the part that its number picks
  does_test :
      {M N : Term} {o p : Outcome A} (i : ℕ)
      → Does program k form term M o
      → Does program k form term N p
      → Does program k form term (if_zero_01 (int i) M N) (elim i [ zero ↦ o | suc j ↦ p ])
  does_test zero zero_part other_part = does_on (reaches_one IfZero-zero) zero_part
  does_test (suc j) zero_part other_part = does_on (reaches_one IfZero-other) other_part

-- an operation on two numbers gives its result, or is stuck
does_compute :
    {program : Program} {k : ℕ} (r : ℕ) (op : Op) (i j : ℕ)
    → Does program k Value.number value_term (compute_term op (int i) (int j)) (computed r op i j)
unfolding value_term plug
does_compute r op i j =
    comes_computed r op i j
    (λ x e. reaches_one (Es-Plus e))
    (λ e. gets_stuck (record { last = _; reached = nothing; stuck = at_sum hole e }))

-- two trees become the parts of one
does_node :
    {program : Program} {k : ℕ} {M N : Term} {o p : Outcome Value}
    → Does program k Value.tree value_term M o
    → Does program k Value.tree value_term N p
    → Does program k Value.tree value_term (node_term M N)
    (followed_by o (λ x. followed_by p (λ y. gives (Value.tree (a_node (result_tree x) (result_tree y))))))
unfolding value_term tree_term plug result_tree after_begun
does_node left_part right_part =
    does_part _ (node_left hole _) left_part
    (λ l. does_part _ (node_right (tree_value l) hole) right_part (λ r. given 0 (a_node l r) nothing))

-- ---- expressions

module _ (program : Program) (proper : ProperProgram program) where
  -- A term with what its names stand for put in.
  abbrev put : Environment → Term → Term
  put E M = substitute (environment_of program E) M

  -- an abstraction takes a number, or a tree
  app_number :
      (E : Environment) (g i : ℕ) (M : Term)
      → g ≡ length E.numbers
      → Redex program (app (put E (lam (number_name g) M)) (int i)) (put (with_number i E) M)
  unfolding substitute
  app_number E g i M g_is = rw (← put_number program proper E g i M g_is) (Es-App an_integer)

  app_tree :
      (numbers : List ℕ) (t : Tree) (M : Term)
      → Redex program (app (put (bare numbers) (lam (tree_name 0) M)) (tree_term t)) (put (in_call numbers t) M)
  unfolding substitute
  app_tree numbers t M = rw (← put_tree program proper numbers t M) (Es-App (a-tree (tree_value t)))

  -- a Case goes on with its leaf part, or with its node part
  does_case :
      {k : ℕ} {X : Type 0} {form : X → Value} (E : Environment) (g n : ℕ) (M N : Term)
      (o : ℕ → Outcome Value) (p : Tree → Tree → Outcome Value) (t : Tree)
      → g ≡ length E.numbers
      → n ≡ length E.trees
      → ((x : ℕ) → Does program k form value_term (put (with_number x E) M) (o x))
      → ((l r : Tree) → Does program k form value_term (put (with_trees l r E) N) (p l r))
      → Does program k form value_term
      (case (tree_term t) (number_name g) (substitute (without (number_name g) (environment_of program E)) M) (tree_name n) (tree_name (suc n))
      (substitute (without (tree_name n) (without (tree_name (suc n)) (environment_of program E))) N))
      (elim t [ a_leaf x ↦ o x | a_node l r ↦ p l r ])
  unfolding tree_term
  does_case E g n M N o p (a_leaf x) g_is n_is leaf_part node_part =
      does_on (reaches_one Es-Case1) (rw (put_number program proper E g x M g_is) (leaf_part x))
  does_case E g n M N o p (a_node l r) g_is n_is leaf_part node_part =
      does_on (reaches_one (Es-Case2 (tree_value l) (tree_value r))) (rw (put_trees program proper E n l r N n_is) (node_part l r))

  -- a function's name stands for its fixed point ..
  function_named : (E : Environment) (b : ℕ) (f : Function) → nth program.functions b ≡ some f → put E (name (function_name b)) ≡ fix_of b f
  unfolding substitute environment_of fixes replaced
  function_named E b f known = rw (known, fixes)

  -- .. which leads to the function's abstractions
  opens : (b : ℕ) (f : Function) → nth program.functions b ≡ some f → Reaches program (fix_of b f) (put (bare []) (function_term f))
  unfolding fix_of
  opens b f known = rw (← unfolded program b f known) (reaches_one Es-Fix)

  -- what is applied to arguments is reduced first
  stop_applied :
      {k : ℕ} (E : Environment) (g n : ℕ) (M : Term) (xs : Args) (why : Reason)
      → AtStop program k (put E M) why
      → AtStop program k (put E (applied g n M xs)) why
  unfolding substitute applied plug
  stop_applied E g n M no_args why m = m
  stop_applied E g n M (arg x xs) why m = stop_applied E g n _ xs why (stop_in (app_left hole (put E (term_of g n x))) why m)

  -- What is to hold of calls, where d may be opened.
  abbrev Handles : Handler → ℕ → Type 0
  Handles h d =
      (r b : ℕ) (f : Function) (numbers : Numbers f.parameters) (t : Tree)
      → nth program.functions b ≡ some f
      → Does program d (value_of f.sort) value_term (put (in_call numbers.all t) (term_of f.parameters 1 f.body)) (h r b numbers.all t)

  module _ (h : Handler) (d : ℕ) (handles : Handles h d) where
    -- What is then to hold of an expression ..
    abbrev Simulated : ℕ → ℕ → Sort → Expr → Type 0
    Simulated g n s e =
        (E : Environment) (r : ℕ)
        → g ≡ length E.numbers
        → n ≡ length E.trees
        → Does program (suc d) (value_of s) value_term (put E (term_of g n e)) (evaluate h E r e)

    -- .. and of arguments, where H has taken the numbers before and takes j more: its body N is
    -- left, with all of them put in.
    abbrev SimulatedArgs : ℕ → ℕ → ℕ → Args → Type 0
    SimulatedArgs g n j xs =
        (E : Environment) (r : ℕ) (H N : Term) (before : List ℕ) (count : ℕ)
        → g ≡ length E.numbers
        → n ≡ length E.trees
        → length before + j ≡ count
        → Reaches program (put E H) (put (bare before) (lams (length before) j N))
        → Does program (suc d) (numbers_of count) (λ numbers. put (bare numbers) N) (put E (applied g n H xs)) (evaluate_args h E r xs before)

    simulated : {g n : ℕ} {s : Sort} {e : Expr} → Proper program.functions g n s e → Simulated g n s e
    unfolding after_begun substitute term_of evaluate plug environment_of replaced value_term tree_term number_or tree_or result_number result_tree lams function_term
    simulated p = elim p as (λ g n s e p. Simulated g n s e) (λ g n j xs p. SimulatedArgs g n j xs) [
      | proper_const i< ↦ λ E r g_is n_is. given 1 _ nothing
      | proper_var {a} a< ↦ λ E r g_is n_is.
          let found = level_found E.numbers a (rw (← g_is) a<) in
          rw found.is (given 1 found.entry nothing)
      | proper_compute {op = op} (p → hp) (q → hq) ↦ λ E r g_is n_is.
          comes_begins
          (does_part _ (plus_left op hole _) (hp E (suc r) g_is n_is)
          (λ i. does_part _ (plus_right op i hole) (hq E _ g_is n_is) (λ j. does_compute r op i j)))
      | proper_if_zero (t → ht) (z → hz) (o → ho) ↦ λ E r g_is n_is.
          comes_begins (does_part _ (in_test hole _ _) (ht E (suc r) g_is n_is) (λ i. does_test i (hz E _ g_is n_is) (ho E _ g_is n_is)))
      | proper_let {g} {n} {body} (p → hp) (_ → hq) ↦ λ E r g_is n_is.
          comes_begins
          (does_part _ (in_let (number_name g) hole _) (hp E (suc r) g_is n_is)
          (λ i.
          does_on (reaches_one (Es-App-let (app_number E g i (term_of (suc g) n body) g_is))) (hq (with_number i E) _ (ap suc g_is) n_is)))
      | proper_leaf (p → hp) ↦ λ E r g_is n_is.
          comes_begins (does_part _ (in_leaf hole) (hp E (suc r) g_is n_is) (λ i. given 0 (a_leaf i) nothing))
      | proper_node (p → hp) (q → hq) ↦ λ E r g_is n_is.
          comes_begins (does_node (hp E (suc r) g_is n_is) (hq E _ g_is n_is))
      | proper_case {g} {n} {a} {p} {q} a< (_ → hp) (_ → hq) ↦ λ E r g_is n_is.
          let found = level_found E.trees a (rw (← n_is) a<) in
          rw found.is
          (comes_begins
          (does_case E g n (term_of (suc g) n p) (term_of g (suc (suc n)) q) _ _ found.entry g_is n_is
          (λ x. hp (with_number x E) _ (ap suc g_is) n_is)
          (λ l r. hq (with_trees l r E) _ g_is (ap suc (ap suc n_is)))))
      | proper_call {a} {b} {f} a< known same (xs → hs) ↦ λ E r g_is n_is.
          let found = level_found E.trees a (rw (← n_is) a<) in
          let opened = rw (← function_named E b f known) at (opens b f known) in
          rw (found.is, same)
          (comes_begins
          (does_part _ (app_left hole _) (hs E (suc r) (name (function_name b)) _ [] f.parameters g_is n_is (zero-add f.parameters) opened)
          (λ numbers.
          does_more (app_tree numbers.all found.entry (term_of f.parameters 1 f.body))
          (handles r b f numbers found.entry known))))
      | proper_none ↦ λ E r H N before count g_is n_is all reach. given 0 (record { all = before; many = omega arith }) reach
      | proper_arg {g} {n} {k = j} {x} {xs} (p → hp) (ps → hs) ↦ λ E r H N before count g_is n_is all reach.
          let head = reaches_in (app_left hole (put E (term_of g n x))) reach in
          comes_next _ (hp E r g_is n_is)
          (λ begun why q m. stop_applied E g n _ xs why (stop_on why head (stop_in (app_right _ _ hole) why m)))
          (λ begun i r.
          let takes = reaches_one (app_number (bare before) _ i (lams _ j N) refl) in
          let reach = reaches_on head.leads (reaches_on (reaches_in (app_right _ _ hole) r).leads takes) in
          hs E _ (app H (term_of g n x)) N (i ∷ before) count g_is n_is (omega arith) reach)
    ]

  -- calls, by recursion on how many may be opened
  handled : (d : ℕ) → Handles (called program d) d
  unfolding called after_begun
  handled zero r b f numbers t known = stopped 0 no_call r (makes_many (record { last = _; leads = none_made }))
  handled (suc d) r b f numbers t known =
      rw (known, called) (simulated (called program d) d (handled d) (proper.bodies b f known) (in_call numbers.all t) _ (sym numbers.many) refl)

  -- The program applied to the tree is a Call of function 0 where the tree is named.
  module _ (first : Function) (t : Tree) (is_first : nth program.functions 0 ≡ some first) where
    first_call : Proper program.functions 0 1 first.sort (call 0 0 no_args)
    first_call =
        let same : first ≡ proper.first = cc proper.is_first in
        let no_numbers : ProperArgs program.functions 0 1 first.parameters no_args = rw (same, proper.bare) proper_none in
        proper_call (lt-suc_self 0) is_first refl no_numbers

    program_does : (d : ℕ) → Does program (suc d) (value_of first.sort) value_term (applied_to first t) (begins (evaluation program d t))
    unfolding applied_to evaluation substitute term_of environment_of replaced at_level evaluate tree_or followed_by
    program_does d =
        rw (← function_named (in_call [] t) 0 first is_first)
        (simulated (called program d) d (handled d) first_call (in_call [] t) 0 refl refl)

    -- where the evaluation gives a value, the reductions lead to its term
    pub value_reached : (d n : ℕ) (v : Value) → evaluation program d t ≡ after_begun n (gives v) → Reaches program (applied_to first t) (value_term v)
    unfolding after_begun
    value_reached d n v e = comes_value (suc n) v (program_does d) (ap begins e)

    -- where it stops, there are more reductions than calls may be opened, or they get stuck
    pub at_stop : (d n : ℕ) (why : Reason) (r : ℕ) → evaluation program d t ≡ after_begun n (stops why r) → AtStop program (suc d) (applied_to first t) why
    unfolding after_begun
    at_stop d n why r e = comes_stop (suc n) why r (program_does d) (ap begins e)
