-- The reductions and the evaluation agree: the proof of `Agrees` (specs/Meaning).
--
-- The simulation ties the reductions to the evaluation with any bound on the open calls. A term
-- reduces to at most one other, a value to none, and a stuck term to none: so of two ways on from
-- one term, one goes on where the other ends. For a term that k reductions lead to, the evaluation
-- with at most k open calls gives a value that the reductions lead to as well, or breaks at a sum
-- where the reductions get stuck as well, or there are more than k reductions; so the term is that
-- value's, or is stuck there, or reduces.
use Prim.Native.Nat.{ℕ, suc}
use mathlib.Core.Logic.{◌⊎◌, inl, inr}
use mathlib.Core.Option.{some}
use mathlib.Core.Path.{◌≡◌, refl, sym, ap, ap₂, subst}
use Rattle.formats.specs.Arithmetic.{Op}
use Rattle.formats.specs.Tokens.{Tree, leaf as a_leaf, node as a_node}
use Rattle.formats.specs.Records.{nth}
use Rattle.formats.specs.Programs.{Function, Program}
use Rattle.rules.specs.Printed.{Term}
use Rattle.meaning.specs.Evaluation.{Value}
use Rattle.meaning.specs.OpenCalls.{Reason, no_call, no_result, Outcome, stops, after_begun, evaluation}
use Rattle.meaning.specs.Reductions.{IsValue, an_integer, a-tree, Reduces, StuckAt, Leads, none_made, one_made, tree_term, value_term, program_on}
use Rattle.meaning.specs.Meaning.{CanReduce, Reaches, EndsWithValue, BreaksAtSum, GetsStuck, Stuck, ValueReached, Agrees}
use Rattle.meaning.proofs.Outcomes.{Ended, given, stopped, ended}
use Rattle.meaning.proofs.Proper.{ProperProgram}
use Rattle.meaning.proofs.OpenCalls.{held}
use Rattle.meaning.proofs.OneWay.{one_way, at-end, stuck_there, stuck_once, stuck_no_value}
use Rattle.meaning.proofs.Leads.{makes_fewer}
use Rattle.meaning.proofs.Simulation.{tree_value, AtStop, makes_many, gets_stuck, value_reached, at_stop}

-- ---- the terms of values

-- they are values
value_is : (v : Value) → IsValue (value_term v)
unfolding value_term
value_is (Value.number i) = an_integer
value_is (Value.tree t) = a-tree (tree_value t)

-- different trees have different terms ..
same_tree : (t u : Tree) → tree_term t ≡ tree_term u → t ≡ u
unfolding tree_term
same_tree (a_leaf x) (a_leaf y) e = cc
same_tree (a_leaf x) (a_node l r) e = cc
same_tree (a_node l r) (a_leaf y) e = cc
same_tree (a_node l r) (a_node l' r') e = ap₂ a_node (same_tree l l' (cc)) (same_tree r r' (cc))

-- .. and so do different values
same_value : (v w : Value) → value_term v ≡ value_term w → v ≡ w
unfolding value_term tree_term
same_value (Value.number i) (Value.number j) e = cc
same_value (Value.number i) (Value.tree (a_leaf x)) e = cc
same_value (Value.number i) (Value.tree (a_node l r)) e = cc
same_value (Value.tree (a_leaf x)) (Value.number j) e = cc
same_value (Value.tree (a_node l r)) (Value.number j) e = cc
same_value (Value.tree t) (Value.tree u) e = ap Value.tree (same_tree t u e)

module _ (program : Program) (first : Function) (t : Tree) (proper : ProperProgram program) (is_first : nth program.functions 0 ≡ some first) where
  -- ---- two ways on from one term

  -- where one way leads to a term that does not reduce, the other is at that term, or goes on
  last_or_on :
      {j k : ℕ} {L M W : Term}
      → Leads program j L M
      → ((N : Term) → Reduces program W N → ⊥)
      → Leads program k L W
      → (M ≡ W) ⊎ CanReduce program M
  last_or_on none_made last none_made = inl refl
  last_or_on none_made last (one_made r d) = inr (record { to = _; reduces = r })
  last_or_on (one_made r d) last none_made = absurd (last _ r)
  last_or_on (one_made r d) last (one_made r' d') = last_or_on d last (rw (one_way program _ _ _ r' r) at d')

  -- where one way is longer, the other goes on
  longer_on : {k : ℕ} {L M N : Term} → Leads program k L M → Leads program (suc k) L N → CanReduce program M
  longer_on none_made (one_made r d) = record { to = _; reduces = r }
  longer_on (one_made r d) (one_made r' d') = longer_on d (rw (one_way program _ _ _ r' r) at d')

  -- ---- terms that the program leads to

  -- The evaluation ends, and the term is that of its value.
  record EndsAt (M : Term) : Type 0 where
    reached : ValueReached M
    evaluated : EndsWithValue program t reached.value

  -- The evaluation breaks at a sum, and the term is stuck there.
  record BreaksAt (M : Term) : Type 0 where
    there : Stuck M
    broken : BreaksAtSum program t there.op there.left there.right

  -- One of the two, or the term is on the way: it reduces.
  data Standing (M : Term) : Type 0 where
    at_value : EndsAt M → Standing M
    at_break : BreaksAt M → Standing M
    on_the_way : CanReduce program M → Standing M

  -- where the program leads to a value, each term that it leads to is its, or on the way ..
  standing_value :
      {k : ℕ} {M : Term} (v : Value)
      → Leads program k (program_on first t) M
      → EndsWithValue program t v
      → Reaches program (program_on first t) (value_term v)
      → Standing M
  standing_value v d evaluated reached =
      elim (last_or_on d (λ N. at-end program _ N (value_is v)) reached.leads) [
        | inl same ↦ at_value (record { reached = record { value = v; is_term = same }; evaluated = evaluated })
        | inr on ↦ on_the_way on
      ]

  -- .. where it gets stuck, each is the stuck one, or on the way ..
  standing_break :
      {k : ℕ} {M : Term} {op : Op} {i j : ℕ}
      → Leads program k (program_on first t) M
      → BreaksAtSum program t op i j
      → GetsStuck program (program_on first t) op i j
      → Standing M
  standing_break {op = op} {i} {j} d broken g =
      let last : Stuck g.last = record { op = op; left = i; right = j; stuck = g.stuck } in
      elim (last_or_on d (λ N. stuck_there program _ N last) g.reached.leads) [
        | inl same ↦ at_break (record { there = rw same last; broken = broken })
        | inr on ↦ on_the_way on
      ]

  -- .. and where it does neither within k calls, each after k reductions is on the way
  standing : {k : ℕ} {M : Term} → Leads program k (program_on first t) M → Standing M
  standing {k} {M} d = by_outcome (ended (evaluation program k t)) refl
    where
      by_stop : (n : ℕ) (why : Reason) (q : ℕ) → evaluation program k t ≡ after_begun n (stops why q) → AtStop program (suc k) (program_on first t) why → Standing M
      by_stop n _ q e (makes_many m) = on_the_way (longer_on d m.leads)
      by_stop n why q e (gets_stuck g) =
          standing_break d (record { calls = k; expressions = n; position = q; breaks = ((held program t proper).stops_exactly k n why q).0 e }) g

      by_outcome : {o : Outcome Value} → Ended o → evaluation program k t ≡ o → Standing M
      by_outcome (given n v u) e =
          standing_value v d (record { calls = k; expressions = n; ends = ((held program t proper).gives_value k n v).0 e })
          (value_reached program proper first t is_first k n v e)
      by_outcome (stopped n why q u) e = by_stop n why q e (at_stop program proper first t is_first k n why q e)

  -- so at a value the evaluation ends, and at a stuck term it breaks ..
  value_ended : {k : ℕ} {M : Term} → Leads program k (program_on first t) M → IsValue M → EndsAt M
  value_ended d v = elim (standing d) [
    | at_value end ↦ end
    | at_break b ↦ absurd (stuck_no_value _ b.there v)
    | on_the_way on ↦ absurd (at-end program _ _ v on.reduces)
  ]

  stuck_broken : {k : ℕ} {M : Term} → Leads program k (program_on first t) M → Stuck M → BreaksAt M
  stuck_broken d s = elim (standing d) [
    | at_value end ↦ absurd (stuck_no_value _ s (rw end.reached.is_term (value_is end.reached.value)))
    | at_break b ↦ b
    | on_the_way on ↦ absurd (stuck_there program _ _ s on.reduces)
  ]

  -- .. at that sum
  breaks_there : {M : Term} (op : Op) (i j : ℕ) → StuckAt op i j M → BreaksAt M → BreaksAtSum program t op i j
  breaks_there op i j s b =
      let same = stuck_once s b.there.stuck in
      let same_op : op ≡ b.there.op = cc same in
      let same_left : i ≡ b.there.left = cc same in
      let same_right : j ≡ b.there.right = cc same in
      rw (same_op, same_left, same_right) b.broken

  pub agrees : Agrees program first t
  agrees = record {
    leads = λ o n v e. value_reached program proper first t is_first o n v (((held program t proper).gives_value o n v).1 e);
    taken = λ v r.
        let end = value_ended r.leads (value_is v) in
        subst (EndsWithValue program t) (same_value end.reached.value v (sym end.reached.is_term)) end.evaluated;
    values = λ k M d v. (value_ended d v).reached;
    gets_stuck = λ o n op i j q b.
        elim (at_stop program proper first t is_first o n (no_result op i j) q (((held program t proper).stops_exactly o n _ q).1 b)) [ gets_stuck g ↦ g ];
    breaks = λ op i j g. breaks_there op i j g.stuck (stuck_broken g.reached.leads (record { op = op; left = i; right = j; stuck = g.stuck }));
    progress = λ k M d. elim (standing d) [
      | at_value end ↦ inl (rw end.reached.is_term (value_is end.reached.value))
      | at_break b ↦ inr (inr b.there)
      | on_the_way on ↦ inr (inl on)
    ];
    endless = λ never k.
        let end = (held program t proper).endless never k in
        elim (at_stop program proper first t is_first k end.expressions no_call end.position end.stopped) [ makes_many m ↦ makes_fewer k m.leads ];
  }
