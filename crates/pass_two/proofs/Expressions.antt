-- Expressions, lists of them, and functions: a law for each way out of the functions that walk
-- them, and what their calls ask.
use Prim.Native.Nat.{ℕ, suc, ◌+◌, ◌-◌, ◌*◌, ◌≤◌, ◌<◌}
use mathlib.Core.List.{List, [], ◌∷◌}
use mathlib.Core.Logic.{◌≢◌}
use mathlib.Core.Path.{◌≡◌, refl, sym, ap, subst, ◌∙◌}
use native.Mathlib.Nat.{sub-zero}
use native.Mathlib.Numerals.{add-one}
use native.Mathlib.Omega.{arith}
use lib.ListN.{length}
use Rattle.std.specs.Prelude.{Result as Answer, Ok, Err, Option, ok_or}
use Rattle.formats.specs.Inner.Buffers.{from_last}
use Rattle.formats.specs.Results.{done, on_value}
use Rattle.formats.specs.Records.{Kind, part_count, IfZero as an_if_zero, Case as a_case, Call as a_call}
use Rattle.formats.specs.Programs.{Expr, size, Placed, placed_at, parts_at, Signature}
use Rattle.formats.specs.Inner.Fields.{arity_in, node_in}
use Rattle.formats.proofs.Results.{done_injective, done_not}
use Rattle.formats.proofs.Programs.{some_record}
use Rattle.refusal.specs.declared.Refusal.TheVariants.{OutOfOrder}
use Rattle.refusal.specs.declared.Refused.{Refused}
use Rattle.refusal.proofs.Raised.{raised}
use Rattle.std.specs.Result.{IsErrAnd}
use Rattle.records.specs.Inner.Read.{Shape, meant, listed, described, shaped, shape_of}
use Rattle.records.specs.declared.Record.{Record}
use Rattle.records.specs.declared.Record.TheVariants.{Const, Var, Add, IfZero, Let, Leaf, Node, Case, Call}
use Rattle.records.specs.declared.Described.{Described}
use Rattle.records.specs.declared.TreeName.{TreeName}
use Rattle.records.specs.declared.Called.{Called}
use Rattle.rules.specs.PassTwo.{walk, none_left}
use Rattle.walks.specs.Inner.Standing.{Known, head_of, Row, walk_parts, end as no_part, next as a_part}
use Rattle.walks.specs.Inner.Walks.{Inside, Here, HereRow}
use Rattle.walks.proofs.Walks.{node_held, parts_counted}
use Rattle.walks.proofs.Here.{parts_here, first_here, rest_here}
use Rattle.walks.proofs.Lists.{walk_call, Plain, walk-parts, Shaped, shaped as shaped_of, plain, an_if, a-case, a-call}
use Rattle.pending.specs.Inner.List.{list_of, Took}
use Rattle.pending.specs.declared.Pending.{Pending}
use Rattle.pending.proofs.Laws.{counted_list, by_head, not_taken, is_taken}
use Rattle.pass_two.specs.declared.Checked.{Checked}
use Rattle.pass_two.specs.Inner.Walk.{Small, Reports, WentOn, Ordered, OrderedCall, OrderedCase, OrderedIf, OrderedList, OrderedFunction}
use Rattle.pass_two.proofs.Answers.{is_there, is_absent, its_refusal, came, follows, stays, refuses, passes, stopped}

-- ---- `order_list`

-- a row has no part, or a first one
data Split (s : List ℕ) (last k : ℕ) : List Placed → ℕ → Type 0 where
  none : Split s last k [] k
  some : {m : ℕ} {e : Expr} {ps : List Placed} → HereRow s last k (placed_at k e ∷ ps) m → Split s last k (placed_at k e ∷ ps) m

split : {s : List ℕ} {last k m : ℕ} {ps : List Placed} → HereRow s last k ps m → Split s last k ps m
split {s} {last} {k} h = by h.row h.known h.fits
  where
    by : {gs : List Signature} {ps : List Placed} {m : ℕ} → Row s gs k ps m → Known s gs → m ≤ last → Split s last k ps m
    by no_part known fits = none
    by (a_part e more) known fits = some (record { signed = _; known = known; row = a_part e more; fits = fits })

module _ (s : List ℕ) (count k last n : ℕ) (p : Pending) where
  pub list_done : Small k last n → count ≡ 0 → OrderedList s count k last n p (Ok (record { pending = p; next = k }))
  unfolding walk_parts
  list_done small none-left = record {
    went_on = record { went = λ c e. let same : k ≡ c.next = cc in record { on = omega arith; inside = omega (arith, small.inside.before_end) } };
    reports = λ ps m h e. reported (split h) e;
  }
    where
      reported : {ps : List Placed} {m : ℕ} → Split s last k ps m → length ps ≡ count
          → Reports (Ok (record { pending = p; next = k })) m (walk_parts n (list_of p) ps)
      reported none e = record { is = refl }
      reported (some h) e = absurd (omega arith)

  module _ (first' : Answer Checked Refused) (of : Ordered s k last n p first') (more : 0 < count) where
    pub list_stops : (x : Refused) → first' ≡ Err x → OrderedList s count k last n p (Err x)
    unfolding walk_parts
    list_stops x refused = record { went_on = stopped k last x; reports = λ ps m h e. reported (split h) e }
      where
        reported : {ps : List Placed} {m : ℕ} → Split s last k ps m → length ps ≡ count → Reports (Err x) m (walk_parts n (list_of p) ps)
        reported none e = absurd (omega arith)
        reported (some h) e = stays _ _ (of.reports _ (first_here h)) refused

    pub list_more : (first : Checked) (r : Answer Checked Refused) → first' ≡ Ok first → OrderedList s (count - 1) first.next last n first.pending r → OrderedList s count k last n p r
    unfolding walk_parts
    list_more first r passed o = record {
      went_on = record {
        went = λ c u.
            let before = of.went_on.went first passed in
            let rest = o.went_on.went c u in
            record { on = omega (arith, before.on, rest.on); inside = rest.inside };
      };
      reports = λ ps m h e. reported (split h) e;
    }
      where
        reported : {ps : List Placed} {m : ℕ} → Split s last k ps m → length ps ≡ count → Reports r m (walk_parts n (list_of p) ps)
        reported none e = absurd (omega arith)
        reported (some {e = x} h) e =
            let here = of.reports x (first_here h) in
            let rest : OrderedList s (count - 1) (k + size x) last n first.pending r = rw (came here passed).position at o in
            follows _ here passed (rest.reports _ _ (rest_here h) (omega arith))

-- The parts from part i on, the next of them where the part before it came to, decide what is
-- answered.
pub record Ordering (s : List ℕ) (i count k last n : ℕ) (p : Pending) (after : Checked) : Type 0 where
  pub small : Small after.next last n
  pub on : k ≤ after.next
  pub rest : (r : Answer Checked Refused) → OrderedList s (count - i) after.next last n after.pending r → OrderedList s count k last n p r

pub order_first : (s : List ℕ) (count k last n : ℕ) (p : Pending) → Small k last n → Ordering s 0 count k last n p (record { pending = p; next = k })
order_first s count k last n p small = record { small = small; on = omega arith; rest = λ r o. rw sub-zero at o }

module _ (s : List ℕ) (i count k last n : ℕ) (p : Pending) (after : Checked) (g : Ordering s i count k last n p after) where
  pub order_all : count ≤ i → OrderedList s count k last n p (Ok after)
  order_all over = g.rest _ (list_done s (count - i) after.next last n after.pending g.small (omega arith))

  pub fall_part : (t : ℕ) → 3 * (last - k) + 2 ≡ t → 3 * (last - after.next) + 1 < t
  fall_part t h = omega (arith, g.on)

  module _ (first' : Answer Checked Refused) (of : Ordered s after.next last n after.pending first') (more : i < count) where
    pub order_stops : (x : Refused) (out : Answer Checked Refused) → first' ≡ Err x → IsErrAnd out (λ q. q ≡ x) → OrderedList s count k last n p out
    order_stops x out refused up = rw (raised out up) (g.rest _ (list_stops s (count - i) after.next last n after.pending first' of (omega arith) x refused))

    pub order_more : (first : Checked) → first' ≡ Ok first → Ordering s (i + 1) count k last n p first
    order_more first passed =
        let went = of.went_on.went first passed in
        let less : (count - i) - 1 ≡ count - (i + 1) = omega arith in
        record {
          small = record {
            inside = record { before_end = went.inside; few = g.small.inside.few };
            trees = omega (arith, g.small.trees, went.on);
          };
          on = omega (arith, g.on, went.on);
          rest = λ r o. g.rest r (list_more s (count - i) after.next last n after.pending first' of (omega arith) first r passed (rw less o));
        }

pub ruleset lists = (order_first, order_all, order_stops, order_more, fall_part)

-- ---- `order_call`

module _ (s : List ℕ) (a count k last n : ℕ) (p : Pending) (after' : Answer Checked Refused) (oa : OrderedList s count (k + 1) last n p after') where
  args_reported : {ps : List Placed} {m : ℕ} → HereRow s last (k + 1) ps m → length ps ≡ count → Reports after' m (walk_parts n (list_of p) ps)
  args_reported h e = oa.reports _ _ h e

  pub call_stops : (x : Refused) (out : Answer Checked Refused) → after' ≡ Err x → IsErrAnd out (λ q. q ≡ x) → OrderedCall s a count k last n p out
  call_stops x out refused up = rw (raised out up) (record { went_on = stopped (suc k) last x; reports = λ ps m h e. stays _ _ (args_reported h e) refused })

  module _ (after : Checked) (passed : after' ≡ Ok after) (taken : Option Pending) (took : Took after.pending a taken)
      (tried : Answer Pending Refused) (made : Refused) (tries : tried ≡ ok_or taken made)
    where
      pub call_other : (x : Refused) (out : Answer Checked Refused) → made ≡ record { why = OutOfOrder; position = k } → tried ≡ Err x → IsErrAnd out (λ q. q ≡ x) → OrderedCall s a count k last n p out
      call_other x out at_k refused up =
          rw (raised out up) (let is : x ≡ record { why = OutOfOrder; position = k } = its_refusal taken made x (sym tries ∙ refused) ∙ at_k in
          record {
            went_on = stopped (suc k) last x;
            reports = λ ps m h e. rw is (follows _ (args_reported h e) passed (refuses (not_taken _ a k taken took (is_absent taken made x (sym tries ∙ refused)))));
          })

      pub call_takes : (rest : Pending) → tried ≡ Ok rest → OrderedCall s a count k last n p (Ok (record { pending = rest; next = after.next }))
      call_takes rest there = record {
        went_on = record {
          went = λ c u.
              let args = oa.went_on.went after passed in
              let same : after.next ≡ c.next = cc in
              record { on = omega (arith, args.on); inside = omega (arith, args.inside) };
        };
        reports = λ ps m h e. follows _ (args_reported h e) passed (passes (is_taken _ a k taken took rest (is_there taken made rest (sym tries ∙ there))) (came (args_reported h e) passed).position);
      }

pub ruleset calls = (call_stops, call_other, call_takes)

-- ---- `order_at`

pub at-end : (s : List ℕ) (k last n : ℕ) (p : Pending) (x : Refused) → last ≤ k → Ordered s k last n p (Err x)
at-end s k last n p x over = record { went_on = stopped (suc k) last x; reports = λ e h. absurd (omega (arith, some_record e, h.fits)) }

-- six kinds are walked part after part, with no test of their own
plain_read : (node : Record) → (node ≡ IfZero → ⊥) → ((x : TreeName) → node ≡ Case x → ⊥) → ((x : Called) → node ≡ Call x → ⊥) → Plain (meant node)
plain_read (Const x) _ _ _ = tt
plain_read (Var x) _ _ _ = tt
plain_read Add _ _ _ = tt
plain_read IfZero no_if_zero _ _ = absurd (no_if_zero refl)
plain_read Let _ _ _ = tt
plain_read Leaf _ _ _ = tt
plain_read Node _ _ _ = tt
plain_read (Case x) _ no_case _ = absurd (no_case x refl)
plain_read (Call x) _ _ no_call = absurd (no_call x refl)

module _ (s : List ℕ) (k last n : ℕ) (p : Pending) (read' : Answer Described Refused) (reported : described read' ≡ on_value shape_of (node_in s k)) where
  -- what is read is the expression's own record
  own_read : {e : Expr} → Here s last k e → described read' ≡ done (shape_of (head_of e))
  own_read {e} h = reported ∙ ap (on_value shape_of) (node_held s h.signed k e h.holds)

  pub at_refused : (x : Refused) (out : Answer Checked Refused) → read' ≡ Err x → IsErrAnd out (λ q. q ≡ x) → Ordered s k last n p out
  at_refused x out is up = rw (raised out up) (record { went_on = stopped (suc k) last x; reports = λ e h. done_not (own_read h) (ap described is) })

  module _ (read : Described) (is : read' ≡ Ok read) where
    own_shape : {e : Expr} → Here s last k e → shape_of (head_of e) ≡ shaped read
    own_shape h = done_injective (sym (own_read h) ∙ ap described is)

    own_kind : (kind : Kind) (e : Expr) → Here s last k e → meant read.node ≡ kind → Shaped kind e
    own_kind kind e h case = subst (λ (x : Kind). Shaped x e) (ap (λ (x : Shape). x.kind) (own_shape h) ∙ case) (shaped_of e)

    pub at_if : (r : Answer Checked Refused) → read.node ≡ IfZero → OrderedIf s k last n p r → Ordered s k last n p r
    at_if r case o = record { went_on = o.went_on; reports = λ e h. by (own_kind an_if_zero e h (ap meant case)) h }
      where
        by : {e : Expr} → Shaped an_if_zero e → Here s last k e → Reports r (k + size e) (walk n k (list_of p) e)
        by (plain never) h = absurd never
        by an_if h = o.reports _ _ _ h

    pub at_case : (r : Answer Checked Refused) (t : TreeName) → read.node ≡ Case t → OrderedCase s t.a k last n p r → Ordered s k last n p r
    at_case r t case o = record { went_on = o.went_on; reports = λ e h. by (own_kind (a_case t.a) e h (ap meant case)) h }
      where
        by : {e : Expr} → Shaped (a_case t.a) e → Here s last k e → Reports r (k + size e) (walk n k (list_of p) e)
        by (plain never) h = absurd never
        by a-case h = o.reports _ _ h

    module _ (count : ℕ) (counted : count ≡ part_count (arity_in s) (listed read.parts)) where
      -- its parts stand from the next record on
      here_parts : {e : Expr} → Here s last k e → HereRow s last (k + 1) (parts_at k e) (k + size e)
      here_parts h = rw add-one (parts_here h)

      count_parts : (e : Expr) → Here s last k e → length (parts_at k e) ≡ count
      count_parts e h =
          parts_counted s h.signed k e h.known h.holds ∙ ap (λ (x : Shape). part_count (arity_in s) x.parts) (own_shape h) ∙ sym counted

      pub at_call : (r : Answer Checked Refused) (c : Called) → read.node ≡ Call c → OrderedCall s c.a count k last n p r → Ordered s k last n p r
      unfolding parts_at
      at_call r c case o = record { went_on = o.went_on; reports = λ e h. by (own_kind (a_call c.a c.b) e h (ap meant case)) h }
        where
          by : {e : Expr} → Shaped (a_call c.a c.b) e → Here s last k e → Reports r (k + size e) (walk n k (list_of p) e)
          by (plain never) h = absurd never
          by (a-call {xs = xs}) h = rw (walk_call n k (list_of p) c.a c.b xs) (o.reports _ _ (here_parts h) (count_parts _ h))

      pub at_parts : (r : Answer Checked Refused) → (read.node ≡ IfZero → ⊥) → ((x : TreeName) → read.node ≡ Case x → ⊥) → ((x : Called) → read.node ≡ Call x → ⊥) → OrderedList s count (k + 1) last n p r → Ordered s k last n p r
      at_parts r no_if_zero no_case no_call o = record {
        went_on = record { went = λ c u. let parts = o.went_on.went c u in record { on = omega (arith, parts.on); inside = parts.inside } };
        reports = λ e h.
            let kind : head_of e ≡ meant read.node = ap (λ (x : Shape). x.kind) (own_shape h) in
            let counts = count_parts e h in
            rw (walk-parts n k (list_of p) e (rw kind (plain_read read.node no_if_zero no_case no_call))) (o.reports _ _ (here_parts h) (omega arith));
      }

pub ruleset ats = (at-end, at_refused, at_if, at_case, at_call, at_parts)

-- ---- `order_function`

module _ (s : List ℕ) (k last : ℕ) (start : Pending) (alone : list_of start ≡ 0 ∷ []) (body' : Answer Checked Refused) (o : Ordered s k last 1 start body') where
  -- the body's walk, from its parameter alone
  body_reported : {e : Expr} → Here s last k e → Reports body' (k + size e) (walk 1 k (0 ∷ []) e)
  body_reported {e} h = rw alone at (o.reports e h)

  pub function_stops : (x : Refused) → body' ≡ Err x → OrderedFunction s k last (Err x)
  function_stops x refused = record { went_on = stopped (suc k) last x; reports = λ e h. stays _ _ (body_reported h) refused }

  module _ (body : Checked) (passed : body' ≡ Ok body) where
    pub function_left : (x : Refused) → x ≡ record { why = OutOfOrder; position = k } → body.pending.len ≢ 0 → OrderedFunction s k last (Err x)
    unfolding none_left
    function_left x at_k left = record {
      went_on = stopped (suc k) last x;
      reports = λ e h. follows _ (body_reported h) passed (record { is = rw (at_k, by_head body.pending _ refl (λ none. left (omega arith))) });
    }

    pub function_none : body.pending.len ≡ 0 → OrderedFunction s k last (Ok body)
    unfolding none_left from_last
    function_none empty = record {
      went_on = record { went = λ c e. o.went_on.went c (passed ∙ e) };
      reports = λ e h. follows _ (body_reported h) passed (record { is = rw ((came (body_reported h) passed).position, counted_list body.pending 0 (omega arith)) });
    }

pub ruleset functions = (function_stops, function_left, function_none)

-- ---- what the calls ask: names stay few, and the records left fall

module _ (k last : ℕ) (c' : Answer Checked Refused) (went_on : WentOn (suc k) last c') (c : Checked) (passed : c' ≡ Ok c) where
  on_inside : (n : ℕ) → Small k last n → Inside c.next last
  on_inside n small = record { before_end = (went_on.went c passed).inside; few = small.inside.few }

  pub few_on : (n : ℕ) → Small k last n → Small c.next last n
  few_on n small = record { inside = on_inside n small; trees = omega (arith, small.trees, (went_on.went c passed).on) }

  pub few_inside : (n : ℕ) → Small k last n → Small c.next last (n + 2)
  few_inside n small = record { inside = on_inside n small; trees = omega (arith, small.trees, (went_on.went c passed).on, (went_on.went c passed).inside) }

  pub fall_list : (t : ℕ) → 3 * (last - k) + 2 ≡ t → 3 * (last - c.next) + 2 < t
  fall_list t h = omega (arith, (went_on.went c passed).on, (went_on.went c passed).inside)

module _ (t k last : ℕ) (is : 3 * (last - k) ≡ t) (c' : Answer Checked Refused) (went_on : WentOn (suc (k + 1)) last c') (c : Checked) (passed : c' ≡ Ok c) where
  pub fall_second : 3 * (last - c.next) + 1 < t
  fall_second = omega (arith, (went_on.went c passed).on, (went_on.went c passed).inside)

  pub fall_third : (d' : Answer Checked Refused) → WentOn (suc c.next) last d' → (d : Checked) → d' ≡ Ok d → 3 * (last - d.next) + 1 < t
  fall_third d' further d passed' =
      omega (arith, (went_on.went c passed).on, (further.went d passed').on, (further.went d passed').inside)

pub ruleset asked = (few_on, few_inside, fall_list, fall_second, fall_third)
