-- The walk over an expression and its parts: a law for each way out of `Walk::enter`, and for the
-- loop over the parts.
use Prim.Native.Nat.{ℕ, suc, ◌+◌, ◌-◌, ◌≤◌, ◌<◌}
use mathlib.Core.Bool.{true}
use mathlib.Core.List.{List}
use mathlib.Core.Path.{◌≡◌, sym, ap, subst, ◌∙◌}
use native.Mathlib.Numerals.{add-one}
use native.Mathlib.Omega.{arith}
use lib.ListN.{length}
use Rattle.std.specs.Prelude.{Result as Answer, Ok, Err}
use Rattle.formats.specs.Results.{Result, done, and_then, on_value}
use Rattle.formats.specs.Records.{Kind, function_below, parts_of, nth_part, part_count}
use Rattle.formats.specs.Programs.{Expr, size, Placed, parts_at}
use Rattle.formats.specs.Inner.Fields.{header_in, arity_in, node_in}
use Rattle.formats.proofs.Results.{done_injective, done_not, then_done, then_refused, value_inv, value_refused}
use Rattle.formats.proofs.Records.{node_below}
use Rattle.formats.proofs.Programs.{some_record}
use Rattle.refusal.specs.Inner.Numbers.{number}
use Rattle.refusal.specs.Inner.Verdicts.{verdict_result}
use Rattle.refusal.specs.declared.Refused.{Refused}
use Rattle.refusal.proofs.Raised.{raised}
use Rattle.std.specs.Result.{IsErrAnd}
use Rattle.records.specs.Inner.Read.{Shape, meant, part_of, listed, shape_of, shaped, described}
use Rattle.records.specs.declared.Part.{Part}
use Rattle.records.specs.declared.Parts.{Parts}
use Rattle.records.specs.declared.Described.{Described}
use Rattle.rules.specs.Scopes.{inside, part_scope, entry, entered}
use Rattle.rules.specs.PassOne.{at_entry, pass_over}
use Rattle.rules.proofs.Entries.{part_scopes}
use Rattle.walks.specs.Inner.Standing.{head_of, pass_parts}
use Rattle.walks.specs.Inner.Walks.{Went, Here, HereRow, PartsFrom}
use Rattle.walks.proofs.Walks.{node_held, parts_counted, pass-parts, FirstOf, row_first, row_none}
use Rattle.walks.proofs.Here.{parts_after, first_of, others_of}
use Rattle.pass_one.specs.Inner.Walk.{scope_of, reported, Fits, FitsParts, Tested, Entered}
use Rattle.pass_one.specs.declared.Scope.{Scope}
use Rattle.pass_one.proofs.PartScopes.{inside_fits}

-- Pass one over the parts of a record from part i on, `count` in all, the next of them at record k;
-- for the kind whose parts these are.
pub record EnteredParts (s : List ℕ) (parts : Parts) (i count k end : ℕ) (c : Scope) (r : Answer ℕ Refused) : Type 0 where
  pub went : (next : ℕ) → r ≡ Ok next → Went k end next
  pub is : (kind : Kind) (ps : List Placed) (m : ℕ) (here : HereRow s end k ps m)
      → PartsFrom s (listed parts) kind i count ps
      → reported r ≡ on_value (λ u. m) (pass_parts here.signed kind i (scope_of c) ps)

-- The parts of the record at k from part i on, which is at record `next`, decide what is answered.
pub record Entering (s : List ℕ) (parts : Parts) (i count next k end : ℕ) (c : Scope) : Type 0 where
  pub fits : FitsParts i next end (scope_of c)
  pub on : k < next
  pub rest : (r : Answer ℕ Refused) → EnteredParts s parts i count next end c r → Entered s k end c r

-- a refusal comes to no record
stopped : {A : Type 0} {r : Refused} {next : ℕ} → ◌≡◌ {A = Answer ℕ Refused} (Err r) (Ok next) → A
stopped e = let z : ◌≡◌ {A = ℕ} 0 1 = cc in absurd (omega arith)

-- ---- `enter`

module _ (s : List ℕ) (k end : ℕ) (c : Scope) where
  pub enter_past : (r : Refused) → end ≤ k → Entered s k end c (Err r)
  enter_past r over = record { went = λ next e. stopped e; is = λ e h. absurd (omega (arith, some_record e, h.fits)) }

  -- the expression's own record is read as its kind
  own_node : {e : Expr} → Here s end k e → node_in s k ≡ done (head_of e)
  own_node {e} h = node_held s h.signed k e h.holds

  module _ (found : Answer Described Refused) (is_found : described found ≡ on_value shape_of (node_in s k)) where
    pub enter_unread : (r : Refused) (out : Answer ℕ Refused) → found ≡ Err r → IsErrAnd out (λ q. q ≡ r) → Entered s k end c out
    enter_unread r out case up = rw (raised out up) (record {
      went = λ next e. stopped e;
      is = λ e h. done_not (ap (on_value shape_of) (own_node h)) (sym is_found ∙ ap described case);
    })

    module _ (read : Described) (case : found ≡ Ok read) where
      -- the record read is the expression's own
      own_shape : {e : Expr} → Here s end k e → shaped read ≡ shape_of (head_of e)
      own_shape h = done_injective (ap described (sym case) ∙ is_found ∙ ap (on_value shape_of) (own_node h))

      own_kind : {e : Expr} → Here s end k e → meant read.node ≡ head_of e
      own_kind h = ap (λ (shape : Shape). shape.kind) (own_shape h)

      module _ (own : Answer (Unit {0}) Refused) (tested : Tested s c k read.node own) where
        -- its own tests give the verdict on entering it
        own_said : {e : Expr} (h : Here s end k e) → verdict_result own ≡ at_entry h.signed (entry (scope_of c) k (head_of e))
        own_said {e} h =
            let same = own_kind h in
            let low : function_below (header_in s).functions (meant read.node) ≡ true = rw same (node_below s k (head_of e) (own_node h)) in
            tested.is h.signed h.known low ∙ ap (λ kind. at_entry h.signed (entry (scope_of c) k kind)) same

        pub enter_refused : (r : Refused) (out : Answer ℕ Refused) → own ≡ Err r → IsErrAnd out (λ q. q ≡ r) → Entered s k end c out
        enter_refused r out fails up = rw (raised out up) (record {
          went = λ next e. stopped e;
          is = λ e h.
              sym (ap (on_value (λ u. k + size e)) (pass-parts h.signed (scope_of c) k e ∙ then_refused _ (sym (own_said h) ∙ ap verdict_result fails)));
        })

        pub enter_passed : (count : ℕ) → own ≡ Ok tt → count ≡ part_count (arity_in s) (listed read.parts) → k < end → Fits k end (scope_of c)
            → Entering s read.parts 0 count (k + 1) k end c
        enter_passed count passes many more fits = record {
          fits = record {
            inside = record { before_end = omega arith; few = fits.inside.few };
            numbers = omega (arith, fits.numbers);
            trees = omega (arith, fits.trees);
            words = omega (arith, fits.words);
          };
          on = omega arith;
          rest = λ r walked. record {
            went = λ next e. let w = walked.went next e in record { on = omega (arith, w.on); inside = w.inside };
            is = λ e h.
                let own_parts : listed read.parts ≡ parts_of (head_of e) = ap (λ (shape : Shape). shape.parts) (own_shape h) in
                let own_count = many ∙ ap (part_count (arity_in s)) own_parts in
                let all : 0 + length (parts_at k e) ≡ count = omega (arith, own_count, parts_counted s h.signed k e h.known h.holds) in
                walked.is (head_of e) (parts_at k e) (k + size e) (parts_after h) (record { own = own_parts; many = own_count; left = all })
                ∙ ap (on_value (λ u. k + size e)) (sym (pass-parts h.signed (scope_of c) k e ∙ then_done _ (sym (own_said h) ∙ ap verdict_result passes)));
          };
        }

-- ---- the parts

module _ (s : List ℕ) (parts : Parts) (i count k end : ℕ) (c : Scope) where
  pub parts_none : count ≤ i → k ≤ end → EnteredParts s parts i count k end c (Ok k)
  unfolding pass_parts
  parts_none none upto = record {
    went = λ next e. let same : k ≡ next = cc in record { on = omega arith; inside = omega arith };
    is = λ kind ps m h from.
        let nothing = row_none h.row (omega (arith, from.left)) in
        sym (ap (λ ps. on_value (λ u. m) (pass_parts h.signed kind i (scope_of c) ps)) nothing.0 ∙ ap done nothing.1);
  }

  module _ (part : Part) (inner : Scope) (walked : Answer ℕ Refused) (more : i < count) (is_part : part_of part ≡ nth_part (listed parts) i)
      (is_inner : scope_of inner ≡ part_scope (part_of part) i (scope_of c)) (w : Entered s k end inner walked) where
    -- what is known in the part is what its record's kind says
    own_scope : {kind : Kind} {ps : List Placed} → PartsFrom s (listed parts) kind i count ps → scope_of inner ≡ inside kind i (scope_of c)
    own_scope {kind} from =
        is_inner
        ∙ ap (λ p. part_scope p i (scope_of c)) (is_part ∙ ap (λ ps. nth_part ps i) from.own)
        ∙ sym (part_scopes (arity_in s) kind i (scope_of c) (omega (arith, from.many)))

    -- the next part, and those after it
    record Turn (kind : Kind) (ps : List Placed) (m : ℕ) (h : HereRow s end k ps m) : Type 0 where
      first : FirstOf s h.signed k ps m
      over : Result (Unit {0})
      here : reported walked ≡ on_value (λ u. k + size first.expr) over
      split : pass_parts h.signed kind i (scope_of c) ps ≡ and_then over (λ u. pass_parts h.signed kind (suc i) (scope_of c) first.others)

    turn : (kind : Kind) (ps : List Placed) (m : ℕ) (h : HereRow s end k ps m) → PartsFrom s (listed parts) kind i count ps → Turn kind ps m h
    unfolding pass_parts
    turn kind ps m h from =
        let f = row_first h.row (omega (arith, from.left)) in
        record {
          first = f;
          over = pass_over h.signed (entered (inside kind i (scope_of c)) k f.expr);
          here =
              w.is f.expr (first_of h f)
              ∙ ap (λ sc. on_value (λ u. k + size f.expr) (pass_over h.signed (entered sc k f.expr))) (own_scope from);
          split = ap (pass_parts h.signed kind i (scope_of c)) f.both;
        }

    pub parts_refused : (r : Refused) → walked ≡ Err r → EnteredParts s parts i count k end c (Err r)
    parts_refused r case = record {
      went = λ next e. stopped e;
      is = λ kind ps m h from.
          let t = turn kind ps m h from in
          sym (ap (on_value (λ u. m)) (t.split ∙ then_refused _ (value_refused (λ u. k + size t.first.expr) t.over (number r.why) r.position (sym t.here ∙ ap reported case))));
    }

    pub parts_more : (next : ℕ) (r : Answer ℕ Refused) → walked ≡ Ok next → EnteredParts s parts (i + 1) count next end c r → EnteredParts s parts i count k end c r
    parts_more next r case others = record {
      went = λ last e.
          let rest = others.went last e in
          record { on = omega (arith, rest.on, (w.went next case).on); inside = rest.inside };
      is = λ kind ps m h from.
          let t = turn kind ps m h from in
          let f = t.first in
          let v = value_inv (λ u. k + size f.expr) t.over next (sym t.here ∙ ap reported case) in
          let long : length ps ≡ suc (length f.others) = ap length f.both in
          others.is kind f.others m (others_of h f next (sym v.second)) (record { own = from.own; many = from.many; left = omega (arith, from.left) })
          ∙ ap (on_value (λ u. m)) (ap (λ j. pass_parts h.signed kind j (scope_of c) f.others) (add-one i) ∙ sym (t.split ∙ then_done _ v.first));
    }

    pub again : (next : ℕ) → walked ≡ Ok next → FitsParts i k end (scope_of c) → FitsParts (i + 1) next end (scope_of c)
    again next case fits =
        let o = w.went next case in
        record {
          inside = record { before_end = o.inside; few = fits.inside.few };
          numbers = omega (arith, fits.numbers, o.on);
          trees = omega (arith, fits.trees, o.on);
          words = omega (arith, fits.words, o.on, o.inside);
        }

-- ---- the loop

module _ (s : List ℕ) (parts : Parts) (i count next k end : ℕ) (c : Scope) (g : Entering s parts i count next k end c) where
  pub enter_all : count ≤ i → Entered s k end c (Ok next)
  enter_all none = g.rest _ (parts_none s parts i count next end c none g.fits.inside.before_end)

  -- what fits the parts fits the next of them, and fewer records are left for it
  pub into : (part : Part) (inner : Scope) → scope_of inner ≡ part_scope (part_of part) i (scope_of c) → Fits next end (scope_of inner)
  into part inner e = subst (Fits next end) (sym e) (inside_fits (part_of part) i next end (scope_of c) g.fits)

  pub fewer : (t : ℕ) → end - k ≡ t → end - next < t
  fewer t e = omega (arith, g.on, g.fits.inside.before_end)

  module _ (part : Part) (inner : Scope) (walked : Answer ℕ Refused) (more : i < count) (is_part : part_of part ≡ nth_part (listed parts) i)
      (is_inner : scope_of inner ≡ part_scope (part_of part) i (scope_of c)) (w : Entered s next end inner walked) where
    pub enter_stopped : (r : Refused) (out : Answer ℕ Refused) → walked ≡ Err r → IsErrAnd out (λ q. q ≡ r) → Entered s k end c out
    enter_stopped r out case up = rw (raised out up) (g.rest _ (parts_refused s parts i count next end c part inner walked more is_part is_inner w r case))

    pub enter_more : (after : ℕ) → walked ≡ Ok after → Entering s parts (i + 1) count after k end c
    enter_more after case = record {
      fits = again s parts i count next end c part inner walked more is_part is_inner w after case g.fits;
      on = omega (arith, g.on, (w.went after case).on);
      rest = λ r others. g.rest r (parts_more s parts i count next end c part inner walked more is_part is_inner w after r case others);
    }

pub ruleset entering = (enter_past, enter_unread, enter_refused, enter_passed, enter_all, enter_stopped, enter_more, into, fewer)
