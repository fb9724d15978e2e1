-- IfZero, Case, and where their branches join: a law for each way out of their functions.
use Prim.Native.Nat.{ℕ, suc, ◌+◌, ◌<◌}
use mathlib.Core.Bool.{Bool, true, false}
use mathlib.Core.List.{List, ◌∷◌}
use mathlib.Core.Path.{◌≡◌, refl, sym, ap, ◌∙◌}
use native.Mathlib.Numerals.{add-one, add-two}
use native.Mathlib.Omega.{arith}
use borrow.Author.Tests.{leb-true, leb-false, lt-ltb, le-ltb}
use lib.Dec.{leb, ltb}
use lib.ListN.{length}
use Rattle.std.specs.Prelude.{Result as Answer, Ok, Err, Option, Some, ok_or}
use Rattle.formats.specs.Refusals.{too_many_pending}
use Rattle.formats.specs.Results.{done, on_value}
use Rattle.formats.specs.Programs.{Expr, case_of, if_zero, size, parts_at}
use Rattle.formats.proofs.Results.{then_done, then_refused}
use Rattle.refusal.specs.declared.Refusal.TheVariants.{OutOfOrder, TooManyPending}
use Rattle.refusal.specs.declared.Refused.{Refused}
use Rattle.refusal.proofs.Raised.{raised}
use Rattle.std.specs.Result.{IsErrAnd}
use Rattle.rules.specs.Limits.{most_pending}
use Rattle.rules.specs.PassOne.{holds_at}
use Rattle.rules.specs.PassTwo.{same_names, equal_branches, walk}
use Rattle.walks.specs.Inner.Walks.{Here}
use Rattle.walks.proofs.Lists.{row_last}
use Rattle.walks.proofs.Here.{parts_here, first_here, rest_here}
use Rattle.pending.specs.Inner.List.{list_of, Took, put_two}
use Rattle.pending.specs.declared.Pending.{Pending}
use Rattle.pending.proofs.Laws.{not_taken, is_taken, two_fit}
use Rattle.pass_two.specs.declared.Checked.{Checked}
use Rattle.pass_two.specs.Inner.Walk.{stand, Reports, Joined, Ordered, OrderedCase, OrderedIf}
use Rattle.pass_two.proofs.Answers.{never, is_there, is_absent, its_refusal, came, follows, stays, refuses, stopped, both_joined}

-- ---- `equal_branches`

module _ (one : Pending) (other : Checked) (k : ℕ) (same : Bool)
    (reported : same ≡ same_names (list_of one) (list_of other.pending))
  where
    pub join_same : same ≡ true → Joined one other k (Ok other)
    join_same h = record { reports = record { is = rw (sym reported ∙ h) }; on = λ c e. cc }

    pub join_other : (x : Refused) → x ≡ record { why = OutOfOrder; position = k } → same ≡ false → Joined one other k (Err x)
    join_other x at_k h = record { reports = record { is = rw (at_k, sym reported ∙ h) }; on = λ c e. never refl e }

pub ruleset joins = (join_same, join_other)

-- ---- `order_if`

module _ (s : List ℕ) (k last n : ℕ) (p : Pending) (test' : Answer Checked Refused) (ot : Ordered s (k + 1) last n p test') where
  -- what the test reports, and then the two parts
  if_reported : {t x y : Expr} → Here s last k (if_zero t x y) → Reports test' (suc k + size t) (walk n (suc k) (list_of p) t)
  unfolding parts_at
  if_reported {t} h = let o : Ordered s (suc k) last n p test' = rw add-one at ot in o.reports t (first_here (parts_here h))

  pub if_test : (x : Refused) (out : Answer Checked Refused) → test' ≡ Err x → IsErrAnd out (λ q. q ≡ x) → OrderedIf s k last n p out
  unfolding walk
  if_test x out refused up = rw (raised out up) (record { went_on = stopped (suc k) last x; reports = λ t x y h. stays _ _ (if_reported h) refused })

  module _ (test : Checked) (passed : test' ≡ Ok test) (zero' : Answer Checked Refused) (oz : Ordered s test.next last n test.pending zero') where
    zero_reported : {t x y : Expr} → Here s last k (if_zero t x y) → Reports zero' (suc k + size t + size x) (walk n (suc k + size t) (list_of test.pending) x)
    unfolding parts_at
    zero_reported {t} {x} h =
        let o : Ordered s (suc k + size t) last n test.pending zero' = rw (came (if_reported h) passed).position at oz in
        o.reports x (first_here (rest_here (parts_here h)))

    pub if-zero : (x : Refused) (out : Answer Checked Refused) → zero' ≡ Err x → IsErrAnd out (λ q. q ≡ x) → OrderedIf s k last n p out
    unfolding walk equal_branches
    if-zero x out refused up = rw (raised out up) (record {
      went_on = stopped (suc k) last x;
      reports = λ t x y h. follows _ (if_reported h) passed (stays _ _ (zero_reported h) refused);
    })

    module _ (zero : Checked) (zero_passed : zero' ≡ Ok zero) (other' : Answer Checked Refused) (oo : Ordered s zero.next last n test.pending other') where
      other_reported : {t x y : Expr} → Here s last k (if_zero t x y)
          → Reports other' (k + size (if_zero t x y)) (walk n (suc k + size t + size x) (list_of test.pending) y)
      unfolding parts_at
      other_reported {t} {x} {y} h =
          let o : Ordered s (suc k + size t + size x) last n test.pending other' = rw (came (zero_reported h) zero_passed).position at oo in
          let here = rest_here (rest_here (parts_here h)) in
          rw (row_last here.row) at (o.reports y (first_here here))

      pub if_other : (x : Refused) (out : Answer Checked Refused) → other' ≡ Err x → IsErrAnd out (λ q. q ≡ x) → OrderedIf s k last n p out
      unfolding walk equal_branches
      if_other x out refused up = rw (raised out up) (record {
        went_on = stopped (suc k) last x;
        reports = λ t x y h. follows _ (if_reported h) passed (follows _ (zero_reported h) zero_passed (stays _ _ (other_reported h) refused));
      })

      pub if_joined : (other : Checked) (r : Answer Checked Refused) → other' ≡ Ok other → Joined zero.pending other k r → OrderedIf s k last n p r
      unfolding walk
      if_joined other r other_passed j = record {
        went_on = record {
          went = λ c e.
              let first = ot.went_on.went test passed in
              let second = oz.went_on.went zero zero_passed in
              let third = oo.went_on.went other other_passed in
              let on = j.on c e in
              record { on = omega (arith, first.on, second.on, third.on, on); inside = omega (arith, third.inside, on) };
        };
        reports = λ t x y h. follows _ (if_reported h) passed (both_joined (zero_reported h) zero_passed (other_reported h) other_passed j);
      }

pub ruleset ifs = (if_test, if-zero, if_other, if_joined)

-- ---- `order_case`

module _ (s : List ℕ) (a k last n : ℕ) (p : Pending) (taken : Option Pending) (took : Took p a taken)
    (tried : Answer Pending Refused) (made : Refused) (tries : tried ≡ ok_or taken made)
  where
    pub case_other : (x : Refused) (out : Answer Checked Refused) → made ≡ record { why = OutOfOrder; position = k } → tried ≡ Err x → IsErrAnd out (λ q. q ≡ x) → OrderedCase s a k last n p out
    unfolding walk
    case_other x out at_k refused up =
        rw (raised out up) (let absent = is_absent taken made x (sym tries ∙ refused) in
        let is : x ≡ record { why = OutOfOrder; position = k } = its_refusal taken made x (sym tries ∙ refused) ∙ at_k in
        record { went_on = stopped (suc k) last x; reports = λ v w h. rw is (refuses (then_refused _ (not_taken p a k taken took absent))) })

    module _ (rest : Pending) (there : tried ≡ Ok rest) (full : Bool) (reported : full ≡ leb most_pending (length (list_of p))) where
      head : taken ≡ Some rest
      head = is_there taken made rest (sym tries ∙ there)

      pub case_full : (x : Refused) → x ≡ record { why = TooManyPending; position = k } → full ≡ true → OrderedCase s a k last n p (Err x)
      unfolding walk
      case_full x at_k is = record {
        went_on = stopped (suc k) last x;
        reports = λ v w h.
            let no_room = le-ltb (length (list_of p)) most_pending (leb-true _ _ (sym reported ∙ is)) in
            rw at_k (refuses (then_done _ (is_taken p a k taken took rest head) ∙ rw no_room));
      }

      module _ (fits : full ≡ false) (leaf' : Answer Checked Refused) (ol : Ordered s (k + 1) last n rest leaf') where
        room : length (list_of p) < most_pending
        room = leb-false most_pending (length (list_of p)) (sym reported ∙ fits)

        -- the head is taken; then both parts follow
        begun : {r : Answer Checked Refused} {m : ℕ} (x y : Expr)
            → Reports r m (equal_branches k (walk n (suc k) (list_of rest) x) (walk (suc (suc n)) (suc k + size x) (n ∷ (suc n ∷ list_of rest)) y))
            → Reports r m (walk n k (list_of p) (case_of a x y))
        unfolding walk
        begun {m = m} x y then =
            let fits : holds_at (ltb (length (list_of p)) most_pending) too_many_pending k ≡ done tt = rw (lt-ltb _ _ room) in
            record { is = then.is ∙ sym (ap (on_value (stand m)) (then_done _ (is_taken p a k taken took rest head) ∙ then_done _ fits)) }

        leaf_reported : {x y : Expr} → Here s last k (case_of a x y) → Reports leaf' (suc k + size x) (walk n (suc k) (list_of rest) x)
        unfolding parts_at
        leaf_reported {x} h = let o : Ordered s (suc k) last n rest leaf' = rw add-one at ol in o.reports x (first_here (parts_here h))

        pub case_leaf : (x : Refused) (out : Answer Checked Refused) → leaf' ≡ Err x → IsErrAnd out (λ q. q ≡ x) → OrderedCase s a k last n p out
        unfolding equal_branches
        case_leaf x out refused up = rw (raised out up) (record { went_on = stopped (suc k) last x; reports = λ x y h. begun x y (stays _ _ (leaf_reported h) refused) })

        module _ (leaf : Checked) (leaf_passed : leaf' ≡ Ok leaf) (inner : Pending) (put : list_of inner ≡ put_two n (n + 1) (list_of rest))
            (node' : Answer Checked Refused) (on : Ordered s leaf.next last (n + 2) inner node')
          where
            node_reported : {x y : Expr} → Here s last k (case_of a x y)
                → Reports node' (k + size (case_of a x y)) (walk (suc (suc n)) (suc k + size x) (n ∷ (suc n ∷ list_of rest)) y)
            unfolding parts_at
            node_reported {x} {y} h =
                let o : Ordered s (suc k + size x) last (suc (suc n)) inner node' = rw ((came (leaf_reported h) leaf_passed).position, add-two n) at on in
                let here = rest_here (parts_here h) in
                let trees : list_of inner ≡ n ∷ (suc n ∷ list_of rest) = rw add-one at (put ∙ two_fit p a k taken took rest head n (n + 1) room) in
                rw (row_last here.row, trees) at (o.reports y (first_here here))

            pub case_node : (x : Refused) (out : Answer Checked Refused) → node' ≡ Err x → IsErrAnd out (λ q. q ≡ x) → OrderedCase s a k last n p out
            unfolding equal_branches
            case_node x out refused up = rw (raised out up) (record {
              went_on = stopped (suc k) last x;
              reports = λ x y h. begun x y (follows _ (leaf_reported h) leaf_passed (stays _ _ (node_reported h) refused));
            })

            pub case_joined : (node : Checked) (r : Answer Checked Refused) → node' ≡ Ok node → Joined leaf.pending node k r → OrderedCase s a k last n p r
            case_joined node r node_passed j = record {
              went_on = record {
                went = λ c e.
                    let first = ol.went_on.went leaf leaf_passed in
                    let second = on.went_on.went node node_passed in
                    let further = j.on c e in
                    record { on = omega (arith, first.on, second.on, further); inside = omega (arith, second.inside, further) };
              };
              reports = λ x y h. begun x y (both_joined (leaf_reported h) leaf_passed (node_reported h) node_passed j);
            }

pub ruleset cases = (case_other, case_full, case_leaf, case_node, case_joined)
