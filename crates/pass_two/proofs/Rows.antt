-- The row "pass two": one function after the other, a law for each way out of the loop, and the row
-- after pass one.
use Prim.Native.Nat.{ℕ, ◌+◌, ◌≤◌, ◌<◌}
use mathlib.Core.List.{List, [], ◌∷◌}
use mathlib.Core.Path.{◌≡◌, refl, sym, ap, ◌∙◌}
use native.Mathlib.Omega.{arith}
use Rattle.std.specs.Prelude.{Result as Answer, Ok, Err}
use Rattle.formats.specs.Numbers.{Bytes}
use Rattle.formats.specs.Results.{Result, done, refusal, and_then, verdict}
use Rattle.formats.specs.Programs.{size, Function, Program, signatures}
use Rattle.formats.specs.Rows.{read_program}
use Rattle.formats.specs.Inner.Fields.{header_in}
use Rattle.formats.proofs.Rows.{flattens}
use Rattle.formats.proofs.Results.{by_result, then_done, then_refused, Followed, then_inv, passed_is}
use Rattle.refusal.specs.Inner.Numbers.{number}
use Rattle.refusal.specs.Inner.Verdicts.{verdict_result}
use Rattle.refusal.specs.declared.Refused.{Refused}
use Rattle.refusal.proofs.Raised.{raised}
use Rattle.std.specs.Result.{IsErrAnd}
use Rattle.rules.specs.PassOne.{pass_one}
use Rattle.rules.specs.Inner.Checks.{check_one}
use Rattle.rules.specs.PassTwo.{walk, none_left, walk_all, pass_two, both_passes, check_records}
use Rattle.walks.specs.Inner.Walks.{Inside, Here}
use Rattle.walks.proofs.Walks.{program_held}
use Rattle.walks.proofs.Functions.{Left, all_left, Turn, turn, none-left}
use Rattle.pass_two.specs.declared.Checked.{Checked}
use Rattle.pass_two.specs.Inner.Walk.{walk_function, OrderedFunction, PassSays}
use Rattle.pass_two.proofs.Answers.{came, stops, tested}

-- ---- `pass`

-- what pass two says of functions, the first of them at record k
abbrev row_two : Program → ℕ → List Function → Result (Unit {0})
row_two program k fs = walk_all k fs

module _ (s : List ℕ) (functions last : ℕ) where
  -- the functions from j on, the first body at record k, decide what pass two says: of every
  -- program that these records are
  pub record Walking (k j : ℕ) : Type 0 where
    pub inside : Inside k last
    pub rest : (program : Program) → read_program s ≡ done program → Left s functions last pass_two row_two program k j

  pub walk_first : (k : ℕ) → Bytes s → verdict (read_program s) ≡ done tt → functions ≡ (header_in s).functions → k ≡ 1 + (header_in s).functions
      → last ≡ 1 + (header_in s).functions + (header_in s).nodes → Walking k 0
  unfolding pass_two
  walk_first k bs read ef ek el =
      let v = passed_is (read_program s) read in
      let h = program_held s v.value bs v.is in
      let few = (flattens s v.value bs v.is).lawful.few_functions in
      let first : k ≡ 1 + functions = omega arith in
      record {
        inside = record { before_end = omega arith; few = omega (arith, h.functions, few, h.few_nodes) };
        rest = rw first (all_left s functions last pass_two row_two (header_in s).nodes bs ef refl (omega arith) (λ program. refl));
      }

  module _ (k j : ℕ) (more : j < functions) (w : Walking k j) (r : Answer Checked Refused) (o : OrderedFunction s k last r) where
    -- function j, and the functions after it
    record Walk (program : Program) : Type 0 where
      at_hand : Turn s functions last pass_two row_two program k j
      here : Here s last k at_hand.here.body
      split : pass_two program ≡ and_then (walk_function k at_hand.here.body) (λ Δ. walk_all (k + size at_hand.here.body) at_hand.others)

    walked : (program : Program) → read_program s ≡ done program → Walk program
    unfolding walk_all
    walked program e =
        let t = turn s functions last pass_two row_two program k j more (w.rest program e) in
        record {
          at_hand = t;
          here = record { signed = signatures program; known = t.known; holds = t.holds; fits = t.fits };
          split = t.left ∙ tested (walk 1 k (0 ∷ []) t.here.body) (none_left k) _;
        }

    pub walk_stops : (x : Refused) (out : Answer (Unit {0}) Refused) → r ≡ Err x → IsErrAnd out (λ q. q ≡ x) → PassSays s out
    walk_stops x out refused up = rw (raised out up) (record {
      is = λ program e. let t = walked program e in sym (t.split ∙ then_refused _ (stops (o.reports t.at_hand.here.body t.here) refused));
    })

    pub walk_more : (c : Checked) → r ≡ Ok c → Walking c.next (j + 1)
    walk_more c passed =
        record {
          inside = record { before_end = (o.went_on.went c passed).inside; few = w.inside.few };
          rest = λ program e.
              let t = walked program e in
              let done = came (o.reports t.at_hand.here.body t.here) passed in
              rw done.position (t.at_hand.later (t.split ∙ then_done _ done.list));
        }

  pub walk-all : (k j : ℕ) → functions ≤ j → Walking k j → PassSays s (Ok tt)
  unfolding walk_all
  walk-all k j over w = record { is = λ program e. sym (none-left s functions last pass_two row_two program k j over (w.rest program e)) }

pub ruleset passed_over = (walk_first, walk_stops, walk_more, walk-all)

-- ---- both passes

module _ (s : List ℕ) (one : Answer (Unit {0}) Refused) (reported : verdict_result one ≡ check_one s) where
  pub order_first : (x : Refused) → one ≡ Err x → refusal (number x.why) x.position ≡ check_records s
  unfolding both_passes check_one check_records
  order_first x case =
      let stop : check_one s ≡ refusal (number x.why) x.position = sym reported ∙ ap verdict_result case in
      by_result (read_program s)
      (λ program e. sym (then_done both_passes e ∙ then_refused _ (sym (then_done pass_one e) ∙ stop)))
      (λ number' position' e. sym stop ∙ then_refused pass_one e ∙ sym (then_refused both_passes e))

  module _ (passed : one ≡ Ok tt) where
    -- the program that passed
    passing : Followed (read_program s) pass_one tt
    unfolding check_one
    passing = then_inv (read_program s) pass_one tt (sym reported ∙ ap verdict_result passed)

    pub order_asked : verdict (read_program s) ≡ done tt
    order_asked = ap verdict passing.first

    pub order_second : (r : Answer (Unit {0}) Refused) → PassSays s r → verdict_result r ≡ check_records s
    unfolding both_passes check_records
    order_second r says = says.is passing.value passing.first ∙ sym (then_done both_passes passing.first ∙ then_done _ passing.second)

pub ruleset orders = (order_first, order_asked, order_second)
