-- Pass one over the functions one after the other: a law for each way out of `start`, `pass` and
-- `check_pass_one`.
use Prim.Native.Nat.{ℕ, ◌+◌, ◌≤◌, ◌<◌}
use mathlib.Core.List.{List}
use mathlib.Core.Path.{◌≡◌, refl, sym, ap, ap₂, subst, ◌∙◌}
use native.Mathlib.Omega.{arith}
use lib.Dec.{eqb}
use Rattle.std.specs.Prelude.{Result as Answer, Ok, Err, Bool}
use Rattle.formats.specs.Numbers.{Bytes}
use Rattle.formats.specs.Results.{Result, done, refusal, and_then, on_value, verdict}
use Rattle.formats.specs.Programs.{size, Sort, number_valued, tree_valued, sort_number, Function, signature_of, Program, signatures}
use Rattle.formats.specs.Rows.{read_program}
use Rattle.formats.specs.Inner.Fields.{header_in, sort_in, arity_in}
use Rattle.formats.proofs.Results.{Value, then_done, then_refused, value_inv, passed_is, refused_is, value_refused}
use Rattle.formats.proofs.Rows.{function_read, flattens}
use Rattle.refusal.specs.Inner.Numbers.{number}
use Rattle.refusal.specs.Inner.Verdicts.{verdict_result}
use Rattle.refusal.specs.declared.Refused.{Refused}
use Rattle.refusal.proofs.Raised.{raised}
use Rattle.std.specs.Result.{IsErrAnd}
use Rattle.rules.specs.Types.{result_type}
use Rattle.rules.specs.Scopes.{scope, start_of, entered, entered_all}
use Rattle.rules.specs.PassOne.{pass_over, pass_one}
use Rattle.rules.specs.Inner.Checks.{check_one}
use Rattle.rules.proofs.PassOne.{pass_join}
use Rattle.walks.specs.Inner.Walks.{Inside}
use Rattle.walks.proofs.Walks.{program_held}
use Rattle.walks.proofs.Functions.{Left, all_left, Turn, turn, none-left}
use Rattle.pass_one.specs.Inner.Walk.{expected, scope_of, reported, Fits, Entered, Starts, PassSays}
use Rattle.pass_one.specs.declared.Scope.{Scope}

-- ---- `start`

type_of : (sort : Sort) (n : ℕ) → sort_number sort ≡ n → expected (eqb n 1) ≡ result_type sort
unfolding sort_number result_type
type_of number_valued n e = ap (λ m. expected (eqb m 1)) (sym e)
type_of tree_valued n e = ap (λ m. expected (eqb m 1)) (sym e)

pub started : (s : List ℕ) (j m : ℕ) (t : Bool) → m ≡ arity_in s j → t ≡ eqb (sort_in s j) 1
    → Starts s j (record { numbers = m; trees = 1; words = m; tree = t })
unfolding start_of signature_of
started s j m t em et = record {
  is = λ f e few.
      let r = function_read s j (signature_of f) e in
      ap₂ (λ p τ. scope p 1 p τ) (em ∙ sym r.arity) (ap expected et ∙ type_of f.sort (sort_in s j) r.sort);
}

-- ---- `pass`

-- what pass one says of functions, the first of them at record k
abbrev row_one : Program → ℕ → List Function → Result (Unit {0})
row_one program k fs = pass_over (signatures program) (entered_all k fs)

-- the functions from j on, the first body at record k, decide what pass one says: of every program
-- that these records are
pub record Walking (s : List ℕ) (functions end k j : ℕ) : Type 0 where
  pub some_program : Value (read_program s)
  pub inside : Inside k end
  pub rest : (program : Program) → read_program s ≡ done program → Left s functions end pass_one row_one program k j

pub walk_none : (s : List ℕ) (functions end k : ℕ) → Bytes s → verdict (read_program s) ≡ done tt → functions ≡ (header_in s).functions
    → k ≡ 1 + (header_in s).functions → end ≡ 1 + (header_in s).functions + (header_in s).nodes → Walking s functions end k 0
unfolding pass_one
walk_none s functions end k bytes read ef ek ee =
    let v = passed_is (read_program s) read in
    let h = program_held s v.value bytes v.is in
    let few = (flattens s v.value bytes v.is).lawful.few_functions in
    let first : k ≡ 1 + functions = omega arith in
    record {
      some_program = v;
      inside = record { before_end = omega arith; few = omega (arith, h.functions, few, h.few_nodes) };
      rest = rw first (all_left s functions end pass_one row_one (header_in s).nodes bytes ef refl (omega arith) (λ program. refl));
    }

module _ (s : List ℕ) (functions end k j : ℕ) where
  pub walk-all : functions ≤ j → Walking s functions end k j → PassSays s (Ok tt)
  unfolding entered_all pass_over
  walk-all over w = record { is = λ program e. sym (none-left s functions end pass_one row_one program k j over (w.rest program e)) }

  -- its counts are small: a program's function has few parameters
  pub walk_asked : (c : Scope) → j < functions → Walking s functions end k j → Starts s j c → Fits k end (scope_of c)
  unfolding start_of
  walk_asked c more w starts =
      let v = w.some_program in
      let t = turn s functions end pass_one row_one v.value k j more (w.rest v.value v.is) in
      subst (Fits k end) (sym (starts.is t.here t.signed t.few))
      (record {
        inside = w.inside;
        numbers = omega (arith, t.few, w.inside.few);
        trees = omega (arith, w.inside.few);
        words = omega (arith, t.few, w.inside.few);
      })

  module _ (c : Scope) (walked : Answer ℕ Refused) (more : j < functions) (w : Walking s functions end k j) (starts : Starts s j c) (is : Entered s k end c walked) where
    -- the body of function j, what its walk reports, and the functions after it
    record Walk (program : Program) : Type 0 where
      at_hand : Turn s functions end pass_one row_one program k j
      over : Result (Unit {0})
      is_reported : reported walked ≡ on_value (λ u. k + size at_hand.here.body) over
      split : pass_one program ≡ and_then over (λ u. row_one program (k + size at_hand.here.body) at_hand.others)

    walk : (program : Program) → read_program s ≡ done program → Walk program
    unfolding entered_all
    walk program e =
        let t = turn s functions end pass_one row_one program k j more (w.rest program e) in
        let f = t.here in
        let gs = signatures program in
        record {
          at_hand = t;
          over = pass_over gs (entered (start_of f) k f.body);
          is_reported =
              is.is f.body (record { signed = gs; known = t.known; holds = t.holds; fits = t.fits })
              ∙ ap (λ sc. on_value (λ u. k + size f.body) (pass_over gs (entered sc k f.body))) (starts.is f t.signed t.few);
          split = t.left ∙ pass_join gs _ _;
        }

    pub walk_more : (next : ℕ) → walked ≡ Ok next → Walking s functions end next (j + 1)
    walk_more next case = record {
      some_program = w.some_program;
      inside = record { before_end = (is.went next case).inside; few = w.inside.few };
      rest = λ program e.
          let t = walk program e in
          let v = value_inv (λ u. k + size t.at_hand.here.body) t.over next (sym t.is_reported ∙ ap reported case) in
          subst (λ m. Left s functions end pass_one row_one program m (j + 1)) v.second (t.at_hand.later (t.split ∙ then_done _ v.first));
    }

    pub walk_refused : (r : Refused) (out : Answer (Unit {0}) Refused) → walked ≡ Err r → IsErrAnd out (λ q. q ≡ r) → PassSays s out
    walk_refused r out case up = rw (raised out up) (record {
      is = λ program e.
          let t = walk program e in
          sym (t.split ∙ then_refused _ (value_refused (λ u. k + size t.at_hand.here.body) t.over (number r.why) r.position (sym t.is_reported ∙ ap reported case)));
    })

pub ruleset walking = (walk_none, walk_asked, walk_more, walk_refused, walk-all)

-- ---- `check_pass_one`

module _ (s : List ℕ) (rows : Answer (Unit {0}) Refused) (is : verdict_result rows ≡ verdict (read_program s)) where
  pub rows_refused : (r : Refused) → rows ≡ Err r → refusal (number r.why) r.position ≡ check_one s
  unfolding check_one
  rows_refused r case = sym (then_refused pass_one (refused_is (read_program s) (number r.why) r.position (sym is ∙ ap verdict_result case)))

  pub rows_passed : (r : Answer (Unit {0}) Refused) → rows ≡ Ok tt → PassSays s r → verdict_result r ≡ check_one s
  unfolding check_one
  rows_passed r passes says =
      let v = passed_is (read_program s) (sym is ∙ ap verdict_result passes) in
      says.is v.value v.is ∙ sym (then_done pass_one v.is)

  pub rows_read : rows ≡ Ok tt → verdict (read_program s) ≡ done tt
  rows_read passes = sym is ∙ ap verdict_result passes

pub ruleset checked = (rows_refused, rows_read, rows_passed)
