-- The row "prefix form": one function after the other, each with its records; a law for each way
-- out of the loop.
use Prim.Native.Nat.{ℕ, suc, ◌+◌, ◌-◌, ◌*◌, ◌≤◌, ◌<◌}
use mathlib.Core.Bool.{Bool, true, false, not}
use mathlib.Core.List.{List, [], ◌∷◌}
use mathlib.Core.Path.{◌≡◌, refl, sym, ap, ◌∙◌}
use native.Mathlib.Nat.{sub-zero}
use native.Mathlib.Numerals.{add-one}
use native.Mathlib.Omega.{arith}
use borrow.Author.Tests.{not-true, not-false}
use lib.ListN.{take, drop}
use Rattle.formats.specs.Refusals.{prefix_form}
use Rattle.formats.specs.Results.{Result, done, refusal, and_then, value_if, verdict, each}
use Rattle.formats.specs.Records.{Kind, record_at}
use Rattle.formats.specs.Programs.{Expr, Signature, arity_of, sum_of_counts, Function}
use Rattle.formats.specs.Rows.{function_row, node_row, exprs_of, exactly_one, bodies, prefix_row}
use Rattle.formats.specs.Inner.Fields.{header_in, function_in, count_in, node_in}
use Rattle.formats.proofs.Results.{then_done, then_refused, each_inv, each_none, each_front, test_holds, test_fails, passed_is, refused_is, each_after}
use Rattle.formats.proofs.Rows.{function_read, summed_inv, row_read, arity_read}
use Rattle.refusal.specs.Inner.Numbers.{number}
use Rattle.refusal.specs.declared.Refusal.TheVariants.{PrefixForm}
use Rattle.refusal.specs.declared.Refused.{Refused}
use Rattle.program.specs.Inner.Prefix.{IsOne, PrefixSays}

-- a function's check in front of the others'
body_passed : (arity : ℕ → ℕ) (g : Signature) (gs : List Signature) (ks : List Kind) (r : ℕ)
    → verdict (exactly_one r (exprs_of arity (take g.count ks))) ≡ done tt
    → verdict (bodies arity (g ∷ gs) ks r) ≡ verdict (bodies arity gs (drop g.count ks) (r + g.count))
unfolding bodies
body_passed arity g gs ks r e =
    let v = passed_is (exactly_one r (exprs_of arity (take g.count ks))) e in
    ap verdict (then_done _ v.is) ∙ same (bodies arity gs (drop g.count ks) (r + g.count)) v.value
  where
    same : (fs : Result (List Function)) (x : Expr)
        → verdict (and_then fs (λ l. done (record { sort = g.sort; parameters = g.parameters; body = x } ∷ l))) ≡ verdict fs
    same (done l) x = refl
    same (refusal number position) x = refl

body_refused : (arity : ℕ → ℕ) (g : Signature) (gs : List Signature) (ks : List Kind) (r number position : ℕ)
    → verdict (exactly_one r (exprs_of arity (take g.count ks))) ≡ refusal number position → verdict (bodies arity (g ∷ gs) ks r) ≡ refusal number position
unfolding bodies
body_refused arity g gs ks r number position e =
    ap verdict (then_refused _ (refused_is (exactly_one r (exprs_of arity (take g.count ks))) number position e))

-- ---- `prefix_row`

module _ (s : List ℕ) (functions : ℕ) where
  -- the functions from j on, whose records begin at the first, say what the whole row does
  pub record Left (gs : List Signature) (ks : List Kind) (first j : ℕ) : Type 0 where
    pub signed : List Signature
    pub kinds : List Kind
    pub signed_read : each (function_in s) (functions - j) j ≡ done signed
    pub kinds_read : each (node_in s) (sum_of_counts signed) first ≡ done kinds
    pub left : verdict (prefix_row (header_in s) gs ks) ≡ verdict (bodies (arity_of gs) signed kinds first)

  -- so it is whenever the rows before have passed; and the first record is not too far off
  pub record Bodied (first j : ℕ) : Type 0 where
    pub near : first ≤ 1 + functions + 65535 * j
    pub rest : (gs : List Signature) (ks : List Kind) → function_row (header_in s) s ≡ done gs → node_row (header_in s) s ≡ done ks → Left gs ks first j

  pub bodies_none : (first : ℕ) → functions ≡ (header_in s).functions → first ≡ 1 + (header_in s).functions → Bodied first 0
  unfolding header_in record_at node_row node_in prefix_row
  bodies_none first ef is = record {
    near = omega arith;
    rest = λ gs ks eg ek.
        let g = summed_inv (header_in s) s gs eg in
        let position : suc (header_in s).functions ≡ first = omega arith in
        record {
          signed = gs;
          kinds = ks;
          signed_read = rw (ef, sub-zero) (row_read s gs eg);
          kinds_read = rw (g.sum, ← position) ek;
          left = ap (λ r. verdict (bodies (arity_of gs) gs ks r)) position;
        };
  }

  -- function j, with its records and those after them
  record Turn (gs : List Signature) (ks : List Kind) (first j count : ℕ) : Type 0 where
    here : List Kind
    here_read : each (node_in s) count first ≡ done here
    passed : verdict (exactly_one first (exprs_of (arity_of gs) here)) ≡ done tt → Left gs ks (first + count) (j + 1)
    refused : (number position : ℕ) → verdict (exactly_one first (exprs_of (arity_of gs) here)) ≡ refusal number position
        → verdict (prefix_row (header_in s) gs ks) ≡ refusal number position

  turn : (gs : List Signature) (ks : List Kind) (first j count : ℕ) → j < functions → count ≡ count_in s j → Left gs ks first j → Turn gs ks first j count
  unfolding sum_of_counts
  turn gs ks first j count more is l =
      let next : functions - j ≡ suc (functions - (j + 1)) = omega arith in
      let i = each_inv (function_in s) (functions - (j + 1)) j l.signed (rw next at l.signed_read) in
      let own : i.head.count ≡ count = (function_read s j i.head i.here).count ∙ sym is in
      let sum : sum_of_counts l.signed ≡ count + sum_of_counts i.tail = ap sum_of_counts i.both ∙ ap (λ n. n + sum_of_counts i.tail) own in
      let after : sum_of_counts l.signed - count ≡ sum_of_counts i.tail = omega arith in
      let left : verdict (prefix_row (header_in s) gs ks) ≡ verdict (bodies (arity_of gs) (i.head ∷ i.tail) l.kinds first) =
      l.left ∙ ap (λ fs. verdict (bodies (arity_of gs) fs l.kinds first)) i.both in
      record {
        here = take count l.kinds;
        here_read = each_front (node_in s) (sum_of_counts l.signed) count first l.kinds l.kinds_read (omega arith);
        passed = λ e. record {
          signed = i.tail;
          kinds = drop count l.kinds;
          signed_read = ap (each (function_in s) (functions - (j + 1))) (add-one j) ∙ i.later;
          kinds_read = rw after at (each_after (node_in s) (sum_of_counts l.signed) count first l.kinds l.kinds_read (omega arith));
          left = left ∙ (rw own at (body_passed (arity_of gs) i.head i.tail l.kinds first (rw own e)));
        };
        refused = λ number position e. left ∙ body_refused (arity_of gs) i.head i.tail l.kinds first number position (rw own e);
      }

  module _ (first j count : ℕ) (one : Bool) (more : j < functions) (b : Bodied first j)
      (is : count ≡ count_in s j) (reported : IsOne s first (first + count) one)
    where
      -- what the answer says of the function's records
      one_said : (gs : List Signature) (here : List Kind) → function_row (header_in s) s ≡ done gs → each (node_in s) count first ≡ done here
          → value_if one prefix_form first tt ≡ verdict (exactly_one first (exprs_of (arity_of gs) here))
      one_said gs here eg e =
          let long : first + count - first ≡ count = omega arith in
          reported.is (arity_of gs) here (arity_read s gs eg) (rw long e)

      pub bodies_more : (read : ℕ) → count ≡ read → read < 65536 → not one ≡ false → Bodied (first + count) (j + 1)
      bodies_more read same small u = record {
        near = omega (arith, b.near);
        rest = λ gs ks eg ek.
            let t = turn gs ks first j count more is (b.rest gs ks eg ek) in
            t.passed (sym (test_holds one prefix_form first _ (one_said gs t.here eg t.here_read) (not-false one u)));
      }

      pub bodies_refused : (r : Refused) → r ≡ record { why = PrefixForm; position = first } → not one ≡ true → PrefixSays s (refusal (number r.why) r.position)
      bodies_refused r at u = rw at (record {
        is = λ gs ks eg ek.
            let t = turn gs ks first j count more is (b.rest gs ks eg ek) in
            sym (t.refused prefix_form first (sym (test_fails one prefix_form first _ (one_said gs t.here eg t.here_read) (not-true one u))));
      })

  pub bodies_all : (first j : ℕ) → functions ≤ j → Bodied first j → PrefixSays s (done tt)
  unfolding bodies
  bodies_all first j over b = record {
    is = λ gs ks eg ek.
        let l = b.rest gs ks eg ek in
        let none-left : functions - j ≡ 0 = omega arith in
        let nothing : l.signed ≡ [] = each_none (function_in s) j l.signed (rw none-left at l.signed_read) in
        sym (l.left ∙ ap (λ fs. verdict (bodies (arity_of gs) fs l.kinds first)) nothing);
  }

pub ruleset bodies_checked = (bodies_none, bodies_more, bodies_refused, bodies_all)
