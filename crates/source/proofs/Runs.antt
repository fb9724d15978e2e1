-- The run: a law for each way out of the functions that report an answer.
use Prim.Native.Nat.{ℕ, zero, suc, ◌+◌, ◌≤◌, ◌<◌}
use mathlib.Core.List.{List, [], ◌∷◌}
use mathlib.Core.Bool.{false}
use mathlib.Core.Path.{◌≡◌, refl, sym, ap, ap₂, subst, ◌∙◌}
use native.Mathlib.Decide.{dec_le}
use native.Mathlib.Nat.{zero-add}
use native.Mathlib.Omega.{arith}
use borrow.Author.Tests.{le-leb, lt-leb}
use lib.ListN.{length}
use Rattle.formats.specs.Refusals.{output_full}
use Rattle.formats.specs.Results.{Result as Reading, done, refusal}
use Rattle.formats.specs.Written.{written}
use Rattle.formats.proofs.Results.{done_not, refusal_injective}
use Rattle.formats.proofs.Written.{written_none}
use Rattle.refusal.specs.Inner.Numbers.{number as number_of}
use Rattle.std.specs.Prelude.{Ok, Err}
use Rattle.refusal.specs.declared.Refusal.TheVariants.{OutputFull}
use Rattle.refusal.specs.declared.Refused.{Refused}
use Rattle.meaning.specs.Running.{value_words, return_words}
use Rattle.meaning.specs.OpenCalls.{Reason, no_fuel, no_call, no_result, refusal_of, Outcome, gives, stops, after_begun, with_fuel}
use Rattle.meaning.specs.SourceRun.{refused_after, position_of, unless_refused}
use Rattle.tree.specs.declared.Measures.{Measures as Found}
use Rattle.tree.specs.Inner.TreeResults.{measured}
use Rattle.meaning.specs.WorkWords.{before_source}
use Rattle.meaning.proofs.Outcomes.{given, comes_value, gives_not}
use Rattle.stepwise.specs.Inner.Outcomes.{Reported, reported}
use Rattle.source.specs.declared.SourceAnswer.{SourceAnswer}
use Rattle.source_walk.specs.declared.Value.{Value}
use Rattle.source_walk.specs.declared.Walked.{Walked}
use Rattle.source_walk.specs.Inner.Loop.{Walks}
use Rattle.result_bytes.specs.Inner.Bytes.{count_limit}
use Rattle.walk_outcome.specs.Inner.Outcomes.{Counts, Reports, reports_value, reports_stop}
use Rattle.walk_outcome.proofs.Walks.{walk_reports}
use Rattle.source.specs.Inner.SourceAnswers.{RefusedAs, Gave, reported_result, report_steps, Always, Evaluates}

-- ---- the refusals of an evaluation

-- a refusal of the evaluation is not among those that come before it
late_stop : (why n number position : ℕ) → before_source why ≡ false → ◌≡◌ {A = Reading (Unit {0})} (refusal why n) (refusal number position) → before_source number ≡ false
late_stop why n number position late e = rw (← (refusal_injective e).0) late

full_late : before_source output_full ≡ false
unfolding before_source
full_late = refl

stop_late : (why : Reason) → before_source (refusal_of why) ≡ false
unfolding before_source refusal_of
stop_late no_fuel = refl
stop_late no_call = refl
stop_late (no_result op i j) = refl

-- ---- how an outcome is reported

-- expressions begun are counted
report_after : (n k : ℕ) (o : Outcome Reported) (output : List ℕ) → report_steps k (after_begun n o) output ≡ report_steps (k + n) o output
unfolding after_begun report_steps
report_after zero k o output = ap (λ i. report_steps i o output) (omega arith)
report_after (suc n) k o output = report_after n (suc k) o output ∙ ap (λ i. report_steps i o output) (omega arith)

module _ (output : List ℕ) where
  reported_fits : (begun x : ℕ) (bytes : List ℕ) → length bytes ≤ length output
      → reported_result begun (reported x bytes) output
      ≡ record {
        answer = record { outcome = done tt; begun = begun; bytes_written = length bytes; number = x };
        output = written output 0 bytes;
      }
  unfolding reported_result
  reported_fits begun x bytes fits = simp (reported_result, le-leb _ _ fits)

  reported_full : (begun x : ℕ) (bytes : List ℕ) → length output < length bytes → reported_result begun (reported x bytes) output ≡ refused_after begun output_full 0 output
  unfolding reported_result
  reported_full begun x bytes full = simp (reported_result, lt-leb _ _ full)

  reported-value : (n x : ℕ) (o : Outcome Reported) (bytes : List ℕ) → o ≡ after_begun n (gives (reported x bytes)) → report_steps 0 o output ≡ reported_result n (reported x bytes) output
  unfolding report_steps
  reported-value n x o bytes e =
      ap (λ p. report_steps 0 p output) e ∙ report_after n 0 (gives (reported x bytes)) output ∙ ap (λ i. reported_result i (reported x bytes) output) (zero-add n)

  reported_stop : (n : ℕ) (why : Reason) (at : ℕ) (o : Outcome Reported) → o ≡ after_begun n (stops why at)
      → report_steps 0 o output ≡ refused_after n (refusal_of why) (position_of why at) output
  unfolding report_steps
  reported_stop n why at o e =
      ap (λ p. report_steps 0 p output) e
      ∙ report_after n 0 (stops why at) output
      ∙ ap (λ i. refused_after i (refusal_of why) (position_of why at) output) (zero-add n)

-- an outcome has one value
same_value : {A : Type 0} (n m : ℕ) (a b : A) → after_begun n (gives a) ≡ after_begun m (gives b) → a ≡ b
same_value {A} n m a b e = comes_value {form = λ x. x} {P = λ k x. x ≡ b} {S = λ k why r. Unit {0}} n a (given m b refl) (sym e)

-- ---- `evaluate`

module _ (T input : List ℕ) (found : Found) (first fuel : ℕ) (output values values₁ returns returns₁ nothing nothing' : List ℕ) (c : Walked)
    (counted : Walks T input first fuel nothing nothing' values values₁ returns returns₁ c)
  where
    -- what the first walk reports
    the_first : (o : Outcome Reported) → Always T input first o → value_words ≤ length values → return_words ≤ length returns → Reports (with_fuel fuel o) nothing nothing' c
    the_first o always v p =
        walk_reports T input first fuel nothing nothing' values values₁ returns returns₁ c counted o (always.comes values returns v p)

    pub evaluate_stops : (why : Refused) (r : SourceAnswer) → c.outcome ≡ Err why
        → RefusedAs (number_of why.why) why.position c.begun r
        → Evaluates T input (measured found) first fuel output output values values₁ returns returns₁ r
    unfolding unless_refused
    evaluate_stops why r refuses e =
        record {
          gave = λ o always v p. by o (the_first o always v p);
          long_values = counted.long_values;
          long_returns = counted.long_returns;
        }
      where
        by : (o : Outcome Reported) → Reports (with_fuel fuel o) nothing nothing' c → Gave (report_steps 0 (with_fuel fuel o) output) (measured found) output r
        by o (reports_value v out ends is counts wrote) = cc
        by o (reports_stop reason at stop ends is number place) =
            let same : why ≡ stop = cc in
            rw (reported_stop output c.begun reason at (with_fuel fuel o) is)
            (record {
              answer = e.answer
                  ∙ ap₂ (λ n p. record { outcome = refusal n p; begun = c.begun; bytes_written = 0; number = 0 })
                  (ap (λ (x : Refused). number_of x.why) same ∙ number)
                  (ap (λ (x : Refused). x.position) same ∙ place);
              output = refl;
              measures = e.measures;
              late = λ number place. late_stop (refusal_of reason) (position_of reason at) number place (stop_late reason);
            })

    module _ (v : Value) (ended : c.outcome ≡ Ok v) where
      -- The result: its bytes, as many as were counted.
      record Result (o : Outcome Reported) : Type 0 where
        bytes : List ℕ
        is : with_fuel fuel o ≡ after_begun c.begun (gives (reported v.number bytes))
        counts : Counts v.written bytes

      result : (o : Outcome Reported) → Reports (with_fuel fuel o) nothing nothing' c → Result o
      result o (reports_value w out ends is counts wrote) =
          let same : w ≡ v = cc in
          record {
            bytes = out;
            is = is ∙ ap (λ (x : Value). after_begun c.begun (gives (reported x.number out))) same;
            counts = subst (λ (x : Value). Counts x.written out) same counts;
          }
      result o (reports_stop reason at stop ends is number place) = cc

      pub evaluate_full : (why : Refused) (r : SourceAnswer) → length output < count_limit → length output < v.written → why ≡ record { why = OutputFull; position = 0 }
          → RefusedAs (number_of why.why) why.position c.begun r
          → Evaluates T input (measured found) first fuel output output values values₁ returns returns₁ r
      unfolding unless_refused
      evaluate_full why r short full is refuses =
          let e : RefusedAs output_full 0 c.begun r = rw is at refuses in
          record {
            gave = λ o always w p.
                let t = result o (the_first o always w p) in
                let long : length output < length t.bytes =
                elim (dec_le count_limit v.written) [ yes h ↦ let m = t.counts.many h in omega arith | no h ↦ let f = t.counts.few (omega arith) in omega arith ] in
                rw (reported-value output c.begun v.number (with_fuel fuel o) t.bytes t.is, reported_full output c.begun v.number t.bytes long)
                (record { answer = e.answer; output = refl; measures = e.measures; late = λ number position. late_stop output_full 0 number position full_late });
            long_values = counted.long_values;
            long_returns = counted.long_returns;
          }

      module _ (short : length output < count_limit) (few : v.written ≤ length output) where
        -- the count is exact, and the bytes fit
        exact : (o : Outcome Reported) (t : Result o) → v.written ≡ length t.bytes
        exact o t = t.counts.few (omega (arith, short))

        fits : (o : Outcome Reported) (t : Result o) → length t.bytes ≤ length output
        fits o t = omega (arith, exact o t)

        -- The answer of a run that ended.
        abbrev ends : SourceAnswer
        ends = record { outcome = Ok (record { value = v; measures = found }); begun = c.begun }

        gives_it : (o : Outcome Reported) (t : Result o) (output' : List ℕ) → output' ≡ written output 0 t.bytes → Gave (report_steps 0 (with_fuel fuel o) output) (measured found) output' ends
        unfolding unless_refused
        gives_it o t output' w =
            let all = exact o t in
            rw (reported-value output c.begun v.number (with_fuel fuel o) t.bytes t.is, reported_fits output c.begun v.number t.bytes (fits o t))
            (record { answer = rw all refl; output = w; measures = refl; late = λ number position. done_not refl })

        -- no bytes, and so nothing to write
        pub evaluate_none : v.written ≡ 0 → Evaluates T input (measured found) first fuel output output values values₁ returns returns₁ ends
        evaluate_none none =
            record {
              gave = λ o always w p.
                  let t = result o (the_first o always w p) in
                  let empty : t.bytes ≡ [] = no_bytes t.bytes (sym (exact o t) ∙ none) in
                  gives_it o t output (sym (ap (written output 0) empty ∙ written_none output 0));
              long_values = counted.long_values;
              long_returns = counted.long_returns;
            }
          where
            no_bytes : (l : List ℕ) → length l ≡ 0 → l ≡ []
            no_bytes [] e = refl
            no_bytes (x ∷ l) e = absurd (omega arith)

        -- a second walk writes them
        pub evaluate_again : (output' values₂ returns₂ : List ℕ) (d : Walked)
            → Walks T input first fuel output output' values₁ values₂ returns₁ returns₂ d
            → Evaluates T input (measured found) first fuel output output' values values₂ returns returns₂ ends
        evaluate_again output' values₂ returns₂ d again =
            record {
              gave = λ o always w p.
                  let t = result o (the_first o always w p) in
                  let second = walk_reports T input first fuel output output' values₁ values₂ returns₁ returns₂ d again o
                  (always.comes values₁ returns₁ (rw counted.long_values w) (rw counted.long_returns p)) in
                  gives_it o t output' (by o t second);
              long_values = again.long_values ∙ counted.long_values;
              long_returns = again.long_returns ∙ counted.long_returns;
            }
          where
            by : (o : Outcome Reported) (t : Result o) → Reports (with_fuel fuel o) output output' d → output' ≡ written output 0 t.bytes
            by o t (reports_value w out ends is counts wrote) =
                let same : reported w.number out ≡ reported v.number t.bytes = same_value d.begun c.begun _ _ (sym is ∙ t.is) in
                let bytes : out ≡ t.bytes = ap (λ x. x.bytes) same in
                wrote (rw bytes (fits o t)) ∙ ap (written output 0) bytes
            by o t (reports_stop reason at stop ends is number place) = absurd (gives_not c.begun d.begun reason at _ (sym t.is ∙ is))

pub ruleset evaluates = (evaluate_stops, evaluate_full, evaluate_none, evaluate_again)
