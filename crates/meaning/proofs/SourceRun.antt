-- What holds of every call of the source run, from what holds of the evaluation and of the
-- reductions.
--
-- What the checks before the evaluation refuse, the call refuses. Where they pass, it reports the
-- evaluation's outcome, cut by the fuel. The evaluation ends, or stops at a sum out of range or at
-- a call too many: n expressions begin, then there is a value or a stop. With fuel for n
-- expressions the value or the stop is reported, with less 14. So each call has ended with a value
-- that the evaluation itself gives, or is refused with 21 where the evaluation breaks, or is
-- refused with another number: what holds of every call is shown of the three.
use Prim.Native.Nat.{ℕ, zero, suc, ◌+◌, ◌^◌, ◌≤◌, ◌<◌, zero-le}
use mathlib.Core.List.{List, ◌++◌}
use mathlib.Core.Logic.{inl, inr}
use mathlib.Core.Path.{◌≡◌, refl, sym, ap, ap₂, ◌∙◌}
use native.Mathlib.Decide.{dec_le}
use native.Mathlib.Nat.{add-zero, add-suc, zero-add, suc-add, le_of_suc-le-suc}
use native.Mathlib.Omega.{arith}
use borrow.Author.Tests.{le-leb, lt-leb}
use lib.Dec.{lit<}
use lib.ListN.{length, drop, length-append, length-drop, take-append-drop}
use Rattle.formats.specs.Numbers.{Bytes}
use Rattle.formats.specs.Arithmetic.{Op}
use Rattle.formats.specs.Refusals.{space_too_short, fuel_used_up, output_full, too_many_calls, out_of_range}
use Rattle.formats.specs.Results.{done, refusal}
use Rattle.formats.specs.Tokens.{Tree, first_tree}
use Rattle.formats.specs.Programs.{Sort, number_valued, tree_valued, Program}
use Rattle.formats.proofs.Results.{done_injective, refusal_injective, done_not, then_refused, by_result}
use Rattle.formats.proofs.Reader.{tree_reader}
use Rattle.formats.proofs.Written.{front_written, after_written}
use Rattle.meaning.specs.Running.{most_calls}
use Rattle.meaning.specs.Evaluation.{Value, Ends, result_bytes, result_number}
use Rattle.meaning.specs.OpenCalls.{Reason, no_fuel, no_call, no_result, refusal_of, Outcome, gives, stops, begins, begun, after_begun, evaluation, with_fuel}
use Rattle.meaning.specs.Unfinished.{Breaks}
use Rattle.meaning.specs.SourceRun.{SourceRan, refused_after, ended_after, reported, position_of, report_from, source_run}
use Rattle.meaning.specs.Meaning.{OfSort, TooMany, Cut, Passed, EndedWith, RefusedWith, ByReductions, EndedFrom, SourceTooManyCalls, SourceBreaks, BrokenFrom, SourceRuns}
use Rattle.meaning.proofs.Outcomes.{begun_after}
use Rattle.meaning.proofs.Proper.{ProperProgram, proper}
use Rattle.meaning.proofs.StopRecords.{breaks_within}
use Rattle.meaning.proofs.OpenCalls.{of_sort, held}
use Rattle.meaning.proofs.Agrees.{agrees}
use Rattle.meaning.proofs.SourceChecks.{checked, file_stops, pass_one_stops, space_stops, tree_left}
use Rattle.meaning.proofs.SourceChecks.{passed_done, done_passed, passed_passes, checks_after}
use Rattle.meaning.proofs.CheckNumbers.{checks_below}

-- ---- fuel

-- fuel cuts an outcome short, and does nothing else
pub cut : (o : Outcome Value) (fuel : ℕ) → Cut o fuel
unfolding begun with_fuel after_begun
cut (gives v) fuel = record { enough = λ h. refl; short = λ h. absurd (omega arith) }
cut (stops why r) fuel = record { enough = λ h. refl; short = λ h. absurd (omega arith) }
cut (begins o) zero = record { enough = λ h. absurd (omega arith); short = λ h. refl }
cut (begins o) (suc fuel) =
    record {
      enough = λ h. ap begins ((cut o fuel).enough (le_of_suc-le-suc h));
      short = λ h. ap begins ((cut o fuel).short (le_of_suc-le-suc h));
    }

-- ---- what an outcome is reported as

-- expressions begun are counted with those before
report_after : (k n : ℕ) (o : Outcome Value) (output : List ℕ) → report_from k (after_begun n o) output ≡ report_from (k + n) o output
unfolding after_begun report_from
report_after k zero o output = rw add-zero
report_after k (suc n) o output = report_after (suc k) n o output ∙ ap (λ m. report_from m o output) (suc-add k n ∙ sym (add-suc k n))

-- with none before
report_all : (n : ℕ) (o : Outcome Value) (output : List ℕ) → report_from 0 (after_begun n o) output ≡ report_from n o output
report_all n o output = report_after 0 n o output ∙ ap (λ m. report_from m o output) (zero-add n)

-- a value
module _ (n : ℕ) (v : Value) (output : List ℕ) where
  -- with space for it
  reported_whole : length (result_bytes v) ≤ length output → reported n v output ≡ ended_after n v output
  unfolding reported
  reported_whole h = rw (reported, le-leb _ _ h)

  -- with less
  reported_short : length output < length (result_bytes v) → reported n v output ≡ refused_after n output_full 0 output
  unfolding reported
  reported_short h = rw (reported, lt-leb _ _ h)

-- an outcome where n expressions begin, cut by fuel
module _ (o last : Outcome Value) (n fuel : ℕ) (output : List ℕ) (is : o ≡ after_begun n last) (no_more : begun last ≡ 0) where
  -- n is their count
  begins_all : begun o ≡ n
  begins_all = ap begun is ∙ begun_after n last ∙ ap (λ m. n + m) no_more ∙ add-zero n

  -- with fuel for all of them
  report_enough : n ≤ fuel → report_from 0 (with_fuel fuel o) output ≡ report_from n last output
  report_enough h = ap (λ p. report_from 0 p output) ((cut o fuel).enough (omega (arith, begins_all)) ∙ is) ∙ report_all n last output

  -- with less
  report_short : fuel < n → report_from 0 (with_fuel fuel o) output ≡ refused_after fuel fuel_used_up 0 output
  unfolding report_from position_of refusal_of
  report_short h = ap (λ p. report_from 0 p output) ((cut o fuel).short (omega (arith, begins_all))) ∙ report_all fuel (stops no_fuel 0) output

-- ---- answers, field by field

module _ {n : ℕ} {output : List ℕ} {ran : SourceRan} where
  -- of a refusal
  refused-with : {number position : ℕ} → ran ≡ refused_after n number position output → RefusedWith n number position output ran
  refused-with e = rw e (record { outcome = refl; expressions = refl; no_bytes = refl; no_number = refl; untouched = refl })

  -- with the number and the position that it is known by
  refused_as :
      {number position number' position' : ℕ}
      → ran.answer.outcome ≡ refusal number position
      → RefusedWith n number' position' output ran
      → RefusedWith ran.answer.begun number position output ran
  refused_as e r = record { outcome = e; expressions = refl; no_bytes = r.no_bytes; no_number = r.no_number; untouched = r.untouched }

  -- of a value that has space
  module _ (v : Value) (space : length (result_bytes v) ≤ length output) where
    -- its bytes stand at the output's start, and after them all is as it was
    ended_with : ran ≡ ended_after n v output → EndedWith n v output ran
    ended_with e = rw e (record {
      outcome = refl;
      expressions = refl;
      bytes = refl;
      number = refl;
      result = rw zero-add at (front_written output 0 (result_bytes v) (rw zero-add space));
      rest = rw zero-add at (after_written output 0 (result_bytes v) (rw zero-add space));
    })

    -- so the output keeps its length
    ended_length : EndedWith n v output ran → length ran.output ≡ length output
    ended_length e =
        let k : ℕ = length (result_bytes v) in
        let parts : ran.output ≡ result_bytes v ++ drop k output = sym (take-append-drop k ran.output) ∙ ap₂ ◌++◌ e.result e.rest in
        ap length parts ∙ length-append (result_bytes v) (drop k output) ∙ omega (arith, length-drop k output)

-- a value of either sort reports a number of 32 bits
sort_fits : (s : Sort) (v : Value) → OfSort s v → result_number v < 2 ^ 32
unfolding result_number
sort_fits number_valued (Value.number i) fits = fits
sort_fits number_valued (Value.tree t) fits = absurd fits
sort_fits tree_valued (Value.number i) fits = absurd fits
sort_fits tree_valued (Value.tree t) fits = lit< tt

-- ---- calls

-- by whether a number is at most another
by_bound : {A : Type 0} (m n : ℕ) → (m ≤ n → A) → (n < m → A) → A
by_bound m n enough less = elim (dec_le m n) [ yes h ↦ enough h | no h ↦ less (omega arith) ]

module _ (file input output : List ℕ) (values returns : ℕ) (bs : Bytes file) where
  -- The call with so much fuel.
  abbrev ran : ℕ → SourceRan
  ran fuel = source_run file input output fuel values returns

  -- what the checks refuse, it refuses
  call_refused : (number position fuel : ℕ) → checked file input values returns ≡ refusal number position → RefusedWith 0 number position output (ran fuel)
  unfolding source_run
  call_refused number position fuel e = refused-with (rw (source_run, e))

  -- the checks pass
  module _ (program : Program) (t : Tree) (p : Passed file input values returns program t) where
    -- so the program is proper
    proper_passed : ProperProgram program
    proper_passed = proper program (passed_passes file input values returns program t bs p)

    -- the call reports the evaluation's outcome
    call_reports : (fuel : ℕ) → ran fuel ≡ report_from 0 (with_fuel fuel (evaluation program most_calls t)) output
    unfolding source_run
    call_reports fuel = rw (source_run, passed_done file input values returns program t p)

    -- an evaluation that ends
    module _ (n : ℕ) (v : Value) (fuel : ℕ) (ends : Ends program t most_calls n v) where
      -- gives its value
      value_given : evaluation program most_calls t ≡ after_begun n (gives v)
      value_given = ((held program t proper_passed).gives_value most_calls n v).1 ends

      -- which is reported with fuel for it
      value_reported : n ≤ fuel → ran fuel ≡ reported n v output
      unfolding report_from begun
      value_reported h = call_reports fuel ∙ report_enough _ (gives v) n fuel output value_given refl h

      -- and space
      call_ends : n ≤ fuel → length (result_bytes v) ≤ length output → EndedWith n v output (ran fuel)
      call_ends h space = ended_with v space (value_reported h ∙ reported_whole n v output space)

      -- not with less space
      call_full : n ≤ fuel → length output < length (result_bytes v) → RefusedWith n output_full 0 output (ran fuel)
      call_full h less = refused-with (value_reported h ∙ reported_short n v output less)

      -- nor with less fuel
      call_short : fuel < n → RefusedWith fuel fuel_used_up 0 output (ran fuel)
      unfolding begun
      call_short less = refused-with (call_reports fuel ∙ report_short _ (gives v) n fuel output value_given refl less)

    -- an evaluation that stops: this is reported with fuel for it, and 14 with less
    module _ (n : ℕ) (why : Reason) (q fuel : ℕ) (stopped : evaluation program most_calls t ≡ after_begun n (stops why q)) where
      call_stops : n ≤ fuel → RefusedWith n (refusal_of why) (position_of why q) output (ran fuel)
      unfolding report_from begun
      call_stops h = refused-with (call_reports fuel ∙ report_enough _ (stops why q) n fuel output stopped refl h)

      stops_short : fuel < n → RefusedWith fuel fuel_used_up 0 output (ran fuel)
      unfolding begun
      stops_short less = refused-with (call_reports fuel ∙ report_short _ (stops why q) n fuel output stopped refl less)

    -- it breaks at a sum
    call_breaks : (n : ℕ) (op : Op) (i j q : ℕ) → Breaks program t most_calls n op i j q → SourceBreaks n q output ran
    unfolding position_of refusal_of
    call_breaks n op i j q breaks =
        let stopped = ((held program t proper_passed).stops_exactly most_calls n (no_result op i j) q).1 breaks in
        record {
          enough = λ fuel. call_stops n (no_result op i j) q fuel stopped;
          short = λ fuel. stops_short n (no_result op i j) q fuel stopped;
        }

    -- a call is one too many
    call_too_many : TooMany program t most_calls → SourceTooManyCalls output ran
    unfolding position_of refusal_of
    call_too_many s = record {
      expressions = s.expressions;
      enough = λ fuel. call_stops s.expressions no_call s.position fuel s.stopped;
      short = λ fuel. stops_short s.expressions no_call s.position fuel s.stopped;
    }

  -- What a call comes to: it has ended with the value of an evaluation that ends, or is refused
  -- with 21 where the evaluation breaks, or is refused with another number.
  data Answers (fuel : ℕ) : Type 0 where
    has-ended :
        (program : Program) (t : Tree) (n : ℕ) (v : Value)
        → Passed file input values returns program t
        → Ends program t most_calls n v
        → n ≤ fuel
        → length (result_bytes v) ≤ length output
        → EndedWith n v output (ran fuel)
        → Answers fuel
    has_broken :
        (program : Program) (t : Tree) (n : ℕ) (op : Op) (i j q : ℕ)
        → Passed file input values returns program t
        → Breaks program t most_calls n op i j q
        → n ≤ fuel
        → RefusedWith n out_of_range q output (ran fuel)
        → Answers fuel
    is_refused : (n number position : ℕ) → number < out_of_range → n ≤ fuel → RefusedWith n number position output (ran fuel) → Answers fuel

  -- this holds where the checks pass ..
  answers_passed : (program : Program) (t : Tree) (fuel : ℕ) → Passed file input values returns program t → Answers fuel
  answers_passed program t fuel p = elim ((held program t (proper_passed program t p)).ends_or_stops most_calls) [
    | inl e ↦
        let n : ℕ = e.expressions in
        let v : Value = e.value in
        by_bound n fuel
        (λ h. by_bound (length (result_bytes v)) (length output)
        (λ space. has-ended program t n v p e.ends h space (call_ends program t p n v fuel e.ends h space))
        (λ less. is_refused n output_full 0 (lit< tt) h (call_full program t p n v fuel e.ends h less)))
        (λ less. no_more (call_short program t p n v fuel e.ends less))
    | inr (inl b) ↦
        let n : ℕ = b.expressions in
        let r = call_breaks program t p n b.op b.left b.right b.position b.breaks in
        by_bound n fuel
        (λ h. has_broken program t n b.op b.left b.right b.position p b.breaks h (r.enough fuel h))
        (λ less. no_more (r.short fuel less))
    | inr (inr s) ↦
        let r = call_too_many program t p s in
        by_bound r.expressions fuel
        (λ h. is_refused r.expressions too_many_calls 0 (lit< tt) h (r.enough fuel h))
        (λ less. no_more (r.short fuel less))
  ]
    where
      -- the fuel is used up
      no_more : RefusedWith fuel fuel_used_up 0 output (ran fuel) → Answers fuel
      no_more r = is_refused fuel fuel_used_up 0 (lit< tt) (omega arith) r

  -- .. and where they refuse
  answers : (fuel : ℕ) → Answers fuel
  answers fuel =
      by_result (checked file input values returns)
      (λ c e. answers_passed c.program c.tree fuel (done_passed file input values returns c e))
      (λ number position e. is_refused 0 number position (checks_below file input values returns number position e) zero-le (call_refused number position fuel e))

  -- a refusal leaves the output untouched
  answers_untouched :
      (number position fuel : ℕ)
      → Answers fuel
      → (ran fuel).answer.outcome ≡ refusal number position
      → RefusedWith (ran fuel).answer.begun number position output (ran fuel)
  answers_untouched number position fuel (has-ended program t n v p ends h space r) e = done_not r.outcome e
  answers_untouched number position fuel (has_broken program t n op i j q p b h r) e = refused_as e r
  answers_untouched number position fuel (is_refused n why q below h r) e = refused_as e r

  -- a call that ended passed all, and its evaluation ended
  answers_from : (fuel : ℕ) → Answers fuel → (ran fuel).answer.outcome ≡ done tt → EndedFrom file input output values returns fuel (ran fuel)
  answers_from fuel (has-ended program t n v p ends h space r) e = record {
    program = program;
    input_tree = t;
    passed = p;
    expressions = n;
    value = v;
    ends = ends;
    enough_fuel = h;
    enough_space = space;
    gives = r;
  }
  answers_from fuel (has_broken program t n op i j q p b h r) e = done_not e r.outcome
  answers_from fuel (is_refused n why q below h r) e = done_not e r.outcome

  -- a call refused with 21 passed all, and its evaluation broke
  answers_broken :
      (fuel position : ℕ)
      → Answers fuel
      → (ran fuel).answer.outcome ≡ refusal out_of_range position
      → BrokenFrom file input values returns fuel position
  answers_broken fuel position (has-ended program t n v p ends h space r) e = done_not r.outcome e
  answers_broken fuel position (has_broken program t n op i j q p b h r) e = record {
    program = program;
    input_tree = t;
    passed = p;
    within = breaks_within program t most_calls n op i j q b;
    there = (refusal_injective (sym r.outcome ∙ e)).1;
    enough_fuel = h;
  }
  answers_broken fuel position (is_refused n why q below h r) e =
      let same : why ≡ out_of_range = (refusal_injective (sym r.outcome ∙ e)).0 in
      absurd (omega arith)

  -- the reductions lead to the value of a call that ended
  answers_reached :
      (program : Program) (t : Tree) (fuel : ℕ)
      → Passed file input values returns program t
      → Answers fuel
      → (ran fuel).answer.outcome ≡ done tt
      → ByReductions program t output (ran fuel)
  answers_reached program t fuel p (has-ended other u n v q d h space r) e =
      let same_program : other ≡ program = done_injective (sym q.holds ∙ p.holds) in
      let same_tree : u ≡ t = done_injective (sym q.reads ∙ p.reads) in
      let ends : Ends program t most_calls n v = rw (same_program, same_tree) at d in
      record {
        expressions = n;
        value = v;
        gives = r;
        ends = ends;
        first = ends.first;
        is_first = ends.is_first;
        leads = (agrees program ends.first t (proper_passed program t p) ends.is_first).leads most_calls n v ends;
      }
  answers_reached program t fuel p (has_broken other u n op i j q checks b h r) e = done_not e r.outcome
  answers_reached program t fuel p (is_refused n why q below h r) e = done_not e r.outcome

  -- no more expressions begin than there is fuel
  answers_within : (fuel : ℕ) → Answers fuel → (ran fuel).answer.begun ≤ fuel
  answers_within fuel (has-ended program t n v p ends h space r) = rw r.expressions h
  answers_within fuel (has_broken program t n op i j q p b h r) = rw r.expressions h
  answers_within fuel (is_refused n why q below h r) = rw r.expressions h

  -- the number is one of 32 bits, since the tree's labels are
  answers_fits : (fuel : ℕ) → Bytes input → Answers fuel → (ran fuel).answer.number < 2 ^ 32
  answers_fits fuel bytes (has-ended program t n v p ends h space r) =
      let labelled = (tree_reader.gives input t bytes p.reads).labelled in
      let first = ends.first in
      let fits = of_sort program t (proper_passed program t p) first most_calls n v labelled ends.is_first ends in
      rw r.number (sort_fits first.sort v fits)
  answers_fits fuel bytes (has_broken program t n op i j q p b h r) = rw r.no_number (lit< tt)
  answers_fits fuel bytes (is_refused n why q below h r) = rw r.no_number (lit< tt)

  -- the output keeps its length
  answers_length : (fuel : ℕ) → Answers fuel → length (ran fuel).output ≡ length output
  answers_length fuel (has-ended program t n v p ends h space r) = ended_length v space r
  answers_length fuel (has_broken program t n op i j q p b h r) = ap length r.untouched
  answers_length fuel (is_refused n why q below h r) = ap length r.untouched

  -- every answer of a call
  pub source_runs : SourceRuns file input output values returns ran
  source_runs =
      record {
        file_refused = λ number position fuel e. call_refused number position fuel (file_stops file input values returns number position e);
        pass_one_refused = λ program number position fuel h e.
            call_refused number position fuel (pass_one_stops file input values returns program h number position e);
        space-too-short = λ program fuel h one short. call_refused space_too_short 0 fuel (space_stops file input values returns program h one short);
        tree_refused = λ program number position fuel h one v r e.
            call_refused number position fuel (tree_left file input values returns program h one v r ∙ then_refused _ e);
        ends = λ program t n v fuel p. call_ends program t p n v fuel;
        output_short = λ program t n v fuel p. call_full program t p n v fuel;
        fuel_short = λ program t n v fuel p. call_short program t p n v fuel;
        breaks = λ program t n op i j q p. call_breaks program t p n op i j q;
        too_many = λ program t p none unbroken. elim ((held program t (proper_passed program t p)).ends_or_stops most_calls) [
          | inl e ↦ absurd (none e.expressions e.value e.ends)
          | inr (inl b) ↦ absurd (unbroken b.expressions b.op b.left b.right b.position b.breaks)
          | inr (inr s) ↦ call_too_many program t p s
        ];
        ended_from = λ fuel. answers_from fuel (answers fuel);
        broken_from = λ fuel position. answers_broken fuel position (answers fuel);
        untouched = λ number position fuel. answers_untouched number position fuel (answers fuel);
        by_reductions = λ program t fuel p. answers_reached program t fuel p (answers fuel);
        within_fuel = λ fuel. answers_within fuel (answers fuel);
        number_fits = λ fuel bytes. answers_fits fuel bytes (answers fuel);
        same_length = λ fuel. answers_length fuel (answers fuel);
      }

-- the source run looks at no byte after the tree
pub after-tree :
    (file input rest output : List ℕ) (fuel values returns : ℕ) (t : Tree)
    → Bytes input
    → first_tree input ≡ done t
    → source_run file (input ++ rest) output fuel values returns ≡ source_run file input output fuel values returns
unfolding source_run
after-tree file input rest output fuel values returns t bs e = rw (source_run, checks_after file input rest values returns t bs e)
