-- The run: a law for each way out of its functions. Before each turn as many steps as units lead
-- from the start to the state that the machine stands for (`Running`), and steps determine the run:
-- so the turn that stops is the whole run's last.
use Prim.Native.Nat.{ℕ, ◌+◌, ◌-◌, ◌%◌, ◌^◌, ◌≤◌, ◌<◌}
use mathlib.Core.Bool.{false}
use mathlib.Core.List.{List, [], ◌∷◌, ◌++◌}
use mathlib.Core.Logic.{◌≢◌, inl, inr}
use mathlib.Core.Path.{◌≡◌, refl, sym, ap, ◌∙◌}
use native.Mathlib.Omega.{arith}
use borrow.Author.Tests.{le-leb, lt-leb}
use mir.Syntax.{w64}
use mir.Val.{Fits}
use lib.Dec.{lit≤}
use lib.ListN.{length, take, drop, length-append, take-append-drop}
use lib.Seq.{length-take-le, drop-drop}
use Rattle.formats.specs.Refusals.{fuel_used_up, too_deep}
use Rattle.formats.specs.Written.{written}
use Rattle.formats.proofs.Written.{written_fits}
use Rattle.refusal.specs.Inner.Numbers.{number}
use Rattle.refusal.specs.declared.Refused.{Refused}
use Rattle.refusal.specs.declared.Refusal.TheVariants.{SpaceTooShort}
use Rattle.meaning.specs.Performing.{Setting, State, start, goes, ends, refuses, step, number_kept}
use Rattle.meaning.specs.Running.{Run, Stop, refused, Ran, ran_to, too_short, of_code, outcome_of, number_reported, value_words, return_words, stream_run}
use Rattle.meaning.specs.StreamRun.{StepRefusal, ended_there, not-a-tag, full, too_many, cannot, out-of-range, Stops, used_up, returned, stuck, here, on}
use Rattle.meaning.specs.StreamRun.{Steps as Led}
use Rattle.meaning.proofs.Steps.{one_step}
use Rattle.meaning.proofs.Runs.{runs}
use Rattle.meaning.specs.WorkWords.{WorkWords, before_stream}
use Rattle.meaning.proofs.WorkWords.{untouched, run_refused, ended as words_ended}
use Rattle.machine_state.specs.declared.Machine.{Machine}
use Rattle.refusal.specs.declared.Refusal.TheVariants.{FuelUsedUp}
use Rattle.machine_state.specs.declared.Stop.{Stop as Why}
use Rattle.machine_state.specs.declared.Stop.TheVariants.{GoesOn, Ended, Refused as RefusedWith}
use Rattle.machine_state.specs.declared.Answer.{Answer}
use Rattle.machine_state.specs.Inner.States.{words_from, waiting, frame_of, state_of, step_of, refusal_number, refused_by, first, Going, Held, Lent}
use Rattle.operations.specs.Inner.Effects.{Does, Steps}
use Rattle.machine_state.specs.Inner.Answers.{run_answer, nothing_done, reported_number, in_64_bits, due_at, Reports, Performed}
use Rattle.machine_state.proofs.Laws.{stops, not_ended, ended_or, own_reported}

-- ---- what a stop says of the step

module _ (values returns output : List ℕ) (r : Machine) where
  step_goes : r.stop ≡ GoesOn → step_of values returns output r ≡ goes (state_of values returns output r)
  unfolding step_of
  step_goes e = rw (step_of, e)

  step_ends : r.stop ≡ Ended → step_of values returns output r ≡ ends (number_kept (frame_of values r))
  unfolding step_of
  step_ends e = rw (step_of, e, e)

  step_refuses : r.stop ≢ GoesOn → r.stop ≢ Ended → step_of values returns output r ≡ refuses (refusal_number r.stop)
  unfolding step_of
  step_refuses h g = rw (step_of, stops _ h, not_ended _ g)

-- a step's refusal is one that a run reports: 14 or later, and not 20
step_range : (n : ℕ) → StepRefusal n → (fuel_used_up ≤ n) × (n ≢ too_deep)
step_range n ended_there = (lit≤ tt, λ e. absurd (omega arith))
step_range n not-a-tag = (lit≤ tt, λ e. absurd (omega arith))
step_range n full = (lit≤ tt, λ e. absurd (omega arith))
step_range n too_many = (lit≤ tt, λ e. absurd (omega arith))
step_range n cannot = (lit≤ tt, λ e. absurd (omega arith))
step_range n out-of-range = (lit≤ tt, λ e. absurd (omega arith))

-- so it is reported as it is
names_itself : (k : Why) → StepRefusal (refusal_number k) → reported_number k ≡ refusal_number k
names_itself GoesOn own = refl
names_itself Ended own = refl
names_itself (RefusedWith why) own = let range = step_range (number why) own in ap number (own_reported why range.0 range.1)

-- a step's refusal comes after 13
not_before : (n : ℕ) → StepRefusal n → before_stream n ≡ false
unfolding before_stream
not_before n ended_there = refl
not_before n not-a-tag = refl
not_before n full = refl
not_before n too_many = refl
not_before n cannot = refl
not_before n out-of-range = refl

-- ---- the steps of the whole run

-- one step more
led_more : {m : Setting} {past : List ℕ} {s t u : State} → Led m past s t → step m t ≡ goes u → Led m (past ++ (t.address ∷ [])) s u
led_more {m} {u = u} d =
    elim d as (λ past s t d. step m t ≡ goes u → Led m (past ++ (t.address ∷ [])) s u) [
      | here ↦ λ e. on e here
      | on f (d → h) ↦ λ e. on f (h e)
    ]

-- where enough work words are lent, a sequence of steps that stops is the run
lent_run :
    (code input output : List ℕ) (fuel values returns : ℕ) (r : Run)
    → value_words ≤ values
    → return_words ≤ returns
    → Stops (of_code code input (length output)) fuel start r
    → stream_run code input output fuel values returns ≡ ran_to output r
unfolding stream_run
lent_run code input output fuel values returns r v p d =
    rw (stream_run, le-leb _ _ v, le-leb _ _ p) (ap (ran_to output) (sym ((runs (of_code code input (length output)) start).only_one fuel r d)))

-- ---- the output: what is written, and after it what stood there

output_is :
    (output output₀ : List ℕ) (w : ℕ)
    → length output ≡ length output₀
    → w ≤ length output
    → drop w output ≡ drop w output₀
    → output ≡ written output₀ 0 (take w output)
output_is output output₀ w same fits rest =
    let front : List ℕ = take w output in
    let long = length-take-le w output fits in
    let end : 0 + length front ≡ w = omega arith in
    let room : 0 + length front ≤ length output₀ = omega arith in
    let after : drop (0 + length front) output₀ ≡ drop w output = ap (λ k. drop k output₀) end ∙ sym rest in
    sym (written_fits output₀ 0 front room ∙ ap (λ (l : List ℕ). front ++ l) after ∙ take-append-drop w output)

-- a step's refusal is not 14, which is that of a run whose fuel is used up
not_14 : (n : ℕ) → StepRefusal n → n ≢ fuel_used_up
not_14 n ended_there e = absurd (omega arith)
not_14 n not-a-tag e = absurd (omega arith)
not_14 n full e = absurd (omega arith)
not_14 n too_many e = absurd (omega arith)
not_14 n cannot e = absurd (omega arith)
not_14 n out-of-range e = absurd (omega arith)

-- a buffer that is untouched after fewer bytes is untouched after more
drop_more : (few many : ℕ) (l k : List ℕ) → few ≤ many → drop few l ≡ drop few k → drop many l ≡ drop many k
drop_more few many l k h e =
    let sum : few + (many - few) ≡ many = omega arith in
    rw (← sum, ← (drop-drop (many - few) few l), ← (drop-drop (many - few) few k)) (ap (drop (many - few)) e)

-- ---- `run`

-- Before a turn: the machine goes on, `units` steps have led to its state, and the output after
-- what is written is as it was.
pub record Running (code input : List ℕ) (fuel : ℕ) (output₀ values₀ returns₀ output values returns : List ℕ) (s : Machine) (units : ℕ) : Type 0 where
  pub going : s.stop ≡ GoesOn
  pub held : Held (of_code code input (length output₀)) values returns output s
  pub past : List ℕ
  pub led : Led (of_code code input (length output₀)) past start (state_of values returns output s)
  pub counted : length past ≡ units
  pub fuelled : units ≤ fuel
  pub same_values : length values ≡ length values₀
  pub same_returns : length returns ≡ length returns₀
  pub same_output : length output ≡ length output₀
  pub untouched : drop s.written output ≡ drop s.written output₀

module _ (code input : List ℕ) (fuel : ℕ) (output₀ values₀ returns₀ : List ℕ) where
  abbrev m : Setting
  m = of_code code input (length output₀)

  -- what is due at the end
  abbrev due : Ran
  due = stream_run code input output₀ fuel (length values₀) (length returns₀)

  pub run_first :
      value_words ≤ length values₀
      → return_words ≤ length returns₀
      → Running code input fuel output₀ values₀ returns₀ output₀ values₀ returns₀
      (record { stop = GoesOn; address = 0; top = 0; base = 0; saved = 0; read = 0; written = 0 })
      0
  unfolding waiting words_from
  run_first v p =
      record {
        going = refl;
        held = record {
          words_limit = refl;
          calls_limit = refl;
          space_is = refl;
          values_lent = v;
          returns_lent = p;
          based = omega arith;
          topped = omega arith;
          saved_fits = omega arith;
          chained = first;
          read_there = omega arith;
          written_there = omega arith;
        };
        past = [];
        led = here;
        counted = refl;
        fuelled = omega arith;
        same_values = refl;
        same_returns = refl;
        same_output = refl;
        untouched = refl;
      }

  module _ (output values returns : List ℕ) (s : Machine) (units : ℕ)
      (h : Running code input fuel output₀ values₀ returns₀ output values returns s units)
    where
      abbrev state : State
      state = state_of values returns output s

      pub turn_going : Going s
      turn_going = record { going = h.going; based = h.held.based; topped = h.held.topped }

      pub turn_lent : Lent s input output values returns
      turn_lent = record {
        values_lent = h.held.values_lent;
        returns_lent = h.held.returns_lent;
        saved_fits = h.held.saved_fits;
        read_there = h.held.read_there;
        written_there = h.held.written_there;
      }

      -- a run that stops here, for whatever reason
      pub stops_here :
          (done : List ℕ) (why : Stop) (output' values' returns' : List ℕ) (a : Answer)
          → Stops m fuel start (record { performed = done; last = state; stop = why })
          → run_answer a
          ≡ record { outcome = outcome_of why s.read; units = length done; bytes_read = s.read; bytes_written = s.written; number = number_reported why }
          → output' ≡ output
          → WorkWords before_stream (outcome_of why s.read) values₀ values' returns₀ returns'
          → Performed due output' values₀ values' returns₀ returns' a
      stops_here done why output' values' returns' a d reported same words =
          let v : value_words ≤ length values₀ = omega (arith, h.held.values_lent, h.same_values) in
          let p : return_words ≤ length returns₀ = omega (arith, h.held.returns_lent, h.same_returns) in
          let there = h.held.written_there in
          let long = length-take-le s.written output there in
          rw (lent_run code input output₀ fuel (length values₀) (length returns₀) _ v p d)
          (record {
            answer = rw long reported;
            output = same ∙ output_is output output₀ s.written h.same_output there h.untouched;
            words = words;
          })

      -- the fuel is used up: the machine stops with 14, before anything is changed
      pub stops_unfuelled :
          (a : Answer) (r : Machine) (output' values' returns' : List ℕ)
          → Fits w64 fuel
          → fuel ≤ units
          → r ≡ refused_by FuelUsedUp s
          → run_answer a ≡ in_64_bits (due_at values' fuel r)
          → output' ≡ output
          → length values' ≡ length values₀
          → length returns' ≡ length returns₀
          → Performed due output' values₀ values' returns₀ returns' a
      unfolding outcome_of number_reported before_stream due_at
      stops_unfuelled a r output' values' returns' wide none is t same values_kept returns_kept =
          let all : length h.past ≡ fuel = omega (arith, h.counted, h.fuelled) in
          let fits : fuel % 2 ^ 64 ≡ fuel = omega arith in
          stops_here h.past (refused fuel_used_up) output' values' returns' a (used_up h.led all)
          (t ∙ ap in_64_bits (ap (due_at values' fuel) is) ∙ rw (due_at, fits, all) refl)
          same
          (run_refused before_stream _ _ _ _ _ values_kept returns_kept fuel_used_up s.read refl refl)

      -- after a turn
      module _ (output' values' returns' : List ℕ) (r : Machine) (more : units < fuel)
          (d : Steps code input values returns output values' returns' output' s r)
        where
          did : Does m (step m state) values returns output values' returns' output' s r
          did = d.does m refl refl h.held

          pub turned_output : length output' ≡ length output₀
          turned_output = did.same_output ∙ h.same_output

          pub turned_values : length values' ≡ length values₀
          turned_values = did.same_values ∙ h.same_values

          pub turned_returns : length returns' ≡ length returns₀
          turned_returns = did.same_returns ∙ h.same_returns

          counted_more : length (h.past ++ (s.address ∷ [])) ≡ units + 1
          counted_more = omega (arith, length-append h.past (s.address ∷ []), h.counted)

          -- it goes on
          pub turned_on : r.stop ≡ GoesOn → Running code input fuel output₀ values₀ returns₀ output' values' returns' r (units + 1)
          turned_on goes-on =
              let e : step m state ≡ goes (state_of values' returns' output' r) = sym did.reported ∙ step_goes values' returns' output' r goes-on in
              let grown = ((one_step m state).grows _ e).writes in
              let before = length-take-le s.written output h.held.written_there in
              let after = length-take-le r.written output' did.held.written_there in
              let both = length-append (take s.written output) grown.rest in
              let lengths = ap length grown.joined in
              let more_written : s.written ≤ r.written = omega arith in
              record {
                going = goes-on;
                held = did.held;
                past = h.past ++ (s.address ∷ []);
                led = led_more h.led e;
                counted = counted_more;
                fuelled = omega arith;
                same_values = turned_values;
                same_returns = turned_returns;
                same_output = turned_output;
                untouched = did.untouched ∙ drop_more s.written r.written output output₀ more_written h.untouched;
              }

          -- a step never stops with 14
          pub turned_not_14 : refusal_number r.stop ≢ fuel_used_up
          turned_not_14 is_14 =
              let on : r.stop ≢ GoesOn = λ z. let other : refusal_number r.stop ≡ 19 = ap refusal_number z in absurd (omega arith) in
              let ended : r.stop ≢ Ended = λ z. let other : refusal_number r.stop ≡ 19 = ap refusal_number z in absurd (omega arith) in
              let e : step m state ≡ refuses (refusal_number r.stop) = sym did.reported ∙ step_refuses values' returns' output' r on ended in
              not_14 (refusal_number r.stop) ((one_step m state).refusals (refusal_number r.stop) e) is_14

          -- it stops
          pub turned_stops :
              (a : Answer)
              → Fits w64 fuel
              → r.stop ≢ GoesOn
              → (units + 1 < 2 ^ 64 → Reports values' units r a)
              → Performed due output' values₀ values' returns₀ returns' a
          unfolding outcome_of number_reported due_at
          turned_stops a wide stops reported =
              let t : Reports values' units r a = reported (omega arith) in
              let still = did.still stops in
              let fuel_left : length h.past < fuel = omega (arith, h.counted) in
              elim (ended_or r.stop) [
                | inl is_end ↦
                    let e : step m state ≡ ends (number_kept (frame_of values' r)) = sym did.reported ∙ step_ends values' returns' output' r is_end in
                    stops_here _ _ output' values' returns' a (returned h.led fuel_left e)
                    (t.reports ∙ rw (due_at, is_end, still.read, still.written, counted_more) refl)
                    still.same
                    (words_ended before_stream _ _ _ _ _ turned_values turned_returns refl)
                | inr no_end ↦
                    let number : ℕ = refusal_number r.stop in
                    let e : step m state ≡ refuses number = sym did.reported ∙ step_refuses values' returns' output' r stops no_end in
                    let own_refusal = (one_step m state).refusals number e in
                    stops_here _ _ output' values' returns' a (stuck h.led fuel_left e)
                    (t.reports ∙ rw (due_at, not_ended _ no_end, names_itself _ own_refusal, still.read, still.written, h.counted) refl)
                    still.same
                    (run_refused before_stream _ _ _ _ _ turned_values turned_returns number s.read refl (not_before number own_refusal))
              ]

pub ruleset running = (run_first, turn_going, turn_lent, turned_output, turned_values, turned_returns, turned_on, turned_stops, stops_unfuelled)

-- ---- `perform`

-- value words are missing, or return words
module _ (code input output : List ℕ) (fuel : ℕ) (values returns : List ℕ) (r : Answer) (refusal : Refused)
    (refused_so : refusal ≡ record { why = SpaceTooShort; position = 0 }) (reported : run_answer r ≡ nothing_done refusal) where
  pub short_values :
      length values < value_words
      → Performed (stream_run code input output fuel (length values) (length returns)) output values values returns returns r
  unfolding stream_run
  short_values h =
      let none : stream_run code input output fuel (length values) (length returns) ≡ too_short output = rw (stream_run, lt-leb _ _ h) in
      rw none (record { answer = reported ∙ ap nothing_done refused_so; output = refl; words = untouched before_stream _ values returns })

  pub short_returns :
      value_words ≤ length values
      → length returns < return_words
      → Performed (stream_run code input output fuel (length values) (length returns)) output values values returns returns r
  unfolding stream_run
  short_returns v h =
      let none : stream_run code input output fuel (length values) (length returns) ≡ too_short output = rw (stream_run, le-leb _ _ v, lt-leb _ _ h) in
      rw none (record { answer = reported ∙ ap nothing_done refused_so; output = refl; words = untouched before_stream _ values returns })

  -- .. where the first of the value words are lent on
  pub short_returns_first :
      (first_values : List ℕ)
      → value_words ≤ length values
      → first_values ≡ take value_words values
      → length returns < return_words
      → Performed (stream_run code input output fuel (length values) (length returns)) output values (first_values ++ drop value_words values) returns returns r
  short_returns_first first_values v is h = rw (is, take-append-drop value_words values) (short_returns v h)

pub ruleset too-short = (short_values, short_returns)

-- ---- the work words of a run are the first of those that are lent

-- as many words as before, and the same ones where the first are as they were
module _ (n : ℕ) (l first first' : List ℕ) (is : first ≡ take n l) where
  whole_length : length first' ≡ length first → length (first' ++ drop n l) ≡ length l
  whole_length same = length-append first' (drop n l) ∙ ap (λ k. k + length (drop n l)) (same ∙ ap length is) ∙ sym (length-append (take n l) (drop n l)) ∙ ap length (take-append-drop n l)

  whole_kept : first' ≡ first → first' ++ drop n l ≡ l
  whole_kept same = rw (same, is) (take-append-drop n l)

module _ (code input output : List ℕ) (fuel : ℕ) (values returns values₁ returns₁ : List ℕ)
    (v : value_words ≤ length values) (p : return_words ≤ length returns)
    (first_values : values₁ ≡ take value_words values) (first_returns : returns₁ ≡ take return_words returns) where
  same_run : stream_run code input output fuel (length values₁) (length returns₁) ≡ stream_run code input output fuel (length values) (length returns)
  unfolding stream_run
  same_run =
      let lv = length-take-le value_words values v in
      let lr = length-take-le return_words returns p in
      let v₁ : value_words ≤ length values₁ = omega (arith, ap length first_values) in
      let p₁ : return_words ≤ length returns₁ = omega (arith, ap length first_returns) in
      rw (stream_run, le-leb _ _ v, le-leb _ _ p, le-leb _ _ v₁, le-leb _ _ p₁) refl

  -- what is done in them is done in the whole buffers
  pub done_in_first :
      (output' values' returns' : List ℕ) (a : Answer)
      → Performed (stream_run code input output fuel (length values₁) (length returns₁)) output' values₁ values' returns₁ returns' a
      → Performed (stream_run code input output fuel (length values) (length returns)) output' values (values' ++ drop value_words values) returns
      (returns' ++ drop return_words returns) a
  done_in_first output' values' returns' a done =
      let h = rw same_run at done in
      record {
        answer = h.answer;
        output = h.output;
        words = record {
          values_length = whole_length value_words values values₁ values' first_values h.words.values_length;
          returns_length = whole_length return_words returns returns₁ returns' first_returns h.words.returns_length;
          values_kept = λ n q e b. whole_kept value_words values values₁ values' first_values (h.words.values_kept n q e b);
          returns_kept = λ n q e b. whole_kept return_words returns returns₁ returns' first_returns (h.words.returns_kept n q e b);
        };
      }
