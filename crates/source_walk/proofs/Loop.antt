-- The walk: a law for each way out of its functions.
use Prim.Native.Nat.{ℕ, zero, suc, ◌+◌, ◌-◌, ◌*◌, ◌≤◌, ◌<◌}
use mathlib.Core.Bool.{Bool, true, false}
use mathlib.Core.List.{List}
use mathlib.Core.Logic.{◌≢◌}
use mathlib.Core.Path.{◌≡◌, refl, sym, ap, ap₂, ◌∙◌}
use native.Mathlib.Decide.{dec_le}
use native.Mathlib.Numerals.{add-one}
use native.Mathlib.Omega.{arith}
use borrow.Author.Tests.{lt-ltb, le-ltb}
use lib.ListN.{length}
use Rattle.formats.specs.Written.{written}
use Rattle.formats.proofs.Written.{wrote}
use Rattle.stepwise.specs.Inner.Steps.{emitted_first, rising, emitted_last}
use Rattle.std.specs.Prelude.{Result as Answer, Ok, Err}
use Rattle.refusal.specs.declared.Refusal.TheVariants.{FuelUsedUp, TooManyCalls, OutOfRange}
use Rattle.refusal.specs.declared.Refused.{Refused}
use Rattle.stages.specs.declared.Next.{Next}
use Rattle.stages.specs.declared.Next.TheVariants.{Begin, Finished, Open, Ended, Stuck, Broken}
use Rattle.stages.specs.declared.Stage.{Stage}
use Rattle.stages.specs.Inner.Stages.{to_begin, is_finished, to_open, node_of, number_of, state_of, staged, with_written, stage_of, words_of, returns_of}
use Rattle.stages.proofs.Stages.{begin_false, finished_false, open_false}
use Rattle.begin_record.specs.Inner.Begins.{Begins}
use Rattle.finish_record.specs.Inner.Rises.{Rises}
use Rattle.open_call.specs.Inner.Opens.{opened_turn, Opens}
use Rattle.result_bytes.specs.Inner.Bytes.{count_limit, Says}
use Rattle.source_walk.specs.declared.Value.{Value}
use Rattle.source_walk.specs.declared.Walked.{Walked}
use Rattle.source_walk.specs.Inner.Loop.{Run, run, stepped, weight_of, begin_step, rise_step, open_step, climbing, climbed, turned_from, turned, outcome_of, answer_with, Ending, ending, walking, first_stage, walked}
use Rattle.source_walk.specs.Inner.Loop.{BeginsOne, Climbs, OpensOne, Turns, Walks}

-- ---- `finish`, `weight_of`

module _ (s : Stage) where
  pub finish_ended : (x : ℕ) → s.next ≡ Ended x → Ok (record { written = s.written; number = x }) ≡ outcome_of s
  unfolding outcome_of
  finish_ended x e = rw (outcome_of, e)

  pub finish_broken : (r p : ℕ) (why : Refused) → s.next ≡ Broken r → p ≡ r → why ≡ record { why = OutOfRange; position = p } → Err why ≡ outcome_of s
  unfolding outcome_of
  finish_broken r p why e same at = rw (outcome_of, e) (ap Err (rw same at at))

  pub finish_deep : (why : Refused) → ((x : ℕ) → s.next ≢ Ended x) → ((r : ℕ) → s.next ≢ Broken r) → why ≡ record { why = TooManyCalls; position = 0 }
      → Err why ≡ outcome_of s
  unfolding outcome_of
  finish_deep why h g at = ap Err at ∙ by s.next refl
    where
      by : (n : Next) → s.next ≡ n → Err (record { why = TooManyCalls; position = 0 }) ≡ outcome_of s
      by (Ended x) e = absurd (h x e)
      by (Broken r) e = absurd (g r e)
      by _ e = rw (outcome_of, e)

  pub weight_finished : (r x a b : ℕ) → s.next ≡ Finished r x → a ≡ s.calls → b ≡ r → 1 + 65536 * a + b ≡ weight_of s
  unfolding weight_of
  weight_finished r x a b e calls node = rw (weight_of, e) (ap₂ (λ i k. 1 + 65536 * i + k) calls (node ∙ sym (ap node_of e)))

  pub weight_none : ((r x : ℕ) → s.next ≢ Finished r x) → 0 ≡ weight_of s
  unfolding weight_of
  weight_none h = rw (weight_of, finished_false _ h)

  -- the same by the test
  weight_some : is_finished s.next ≡ true → 0 < weight_of s
  unfolding weight_of
  weight_some e = rw (weight_of, e) (omega arith)

  weight_zero : is_finished s.next ≡ false → weight_of s ≡ 0
  unfolding weight_of
  weight_zero e = rw (weight_of, e)

pub ruleset finishing = (finish_ended, finish_broken, finish_deep)

pub ruleset weighing = (weight_finished, weight_none)

-- ---- runs

same_run : {o o' v v' l l' : List ℕ} {s s' : Stage} → o ≡ o' → v ≡ v' → l ≡ l' → s ≡ s' → run o v l s ≡ run o' v' l' s'
same_run {o' = o'} {v = v} {v' = v'} {l = l} {s = s} a b c d =
    ap (λ o. run o v l s) a ∙ ap (λ v. run o' v l s) b ∙ ap₂ (λ l s. run o' v' l s) c d

-- a write keeps the length
long_written : (s s' : List ℕ) (p : ℕ) (vs : List ℕ) → s' ≡ written s p vs → length s' ≡ length s
long_written s s' p vs e = ap length e ∙ (wrote s p vs).same_length

-- ---- `begin_one`

pub begin_one :
    (T input output output' values values' : List ℕ) (r : ℕ) (s n : Stage) (at : ℕ)
    → Says (emitted_first T r) output output' s.written at
    → Begins T input values values' r s n
    → BeginsOne T input output output' values values' r s (with_written n at)
unfolding begin_step
begin_one T input output output' values values' r s n at said b =
    record {
      moves = λ returns.
          let h = b.is returns in
          record {
            is = same_run said.wrote h.words h.returns_are (ap₂ with_written h.stage said.count);
            long_output = long_written output output' s.written (emitted_first T r) said.wrote;
            long_values = h.words_long;
            long_returns = refl;
          };
    }

-- ---- `climb`

module _ (T input : List ℕ) where
  climb_stays : (n : ℕ) (p : Run) → is_finished p.stage.next ≡ false → climbing T input n p ≡ p
  unfolding climbing
  climb_stays zero p h = refl
  climb_stays (suc n) p h = simp (climbing, h)

  climb_falls : (n : ℕ) (p : Run) → is_finished p.stage.next ≡ true → weight_of (rise_step T input p).stage < weight_of p.stage
      → climbing T input (suc n) p ≡ climbing T input n (rise_step T input p)
  unfolding climbing
  climb_falls n p e falls = simp (climbing, e, lt-ltb _ _ falls)

  climb_sticks : (n : ℕ) (p : Run) → is_finished p.stage.next ≡ true → weight_of p.stage ≤ weight_of (rise_step T input p).stage
      → climbing T input (suc n) p
      ≡ run (rise_step T input p).output (rise_step T input p).values (rise_step T input p).returns (staged (rise_step T input p).stage (Stuck 0))
  unfolding climbing
  climb_sticks n p e stays = simp (climbing, e, le-ltb _ _ stays)

  -- a stage that weighs something is one whose record is finished
  weighs : (s : Stage) → 0 < weight_of s → is_finished s.next ≡ true
  weighs s h = by (is_finished s.next) refl
    where
      by : (t : Bool) → is_finished s.next ≡ t → is_finished s.next ≡ true
      by true e = e
      by false e = absurd (omega (arith, weight_zero s e))

  -- more steps than the weight make no difference
  light : (n : ℕ) (p : Run) → weight_of p.stage ≤ 0 → climbing T input n p ≡ p
  light n p low = by (is_finished p.stage.next) refl
    where
      by : (t : Bool) → is_finished p.stage.next ≡ t → climbing T input n p ≡ p
      by true e = absurd (omega (arith, weight_some p.stage e))
      by false e = climb_stays n p e

  enough : (n m : ℕ) (p : Run) → weight_of p.stage ≤ n → weight_of p.stage ≤ m → climbing T input n p ≡ climbing T input m p
  enough zero m p a b = light zero p a ∙ sym (light m p a)
  enough (suc n) zero p a b = light (suc n) p b ∙ sym (light zero p b)
  enough (suc n) (suc m) p a b =
      elim (dec_le (weight_of p.stage) 0) [
        | yes low ↦ light (suc n) p low ∙ sym (light (suc m) p low)
        | no heavy ↦
            let h : is_finished p.stage.next ≡ true = weighs p.stage (omega arith) in
            elim (dec_le (weight_of p.stage) (weight_of (rise_step T input p).stage)) [
              | yes stays ↦ climb_sticks n p h stays ∙ sym (climb_sticks m p h stays)
              | no falls ↦
                  let less : weight_of (rise_step T input p).stage < weight_of p.stage = omega arith in
                  climb_falls n p h less
                  ∙ enough n m (rise_step T input p) (omega arith) (omega arith)
                  ∙ sym (climb_falls m p h less)
            ]
      ]

  -- one step on
  climbed_on : (p : Run) → is_finished p.stage.next ≡ true → weight_of (rise_step T input p).stage < weight_of p.stage
      → climbed T input p ≡ climbed T input (rise_step T input p)
  climbed_on p e falls =
      let some = weight_some p.stage e in
      let next : weight_of p.stage ≡ suc (weight_of p.stage - 1) = omega arith in
      ap (λ n. climbing T input n p) next
      ∙ climb_falls (weight_of p.stage - 1) p e falls
      ∙ enough (weight_of p.stage - 1) (weight_of (rise_step T input p).stage) (rise_step T input p) (omega arith) (omega arith)

  climbed_stuck : (p : Run) → is_finished p.stage.next ≡ true → weight_of p.stage ≤ weight_of (rise_step T input p).stage
      → climbed T input p
      ≡ run (rise_step T input p).output (rise_step T input p).values (rise_step T input p).returns (staged (rise_step T input p).stage (Stuck 0))
  climbed_stuck p e stays =
      let some = weight_some p.stage e in
      let next : weight_of p.stage ≡ suc (weight_of p.stage - 1) = omega arith in
      ap (λ n. climbing T input n p) next ∙ climb_sticks (weight_of p.stage - 1) p e stays

-- What is left of a climb gives the same as the whole climb.
pub record Climbing (T input returns output₀ output values₀ values : List ℕ) (start s : Stage) : Type 0 where
  pub is : climbed T input (run output values returns s) ≡ climbed T input (run output₀ values₀ returns start)
  pub long_output : length output ≡ length output₀
  pub long_values : length values ≡ length values₀

module _ (T input returns : List ℕ) where
  pub climb_first : (output values : List ℕ) (s : Stage) → Climbing T input returns output output values values s s
  climb_first output values s = record { is = refl; long_output = refl; long_values = refl }

  module _ (output₀ output output' values₀ values values' : List ℕ) (start s n : Stage) (at : ℕ)
      (c : Climbing T input returns output₀ output values₀ values start s)
      (r x : ℕ)
      (finished_it : s.next ≡ Finished r x)
      (said : Says (emitted_last T r x) output output' s.written at)
      (rises : Rises T input values values' returns r x s n)
    where
      is_so : is_finished s.next ≡ true
      is_so = ap is_finished finished_it

      -- the step that was taken
      one_step : run output' values' returns (with_written n at) ≡ rise_step T input (run output values returns s)
      unfolding rise_step
      one_step =
          same_run said.wrote rises.is.words rises.is.returns_are (ap₂ with_written rises.is.stage said.count)
          ∙ ap₂ (λ k y. stepped (run output values returns s) (rising T input k y (state_of values returns s)) (emitted_last T k y))
          (sym (ap node_of finished_it)) (sym (ap number_of finished_it))

      pub climb_long_output : length output' ≡ length output₀
      climb_long_output = long_written output output' s.written (emitted_last T r x) said.wrote ∙ c.long_output

      pub climb_long_values : length values' ≡ length values₀
      climb_long_values = rises.is.words_long ∙ c.long_values

      module _ (v w : ℕ) (ev : v ≡ weight_of s) (ew : w ≡ weight_of (with_written n at)) where
        -- the weight after it
        weight_is : weight_of (rise_step T input (run output values returns s)).stage ≡ w
        weight_is = ap (λ (p : Run). weight_of p.stage) (sym one_step) ∙ sym ew

        pub climb_more : w < v → Climbing T input returns output₀ output' values₀ values' start (with_written n at)
        climb_more falls =
            record {
              is =
                  ap (climbed T input) one_step
                  ∙ sym (climbed_on T input (run output values returns s) is_so (omega (arith, weight_is)))
                  ∙ c.is;
              long_output = climb_long_output;
              long_values = climb_long_values;
            }

        pub climb_stuck : (t : Stage) → v ≤ w → t ≡ staged (with_written n at) (Stuck 0)
            → Climbs T input returns output₀ output' values₀ values' start t
        climb_stuck t stays e =
            rw e
            (record {
              moves =
                  record {
                    is =
                        ap (λ (p : Run). run p.output p.values p.returns (staged p.stage (Stuck 0))) one_step
                        ∙ sym (climbed_stuck T input (run output values returns s) is_so (omega (arith, weight_is)))
                        ∙ c.is;
                    long_output = climb_long_output;
                    long_values = climb_long_values;
                    long_returns = refl;
                  };
            })

  pub climb_done : (output₀ output values₀ values : List ℕ) (start s : Stage) → Climbing T input returns output₀ output values₀ values start s → ((r x : ℕ) → s.next ≢ Finished r x)
      → Climbs T input returns output₀ output values₀ values start s
  climb_done output₀ output values₀ values start s c h =
      record {
        moves =
            record {
              is = sym (climb_stays T input (weight_of s) (run output values returns s) (finished_false _ h)) ∙ c.is;
              long_output = c.long_output;
              long_values = c.long_values;
              long_returns = refl;
            };
      }

pub ruleset climb_lengths = (climb_long_output, climb_long_values)

pub ruleset climbs = (climb_first, climb_more, climb_stuck, climb_done)

-- ---- `open_one`

module _ (T input values returns : List ℕ) (s : Stage) where
  -- The run after a call opens, where this is next.
  abbrev opened : List ℕ → Next → Run
  opened output next =
      let t = opened_turn T input (node_of next) (state_of values returns s) in
      run output (words_of values t) (returns_of returns t) (stage_of (staged s next) t)

  pub open_it : (values' returns' : List ℕ) (r : ℕ) (t : Stage) → s.next ≡ Open r → Opens T input values values' returns returns' r s t
      → OpensOne T input values values' returns returns' s t
  unfolding open_step
  open_it values' returns' r t next o =
      record {
        moves = λ output.
            record {
              is =
                  rw (open_step, ap to_open next)
                  (same_run refl o.is.words o.is.returns_are o.is.stage ∙ ap (opened output) (sym next));
              long_output = refl;
              long_values = o.is.words_long;
              long_returns = o.is.returns_long;
            };
      }

  pub open_none : ((r : ℕ) → s.next ≢ Open r) → OpensOne T input values values returns returns s s
  unfolding open_step
  open_none other =
      record {
        moves = λ output. record { is = sym (rw (open_step, open_false _ other)); long_output = refl; long_values = refl; long_returns = refl };
      }

pub ruleset opens_one = (open_it, open_none)

-- ---- `turn`

pub turn_taken :
    (T input output output' output'' values values' values'' values''' returns returns' : List ℕ) (r : ℕ) (s b c t : Stage)
    → BeginsOne T input output output' values values' r s b
    → Climbs T input returns output' output'' values' values'' b c
    → OpensOne T input values'' values''' returns returns' c t
    → Turns T input output output'' values values''' returns returns' r s t
turn_taken T input output output' output'' values values' values'' values''' returns returns' r s b c t b₁ c₁ o₁ =
    let one = b₁.moves returns in
    let two = c₁.moves in
    let three = o₁.moves output'' in
    record {
      moves =
          record {
            is = three.is ∙ ap (open_step T input) (two.is ∙ ap (climbed T input) one.is);
            long_output = two.long_output ∙ one.long_output;
            long_values = three.long_values ∙ two.long_values ∙ one.long_values;
            long_returns = three.long_returns;
          };
    }

-- ---- `walk`

module _ (T input : List ℕ) where
  walks_on : (fuel begun : ℕ) (p : Run) → to_begin (turned T input p).stage.next ≡ true → walking T input (suc fuel) begun p ≡ walking T input fuel (suc begun) (turned T input p)
  unfolding walking
  walks_on fuel begun p e = simp (walking, e)

  walks_out : (fuel begun : ℕ) (p : Run) → to_begin (turned T input p).stage.next ≡ false
      → walking T input (suc fuel) begun p ≡ ending (answer_with (outcome_of (turned T input p).stage) (suc begun)) (turned T input p)
  unfolding walking
  walks_out fuel begun p h = simp (walking, h)

  walks_none : (begun : ℕ) (p : Run) → walking T input 0 begun p ≡ ending (answer_with (Err (record { why = FuelUsedUp; position = 0 })) begun) p
  unfolding walking
  walks_none begun p = refl

-- What is left of a walk gives the same as the whole walk.
pub record Walking (T input : List ℕ) (first fuel : ℕ) (output₀ values₀ returns₀ output values returns : List ℕ) (r : ℕ) (s : Stage) (begun : ℕ) : Type 0 where
  pub is : walked T input first fuel output₀ values₀ returns₀ ≡ walking T input (fuel - begun) begun (run output values returns s)
  pub at : r ≡ node_of s.next
  pub few : begun ≤ fuel
  pub long_output : length output ≡ length output₀
  pub long_values : length values ≡ length values₀
  pub long_returns : length returns ≡ length returns₀
  pub short : length output₀ < count_limit

module _ (T input : List ℕ) (first fuel : ℕ) (output₀ values₀ returns₀ : List ℕ) where
  pub walk_first : length output₀ < count_limit
      → Walking T input first fuel output₀ values₀ returns₀ output₀ values₀ returns₀ first
      (record { next = Begin first; calls = 0; tree = 0; known = 0; end = 0; written = 0 })
      0
  walk_first short =
      let all : fuel ≡ fuel - 0 = omega arith in
      record {
        is = ap (λ k. walking T input k 0 (run output₀ values₀ returns₀ (first_stage first))) all;
        at = refl;
        few = omega arith;
        long_output = refl;
        long_values = refl;
        long_returns = refl;
        short = short;
      }

  -- the answer and the buffers, where the whole walk comes to these
  walks_to : (output values returns : List ℕ) (s : Stage) (r : Walked) → length values ≡ length values₀ → length returns ≡ length returns₀ → length output₀ < count_limit
      → walked T input first fuel output₀ values₀ returns₀ ≡ ending r (run output values returns s)
      → Walks T input first fuel output₀ output values₀ values returns₀ returns r
  walks_to output values returns s r v p short e =
      record {
        answer = sym (ap (λ (x : Ending). x.answer) e);
        output_is = sym (ap (λ (x : Ending). x.last.output) e);
        values_are = sym (ap (λ (x : Ending). x.last.values) e);
        returns_are = sym (ap (λ (x : Ending). x.last.returns) e);
        long_values = v;
        long_returns = p;
        short = short;
      }

  module _ (output output' values values' returns returns' : List ℕ) (r : ℕ) (s n : Stage) (begun : ℕ)
      (w : Walking T input first fuel output₀ values₀ returns₀ output values returns r s begun)
      (more : begun < fuel)
      (t : Turns T input output output' values values' returns returns' r s n)
    where
      -- one turn more
      left : fuel - begun ≡ suc (fuel - (begun + 1))
      left = omega arith

      so_far : walked T input first fuel output₀ values₀ returns₀ ≡ walking T input (suc (fuel - (begun + 1))) begun (run output values returns s)
      so_far = w.is ∙ ap (λ k. walking T input k begun (run output values returns s)) left

      -- the turn is that of the stage's record
      turn_is : run output' values' returns' n ≡ turned T input (run output values returns s)
      turn_is = t.moves.is ∙ ap (λ k. turned_from T input k (run output values returns s)) w.at

      next_is : (turned T input (run output values returns s)).stage.next ≡ n.next
      next_is = sym (ap (λ (p : Run). p.stage.next) turn_is)

      pub walk_long_output : length output' ≡ length output₀
      walk_long_output = t.moves.long_output ∙ w.long_output

      pub walk_long_values : length values' ≡ length values₀
      walk_long_values = t.moves.long_values ∙ w.long_values

      pub walk_long_returns : length returns' ≡ length returns₀
      walk_long_returns = t.moves.long_returns ∙ w.long_returns

      pub walk_more : (k : ℕ) → n.next ≡ Begin k → Walking T input first fuel output₀ values₀ returns₀ output' values' returns' k n (begun + 1)
      walk_more k going =
          record {
            is =
                so_far
                ∙ walks_on T input (fuel - (begun + 1)) begun (run output values returns s) (ap to_begin (next_is ∙ going))
                ∙ ap₂ (λ i p. walking T input (fuel - (begun + 1)) i p) (sym (add-one begun)) (sym turn_is);
            at = sym (ap node_of going);
            few = omega arith;
            long_output = walk_long_output;
            long_values = walk_long_values;
            long_returns = walk_long_returns;
            short = w.short;
          }

      pub walk_stops : (end : Answer Value Refused) → ((k : ℕ) → n.next ≢ Begin k) → end ≡ outcome_of n
          → Walks T input first fuel output₀ output' values₀ values' returns₀ returns' (answer_with end (begun + 1))
      walk_stops end other e =
          walks_to output' values' returns' n (answer_with end (begun + 1)) walk_long_values walk_long_returns w.short
          (so_far
          ∙ walks_out T input (fuel - (begun + 1)) begun (run output values returns s) (ap to_begin next_is ∙ begin_false _ other)
          ∙ ap (λ (p : Run). ending (answer_with (outcome_of p.stage) (suc begun)) p) (sym turn_is)
          ∙ ap₂ (λ x i. ending (answer_with x i) (run output' values' returns' n)) (sym e) (sym (add-one begun)))

  -- the fuel is used up
  pub walk_ends : (output values returns : List ℕ) (r : ℕ) (s : Stage) (begun : ℕ) (why : Refused)
      → fuel ≤ begun
      → why ≡ record { why = FuelUsedUp; position = 0 }
      → Walking T input first fuel output₀ values₀ returns₀ output values returns r s begun
      → Walks T input first fuel output₀ output values₀ values returns₀ returns (answer_with (Err why) fuel)
  walk_ends output values returns r s begun why none at w =
      let out : fuel - begun ≡ 0 = omega arith in
      let all : fuel ≡ begun = omega (arith, w.few) in
      rw at
      (walks_to output values returns s _ w.long_values w.long_returns w.short
      (w.is
      ∙ ap (λ k. walking T input k begun (run output values returns s)) out
      ∙ walks_none T input begun (run output values returns s)
      ∙ ap (λ k. ending (answer_with (Err (record { why = FuelUsedUp; position = 0 })) k) (run output values returns s)) (sym all)))

pub ruleset walk_lengths = (walk_long_output, walk_long_values, walk_long_returns)

pub ruleset walks = (walk_first, walk_more, walk_stops, walk_ends)
