-- What holds of a run of the loop until the outcome is reached. Each step keeps it.
use Prim.Native.Nat.{ℕ, zero, suc, ◌+◌, ◌≤◌, ◌<◌}
use mathlib.Core.Bool.{Bool, true, false}
use mathlib.Core.List.{List, ◌++◌}
use mathlib.Core.Path.{◌≡◌, refl, sym, ap, ◌∙◌}
use native.Mathlib.Decide.{dec_le}
use native.Mathlib.Omega.{arith}
use borrow.Author.Tests.{lt-ltb, le-ltb, ltb-true}
use lib.Dec.{ltb}
use lib.ListN.{length, length-append}
use Rattle.formats.specs.Written.{written}
use Rattle.formats.proofs.Written.{written_append, wrote}
use Rattle.meaning.specs.OpenCalls.{Outcome, begins}
use Rattle.stepwise.specs.Inner.Steps.{State, Turn, begin, finished, opens, Found, record_limit, tree_at, beginning, emitted_first, rising, emitted_last, weight, opening}
use Rattle.stepwise.specs.Inner.Outcomes.{Reported, Comes, at_begin, at_finished, at_open}
use Rattle.stages.specs.declared.Stage.{Stage}
use Rattle.stages.specs.declared.Next.{Next}
use Rattle.stages.specs.declared.Next.TheVariants.{Finished, Stuck}
use Rattle.stages.specs.Inner.Stages.{to_begin, is_finished, to_open, node_of, number_of, state_of, Missing, none_missing, turn_of, staged, stage_of, words_of, returns_of, missing_in}
use Rattle.stages.proofs.Stages.{begin_next, finished_next, open_next, turn_begin, turn_finished, turn_open, turn_written, turn_again, same_written}
use Rattle.begin_record.proofs.Begins.{begun_found}
use Rattle.open_call.specs.Inner.Opens.{opened_turn}
use Rattle.open_call.proofs.Opens.{opened_found, opened_settled}
use Rattle.result_bytes.specs.Inner.Bytes.{count_limit, counted}
use Rattle.walk_outcome.specs.Inner.Outcomes.{Counts}
use Rattle.source_walk.specs.Inner.Loop.{Run, run, stepped, weight_of, begin_step, rise_step, open_step, climbing, climbed, turned}

-- `out` is written, as far as it fits, into a buffer that held output₀ before, and the run's turn
-- comes to the outcome o.
pub record Holding (T input output₀ : List ℕ) (p : Run) (o : Outcome Reported) : Type 0 where
  pub out : List ℕ
  pub missing : Missing
  pub comes : Comes T input out (turn_of missing p.values p.returns p.stage) o
  pub counts : Counts p.stage.written out
  pub wrote : length out ≤ length output₀ → p.output ≡ written output₀ 0 out
  pub long : length p.output ≡ length output₀
  pub short : length output₀ < count_limit

-- An expression begins first, and then this holds.
pub record Begun (T input output₀ : List ℕ) (p : Run) (o : Outcome Reported) : Type 0 where
  pub rest : Outcome Reported
  pub begun : o ≡ begins rest
  pub holds : Holding T input output₀ p rest

-- ---- what a turn comes to

module _ (T input : List ℕ) where
  -- an expression begins
  record BeginsAt (out : List ℕ) (r : ℕ) (s : State) (o : Outcome Reported) : Type 0 where
    offset : ℕ
    few : r < record_limit
    found : Found T input s (tree_at T r) offset
    rest : Outcome Reported
    begun : o ≡ begins rest
    comes : Comes T input (out ++ emitted_first T r) (beginning T input offset r s) rest

  comes_begin : {out : List ℕ} {r : ℕ} {s : State} {o : Outcome Reported} → Comes T input out (begin r s) o → BeginsAt out r s o
  comes_begin (at_begin {o = o} p few found c) = record { offset = p; few = few; found = found; rest = o; begun = refl; comes = c }

  record RisesFrom (out : List ℕ) (r x : ℕ) (s : State) (o : Outcome Reported) : Type 0 where
    falls : weight (rising T input r x s) < weight (finished r x s)
    comes : Comes T input (out ++ emitted_last T r x) (rising T input r x s) o

  comes_finished : {out : List ℕ} {r x : ℕ} {s : State} {o : Outcome Reported} → Comes T input out (finished r x s) o → RisesFrom out r x s o
  comes_finished (at_finished falls c) = record { falls = falls; comes = c }

  record OpensAt (out : List ℕ) (r : ℕ) (s : State) (o : Outcome Reported) : Type 0 where
    offset : ℕ
    few : r < record_limit
    found : Found T input s (tree_at T r) offset
    comes : Comes T input out (opening T offset r s) o

  comes_open : {out : List ℕ} {r : ℕ} {s : State} {o : Outcome Reported} → Comes T input out (opens r s) o → OpensAt out r s o
  comes_open (at_open p few found c) = record { offset = p; few = few; found = found; comes = c }

-- ---- what is written

-- the count after more bytes
counts_more : (at : ℕ) (out bytes : List ℕ) → Counts at out → Counts (counted at (length bytes)) (out ++ bytes)
unfolding counted
counts_more at out bytes c =
    let both = length-append out bytes in
    elim (dec_le count_limit at) [
      | yes many ↦
          let same : counted at (length bytes) ≡ at = rw (counted, le-ltb _ _ many) in
          rw same (record { few = λ few. absurd (omega arith); many = λ h. let long = c.many many in omega arith })
      | no few ↦
          let low : at < count_limit = omega arith in
          let exact : at ≡ length out = c.few low in
          let same : counted at (length bytes) ≡ at + length bytes = rw (counted, lt-ltb _ _ low) in
          rw same (record { few = λ h. omega arith; many = λ h. omega arith })
    ]

-- these bytes are written after the others, where all fit
wrote_more :
    (output₀ output output' : List ℕ) (at : ℕ) (out bytes : List ℕ)
    → Counts at out
    → length output₀ < count_limit
    → (length out ≤ length output₀ → output ≡ written output₀ 0 out)
    → output' ≡ written output at bytes
    → length (out ++ bytes) ≤ length output₀
    → output' ≡ written output₀ 0 (out ++ bytes)
wrote_more output₀ output output' at out bytes c short before w fits =
    let both = length-append out bytes in
    let low : at < count_limit = elim (dec_le count_limit at) [ yes many ↦ let long = c.many many in absurd (omega arith) | no few ↦ omega arith ] in
    let exact : at ≡ 0 + length out = omega (arith, c.few low) in
    w
    ∙ ap (λ (l : List ℕ). written l at bytes) (before (omega arith))
    ∙ ap (λ p. written (written output₀ 0 out) p bytes) exact
    ∙ written_append output₀ 0 out bytes (omega arith)

-- the weight of a stage is that of its turn
weight_turn : (m : Missing) (values returns : List ℕ) (s : Stage) → weight (turn_of m values returns s) ≡ weight_of s
unfolding turn_of weight weight_of
weight_turn m values returns s = by s.next refl
  where
    by : (n : Next) → s.next ≡ n → weight (turn_of m values returns s) ≡ weight_of s
    by (Finished r x) e = let node : node_of s.next ≡ r = ap node_of e in rw (turn_of, weight_of, e) (omega (arith, node))
    by _ e = rw (turn_of, weight_of, e) refl

-- ---- the steps

module _ (T input output₀ : List ℕ) where
  -- with these bytes more, the next turn comes to what is left
  held : (p : Run) (t : Turn) (bytes : List ℕ) (o rest : Outcome Reported) (h : Holding T input output₀ p o) → Comes T input (h.out ++ bytes) t rest
      → Holding T input output₀ (stepped p t bytes) rest
  held p t bytes o rest h c =
      record {
        out = h.out ++ bytes;
        missing = missing_in t;
        comes = rw (
          turn_written (missing_in t) (words_of p.values t) (returns_of p.returns t) (stage_of p.stage t) (counted p.stage.written (length bytes)),
          turn_again p.values p.returns p.stage t,
        ) c;
        counts = counts_more p.stage.written h.out bytes h.counts;
        wrote = wrote_more output₀ p.output (written p.output p.stage.written bytes) p.stage.written h.out bytes h.counts h.short h.wrote refl;
        long = (wrote p.output p.stage.written bytes).same_length ∙ h.long;
        short = h.short;
      }

  begin_holds : (p : Run) (o : Outcome Reported) → to_begin p.stage.next ≡ true → Holding T input output₀ p o
      → Begun T input output₀ (begin_step T input (node_of p.stage.next) p) o
  unfolding begin_step
  begin_holds p o going h =
      let s = state_of p.values p.returns p.stage in
      let r = node_of p.stage.next in
      let b = comes_begin T input (rw (turn_begin h.missing p.values p.returns p.stage r (begin_next _ going)) at h.comes) in
      record {
        rest = b.rest;
        begun = b.begun;
        holds = rw (← begin_next _ going) (held p _ (emitted_first T r) o b.rest h (rw (begun_found T input r b.offset s b.few b.found) b.comes));
      }

  -- a record that is finished
  module _ (p : Run) (o : Outcome Reported) (done : is_finished p.stage.next ≡ true) (h : Holding T input output₀ p o) where
    -- The record and its number.
    abbrev r : ℕ
    r = node_of p.stage.next

    abbrev x : ℕ
    x = number_of p.stage.next

    from_it : RisesFrom T input h.out r x (state_of p.values p.returns p.stage) o
    from_it = comes_finished T input (rw (turn_finished h.missing p.values p.returns p.stage r x (finished_next _ done)) at h.comes)

    rise_holds : Holding T input output₀ (rise_step T input p) o
    unfolding rise_step
    rise_holds = held p _ (emitted_last T r x) o o h from_it.comes

    -- the weight falls
    rise_falls : weight_of (rise_step T input p).stage < weight_of p.stage
    unfolding rise_step weight_of
    rise_falls =
        let s = state_of p.values p.returns p.stage in
        let t = rising T input r x s in
        let old : weight (finished r x s) ≡ weight_of p.stage =
        ap weight (sym (turn_finished none_missing p.values p.returns p.stage r x (finished_next _ done))) ∙ weight_turn none_missing p.values p.returns p.stage in
        let new : weight t ≡ weight_of (stage_of p.stage t) =
        ap weight (sym (turn_again p.values p.returns p.stage t)) ∙ weight_turn (missing_in t) (words_of p.values t) (returns_of p.returns t) (stage_of p.stage t) in
        let falls = from_it.falls in
        omega arith

  climb_holds : (n : ℕ) (p : Run) (o : Outcome Reported) → Holding T input output₀ p o → Holding T input output₀ (climbing T input n p) o
  unfolding climbing
  climb_holds zero p o h = h
  climb_holds (suc n) p o h = by (is_finished p.stage.next) refl (λ holds. climb_holds n (rise_step T input p) o holds)
    where
      on : is_finished p.stage.next ≡ true → (Holding T input output₀ (rise_step T input p) o → Holding T input output₀ (climbing T input n (rise_step T input p)) o)
          → Holding T input output₀
          (elim (ltb (weight_of (rise_step T input p).stage) (weight_of p.stage)) [
            | true ↦ climbing T input n (rise_step T input p)
            | false ↦ run (rise_step T input p).output (rise_step T input p).values (rise_step T input p).returns (staged (rise_step T input p).stage (Stuck 0))
          ])
          o
      on done next = rw (lt-ltb _ _ (rise_falls p o done h)) (next (rise_holds p o done h))

      by : (b : Bool) → is_finished p.stage.next ≡ b → (Holding T input output₀ (rise_step T input p) o → Holding T input output₀ (climbing T input n (rise_step T input p)) o)
          → Holding T input output₀
          (elim b [
            | true ↦
                elim (ltb (weight_of (rise_step T input p).stage) (weight_of p.stage)) [
                  | true ↦ climbing T input n (rise_step T input p)
                  | false ↦ run (rise_step T input p).output (rise_step T input p).values (rise_step T input p).returns (staged (rise_step T input p).stage (Stuck 0))
                ]
            | false ↦ p
          ])
          o
      by true e next = on e next
      by false e next = h

  open_holds : (p : Run) (o : Outcome Reported) → Holding T input output₀ p o → Holding T input output₀ (open_step T input p) o
  unfolding open_step
  open_holds p o h = by (to_open p.stage.next) refl
    where
      t : Turn
      t = opened_turn T input (node_of p.stage.next) (state_of p.values p.returns p.stage)

      opens_it : to_open p.stage.next ≡ true → Holding T input output₀ (run p.output (words_of p.values t) (returns_of p.returns t) (stage_of p.stage t)) o
      opens_it going =
          let r = node_of p.stage.next in
          let c = comes_open T input (rw (turn_open h.missing p.values p.returns p.stage r (open_next _ going)) at h.comes) in
          let s = state_of p.values p.returns p.stage in
          record {
            out = h.out;
            missing = missing_in t;
            comes = rw (turn_again p.values p.returns p.stage t, opened_found T input r c.offset s c.few c.found) c.comes;
            counts = rw (same_written p.stage t) h.counts;
            wrote = h.wrote;
            long = h.long;
            short = h.short;
          }

      by : (b : Bool) → to_open p.stage.next ≡ b
          → Holding T input output₀
          (elim b [ true ↦ run p.output (words_of p.values t) (returns_of p.returns t) (stage_of p.stage t) | false ↦ p ])
          o
      by true e = opens_it e
      by false e = h

  -- a turn
  pub turn_holds : (p : Run) (o : Outcome Reported) → to_begin p.stage.next ≡ true → Holding T input output₀ p o → Begun T input output₀ (turned T input p) o
  turn_holds p o going h =
      let b = begin_holds p o going h in
      let q = begin_step T input (node_of p.stage.next) p in
      record { rest = b.rest; begun = b.begun; holds = open_holds (climbed T input q) b.rest (climb_holds (weight_of q.stage) q b.rest b.holds) }

-- ---- what is to be done after a turn

-- Whether a record is finished, or a call is to open, next in a run.
abbrev finishes : Run → Bool
finishes p = is_finished p.stage.next

abbrev opens_next : Run → Bool
opens_next p = to_open p.stage.next

module _ (T input : List ℕ) where
  -- a stage whose record is finished has a weight above 0
  some_weight : (s : Stage) → is_finished s.next ≡ true → 0 < weight_of s
  unfolding weight_of
  some_weight s e = rw (weight_of, e) (omega arith)

  -- nothing is finished after a climb
  climb_settles : (n : ℕ) (p : Run) → weight_of p.stage ≤ n → finishes (climbing T input n p) ≡ false
  unfolding climbing
  climb_settles zero p low = by (is_finished p.stage.next) refl
    where
      by : (b : Bool) → is_finished p.stage.next ≡ b → is_finished p.stage.next ≡ false
      by true e = absurd (omega (arith, some_weight p.stage e))
      by false e = e
  climb_settles (suc n) p low = by (is_finished p.stage.next) refl (ltb (weight_of (rise_step T input p).stage) (weight_of p.stage)) refl (λ less. climb_settles n (rise_step T input p) less)
    where
      by : (b : Bool) → is_finished p.stage.next ≡ b → (c : Bool) → ltb (weight_of (rise_step T input p).stage) (weight_of p.stage) ≡ c
          → (weight_of (rise_step T input p).stage ≤ n → finishes (climbing T input n (rise_step T input p)) ≡ false)
          → finishes
          (elim b [
            | true ↦
                elim c [
                  | true ↦ climbing T input n (rise_step T input p)
                  | false ↦ run (rise_step T input p).output (rise_step T input p).values (rise_step T input p).returns (staged (rise_step T input p).stage (Stuck 0))
                ]
            | false ↦ p
          ])
          ≡ false
      by true e true less next = next (omega (arith, ltb-true (weight_of (rise_step T input p).stage) (weight_of p.stage) less))
      by true e false less next = refl
      by false e c less next = e

  open_settles : (p : Run) → finishes p ≡ false → (finishes (open_step T input p) ≡ false) × (opens_next (open_step T input p) ≡ false)
  unfolding open_step
  open_settles p settled = by (to_open p.stage.next) refl
    where
      t : Turn
      t = opened_turn T input (node_of p.stage.next) (state_of p.values p.returns p.stage)

      by : (b : Bool) → to_open p.stage.next ≡ b
          → (finishes (elim b [ true ↦ run p.output (words_of p.values t) (returns_of p.returns t) (stage_of p.stage t) | false ↦ p ]) ≡ false)
          × (opens_next (elim b [ true ↦ run p.output (words_of p.values t) (returns_of p.returns t) (stage_of p.stage t) | false ↦ p ]) ≡ false)
      by true e = opened_settled T input (node_of p.stage.next) (state_of p.values p.returns p.stage) p.stage
      by false e = (settled, e)

  pub turn_settles : (p : Run) → (finishes (turned T input p) ≡ false) × (opens_next (turned T input p) ≡ false)
  turn_settles p =
      let q = begin_step T input (node_of p.stage.next) p in
      open_settles (climbed T input q) (climb_settles (weight_of q.stage) q (omega arith))
