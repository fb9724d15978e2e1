-- The answer of a run that stops: a law for each way out of its functions.
use Rattle.std.proofs.Common.{◌≡◌, ℕ, suc, ◌+◌, ◌-◌, ◌%◌, ◌^◌, ◌<◌, ◌≤◌, ◌≢◌, Bool, true, false, List, ◌∷◌, length, get_or, Ok, Err, sym, refl, ap, ◌∙◌, arith}
use mathlib.Core.Logic.{◌⊎◌, inl, inr}
use lib.ListN.{get_or-eq_default}
use Rattle.std.proofs.lemmas.Option.{unwrap_or-slice_get}
use Rattle.formats.specs.Refusals.{fuel_used_up, too_deep}
use Rattle.refusal.specs.Inner.Numbers.{number}
use Rattle.refusal.specs.declared.Refusal.{Refusal}
use Rattle.refusal.specs.declared.Refusal.TheVariants.{FileLength, BlockCheck, BlockField, HeaderField, FunctionField, NodeField, PrefixForm, WrongType, NotBound, TooManyWords}
use Rattle.refusal.specs.declared.Refusal.TheVariants.{OutOfOrder, TooManyPending, SpaceTooShort, FuelUsedUp, InputEnded, NotATag, OutputFull, TooManyCalls, CannotPerform, TooDeep, OutOfRange}
use Rattle.refusal.specs.declared.Refused.{Refused}
use Rattle.meaning.specs.Performing.{number_kept}
use Rattle.machine_state.specs.declared.Machine.{Machine}
use Rattle.machine_state.specs.declared.Answer.{Answer}
use Rattle.machine_state.specs.declared.Stop.{Stop}
use Rattle.machine_state.specs.declared.Stop.TheVariants.{GoesOn, Ended, Refused as RefusedWith}
use Rattle.machine_state.specs.Inner.States.{words_from, frame_of, goes_on, has_ended}
use Rattle.machine_state.specs.Inner.Answers.{run_answer, reported_refusal, counted, due_at, Reports, in_64_bits}

-- ---- what a stop is not

pub stops : (k : Stop) → k ≢ GoesOn → goes_on k ≡ false
stops GoesOn h = absurd (h refl)
stops Ended h = refl
stops (RefusedWith why) h = refl

pub not_ended : (k : Stop) → k ≢ Ended → has_ended k ≡ false
not_ended GoesOn h = refl
not_ended Ended h = absurd (h refl)
not_ended (RefusedWith why) h = refl

no_end : (k : Stop) → has_ended k ≡ false → k ≢ Ended
no_end k h e = let wrong : true ≡ false = sym (ap has_ended e) ∙ h in cc

pub ended_or : (k : Stop) → (k ≡ Ended) ⊎ (k ≢ Ended)
ended_or GoesOn = inr (no_end GoesOn refl)
ended_or Ended = inl refl
ended_or (RefusedWith why) = inr (no_end (RefusedWith why) refl)

-- ---- `number_kept`

-- the top word first
pub words_top :
    (values : List ℕ) (base top : ℕ)
    → base < top
    → words_from values base (top - base) ≡ get_or values (top - 1) 0 ∷ words_from values base (top - 1 - base)
unfolding words_from
words_top values base top h =
    let one_more : top - base ≡ suc (top - 1 - base) = omega arith in
    let there : base + (top - 1 - base) ≡ top - 1 = omega arith in
    ap (words_from values base) one_more ∙ ap (λ i. get_or values i 0 ∷ words_from values base (top - 1 - base)) there

module _ (values : List ℕ) (s : Machine) where
  pub kept_none : s.top ≤ s.base → 0 ≡ number_kept (frame_of values s)
  unfolding words_from number_kept
  kept_none low = let none : s.top - s.base ≡ 0 = omega arith in sym (ap (λ n. number_kept (words_from values s.base n)) none)

  pub kept_top : s.base < s.top → get_or values (s.top - 1) 0 ≡ number_kept (frame_of values s)
  unfolding number_kept
  kept_top some = sym (ap number_kept (words_top values s.base s.top some))

  -- past the end of the words there is 0
  pub kept_past : s.base < s.top → length values < s.top → 0 ≡ number_kept (frame_of values s)
  kept_past some few = sym (get_or-eq_default values 0 {n = s.top - 1} (omega arith)) ∙ kept_top some

pub ruleset kept = (kept_none, kept_top, unwrap_or-slice_get)

-- ---- `report`

-- a refusal of a run is reported as it is
pub own_reported : (why : Refusal) → fuel_used_up ≤ number why → number why ≢ too_deep → reported_refusal why ≡ why
own_reported FileLength late h = absurd (omega arith)
own_reported BlockCheck late h = absurd (omega arith)
own_reported BlockField late h = absurd (omega arith)
own_reported HeaderField late h = absurd (omega arith)
own_reported FunctionField late h = absurd (omega arith)
own_reported NodeField late h = absurd (omega arith)
own_reported PrefixForm late h = absurd (omega arith)
own_reported WrongType late h = absurd (omega arith)
own_reported NotBound late h = absurd (omega arith)
own_reported TooManyWords late h = absurd (omega arith)
own_reported OutOfOrder late h = absurd (omega arith)
own_reported TooManyPending late h = absurd (omega arith)
own_reported SpaceTooShort late h = absurd (omega arith)
own_reported FuelUsedUp late h = refl
own_reported InputEnded late h = refl
own_reported NotATag late h = refl
own_reported OutputFull late h = refl
own_reported TooManyCalls late h = refl
own_reported CannotPerform late h = refl
own_reported TooDeep late h = absurd (h refl)
own_reported OutOfRange late h = refl

module _ (values : List ℕ) (units : ℕ) (s : Machine) where
  pub wrapped_ended :
      (number more : ℕ)
      → s.stop ≡ Ended
      → number ≡ number_kept (frame_of values s)
      → more ≡ counted units s.stop
      → run_answer (record { outcome = Ok number; units = more; read = s.read; written = s.written }) ≡ in_64_bits (due_at values units s)
  unfolding due_at
  wrapped_ended number more e is given = rw (due_at, e, is, given, e) refl

  -- the refusal is the one reported, or 19 where the machine goes on
  pub wrapped_refused :
      (r : Refused) (why own : Refusal) (same : ℕ)
      → s.stop ≡ RefusedWith why
      → units < 2 ^ 64
      → own ≡ reported_refusal why
      → r ≡ record { why = own; position = s.read }
      → same ≡ counted units s.stop
      → run_answer (record { outcome = Err r; units = same; read = s.read; written = s.written }) ≡ in_64_bits (due_at values units s)
  unfolding due_at
  wrapped_refused r why own same e wide is at given =
      let fits : units % 2 ^ 64 ≡ units = omega arith in
      rw (due_at, e, e, at, is, given, e, fits) refl

  pub wrapped_going :
      (r : Refused) (same : ℕ)
      → s.stop ≡ GoesOn
      → units < 2 ^ 64
      → r ≡ record { why = CannotPerform; position = s.read }
      → same ≡ counted units s.stop
      → run_answer (record { outcome = Err r; units = same; read = s.read; written = s.written }) ≡ in_64_bits (due_at values units s)
  unfolding due_at
  wrapped_going r same e wide at given =
      let fits : units % 2 ^ 64 ≡ units = omega arith in
      rw (due_at, e, e, at, given, e, fits) refl

  -- where the unit of the last return does not wrap, nothing is cut off
  due_fits : units + 1 < 2 ^ 64 → in_64_bits (due_at values units s) ≡ due_at values units s
  unfolding due_at
  due_fits wide =
      let one_more : (units + 1) % 2 ^ 64 ≡ units + 1 = omega arith in
      let none_more : units % 2 ^ 64 ≡ units = omega arith in
      by (has_ended s.stop) refl one_more none_more
    where
      by : (t : Bool) → has_ended s.stop ≡ t → (units + 1) % 2 ^ 64 ≡ units + 1 → units % 2 ^ 64 ≡ units → in_64_bits (due_at values units s) ≡ due_at values units s
      by true e one none = rw (due_at, e, one) refl
      by false e one none = rw (due_at, e, none) refl

  pub reports_whole : (r : Answer) → run_answer r ≡ in_64_bits (due_at values units s) → units + 1 < 2 ^ 64 → Reports values units s r
  reports_whole r is wide = record { reports = is ∙ due_fits wide }

pub ruleset reported = (wrapped_ended, wrapped_refused, wrapped_going, reports_whole)
