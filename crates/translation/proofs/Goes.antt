-- How code keeps up with an outcome of the evaluation: where the outcome gives a value, the code
-- comes, in so many units, to the state that has it; where it stops, at a sum out of range or at a
-- call too many, the code is refused there; or the input has a fault, and the code is refused at
-- it.
use Prim.Native.Nat.{ℕ, suc, ◌+◌}
use mathlib.Core.List.{List}
use Rattle.formats.specs.Refusals.{input_ended, not_a_tag}
use Rattle.meaning.specs.Performing.{Setting, State}
use Rattle.meaning.specs.Running.{refused}
use Rattle.meaning.specs.OpenCalls.{Reason, refusal_of, Outcome, gives, stops, begins, after_begun, followed_by}
use Rattle.meaning.proofs.Outcomes.{after_more, next_after}
use Rattle.translation.proofs.Paths.{Path, join}
use Rattle.translation.proofs.Courses.{Course, course_after}

-- What is refused of an input with a fault: 15, or 16.
pub data InputFault : ℕ → Type 0 where
  input-ended : InputFault input_ended
  not-a-tag : InputFault not_a_tag

-- What may hold of a value: given the expressions begun, the units spent and the bytes read.
abbrev pub OfValue : Type 0 → Type 1
OfValue X = (n : ℕ) → X → (units read : ℕ) → Type 0

-- What may hold of a stop: given the expressions begun, its reason and record, the units spent and
-- all that is written by then.
abbrev pub OfStop : Type 1
OfStop = (n : ℕ) → Reason → (at_record units : ℕ) → (output : List ℕ) → Type 0

-- From state s the code keeps up with an outcome. `finish` is the state to come to, given the value
-- and the bytes then read; `Post` is what holds then, `Stopped` what holds of a stop.
module _ (Faulty : Type 0) (m : Setting) where
  pub data Goes (s : State) {X A : Type 0} (form : X → A) (finish : X → ℕ → State) (Post : OfValue X) (Stopped : OfStop) : Outcome A → Type 0 where
    arrives :
        (n : ℕ) (x : X) (units read : ℕ)
        → Path m s (finish x read) units
        → Post n x units read
        → Goes s form finish Post Stopped (after_begun n (gives (form x)))
    halts :
        (n : ℕ) (why : Reason) (r : ℕ) (c : Course m s (refused (refusal_of why)))
        → Stopped n why r c.units c.last.output
        → Goes s form finish Post Stopped (after_begun n (stops why r))
    faults : {o : Outcome A} (why : ℕ) → Faulty → InputFault why → Course m s (refused why) → Goes s form finish Post Stopped o

  module _ {X A : Type 0} {form : X → A} {finish : X → ℕ → State} {Post : OfValue X} {Stopped : OfStop} where
    -- the value is given when nothing more begins
    pub goes_there : {s : State} (x : X) (units read : ℕ) → Path m s (finish x read) units → Post 0 x units read
        → Goes s form finish Post Stopped (gives (form x))
    unfolding after_begun
    goes_there x units read path post = arrives 0 x units read path post

    -- it stops when nothing more begins
    pub goes_stuck : {s : State} (why : Reason) (r : ℕ) (c : Course m s (refused (refusal_of why))) → Stopped 0 why r c.units c.last.output
        → Goes s form finish Post Stopped (stops why r)
    unfolding after_begun
    goes_stuck why r c stopped = halts 0 why r c stopped

    -- an expression begins
    pub goes_begins : {s : State} {o : Outcome A} → Goes s form finish (λ n x. Post (suc n) x) (λ n. Stopped (suc n)) o
        → Goes s form finish Post Stopped (begins o)
    unfolding after_begun
    goes_begins (arrives n x units read path post) = arrives (suc n) x units read path post
    goes_begins (halts n why r c stopped) = halts (suc n) why r c stopped
    goes_begins (faults why f w h) = faults why f w h

    -- several do
    goes_after : {s : State} {o : Outcome A} (k : ℕ) → Goes s form finish (λ n x. Post (k + n) x) (λ n. Stopped (k + n)) o
        → Goes s form finish Post Stopped (after_begun k o)
    goes_after k (arrives n x units read path post) = rw after_more (arrives (k + n) x units read path post)
    goes_after k (halts n why r c stopped) = rw after_more (halts (k + n) why r c stopped)
    goes_after k (faults why f w h) = faults why f w h

    -- instructions before
    pub goes_first :
        {s t : State} {o : Outcome A} {units : ℕ}
        → Path m s t units
        → Goes t form finish (λ n x more. Post n x (units + more)) (λ n why r more. Stopped n why r (units + more)) o
        → Goes s form finish Post Stopped o
    goes_first {units = units} path (arrives n x more read rest post) = arrives n x (units + more) read (join path rest) post
    goes_first path (halts n why r c stopped) = halts n why r (course_after path c) stopped
    goes_first path (faults why f w h) = faults why f w (course_after path h)

  -- what is left of the way, after the state that the value is in
  pub record Then {X : Type 0} (s : State) (finish : X → ℕ → State) (Post : OfValue X) (n : ℕ) (x : X) (units : ℕ) : Type 0 where
    pub more : ℕ
    pub read : ℕ
    pub path : Path m s (finish x read) more
    pub post : Post n x (units + more) read

  -- What was shown of a stop of a part shows this of it as a stop of the whole.
  abbrev pub Stays : OfStop → OfStop → Type 0
  Stays S T = (n : ℕ) (why : Reason) (r units : ℕ) (output : List ℕ) → S n why r units output → T n why r units output

  -- instructions after
  pub goes_then :
      {X A : Type 0} {form : X → A} {finish finish' : X → ℕ → State} {Post Post' : OfValue X} {Stopped Stopped' : OfStop} {s : State} {o : Outcome A}
      → Goes s form finish Post Stopped o
      → Stays Stopped Stopped'
      → ((n : ℕ) (x : X) (units read : ℕ) → Post n x units read → Then (finish x read) finish' Post' n x units)
      → Goes s form finish' Post' Stopped' o
  goes_then (arrives n x units read path post) stays on =
      let then = on n x units read post in
      arrives n x _ then.read (join path then.path) then.post
  goes_then (halts n why r c stopped) stays on = halts n why r c (stays n why r _ _ stopped)
  goes_then (faults why f w h) stays on = faults why f w h

  -- more is known
  pub goes_map :
      {X A : Type 0} {form : X → A} {finish : X → ℕ → State} {Post Post' : OfValue X} {Stopped Stopped' : OfStop} {s : State} {o : Outcome A}
      → Goes s form finish Post Stopped o
      → Stays Stopped Stopped'
      → ((n : ℕ) (x : X) (units read : ℕ) → Post n x units read → Post' n x units read)
      → Goes s form finish Post' Stopped' o
  goes_map (arrives n x units read path post) stays on = arrives n x units read path (on n x units read post)
  goes_map (halts n why r c stopped) stays on = halts n why r c (stays n why r _ _ stopped)
  goes_map (faults why f w h) stays on = faults why f w h

  -- a value goes on to what follows
  pub goes_next :
      {X Y A B : Type 0} {form : X → A} {form' : Y → B} {finish : X → ℕ → State} {finish' : Y → ℕ → State} {Post : OfValue X} {Post' : OfValue Y}
      {Stopped Stopped' : OfStop} {s : State} {o : Outcome A}
      (f : A → Outcome B)
      → Goes s form finish Post Stopped o
      → Stays Stopped Stopped'
      → ((n : ℕ) (x : X) (units read : ℕ) → Post n x units read
      → Goes (finish x read) form' finish' (λ n' y more. Post' (n + n') y (units + more)) (λ n' why r more. Stopped' (n + n') why r (units + more)) (f (form x)))
      → Goes s form' finish' Post' Stopped' (followed_by o f)
  unfolding followed_by
  goes_next f (arrives n x units read path post) stays follows = rw next_after (goes_after n (goes_first path (follows n x units read post)))
  goes_next f (halts n why r c stopped) stays follows = rw next_after (halts n why r c (stays n why r _ _ stopped))
  goes_next f (faults why g w h) stays follows = faults why g w h
