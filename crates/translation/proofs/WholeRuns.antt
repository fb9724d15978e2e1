-- The run of a program's code from its start: its course is known from the evaluation. Where the
-- evaluation ends within the calls that may be open, the run comes to the end of function 0 with
-- the value; where it stops, at a sum out of range or at a call too many, the run is refused there;
-- or the input has a fault, and the run is refused at it.
use Prim.Native.Nat.{ℕ, suc, ◌*◌, ◌≤◌}
use mathlib.Core.List.{List, [], ◌∷◌}
use mathlib.Core.Path.{◌≡◌, refl, sym, ◌∙◌}
use Rattle.formats.specs.Tokens.{Tree}
use Rattle.formats.specs.Programs.{Sort, number_valued, tree_valued, Program}
use Rattle.meaning.specs.Performing.{Setting, start, ends as returning}
use Rattle.meaning.specs.Running.{ended, refused}
use Rattle.meaning.specs.Evaluation.{Value, in_call, Ends, units_in, result_bytes, result_number}
use Rattle.meaning.specs.OpenCalls.{Reason, refusal_of, Outcome, first_record, evaluation}
use Rattle.meaning.specs.Unfinished.{StopsOn, in_first_call, stop_units, stop_bytes}
use Rattle.meaning.proofs.Outcomes.{gives_not}
use Rattle.meaning.proofs.Proper.{ProperProgram}
use Rattle.meaning.proofs.OpenCalls.{held}
use Rattle.meaning.proofs.Sorts.{ValuesOf, value_of}
use Rattle.translation.proofs.Carried.{Carries, carried}
use Rattle.translation.proofs.Courses.{Course, returns}
use Rattle.translation.proofs.Evaluated.{Runnable, at_end, keeps_whole, ends_whole}
use Rattle.translation.proofs.Goes.{InputFault, Goes, arrives, halts, faults}
use Rattle.translation.proofs.Simulation.{appended, After, Stopped, none-left}

-- where no tree is left the input has been read to the end
at_the_end : {Faulty : Type 0} {s : List ℕ} {end p : ℕ} → Carries Faulty s end p [] → p ≡ end
at_the_end (carried e) = e

-- what has been written is the value's bytes
bytes_are : (sort : Sort) (x : ValuesOf sort) → appended sort x [] ≡ result_bytes (value_of sort x)
unfolding result_bytes
bytes_are number_valued i = refl
bytes_are tree_valued t = refl

-- an evaluation that stops does not end
pub stopped_not_ended :
    (program : Program) (t : Tree) (o n : ℕ) (why : Reason) (q n' : ℕ) (v : Value)
    → ProperProgram program
    → StopsOn program t o n why q
    → Ends program t o n' v
    → ⊥
stopped_not_ended program t o n why q n' v proper stops ends =
    let both = held program t proper in
    gives_not n' n why q v (sym ((both.gives_value o n' v).1 ends) ∙ (both.stops_exactly o n why q).1 stops)

module _ (Faulty : Type 0) (m : Setting) (program : Program) (end : ℕ) (wide : 16 * m.most_open ≤ m.most_words) (runnable : Runnable program m.holds) where
  open runnable.proper use {first, is_first}

  -- The course of the run, where o calls may be open.
  pub data Known (t : Tree) (o : ℕ) : Type 0 where
    ends_so :
        (n : ℕ) (v : Value) (ends : Ends program t o n v) (c : Course m start (ended (result_number v)))
        → c.units ≡ units_in ends.takes
        → c.counts ≡ 1
        → c.last.output ≡ result_bytes v
        → c.last.read ≡ end
        → Known t o
    stops_so :
        (n : ℕ) (why : Reason) (q : ℕ) (stops : StopsOn program t o n why q) (c : Course m start (refused (refusal_of why)))
        → c.units ≡ stop_units stops
        → c.last.output ≡ stop_bytes stops
        → Known t o
    faults_so : (why : ℕ) → Faulty → InputFault why → Course m start (refused why) → Known t o

  pub known : (t : Tree) (k : ℕ) → Carries Faulty m.input end 0 (t ∷ []) → suc k ≡ m.most_open → Known t (suc k)
  unfolding stop_units stop_bytes
  known t k carries allowed = view (evaluation program (suc k) t) (keeps_whole Faulty m program end wide runnable k t carries allowed)
    where
      view :
          (o : Outcome Value)
          → Goes Faulty m start (value_of first.sort) (at_end Faulty m program end wide runnable)
          (After Faulty m program end wide k (in_call [] t) first.sort first.body [] [])
          (Stopped Faulty m program end wide k (in_call [] t) (first_record program 0) first.body []) o
          → Known t (suc k)
      view o (arrives n x units read path after) =
          ends_so after.begun (value_of first.sort x) (record { first = first; is_first = is_first; takes = after.derivation })
          (record {
            last = at_end Faulty m program end wide runnable x read;
            units = units;
            path = path;
            final = returning (result_number (value_of first.sort x));
            counts = 1;
            is_final = returns;
            there = λ space fits. ends_whole Faulty m program end wide runnable x read space;
          })
          (sym after.counts) refl (bytes_are first.sort x) (at_the_end (none-left Faulty m program end wide k after.left))
      view o (halts n why r c stop) =
          stops_so stop.begun why r (in_first_call is_first stop.derivation) c (sym stop.counts) (sym stop.writes)
      view o (faults why f w h) = faults_so why f w h
