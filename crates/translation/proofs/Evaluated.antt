-- The code of a program keeps up with its evaluation: calls do, by recursion on the calls that may
-- still be opened, and so does the whole.
--
-- Where none may be opened, a call stops the evaluation, and the call instruction is refused with
-- 18. Else the call opens the function's code, whose body keeps up where the calls in it do, and
-- its return leaves the value with the caller.
use Prim.Native.Nat.{ℕ, zero, suc, ◌*◌, ◌≤◌}
use mathlib.Core.List.{List, [], ◌∷◌}
use mathlib.Core.Option.{Option, some}
use mathlib.Core.Path.{◌≡◌, refl, sym, ◌∙◌}
use native.Mathlib.Nat.{le_refl}
use native.Mathlib.Omega.{arith}
use Rattle.formats.specs.Tokens.{Tree}
use Rattle.formats.specs.Records.{nth}
use Rattle.formats.specs.Programs.{Sort, number_valued, tree_valued, Function, Program, signatures}
use Rattle.meaning.specs.Instructions.{Instruction, Return}
use Rattle.meaning.specs.Performing.{Setting, Caller, State, start, words_below, calls_open, ends, step, kept, number_kept, leave, operate}
use Rattle.meaning.specs.Evaluation.{in_call, result_number}
use Rattle.meaning.specs.OpenCalls.{no_call, refusal_of, evaluate, first_record, called, evaluation}
use Rattle.meaning.proofs.Levels.{level_newest}
use Rattle.meaning.proofs.Proper.{ProperProgram}
use Rattle.meaning.proofs.Sorts.{ValuesOf, value_of, Numbers}
use Rattle.translation.specs.Templates.{code_end, first_words, words_kept, entry_from, entry_of}
use Rattle.translation.proofs.Addresses.{Held}
use Rattle.translation.proofs.Bodies.{CheckedBody}
use Rattle.translation.proofs.CodeStands.{FunctionStands}
use Rattle.translation.proofs.Carried.{none_picked, picked, on_first_words, Carries}
use Rattle.translation.proofs.Courses.{refused_at_once}
use Rattle.translation.proofs.Goes.{Goes, goes_stuck, goes_first, goes_then}
use Rattle.translation.proofs.Paths.{with_space, Path, one_step}
use Rattle.translation.proofs.Performed.{Next, step_is, does_call, one_call_more}
use Rattle.translation.proofs.Simulation.{pushed, finished, argued, Under, After, none-left, Stopped, one_too_many, inside_body, SimCalls, sim}

-- Every function's body is what the passes ask for, and its code stands at its entry.
pub record Runnable (program : Program) (holds : ℕ → Option Instruction) : Type 0 where
  pub proper : ProperProgram program
  pub bodies : (b : ℕ) (f : Function) → nth program.functions b ≡ some f → CheckedBody (signatures program) f
  pub emitted :
      (b : ℕ) (f : Function)
      → nth program.functions b ≡ some f
      → FunctionStands (Held holds) (entry_of program) (entry_of program b) f

-- ---- returns

-- the value is left with the nearest frame that waits
does_return : (m : Setting) (s : State) (sort : Sort) (x : ValuesOf sort) (numbers : List ℕ) (c : Caller) (cs : List Caller)
    → Next m s (Return (words_kept sort))
    → s.frame ≡ pushed sort x numbers
    → s.callers ≡ c ∷ cs
    → Path m s (record { address = c.back; frame = pushed sort x c.words; callers = cs; read = s.read; output = s.output }) 1
unfolding words_kept operate kept leave
does_return m s number_valued x numbers c cs h frame callers =
    one_step s _ (le_refl _) (λ space fits. step_is (with_space space m) s _ h ∙ simp (operate, kept, leave, frame, callers))
does_return m s tree_valued x numbers c cs h frame callers =
    one_step s _ (le_refl _) (λ space fits. step_is (with_space space m) s _ h ∙ simp (operate, kept, leave, callers))

-- the first frame's return ends the run, with the number
ends_there : (m : Setting) (s : State) (sort : Sort) (x : ValuesOf sort) (numbers : List ℕ)
    → Next m s (Return (words_kept sort))
    → s.frame ≡ pushed sort x numbers
    → s.callers ≡ []
    → step m s ≡ ends (result_number (value_of sort x))
unfolding words_kept operate kept leave number_kept result_number
ends_there m s number_valued x numbers h frame callers = step_is m s _ h ∙ simp (operate, kept, leave, number_kept, frame, callers)
ends_there m s tree_valued x numbers h frame callers = step_is m s _ h ∙ simp (operate, kept, leave, number_kept, callers)

-- ---- bodies, calls, the whole

module _ (Faulty : Type 0) (m : Setting) (program : Program) (end : ℕ) (wide : 16 * m.most_open ≤ m.most_words) (runnable : Runnable program m.holds) where
  -- The state at a function's entry.
  abbrev entered : ℕ → List ℕ → List Caller → ℕ → List ℕ → State
  entered b numbers callers read output =
      record { address = entry_of program b; frame = numbers; callers = callers; read = read; output = output }

  -- a body keeps up, if the calls in it do
  keeps_body :
      (k : ℕ) → SimCalls Faulty m program end wide k
      → (b : ℕ) (f : Function) (numbers : Numbers f.parameters) (t : Tree) (beyond : List Tree) (callers : List Caller) (read : ℕ) (output : List ℕ)
      → nth program.functions b ≡ some f
      → Carries Faulty m.input end read (t ∷ beyond)
      → Under Faulty m program end wide k callers
      → (q : ℕ)
      → Goes Faulty m (entered b numbers.all callers read output) (value_of f.sort)
      (λ x read'. finished f.sort x (code_end f.body (entry_of program b)) read' (entered b numbers.all callers read output))
      (After Faulty m program end wide k (in_call numbers.all t) f.sort f.body [] beyond)
      (Stopped Faulty m program end wide k (in_call numbers.all t) q f.body output)
      (evaluate (called program k) (in_call numbers.all t) q f.body)
  keeps_body k calls b f numbers t beyond callers read output known carries under q =
      let body = runnable.bodies b f known in
      sim Faulty m program end wide k calls (runnable.proper.bodies b f known)
      (in_call numbers.all t) (first_words f.parameters) f.parameters body.at (0 ∷ []) [] beyond _
      (record {
        numbers = numbers.many;
        trees = refl;
        frame = numbers.many;
        held = rw numbers.many at (on_first_words numbers.all);
        left = record { pending = t ∷ []; named = picked (level_newest t 0 [] refl) none_picked; carries = carries };
        under = under;
      })
      body.in-order body.few_words (runnable.emitted b f known).body q

  -- calls keep up
  keeps_calls : (k : ℕ) → SimCalls Faulty m program end wide k
  unfolding called calls_open words_below refusal_of
  keeps_calls zero b f numbers t beyond s a read known next carries under few q =
      goes_stuck Faulty m no_call q
      (refused_at_once _
      (λ space. one_call_more m (argued s numbers.all a read) (entry_of program b) space numbers.all s.frame (rw numbers.many next) refl
      (omega (arith, under.allowed))))
      (one_too_many refl)
  keeps_calls (suc k) b f numbers t beyond s a read known next carries under few q =
      rw (known, called)
      (goes_first Faulty m
      (does_call m (argued s numbers.all a read) (entry_of program b) numbers.all s.frame (rw numbers.many next) refl
      (omega (arith, under.allowed)))
      (goes_then Faulty m
      (keeps_body k (keeps_calls k) b f numbers t beyond _ read s.output known carries
      (record { few = omega (arith, under.few); allowed = omega (arith, under.allowed) }) _)
      (λ n why x units output stop. inside_body stop.derivation stop.is_begun (omega (arith, stop.counts)) stop.writes)
      λ n x units read' after. record {
        more = 1;
        read = read';
        path = does_return m _ f.sort x numbers.all _ s.callers (runnable.emitted b f known).return refl refl;
        post = record {
          begun = after.begun;
          derivation = after.derivation;
          is_begun = after.is_begun;
          counts = omega (arith, after.counts);
          carries = none-left Faulty m program end wide k after.left;
        };
      }))

  open runnable.proper use {first, is_first, bare}

  -- The state after function 0's body.
  abbrev pub at_end : ValuesOf first.sort → ℕ → State
  at_end x read = finished first.sort x (code_end first.body (entry_of program 0)) read start

  -- the whole keeps up
  pub keeps_whole :
      (k : ℕ) (t : Tree)
      → Carries Faulty m.input end 0 (t ∷ [])
      → suc k ≡ m.most_open
      → Goes Faulty m start (value_of first.sort) at_end (After Faulty m program end wide k (in_call [] t) first.sort first.body [] [])
      (Stopped Faulty m program end wide k (in_call [] t) (first_record program 0) first.body [])
      (evaluation program (suc k) t)
  unfolding evaluation called entry_of entry_from words_below
  keeps_whole k t carries allowed =
      rw (is_first, called)
      (keeps_body k (keeps_calls k) 0 first (record { all = []; many = sym bare }) t [] [] 0 [] is_first carries
      (record { few = le_refl _; allowed = omega arith }) _)

  -- and there the run ends, with every space
  pub ends_whole : (x : ValuesOf first.sort) (read space : ℕ) → step (with_space space m) (at_end x read) ≡ ends (result_number (value_of first.sort x))
  ends_whole x read space = ends_there (with_space space m) (at_end x read) first.sort x [] (runnable.emitted 0 first is_first).return refl refl
