-- The steps come to the evaluation's outcome: calls do, by recursion on the calls that may still be
-- opened, and so does the whole.
--
-- Where no call may be opened, the evaluation stops at the call, and the step finds that the call
-- is one too many. Else the function's body begins in the next frame, with the arguments on its
-- first words; when it is finished, the return words give back the Call's record and the caller's
-- tree.
use Prim.Native.Nat.{ℕ, zero, suc, ◌+◌, ◌-◌, ◌*◌, ◌≤◌}
use mathlib.Core.List.{List, [], ◌∷◌}
use mathlib.Core.Option.{some, some-injective, none-ne-some}
use mathlib.Core.Path.{◌≡◌, refl, sym, ap, ◌∙◌}
use native.Mathlib.Nat.{add-zero}
use native.Mathlib.Omega.{arith}
use lib.ListN.{length, get_or, set, length-set}
use Rattle.formats.specs.Numbers.{Bytes}
use Rattle.formats.specs.Results.{done}
use Rattle.formats.specs.Tokens.{Tree, first_tree}
use Rattle.formats.specs.Records.{nth}
use Rattle.formats.specs.Programs.{size, sum_of_counts, arity_of, Signature, Function, Program, signatures, LawfulFunctions}
use Rattle.formats.specs.Inner.Limits.{most_records}
use Rattle.rules.specs.Types.{result_type}
use Rattle.rules.specs.Scopes.{start_of, entered, entered_all}
use Rattle.rules.specs.PassOne.{words_of, pass_over, pass_one}
use Rattle.rules.specs.Limits.{most_frame_words}
use Rattle.rules.proofs.PassOne.{pass_left, pass_right}
use Rattle.rules.proofs.Words.{few_parameters, few_words, words_least}
use Rattle.meaning.specs.Running.{value_words, return_words, most_calls}
use Rattle.meaning.specs.Evaluation.{Value, in_call}
use Rattle.meaning.specs.OpenCalls.{Outcome, followed_by, evaluate, first_record, called, evaluation}
use Rattle.meaning.specs.Meaning.{PassesOne}
use Rattle.meaning.proofs.Levels.{level_below}
use Rattle.meaning.proofs.Proper.{ProperProgram, proper}
use Rattle.stepwise.specs.Inner.Rows.{row_words, body_location, tabled}
use Rattle.stepwise.specs.Inner.Steps.{State, begin, frame_words, record_limit, most_waiting, word_at, slot_at, more_at, framed, copied}
use Rattle.stepwise.specs.Inner.Outcomes.{Reported, reported_of, Comes}
use Rattle.stepwise.proofs.Words.{copied_length, copied_there, back_in, closes_back, leaves_call}
use Rattle.stepwise.proofs.Moves.{open_deep, open_frame, finished_end, finished_call}
use Rattle.stepwise.proofs.Rows.{Stands, own_row, bodies_stand, bodies_fit}
use Rattle.stepwise.proofs.Trees.{Lies, lies_first, cached_none, named_first}
use Rattle.stepwise.proofs.Simulation.{holding_same, Agrees, Follows, Ready, SimCalls, sim}

-- ---- bodies

-- the body of each function that passes stays within the words of a frame
bodies_few :
    (gs : List Signature) (j r : ℕ) (fs : List Function)
    → pass_over gs (entered_all r fs) ≡ done tt
    → LawfulFunctions gs j fs
    → (b : ℕ) (f : Function) → nth fs b ≡ some f → words_of gs f.parameters f.body ≤ most_frame_words
unfolding nth entered_all start_of
bodies_few gs j r [] h lawful b f e = absurd (none-ne-some f e)
bodies_few gs j r (g ∷ fs) h lawful zero f e =
    rw (← some-injective g f e)
    (few_words gs g.parameters 1 g.parameters r (result_type g.sort) g.body lawful.0.applied (few_parameters gs j g lawful.0)
    (pass_left gs (entered (start_of g) r g.body) _ h))
bodies_few gs j r (g ∷ fs) h lawful (suc b) f e =
    bodies_few gs (suc j) _ fs (pass_right gs (entered (start_of g) r g.body) _ h) lawful.1 b f e

-- Every function's body is what pass one asks for, and its rows stand in the table.
record Standing (program : Program) (T : List ℕ) : Type 0 where
  is_proper : ProperProgram program
  few :
      (b : ℕ) (f : Function)
      → nth program.functions b ≡ some f
      → words_of (signatures program) f.parameters f.body ≤ most_frame_words
  rows :
      (b : ℕ) (f : Function)
      → nth program.functions b ≡ some f
      → Stands (first_record program) (arity_of (signatures program)) T
      (body_location (first_record program) (arity_of (signatures program)) f) (first_record program b) f.body
  inside : (b : ℕ) (f : Function) → nth program.functions b ≡ some f → first_record program b + size f.body ≤ record_limit

-- a program that passes pass one, in its table
standing : (program : Program) (table : List ℕ) → PassesOne program → row_words * most_records ≤ length table → Standing program (tabled table program)
unfolding pass_one
standing program table p room = record {
  is_proper = proper program p;
  few = bodies_few (signatures program) 0 _ program.functions p.passes p.lawful.functions;
  rows = bodies_stand program table room p.lawful.few_functions p.lawful.few_nodes;
  inside = λ b f known.
      let fits = bodies_fit program b f known in
      omega (arith, p.lawful.few_functions, p.lawful.few_nodes);
}

module _ (program : Program) (T input : List ℕ) (all : Standing program T) where
  -- ---- a call's frame

  -- the frame of a call that is ready agrees with its numbers and its tree
  framed_agrees :
      (k r b : ℕ) (f : Function) (numbers : List ℕ) (t : Tree) (s : State)
      → nth program.functions b ≡ some f
      → (ready : Ready program T input (suc k) r b f numbers t s)
      → Agrees program T input k f.parameters 1 [] (first_record program b) (in_call numbers t) (framed T ready.offset r s)
  framed_agrees k r b f numbers t s known ready =
      let base : ℕ = frame_words * s.calls in
      let count = ready.count in
      let many = ready.many in
      let values = ready.roomy.values in
      let allowed = ready.roomy.allowed in
      let few : f.parameters ≤ most_frame_words =
      let least = words_least (signatures program) f.parameters f.body in let most = all.few b f known in omega arith in
      record {
        numbers = many;
        trees = refl;
        held =
            holding_same (λ c. word_at s (slot_at T (suc r) - c)) (word_at (framed T ready.offset r s)) numbers
            (λ c below.
            let there : frame_words * suc s.calls + c ≡ base + frame_words + c = omega arith in
            ap (λ i. get_or (copied s.words base (slot_at T (suc r)) (more_at T r)) i 0) there
            ∙ copied_there s.words base (slot_at T (suc r)) (more_at T r) c (ready.first (omega arith)) (omega arith) (omega arith))
            ready.given;
        named = named_first ready.lies;
        cached = ready.cached;
        roomy = record {
          values = omega (arith, copied_length s.words base (slot_at T (suc r)) (more_at T r));
          returns =
              omega (
                arith,
                ready.roomy.returns,
                length-set (set s.returns (2 * s.calls) r) (suc (2 * s.calls)) s.tree,
                length-set s.returns (2 * s.calls) r,
              );
          allowed = omega arith;
        };
      }

  -- a function's body, in any frame
  sim_body :
      (k b : ℕ) (f : Function) (numbers : List ℕ) (t : Tree) (s : State)
      → SimCalls program T input k
      → nth program.functions b ≡ some f
      → Agrees program T input k f.parameters 1 [] (first_record program b) (in_call numbers t) s
      → (out : List ℕ) (κ : Value → Outcome Reported)
      → Follows program T input k f.sort f.parameters 0 (first_record program b) s out κ
      → Comes T input out (begin (first_record program b) s) (followed_by (evaluate (called program k) (in_call numbers t) (first_record program b) f.body) κ)
  sim_body k b f numbers t s calls known agrees out κ follow =
      sim program T input k calls (all.is_proper.bodies b f known) _ (first_record program b) f.parameters (in_call numbers t) s (all.rows b f known)
      (all.inside b f known) refl (omega arith) (all.few b f known) agrees out κ follow

  -- ---- calls, the whole

  sim_calls : (k : ℕ) → SimCalls program T input k
  unfolding called followed_by
  sim_calls zero r b f numbers t names keeps s known ready fewer out κ follow =
      open_deep T input ready.offset r s ready.low ready.found (omega (arith, ready.roomy.allowed)) refl
  sim_calls (suc k) r b f numbers t names keeps s known ready fewer out κ follow =
      let row = own_row (first_record program) (arity_of (signatures program)) T _ (first_record program b) f.body (all.rows b f known) in
      let low = ready.low in
      let allowed = ready.roomy.allowed in
      let returns = ready.roomy.returns in
      rw (known, called)
      (open_frame T input ready.offset r s ready.low ready.found (first_record program b) (omega arith) ready.body
      (sim_body k b f numbers t (framed T ready.offset r s) (sim_calls k) known (framed_agrees k r b f numbers t s known ready) out κ
      (record {
        from = λ v s' left.
            finished_call T input (first_record program b) _ s' r (back_in T input r s s') row.role
            (closes_back T input ready.offset r s s' f.parameters 0 left _ (omega arith) (omega arith)) left.calls (omega arith)
            (follow.from v (back_in T input r s s')
            (leaves_call T input ready.offset r s s' f.parameters 0 left names keeps ready.own fewer ready.found ready.own_lies));
      })))

  -- the whole, its first frame and its tree at the beginning of the input
  sim_whole :
      (k : ℕ) (t : Tree) (words returns : List ℕ)
      → k ≡ most_waiting
      → Lies input 0 t
      → value_words ≤ length words
      → return_words ≤ length returns
      → Comes T input [] (begin (first_record program 0) (record { words = words; returns = returns; calls = 0; tree = 0; known = 0; end = 0 }))
      (followed_by (evaluation program (suc k) t) reported_of)
  unfolding evaluation called
  sim_whole k t words returns allowed lies values returns_lent =
      let first = all.is_proper.first in
      let known = all.is_proper.is_first in
      let row = own_row (first_record program) (arity_of (signatures program)) T _ (first_record program 0) first.body (all.rows 0 first known) in
      rw (known, called)
      (sim_body k 0 first [] t (record { words = words; returns = returns; calls = 0; tree = 0; known = 0; end = 0 }) (sim_calls k) known
      (record {
        numbers = sym all.is_proper.bare;
        trees = refl;
        held = record { each = λ a i e. let below = level_below [] a e in absurd (omega arith) };
        named = named_first lies;
        cached = cached_none input 0;
        roomy = record { values = values; returns = returns_lent; allowed = omega arith };
      })
      [] reported_of
      (record { from = λ v s' left. finished_end T input (first_record program 0) _ s' row.role left.calls refl }))

-- the steps over a program's rows come to the outcome of its evaluation on the input's first tree
pub comes :
    (program : Program) (input table words returns : List ℕ) (t : Tree)
    → PassesOne program
    → Bytes input
    → first_tree input ≡ done t
    → row_words * most_records ≤ length table
    → value_words ≤ length words
    → return_words ≤ length returns
    → Comes (tabled table program) input []
    (begin (suc (length program.functions)) (record { words = words; returns = returns; calls = 0; tree = 0; known = 0; end = 0 }))
    (followed_by (evaluation program most_calls t) reported_of)
unfolding first_record sum_of_counts
comes program input table words returns t passes bytes reads room values returns_lent =
    rw add-zero at
    (sim_whole program (tabled table program) input (standing program table passes room) most_waiting t words returns refl (lies_first input t bytes reads) values
    returns_lent)
