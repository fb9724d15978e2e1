-- The code of an expression keeps up with its evaluation.
--
-- From a state at the code's first instruction whose frame holds the named numbers, each on its
-- word, and whose input carries the pending trees, the code comes to the state after it with the
-- value: a number on top of the frame, a tree's tokens after the output. It has then read the
-- tokens of the trees that the expression took, and performed the units of the expressions begun.
-- Where the expression stops, the code is refused there, with a derivation of the stop. (It is
-- found along the way: an induction over a given one would go through every template a second time.
-- That all have the same units and bytes is shown of the evaluation alone, in
-- meaning/proofs/OneStop.)
-- Kind by kind, with one lemma for each; the calls in an expression are assumed to keep up.
use Prim.Native.Nat.{ℕ, zero, suc, ◌+◌, ◌*◌, ◌≤◌, ◌<◌}
use mathlib.Core.List.{List, [], ◌∷◌, ◌++◌, append_assoc, append-nil}
use mathlib.Core.Option.{Option, none, some}
use mathlib.Core.Path.{◌≡◌, refl, sym, ap, ◌∙◌}
use native.Mathlib.Nat.{zero-add}
use native.Mathlib.Omega.{arith}
use lib.ListN.{length}
use Rattle.formats.specs.Numbers.{bytes_of}
use Rattle.formats.specs.Arithmetic.{Op, result_of}
use Rattle.formats.specs.Refusals.{input_ended, not_a_tag}
use Rattle.formats.specs.Results.{done}
use Rattle.formats.specs.Tokens.{Tree, leaf, node, leaf_tag, node_tag, tokens, label_bytes}
use Rattle.formats.specs.Records.{nth}
use Rattle.formats.specs.Programs.{Expr, const, var, compute, if_zero, let_in, leaf_of, node_of, case_of, call, Args, no_args, arg, size, count_args}
use Rattle.formats.specs.Programs.{Sort, number_valued, tree_valued, Signature, Function, signature_of, Program, signatures}
use Rattle.formats.proofs.Records.{nth_mapped}
use Rattle.formats.proofs.Results.{done_injective, then_inv}
use Rattle.formats.proofs.Tokens.{joined_tokens}
use Rattle.rules.specs.PassOne.{words_of, words_of_args, words_with_value}
use Rattle.rules.specs.Limits.{most_frame_words}
use Rattle.rules.specs.PassTwo.{walk, walk_args}
use Rattle.rules.proofs.Words.{words_call, words_least, words_least_args}
use Rattle.meaning.specs.Instructions.{Operation, Compute, Jump, Call}
use Rattle.meaning.specs.Performing.{Setting, Caller, State, words_below, words_standing}
use Rattle.meaning.specs.Evaluation.{Environment, tree_named, with_number, with_trees, in_call, picked, branch, in_branch, result_number}
use Rattle.meaning.specs.Evaluation.{Takes, Const, Var, Compute as Computes, IfZero, Let, Leaf, Node, Case, Call as Calls}
use Rattle.meaning.specs.Evaluation.{TakesArgs, no_more, one_more, counted, units_in, units_in_args, if_zero_units, case_units}
use Rattle.meaning.specs.OpenCalls.{Reason, no_call, no_result, refusal_of, gives, stops, number_or, tree_or, result_tree, computed, evaluate, evaluate_args, first_record, called}
use Rattle.meaning.specs.Unfinished.{StopsIn, out-of-range, in_first, in_second, in_test, in_picked, in_named, in_body, in_label, in_left, in_right}
use Rattle.meaning.specs.Unfinished.{in-branch, in_arguments, too_many, in-call, StopsInArgs, in_this, in_later, picked_record, branch_record}
use Rattle.meaning.specs.Unfinished.{branch_units, units_until, bytes_until}
use Rattle.meaning.proofs.Unfinished.{units_until_args, bytes_until_args}
use Rattle.meaning.proofs.Levels.{level_newest, level_found, level_kept}
use Rattle.meaning.proofs.Proper.{Proper, proper_const, proper_var, proper_compute, proper_if_zero, proper_let, proper_leaf}
use Rattle.meaning.proofs.Proper.{proper_node, proper_case, proper_call, proper_none, proper_arg, count_proper}
use Rattle.meaning.proofs.Sorts.{ValuesOf, value_of, Numbers, numbers_of}
use Rattle.translation.specs.Templates.{code_end, args_end, WordNumbers, word_of, code, code_args, end_of, entry_of}
use Rattle.translation.proofs.Addresses.{At, Held, Split, at_code, at_args}
use Rattle.translation.proofs.InOrder.{head-taken, both_branches, case_in_order, walk_tail}
use Rattle.translation.proofs.Paths.{Path, no_step, join}
use Rattle.translation.proofs.Carried.{Picks, none_picked, picked as on_top, picks_kept, picks_one, picks_tail, on_its_word}
use Rattle.translation.proofs.Carried.{Carries, a-leaf, a-node, no_tag, other_tag, label_cut}
use Rattle.translation.proofs.Performed.{does_push, does_get, does_jump, does_compute, does_slide, does_drop, does_ifnot_zero, does_ifnot_other}
use Rattle.translation.proofs.Performed.{does_leaf_tag, does_node_tag, does_write_number, does_read_leaf, does_read_node, does_read_number}
use Rattle.translation.proofs.Performed.{Next, no_result_there, no_tag_there, other_tag_there, label_cut_there}
use Rattle.translation.proofs.Courses.{refused_at_once, course_after}
use Rattle.translation.proofs.Goes.{input-ended, not-a-tag, OfValue, OfStop, Goes, faults, goes_there, goes_stuck, goes_begins, goes_first, goes_then, goes_map, goes_next}

-- ---- where values go

-- A number goes on top of the frame; a tree's tokens go after the output.
abbrev pub pushed : (s : Sort) → ValuesOf s → List ℕ → List ℕ
pushed number_valued i frame = i ∷ frame
pushed tree_valued t frame = frame

abbrev pub appended : (s : Sort) → ValuesOf s → List ℕ → List ℕ
appended number_valued i output = output
appended tree_valued t output = output ++ tokens t

-- The state with a value of this sort, at this address, with so many bytes read.
abbrev pub finished : (sort : Sort) → ValuesOf sort → (a read : ℕ) → State → State
finished sort x a read s =
    record { address = a; frame = pushed sort x s.frame; callers = s.callers; read = read; output = appended sort x s.output }

-- The state with these arguments on top of the frame.
abbrev pub argued : State → List ℕ → (a read : ℕ) → State
argued s numbers a read = record { address = a; frame = numbers ++ s.frame; callers = s.callers; read = read; output = s.output }

-- ---- a call too many

-- A derivation of the stop at a call too many, where its arguments have these units.
record AtCallTooMany (program : Program) (E : Environment) (q a b : ℕ) (xs : Args) (k n units : ℕ) : Type 0 where
  derivation : StopsIn program E q (call a b xs) (suc k) (suc n) no_call q
  counts : units_until derivation ≡ units
  writes : bytes_until derivation ≡ []

-- there is one where no more calls may be opened
at_call_too_many :
    {program : Program} {E : Environment} (q a b : ℕ) {xs : Args} (k : ℕ) {n : ℕ} {numbers : List ℕ} (ds : TakesArgs program E xs (suc k) n [] numbers)
    → k ≡ 0
    → AtCallTooMany program E q a b xs k n (units_in_args ds)
unfolding units_until bytes_until
at_call_too_many q a b zero ds e = record { derivation = too_many ds; counts = refl; writes = refl }
at_call_too_many q a b (suc k) ds e = absurd (omega arith)

-- ---- one program in one setting, k calls still to be opened

module _ (Faulty : Type 0) (m : Setting) (program : Program) (end : ℕ) (wide : 16 * m.most_open ≤ m.most_words) (k : ℕ) where
  abbrev gs : List Signature
  gs = signatures program

  -- What stands in the setting's code.
  abbrev Has : ℕ → Operation → Type 0
  Has = Held m.holds

  -- The frames below have at most 16 words each, and k calls more may be opened.
  pub record Under (callers : List Caller) : Type 0 where
    pub few : words_below callers ≤ 16 * length callers
    pub allowed : suc (length callers) + k ≡ m.most_open

  -- Of these named trees the ones with the names Δ are pending: the input carries them from here
  -- on, and after them those that the callers have pending.
  pub record Left (trees : List Tree) (Δ : List ℕ) (beyond : List Tree) (read : ℕ) : Type 0 where
    pub pending : List Tree
    pub named : Picks trees Δ pending
    pub carries : Carries Faulty m.input end read (pending ++ beyond)

  -- where no name is pending, the input carries what the callers have pending
  pub none-left : {trees : List Tree} {beyond : List Tree} {read : ℕ} → Left trees [] beyond read → Carries Faulty m.input end read beyond
  none-left {trees} {beyond} {read} left = on_names left.pending left.named left.carries
    where
      on_names : (ts : List Tree) → Picks trees [] ts → Carries Faulty m.input end read (ts ++ beyond) → Carries Faulty m.input end read beyond
      on_names ts none_picked carries = carries

  -- The state before an expression: g number names on their words, w words in the frame, n tree
  -- names, some of them pending.
  pub record Before (g n : ℕ) (E : Environment) (words : WordNumbers) (w : ℕ) (Δ : List ℕ) (beyond : List Tree) (s : State) : Type 0 where
    pub numbers : length E.numbers ≡ g
    pub trees : length E.trees ≡ n
    pub frame : length s.frame ≡ w
    pub held : Picks s.frame words E.numbers
    pub left : Left E.trees Δ beyond s.read
    pub under : Under s.callers

  -- What is known after it: a derivation of its value, with its expressions begun and its units;
  -- and what is carried on.
  pub record After (E : Environment) (sort : Sort) (e : Expr) (Δ : List ℕ) (beyond : List Tree) (n : ℕ) (x : ValuesOf sort) (units read : ℕ) : Type 0
    where
      pub begun : ℕ
      pub derivation : Takes program E e (suc k) begun (value_of sort x)
      pub is_begun : begun ≡ n
      pub counts : units_in derivation ≡ units
      pub left : Left E.trees Δ beyond read

  -- by a derivation
  after_by :
      {E : Environment} {sort : Sort} {e : Expr} {Δ : List ℕ} {beyond : List Tree} {n begun : ℕ} {x : ValuesOf sort} {units read : ℕ}
      → (d : Takes program E e (suc k) begun (value_of sort x))
      → begun ≡ n
      → units_in d ≡ units
      → Left E.trees Δ beyond read
      → After E sort e Δ beyond n x units read
  after_by d is_begun counts left = record { begun = _; derivation = d; is_begun = is_begun; counts = counts; left = left }

  -- The same after arguments, given the numbers found before them.
  pub record AfterArgs (E : Environment) (xs : Args) (before Δ : List ℕ) (beyond : List Tree) (count n : ℕ) (numbers : Numbers count) (units read : ℕ) : Type 0
    where
      pub begun : ℕ
      pub derivation : TakesArgs program E xs (suc k) begun before numbers.all
      pub is_begun : begun ≡ n
      pub counts : units_in_args derivation ≡ units
      pub left : Left E.trees Δ beyond read

  -- After a call of f with these numbers on this tree: its own two instructions are counted.
  pub record AfterCall (f : Function) (numbers : List ℕ) (t : Tree) (beyond : List Tree) (n : ℕ) (x : ValuesOf f.sort) (units read : ℕ) : Type 0 where
    pub begun : ℕ
    pub derivation : Takes program (in_call numbers t) f.body k begun (value_of f.sort x)
    pub is_begun : begun ≡ n
    pub counts : 2 + units_in derivation ≡ units
    pub carries : Carries Faulty m.input end read beyond

  -- What is known where an expression at record q stops: a derivation of the stop, with its
  -- expressions begun and its units; and its bytes, after those that were written before.
  pub record Stopped (E : Environment) (q : ℕ) (e : Expr) (written : List ℕ) (n : ℕ) (why : Reason) (x units : ℕ) (output : List ℕ) : Type 0 where
    pub begun : ℕ
    pub derivation : StopsIn program E q e (suc k) begun why x
    pub is_begun : begun ≡ n
    pub counts : units_until derivation ≡ units
    pub writes : written ++ bytes_until derivation ≡ output

  -- by a derivation
  stopped-by :
      {E : Environment} {q : ℕ} {e : Expr} {written : List ℕ} {n begun : ℕ} {why : Reason} {x units : ℕ} {output : List ℕ}
      → (d : StopsIn program E q e (suc k) begun why x)
      → begun ≡ n
      → units_until d ≡ units
      → written ++ bytes_until d ≡ output
      → Stopped E q e written n why x units output
  stopped-by d is_begun counts writes = record { begun = _; derivation = d; is_begun = is_begun; counts = counts; writes = writes }

  -- The same where one of a Call's arguments from record q on stops, given the numbers found
  -- before.
  pub record StoppedArgs (E : Environment) (q : ℕ) (xs : Args) (before written : List ℕ) (n : ℕ) (why : Reason) (x units : ℕ) (output : List ℕ) : Type 0
    where
      pub begun : ℕ
      pub derivation : StopsInArgs program E q xs (suc k) begun before why x
      pub is_begun : begun ≡ n
      pub counts : units_until_args derivation ≡ units
      pub writes : written ++ bytes_until_args derivation ≡ output

  stopped_args_by :
      {E : Environment} {q : ℕ} {xs : Args} {before written : List ℕ} {n begun : ℕ} {why : Reason} {x units : ℕ} {output : List ℕ}
      → (d : StopsInArgs program E q xs (suc k) begun before why x)
      → begun ≡ n
      → units_until_args d ≡ units
      → written ++ bytes_until_args d ≡ output
      → StoppedArgs E q xs before written n why x units output
  stopped_args_by d is_begun counts writes = record { begun = _; derivation = d; is_begun = is_begun; counts = counts; writes = writes }

  -- The same where a call of function b stops, from the Call at record q: it is one too many, or
  -- stops in the body that it opens, after the call instruction.
  pub data StoppedCall (b : ℕ) (f : Function) (numbers : List ℕ) (t : Tree) (q : ℕ) (written : List ℕ)
      : (n : ℕ) → Reason → (at_record units : ℕ) → (output : List ℕ) → Type 0
    where
      one_too_many : k ≡ 0 → StoppedCall b f numbers t q written 0 no_call q 0 written
      inside_body :
          {n begun : ℕ} {why : Reason} {x units : ℕ} {output : List ℕ}
          → (d : StopsIn program (in_call numbers t) (first_record program b) f.body k begun why x)
          → begun ≡ n
          → suc (units_until d) ≡ units
          → written ++ bytes_until d ≡ output
          → StoppedCall b f numbers t q written n why x units output

  -- What is to be shown of an expression of a sort, with g number names and n tree names; of
  -- arguments; and of calls. (r and q are record numbers, of pass two and of the evaluation.)
  abbrev pub Sim : (g n : ℕ) (sort : Sort) (e : Expr) → Type 0
  Sim g n sort e =
      (E : Environment) (words : WordNumbers) (w r : ℕ) (Δ Δ' : List ℕ) (beyond : List Tree) (s : State)
      → Before g n E words w Δ beyond s
      → walk n r Δ e ≡ done Δ'
      → words_of gs w e ≤ most_frame_words
      → At Has s.address (code (entry_of program) sort words w s.address e)
      → (q : ℕ)
      → Goes Faulty m s (value_of sort) (λ x read. finished sort x (code_end e s.address) read s) (After E sort e Δ' beyond)
      (Stopped E q e s.output)
      (evaluate (called program k) E q e)

  abbrev pub SimArgs : (g n count : ℕ) (xs : Args) → Type 0
  SimArgs g n count xs =
      (E : Environment) (words : WordNumbers) (w r : ℕ) (Δ Δ' : List ℕ) (beyond : List Tree) (s : State) (before : List ℕ) (a read all : ℕ)
      → Before g n E words w Δ beyond (argued s before a read)
      → walk_args n r Δ xs ≡ done Δ'
      → words_of_args gs w xs ≤ most_frame_words
      → At Has a (code_args (entry_of program) words w a xs)
      → length before + count ≡ all
      → (q : ℕ)
      → Goes Faulty m (argued s before a read) (numbers_of all) (λ numbers read'. argued s numbers.all (args_end xs a) read')
      (AfterArgs E xs before Δ' beyond all)
      (StoppedArgs E q xs before s.output)
      (evaluate_args (called program k) E q xs before)

  abbrev pub SimCalls : Type 0
  SimCalls =
      (b : ℕ) (f : Function) (numbers : Numbers f.parameters) (t : Tree) (beyond : List Tree) (s : State) (a read : ℕ)
      → nth program.functions b ≡ some f
      → Has a (Call (entry_of program b) f.parameters)
      → Carries Faulty m.input end read (t ∷ beyond)
      → Under s.callers
      → length s.frame ≤ most_frame_words
      → (q : ℕ)
      → Goes Faulty m (argued s numbers.all a read) (value_of f.sort) (λ x read'. finished f.sort x (suc a) read' s)
      (AfterCall f numbers.all t beyond)
      (StoppedCall b f numbers.all t q s.output)
      (called program k q b numbers.all t)

  -- ---- states before parts

  -- there is room for a word where fewer than 16 stand above the base
  room : (s : State) → Under s.callers → length s.frame < most_frame_words → words_standing s < m.most_words
  unfolding words_standing
  room s under few = omega (arith, under.few, under.allowed, wide)

  module _ {g n : ℕ} {E : Environment} {words : WordNumbers} {w : ℕ} {Δ : List ℕ} {beyond : List Tree} {s : State} (b : Before g n E words w Δ beyond s) where
    -- with the same frame, elsewhere
    before_at : (a read : ℕ) (output : List ℕ) {Δ' : List ℕ} → Left E.trees Δ' beyond read
        → Before g n E words w Δ' beyond (record { address = a; frame = s.frame; callers = s.callers; read = read; output = output })
    before_at a read output left =
        record { numbers = b.numbers; trees = b.trees; frame = b.frame; held = b.held; left = left; under = b.under }

    -- with a number found on top of the frame, not named
    before_temporary :
        (i a read : ℕ) {Δ' : List ℕ} → Left E.trees Δ' beyond read
        → Before g n E words (suc w) Δ' beyond (finished number_valued i a read s)
    before_temporary i a read left =
        record { numbers = b.numbers; trees = b.trees; frame = ap suc b.frame; held = picks_kept i b.held; left = left; under = b.under }

    -- with a number on top of the frame, named by the next name
    before_named :
        (i a read : ℕ) {Δ' : List ℕ} → Left E.trees Δ' beyond read
        → Before (suc g) n (with_number i E) (w ∷ words) (suc w) Δ' beyond (finished number_valued i a read s)
    before_named i a read left = record {
      numbers = ap suc b.numbers;
      trees = b.trees;
      frame = ap suc b.frame;
      held = on_top (level_newest i w s.frame (sym b.frame)) (picks_kept i b.held);
      left = left;
      under = b.under;
    }

    -- with the two trees of a node named and pending
    before_parts :
        (l r : Tree) (a read : ℕ) {Δ' : List ℕ} {ts : List Tree} → Picks E.trees Δ' ts → Carries Faulty m.input end read (l ∷ (r ∷ (ts ++ beyond)))
        → Before g (suc (suc n)) (with_trees l r E) words w (n ∷ (suc n ∷ Δ')) beyond
        (record { address = a; frame = s.frame; callers = s.callers; read = read; output = s.output })
    before_parts l r a read {ts = ts} named carries =
        let first = level_newest l n E.trees (sym b.trees) in
        let second = level_newest r (suc n) (l ∷ E.trees) (ap suc (sym b.trees)) in
        record {
          numbers = b.numbers;
          trees = ap (λ k. suc (suc k)) b.trees;
          frame = b.frame;
          held = b.held;
          left = record {
            pending = l ∷ (r ∷ ts);
            named = on_top (level_kept r (l ∷ E.trees) n first) (on_top second (picks_kept r (picks_kept l named)));
            carries = carries;
          };
          under = b.under;
        }

  -- ---- kind by kind

  -- a constant is pushed
  sim_const : {g n : ℕ} (i : ℕ) → Sim g n number_valued (const i)
  unfolding code code_end walk words_of evaluate counted
  sim_const i E words w r Δ Δ' beyond s b walked few emitted q =
      goes_begins Faulty m
      (goes_there Faulty m i 1 s.read (does_push m s i emitted.0 (room s b.under (omega (arith, b.frame))))
      (after_by Const refl refl (rw (done_injective walked) at b.left)))

  -- a name's number is got from its word
  sim_var : {g n : ℕ} (a : ℕ) → a < g → Sim g n number_valued (var a)
  unfolding code code_end walk words_of evaluate number_or counted
  sim_var a bound E words w r Δ Δ' beyond s b walked few emitted q =
      let found = level_found E.numbers a (omega (arith, b.numbers)) in
      let on_word = on_its_word a found.entry b.held found.is in
      rw found.is
      (goes_begins Faulty m
      (goes_there Faulty m found.entry 1 s.read
      (does_get m s (word_of words a) found.entry emitted.0 on_word (room s b.under (omega (arith, b.frame))))
      (after_by (Var found.is) refl refl (rw (done_injective walked) at b.left))))

  -- an operation on the two words on top has a result, or is refused
  computes :
      {Post : OfValue ℕ} {Stops : OfStop} (op : Op) (i j at_record : ℕ) (rest : List ℕ) (s : State)
      → Next m s (Compute op)
      → s.frame ≡ j ∷ (i ∷ rest)
      → ((x : ℕ) → result_of op i j ≡ some x → Post 0 x 1 s.read)
      → (result_of op i j ≡ none → Stops 0 (no_result op i j) at_record 0 s.output)
      → Goes Faulty m s (value_of number_valued)
      (λ x read. record { address = suc s.address; frame = x ∷ rest; callers = s.callers; read = read; output = s.output })
      Post Stops
      (computed at_record op i j)
  unfolding computed refusal_of
  computes {Post} {Stops} op i j at_record rest s next frame post stop = by_result (result_of op i j) refl
    where
      by_result :
          (found : Option ℕ)
          → result_of op i j ≡ found
          → Goes Faulty m s (value_of number_valued)
          (λ x read. record { address = suc s.address; frame = x ∷ rest; callers = s.callers; read = read; output = s.output })
          Post Stops
          (elim found [ some x ↦ gives (value_of number_valued x) | none ↦ stops (no_result op i j) at_record ])
      by_result (some x) fits = goes_there Faulty m x 1 s.read (does_compute m s op i j x rest next frame fits) (post x fits)
      by_result none missing =
          goes_stuck Faulty m (no_result op i j) at_record (refused_at_once s (λ space. no_result_there m s op i j rest space next frame missing)) (stop missing)

  -- two numbers, the first one a temporary below the second
  sim_compute : {g n : ℕ} (op : Op) (p q : Expr) → Sim g n number_valued p → Sim g n number_valued q → Sim g n number_valued (compute op p q)
  unfolding code code_end walk words_of evaluate result_number counted units_until bytes_until
  sim_compute op p q sim_p sim_q E words w r Δ Δ' beyond s b walked few emitted at_record =
      let emitted_p = at_code Has (entry_of program) number_valued words w s.address p _ emitted in
      let emitted_q = at_code Has (entry_of program) number_valued words (suc w) (code_end p s.address) q _ emitted_p.then in
      let parts = then_inv (walk _ (suc r) Δ p) _ Δ' walked in
      goes_begins Faulty m
      (goes_next Faulty m _ (sim_p E words w _ Δ parts.value beyond s b parts.first (omega arith) emitted_p.first _)
      (λ n why x u out stop. stopped-by (in_first stop.derivation) (ap suc stop.is_begun) stop.counts stop.writes)
      λ n₁ i u₁ read₁ after₁.
      goes_next Faulty m _
      (sim_q E words (suc w) _ parts.value Δ' beyond _ (before_temporary b i _ read₁ after₁.left) parts.second (omega arith)
      emitted_q.first _)
      (λ n why x u out stop.
      stopped-by (in_second after₁.derivation stop.derivation)
      (omega (arith, after₁.is_begun, stop.is_begun)) (omega (arith, after₁.counts, stop.counts)) stop.writes)
      λ n₂ j u₂ read₂ after₂.
      computes op i j at_record s.frame _ emitted_q.then.0 refl
      (λ x fits.
      after_by (Computes after₁.derivation after₂.derivation fits)
      (omega (arith, after₁.is_begun, after₂.is_begun)) (omega (arith, after₁.counts, after₂.counts)) after₂.left)
      (λ missing.
      stopped-by (out-of-range after₁.derivation after₂.derivation missing)
      (omega (arith, after₁.is_begun, after₂.is_begun)) (omega (arith, after₁.counts, after₂.counts)) (append-nil _)))

  -- the test's word is popped; after the zero part the other one is jumped over
  sim_if_zero : {g n : ℕ} {sort : Sort} (t z o : Expr) → Sim g n number_valued t → Sim g n sort z → Sim g n sort o → Sim g n sort (if_zero t z o)
  unfolding code code_end walk words_of evaluate result_number picked counted if_zero_units units_until bytes_until picked_record
  sim_if_zero {sort = sort} t z o sim_t sim_z sim_o E words w r Δ Δ' beyond s b walked few emitted at_record =
      let entries = entry_of program in
      let at_z = suc (code_end t s.address) in
      let L = suc (code_end z at_z) in
      let M = code_end o L in
      let emitted_t = at_code Has entries number_valued words w s.address t _ emitted in
      let emitted_z = at_code Has entries sort words w at_z z _ emitted_t.then.1 in
      let parts = then_inv (walk _ (suc r) Δ t) _ Δ' walked in
      let both = both_branches r (walk _ (suc r + size t) parts.value z) (walk _ (suc r + size t + size z) parts.value o) Δ' parts.second in
      let picks :
      (i n₁ u₁ read₁ : ℕ) (after₁ : After E number_valued t parts.value beyond n₁ i u₁ read₁)
      → Goes Faulty m (finished number_valued i (code_end t s.address) read₁ s) (value_of sort) (λ x read. finished sort x M read s)
      (λ n₂ x u₂. After E sort (if_zero t z o) Δ' beyond (suc (n₁ + n₂)) x (u₁ + u₂))
      (λ n₂ why x u₂. Stopped E at_record (if_zero t z o) s.output (suc (n₁ + n₂)) why x (u₁ + u₂))
      (elim i [
        | zero ↦ evaluate (called program k) E (suc at_record + size t) z
        | suc j ↦ evaluate (called program k) E (suc at_record + size t + size z) o
      ]) = elim [
        | zero ↦ λ n₁ u₁ read₁ after₁.
            goes_first Faulty m (does_ifnot_zero m _ L s.frame emitted_t.then.0 refl)
            (goes_then Faulty m
            (sim_z E words w _ parts.value Δ' beyond _ (before_at b at_z read₁ s.output after₁.left) both.0 (omega arith) emitted_z.first _)
            (λ n why x u out stop.
            stopped-by (in_picked after₁.derivation stop.derivation)
            (omega (arith, after₁.is_begun, stop.is_begun)) (omega (arith, after₁.counts, stop.counts)) stop.writes)
            λ n₂ x u₂ read₂ after₂. record {
              more = 1;
              read = read₂;
              path = does_jump m _ M emitted_z.then.0;
              post =
                  after_by (IfZero after₁.derivation after₂.derivation)
                  (omega (arith, after₁.is_begun, after₂.is_begun)) (omega (arith, after₁.counts, after₂.counts)) after₂.left;
            })
        | suc j ↦ λ n₁ u₁ read₁ after₁.
            goes_first Faulty m (does_ifnot_other m _ L j s.frame emitted_t.then.0 refl)
            (goes_map Faulty m
            (sim_o E words w _ parts.value Δ' beyond _ (before_at b L read₁ s.output after₁.left) both.1 (omega arith) emitted_z.then.1 _)
            (λ n why x u out stop.
            stopped-by (in_picked after₁.derivation stop.derivation)
            (omega (arith, after₁.is_begun, stop.is_begun)) (omega (arith, after₁.counts, stop.counts)) stop.writes)
            λ n₂ x u₂ read₂ after₂.
            after_by (IfZero after₁.derivation after₂.derivation)
            (omega (arith, after₁.is_begun, after₂.is_begun)) (omega (arith, after₁.counts, after₂.counts)) after₂.left)
      ] in
      goes_begins Faulty m
      (goes_next Faulty m _ (sim_t E words w _ Δ parts.value beyond s b parts.first (omega arith) emitted_t.first _)
      (λ n why x u out stop. stopped-by (in_test stop.derivation) (ap suc stop.is_begun) stop.counts stop.writes)
      λ n₁ i u₁ read₁ after₁. picks i n₁ u₁ read₁ after₁)

  -- after a part with one more name, the word of that name is removed
  does_end : (sort : Sort) (x : ValuesOf sort) (i a b read read' : ℕ) (s : State) → Has a (end_of sort)
      → Path m (finished sort x a read (finished number_valued i b read' s)) (finished sort x (suc a) read s) 1
  unfolding end_of
  does_end number_valued x i a b read read' s h = does_slide m _ i x s.frame h refl
  does_end tree_valued x i a b read read' s h = does_drop m _ i s.frame h refl

  -- the number is named by its word
  sim_let : {g n : ℕ} {sort : Sort} (p body : Expr) → Sim g n number_valued p → Sim (suc g) n sort body → Sim g n sort (let_in p body)
  unfolding code code_end walk words_of evaluate result_number counted units_until bytes_until
  sim_let {sort = sort} p body sim_p sim_body E words w r Δ Δ' beyond s b walked few emitted at_record =
      let entries = entry_of program in
      let emitted_p = at_code Has entries number_valued words w s.address p _ emitted in
      let emitted_body = at_code Has entries sort (w ∷ words) (suc w) (code_end p s.address) body _ emitted_p.then in
      let parts = then_inv (walk _ (suc r) Δ p) _ Δ' walked in
      goes_begins Faulty m
      (goes_next Faulty m _ (sim_p E words w _ Δ parts.value beyond s b parts.first (omega arith) emitted_p.first _)
      (λ n why x u out stop. stopped-by (in_named stop.derivation) (ap suc stop.is_begun) stop.counts stop.writes)
      λ n₁ i u₁ read₁ after₁.
      goes_then Faulty m
      (sim_body (with_number i E) (w ∷ words) (suc w) _ parts.value Δ' beyond _ (before_named b i _ read₁ after₁.left) parts.second (omega arith)
      emitted_body.first _)
      (λ n why x u out stop.
      stopped-by (in_body after₁.derivation stop.derivation)
      (omega (arith, after₁.is_begun, stop.is_begun)) (omega (arith, after₁.counts, stop.counts)) stop.writes)
      λ n₂ x u₂ read₂ after₂. record {
        more = 1;
        read = read₂;
        path = does_end sort x i _ (code_end p s.address) read₂ read₁ s emitted_body.then.0;
        post =
            after_by (Let after₁.derivation after₂.derivation)
            (omega (arith, after₁.is_begun, after₂.is_begun)) (omega (arith, after₁.counts, after₂.counts)) after₂.left;
      })

  -- the tag, then the label
  sim_leaf : {g n : ℕ} (p : Expr) → Sim g n number_valued p → Sim g n tree_valued (leaf_of p)
  unfolding code code_end walk words_of evaluate result_number counted tokens units_until bytes_until
  sim_leaf p sim_p E words w r Δ Δ' beyond s b walked few emitted at_record =
      let emitted_p = at_code Has (entry_of program) number_valued words w (suc s.address) p _ emitted.1 in
      goes_begins Faulty m
      (goes_first Faulty m (does_leaf_tag m s emitted.0)
      (goes_next Faulty m _
      (sim_p E words w _ Δ Δ' beyond _ (before_at b _ s.read (s.output ++ (leaf_tag ∷ [])) b.left) walked few emitted_p.first _)
      (λ n why x u out stop.
      stopped-by (in_label stop.derivation) (ap suc stop.is_begun) (omega (arith, stop.counts))
      (sym (append_assoc s.output (leaf_tag ∷ []) (bytes_until stop.derivation)) ∙ stop.writes))
      λ n₁ i u₁ read₁ after₁.
      goes_there Faulty m (leaf i) 1 read₁
      (rw (← append_assoc s.output (leaf_tag ∷ []) (bytes_of label_bytes i)) (does_write_number m _ i s.frame emitted_p.then.0 refl))
      (after_by (Leaf after₁.derivation) (omega (arith, after₁.is_begun)) (omega (arith, after₁.counts)) after₁.left)))

  -- a Node's tag, its left part, and what its right part has written
  after_part : (output left bytes : List ℕ) → output ++ (node_tag ∷ (left ++ bytes)) ≡ ((output ++ (node_tag ∷ [])) ++ left) ++ bytes
  after_part output left bytes = sym (append_assoc output (node_tag ∷ []) (left ++ bytes)) ∙ sym (append_assoc (output ++ (node_tag ∷ [])) left bytes)

  -- the tag, then the two parts in order
  sim_node : {g n : ℕ} (p q : Expr) → Sim g n tree_valued p → Sim g n tree_valued q → Sim g n tree_valued (node_of p q)
  unfolding code code_end walk words_of evaluate result_tree counted tokens units_until bytes_until
  sim_node p q sim_p sim_q E words w r Δ Δ' beyond s b walked few emitted at_record =
      let entries = entry_of program in
      let emitted_p = at_code Has entries tree_valued words w (suc s.address) p _ emitted.1 in
      let parts = then_inv (walk _ (suc r) Δ p) _ Δ' walked in
      let tag = s.output ++ (node_tag ∷ []) in
      goes_begins Faulty m
      (goes_first Faulty m (does_node_tag m s emitted.0)
      (goes_next Faulty m _
      (sim_p E words w _ Δ parts.value beyond _ (before_at b _ s.read tag b.left) parts.first (omega arith) emitted_p.first _)
      (λ n why x u out stop.
      stopped-by (in_left stop.derivation) (ap suc stop.is_begun) (omega (arith, stop.counts))
      (sym (append_assoc s.output (node_tag ∷ []) (bytes_until stop.derivation)) ∙ stop.writes))
      λ n₁ x u₁ read₁ after₁.
      goes_next Faulty m _
      (sim_q E words w _ parts.value Δ' beyond _ (before_at b _ read₁ (tag ++ tokens x) after₁.left) parts.second (omega arith) emitted_p.then _)
      (λ n why y u out stop.
      stopped-by (in_right after₁.derivation stop.derivation)
      (omega (arith, after₁.is_begun, stop.is_begun)) (omega (arith, after₁.counts, stop.counts))
      (after_part s.output (tokens x) (bytes_until stop.derivation) ∙ stop.writes))
      λ n₂ y u₂ read₂ after₂.
      goes_there Faulty m (node x y) 0 read₂ (rw (← joined_tokens s.output x y) (no_step _))
      (after_by (Node after₁.derivation after₂.derivation)
      (omega (arith, after₁.is_begun, after₂.is_begun)) (omega (arith, after₁.counts, after₂.counts)) after₂.left)))

  -- trees that were named before a node's parts, and are still pending, stay so when the parts'
  -- names go
  older_left :
      {trees : List Tree} {Δ : List ℕ} {beyond : List Tree} {read : ℕ} (l u : Tree) {ts : List Tree}
      → Picks trees Δ ts
      → Left (u ∷ (l ∷ trees)) Δ beyond read
      → Left trees Δ beyond read
  older_left l u {ts = ts} named left =
      let same = picks_one left.named (picks_kept u (picks_kept l named)) in
      record { pending = ts; named = named; carries = rw same at left.carries }

  -- by the tag of the tree that the input carries first: a label is named by its word; a node's
  -- parts are named and pending
  sim_case : {g n : ℕ} {sort : Sort} (a : ℕ) (p q : Expr) → Sim (suc g) n sort p → Sim g (suc (suc n)) sort q → Sim g n sort (case_of a p q)
  unfolding code code_end words_of evaluate tree_or branch in_branch counted case_units units_until bytes_until branch_record branch_units
  sim_case {g} {n} {sort} a p q sim_p sim_q E words w r Δ Δ' beyond s b walked few emitted at_record =
      let c = case_in_order n r a Δ Δ' p q walked in
      let left : Left E.trees (a ∷ c.rest) beyond s.read = rw c.at_head at b.left in
      on_head c.rest c.leaf_part c.node_part left.pending left.named left.carries
    where
      entries : ℕ → ℕ
      entries = entry_of program

      at_p : ℕ
      at_p = suc (suc s.address)

      L : ℕ
      L = suc (suc (code_end p at_p))

      M : ℕ
      M = code_end q L

      emitted_p : Split Has at_p (code_end p at_p) (code entries sort (w ∷ words) (suc w) at_p p) (end_of sort ∷ (Jump M ∷ code entries sort words w L q))
      emitted_p = at_code Has entries sort (w ∷ words) (suc w) at_p p _ emitted.1.1

      leaf_read : State
      leaf_read = record { address = suc s.address; frame = s.frame; callers = s.callers; read = s.read + 1; output = s.output }

      roomy : words_standing leaf_read < m.most_words
      roomy = room leaf_read b.under (omega (arith, b.frame, words_least gs (suc w) p))

      on_head :
          (rest : List ℕ)
          → walk n (suc r) rest p ≡ done Δ'
          → walk (suc (suc n)) (suc r + size p) (n ∷ (suc n ∷ rest)) q ≡ done Δ'
          → (pending : List Tree)
          → Picks E.trees (a ∷ rest) pending
          → Carries Faulty m.input end s.read (pending ++ beyond)
          → Goes Faulty m s (value_of sort) (λ x read. finished sort x M read s) (After E sort (case_of a p q) Δ' beyond)
          (Stopped E at_record (case_of a p q) s.output)
          (evaluate (called program k) E at_record (case_of a p q))
      on_head rest in_leaf in_node pending (on_top {ys = ts} found named) (a-leaf {x = i} tag there is carries) =
          rw found
          (goes_begins Faulty m
          (goes_first Faulty m (does_read_leaf m s L emitted.0 tag)
          (goes_first Faulty m (does_read_number m leaf_read i emitted.1.0 roomy there is)
          (goes_then Faulty m
          (sim_p (with_number i E) (w ∷ words) (suc w) _ rest Δ' beyond _
          (before_named b i at_p _ (record { pending = ts; named = named; carries = carries })) in_leaf (omega arith) emitted_p.first _)
          (λ n why x u out stop.
          stopped-by (in-branch {t = leaf i} found stop.derivation) (ap suc stop.is_begun) (omega (arith, stop.counts)) stop.writes)
          λ n₁ x u₁ read₁ after₁. record {
            more = 2;
            read = read₁;
            path = join (does_end sort x i (code_end p at_p) at_p read₁ (s.read + 1 + label_bytes) s emitted_p.then.0) (does_jump m _ M emitted_p.then.1.0);
            post = after_by (Case found after₁.derivation) (omega (arith, after₁.is_begun)) (omega (arith, after₁.counts)) after₁.left;
          }))))
      on_head rest in_leaf in_node pending (on_top found named) (a-node {l = l} {r = u} tag carries) =
          let older = picks_tail (walk_tail n _ rest Δ' p in_leaf) named in
          rw found
          (goes_begins Faulty m
          (goes_first Faulty m (does_read_node m s L emitted.0 tag)
          (goes_map Faulty m
          (sim_q (with_trees l u E) words w _ (n ∷ (suc n ∷ rest)) Δ' beyond _ (before_parts b l u L _ named carries) in_node (omega arith)
          emitted_p.then.1.1 _)
          (λ n why x u₁ out stop.
          stopped-by (in-branch {t = node l u} found stop.derivation) (ap suc stop.is_begun) (omega (arith, stop.counts)) stop.writes)
          λ n₁ x u₁ read₁ after₁.
          after_by (Case found after₁.derivation) (omega (arith, after₁.is_begun)) (omega (arith, after₁.counts))
          (older_left l u older.picks after₁.left))))
      on_head rest in_leaf in_node pending (on_top found named) (no_tag faulty tag) =
          faults input_ended faulty input-ended (refused_at_once s (λ space. no_tag_there m s L space emitted.0 tag))
      on_head rest in_leaf in_node pending (on_top found named) (other_tag faulty tag) =
          faults not_a_tag faulty not-a-tag (refused_at_once s (λ space. other_tag_there m s L space emitted.0 tag))
      on_head rest in_leaf in_node pending (on_top found named) (label_cut faulty tag short) =
          faults input_ended faulty input-ended
          (course_after (does_read_leaf m s L emitted.0 tag)
          (refused_at_once leaf_read (λ space. label_cut_there m leaf_read space emitted.1.0 roomy short)))

  -- no more arguments
  sim_none : {g n : ℕ} → SimArgs g n 0 no_args
  unfolding args_end walk_args evaluate_args
  sim_none E words w r Δ Δ' beyond s before a read all b walked few emitted many q =
      goes_there Faulty m (record { all = before; many = omega arith }) 0 read (no_step _) (record {
        begun = 0;
        derivation = no_more;
        is_begun = refl;
        counts = refl;
        left = rw (done_injective walked) at b.left;
      })

  -- each argument's number stays on top of those before it
  sim_arg : {g n : ℕ} (count : ℕ) (x : Expr) (xs : Args) → Sim g n number_valued x → SimArgs g n count xs → SimArgs g n (suc count) (arg x xs)
  unfolding code_args args_end walk_args words_of_args evaluate_args result_number counted units_until bytes_until
  sim_arg count x xs sim_x sim_xs E words w r Δ Δ' beyond s before a read all b walked few emitted many q =
      let emitted_x = at_code Has (entry_of program) number_valued words w a x _ emitted in
      let parts = then_inv (walk _ r Δ x) _ Δ' walked in
      goes_next Faulty m _ (sim_x E words w _ Δ parts.value beyond (argued s before a read) b parts.first (omega arith) emitted_x.first _)
      (λ n why x u out stop. stopped_args_by (in_this stop.derivation) stop.is_begun stop.counts stop.writes)
      λ n₁ i u₁ read₁ after₁.
      goes_map Faulty m
      (sim_xs E words (suc w) _ parts.value Δ' beyond s (i ∷ before) (code_end x a) read₁ all (before_temporary b i (code_end x a) read₁ after₁.left)
      parts.second (omega arith) emitted_x.then (omega arith) _)
      (λ n why x u out stop.
      stopped_args_by (in_later after₁.derivation stop.derivation)
      (omega (arith, after₁.is_begun, stop.is_begun)) (omega (arith, after₁.counts, stop.counts)) stop.writes)
      λ n₂ numbers u₂ read₂ after₂. record {
        begun = after₁.begun + after₂.begun;
        derivation = one_more after₁.derivation after₂.derivation;
        is_begun = omega (arith, after₁.is_begun, after₂.is_begun);
        counts = omega (arith, after₁.counts, after₂.counts);
        left = after₂.left;
      }

  -- the arguments, then the call, which takes the tree at the head
  sim_call :
      {g n : ℕ} (a b : ℕ) (f : Function) (xs : Args)
      → SimCalls
      → nth program.functions b ≡ some f
      → count_args xs ≡ f.parameters
      → SimArgs g n f.parameters xs
      → Sim g n f.sort (call a b xs)
  unfolding code code_end walk evaluate tree_or counted words_with_value units_until bytes_until
  sim_call {n = n} a b f xs calls known many sim_xs E words w r Δ Δ' beyond s before walked few emitted at_record =
      let parts = then_inv (walk_args n (suc r) Δ xs) _ Δ' walked in
      let head = head-taken a r parts.value Δ' parts.second in
      goes_begins Faulty m
      (goes_next Faulty m _
      (sim_xs E words w _ Δ (a ∷ Δ') beyond s [] s.address s.read f.parameters before (rw head at parts.first) few_all.1 emitted_xs.first
      (zero-add f.parameters) _)
      (λ n why x u out stop. stopped-by (in_arguments stop.derivation) (ap suc stop.is_begun) stop.counts stop.writes)
      λ n₁ numbers u₁ read₁ after₁. on_tree n₁ numbers u₁ read₁ after₁ after₁.left.pending after₁.left.named after₁.left.carries)
    where
      there : ℕ
      there = args_end xs s.address

      emitted_xs : Split Has s.address there (code_args (entry_of program) words w s.address xs) (Call (entry_of program b) (count_args xs) ∷ [])
      emitted_xs = at_args Has (entry_of program) words w s.address xs _ emitted

      few_all : (w ≤ most_frame_words) × (words_of_args gs w xs ≤ most_frame_words)
      few_all =
          let both = rw (words_call gs w a b xs (signature_of f) (nth_mapped signature_of program.functions b f known)) at few in
          (omega (arith, words_least_args gs w xs), omega arith)

      on_stop :
          (n₁ : ℕ) (numbers : Numbers f.parameters) (u₁ read₁ : ℕ) (after₁ : AfterArgs E xs [] (a ∷ Δ') beyond f.parameters n₁ numbers u₁ read₁) (t : Tree)
          → tree_named E a ≡ some t
          → {n₂ : ℕ} {why : Reason} {x u₂ : ℕ} {output : List ℕ}
          → StoppedCall b f numbers.all t at_record s.output n₂ why x u₂ output
          → Stopped E at_record (call a b xs) s.output (suc (n₁ + n₂)) why x (u₁ + u₂) output
      on_stop n₁ numbers u₁ read₁ after₁ t found (one_too_many none-left) =
          let c = at_call_too_many at_record a b k after₁.derivation none-left in
          stopped-by c.derivation (omega (arith, after₁.is_begun)) (omega (arith, c.counts, after₁.counts))
          (ap (λ (bs : List ℕ). s.output ++ bs) c.writes ∙ append-nil s.output)
      on_stop n₁ numbers u₁ read₁ after₁ t found (inside_body d is_begun counts writes) =
          stopped-by (in-call after₁.derivation found known d) (omega (arith, after₁.is_begun)) (omega (arith, after₁.counts, counts)) writes

      on_tree :
          (n₁ : ℕ) (numbers : Numbers f.parameters) (u₁ read₁ : ℕ)
          → (after₁ : AfterArgs E xs [] (a ∷ Δ') beyond f.parameters n₁ numbers u₁ read₁)
          → (pending : List Tree)
          → Picks E.trees (a ∷ Δ') pending
          → Carries Faulty m.input end read₁ (pending ++ beyond)
          → Goes Faulty m (argued s numbers.all there read₁) (value_of f.sort) (λ x read. finished f.sort x (suc there) read s)
          (λ n₂ x u₂. After E f.sort (call a b xs) Δ' beyond (suc (n₁ + n₂)) x (u₁ + u₂))
          (λ n₂ why x u₂. Stopped E at_record (call a b xs) s.output (suc (n₁ + n₂)) why x (u₁ + u₂))
          (called program k at_record b numbers.all (tree_or (tree_named E a)))
      on_tree n₁ numbers u₁ read₁ after₁ pending (on_top {y = t} {ys = ts} found named) carries =
          rw found
          (goes_map Faulty m
          (calls b f numbers t (ts ++ beyond) s there read₁ known (rw many at emitted_xs.then.0) carries before.under
          (rw (sym before.frame) at few_all.0) at_record)
          (λ n why x u out stop. on_stop n₁ numbers u₁ read₁ after₁ t found stop)
          λ n₂ x u₂ read₂ after₂.
          after_by (Calls after₁.derivation found known after₂.derivation)
          (omega (arith, after₁.is_begun, after₂.is_begun)) (omega (arith, after₁.counts, after₂.counts))
          (record { pending = ts; named = named; carries = after₂.carries }))

  -- every expression that pass one accepts keeps up, if the calls in it do
  pub sim : SimCalls → {g n : ℕ} {sort : Sort} {e : Expr} → Proper program.functions g n sort e → Sim g n sort e
  sim calls d = elim d as (λ g n sort e d. Sim g n sort e) (λ g n count xs d. SimArgs g n count xs) [
    | proper_const {i = i} small ↦ sim_const i
    | proper_var {a = a} bound ↦ sim_var a bound
    | proper_compute {op = op} {p = p} {q = q} (d₁ → sim_p) (d₂ → sim_q) ↦ sim_compute op p q sim_p sim_q
    | proper_if_zero {t = t} {z = z} {o = o} (d₀ → sim_t) (d₁ → sim_z) (d₂ → sim_o) ↦ sim_if_zero t z o sim_t sim_z sim_o
    | proper_let {p = p} {body = body} (d₁ → sim_p) (d₂ → sim_body) ↦ sim_let p body sim_p sim_body
    | proper_leaf {p = p} (d → sim_p) ↦ sim_leaf p sim_p
    | proper_node {p = p} {q = q} (d₁ → sim_p) (d₂ → sim_q) ↦ sim_node p q sim_p sim_q
    | proper_case {a = a} {p = p} {q = q} bound (d₁ → sim_p) (d₂ → sim_q) ↦ sim_case a p q sim_p sim_q
    | proper_call {a = a} {b = b} {xs = xs} {f = f} bound known same (ds → sim_xs) ↦ rw same (sim_call a b f xs calls known (count_proper ds) sim_xs)
    | proper_none ↦ sim_none
    | proper_arg {k = count} {x = x} {xs = xs} (d → sim_x) (ds → sim_xs) ↦ sim_arg count x xs sim_x sim_xs
  ]
