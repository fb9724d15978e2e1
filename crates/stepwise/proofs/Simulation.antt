-- The steps over an expression's rows come to what its evaluation comes to.
--
-- A record of an expression begins, in a state whose frame holds the named numbers, each on its
-- word, and whose named trees are found in the input. If the steps come to an outcome from every
-- value of the expression, they come to it from the record's beginning too. There is one lemma for
-- each kind; the calls in an expression are assumed to behave so.
use Prim.Native.Nat.{ℕ, zero, suc, ◌+◌, ◌-◌, ◌*◌, ◌≤◌, ◌<◌}
use mathlib.Core.Bool.{Bool, true, false}
use mathlib.Core.List.{List, [], ◌∷◌, ◌++◌, append-nil}
use mathlib.Core.Logic.{◌≢◌}
use mathlib.Core.Option.{Option, none, some, some-injective}
use mathlib.Core.Path.{◌≡◌, refl, sym, ap, ◌∙◌}
use native.Mathlib.Nat.{le_refl}
use native.Mathlib.Omega.{arith}
use borrow.Author.Tests.{eqb-true, eqb-false, eq-eqb, ne_eqb}
use lib.Dec.{eqb}
use lib.ListN.{length}
use Rattle.formats.specs.Arithmetic.{Op, result_of}
use Rattle.formats.specs.Tokens.{Tree, leaf, node, node_tag, tokens}
use Rattle.formats.specs.Inner.Trees.{leaf_bytes}
use Rattle.formats.specs.Records.{nth, Case, Call}
use Rattle.formats.specs.Programs.{Expr, const, var, compute, if_zero, let_in, leaf_of, node_of, case_of, call, Args, no_args, arg, size, count_args}
use Rattle.formats.specs.Programs.{Sort, number_valued, tree_valued, Signature, arity_of, Function, signature_of, Program, signatures}
use Rattle.formats.proofs.Records.{nth_mapped}
use Rattle.formats.proofs.Tokens.{joined_tokens}
use Rattle.rules.specs.PassOne.{words_of, words_of_args}
use Rattle.rules.specs.Limits.{most_frame_words}
use Rattle.walks.specs.Inner.Standing.{head_of}
use Rattle.rules.proofs.Words.{words_call, words_least, words_least_args}
use Rattle.meaning.specs.Levels.{at_level}
use Rattle.meaning.specs.Running.{value_words, return_words}
use Rattle.meaning.specs.Evaluation.{Value, number, Environment, tree_named, with_number, with_trees, result_bytes, result_number}
use Rattle.meaning.specs.OpenCalls.{no_result, Outcome, gives, stops, begins, followed_by, number_or, tree_or, result_tree, computed, evaluate, evaluate_args, first_record, called}
use Rattle.meaning.proofs.Levels.{level_newest, level_older, level_found, level_below}
use Rattle.meaning.proofs.Proper.{Proper, proper_const, proper_var, proper_compute, proper_if_zero, proper_let, proper_leaf}
use Rattle.meaning.proofs.Proper.{proper_node, proper_case, proper_call, proper_none, proper_arg, count_proper}
use Rattle.meaning.proofs.Sorts.{ValuesOf, value_of}
use Rattle.stepwise.specs.Inner.Rows.{Location, passed, last_word, naming_code, part_location}
use Rattle.stepwise.specs.Inner.Rows.{calls_function, action_of, role_of, slot_of, names_in, keeps_in, cases_in, operand_of, tree_of, more_of}
use Rattle.stepwise.specs.Inner.Steps.{State, Turn, begin, finished, opens, broken, computing, frame_words, record_limit, most_waiting, word_at, with_word, with_end}
use Rattle.stepwise.specs.Inner.Steps.{action_at, operand_at, tree_at, more_at, role_at, parent_at, slot_at, Found}
use Rattle.stepwise.specs.Inner.Outcomes.{Reported, Comes, at_broken}
use Rattle.stepwise.proofs.Words.{Leaves, leaves_all, leaves_both, leaves_less, leaves_word, leaves_end, word_named, word_kept, word_set, word_other}
use Rattle.stepwise.proofs.Moves.{next_next, begin_leaf, begin_node, begin_bare, begin_args, begin_const, begin_var, begin_first, begin_pair}
use Rattle.stepwise.proofs.Moves.{finished_kept, finished_second, finished_zero, finished_other, finished_passed}
use Rattle.stepwise.proofs.Moves.{finished_labelled, finished_followed, finished_last}
use Rattle.stepwise.proofs.Rows.{Stands, StandArgs, HasRow, own_row}
use Rattle.stepwise.proofs.Rows.{compute_parts, if_zero_parts, let_parts, leaf_part, node_parts, case_parts, call_args, args_first}
use Rattle.stepwise.proofs.Rows.{size_const, size_var, size_compute, size_if_zero, size_let, size_leaf, size_node, size_case, size_args, size_call, size_arg}
use Rattle.stepwise.proofs.Trees.{Lies, lies_leaf, lies_node, Cached, cached_leaf, Named, named_later, named_deeper, named_own}

-- ---- numbers on words

-- Each number, the oldest first, is on its word.
pub record Holding (on : ℕ → ℕ) (numbers : List ℕ) : Type 0 where
  pub each : (a i : ℕ) → at_level numbers a ≡ some i → on a ≡ i

-- the same words
pub holding_same : (on on' : ℕ → ℕ) (numbers : List ℕ) → ((a : ℕ) → a < length numbers → on' a ≡ on a) → Holding on numbers → Holding on' numbers
holding_same on on' numbers same h = record { each = λ a i e. same a (level_below numbers a e) ∙ h.each a i e }

-- one number more
pub holding_more : (on : ℕ → ℕ) (x : ℕ) (numbers : List ℕ) → on (length numbers) ≡ x → Holding on numbers → Holding on (x ∷ numbers)
holding_more on x numbers newest h = record { each = λ a i e. by_test a i e (eqb a (length numbers)) refl }
  where
    by_test : (a i : ℕ) → at_level (x ∷ numbers) a ≡ some i → (b : Bool) → eqb a (length numbers) ≡ b → on a ≡ i
    by_test a i e true t =
        let top : a ≡ length numbers = eqb-true a (length numbers) t in
        rw top newest ∙ some-injective x i (sym (level_newest x a numbers top) ∙ e)
    by_test a i e false t = h.each a i (sym (level_older x a numbers (eqb-false a (length numbers) t)) ∙ e)

-- ---- one program, one table, one input, k calls still to be opened

module _ (program : Program) (T input : List ℕ) (k : ℕ) where
  -- The signatures, the functions' first records, and their number parameters.
  abbrev gs : List Signature
  gs = signatures program

  abbrev entry : ℕ → ℕ
  entry = first_record program

  abbrev arity : ℕ → ℕ
  arity = arity_of gs

  -- There is room for every call that may still be opened.
  pub record Roomy (s : State) : Type 0 where
    pub values : value_words ≤ length s.words
    pub returns : return_words ≤ length s.returns
    pub allowed : s.calls + k ≡ most_waiting

  -- The state agrees with an environment of g numbers and n trees: the numbers are on the frame's
  -- first words, the trees are found from record r on, and what is known of an end is right.
  pub record Agrees (g n : ℕ) (cases : List ℕ) (r : ℕ) (E : Environment) (s : State) : Type 0 where
    pub numbers : length E.numbers ≡ g
    pub trees : length E.trees ≡ n
    pub held : Holding (word_at s) E.numbers
    pub named : Named T input s.tree cases r E.trees
    pub cached : Cached input s.known s.end
    pub roomy : Roomy s

  -- a word of the frame is there
  word_there : (s : State) (slot : ℕ) → Roomy s → slot < frame_words → frame_words * s.calls + slot < length s.words
  word_there s slot room h = omega (arith, room.values, room.allowed)

  -- there is still room after a part is taken
  roomy_left : {names keeps : ℕ} {s s' : State} → Leaves input names keeps s s' → Roomy s → Roomy s'
  roomy_left left room = record {
    values = omega (arith, left.as_many_words, room.values);
    returns = omega (arith, left.as_many_returns, room.returns);
    allowed = omega (arith, left.calls, room.allowed);
  }

  module _ {g n : ℕ} {cases : List ℕ} {r : ℕ} {E : Environment} {s : State} (h : Agrees g n cases r E s) where
    -- a state that keeps the words of the named numbers still agrees
    agrees_left : {keeps : ℕ} {s' : State} (r' : ℕ) → r ≤ r' → Leaves input g keeps s s' → Agrees g n cases r' E s'
    agrees_left {keeps} {s'} r' later left = record {
      numbers = h.numbers;
      trees = h.trees;
      held = holding_same (word_at s) (word_at s') E.numbers (λ a below. word_named g keeps s s' left a (omega (arith, h.numbers))) h.held;
      named = rw left.tree (named_later later h.named);
      cached = left.cached h.cached;
      roomy = roomy_left left h.roomy;
    }

    -- one number more is named, on the next word
    agrees_number : (x r' : ℕ) → r ≤ r' → g < frame_words → Agrees (suc g) n cases r' (with_number x E) (with_word s g x)
    agrees_number x r' later few =
        let less = agrees_left r' later (leaves_word g 0 s g x (le_refl g) (omega arith)) in
        record {
          numbers = ap suc h.numbers;
          trees = h.trees;
          held = holding_more (word_at (with_word s g x)) x E.numbers (rw h.numbers (word_set s g x (word_there s g h.roomy few))) less.held;
          named = less.named;
          cached = less.cached;
          roomy = less.roomy;
        }

    -- the two trees of a node are named
    agrees_trees :
        (a : ℕ) (left right : Tree) (r' : ℕ)
        → suc r ≤ r'
        → tree_at T r ≡ naming_code cases a
        → tree_named E a ≡ some (node left right)
        → Agrees g (suc (suc n)) (cases ++ (r ∷ [])) r' (with_trees left right E) s
    agrees_trees a left right r' later code is = record {
      numbers = h.numbers;
      trees = ap (λ m. suc (suc m)) h.trees;
      held = h.held;
      named = named_later later (named_deeper a left right code is h.named);
      cached = h.cached;
      roomy = h.roomy;
    }

  -- ---- what is to be shown

  -- From every value of this sort, and from every state that keeps the words which must stay, the
  -- steps come to the outcome that κ gives.
  pub record Follows (sort : Sort) (names keeps r : ℕ) (s : State) (out : List ℕ) (κ : Value → Outcome Reported) : Type 0 where
    pub from :
        (v : ValuesOf sort) (s' : State)
        → Leaves input names keeps s s'
        → Comes T input (out ++ result_bytes (value_of sort v)) (finished r (result_number (value_of sort v)) s') (κ (value_of sort v))

  -- What is shown of an expression of this sort, where g numbers and n trees are named.
  abbrev pub Sim : (g n : ℕ) (sort : Sort) (e : Expr) → Type 0
  Sim g n sort e =
      (p : Location) (r w : ℕ) (E : Environment) (s : State)
      → Stands entry arity T p r e
      → r + size e ≤ record_limit
      → p.names ≡ g
      → g + p.keeps ≡ w
      → words_of gs w e ≤ most_frame_words
      → Agrees g n p.cases r E s
      → (out : List ℕ) (κ : Value → Outcome Reported)
      → Follows sort g p.keeps r s out κ
      → Comes T input out (begin r s) (followed_by (evaluate (called program k) E r e) κ)

  -- The word of argument c of a Call, where `keeps` numbers are kept before the first.
  abbrev pub on_word : State → ℕ → ℕ → ℕ
  on_word s keeps c = word_at s (last_word - (keeps + c))

  -- The turn before arguments, the first of them at record j: it begins, or there is none and the
  -- Call at record r opens.
  unfoldable pub turn_of : Args → ℕ → ℕ → State → Turn
  turn_of no_args r j s = opens r s
  turn_of (arg x xs) r j s = begin j s

  -- The same, from `count` numbers, each on its word.
  pub record FollowsArgs (count names keeps r : ℕ) (s : State) (out : List ℕ) (κ : List ℕ → Outcome Reported) : Type 0 where
    pub from :
        (numbers : List ℕ) (s' : State)
        → length numbers ≡ count
        → Holding (on_word s' keeps) numbers
        → Leaves input names keeps s s'
        → Comes T input out (opens r s') (κ numbers)

  -- What is shown of `count` arguments, from part i of the Call at record r on.
  abbrev pub SimArgs : (g n count : ℕ) (xs : Args) → Type 0
  SimArgs g n count xs =
      (p : Location) (a b r i j w : ℕ) (E : Environment) (s : State) (before : List ℕ)
      → StandArgs entry arity T p (Call a b) r i j xs
      → j + size_args xs ≤ record_limit
      → p.names ≡ g
      → g + (p.keeps + i) ≡ w
      → words_of_args gs w xs ≤ most_frame_words
      → i + count ≡ arity b
      → length before ≡ i
      → Holding (on_word s p.keeps) before
      → Agrees g n p.cases j E s
      → (out : List ℕ) (κ : List ℕ → Outcome Reported)
      → FollowsArgs (arity b) g p.keeps r s out κ
      → Comes T input out (turn_of xs r j s) (followed_by (evaluate_args (called program k) E j xs before) κ)

  -- A call of f is ready to open: its row names f's first record, its numbers are on their words,
  -- its tree and its frame's own tree lie at their offsets, and what is known of an end is right.
  pub record Ready (r b : ℕ) (f : Function) (numbers : List ℕ) (t : Tree) (s : State) : Type 0 where
    pub low : r < record_limit
    pub offset : ℕ
    pub found : Found T input s (tree_at T r) offset
    pub own : Tree
    pub own_lies : Lies input s.tree own
    pub lies : Lies input offset t
    pub cached : Cached input s.known s.end
    pub body : operand_at T r ≡ entry b
    pub count : more_at T r ≡ f.parameters
    pub many : length numbers ≡ f.parameters
    pub first : 0 < f.parameters → slot_at T (suc r) < frame_words
    pub given : Holding (λ c. word_at s (slot_at T (suc r) - c)) numbers
    pub roomy : Roomy s

  -- What is shown of calls.
  abbrev pub SimCalls : Type 0
  SimCalls =
      (r b : ℕ) (f : Function) (numbers : List ℕ) (t : Tree) (names keeps : ℕ) (s : State)
      → nth program.functions b ≡ some f
      → Ready r b f numbers t s
      → names ≤ frame_words
      → (out : List ℕ) (κ : Value → Outcome Reported)
      → Follows f.sort names keeps r s out κ
      → Comes T input out (opens r s) (followed_by (called program k r b numbers t) κ)

  -- ---- what follows

  -- a number writes nothing
  follows_number :
      {names keeps r : ℕ} {s : State} {out : List ℕ} {κ : Value → Outcome Reported}
      → ((i : ℕ) (s' : State) → Leaves input names keeps s s' → Comes T input out (finished r i s') (κ (number i)))
      → Follows number_valued names keeps r s out κ
  unfolding result_bytes result_number
  follows_number f = record { from = λ i s' left. rw append-nil (f i s' left) }

  number_given :
      {names keeps r : ℕ} {s : State} {out : List ℕ} {κ : Value → Outcome Reported}
      → Follows number_valued names keeps r s out κ
      → (i : ℕ) (s' : State) → Leaves input names keeps s s' → Comes T input out (finished r i s') (κ (number i))
  unfolding result_bytes result_number
  number_given follow i s' left = rw append-nil at (follow.from i s' left)

  -- after a part whose value is its record's, the same follows as after the record
  follows_passed :
      (sort : Sort) {names keeps r : ℕ} {s : State} {out : List ℕ} {κ : Value → Outcome Reported} (q names' keeps' : ℕ) (s' : State)
      → role_at T q ≡ passed
      → parent_at T q ≡ r
      → r < q
      → names ≤ names'
      → keeps ≤ keeps'
      → Leaves input names keeps s s'
      → Follows sort names keeps r s out κ
      → Follows sort names' keeps' q s' out κ
  follows_passed sort {names} {keeps} {r} {s} q names' keeps' s' role parent earlier fewer less left follow = record {
    from = λ v s'' left'.
        finished_passed T input q _ s'' r role parent earlier
        (follow.from v s'' (leaves_both names keeps s s' s'' left (leaves_less names keeps names' keeps' s' s'' fewer less left')));
  }

  -- `followed_by` after a value, after an expression begun, and after another `followed_by`
  module _ {A : Type 0} {out : List ℕ} {t : Turn} (κ : A → Outcome Reported) where
    comes_value : (v : A) → Comes T input out t (κ v) → Comes T input out t (followed_by (gives v) κ)
    unfolding followed_by
    comes_value v c = c

    comes_begun : (o : Outcome A) → Comes T input out t (begins (followed_by o κ)) → Comes T input out t (followed_by (begins o) κ)
    unfolding followed_by
    comes_begun o c = c

    comes_next : {B : Type 0} (o : Outcome B) (f : B → Outcome A) → Comes T input out t (followed_by o (λ x. followed_by (f x) κ))
        → Comes T input out t (followed_by (followed_by o f) κ)
    comes_next o f c = rw (next_next o f κ) c

  -- ---- kind by kind

  -- a constant is finished at once
  sim_const : {g n : ℕ} (i : ℕ) → Sim g n number_valued (const i)
  unfolding evaluate head_of action_of tree_of operand_of more_of
  sim_const i p r w E s stands inside names words few agrees out κ follow =
      let row = own_row entry arity T p r (const i) stands in
      comes_begun κ _ (begin_const T input r s (omega (arith, size_const i)) row.tree i row.action (omega (arith, row.operand, row.more))
      (comes_value κ _ (number_given follow i s (leaves_all _ _ s))))

  -- so is a name, with the number on its word
  sim_var : {g n : ℕ} (a : ℕ) → a < g → Sim g n number_valued (var a)
  unfolding evaluate number_or head_of action_of tree_of operand_of
  sim_var a bound p r w E s stands inside names words few agrees out κ follow =
      let row = own_row entry arity T p r (var a) stands in
      let found = level_found E.numbers a (omega (arith, agrees.numbers)) in
      rw found.is
      (comes_begun κ _ (begin_var T input r s (omega (arith, size_var a)) row.tree a row.action row.operand
      (rw (agrees.held.each a found.entry found.is) (comes_value κ _ (number_given follow found.entry s (leaves_all _ _ s))))))

  -- an operation has a result, from which it goes on, or it has none and stops
  comes_computed :
      {out : List ℕ} (κ : Value → Outcome Reported) (op : Op) (i j r : ℕ) (s : State)
      → ((v : ℕ) → Comes T input out (finished r v s) (κ (number v)))
      → Comes T input out (computing op i j r s) (followed_by (computed r op i j) κ)
  unfolding computing computed followed_by
  comes_computed {out} κ op i j r s from = by_result (result_of op i j)
    where
      by_result : (found : Option ℕ)
          → Comes T input out (elim found [ some v ↦ finished r v s | none ↦ broken op i j r ])
          (followed_by (elim found [ some v ↦ gives (number v) | none ↦ stops (no_result op i j) r ]) κ)
      by_result (some v) = from v
      by_result none = at_broken

  -- the first number is kept while the second is found
  sim_compute : {g n : ℕ} (op : Op) (x y : Expr) → Sim g n number_valued x → Sim g n number_valued y → Sim g n number_valued (compute op x y)
  unfolding evaluate result_number words_of head_of action_of tree_of role_of slot_of names_in keeps_in cases_in
  sim_compute {g} op x y sim_x sim_y p r w E s stands inside names words few agrees out κ follow =
      let row = own_row entry arity T p r (compute op x y) stands in
      let parts = compute_parts entry arity T stands in
      let row_x = own_row entry arity T _ (suc r) x parts.0 in
      let row_y = own_row entry arity T _ (suc r + size x) y parts.1 in
      let long = size_compute x y op in
      let least = words_least gs (suc w) y in
      let slot : ℕ = last_word - p.keeps in
      comes_begun κ _
      (begin_first T input r s (omega arith) row.tree row.action
      (comes_next κ _ _
      (sim_x _ (suc r) w E s parts.0 (omega arith) names words (omega arith) (agrees_left agrees (suc r) (omega arith) (leaves_all g 0 s)) out _
      (follows_number λ i s₁ left₁.
      let left₂ : Leaves input g p.keeps s₁ (with_word s₁ slot i) = leaves_word g p.keeps s₁ slot i (omega arith) (omega arith) in
      let both = leaves_both g p.keeps s s₁ (with_word s₁ slot i) left₁ left₂ in
      finished_kept T input (suc r) i s₁ slot (suc r + size x) row_x.role row_x.slot row_x.after
      (comes_next κ _ _
      (sim_y _ (suc r + size x) (suc w) E (with_word s₁ slot i) parts.1 (omega arith) names (omega arith) (omega arith)
      (agrees_left agrees (suc r + size x) (omega arith) both) out _
      (follows_number λ j s₃ left₃.
      let on_slot : word_at s₃ slot ≡ i =
      word_kept g (suc p.keeps) (with_word s₁ slot i) s₃ left₃ slot (omega arith) (omega arith)
      ∙ word_set s₁ slot i (word_there s₁ slot (roomy_left left₁ agrees.roomy) (omega arith)) in
      finished_second T input (suc r + size x) j s₃ op slot r i row_y.role row_y.slot row_y.parent (omega arith) on_slot
      (comes_computed κ op i j r s₃ (λ v. number_given follow v s₃
      (leaves_both g p.keeps s (with_word s₁ slot i) s₃ both
      (leaves_less g p.keeps g (suc p.keeps) (with_word s₁ slot i) s₃ (le_refl g) (omega arith) left₃)))))))))))

  -- the test's number picks a part
  sim_if_zero : {g n : ℕ} {sort : Sort} (t z o : Expr) → Sim g n number_valued t → Sim g n sort z → Sim g n sort o → Sim g n sort (if_zero t z o)
  unfolding evaluate result_number words_of head_of action_of tree_of role_of names_in keeps_in cases_in
  sim_if_zero {g} {sort = sort} t z o sim_t sim_z sim_o p r w E s stands inside names words few agrees out κ follow =
      let row = own_row entry arity T p r (if_zero t z o) stands in
      let parts = if_zero_parts entry arity T stands in
      let row_t = own_row entry arity T _ (suc r) t parts.0 in
      let row_z = own_row entry arity T _ (suc r + size t) z parts.1.0 in
      let row_o = own_row entry arity T _ (suc r + size t + size z) o parts.1.1 in
      let long = size_if_zero t z o in
      let picks :
      (i : ℕ) (s₁ : State)
      → Leaves input g p.keeps s s₁
      → Comes T input out (finished (suc r) i s₁)
      (followed_by
      (elim i [
        | zero ↦ evaluate (called program k) E (suc r + size t) z
        | suc j ↦ evaluate (called program k) E (suc r + size t + size z) o
      ]) κ) = elim [
        | zero ↦ λ s₁ left₁.
            finished_zero T input (suc r) 0 s₁ (suc r + size t) row_t.role refl row_t.after
            (sim_z _ (suc r + size t) w E s₁ parts.1.0 (omega arith) names words (omega arith)
            (agrees_left agrees (suc r + size t) (omega arith) left₁) out κ
            (follows_passed sort (suc r + size t) g p.keeps s₁ row_z.role row_z.parent (omega arith) (le_refl _) (le_refl _) left₁ follow))
        | suc j ↦ λ s₁ left₁.
            finished_other T input (suc r) (suc j) s₁ (suc r + size t) (suc r + size t + size z) row_t.role (λ e. absurd (omega arith)) row_t.after
            row_z.after
            (sim_o _ (suc r + size t + size z) w E s₁ parts.1.1 (omega arith) names words (omega arith)
            (agrees_left agrees (suc r + size t + size z) (omega arith) left₁) out κ
            (follows_passed sort (suc r + size t + size z) g p.keeps s₁ row_o.role row_o.parent (omega arith) (le_refl _) (le_refl _) left₁ follow))
      ] in
      comes_begun κ _
      (begin_first T input r s (omega arith) row.tree row.action
      (comes_next κ _ _
      (sim_t _ (suc r) w E s parts.0 (omega arith) names words (omega arith) (agrees_left agrees (suc r) (omega arith) (leaves_all g 0 s)) out _
      (follows_number picks))))

  -- the number is named by the next word
  sim_let : {g n : ℕ} {sort : Sort} (x body : Expr) → Sim g n number_valued x → Sim (suc g) n sort body → Sim g n sort (let_in x body)
  unfolding evaluate result_number words_of head_of action_of tree_of role_of slot_of names_in keeps_in cases_in
  sim_let {g} {sort = sort} x body sim_x sim_body p r w E s stands inside names words few agrees out κ follow =
      let row = own_row entry arity T p r (let_in x body) stands in
      let parts = let_parts entry arity T stands in
      let row_x = own_row entry arity T _ (suc r) x parts.0 in
      let row_body = own_row entry arity T _ (suc r + size x) body parts.1 in
      let long = size_let x body in
      let least = words_least gs (suc w) body in
      comes_begun κ _
      (begin_first T input r s (omega arith) row.tree row.action
      (comes_next κ _ _
      (sim_x _ (suc r) w E s parts.0 (omega arith) names words (omega arith) (agrees_left agrees (suc r) (omega arith) (leaves_all g 0 s)) out _
      (follows_number λ i s₁ left₁.
      let left₂ : Leaves input g p.keeps s₁ (with_word s₁ g i) = leaves_word g p.keeps s₁ g i (le_refl g) (omega arith) in
      finished_kept T input (suc r) i s₁ g (suc r + size x) row_x.role (row_x.slot ∙ names) row_x.after
      (sim_body _ (suc r + size x) (suc w) (with_number i E) (with_word s₁ g i) parts.1 (omega arith) (ap suc names) (omega arith) (omega arith)
      (agrees_number (agrees_left agrees (suc r + size x) (omega arith) left₁) i (suc r + size x) (le_refl _) (omega arith)) out κ
      (follows_passed sort (suc r + size x) (suc g) p.keeps (with_word s₁ g i) row_body.role row_body.parent (omega arith) (omega arith) (le_refl _)
      (leaves_both g p.keeps s s₁ (with_word s₁ g i) left₁ left₂) follow))))))

  -- a leaf is written once its number is found
  sim_leaf : {g n : ℕ} (x : Expr) → Sim g n number_valued x → Sim g n tree_valued (leaf_of x)
  unfolding evaluate result_number result_bytes words_of head_of action_of tree_of role_of names_in keeps_in cases_in
  sim_leaf {g} x sim_x p r w E s stands inside names words few agrees out κ follow =
      let row = own_row entry arity T p r (leaf_of x) stands in
      let part = leaf_part entry arity T stands in
      let row_x = own_row entry arity T _ (suc r) x part in
      let long = size_leaf x in
      comes_begun κ _
      (begin_first T input r s (omega arith) row.tree row.action
      (comes_next κ _ _
      (sim_x _ (suc r) w E s part (omega arith) names words few (agrees_left agrees (suc r) (omega arith) (leaves_all g 0 s)) out _
      (follows_number λ i s₁ left₁.
      finished_labelled T input (suc r) i s₁ r row_x.role row_x.parent (omega arith) (comes_value κ _ (follow.from (leaf i) s₁ left₁))))))

  -- the tag, then the two trees in order
  sim_node : {g n : ℕ} (x y : Expr) → Sim g n tree_valued x → Sim g n tree_valued y → Sim g n tree_valued (node_of x y)
  unfolding evaluate result_number result_tree result_bytes words_of head_of action_of tree_of role_of names_in keeps_in cases_in
  sim_node {g} x y sim_x sim_y p r w E s stands inside names words few agrees out κ follow =
      let row = own_row entry arity T p r (node_of x y) stands in
      let parts = node_parts entry arity T stands in
      let row_x = own_row entry arity T _ (suc r) x parts.0 in
      let row_y = own_row entry arity T _ (suc r + size x) y parts.1 in
      let long = size_node x y in
      comes_begun κ _
      (begin_pair T input r s (omega arith) row.tree row.action
      (comes_next κ _ _
      (sim_x _ (suc r) w E s parts.0 (omega arith) names words (omega arith) (agrees_left agrees (suc r) (omega arith) (leaves_all g 0 s))
      (out ++ (node_tag ∷ [])) _
      (record {
        from = λ l s₁ left₁.
            finished_followed T input (suc r) 0 s₁ (suc r + size x) row_x.role row_x.after
            (comes_next κ _ _
            (sim_y _ (suc r + size x) w E s₁ parts.1 (omega arith) names words (omega arith) (agrees_left agrees (suc r + size x) (omega arith) left₁)
            (out ++ (node_tag ∷ []) ++ tokens l) _
            (record {
              from = λ u s₂ left₂.
                  finished_passed T input (suc r + size x) 0 s₂ r row_y.role row_y.parent (omega arith)
                  (comes_value κ _ (rw (joined_tokens out l u) (follow.from (node l u) s₂ (leaves_both g p.keeps s s₁ s₂ left₁ left₂))));
            })));
      }))))

  -- by the tree that is looked at: a leaf's label is named by the next word; a node's trees are
  -- named
  sim_case :
      {g n : ℕ} {sort : Sort} (a : ℕ) (x y : Expr) → a < n → Sim (suc g) n sort x → Sim g (suc (suc n)) sort y → Sim g n sort (case_of a x y)
  unfolding evaluate tree_or words_of head_of action_of tree_of operand_of role_of names_in keeps_in cases_in
  sim_case {g} {sort = sort} a x y bound sim_x sim_y p r w E s stands inside names words few agrees out κ follow =
      let found = level_found E.trees a (omega (arith, agrees.trees)) in
      on_tree found.entry found.is
    where
      row : HasRow entry arity T p r (r + size (case_of a x y)) (Case a)
      row = own_row entry arity T p r (case_of a x y) stands

      parts :
          Stands entry arity T (part_location entry arity p (Case a) r 0) (suc r) x
          × Stands entry arity T (part_location entry arity p (Case a) r 1) (suc r + size x) y
      parts = case_parts entry arity T stands

      row_x : HasRow entry arity T (part_location entry arity p (Case a) r 0) (suc r) (suc r + size x) (head_of x)
      row_x = own_row entry arity T _ (suc r) x parts.0

      row_y : HasRow entry arity T (part_location entry arity p (Case a) r 1) (suc r + size x) (suc r + size x + size y) (head_of y)
      row_y = own_row entry arity T _ (suc r + size x) y parts.1

      on_tree : (t : Tree) → tree_named E a ≡ some t → Comes T input out (begin r s) (followed_by (evaluate (called program k) E r (case_of a x y)) κ)
      on_tree (leaf i) is =
          let looked = agrees.named.each a (leaf i) is in
          let there = lies_leaf looked.lies in
          let long = size_case x y a in
          let least = words_least gs (suc w) x in
          let s₁ : State = with_word s g i in
          let s₂ : State = with_end s₁ looked.offset (looked.offset + leaf_bytes) in
          let end_known : Leaves input (suc g) p.keeps s₁ s₂ = leaves_end _ _ s₁ _ _ (λ before. cached_leaf looked.lies) in
          let both : Leaves input g p.keeps s s₂ =
          leaves_both g p.keeps s s₁ s₂ (leaves_word g p.keeps s g i (le_refl g) (omega arith))
          (leaves_less g p.keeps (suc g) p.keeps s₁ s₂ (omega arith) (le_refl _) end_known) in
          rw is
          (comes_begun κ _
          (begin_leaf T input looked.offset r s (omega arith) (rw row.tree (looked.found s refl agrees.cached)) g i row.action (row.operand ∙ names)
          there.within there.tag there.label
          (sim_x _ (suc r) (suc w) (with_number i E) s₂ parts.0 (omega arith) (ap suc names) (omega arith) (omega arith)
          (agrees_left (agrees_number agrees i (suc r) (omega arith) (omega arith)) (suc r) (le_refl _) end_known) out κ
          (follows_passed sort (suc r) (suc g) p.keeps s₂ row_x.role row_x.parent (omega arith) (omega arith) (le_refl _) both follow))))
      on_tree (node l u) is =
          let looked = agrees.named.each a (node l u) is in
          let there = lies_node looked.lies in
          let long = size_case x y a in
          rw is
          (comes_begun κ _
          (begin_node T input looked.offset r s (omega arith) (rw row.tree (looked.found s refl agrees.cached)) (suc r + size x) row.action
          there.0 there.1 row_x.after
          (sim_y _ (suc r + size x) w (with_trees l u E) s parts.1 (omega arith) names words (omega arith)
          (agrees_trees agrees a l u (suc r + size x) (omega arith) row.tree is) out κ
          (follows_passed sort (suc r + size x) g p.keeps s row_y.role row_y.parent (omega arith) (le_refl _) (le_refl _)
          (leaves_all g p.keeps s) follow))))

  -- no more arguments
  sim_none : {g n : ℕ} → SimArgs g n 0 no_args
  unfolding evaluate_args turn_of
  sim_none {g} p a b r i j w E s before stands inside names words few many so_far held agrees out κ follow =
      comes_value κ _ (follow.from before s (omega arith) held (leaves_all g p.keeps s))

  -- after an argument the next one begins, or the call opens
  arg_finished :
      {out : List ℕ} {o : Outcome Reported} (p : Location) (a b r i j v : ℕ) (x : Expr) (xs : Args) (s : State)
      → HasRow entry arity T (part_location entry arity p (Call a b) r i) j (j + size x) (head_of x)
      → i + suc (count_args xs) ≡ arity b
      → Comes T input out (turn_of xs r (j + size x) (with_word s (last_word - (p.keeps + i)) v)) o
      → Comes T input out (finished j v s) o
  unfolding turn_of count_args role_of slot_of
  arg_finished p a b r i j v x no_args s row many c =
      let last : suc i ≡ arity b = omega arith in
      finished_last T input j v s _ r (rw (eq-eqb _ _ last, role_of) at row.role) row.slot row.parent c
  arg_finished p a b r i j v x (arg y ys) s row many c =
      let more : suc i ≢ arity b = λ e. absurd (omega arith) in
      finished_kept T input j v s _ (j + size x) (rw (ne_eqb _ _ more, role_of) at row.role) row.slot row.after c

  -- each argument's number is kept on the next word down
  sim_arg :
      {g n : ℕ} (count : ℕ) (x : Expr) (xs : Args) → count_args xs ≡ count → Sim g n number_valued x → SimArgs g n count xs
      → SimArgs g n (suc count) (arg x xs)
  unfolding evaluate_args turn_of result_number words_of_args names_in keeps_in cases_in
  sim_arg {g} count x xs counted sim_x sim_xs p a b r i j w E s before stands inside names words few many so_far held agrees out κ follow =
      let parts = args_first entry arity T stands in
      let row = own_row entry arity T _ j x parts.0 in
      let long = size_arg x xs in
      let least = words_least_args gs (suc w) xs in
      let slot : ℕ = last_word - (p.keeps + i) in
      comes_next κ _ _
      (sim_x _ j w E s parts.0 (omega arith) names words (omega arith) agrees out _
      (follows_number λ v s₁ left₁.
      let s₂ : State = with_word s₁ slot v in
      let left₂ : Leaves input g p.keeps s₁ s₂ = leaves_word g p.keeps s₁ slot v (omega arith) (omega arith) in
      let both : Leaves input g p.keeps s s₂ =
      leaves_both g p.keeps s s₁ s₂ (leaves_less g p.keeps g (p.keeps + i) s s₁ (le_refl g) (omega arith) left₁) left₂ in
      let earlier : (c : ℕ) → c < length before → on_word s₂ p.keeps c ≡ on_word s p.keeps c =
      λ c below.
      word_other s₁ slot (last_word - (p.keeps + c)) v (λ e. absurd (omega arith))
      ∙ word_kept g (p.keeps + i) s s₁ left₁ (last_word - (p.keeps + c)) (omega arith) (omega arith) in
      let newest : on_word s₂ p.keeps (length before) ≡ v =
      rw so_far (word_set s₁ slot v (word_there s₁ slot (roomy_left left₁ agrees.roomy) (omega arith))) in
      arg_finished p a b r i j v x xs s₁ row (omega arith)
      (sim_xs p a b r (suc i) (j + size x) (suc w) E s₂ (v ∷ before) parts.1 (omega arith) names (omega arith) (omega arith) (omega arith) (ap suc so_far)
      (holding_more (on_word s₂ p.keeps) v before newest (holding_same (on_word s p.keeps) (on_word s₂ p.keeps) before earlier held))
      (agrees_left agrees (j + size x) (omega arith) both) out κ
      (record {
        from = λ numbers s' enough given left. follow.from numbers s' enough given (leaves_both g p.keeps s s₂ s' both left);
      }))))

  -- the number parameters of a function that is there
  arity_known : (b : ℕ) (f : Function) → nth program.functions b ≡ some f → arity b ≡ f.parameters
  unfolding arity_of signature_of
  arity_known b f known = rw (nth_mapped signature_of program.functions b f known, arity_of) refl

  -- a Call's first argument begins, or the call opens
  call_begins :
      {out : List ℕ} {o : Outcome Reported} (offset r : ℕ) (xs : Args) (s : State)
      → r < record_limit
      → Found T input s (tree_at T r) offset
      → action_at T r ≡ calls_function
      → more_at T r ≡ count_args xs
      → Comes T input out (turn_of xs r (suc r) s) o
      → Comes T input out (begin r s) (begins o)
  unfolding turn_of count_args
  call_begins offset r no_args s low found kind more c = begin_bare T input offset r s low found kind more c
  call_begins offset r (arg x xs) s low found kind more c = begin_args T input offset r s low found kind (λ e. absurd (omega (arith, more))) c

  -- the first argument's word
  first_slot : (p : Location) (a b r : ℕ) (xs : Args) → 0 < count_args xs → StandArgs entry arity T p (Call a b) r 0 (suc r) xs
      → slot_at T (suc r) ≡ last_word - (p.keeps + 0)
  unfolding count_args slot_of
  first_slot p a b r no_args some_there stands = absurd (omega arith)
  first_slot p a b r (arg x xs) some_there stands = (own_row entry arity T _ (suc r) x (args_first entry arity T stands).0).slot

  -- the arguments, then the call
  sim_call :
      {g n : ℕ} (a b : ℕ) (f : Function) (xs : Args)
      → SimCalls
      → a < n
      → nth program.functions b ≡ some f
      → count_args xs ≡ f.parameters
      → SimArgs g n f.parameters xs
      → Sim g n f.sort (call a b xs)
  unfolding evaluate tree_or head_of action_of tree_of operand_of more_of
  sim_call {g} a b f xs calls bound known counted sim_xs p r w E s stands inside names words few agrees out κ follow =
      let row = own_row entry arity T p r (call a b xs) stands in
      let args = call_args entry arity T stands in
      let long = size_call a b xs in
      let least = words_least_args gs w xs in
      let few_all = rw (words_call gs w a b xs (signature_of f) (nth_mapped signature_of program.functions b f known)) at few in
      let its : arity b ≡ f.parameters = arity_known b f known in
      let named = level_found E.trees a (omega (arith, agrees.trees)) in
      let looked = agrees.named.each a named.entry named.is in
      let found : (s' : State) → s'.tree ≡ s.tree → Cached input s'.known s'.end → Found T input s' (tree_at T r) looked.offset =
      λ s' same cached. rw row.tree (looked.found s' same cached) in
      let its_own = level_found E.trees 0 (omega (arith, agrees.trees)) in
      let slots : 0 < f.parameters → slot_at T (suc r) ≡ last_word - (p.keeps + 0) = λ some_there. first_slot p a b r xs (omega arith) args in
      rw named.is
      (comes_begun κ _
      (call_begins looked.offset r xs s (omega arith) (found s refl agrees.cached) row.action (row.more ∙ its ∙ sym counted)
      (comes_next κ _ _
      (sim_xs p a b r 0 (suc r) w E s [] args (omega arith) names (omega arith) (omega arith) (omega arith) refl (record { each = λ c i e. none_there c i e })
      (agrees_left agrees (suc r) (omega arith) (leaves_all g 0 s)) out _
      (record {
        from = λ numbers s' many given left.
            calls r b f numbers named.entry g p.keeps s' known
            (record {
              low = omega arith;
              offset = looked.offset;
              found = found s' left.tree (left.cached agrees.cached);
              own = its_own.entry;
              own_lies = rw left.tree (named_own s agrees.cached agrees.named its_own.is);
              lies = looked.lies;
              cached = left.cached agrees.cached;
              body = row.operand;
              count = row.more ∙ its;
              many = many ∙ its;
              first = λ some_there. let at_slot = slots some_there in omega arith;
              given =
                  holding_same (on_word s' p.keeps) (λ c. word_at s' (slot_at T (suc r) - c)) numbers
                  (λ c below.
                  let at_slot = slots (omega arith) in
                  let same : slot_at T (suc r) - c ≡ last_word - (p.keeps + c) = omega arith in
                  ap (word_at s') same)
                  given;
              roomy = roomy_left left agrees.roomy;
            })
            (omega arith) out κ
            (record { from = λ v s'' left'. follow.from v s'' (leaves_both g p.keeps s s' s'' left left') });
      })))))
    where
      none_there : (c i : ℕ) → at_level [] c ≡ some i → on_word s p.keeps c ≡ i
      none_there c i e = let below = level_below [] c e in absurd (omega arith)

  -- every expression that pass one accepts comes to what its evaluation comes to, if the calls in
  -- it do
  pub sim : SimCalls → {g n : ℕ} {sort : Sort} {e : Expr} → Proper program.functions g n sort e → Sim g n sort e
  sim calls d = elim d as (λ g n sort e d. Sim g n sort e) (λ g n count xs d. SimArgs g n count xs) [
    | proper_const {i = i} small ↦ sim_const i
    | proper_var {a = a} bound ↦ sim_var a bound
    | proper_compute {op = op} {p = x} {q = y} (d₁ → sim_x) (d₂ → sim_y) ↦ sim_compute op x y sim_x sim_y
    | proper_if_zero {t = t} {z = z} {o = o} (d₀ → sim_t) (d₁ → sim_z) (d₂ → sim_o) ↦ sim_if_zero t z o sim_t sim_z sim_o
    | proper_let {p = x} {body = body} (d₁ → sim_x) (d₂ → sim_body) ↦ sim_let x body sim_x sim_body
    | proper_leaf {p = x} (d → sim_x) ↦ sim_leaf x sim_x
    | proper_node {p = x} {q = y} (d₁ → sim_x) (d₂ → sim_y) ↦ sim_node x y sim_x sim_y
    | proper_case {a = a} {p = x} {q = y} bound (d₁ → sim_x) (d₂ → sim_y) ↦ sim_case a x y bound sim_x sim_y
    | proper_call {a = a} {b = b} {xs = xs} {f = f} bound known same (ds → sim_xs) ↦ rw same (sim_call a b f xs calls bound known (count_proper ds) sim_xs)
    | proper_none ↦ sim_none
    | proper_arg {k = count} {x = x} {xs = xs} (d → sim_x) (ds → sim_xs) ↦ sim_arg count x xs (count_proper ds) sim_x sim_xs
  ]
