-- The limit of 16 words: what passes pass one stays within it.
use Prim.Native.Nat.{ℕ, zero, suc, ◌+◌, ◌≤◌, ◌<◌, max}
use mathlib.Core.Bool.{true, false≢true}
use mathlib.Core.List.{List, ◌∷◌}
use mathlib.Core.Option.{Option, none, some}
use mathlib.Core.Path.{◌≡◌, refl, sym, ap, ◌∙◌}
use native.Mathlib.Nat.{add-zero, add-suc, max-le, le_refl}
use native.Mathlib.Omega.{arith}
use borrow.Author.Tests.{ltb-true}
use Rattle.formats.specs.Results.{done}
use Rattle.formats.specs.Records.{Kind, Const, Var, Case, Call, nth}
use Rattle.formats.specs.Programs.{Expr, const, var, compute, if_zero, let_in, leaf_of, node_of, case_of, call, Args, no_args, arg, size, count_args}
use Rattle.formats.specs.Programs.{CallsComplete, ArgsComplete, Sort, number_valued, tree_valued, Signature, arity_of, Function, most_parameters, LawfulFunction}
use Rattle.rules.specs.Types.{Ty, Int, Tree⁺, result_type, is_int}
use Rattle.rules.specs.Scopes.{scope, Entry, entry, entered}
use Rattle.rules.specs.PassOne.{bare_number, words_tested, has_room, pass_over, words_with_value, words_of, words_of_args}
use Rattle.rules.specs.Limits.{most_frame_words}
use Rattle.rules.proofs.PassOne.{Passes, PassesArgs, pass_inv, pass_compute, pass_if_zero, pass_let, pass_leaf, pass_node, pass_case, pass_call, pass_arg}

-- ---- a number needs a word

-- where the words are tested, one more has room
pub tested : (gs : List Signature) (g n w r : ℕ) (τ : Ty) (kind : Kind) (xs : List Entry) → words_tested gs kind ≡ true
    → pass_over gs (entry (scope g n w τ) r kind ∷ xs) ≡ done tt
    → w < most_frame_words
unfolding has_room
tested gs g n w r τ kind xs t e = ltb-true w most_frame_words (rw (t, has_room) at (pass_inv gs (scope g n w τ) r kind xs e).room)

-- a function's parameters are few words
pub few_parameters : (gs : List Signature) (j : ℕ) (f : Function) → LawfulFunction gs j f → f.parameters ≤ most_frame_words
unfolding most_parameters
few_parameters gs zero f l = omega (arith, l.few_parameters)
few_parameters gs (suc j) f l = omega (arith, l.few_parameters)

-- a function of no arguments whose value is a number
bare : (s : Signature) → Int ≡ result_type s.sort → s.parameters ≡ 0 → bare_number s ≡ true
unfolding bare_number result_type
bare s t e = rw (number-valued s.sort t, e, bare_number)
  where
    number-valued : (sort : Sort) → Int ≡ result_type sort → sort ≡ number_valued
    number-valued number_valued t = refl
    number-valued tree_valued t = cc

-- a tree is no number
no_number : {C : Type 0} → Int ≡ Tree⁺ → C
unfolding is_int
no_number e = absurd (false≢true (ap is_int (sym e)))

-- a number that passes leaves room for its word: some record tests the words before it stands
mutual
  unfolding entered words_tested count_args arity_of

  pub room : (gs : List Signature) (g n w r : ℕ) (e : Expr) → CallsComplete (arity_of gs) e → Passes gs (scope g n w Int) r e → w < most_frame_words
  room gs g n w r (const i) a e = tested gs g n w r Int (Const i) _ refl e
  room gs g n w r (var v) a e = tested gs g n w r Int (Var v) _ refl e
  room gs g n w r (compute op p q) a e = room gs g n w _ p a.0 (pass_compute gs g n w r Int op p q e).1
  room gs g n w r (if_zero t z o) a e = room gs g n w _ t a.0 (pass_if_zero gs g n w r Int t z o e).0
  room gs g n w r (let_in p body) a e = room gs g n w _ p a.0 (pass_let gs g n w r Int p body e).0
  room gs g n w r (leaf_of p) a e = no_number (pass_leaf gs g n w r Int p e).0
  room gs g n w r (node_of p q) a e = no_number (pass_node gs g n w r Int p q e).0
  room gs g n w r (case_of v p q) a e = tested gs g n w r Int (Case v) _ refl e
  room gs g n w r (call v b xs) a e =
      let c = pass_call gs g n w r Int v b xs e in
      let arity : count_args xs ≡ c.signature.parameters = rw (c.known, arity_of) at a.0 in
      room_args gs g n w (suc r) Int v b xs a.1
      (λ alone. tested gs g n w r Int (Call v b) _ (rw (c.known, words_tested) (bare c.signature c.same (sym arity ∙ alone))) e)
      c.arguments

  room_args : (gs : List Signature) (g n w r : ℕ) (τ : Ty) (a b : ℕ) (xs : Args) → ArgsComplete (arity_of gs) xs → (count_args xs ≡ 0 → w < most_frame_words)
      → PassesArgs gs (Call a b) 0 (scope g n w τ) r xs
      → w < most_frame_words
  room_args gs g n w r τ a b no_args h alone e = alone refl
  room_args gs g n w r τ a b (arg x xs) h alone e =
      let first = room gs g n (w + 0) r x h.0 (pass_arg gs g n w r τ a b 0 x xs e).0 in
      omega arith

-- ---- within the limit

-- the words of a Call whose function is known
pub words_call : (gs : List Signature) (w a b : ℕ) (xs : Args) (s : Signature) → nth gs b ≡ some s
    → words_of gs w (call a b xs) ≡ max (words_with_value s.sort w) (words_of_args gs w xs)
unfolding words_of
words_call gs w a b xs s e = ap (λ o. elim o [ none ↦ w | some s ↦ max (words_with_value s.sort w) (words_of_args gs w xs) ]) e

-- at least those that stand on entering
mutual
  unfolding words_of words_with_value

  pub words_least : (gs : List Signature) (w : ℕ) (e : Expr) → w ≤ words_of gs w e
  words_least gs w (const i) = omega arith
  words_least gs w (var a) = omega arith
  words_least gs w (compute op p q) = omega (arith, words_least gs w p)
  words_least gs w (if_zero t z o) = omega (arith, words_least gs w t)
  words_least gs w (let_in p body) = omega (arith, words_least gs w p)
  words_least gs w (leaf_of p) = words_least gs w p
  words_least gs w (node_of p q) = omega (arith, words_least gs w p)
  words_least gs w (case_of a p q) = omega (arith, words_least gs w q)
  words_least gs w (call a b xs) = known (words_least_args gs w xs) (nth gs b)
    where
      known : w ≤ words_of_args gs w xs → (o : Option Signature) → w ≤ elim o [ none ↦ w | some s ↦ max (words_with_value s.sort w) (words_of_args gs w xs) ]
      known least none = le_refl w
      known least (some s) = omega arith

  pub words_least_args : (gs : List Signature) (w : ℕ) (xs : Args) → w ≤ words_of_args gs w xs
  words_least_args gs w no_args = le_refl w
  words_least_args gs w (arg x xs) = omega (arith, words_least gs w x)

-- the words stay within the limit
mutual
  unfolding entered words_tested words_of words_with_value result_type

  pub few_words : (gs : List Signature) (g n w r : ℕ) (τ : Ty) (e : Expr) → CallsComplete (arity_of gs) e → w ≤ most_frame_words → Passes gs (scope g n w τ) r e
      → words_of gs w e ≤ most_frame_words
  few_words gs g n w r τ (const i) a h e = tested gs g n w r τ (Const i) _ refl e
  few_words gs g n w r τ (var v) a h e = tested gs g n w r τ (Var v) _ refl e
  few_words gs g n w r τ (compute op p q) a h e =
      let c = pass_compute gs g n w r τ op p q e in
      max-le (few_words gs g n w _ Int p a.0 h c.1) (few_words gs g n (suc w) _ Int q a.1 (room gs g n w _ p a.0 c.1) c.2)
  few_words gs g n w r τ (if_zero t z o) a h e =
      let c = pass_if_zero gs g n w r τ t z o e in
      max-le (few_words gs g n w _ Int t a.0 h c.0) (max-le (few_words gs g n w _ τ z a.1.0 h c.1) (few_words gs g n w _ τ o a.1.1 h c.2))
  few_words gs g n w r τ (let_in p body) a h e =
      let c = pass_let gs g n w r τ p body e in
      max-le (few_words gs g n w _ Int p a.0 h c.0) (few_words gs (suc g) n (suc w) _ τ body a.1 (room gs g n w _ p a.0 c.0) c.1)
  few_words gs g n w r τ (leaf_of p) a h e = few_words gs g n w _ Int p a h (pass_leaf gs g n w r τ p e).1
  few_words gs g n w r τ (node_of p q) a h e =
      let c = pass_node gs g n w r τ p q e in
      max-le (few_words gs g n w _ Tree⁺ p a.0 h c.1) (few_words gs g n w _ Tree⁺ q a.1 h c.2)
  few_words gs g n w r τ (case_of v p q) a h e =
      let c = pass_case gs g n w r τ v p q e in
      max-le
      (few_words gs (suc g) n (suc w) _ τ p a.0 (tested gs g n w r τ (Case v) _ refl e) c.1)
      (few_words gs g (suc (suc n)) w _ τ q a.1 h c.2)
  few_words gs g n w r τ (call v b xs) a h e =
      let c = pass_call gs g n w r τ v b xs e in
      let args = rw add-zero at (few_args gs g n w (suc r) τ v b 0 xs a.1 (omega arith) c.arguments) in
      rw (words_call gs w v b xs c.signature c.known) (max-le (value c.signature.sort c.same) args)
    where
      value : (sort : Sort) → τ ≡ result_type sort → words_with_value sort w ≤ most_frame_words
      value number_valued t = room gs g n w r (call v b xs) a (rw t at e)
      value tree_valued t = h

  few_args : (gs : List Signature) (g n w r : ℕ) (τ : Ty) (a b i : ℕ) (xs : Args) → ArgsComplete (arity_of gs) xs → w + i ≤ most_frame_words
      → PassesArgs gs (Call a b) i (scope g n w τ) r xs
      → words_of_args gs (w + i) xs ≤ most_frame_words
  few_args gs g n w r τ a b i no_args p h e = h
  few_args gs g n w r τ a b i (arg x xs) p h e =
      let c = pass_arg gs g n w r τ a b i x xs e in
      let more : w + suc i ≤ most_frame_words = rw add-suc (room gs g n (w + i) r x p.0 c.0) in
      max-le (few_words gs g n (w + i) r Int x p.0 h c.0) (rw add-suc at (few_args gs g n w (r + size x) τ a b (suc i) xs p.1 more c.1))
