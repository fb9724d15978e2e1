-- Where pass one refuses with 10, more than 16 words stand at some point of the function with that
-- record. At the record the words are tested and 16 stand already, so one more makes 17; and an
-- expression's words are at least those of each of its parts.
use Prim.Native.Nat.{ℕ, zero, suc, ◌+◌, ◌≤◌, ◌<◌}
use mathlib.Core.Bool.{Bool, true, false, false≢true}
use mathlib.Core.List.{List, [], ◌∷◌}
use mathlib.Core.Logic.{inl, inr}
use mathlib.Core.Option.{Option, none, some}
use mathlib.Core.Path.{◌≡◌, refl, sym, ap, ◌∙◌}
use native.Mathlib.Nat.{add-zero, add-suc}
use native.Mathlib.Omega.{arith}
use borrow.Author.Tests.{ltb-false}
use lib.Dec.{ltb}
use lib.ListN.{length}
use Rattle.formats.specs.Refusals.{too_many_words}
use Rattle.formats.specs.Results.{done, refusal}
use Rattle.formats.specs.Records.{Kind, Call, nth}
use Rattle.formats.specs.Programs.{Expr, const, var, compute, if_zero, let_in, leaf_of, node_of, case_of, call, Args, no_args, arg, prefix, size, Sort, number_valued, tree_valued, Signature, signature_of, Program, signatures}
use Rattle.formats.specs.Inner.Expressions.{add}
use Rattle.rules.specs.Types.{Ty, Int, Tree⁺, result_type, is_int}
use Rattle.rules.specs.Scopes.{Scope, scope, start_of, inside, Entry, entry, entered, entered_args, entered_all}
use Rattle.rules.specs.PassOne.{name_bound, type_fits, bare_number, words_tested, has_room, at_entry, pass_over, pass_one, words_with_value, words_of, words_of_args}
use Rattle.rules.specs.Limits.{most_frame_words}
use Rattle.rules.specs.PassOne.{Fails, too-many-words, all_three, FirstFails, here, later}
use Rattle.rules.specs.OrderChecker.{first_node, Overfull}
use Rattle.rules.proofs.PassOne.{pass-one}
use Rattle.rules.proofs.Words.{words_call, words_least}
use Rattle.rules.proofs.Untyped.{fails_split, in_function}

-- ---- a record

-- the words are tested there, and 16 stand already
record Full (gs : List Signature) (w : ℕ) (kind : Kind) : Type 0 where
  tested : words_tested gs kind ≡ true
  full : most_frame_words ≤ w

module _ (gs : List Signature) where
  full_there : {g n w q r : ℕ} {τ : Ty} {kind : Kind} → Fails gs (entry (scope g n w τ) q kind) too_many_words r → Full gs w kind
  unfolding has_room
  full_there {w = w} {kind = kind} (too-many-words e f h) = by (words_tested gs kind) refl h
    where
      by : (b : Bool) → words_tested gs kind ≡ b → elim b [ true ↦ ltb w most_frame_words | false ↦ true ] ≡ false → Full gs w kind
      by true t h = record { tested = t; full = ltb-false w most_frame_words h }
      by false t h = absurd (false≢true (sym h))

  -- at the first of these records, or at one after it, where the type of the first is right
  data Where (sc : Scope) (q : ℕ) (kind : Kind) (xs : List Entry) (r : ℕ) : Type 0 where
    at_first : Fails gs (entry sc q kind) too_many_words r → Where sc q kind xs r
    after_it : type_fits gs sc kind ≡ true → FirstFails gs xs too_many_words r → Where sc q kind xs r

  which : {sc : Scope} {q : ℕ} {kind : Kind} {xs : List Entry} {r : ℕ} → FirstFails gs (entry sc q kind ∷ xs) too_many_words r → Where sc q kind xs r
  which (here f) = at_first f
  which (later (all_three e t h) f) = after_it t f

  nowhere : {r : ℕ} (xs : List Entry) → xs ≡ [] → FirstFails gs xs too_many_words r → ⊥
  nowhere [] e f = elim f [ ]
  nowhere (x ∷ xs) e f = let z : suc (length xs) ≡ 0 = ap length e in omega arith

  -- at a record where the words are tested one more is too many; other records do not fail so
  one_more : {g n w q r : ℕ} {τ : Ty} {kind : Kind} → Fails gs (entry (scope g n w τ) q kind) too_many_words r → most_frame_words < suc w
  one_more f = let full = (full_there f).full in omega arith

  not_tested : {C : Type 0} {g n w q r : ℕ} {τ : Ty} {kind : Kind} → words_tested gs kind ≡ false → Fails gs (entry (scope g n w τ) q kind) too_many_words r → C
  not_tested e f = absurd (false≢true (sym e ∙ (full_there f).tested))

  -- ---- a Call

  -- a function of no arguments whose value is a number leaves a word more
  bare_value : (s : Signature) (w : ℕ) → bare_number s ≡ true → words_with_value s.sort w ≡ suc w
  unfolding bare_number words_with_value
  bare_value s w e = by s.sort e
    where
      by : (sort : Sort)
          → elim sort [ tree_valued ↦ false | number_valued ↦ elim s.parameters [ zero ↦ true | suc k ↦ false ] ] ≡ true
          → words_with_value sort w ≡ suc w
      by number_valued e = refl
      by tree_valued e = absurd (false≢true e)

  -- the function is known, since the type is right or the words are tested
  call_overfull :
      {g n w q r : ℕ} {τ : Ty} (a b : ℕ) (xs : Args) {ys : List Entry}
      → (FirstFails gs ys too_many_words r → most_frame_words < words_of_args gs w xs)
      → Where (scope g n w τ) q (Call a b) ys r
      → most_frame_words < words_of gs w (call a b xs)
  unfolding type_fits words_tested
  call_overfull {g} {n} {w} {q} {r} {τ} a b xs {ys} arguments there = by (nth gs b) refl there
    where
      by : (o : Option Signature) → nth gs b ≡ o → Where (scope g n w τ) q (Call a b) ys r → most_frame_words < words_of gs w (call a b xs)
      by none e (at_first f) = absurd (false≢true (rw (e, words_tested) at (full_there f).tested))
      by none e (after_it t f) = absurd (false≢true (rw (e, type_fits) at t))
      by (some s) e (at_first f) =
          let value = bare_value s w (rw (e, words_tested) at (full_there f).tested) in
          let full = (full_there f).full in
          rw (words_call gs w a b xs s e) (omega arith)
      by (some s) e (after_it t f) = let rest = arguments f in rw (words_call gs w a b xs s e) (omega arith)

  -- ---- expressions

  mutual
    unfolding entered entered_args inside words_tested words_of

    overfull : (g n w q : ℕ) (τ : Ty) (e : Expr) {r : ℕ} → FirstFails gs (entered (scope g n w τ) q e) too_many_words r → most_frame_words < words_of gs w e
    overfull g n w q τ (const i) f = elim (which f) [ at_first h ↦ one_more h | after_it t h ↦ absurd (nowhere [] refl h) ]
    overfull g n w q τ (var a) f = elim (which f) [ at_first h ↦ one_more h | after_it t h ↦ absurd (nowhere [] refl h) ]
    overfull g n w q τ (compute op p o) f = elim (which f) [
      | at_first h ↦ not_tested refl h
      | after_it t h ↦ elim (fails_split gs (entered (scope g n w Int) (suc q) p) _ h) [
        | inl k ↦ omega (arith, overfull g n w (suc q) Int p k)
        | inr k ↦ omega (arith, overfull g n (suc w) (suc q + size p) Int o k)
      ]
    ]
    overfull g n w q τ (if_zero t z o) f = elim (which f) [
      | at_first h ↦ not_tested refl h
      | after_it u h ↦ elim (fails_split gs (entered (scope g n w Int) (suc q) t) _ h) [
        | inl k ↦ omega (arith, overfull g n w (suc q) Int t k)
        | inr k ↦ elim (fails_split gs (entered (scope g n w τ) (suc q + size t) z) _ k) [
          | inl l ↦ omega (arith, overfull g n w (suc q + size t) τ z l)
          | inr l ↦ omega (arith, overfull g n w (suc q + size t + size z) τ o l)
        ]
      ]
    ]
    overfull g n w q τ (let_in p body) f = elim (which f) [
      | at_first h ↦ not_tested refl h
      | after_it t h ↦ elim (fails_split gs (entered (scope g n w Int) (suc q) p) _ h) [
        | inl k ↦ omega (arith, overfull g n w (suc q) Int p k)
        | inr k ↦ omega (arith, overfull (suc g) n (suc w) (suc q + size p) τ body k)
      ]
    ]
    overfull g n w q τ (leaf_of p) f = elim (which f) [ at_first h ↦ not_tested refl h | after_it t h ↦ overfull g n w (suc q) Int p h ]
    overfull g n w q τ (node_of p o) f = elim (which f) [
      | at_first h ↦ not_tested refl h
      | after_it t h ↦ elim (fails_split gs (entered (scope g n w Tree⁺) (suc q) p) _ h) [
        | inl k ↦ omega (arith, overfull g n w (suc q) Tree⁺ p k)
        | inr k ↦ omega (arith, overfull g n w (suc q + size p) Tree⁺ o k)
      ]
    ]
    overfull g n w q τ (case_of a p o) f = elim (which f) [
      | at_first h ↦ omega (arith, one_more h, words_least gs (suc w) p)
      | after_it t h ↦ elim (fails_split gs (entered (scope (suc g) n (suc w) τ) (suc q) p) _ h) [
        | inl k ↦ omega (arith, overfull (suc g) n (suc w) (suc q) τ p k)
        | inr k ↦ omega (arith, overfull g (suc (suc n)) w (suc q + size p) τ o k)
      ]
    ]
    overfull g n w q τ (call a b xs) f = call_overfull a b xs (λ h. rw add-zero at (overfull_args g n w (suc q) τ a b 0 xs h)) (which f)

    overfull_args :
        (g n w q : ℕ) (τ : Ty) (a b i : ℕ) (xs : Args) {r : ℕ}
        → FirstFails gs (entered_args (Call a b) i (scope g n w τ) q xs) too_many_words r
        → most_frame_words < words_of_args gs (w + i) xs
    overfull_args g n w q τ a b i no_args f = absurd (nowhere [] refl f)
    overfull_args g n w q τ a b i (arg x xs) f = elim (fails_split gs (entered (scope g n (w + i) Int) q x) _ f) [
      | inl h ↦ omega (arith, overfull g n (w + i) q Int x h)
      | inr h ↦ let rest : most_frame_words < words_of_args gs (suc (w + i)) xs = rw add-suc at (overfull_args g n w (q + size x) τ a b (suc i) xs h) in omega arith
    ]

-- ---- programs

pub pass_one_overfull_there :
    (program : Program) (r : ℕ)
    → pass_one program ≡ refusal too_many_words r
    → Overfull (signatures program) r (first_node program) program.functions
unfolding start_of
pass_one_overfull_there program r e =
    let gs = signatures program in
    in_function gs _ _ program.functions (λ f j first. overfull gs _ _ f.parameters j _ f.body first) ((pass-one program too_many_words r).0 e)

-- ---- a closed case

-- So many sums, each the second part of the one before it: each first part is a word that waits.
sums : ℕ → Expr
sums zero = const 1
sums (suc k) = add (const 1) (sums k)

-- A program with one function.
alone : Expr → Program
alone body = record { edition = 1; functions = record { sort = number_valued; parameters = 0; body = body } ∷ [] }

-- 15 sums pass, with 16 words; of 16 the last number is refused, at record 34, and that function
-- needs 17 words.
sums_verdicts : (pass_one (alone (sums 15)) ≡ done tt) × (pass_one (alone (sums 16)) ≡ refusal 10 34)
unfolding pass_one pass_over at_entry has_room words_tested type_fits name_bound entered_all entered inside start_of result_type is_int size prefix signature_of alone sums
sums_verdicts = (refl, refl)

sums_overfull : Overfull (signatures (alone (sums 16))) 34 (first_node (alone (sums 16))) (alone (sums 16)).functions
unfolding alone
sums_overfull = pass_one_overfull_there (alone (sums 16)) 34 sums_verdicts.1

sums_words : (words_of [] 0 (sums 15) ≡ 16) × (words_of [] 0 (sums 16) ≡ 17)
unfolding words_of sums
sums_words = (refl, refl)
