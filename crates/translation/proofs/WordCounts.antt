-- For a program with no 9 and no 8, pass one says 10 exactly where some word count in its code
-- exceeds 16.
--
-- Both say that some function's body takes more than 16 words (`words_of`). Pass one: where a body
-- takes no more, each of its tests of words holds (`passes`); and a body that passes takes no more
-- (`few_words`, in the crate rules). The code: a body that takes more reaches such a count
-- (`most_reached`), and where every body takes no more, no count on any way from any entry exceeds
-- 16 (`all_safe`).
use Prim.Native.Nat.{ℕ, zero, suc, ◌+◌, ◌≤◌, ◌<◌, max}
use mathlib.Core.Bool.{Bool, true, false, false≢true}
use mathlib.Core.List.{List, [], ◌∷◌}
use mathlib.Core.Logic.{◌↔◌, ◌⊎◌, inl, inr}
use mathlib.Core.Option.{some, some-injective, none-ne-some}
use mathlib.Core.Path.{◌≡◌, refl, sym, ◌∙◌}
use native.Mathlib.Decide.{dec_le}
use native.Mathlib.Nat.{add-zero, add-suc, lt_of_lt_of_le}
use native.Mathlib.Omega.{arith}
use lib.Dec.{ltb}
use borrow.Author.Tests.{lt-ltb}
use Rattle.formats.specs.Refusals.{too_many_words}
use Rattle.formats.specs.Results.{Result, done, refusal}
use Rattle.formats.specs.Records.{Kind, Const, Var, Compute, IfZero, Let, Leaf, Node, Case, Call, nth}
use Rattle.formats.specs.Programs.{Expr, const, var, compute, if_zero, let_in, leaf_of, node_of, case_of, call, Args, no_args, arg, size}
use Rattle.formats.specs.Programs.{Sort, number_valued, tree_valued, Signature, Function, signature_of, Program, signatures}
use Rattle.formats.specs.Programs.{Every, LawfulFunctions, Lawful}
use Rattle.formats.proofs.Records.{nth_mapped}
use Rattle.formats.proofs.Programs.{every_left, every_right}
use Rattle.formats.proofs.Results.{done_not}
use Rattle.rules.specs.Types.{Ty, Int, Tree⁺}
use Rattle.rules.specs.Scopes.{scope, inside, start_of, Entry, entry, entered, entered_args, entered_all}
use Rattle.rules.specs.PassOne.{bare_number, words_tested, has_room, pass_over, pass_one, words_with_value, words_of, words_of_args}
use Rattle.rules.specs.Limits.{most_frame_words}
use Rattle.rules.specs.PassOne.{FirstFails, here, later, name_not_bound, wrong-type, too-many-words}
use Rattle.rules.specs.OrderChecker.{first_node}
use Rattle.rules.proofs.PassOne.{Passes, PassesArgs, pass-one, pass_nothing, pass_more, pass_left, pass_right, pass_both}
use Rattle.rules.proofs.Words.{few_words}
use Rattle.translation.specs.Templates.{entry_of}
use Rattle.translation.specs.CodeLimits.{WordsStand, at_entry, onward, Exceeds, Sound, RefusedFor10}
use Rattle.translation.proofs.Operands.{few_parameters}
use Rattle.translation.proofs.Coded.{SoundIn, SoundArgs, called, coded_function}
use Rattle.translation.proofs.WordWays.{call_words, most_reached, Safe, safe_few, safe_next, safe_at, all_safe}

-- ---- few words pass

module _ (program : Program) where
  -- Its functions' signatures.
  abbrev gs : List Signature
  gs = signatures program

  -- a record's condition on words holds if, where they are tested, one more is within the limit
  room : (g n w : ℕ) (τ : Ty) (kind : Kind) → (words_tested gs kind ≡ true → w < most_frame_words) → has_room gs (scope g n w τ) kind ≡ true
  unfolding has_room
  room g n w τ kind h = by_test (words_tested gs kind) h
    where
      by_test : (t : Bool) → (t ≡ true → w < most_frame_words) → elim t [ true ↦ ltb w most_frame_words | false ↦ true ] ≡ true
      by_test true h = lt-ltb w most_frame_words (h refl)
      by_test false h = refl

  -- a record whose name is bound and whose type is right passes if its condition on words holds
  sound_more : (g n w r : ℕ) (τ : Ty) (kind : Kind) (xs : List Entry)
      → Sound gs (entry (scope g n w τ) r kind)
      → (words_tested gs kind ≡ true → w < most_frame_words)
      → pass_over gs xs ≡ done tt
      → pass_over gs (entry (scope g n w τ) r kind ∷ xs) ≡ done tt
  sound_more g n w r τ kind xs h few = pass_more gs (scope g n w τ) r kind xs h.0 h.1 (room g n w τ kind few)

  -- where words are not tested
  none_tested : (w : ℕ) → false ≡ true → w < most_frame_words
  none_tested w t = absurd (false≢true t)

  -- words are tested at a Call of a number-valued function with no arguments: its value needs one
  -- more
  call_tested : (w v b : ℕ) (f : Function) → nth program.functions b ≡ some f → words_with_value f.sort w ≤ most_frame_words
      → words_tested gs (Call v b) ≡ true
      → w < most_frame_words
  unfolding words_tested bare_number signature_of words_with_value
  call_tested w v b f known few t = by_sort f.sort refl (rw (nth_mapped signature_of program.functions b f known, words_tested) at t)
    where
      by_sort : (s : Sort) → f.sort ≡ s → bare_number (signature_of f) ≡ true → w < most_frame_words
      by_sort number_valued e bare = rw e at few
      by_sort tree_valued e bare = absurd (false≢true (rw (e, bare_number) at bare))

  -- expression by expression: no more than the most words stand on entering, and all records pass
  mutual
    unfolding entered inside words_tested words_of words_with_value entered_args

    passes : (g n w r : ℕ) (τ : Ty) (e : Expr) → SoundIn program (scope g n w τ) r e → words_of gs w e ≤ most_frame_words
        → (w ≤ most_frame_words) × Passes gs (scope g n w τ) r e
    passes g n w r τ (const i) h few = (omega arith, sound_more g n w r τ (Const i) [] h.0 (λ t. few) (pass_nothing gs))
    passes g n w r τ (var v) h few = (omega arith, sound_more g n w r τ (Var v) [] h.0 (λ t. few) (pass_nothing gs))
    passes g n w r τ (compute op p q) h few =
        let left = entered (scope g n w Int) (suc r) p in
        let first = passes g n w _ Int p (every_left _ left _ h.1) (omega arith) in
        let second = passes g n (suc w) _ Int q (every_right _ left _ h.1) (omega arith) in
        (first.0, sound_more g n w r τ (Compute op) _ h.0 (none_tested w) (pass_both gs _ _ first.1 second.1))
    passes g n w r τ (if_zero t z o) h few =
        let test = entered (scope g n w Int) (suc r) t in
        let zero_part = entered (scope g n w τ) (suc r + size t) z in
        let others = every_right _ test _ h.1 in
        let first = passes g n w _ Int t (every_left _ test _ h.1) (omega arith) in
        let second = passes g n w _ τ z (every_left _ zero_part _ others) (omega arith) in
        let third = passes g n w _ τ o (every_right _ zero_part _ others) (omega arith) in
        let parts = pass_both gs _ _ first.1 (pass_both gs _ _ second.1 third.1) in
        (first.0, sound_more g n w r τ IfZero _ h.0 (none_tested w) parts)
    passes g n w r τ (let_in p body) h few =
        let left = entered (scope g n w Int) (suc r) p in
        let first = passes g n w _ Int p (every_left _ left _ h.1) (omega arith) in
        let second = passes (suc g) n (suc w) _ τ body (every_right _ left _ h.1) (omega arith) in
        (first.0, sound_more g n w r τ Let _ h.0 (none_tested w) (pass_both gs _ _ first.1 second.1))
    passes g n w r τ (leaf_of p) h few =
        let part = passes g n w _ Int p h.1 few in
        (part.0, sound_more g n w r τ Leaf _ h.0 (none_tested w) part.1)
    passes g n w r τ (node_of p q) h few =
        let left = entered (scope g n w Tree⁺) (suc r) p in
        let first = passes g n w _ Tree⁺ p (every_left _ left _ h.1) (omega arith) in
        let second = passes g n w _ Tree⁺ q (every_right _ left _ h.1) (omega arith) in
        (first.0, sound_more g n w r τ Node _ h.0 (none_tested w) (pass_both gs _ _ first.1 second.1))
    passes g n w r τ (case_of v p q) h few =
        let leaf_part = entered (scope (suc g) n (suc w) τ) (suc r) p in
        let first = passes (suc g) n (suc w) _ τ p (every_left _ leaf_part _ h.1) (omega arith) in
        let second = passes g (suc (suc n)) w _ τ q (every_right _ leaf_part _ h.1) (omega arith) in
        (second.0, sound_more g n w r τ (Case v) _ h.0 (λ t. first.0) (pass_both gs _ _ first.1 second.1))
    passes g n w r τ (call v b xs) h few =
        let f = called program g n w v b τ h.0.1 in
        let both : max (words_with_value f.function.sort w) (words_of_args gs w xs) ≤ most_frame_words =
        rw (call_words program w v b xs f.function f.known) at few in
        let args = passes_args g n w (suc r) τ v b 0 xs h.1 (rw add-zero (omega arith)) in
        (rw add-zero at args.0, sound_more g n w r τ (Call v b) _ h.0 (call_tested w v b f.function f.known (omega arith)) args.1)

    -- a Call's arguments from part i on, where τ is expected of the Call
    passes_args : (g n w r : ℕ) (τ : Ty) (v b i : ℕ) (xs : Args) → SoundArgs program (Call v b) i (scope g n w τ) r xs
        → words_of_args gs (w + i) xs ≤ most_frame_words
        → (w + i ≤ most_frame_words) × PassesArgs gs (Call v b) i (scope g n w τ) r xs
    passes_args g n w r τ v b i no_args h few = (few, pass_nothing gs)
    passes_args g n w r τ v b i (arg x xs) h few =
        let left = entered (scope g n (w + i) Int) r x in
        let first = passes g n (w + i) r Int x (every_left _ left _ h) (omega arith) in
        let others = passes_args g n w _ τ v b (suc i) xs (every_right _ left _ h) (rw add-suc (omega arith)) in
        (first.0, pass_both gs _ _ first.1 others.1)

  -- ---- function by function

  -- The most words of a function's body.
  abbrev words_in : Function → ℕ
  words_in f = words_of gs f.parameters f.body

  -- One of the functions takes more.
  record Over (fs : List Function) : Type 0 where
    index : ℕ
    function : Function
    known : nth fs index ≡ some function
    over : most_frame_words < words_in function

  -- sound functions pass, or one takes more
  pass_or_over : (r : ℕ) (fs : List Function) → Every (Sound gs) (entered_all r fs) → (pass_over gs (entered_all r fs) ≡ done tt) ⊎ Over fs
  unfolding entered_all start_of nth
  pass_or_over r [] h = inl (pass_nothing gs)
  pass_or_over r (f ∷ fs) h =
      let own = entered (start_of f) r f.body in
      elim (dec_le (words_in f) most_frame_words) [
        | yes few ↦ elim (pass_or_over (r + size f.body) fs (every_right _ own _ h)) [
          | inl rest ↦ inl (pass_both gs _ _ (passes _ _ _ r _ f.body (every_left _ own _ h) few).1 rest)
          | inr o ↦ inr (record { index = suc o.index; function = o.function; known = o.known; over = o.over })
        ]
        | no many ↦ inr (record { index = 0; function = f; known = refl; over = omega arith })
      ]

  -- where all pass, none takes more; parameters alone do not
  few_in : (j r : ℕ) (fs : List Function) → LawfulFunctions gs j fs → pass_over gs (entered_all r fs) ≡ done tt
      → (b : ℕ) (f : Function) → nth fs b ≡ some f → words_in f ≤ most_frame_words
  unfolding entered_all start_of nth
  few_in j r [] lawful e b f known = absurd (none-ne-some f known)
  few_in j r (g ∷ fs) lawful e zero f known =
      let own = pass_left gs (entered (start_of g) r g.body) _ e in
      rw (← some-injective g f known)
      (few_words gs _ _ _ r _ g.body lawful.0.applied (omega (arith, few_parameters j _ lawful.0.few_parameters)) own)
  few_in j r (g ∷ fs) lawful e (suc b) f known =
      few_in (suc j) _ fs lawful.1 (pass_right gs (entered (start_of g) r g.body) _ e) b f known

  -- where no name is unbound and no type wrong, only words are refused
  only_words : {xs : List Entry} {number r : ℕ} → Every (Sound gs) xs → FirstFails gs xs number r → number ≡ too_many_words
  only_words h (here (name_not_bound e)) = absurd (false≢true (sym e ∙ h.0.0))
  only_words h (here (wrong-type e f)) = absurd (false≢true (sym f ∙ h.0.1))
  only_words h (here (too-many-words e f k)) = refl
  only_words h (later holds f) = only_words h.1 f

-- ---- both ways

module _ (program : Program) (sound : Every (Sound (signatures program)) (entered_all (first_node program) program.functions)) where
  -- a function that takes more than 16 words has code that reaches such a count
  over_exceeds : Over program program.functions → Exceeds program
  over_exceeds o =
      let coded = coded_function program sound o.index o.function o.known in
      let reached = most_reached program coded.body _ (at_entry o.index o.known) in
      record { address = reached.address; count = reached.count; stands = reached.stands; above = lt_of_lt_of_le o.over reached.enough }

  -- where none does, no count exceeds 16: none on the ways from an entry, and so none at all
  module _ (few : (b : ℕ) (f : Function) → nth program.functions b ≡ some f → words_in program f ≤ most_frame_words) where
    entry_safe : (b : ℕ) (f : Function) → nth program.functions b ≡ some f → Safe program (entry_of program b) f.parameters
    entry_safe b f known =
        let coded = coded_function program sound b f known in
        all_safe program coded.body f.parameters (few b f known) (λ value. safe_at program coded.return value tt)

    stands_safe : {a w : ℕ} → WordsStand program a w → Safe program a w
    stands_safe (at_entry b known) = entry_safe b _ known
    stands_safe (onward before h lead) = safe_next program (stands_safe before) h lead

pub word_counts :
    (program : Program)
    → Lawful program
    → Every (Sound (signatures program)) (entered_all (first_node program) program.functions)
    → RefusedFor10 program ↔ Exceeds program
unfolding pass_one
word_counts program lawful sound = (exceeds, refused (pass_one program) refl)
  where
    exceeds : RefusedFor10 program → Exceeds program
    exceeds r = elim (pass_or_over program (first_node program) program.functions sound) [
      | inl passed ↦ done_not passed r.refused
      | inr over ↦ over_exceeds program sound over
    ]

    refused : (result : Result (Unit {0})) → pass_one program ≡ result → Exceeds program → RefusedFor10 program
    refused (done tt) e x =
        let few = few_in program 0 (first_node program) program.functions lawful.functions e in
        absurd (omega (arith, safe_few program (stands_safe program sound few x.stands), x.above))
    refused (refusal number position) e x =
        let is = only_words program sound ((pass-one program number position).0 e) in
        record { position = position; refused = rw is at e }
