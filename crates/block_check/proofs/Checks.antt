-- The laws of the iterators that check one block: what a sum over pairs of bytes is, and a test of
-- every byte.
use Rattle.std.proofs.Common.{◌≡◌, ℕ, ◌+◌, ◌-◌, ◌%◌, ◌<◌, Bool, ◌&&◌, eqb, List, [], ◌∷◌, ◌++◌, ◌≤◌, ◌/◌, length, take, drop, refl, sym, ap, ◌∙◌, fold, zero-add, arith}
use Prim.Native.Nat.{min}
use Rattle.std.proofs.lemmas.List.{drop_min, take_min, drop-take, length-take}
use Rattle.std.specs.List.{list_all}
use Rattle.std.specs.Slice.Iter.{chunks_exact_rest, chunks_exact_size, chunks_exact_steps, windows_rest, windows_size, windows_steps}
use Rattle.std.specs.Iterator.Adapters.{take_source, take_count, take_steps}
use Rattle.std.specs.declared.slice.Windows.{Windows}
use Rattle.std.specs.declared.iter.Take.{Take}
use lib.Seq.{take_all}
use Rattle.std.specs.declared.slice.ChunksExact.{ChunksExact}
use Rattle.std.specs.Prelude.{Option}
use Rattle.std.specs.Borrow.{Bor}
use Rattle.std.specs.Fn.{Called}
use Rattle.std.specs.Iterator.{FoldsItems}
use Rattle.std.specs.Iterator.Runs.{Run}
use Rattle.std.proofs.lemmas.Iterator.{YieldsList, YieldsList-from_take}
use Rattle.std.proofs.lemmas.Iterator.Consumers.{fold_from_yields_List}
use denote.Param.Members.{Mut}
use Rattle.std.proofs.lemmas.Iterator.Splits.{YieldsList-from_shown_while}
use Rattle.formats.specs.Numbers.{number_of, number_at}
use Rattle.formats.specs.Blocks.{word_sum, word_limit, zeros}
use Rattle.formats.proofs.Numbers.{number_at_whole}

-- ---- the sum of 16-bit words

-- the bytes two by two, as an iterator over chunks of two gives them
pub pairs : List ℕ → List (List ℕ)
pairs [] = []
pairs (low ∷ []) = []
pairs (low ∷ (high ∷ s)) = (low ∷ high ∷ []) ∷ pairs s

no_pair : (s : List ℕ) → length s < 2 → length (pairs s) ≡ 0
unfolding pairs
no_pair [] h = refl
no_pair (low ∷ []) h = refl
no_pair (low ∷ (high ∷ s)) h = absurd (omega arith)

first_pair : (s word rest : List ℕ) → s ≡ word ++ rest → length word ≡ 2 → pairs s ≡ word ∷ pairs rest
unfolding pairs
first_pair s (low ∷ high ∷ []) rest is two = ap pairs is
first_pair s [] rest is two = absurd (omega arith)
first_pair s (low ∷ []) rest is two = absurd (omega arith)
first_pair s (low ∷ high ∷ more ∷ word) rest is two = absurd (omega arith)

pub pairs_in_order : {s : ChunksExact ℕ} (bytes : List ℕ) → chunks_exact_rest s ≡ bytes → chunks_exact_size s ≡ 2 → YieldsList chunks_exact_steps (λ word. word.now) s (pairs bytes)
pairs_in_order {s} bytes is two =
    rw (← is)
    (YieldsList-from_shown_while chunks_exact_steps (λ word. word.now) (λ t. pairs (chunks_exact_rest t)) (λ t. chunks_exact_size t ≡ 2)
    (λ t u size none. no_pair (chunks_exact_rest t) (omega (arith, none.1.0, size)))
    (λ t word u size some. (some.0 ∙ size, first_pair (chunks_exact_rest t) word.now (chunks_exact_rest u) some.1.0 (some.1.1 ∙ size)))
    s two)

-- two bytes from each byte on, as an iterator over windows of two gives them: no pairs
pub overlapping : List ℕ → List (List ℕ)
overlapping [] = []
overlapping (a ∷ []) = []
overlapping (a ∷ (b ∷ s)) = (a ∷ b ∷ []) ∷ overlapping (b ∷ s)

no_window : (s : List ℕ) → length s < 2 → length (overlapping s) ≡ 0
unfolding overlapping
no_window [] h = refl
no_window (a ∷ []) h = refl
no_window (a ∷ (b ∷ s)) h = absurd (omega arith)

first_window : (s word rest : List ℕ) → 2 ≤ length s → word ≡ take 2 s → rest ≡ drop 1 s → overlapping s ≡ word ∷ overlapping rest
unfolding overlapping
first_window [] word rest h is more = absurd (omega arith)
first_window (a ∷ []) word rest h is more = absurd (omega arith)
first_window (a ∷ (b ∷ s)) word rest h is more = rw (is, more) refl

pub windows_in_order : {s : Windows ℕ} (bytes : List ℕ) → windows_rest s ≡ bytes → windows_size s ≡ 2 → YieldsList windows_steps (λ word. word.now) s (overlapping bytes)
windows_in_order {s} bytes is two =
    rw (← is)
    (YieldsList-from_shown_while windows_steps (λ word. word.now) (λ t. overlapping (windows_rest t)) (λ t. windows_size t ≡ 2)
    (λ t u size none. no_window (windows_rest t) (omega (arith, none.1.0, size)))
    (λ t word u size some. (some.0 ∙ size, first_window (windows_rest t) word.now (windows_rest u) (omega arith) (cc) (cc)))
    s two)

-- so many of an iterator's items are the pairs, as all of its own are that many
pub taken_in_order : {S : Type 0} {steps : S → Option (Bor (List ℕ)) → S → Type 0} {s : Take S} (bytes : List ℕ) (t : S) (n : ℕ) (items : List (List ℕ))
    → take_source s ≡ t → take_count s ≡ n → YieldsList steps (λ word. word.now) t items → take n items ≡ pairs bytes → YieldsList (take_steps steps) (λ word. word.now) s (pairs bytes)
taken_in_order {steps = steps} {s = s} bytes t n items from count chain same =
    let there : YieldsList steps (λ word. word.now) (take_source s) items = rw from chain in
    rw (← same) (YieldsList-from_take {steps = steps} n there count)

pairs_long : (s : List ℕ) → length (pairs s) ≡ length s / 2
unfolding pairs
pairs_long [] = refl
pairs_long (low ∷ []) = refl
pairs_long (low ∷ (high ∷ s)) = omega (arith, pairs_long s)

pub all_pairs : (bytes : List ℕ) (n : ℕ) → n ≡ length bytes / 2 → take n (pairs bytes) ≡ pairs bytes
all_pairs bytes n is = take_all n (pairs bytes) (omega (arith, pairs_long bytes))

pub ruleset words_in_order = (pairs_in_order, windows_in_order, taken_in_order, all_pairs)

-- a word more in the sum
abbrev pub added : ℕ → List ℕ → ℕ
added sum word = (sum + number_at 2 word 0) % word_limit

sum_from : (s : List ℕ) (sum : ℕ) → sum < word_limit → fold added sum (pairs s) ≡ (sum + word_sum s) % word_limit
unfolding pairs word_sum
sum_from [] sum small = omega arith
sum_from (low ∷ []) sum small = omega arith
sum_from (low ∷ (high ∷ s)) sum small =
    let word : number_at 2 (low ∷ high ∷ []) 0 ≡ number_of (low ∷ high ∷ []) = number_at_whole 2 (low ∷ high ∷ []) 0 (omega arith) in
    omega (arith, word, sum_from s (added sum (low ∷ high ∷ [])) (omega arith))

-- an iterator over the pairs that adds each of them to nothing comes to the sum of the words (its
-- run p shows which iterator it is)
pub pairs_summed : {S F : Type 0} {steps : S → Option (Bor (List ℕ)) → S → Type 0} {s : S} {f : F} (g : Mut F (ℕ × (Bor (List ℕ) × Unit {0})) ℕ) (bytes : List ℕ) (nothing r : ℕ)
    (p : Run steps) → p.from ≡ s → FoldsItems steps g s f nothing r → nothing ≡ 0 → YieldsList steps (λ word. word.now) s (pairs bytes)
    → ((sum : ℕ) (word : Bor (List ℕ)) (next : ℕ) (q : F) → Called g f (sum, (word, tt)) next q → (q ≡ f) × (next ≡ added sum word.now))
    → r ≡ word_sum bytes % word_limit
pairs_summed g bytes nothing r p starts ran none chain adds =
    fold_from_yields_List g added nothing r ran chain adds ∙ ap (λ n. fold added n (pairs bytes)) none ∙ sum_from bytes 0 (omega arith) ∙ ap (λ (n : ℕ). n % word_limit) (zero-add (word_sum bytes))

-- ---- zeros

pub zeros_is : (s : List ℕ) → list_all (λ byte. eqb byte 0) s ≡ zeros s
unfolding zeros
zeros_is [] = refl
zeros_is (b ∷ s) = ap (λ (rest : Bool). eqb b 0 && rest) (zeros_is s)

-- both offsets may be past the end: what is between them is the part that is cut out
pub part_is : (s part : List ℕ) (from to start end : ℕ) → end ≡ min to (length s) → start ≡ min from end → part ≡ take (end - start) (drop start s) → part ≡ drop from (take to s)
part_is s part from to start end ends starts is =
    let whole : start + (end - start) ≡ end = omega (arith, starts) in
    let size : length (take to s) ≡ end = length-take to s ∙ sym ends in
    is
    ∙ sym (drop-take start (end - start) s)
    ∙ ap (λ (n : ℕ). drop start (take n s)) (whole ∙ ends)
    ∙ ap (drop start) (take_min to s)
    ∙ ap (λ (n : ℕ). drop n (take to s)) (starts ∙ ap (min from) (sym size))
    ∙ drop_min from (take to s)
