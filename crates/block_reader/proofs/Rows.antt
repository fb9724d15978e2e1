-- A law for each way out of the functions of the rows "blocks" and "each block", in the form of
-- their tests, and for each step of the loop.
use Prim.Native.Nat.{ℕ, zero, suc, ◌+◌, ◌*◌, ◌/◌, ◌≤◌, ◌<◌}
use mathlib.Core.List.{List, []}
use mathlib.Core.Logic.{◌≢◌}
use mathlib.Core.Path.{◌≡◌, refl, sym, ap, ◌∙◌}
use native.Mathlib.Nat.{sub-zero, mul-zero}
use native.Mathlib.Omega.{arith}
use lib.Seq.{drop-drop}
use Rattle.std.specs.Prelude.{slice_index_or}
use Rattle.std.specs.Simd.{first_chunks}
use lib.ListN.{length, take, drop}
use borrow.Author.Tests.{eq-eqb, ne_eqb, le-leb, lt-leb}
use Rattle.formats.specs.Refusals.{file_length}
use Rattle.formats.specs.Results.{Result, done, refusal, on_value, verdict, each}
use Rattle.formats.specs.Blocks.{block_bytes, most_blocks, length_row, used_of, block_at, block_row, concatenated, flat_in}
use Rattle.formats.proofs.Results.{then_done, Passing, pass_more, pass_refused, pass_all}
use Rattle.formats.proofs.Files.{length_done}
use Rattle.std.specs.Prelude.{Result as Answer, Ok, Err}
use Rattle.refusal.specs.declared.Refused.{Refused}
use Rattle.refusal.specs.Inner.Numbers.{number}
use Rattle.refusal.specs.Inner.Verdicts.{verdict_result}
use Rattle.refusal.proofs.Raised.{raised}

-- ---- a block

-- chunk j of a list begins after those before it
chunk_from : (n k j : ℕ) (s : List ℕ) → j < k → slice_index_or (first_chunks n k s) j [] ≡ take n (drop (n * j) s)
chunk_from n zero j s h = absurd (omega arith)
chunk_from n (suc k) zero s h = rw mul-zero refl
chunk_from n (suc k) (suc j) s h =
    let past : n + n * j ≡ n * suc j = grind arith in
    chunk_from n k j (drop n s) (omega arith) ∙ ap (take n) (drop-drop (n * j) n s ∙ ap (λ (m : ℕ). drop m s) past)

-- the blocks of a file, as the library cuts it
pub record Cut (s : List ℕ) (chunks : List (List ℕ)) : Type 0 where
  pub are : chunks ≡ first_chunks block_bytes (length s / block_bytes) s
  pub count : length chunks ≡ length s / block_bytes

-- block j
pub chunk_at : (s : List ℕ) (chunks : List (List ℕ)) (j : ℕ) → Cut s chunks → j < length chunks
    → slice_index_or chunks j [] ≡ take block_bytes (drop (block_bytes * j) s)
chunk_at s chunks j cut h = rw cut.are (chunk_from block_bytes (length s / block_bytes) j s (omega (arith, cut.count, h)))

-- ---- the rows of a file

-- the first j blocks have passed, so that the others decide
abbrev pub RowsLeft : List ℕ → ℕ → ℕ → Type 0
RowsLeft s blocks j = Passing (block_at blocks s) (verdict (block_row blocks s)) blocks j

pub rows_none : (s : List ℕ) (blocks : ℕ) → RowsLeft s blocks 0
unfolding block_row
rows_none s blocks = record { left = ap (λ (n : ℕ). verdict (each (block_at blocks s) n 0)) (sym (sub-zero blocks)) }

module _ (s : List ℕ) (blocks : ℕ) (chunks : List (List ℕ)) (j : ℕ) (whole : length s ≡ block_bytes * blocks) (cut : Cut s chunks) (c : RowsLeft s blocks j) where
  count : length chunks ≡ blocks
  count = omega (arith, whole, cut.count)

  module _ (row : Answer (Unit {0}) Refused) (more : j < length chunks) (reported : verdict_result row ≡ verdict (used_of blocks j (slice_index_or chunks j []))) where
    -- the verdict on a block is the next one of the row
    next : verdict_result row ≡ verdict (block_at blocks s j)
    unfolding block_at
    next = reported ∙ ap (λ (b : List ℕ). verdict (used_of blocks j b)) (chunk_at s chunks j cut more)

    below : j < blocks
    below = omega (arith, more, count)

    pub rows_more : row ≡ Ok tt → RowsLeft s blocks (j + 1)
    rows_more is = pass_more _ _ blocks j below c (sym next ∙ ap verdict_result is)

    pub rows_refused : (r : Refused) → row ≡ Err r → verdict_result (Err r) ≡ verdict (block_row blocks s)
    rows_refused r is = pass_refused _ _ blocks j (number r.why) r.position below c (sym next ∙ ap verdict_result is)

  pub rows_all : length chunks ≤ j → done tt ≡ verdict (block_row blocks s)
  rows_all all = pass_all _ _ blocks j (omega (arith, all, count)) c

pub ruleset rows_reported = (raised, rows_none, rows_more, rows_refused, rows_all)

-- ---- both rows

pub whole_not : (s : List ℕ) → length s ≢ block_bytes * (length s / block_bytes) → refusal file_length 0 ≡ verdict (flat_in s)
unfolding flat_in length_row
whole_not s wrong = simp (flat_in, length_row, ne_eqb _ _ wrong)

pub whole_none : (s : List ℕ) → length s ≡ block_bytes * (length s / block_bytes) → length s / block_bytes < 1 → refusal file_length 0 ≡ verdict (flat_in s)
unfolding flat_in length_row
whole_none s whole none = simp (flat_in, length_row, eq-eqb _ _ whole, lt-leb _ _ none)

pub whole_many : (s : List ℕ) → length s ≡ block_bytes * (length s / block_bytes) → 1 ≤ length s / block_bytes → most_blocks < length s / block_bytes
    → refusal file_length 0 ≡ verdict (flat_in s)
unfolding flat_in length_row
whole_many s whole some many = simp (flat_in, length_row, eq-eqb _ _ whole, le-leb _ _ some, lt-leb _ _ many)

-- for a file of 1 to 17 blocks the row "each block" decides
pub whole_rows : (s : List ℕ) (row : Answer (Unit {0}) Refused) → length s ≡ block_bytes * (length s / block_bytes) → 1 ≤ length s / block_bytes → length s / block_bytes ≤ most_blocks
    → verdict_result row ≡ verdict (block_row (length s / block_bytes) s) → verdict_result row ≡ verdict (flat_in s)
unfolding flat_in
whole_rows s row whole some few reported =
    let n : ℕ = length s / block_bytes in
    let first : length_row s ≡ done n = length_done s n (record { measure = whole; some_block = some; few_blocks = few }) in
    reported ∙ same (block_row n s) ∙ ap verdict (sym (then_done (λ m. on_value concatenated (block_row m s)) first))
  where
    same : (r : Result (List (List ℕ))) → verdict r ≡ verdict (on_value concatenated r)
    same (done parts) = refl
    same (refusal number position) = refl

pub ruleset whole_reported = (whole_not, whole_none, whole_many, whole_rows)
