-- What the definitions of the records used, of a block's fields and of its row say, one test after
-- the other.
use Rattle.std.proofs.Common.{◌≡◌, ℕ, suc, ◌+◌, ◌*◌, ◌%◌, ◌<◌, ◌≤◌, Bool, true, false, not, eqb, leb, ◌≢◌, List, take, drop, arith, le-ltb, lt-ltb, eq-eqb, ne_eqb, le-leb}
use borrow.Author.Tests.{not-true, not-false, lt-leb}
use Rattle.formats.specs.Numbers.{number_at}
use Rattle.formats.specs.Refusals.{block_check, block_field}
use Rattle.formats.specs.Results.{done, refusal, verdict}
use Rattle.formats.specs.Records.{record_bytes}
use Rattle.formats.specs.Blocks.{block_records, records_bytes, number_offset, used_offset, blocks_offset, word_sum, check_target, word_limit, zeros, used_fits, fields_fit, used_of}

-- ---- the records used

pub fits_full : (blocks j used : ℕ) → j + 1 < blocks → eqb used block_records ≡ used_fits blocks j used
unfolding used_fits
fits_full blocks j used more = let h : suc j < blocks = omega arith in simp (used_fits, lt-ltb _ _ h)

pub fits_none : (blocks j used : ℕ) → blocks ≤ j + 1 → used < 1 → false ≡ used_fits blocks j used
unfolding used_fits
fits_none blocks j used last none = let h : blocks ≤ suc j = omega arith in simp (used_fits, le-ltb _ _ h, lt-leb _ _ none)

pub fits_few : (blocks j used : ℕ) → blocks ≤ j + 1 → 1 ≤ used → leb used block_records ≡ used_fits blocks j used
unfolding used_fits
fits_few blocks j used last some = let h : blocks ≤ suc j = omega arith in simp (used_fits, le-ltb _ _ h, le-leb _ _ some)

pub ruleset used_reported = (fits_full, fits_none, fits_few)

-- ---- the fields and the unused records

module _ (blocks j : ℕ) (block : List ℕ) where
  pub field_number : (n : ℕ) → n ≡ number_at 2 block number_offset → n ≢ j → false ≡ fields_fit blocks j block
  unfolding fields_fit
  field_number n read wrong = simp (fields_fit, ← read, ne_eqb _ _ wrong)

  pub field_used : (n used : ℕ) (fits : Bool) → n ≡ number_at 2 block number_offset → n ≡ j → used ≡ number_at 2 block used_offset
      → fits ≡ used_fits blocks j used → not fits ≡ true → false ≡ fields_fit blocks j block
  unfolding fields_fit
  field_used n used fits read is read_used reported unfit = simp (fields_fit, ← read, ← read_used, eq-eqb _ _ is, ← reported, not-true fits unfit)

  pub field_count : (n used count : ℕ) (fits : Bool) → n ≡ number_at 2 block number_offset → n ≡ j → used ≡ number_at 2 block used_offset
      → fits ≡ used_fits blocks j used → not fits ≡ false → count ≡ number_at 2 block blocks_offset → count ≢ blocks → false ≡ fields_fit blocks j block
  unfolding fields_fit
  field_count n used count fits read is read_used reported fit read_count wrong =
      simp (fields_fit, ← read, ← read_used, ← read_count, eq-eqb _ _ is, ← reported, not-false fits fit, ne_eqb _ _ wrong)

  pub field_unused : (n used count : ℕ) (fits unused : Bool) → n ≡ number_at 2 block number_offset → n ≡ j
      → used ≡ number_at 2 block used_offset → fits ≡ used_fits blocks j used → not fits ≡ false → count ≡ number_at 2 block blocks_offset → count ≡ blocks
      → unused ≡ zeros (drop (record_bytes * used) (take records_bytes block)) → unused ≡ fields_fit blocks j block
  unfolding fields_fit
  field_unused n used count fits unused read is read_used reported fit read_count right looked =
      simp (fields_fit, ← read, ← read_used, ← read_count, eq-eqb _ _ is, ← reported, not-false fits fit, eq-eqb _ _ right) looked

pub ruleset fields_reported = (field_number, field_used, field_count, field_unused)

-- ---- the row of one block

module _ (blocks j : ℕ) (block : List ℕ) (sum : ℕ) (added : sum ≡ word_sum block % word_limit) where
  pub row_check : sum ≢ check_target → refusal block_check j ≡ verdict (used_of blocks j block)
  unfolding used_of
  row_check wrong = simp (used_of, ← added, ne_eqb _ _ wrong)

  pub row_passed : (fits : Bool) → sum ≡ check_target → fits ≡ fields_fit blocks j block → fits ≡ true → done tt ≡ verdict (used_of blocks j block)
  unfolding used_of
  row_passed fits right reported fit = simp (used_of, ← added, eq-eqb _ _ right, ← reported, fit)

  pub row_field : (fits : Bool) → sum ≡ check_target → fits ≡ fields_fit blocks j block → fits ≡ false → refusal block_field j ≡ verdict (used_of blocks j block)
  unfolding used_of
  row_field fits right reported unfit = simp (used_of, ← added, eq-eqb _ _ right, ← reported, unfit)

pub ruleset row_reported = (row_check, row_passed, row_field)
