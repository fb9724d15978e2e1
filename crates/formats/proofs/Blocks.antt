-- Laws of one block. A block that is written for a part is read as that part, and a block that is
-- read is the one that is written for what it gave.
use Prim.Native.Nat.{ℕ, zero, suc, ◌+◌, ◌*◌, ◌-◌, ◌/◌, ◌%◌, ◌≤◌, ◌<◌}
use mathlib.Core.Bool.{Bool, true, false, ◌&&◌, and-eq-true_iff}
use mathlib.Core.List.{List, [], ◌∷◌, ◌++◌, append_assoc}
use mathlib.Core.Path.{◌≡◌, refl, sym, ap, ap₂, subst, ◌∙◌}
use native.Mathlib.Omega.{arith}
use borrow.Author.Tests.{eqb-true, leb-true, ltb-true, eq-eqb, lt-ltb, le-leb}
use lib.Dec.{lit<, leb, ltb, eqb}
use lib.ListN.{length, take, drop, replicate, length-append, length-drop, length-replicate, take-append-drop}
use lib.Seq.{length-take-le, take_all, take_at, drop_at, take-take, take-add}
use Rattle.formats.specs.Numbers.{Bytes, bytes_of, number_at}
use Rattle.formats.specs.Refusals.{block_check, block_field}
use Rattle.formats.specs.Results.{done, refusal, value_if}
use Rattle.formats.specs.Records.{record_bytes}
use Rattle.formats.specs.Blocks.{block_bytes, block_records, records_bytes, number_offset, used_offset, blocks_offset, word_sum, check_target, word_limit, check_word, block_body, block_of, zeros, used_fits, fields_fit, used_of}
use Rattle.formats.specs.Inner.Blocks.{check_offset}
use Rattle.formats.proofs.Numbers.{length_bytes_of, number_at_lt, bytes_of_number_at, bytes_append, bytes_take, bytes_bytes_of, number_at_after, number_at_there}
use Rattle.formats.proofs.Results.{done_not, check_inv, both_held}
use Rattle.formats.proofs.Words.{check_word_right, check_word_only}

-- ---- lists of bytes

-- zeros are bytes
bytes_zeros : (n : ℕ) → Bytes (replicate n 0)
bytes_zeros zero i = lit< tt
bytes_zeros (suc n) zero = lit< tt
bytes_zeros (suc n) (suc i) = bytes_zeros n i

-- a list of n zeros is all zeros ..
zeros_replicate : (n : ℕ) → zeros (replicate n 0) ≡ true
unfolding zeros
zeros_replicate zero = refl
zeros_replicate (suc n) = zeros_replicate n

-- .. and a list that is all zeros is as many zeros as it is long
replicate_zeros : (s : List ℕ) → zeros s ≡ true → s ≡ replicate (length s) 0
unfolding zeros
replicate_zeros [] e = refl
replicate_zeros (b ∷ s) e =
    let h = both_held (eqb b 0) (zeros s) e in
    ap₂ ◌∷◌ (eqb-true b 0 h.0) (replicate_zeros s h.1)

-- a number after a front is read from what follows the front ..
number_at_past : (width : ℕ) (front rest : List ℕ) (p q : ℕ) → length front ≡ p → number_at width (front ++ rest) (p + q) ≡ number_at width rest q
number_at_past width front rest p q e = ap (λ (k : ℕ). number_at width (front ++ rest) (k + q)) (sym e) ∙ number_at_after width front rest q

-- .. and one that stands first is read as itself
number_at_first : (n : ℕ) (rest : List ℕ) → n < word_limit → number_at 2 (bytes_of 2 n ++ rest) 0 ≡ n
number_at_first n rest h = number_at_there 2 n [] rest 0 refl h

-- ---- records used

-- the records used are 1 to 63 ..
pub used_some : (blocks j used : ℕ) → used_fits blocks j used ≡ true → (1 ≤ used) × (used ≤ block_records)
unfolding used_fits
used_some blocks j used = cases (ltb (suc j) blocks)
  where
    cases : (more : Bool) → elim more [ true ↦ eqb used block_records | false ↦ leb 1 used && leb used block_records ] ≡ true
        → (1 ≤ used) × (used ≤ block_records)
    cases true e = let h = eqb-true used block_records e in omega arith
    cases false e =
        let h = both_held (leb 1 used) (leb used block_records) e in
        (leb-true 1 used h.0, leb-true used block_records h.1)

-- .. and 63 in all but the last
pub used_full : (blocks j used : ℕ) → used_fits blocks j used ≡ true → suc j < blocks → used ≡ block_records
unfolding used_fits
used_full blocks j used e h = eqb-true used block_records (simp (used_fits, lt-ltb _ _ h) at e)

-- these are the ones that fit
pub used-fits : (blocks j used : ℕ) → 1 ≤ used → used ≤ block_records → (suc j < blocks → used ≡ block_records) → used_fits blocks j used ≡ true
unfolding used_fits
used-fits blocks j used some few full = cases (ltb (suc j) blocks) refl
  where
    cases : (more : Bool) → ltb (suc j) blocks ≡ more → elim more [ true ↦ eqb used block_records | false ↦ leb 1 used && leb used block_records ] ≡ true
    cases true h = eq-eqb used block_records (full (ltb-true (suc j) blocks h))
    cases false h = (and-eq-true_iff (leb 1 used) (leb used block_records)).1 (le-leb 1 used some, le-leb used block_records few)

-- ---- the block that is written

-- a part and its unused records
abbrev pub padded : List ℕ → List ℕ
padded part = part ++ replicate (records_bytes - length part) 0

-- its lengths
pub length_padded : (part : List ℕ) → length part ≤ records_bytes → length (padded part) ≡ records_bytes
length_padded part h = simp (length-append, length-replicate) (omega arith)

pub length_body : (part : List ℕ) (j blocks : ℕ) → length part ≤ records_bytes → length (block_body part j blocks) ≡ check_offset
unfolding block_body
length_body part j blocks h = simp (block_body, length-append, length_bytes_of, length-replicate) (omega arith)

pub length_block : (part : List ℕ) (j blocks : ℕ) → length part ≤ records_bytes → length (block_of part j blocks) ≡ block_bytes
unfolding block_of
length_block part j blocks h = simp (block_of, length-append, length_body part j blocks h, length_bytes_of)

-- a block is bytes where its part is
pub block-bytes : (part : List ℕ) (j blocks : ℕ) → Bytes part → Bytes (block_of part j blocks)
unfolding block_of block_body
block-bytes part j blocks bs =
    bytes_append (block_body part j blocks) (bytes_of 2 (check_word (block_body part j blocks)))
    (bytes_append part _ bs
    (bytes_append (replicate (records_bytes - length part) 0) _ (bytes_zeros (records_bytes - length part))
    (bytes_append (bytes_of 2 j) _ (bytes_bytes_of 2 j)
    (bytes_append (bytes_of 2 (length part / record_bytes)) (bytes_of 2 blocks) (bytes_bytes_of 2 (length part / record_bytes)) (bytes_bytes_of 2 blocks)))))
    (bytes_bytes_of 2 (check_word (block_body part j blocks)))

-- body and check, as the records and the words
regroup : (a b c d e f : List ℕ) → (a ++ (b ++ (c ++ (d ++ e)))) ++ f ≡ (a ++ b) ++ (c ++ (d ++ (e ++ f)))
regroup a b c d e f = simp append_assoc

-- a block that passes every test gives its used records
pub used_passed : (blocks j : ℕ) (block : List ℕ) (n : ℕ) → word_sum block % word_limit ≡ check_target → number_at 2 block number_offset ≡ j → number_at 2 block used_offset ≡ n
    → used_fits blocks j n ≡ true → number_at 2 block blocks_offset ≡ blocks → zeros (drop (record_bytes * n) (take records_bytes block)) ≡ true
    → used_of blocks j block ≡ done (take (record_bytes * n) block)
unfolding used_of fields_fit
used_passed blocks j block n sum number used fits count unused =
    simp (used_of, fields_fit, eq-eqb _ _ sum, eq-eqb _ _ number, used, fits, eq-eqb _ _ count, unused)

module _ (part : List ℕ) (j blocks n : ℕ) (e : length part ≡ record_bytes * n) (fits : used_fits blocks j n ≡ true) where
  -- the part fits
  short : length part ≤ records_bytes
  short = omega (arith, (used_some blocks j n fits).1)

  -- the four words
  words : List ℕ
  words = bytes_of 2 j ++ (bytes_of 2 (length part / record_bytes) ++ (bytes_of 2 blocks ++ bytes_of 2 (check_word (block_body part j blocks))))

  -- the block is the records and the words
  block_split : block_of part j blocks ≡ padded part ++ words
  unfolding block_of block_body words
  block_split =
      regroup part (replicate (records_bytes - length part) 0) (bytes_of 2 j) (bytes_of 2 (length part / record_bytes)) (bytes_of 2 blocks)
      (bytes_of 2 (check_word (block_body part j blocks)))

  -- a word of the block is read from the words
  word_there : (q : ℕ) → number_at 2 (block_of part j blocks) (records_bytes + q) ≡ number_at 2 words q
  word_there q = ap (λ (l : List ℕ). number_at 2 l (records_bytes + q)) block_split ∙ number_at_past 2 (padded part) words records_bytes q (length_padded part short)

  -- the block's words sum to 65,535
  sum_right : word_sum (block_of part j blocks) % word_limit ≡ check_target
  unfolding block_of
  sum_right = check_word_right (block_body part j blocks) 255 (length_body part j blocks short)

  -- its fields are as they were written
  number_there : j < word_limit → number_at 2 (block_of part j blocks) number_offset ≡ j
  unfolding words
  number_there small = word_there 0 ∙ number_at_first j _ small

  used_there : number_at 2 (block_of part j blocks) used_offset ≡ n
  unfolding words
  used_there =
      let count : length part / record_bytes ≡ n = omega arith in
      word_there 2 ∙ number_at_past 2 (bytes_of 2 j) _ 2 0 (length_bytes_of 2 j) ∙ number_at_first (length part / record_bytes) _ (omega (arith, short)) ∙ count

  blocks_there : blocks < word_limit → number_at 2 (block_of part j blocks) blocks_offset ≡ blocks
  unfolding words
  blocks_there few =
      word_there 4
      ∙ number_at_past 2 (bytes_of 2 j) _ 2 2 (length_bytes_of 2 j)
      ∙ number_at_past 2 (bytes_of 2 (length part / record_bytes)) _ 2 0 (length_bytes_of 2 _)
      ∙ number_at_first blocks _ few

  -- its records are the part, and after it zeros
  records_there : take records_bytes (block_of part j blocks) ≡ padded part
  records_there = ap (take records_bytes) block_split ∙ take_at (padded part) words records_bytes (length_padded part short)

  unused_zero : zeros (drop (record_bytes * n) (take records_bytes (block_of part j blocks))) ≡ true
  unused_zero =
      ap (λ (l : List ℕ). zeros (drop (record_bytes * n) l)) records_there
      ∙ ap zeros (drop_at part _ (record_bytes * n) e)
      ∙ zeros_replicate (records_bytes - length part)

  part_there : take (record_bytes * n) (block_of part j blocks) ≡ part
  unfolding block_of block_body
  part_there = ap (take (record_bytes * n)) (append_assoc part _ _) ∙ take_at part _ (record_bytes * n) e

  -- the block written for a part is read as the part
  pub used_done : j < word_limit → blocks < word_limit → used_of blocks j (block_of part j blocks) ≡ done part
  used_done small few =
      used_passed blocks j (block_of part j blocks) n sum_right (number_there small) used_there fits (blocks_there few) unused_zero
      ∙ ap done part_there

-- ---- the block that is read

-- the tests that are passed by a block that gives a part
pub record Passed (blocks j : ℕ) (block part : List ℕ) : Type 0 where
  pub sum : word_sum block % word_limit ≡ check_target
  pub number : number_at 2 block number_offset ≡ j
  pub fits : used_fits blocks j (number_at 2 block used_offset) ≡ true
  pub count : number_at 2 block blocks_offset ≡ blocks
  pub unused : zeros (drop (record_bytes * number_at 2 block used_offset) (take records_bytes block)) ≡ true
  pub gives : take (record_bytes * number_at 2 block used_offset) block ≡ part

-- a block that gives a part has passed every test
pub passed : (blocks j : ℕ) (block part : List ℕ) → used_of blocks j block ≡ done part → Passed blocks j block part
unfolding used_of fields_fit
passed blocks j block part = cases (eqb (word_sum block % word_limit) check_target) refl
  where
    used : ℕ
    used = number_at 2 block used_offset

    cases : (test : Bool) → eqb (word_sum block % word_limit) check_target ≡ test
        → elim test [ false ↦ refusal block_check j | true ↦ value_if (fields_fit blocks j block) block_field j (take (record_bytes * used) block) ] ≡ done part
        → Passed blocks j block part
    cases false h e = done_not e refl
    cases true h e =
        let c = check_inv (fields_fit blocks j block) block_field j (take (record_bytes * used) block) part e in
        let f = both_held (eqb (number_at 2 block number_offset) j) _ c.held in
        let g = both_held (used_fits blocks j used) _ f.1 in
        let k = both_held (eqb (number_at 2 block blocks_offset) blocks) _ g.1 in
        record {
          sum = eqb-true _ _ h;
          number = eqb-true _ _ f.0;
          fits = g.0;
          count = eqb-true _ _ k.0;
          unused = k.1;
          gives = c.same;
        }

module _ (blocks j : ℕ) (block part : List ℕ) (bs : Bytes block) (whole : length block ≡ block_bytes) (p : Passed blocks j block part) where
  -- how many records it uses
  abbrev used : ℕ
  used = number_at 2 block used_offset

  within : record_bytes * used ≤ records_bytes
  within = omega (arith, (used_some blocks j used p.fits).1)

  -- the part is as long as so many records
  length_part : length part ≡ record_bytes * used
  length_part = ap length (sym p.gives) ∙ length-take-le (record_bytes * used) block (omega (arith, within))

  -- the part and its unused records are what stands before the words
  padded_is : padded part ≡ take records_bytes block
  padded_is =
      let after : List ℕ = drop (record_bytes * used) (take records_bytes block) in
      let as_long : length after ≡ records_bytes - length part =
      length-drop (record_bytes * used) (take records_bytes block) ∙ ap₂ ◌-◌ (length-take-le records_bytes block (omega arith)) (sym length_part) in
      ap₂ ◌++◌ (sym p.gives ∙ sym (take-take (record_bytes * used) records_bytes block within))
      (ap (λ (m : ℕ). replicate m 0) (sym as_long) ∙ sym (replicate_zeros after p.unused))
      ∙ take-append-drop (record_bytes * used) (take records_bytes block)

  -- the first q + 2 bytes are the first q bytes and the word at offset q
  word_next : (q : ℕ) → q + 2 ≤ block_bytes → take (q + 2) block ≡ take q block ++ bytes_of 2 (number_at 2 block q)
  word_next q h = take-add q 2 block ∙ ap (λ (l : List ℕ). take q block ++ l) (sym (bytes_of_number_at 2 block q bs (omega arith)))

  word_after : (q : ℕ) (l : List ℕ) (w : ℕ) → q + 2 ≤ block_bytes → take q block ≡ l → number_at 2 block q ≡ w → take (q + 2) block ≡ l ++ bytes_of 2 w
  word_after q l w h e f = word_next q h ∙ ap₂ (λ (m : List ℕ) (v : ℕ). m ++ bytes_of 2 v) e f

  -- so all but the check is the body that is written for the part ..
  body_is : take check_offset block ≡ block_body part j blocks
  unfolding block_body
  body_is =
      let count : used ≡ length part / record_bytes = omega (arith, length_part) in
      let number_after = word_after number_offset (padded part) j (omega arith) (sym padded_is) p.number in
      let used_after = word_after used_offset _ (length part / record_bytes) (omega arith) number_after count in
      word_after blocks_offset _ blocks (omega arith) used_after p.count ∙ simp append_assoc

  -- .. and the check is the one that makes the sum right
  check_is : number_at 2 block check_offset ≡ check_word (take check_offset block)
  check_is =
      let all : take check_offset block ++ bytes_of 2 (number_at 2 block check_offset) ≡ block = sym (word_next check_offset (omega arith)) ∙ take_all block_bytes block (omega arith) in
      check_word_only (take check_offset block) 255 (number_at 2 block check_offset) (length-take-le check_offset block (omega arith)) (number_at_lt 2 block check_offset bs (omega arith))
      (ap (λ (l : List ℕ). word_sum l % word_limit) all ∙ p.sum)

  -- the block is written again
  same_block : block_of part j blocks ≡ block
  unfolding block_of
  same_block = sym (sym (take_all block_bytes block (omega arith)) ∙ word_after check_offset _ _ (omega arith) body_is (check_is ∙ ap check_word body_is))

-- A block that gives a part is the one that is written for it.
pub record Used (blocks j : ℕ) (block part : List ℕ) : Type 0 where
  pub same : block_of part j blocks ≡ block
  pub bytes : Bytes part
  pub records : ℕ
  pub measure : length part ≡ record_bytes * records
  pub some_record : 1 ≤ records
  pub few_records : records ≤ block_records
  -- all but the last block are full
  pub full : suc j < blocks → records ≡ block_records

pub used_inv : (blocks j : ℕ) (block part : List ℕ) → Bytes block → length block ≡ block_bytes → used_of blocks j block ≡ done part → Used blocks j block part
used_inv blocks j block part bs whole e =
    let p = passed blocks j block part e in
    record {
      same = same_block blocks j block part bs whole p;
      bytes = subst Bytes p.gives (bytes_take (record_bytes * number_at 2 block used_offset) block bs);
      records = number_at 2 block used_offset;
      measure = length_part blocks j block part bs whole p;
      some_record = (used_some blocks j _ p.fits).0;
      few_records = (used_some blocks j _ p.fits).1;
      full = used_full blocks j _ p.fits;
    }
