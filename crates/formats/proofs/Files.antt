-- Laws of files: a file that is read is the file written for its flat records, and the file written
-- for flat records is read as these. Both go by recursion on the blocks that are left.
use Prim.Native.Nat.{ℕ, zero, suc, ◌+◌, ◌*◌, ◌-◌, ◌/◌, ◌≤◌, ◌<◌, min}
use mathlib.Core.Bool.{true, ◌&&◌}
use mathlib.Core.List.{List, [], ◌∷◌, ◌++◌, append-nil}
use mathlib.Core.Path.{◌≡◌, refl, sym, ap, ap₂, subst, ◌∙◌}
use native.Mathlib.Omega.{arith}
use borrow.Author.Tests.{eqb-true, leb-true, eq-eqb, le-leb, lt-leb}
use lib.Dec.{lit<, leb, eqb}
use lib.ListN.{length, take, drop, length-append, length-take, length-drop, take-append-drop, drop_of_length-le}
use lib.Seq.{take_all, take_at, drop_at, drop-drop}
use Rattle.formats.specs.Numbers.{Bytes}
use Rattle.formats.specs.Refusals.{file_length, space_too_short}
use Rattle.formats.specs.Results.{Result, done, refusal, on_value, each}
use Rattle.formats.specs.Records.{record_bytes}
use Rattle.formats.specs.Blocks.{block_bytes, most_blocks, block_records, records_bytes, word_limit, block_of, blocks_from, blocks_for, file_of, length_row, used_fits, used_of, block_at, block_row, concatenated, flat_in, in_room, buffer_after}
use Rattle.formats.specs.Inner.Blocks.{most_bytes}
use Rattle.formats.specs.ProgramFiles.{Fewest}
use Rattle.formats.proofs.Numbers.{bytes_append, bytes_take, bytes_drop}
use Rattle.formats.proofs.Written.{wrote}
use Rattle.formats.proofs.Results.{then_inv, then_done, each_inv, each_none, each_done, check_inv, both_held, value_inv}
use Rattle.formats.proofs.Blocks.{length_block, block-bytes, used_some, used-fits, passed, used_done, used_inv, Used}

-- ---- how many blocks

-- no records, no block
for_none : blocks_for 0 ≡ 0
unfolding blocks_for
for_none = refl

-- a full part takes one block more than the rest
for_more : (n : ℕ) → blocks_for (records_bytes + n) ≡ suc (blocks_for n)
unfolding blocks_for
for_more n = omega arith

-- what is at most a part takes one block
for_one : (n : ℕ) → 1 ≤ n → n ≤ records_bytes → blocks_for n ≡ 1
unfolding blocks_for
for_one n h k = omega arith

-- records take some block ..
pub blocks_some : (n : ℕ) → 1 ≤ n → 1 ≤ blocks_for (record_bytes * n)
unfolding blocks_for
blocks_some n h = omega arith

-- .. and at most 17 where they fit these
pub blocks_few : (n : ℕ) → n ≤ block_records * most_blocks → blocks_for (record_bytes * n) ≤ most_blocks
unfolding blocks_for
blocks_few n h = omega arith

-- the blocks of n records are the fewest that hold them
pub fewest : (r : List ℕ) (n : ℕ) → length r ≡ record_bytes * n → Fewest (blocks_for (length r)) n
unfolding blocks_for
fewest r n e = record { enough = omega arith; no_fewer = λ m h. omega arith }

-- with one block less some record would not fit
tight : (r : List ℕ) (n : ℕ) → length r ≡ record_bytes * n → block_records * blocks_for (length r) < n + block_records
unfolding blocks_for
tight r n e = omega arith

-- ---- the file of flat records

-- the first of the blocks is a whole block
length_first : (blocks j : ℕ) (r : List ℕ) → length (block_of (take records_bytes r) j blocks) ≡ block_bytes
length_first blocks j r = length_block (take records_bytes r) j blocks (simp length-take (omega arith))

-- n blocks are n whole blocks
pub length_blocks : (blocks n j : ℕ) (r : List ℕ) → length (blocks_from blocks n j r) ≡ block_bytes * n
unfolding blocks_from
length_blocks blocks zero j r = refl
length_blocks blocks (suc n) j r =
    length-append (block_of (take records_bytes r) j blocks) _
    ∙ ap₂ ◌+◌ (length_first blocks j r) (length_blocks blocks n (suc j) (drop records_bytes r))
    ∙ omega arith

-- the file has whole blocks
pub length_file : (r : List ℕ) → length (file_of r) ≡ block_bytes * blocks_for (length r)
unfolding file_of
length_file r = length_blocks (blocks_for (length r)) (blocks_for (length r)) 0 r

-- blocks of bytes are bytes
bytes_blocks : (blocks n j : ℕ) (r : List ℕ) → Bytes r → Bytes (blocks_from blocks n j r)
unfolding blocks_from
bytes_blocks blocks zero j r bs = λ i. lit< tt
bytes_blocks blocks (suc n) j r bs =
    bytes_append (block_of (take records_bytes r) j blocks) (blocks_from blocks n (suc j) (drop records_bytes r))
    (block-bytes (take records_bytes r) j blocks (bytes_take records_bytes r bs)) (bytes_blocks blocks n (suc j) (drop records_bytes r) (bytes_drop records_bytes r bs))

-- the file of bytes is bytes
pub file_bytes : (r : List ℕ) → Bytes r → Bytes (file_of r)
unfolding file_of
file_bytes r bs = bytes_blocks (blocks_for (length r)) (blocks_for (length r)) 0 r bs

-- ---- the length of a file

-- the file s is n whole blocks, 1 to 17
pub record Whole (s : List ℕ) (n : ℕ) : Type 0 where
  pub measure : length s ≡ block_bytes * n
  pub some_block : 1 ≤ n
  pub few_blocks : n ≤ most_blocks

-- such a file passes the row "blocks"
pub length_done : (s : List ℕ) (n : ℕ) → Whole s n → length_row s ≡ done n
unfolding length_row
length_done s n w =
    let count : length s / block_bytes ≡ n = omega arith in
    simp (length_row, count, eq-eqb _ _ w.measure, le-leb _ _ w.some_block, le-leb _ _ w.few_blocks)

pub length_inv : (s : List ℕ) (n : ℕ) → length_row s ≡ done n → Whole s n
unfolding length_row
length_inv s n e =
    let m : ℕ = length s / block_bytes in
    let c = check_inv (eqb (length s) (block_bytes * m) && (leb 1 m && leb m most_blocks)) file_length 0 m n e in
    let f = both_held (eqb (length s) (block_bytes * m)) _ c.held in
    let g = both_held (leb 1 m) (leb m most_blocks) f.1 in
    subst (Whole s) c.same (record { measure = eqb-true _ _ f.0; some_block = leb-true _ _ g.0; few_blocks = leb-true _ _ g.1 })

-- ---- from the file to its flat records and back to the file

-- block j of a file
abbrev block_in : List ℕ → ℕ → List ℕ
block_in s j = take block_bytes (drop (block_bytes * j) s)

-- the next block stands right after it
drop_block : (s : List ℕ) (j : ℕ) → drop (block_bytes * suc j) s ≡ drop block_bytes (drop (block_bytes * j) s)
drop_block s j =
    let next : block_bytes * suc j ≡ block_bytes * j + block_bytes = omega arith in
    ap (λ (k : ℕ). drop k s) next ∙ sym (drop-drop block_bytes (block_bytes * j) s)

-- the first block takes the part, and the rest takes one block less than both
record Cut (part rest : List ℕ) : Type 0 where
  front : take records_bytes (part ++ rest) ≡ part
  back : drop records_bytes (part ++ rest) ≡ rest
  count : blocks_for (length (part ++ rest)) ≡ suc (blocks_for (length rest))

-- that is so where the part is full ..
cut_full : (part rest : List ℕ) → length part ≡ records_bytes → Cut part rest
cut_full part rest e = record {
  front = take_at part rest records_bytes e;
  back = drop_at part rest records_bytes e;
  count = ap blocks_for (length-append part rest ∙ ap (λ (k : ℕ). k + length rest) e) ∙ for_more (length rest);
}

-- .. and where nothing follows it
cut_last : (part : List ℕ) → 1 ≤ length part → length part ≤ records_bytes → Cut part []
cut_last part some few = record {
  front = rw append-nil (take_all records_bytes part few);
  back = rw append-nil (drop_of_length-le part few);
  count = rw append-nil (for_one (length part) some few ∙ ap suc (sym for_none));
}

module _ (blocks : ℕ) (s : List ℕ) (bs : Bytes s) (whole : length s ≡ block_bytes * blocks) where
  -- the rest of the file, n blocks from block j on, is what is written for these parts
  record Rest (n j : ℕ) (parts : List (List ℕ)) : Type 0 where
    same : blocks_from blocks n j (concatenated parts) ≡ drop (block_bytes * j) s
    bytes : Bytes (concatenated parts)
    count : blocks_for (length (concatenated parts)) ≡ n

  -- a block that is read is the one written for its part
  block_used : (j : ℕ) (part : List ℕ) → j < blocks → block_at blocks s j ≡ done part → Used blocks j (block_in s j) part
  unfolding block_at
  block_used j part h e =
      used_inv blocks j (block_in s j) part (bytes_take block_bytes (drop (block_bytes * j) s) (bytes_drop (block_bytes * j) s bs))
      (simp (length-take, length-drop) (omega arith)) e

  -- a block's part is full, or nothing follows it
  block_cut : (n j : ℕ) (part : List ℕ) (tail : List (List ℕ)) → j + suc n ≡ blocks → Used blocks j (block_in s j) part
      → each (block_at blocks s) n (suc j) ≡ done tail → Cut part (concatenated tail)
  unfolding concatenated
  block_cut zero j part tail e u h =
      let none : concatenated tail ≡ [] = ap concatenated (each_none (block_at blocks s) (suc j) tail h) in
      rw none (cut_last part (omega arith) (omega arith))
  block_cut (suc n) j part tail e u h = let full = u.full (omega arith) in cut_full part (concatenated tail) (omega arith)

  -- nothing is left, or one block and the rest after it
  rest_none : (j : ℕ) → j + 0 ≡ blocks → Rest 0 j []
  unfolding blocks_from concatenated
  rest_none j e = record { same = sym (drop_of_length-le s {i = block_bytes * j} (omega arith)); bytes = λ i. lit< tt; count = for_none }

  rest_more : (n j : ℕ) (part : List ℕ) (tail : List (List ℕ)) → Used blocks j (block_in s j) part
      → Cut part (concatenated tail) → Rest n (suc j) tail → Rest (suc n) j (part ∷ tail)
  unfolding blocks_from concatenated
  rest_more n j part tail u c f = record {
    same =
        ap₂ (λ (p r : List ℕ). block_of p j blocks ++ blocks_from blocks n (suc j) r) c.front c.back
        ∙ ap₂ ◌++◌ u.same (f.same ∙ drop_block s j)
        ∙ take-append-drop block_bytes (drop (block_bytes * j) s);
    bytes = bytes_append part (concatenated tail) u.bytes f.bytes;
    count = c.count ∙ ap suc f.count;
  }

  -- the same for every rest of the file
  rest : (n j : ℕ) (parts : List (List ℕ)) → j + n ≡ blocks → each (block_at blocks s) n j ≡ done parts → Rest n j parts
  rest zero j parts e h = rw (each_none (block_at blocks s) j parts h) (rest_none j e)
  rest (suc n) j parts e h =
      let i = each_inv (block_at blocks s) n j parts h in
      let u = block_used j i.head (omega arith) i.here in
      rw i.both (rest_more n j i.head i.tail u (block_cut n j i.head i.tail e u i.later) (rest n (suc j) i.tail (omega arith) i.later))

-- a file that is read: its blocks, from the first on
record Read (s r : List ℕ) : Type 0 where
  blocks : ℕ
  parts : List (List ℕ)
  measure : length s ≡ block_bytes * blocks
  few_blocks : blocks ≤ most_blocks
  row : each (block_at blocks s) blocks 0 ≡ done parts
  gives : concatenated parts ≡ r

read_inv : (s r : List ℕ) → flat_in s ≡ done r → Read s r
unfolding flat_in block_row
read_inv s r e =
    let t = then_inv (length_row s) _ r e in
    let v = value_inv concatenated (block_row t.value s) r t.second in
    let w = length_inv s t.value t.first in
    record { blocks = t.value; parts = v.value; measure = w.measure; few_blocks = w.few_blocks; row = v.first; gives = v.second }

-- all of it is written for its parts
read_rest : (s r : List ℕ) (bs : Bytes s) (d : Read s r) → Rest d.blocks s bs d.measure d.blocks 0 d.parts
read_rest s r bs d = rest d.blocks s bs d.measure d.blocks 0 d.parts (omega arith) d.row

-- what a file is read as, written again, is the file
pub blocks_again : (s r : List ℕ) → Bytes s → flat_in s ≡ done r → file_of r ≡ s
unfolding file_of
blocks_again s r bs e =
    let d = read_inv s r e in
    let f = read_rest s r bs d in
    ap file_of (sym d.gives) ∙ ap (λ (n : ℕ). blocks_from n n 0 (concatenated d.parts)) f.count ∙ f.same

-- flat records are bytes where their file is
pub flat_in_bytes : (s r : List ℕ) → Bytes s → flat_in s ≡ done r → Bytes r
flat_in_bytes s r bs e =
    let d = read_inv s r e in
    subst Bytes d.gives (read_rest s r bs d).bytes

-- flat records are no more than the most blocks hold: no part is longer than a block's records
part_short : (blocks : ℕ) (s : List ℕ) (j : ℕ) (part : List ℕ) → block_at blocks s j ≡ done part → length part ≤ records_bytes
unfolding block_at
part_short blocks s j part e =
    let p = passed blocks j _ part e in
    let few = (used_some blocks j _ p.fits).1 in
    rw (← p.gives) (simp length-take (omega arith))

parts_short : (blocks : ℕ) (s : List ℕ) (n j : ℕ) (parts : List (List ℕ)) → each (block_at blocks s) n j ≡ done parts → length (concatenated parts) ≤ records_bytes * n
unfolding concatenated
parts_short blocks s zero j parts e = rw (each_none (block_at blocks s) j parts e) (omega arith)
parts_short blocks s (suc n) j parts e =
    let i = each_inv (block_at blocks s) n j parts e in
    let first = part_short blocks s j i.head i.here in
    let others = parts_short blocks s n (suc j) i.tail i.later in
    rw (i.both, length-append) (omega arith)

pub flat_short : (s r : List ℕ) → flat_in s ≡ done r → length r ≤ most_bytes
flat_short s r e =
    let d = read_inv s r e in
    rw (← d.gives) (omega (arith, parts_short d.blocks s d.blocks 0 d.parts d.row, d.few_blocks))

-- ---- from flat records to their file and back to the records

module _ (blocks : ℕ) (s : List ℕ) (few : blocks < word_limit) where
  -- the n blocks from block j on are read as the records r
  record Back (n j : ℕ) (r : List ℕ) : Type 0 where
    parts : List (List ℕ)
    row : each (block_at blocks s) n j ≡ done parts
    gives : concatenated parts ≡ r

  -- a block that stands in the file is read as the part for which it was written
  block_back : (j n : ℕ) (part rest : List ℕ) → j < word_limit → length part ≡ record_bytes * n → used_fits blocks j n ≡ true
      → drop (block_bytes * j) s ≡ block_of part j blocks ++ rest → block_at blocks s j ≡ done part
  unfolding block_at
  block_back j n part rest small e fits stands =
      let short : length part ≤ records_bytes = omega (arith, (used_some blocks j n fits).1) in
      ap (λ (l : List ℕ). used_of blocks j (take block_bytes l)) stands
      ∙ ap (used_of blocks j) (take_at (block_of part j blocks) rest block_bytes (length_block part j blocks short))
      ∙ used_done part j blocks n e fits small few

  -- after it stand the blocks for the other records
  stands_after : (m j : ℕ) (r : List ℕ) → drop (block_bytes * j) s ≡ blocks_from blocks (suc m) j r
      → drop (block_bytes * suc j) s ≡ blocks_from blocks m (suc j) (drop records_bytes r)
  unfolding blocks_from
  stands_after m j r stands =
      drop_block s j ∙ ap (drop block_bytes) stands ∙ drop_at (block_of (take records_bytes r) j blocks) _ block_bytes (length_first blocks j r)

  -- n records that fill m blocks come back from these
  back_from : (m j n : ℕ) (r : List ℕ) → j + m ≡ blocks → length r ≡ record_bytes * n → n ≤ block_records * m → block_records * m < n + block_records
      → drop (block_bytes * j) s ≡ blocks_from blocks m j r → Back m j r
  unfolding blocks_from concatenated each
  back_from zero j n r e h enough more stands = record { parts = []; row = refl; gives = sym (drop_of_length-le r {i = 0} (omega arith)) }
  back_from (suc m) j n r e h enough more stands =
      let used : length (take records_bytes r) ≡ record_bytes * min n block_records = length-take records_bytes r ∙ omega arith in
      let left : length (drop records_bytes r) ≡ record_bytes * (n - block_records) = length-drop records_bytes r ∙ omega arith in
      let fits = used-fits blocks j (min n block_records) (omega arith) (omega arith) (λ full. omega arith) in
      let b = back_from m (suc j) (n - block_records) (drop records_bytes r) (omega arith) left (omega arith) (omega arith) (stands_after m j r stands) in
      let here = block_back j (min n block_records) (take records_bytes r) _ (omega arith) used fits stands in
      record {
        parts = take records_bytes r ∷ b.parts;
        row = each_done (block_at blocks s) m j (take records_bytes r) b.parts here b.row;
        gives = ap (λ (l : List ℕ). take records_bytes r ++ l) b.gives ∙ take-append-drop records_bytes r;
      }

-- the file written for flat records is read as these
pub blocks_back : (r : List ℕ) (n : ℕ) → length r ≡ record_bytes * n → 1 ≤ n → n ≤ block_records * most_blocks → flat_in (file_of r) ≡ done r
unfolding flat_in block_row file_of
blocks_back r n e some few =
    let blocks = blocks_for (length r) in
    let some_block : 1 ≤ blocks = rw e (blocks_some n some) in
    let few_blocks : blocks ≤ most_blocks = rw e (blocks_few n few) in
    let f = fewest r n e in
    let b = back_from blocks (file_of r) (omega arith) blocks 0 n r (omega arith) e f.enough (tight r n e) refl in
    then_done _ (length_done (file_of r) blocks (record { measure = length_file r; some_block = some_block; few_blocks = few_blocks }))
    ∙ ap (on_value concatenated) b.row
    ∙ ap done b.gives

-- ---- into a lent buffer

-- bytes that fit are all there, and others are refused
pub within_room : (room : ℕ) (bytes : List ℕ) → length bytes ≤ room → in_room room bytes ≡ done bytes
unfolding in_room
within_room room bytes h = simp (in_room, le-leb _ _ h)

pub within_short : (room : ℕ) (bytes : List ℕ) → room < length bytes → in_room room bytes ≡ refusal space_too_short 0
unfolding in_room
within_short room bytes h = simp (in_room, lt-leb _ _ h)

-- the buffer keeps its length
pub length_lent : (before : List ℕ) (due : Result (List ℕ)) → length (buffer_after before due) ≡ length before
unfolding buffer_after
length_lent before (done bytes) = (wrote before 0 bytes).same_length
length_lent before (refusal number position) = refl
