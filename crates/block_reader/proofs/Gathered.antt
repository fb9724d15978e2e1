-- Laws of taking flat records out of blocks. Blocks that have all passed give their parts, and
-- every part but the last is full. So the part of block j goes to offset 504 * j, right after those
-- before it.
use Prim.Native.Nat.{ℕ, zero, suc, ◌+◌, ◌*◌, ◌-◌, ◌/◌, ◌≤◌, ◌<◌}
use mathlib.Core.Bool.{true}
use mathlib.Core.List.{List, [], ◌∷◌, ◌++◌, append_assoc, append-nil}
use mathlib.Core.Path.{◌≡◌, refl, sym, ap, ap₂, subst, ◌∙◌}
use native.Mathlib.Nat.{zero-add}
use native.Mathlib.Numerals.{add-one}
use native.Mathlib.Omega.{arith}
use lib.ListN.{length, take, drop, length-append, length-drop, take-append-drop}
use lib.Seq.{length-take-le, take-add, take_all}
use Rattle.formats.specs.Numbers.{number_at}
use Rattle.formats.specs.Written.{written}
use Rattle.formats.specs.Results.{Result, done, on_value, verdict, each}
use Rattle.formats.specs.Records.{record_bytes}
use Rattle.formats.specs.Blocks.{block_bytes, block_records, records_bytes, used_offset, length_row, used_fits, block_at, block_row, concatenated, flat_in, buffer_after}
use Rattle.formats.specs.Inner.Blocks.{most_bytes}
use Rattle.formats.proofs.Written.{written_none, written_append, wrote}
use Rattle.formats.proofs.Results.{then_inv, each_inv, each_none, each_length, each_front, each_part, value_inv, refused_is}
use Rattle.formats.proofs.Blocks.{used_some, used_full, passed}
use Rattle.formats.proofs.Files.{Whole, length_inv, flat_short, length_lent}
use Rattle.std.specs.Prelude.{Result as Answer, Ok, Err}
use Rattle.refusal.specs.declared.Refused.{Refused}
use Rattle.refusal.specs.Inner.Numbers.{number}
use Rattle.refusal.specs.Inner.Verdicts.{verdict_result}
use Rattle.refusal.specs.Inner.FilledBuffer.{FilledBuffer}
use Rattle.refusal.proofs.FilledBuffer.{put_raised, put_done}
use Rattle.std.specs.Result.{IsErrAnd}
use Rattle.std.specs.Prelude.{slice_index_or}
use Rattle.block_reader.proofs.Rows.{Cut, chunk_at}

-- ---- the parts that blocks give

-- parts after parts
joined_append : (xs ys : List (List ℕ)) → concatenated (xs ++ ys) ≡ concatenated xs ++ concatenated ys
unfolding concatenated
joined_append [] ys = refl
joined_append (x ∷ xs) ys = ap (λ (l : List ℕ). x ++ l) (joined_append xs ys) ∙ sym (append_assoc x (concatenated xs) (concatenated ys))

-- some of the parts are no longer than all
joined_front : (j : ℕ) (parts : List (List ℕ)) → length (concatenated (take j parts)) ≤ length (concatenated parts)
joined_front j parts =
    let both : concatenated (take j parts) ++ concatenated (drop j parts) ≡ concatenated parts = sym (joined_append (take j parts) (drop j parts)) ∙ ap concatenated (take-append-drop j parts) in
    omega (arith, length-append (concatenated (take j parts)) (concatenated (drop j parts)), ap length both)

-- a file whose blocks have all passed, and the parts that they give
record Taken (s : List ℕ) : Type 0 where
  whole : Whole s (length s / block_bytes)
  parts : List (List ℕ)
  row : each (block_at (length s / block_bytes) s) (length s / block_bytes) 0 ≡ done parts
  gives : flat_in s ≡ done (concatenated parts)

taken : (s : List ℕ) → verdict (flat_in s) ≡ done tt → Taken s
unfolding flat_in block_row
taken s passes =
    let v = value_inv (λ r. tt) (flat_in s) tt passes in
    let t = then_inv (length_row s) _ v.value v.first in
    let p = value_inv concatenated (block_row t.value s) v.value t.second in
    let w = length_inv s t.value t.first in
    let count : t.value ≡ length s / block_bytes = omega (arith, w.measure) in
    record {
      whole = subst (Whole s) count w;
      parts = p.value;
      row = subst (λ (n : ℕ). each (block_at n s) n 0 ≡ done p.value) count p.first;
      gives = v.first ∙ ap done (sym p.second);
    }

module _ (s : List ℕ) (t : Taken s) where
  -- how many blocks there are
  abbrev count : ℕ
  count = length s / block_bytes

  -- block j, how many records it uses, and these as bytes
  abbrev block : ℕ → List ℕ
  block j = take block_bytes (drop (block_bytes * j) s)

  abbrev used : ℕ → ℕ
  used j = number_at 2 (block j) used_offset

  abbrev part : ℕ → List ℕ
  part j = take (record_bytes * used j) (block j)

  -- the part of block j stands after the parts before it
  record Share (j : ℕ) : Type 0 where
    fits : used_fits count j (used j) ≡ true
    after : take (suc j) t.parts ≡ take j t.parts ++ (part j ∷ [])

  share : (j : ℕ) → j < count → Share j
  unfolding block_at
  share j h =
      let e = each_part (block_at count s) count j 1 0 t.parts t.row (omega arith) in
      let i = each_inv (block_at count s) 0 (0 + j) (take 1 (drop j t.parts)) e in
      let p = passed count j (block j) i.head (ap (block_at count s) (sym (zero-add j)) ∙ i.here) in
      let one : take 1 (drop j t.parts) ≡ part j ∷ [] = i.both ∙ ap₂ ◌∷◌ (sym p.gives) (each_none (block_at count s) (suc (0 + j)) i.tail i.later) in
      record {
        fits = p.fits;
        after = ap (λ (k : ℕ). take k t.parts) (sym (add-one j)) ∙ take-add j 1 t.parts ∙ ap (λ (l : List (List ℕ)). take j t.parts ++ l) one;
      }

  -- a block is whole, and its part as long as its used records
  length_block : (j : ℕ) → j < count → length (block j) ≡ block_bytes
  length_block j h = length-take-le block_bytes (drop (block_bytes * j) s) (omega (arith, length-drop (block_bytes * j) s))

  length_part : (j : ℕ) → j < count → length (part j) ≡ record_bytes * used j
  length_part j h = length-take-le (record_bytes * used j) (block j) (omega (arith, length_block j h, (used_some count j (used j) (share j h).fits).1))

  -- the bytes before a block and in it
  joined_more : (j : ℕ) → j < count → concatenated (take (suc j) t.parts) ≡ concatenated (take j t.parts) ++ part j
  unfolding concatenated
  joined_more j h =
      ap concatenated (share j h).after
      ∙ joined_append (take j t.parts) (part j ∷ [])
      ∙ ap (λ (l : List ℕ). concatenated (take j t.parts) ++ l) (append-nil (part j))

  length_more : (j : ℕ) → j < count → length (concatenated (take (suc j) t.parts)) ≡ length (concatenated (take j t.parts)) + record_bytes * used j
  length_more j h =
      ap length (joined_more j h) ∙ length-append (concatenated (take j t.parts)) (part j) ∙ ap (λ (n : ℕ). length (concatenated (take j t.parts)) + n) (length_part j h)

  -- the blocks before a block are full
  length_before : (j : ℕ) → j < count → length (concatenated (take j t.parts)) ≡ records_bytes * j
  unfolding concatenated
  length_before zero h = refl
  length_before (suc j) h =
      let before : j < count = omega arith in
      let full : used j ≡ block_records = used_full count j (used j) (share j before).fits h in
      length_more j before ∙ omega (arith, full, length_before j before)

  -- there are as many parts as blocks
  all_parts : take count t.parts ≡ t.parts
  all_parts = take_all count t.parts (omega (arith, each_length (block_at count s) count 0 t.parts t.row))

-- ---- how many bytes they are

pub some_block : (s : List ℕ) → verdict (flat_in s) ≡ done tt → 1 ≤ length s / block_bytes
some_block s passes = (taken s passes).whole.some_block

pub last_block : (s : List ℕ) (chunks : List (List ℕ)) → verdict (flat_in s) ≡ done tt → Cut s chunks → 1 ≤ length chunks
last_block s chunks passes cut = omega (arith, cut.count, some_block s passes)

pub flat_length : (s : List ℕ) (chunks : List (List ℕ)) (word n : ℕ) → verdict (flat_in s) ≡ done tt → Cut s chunks
    → word ≡ number_at 2 (slice_index_or chunks (length chunks - 1) []) used_offset → n ≡ word
    → done (records_bytes * (length chunks - 1) + record_bytes * n) ≡ on_value length (flat_in s)
flat_length s chunks word n passes cut says wide =
    let t = taken s passes in
    let full : ℕ = length chunks - 1 in
    let one_more : suc full ≡ count s t = omega (arith, cut.count, some_block s passes) in
    let here : full < count s t = omega (arith, one_more) in
    let there = chunk_at s chunks full cut (omega (arith, cut.count, one_more)) in
    let same : n ≡ used s t full = wide ∙ says ∙ ap (λ (b : List ℕ). number_at 2 b used_offset) there in
    let all : length (concatenated t.parts) ≡ records_bytes * full + record_bytes * used s t full =
    ap (λ (l : List (List ℕ)). length (concatenated l)) (sym (all_parts s t) ∙ ap (λ (k : ℕ). take k t.parts) (sym one_more))
    ∙ length_more s t full here
    ∙ ap (λ (k : ℕ). k + record_bytes * used s t full) (length_before s t full here) in
    ap (λ (k : ℕ). done (records_bytes * full + record_bytes * k)) same ∙ ap done (sym all) ∙ sym (ap (on_value length) t.gives)

pub ruleset flat_sized = (some_block, last_block, flat_length)

-- ---- the parts written one after the other

-- the blocks have passed, and their records fit the buffer
record Fits (s : List ℕ) (room : ℕ) : Type 0 where
  passes : verdict (flat_in s) ≡ done tt
  enough : length (concatenated (taken s passes).parts) ≤ room

fits : (s : List ℕ) (room : ℕ) → verdict (flat_in s) ≡ done tt → room ≡ most_bytes → Fits s room
fits s room passes size = let t = taken s passes in record { passes = passes; enough = rw size (flat_short s (concatenated t.parts) t.gives) }

-- the parts of the first j blocks are written
pub record Gathered (s before after : List ℕ) (j : ℕ) : Type 0 where
  pub few : j ≤ length s / block_bytes
  pub so_far : after ≡ buffer_after before (on_value concatenated (each (block_at (length s / block_bytes) s) j 0))

pub gather_none : (s before : List ℕ) → Gathered s before before 0
unfolding buffer_after concatenated each
gather_none s before = record { few = omega arith; so_far = sym (written_none before 0) }

-- what the first j blocks make of the buffer
front_lent : (s before : List ℕ) (t : Taken s) (j : ℕ) → j ≤ count s t
    → buffer_after before (on_value concatenated (each (block_at (count s t) s) j 0)) ≡ written before 0 (concatenated (take j t.parts))
unfolding buffer_after
front_lent s before t j h = ap (λ (r : Result (List (List ℕ))). buffer_after before (on_value concatenated r)) (each_front (block_at (count s t) s) (count s t) j 0 t.parts t.row h)

module _ (s before : List ℕ) (passes : verdict (flat_in s) ≡ done tt) (size : length before ≡ most_bytes) where
  f : Fits s (length before)
  f = fits s (length before) passes size

  t : Taken s
  t = taken s f.passes

  pub gather_more : (chunks : List (List ℕ)) (after records next : List ℕ) (j word used : ℕ) → Cut s chunks → j < length chunks → Gathered s before after j
      → word ≡ number_at 2 (slice_index_or chunks j []) used_offset → used ≡ word
      → records ≡ take (record_bytes * used) (slice_index_or chunks j []) → next ≡ written after (records_bytes * j) records
      → Gathered s before next (j + 1)
  unfolding t
  gather_more chunks after records next j word used cut below c says wide front_part wrote =
      let block : List ℕ = slice_index_or chunks j [] in
      let there : block ≡ take block_bytes (drop (block_bytes * j) s) = chunk_at s chunks j cut below in
      let more : j < length s / block_bytes = omega (arith, below, cut.count) in
      let read : used ≡ number_at 2 block used_offset = wide ∙ says in
      let front : List ℕ = concatenated (take j t.parts) in
      let same : records ≡ part s t j =
      front_part ∙ ap (λ (k : ℕ). take (record_bytes * k) block) read ∙ ap (λ (b : List ℕ). take (record_bytes * number_at 2 b used_offset) b) there in
      let both : front ++ part s t j ≡ concatenated (take (suc j) t.parts) = sym (joined_more s t j more) in
      let room : 0 + length (front ++ part s t j) ≤ length before = rw both (omega (arith, joined_front (suc j) t.parts, f.enough)) in
      let position : records_bytes * j ≡ 0 + length front = omega (arith, length_before s t j more) in
      record {
        few = omega arith;
        so_far =
            rw add-one
            (wrote
            ∙ ap₂ (λ (l vs : List ℕ). written l (records_bytes * j) vs) (c.so_far ∙ front_lent s before t j c.few) same
            ∙ ap (λ (p : ℕ). written (written before 0 front) p (part s t j)) position
            ∙ written_append before 0 front (part s t j) room
            ∙ ap (written before 0) both
            ∙ sym (front_lent s before t (suc j) (omega arith)));
      }

  pub gather_all : (chunks : List (List ℕ)) (after : List ℕ) (j : ℕ) → Cut s chunks → length chunks ≤ j → Gathered s before after j → after ≡ buffer_after before (flat_in s)
  unfolding buffer_after t
  gather_all chunks after j cut all c =
      let done_all : j ≡ count s t = omega (arith, c.few, cut.count, all) in
      c.so_far
      ∙ front_lent s before t j c.few
      ∙ ap (λ (k : ℕ). written before 0 (concatenated (take k t.parts))) done_all
      ∙ ap (λ (l : List (List ℕ)). written before 0 (concatenated l)) (all_parts s t)
      ∙ sym (ap (buffer_after before) t.gives)

  -- a block holds the records that it uses
  pub gather_inside : (chunks : List (List ℕ)) (j word used : ℕ) → Cut s chunks → j < length chunks → word ≡ number_at 2 (slice_index_or chunks j []) used_offset → used ≡ word
      → record_bytes * used ≤ length (slice_index_or chunks j [])
  unfolding t
  gather_inside chunks j word used cut below says wide =
      let more : j < length s / block_bytes = omega (arith, below, cut.count) in
      rw (wide, says, chunk_at s chunks j cut below) (omega (arith, length_block s t j more, (used_some (length s / block_bytes) j _ (share s t j more).fits).1))

pub gather_length : (s before after : List ℕ) (j : ℕ) → Gathered s before after j → length after ≡ length before
gather_length s before after j c = ap length c.so_far ∙ length_lent before _

pub ruleset gathered = (gather_none, gather_more, gather_all, gather_inside, gather_length)

-- ---- the ways out of `from_blocks`

-- the flat records, as long as they are said to be
record Flat (s : List ℕ) (bytes : ℕ) : Type 0 where
  records : List ℕ
  is : flat_in s ≡ done records
  measure : length records ≡ bytes

flat : (s : List ℕ) (bytes : ℕ) → done bytes ≡ on_value length (flat_in s) → Flat s bytes
flat s bytes e =
    let v = value_inv length (flat_in s) bytes (sym e) in
    record { records = v.value; is = v.first; measure = v.second }

pub take_refused : (s before : List ℕ) (rows : Answer (Unit {0}) Refused) (r : Refused) (out : Answer ℕ Refused) → verdict_result rows ≡ verdict (flat_in s) → rows ≡ Err r → IsErrAnd out (λ q. q ≡ r)
    → FilledBuffer (flat_in s) before before out
take_refused s before rows r out reported is = put_raised _ before r out (refused_is (flat_in s) (number r.why) r.position (sym reported ∙ ap verdict_result is))

pub take_passes : (s : List ℕ) (rows : Answer (Unit {0}) Refused) → verdict_result rows ≡ verdict (flat_in s) → rows ≡ Ok tt → verdict (flat_in s) ≡ done tt
take_passes s rows reported is = sym reported ∙ ap verdict_result is

pub take_done : (s before after : List ℕ) (bytes : ℕ) → done bytes ≡ on_value length (flat_in s) → after ≡ buffer_after before (flat_in s)
    → FilledBuffer (flat_in s) before after (Ok bytes)
unfolding buffer_after
take_done s before after bytes e wrote =
    let f = flat s bytes e in
    put_done _ before after f.records bytes f.is f.measure (wrote ∙ ap (buffer_after before) f.is)

pub ruleset taken_out = (take_refused, take_passes, take_done)
