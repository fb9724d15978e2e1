-- Laws of writing blocks. Each write goes right after the one before it, so that all of them are
-- one write: of a block's body, of a block, of the file.
use Prim.Native.Nat.{ℕ, zero, suc, ◌+◌, ◌*◌, ◌-◌, ◌/◌, ◌%◌, ◌≤◌, ◌<◌, min}
use mathlib.Core.List.{List, [], ◌∷◌, ◌++◌, append_assoc, append-nil}
use mathlib.Core.Path.{◌≡◌, refl, sym, ap, ap₂, ◌∙◌}
use lib.Dec.{lit<}
use native.Mathlib.Nat.{add-mul-div_left, add-mul-mod_self_left, zero-add, add-zero, add-suc, suc-add, add-sub_of_le}
use native.Mathlib.Numerals.{add-one}
use native.Mathlib.Decide.{dec_le}
use native.Mathlib.Omega.{arith}
use lib.ListN.{length, take, drop, replicate, length-append, length-drop, length-take, length-replicate, drop_of_length-le, replicate-append-replicate}
use lib.Seq.{length-take-le, take_all, drop_at, drop-drop, take-append_seam}
use Rattle.formats.specs.Numbers.{bytes_of}
use Rattle.formats.specs.Written.{written}
use Rattle.formats.specs.Records.{record_bytes}
use Rattle.formats.specs.Blocks.{block_bytes, records_bytes, number_offset, used_offset, blocks_offset, word_sum, check_target, word_limit, check_word, block_body, block_of, blocks_from, blocks_for, file_of, in_room}
use Rattle.formats.specs.Inner.Blocks.{check_offset}
use Rattle.formats.proofs.Numbers.{length_bytes_of}
use Rattle.formats.proofs.Written.{written_none, written_fits, written_append, wrote}
use Rattle.formats.proofs.Blocks.{padded, length_padded, length_body, length_block}
use Rattle.formats.proofs.Files.{length_blocks, length_file, within_room, within_short}
use Rattle.std.specs.Prelude.{Ok, Err}
use Rattle.refusal.specs.declared.Refusal.TheVariants.{SpaceTooShort}
use Rattle.refusal.specs.declared.Refused.{Refused}
use Rattle.refusal.specs.Inner.FilledBuffer.{FilledBuffer}
use Rattle.refusal.proofs.FilledBuffer.{put_refused, put_done}

-- a write right after another one joins it
write_later : (s t u : List ℕ) (p q : ℕ) (vs ws : List ℕ) → t ≡ written s p vs → u ≡ written t q ws → q ≡ p + length vs → p + length (vs ++ ws) ≤ length s
    → u ≡ written s p (vs ++ ws)
write_later s t u p q vs ws first second position room =
    second ∙ ap₂ (λ (l : List ℕ) (k : ℕ). written l k ws) first position ∙ written_append s p vs ws room

-- ---- the body of a block

-- the two bytes of a number depend on its low 16 bits alone
bytes_of_low : (n q : ℕ) → bytes_of 2 (n + 256 * (256 * q)) ≡ bytes_of 2 n
unfolding bytes_of
bytes_of_low n q =
    let high : (n + 256 * (256 * q)) / 256 ≡ n / 256 + 256 * q = add-mul-div_left n (256 * q) (lit< tt) in
    ap₂ (λ (a b : ℕ). a ∷ b ∷ []) (add-mul-mod_self_left n 256 (256 * q)) (ap (λ (m : ℕ). m % 256) high ∙ add-mul-mod_self_left (n / 256) 256 q)

bytes_of_word : (n : ℕ) → bytes_of 2 (n % word_limit) ≡ bytes_of 2 n
bytes_of_word n =
    let whole : n % word_limit + 256 * (256 * (n / word_limit)) ≡ n = omega arith in
    sym (bytes_of_low (n % word_limit) (n / word_limit)) ∙ ap (bytes_of 2) whole

-- n zeros
abbrev blank : ℕ → List ℕ
blank n = replicate n 0

length_blank : (n : ℕ) → length (blank n) ≡ n
length_blank n = length-replicate {A = ℕ} n 0

-- what is left of zeros is zeros
drop_blank : (n m : ℕ) → n ≤ m → drop n (blank m) ≡ blank (m - n)
drop_blank n m h =
    ap (λ (k : ℕ). drop n (blank k)) (sym (add-sub_of_le h))
    ∙ ap (drop n) (sym (replicate-append-replicate {A = ℕ} n (m - n) 0))
    ∙ drop_at (blank n) (blank (m - n)) n (length_blank n)

-- a part written over zeros is followed by zeros
over_zeros : (t part : List ℕ) → length part ≤ records_bytes → t ≡ written (blank block_bytes) 0 part → t ≡ written (blank block_bytes) 0 (padded part)
over_zeros t part short first =
    let S : List ℕ = blank block_bytes in
    let size : length S ≡ block_bytes = length_blank block_bytes in
    let rest : ℕ = records_bytes - length part in
    let after : drop (0 + length part) S ≡ blank (block_bytes - length part) =
    ap (λ (k : ℕ). drop k S) (zero-add (length part)) ∙ drop_blank (length part) block_bytes (omega arith) in
    let sum : block_bytes - length part ≡ rest + (block_bytes - records_bytes) = omega arith in
    let two : blank (block_bytes - length part) ≡ blank rest ++ blank (block_bytes - records_bytes) =
    ap blank sum ∙ sym (replicate-append-replicate {A = ℕ} rest (block_bytes - records_bytes) 0) in
    let long : length (padded part) ≡ records_bytes = length_padded part short in
    let end : drop (0 + length (padded part)) S ≡ blank (block_bytes - records_bytes) =
    ap (λ (k : ℕ). drop (0 + k) S) long ∙ drop_blank records_bytes block_bytes (omega arith) in
    first
    ∙ written_fits S 0 part (omega arith)
    ∙ ap (λ (l : List ℕ). part ++ l) (after ∙ two)
    ∙ sym (append_assoc part (blank rest) (blank (block_bytes - records_bytes)))
    ∙ ap (λ (l : List ℕ). padded part ++ l) (sym end)
    ∙ sym (written_fits S 0 (padded part) (omega arith))

-- .. and so is one after which zeros are written, in any buffer
pub records_written : (s t u part : List ℕ) (start : ℕ)
    → start + block_bytes ≤ length s
    → length part ≤ records_bytes
    → t ≡ written s start part
    → u ≡ written t (start + length part) (take (records_bytes - length part) (drop (length part) (blank records_bytes)))
    → u ≡ written s start (padded part)
records_written s t u part start room short first second =
    let n : ℕ = records_bytes - length part in
    let left : take n (drop (length part) (blank records_bytes)) ≡ blank n =
    ap (take n) (drop_blank (length part) records_bytes short) ∙ take_all n (blank n) (omega (arith, length_blank n)) in
    let zeros : u ≡ written t (start + length part) (blank n) = second ∙ ap (written t (start + length part)) left in
    write_later s t u start (start + length part) part (blank n) first zeros refl (omega (arith, length_padded part short))

pub body_written : (s s1 s2 s3 s4 part : List ℕ) (start j blocks : ℕ)
    → start + block_bytes ≤ length s
    → length part ≤ records_bytes
    → s1 ≡ written s start (padded part)
    → s2 ≡ written s1 (start + number_offset) (bytes_of 2 (j % word_limit))
    → s3 ≡ written s2 (start + used_offset) (bytes_of 2 (length part / record_bytes))
    → s4 ≡ written s3 (start + blocks_offset) (bytes_of 2 (blocks % word_limit))
    → s4 ≡ written s start (block_body part j blocks)
unfolding block_body
body_written s s1 s2 s3 s4 part start j blocks room short w1 w2 w3 w4 =
    let P : List ℕ = padded part in
    let N : List ℕ = bytes_of 2 j in
    let U : List ℕ = bytes_of 2 (length part / record_bytes) in
    let B : List ℕ = bytes_of 2 blocks in
    let l1 : length P ≡ number_offset = length_padded part short in
    let l2 : length (P ++ N) ≡ used_offset = length-append P N ∙ omega (arith, l1, length_bytes_of 2 j) in
    let l3 : length ((P ++ N) ++ U) ≡ blocks_offset = length-append (P ++ N) U ∙ omega (arith, l2, length_bytes_of 2 (length part / record_bytes)) in
    let l4 : length (((P ++ N) ++ U) ++ B) ≡ check_offset = length-append ((P ++ N) ++ U) B ∙ omega (arith, l3, length_bytes_of 2 blocks) in
    let n : s2 ≡ written s1 (start + number_offset) N = w2 ∙ ap (written s1 (start + number_offset)) (bytes_of_word j) in
    let b : s4 ≡ written s3 (start + blocks_offset) B = w4 ∙ ap (written s3 (start + blocks_offset)) (bytes_of_word blocks) in
    let b2 = write_later s s1 s2 start (start + number_offset) P N w1 n (omega arith) (omega arith) in
    let b3 = write_later s s2 s3 start (start + used_offset) (P ++ N) U b2 w3 (omega arith) (omega arith) in
    let b4 = write_later s s3 s4 start (start + blocks_offset) ((P ++ N) ++ U) B b3 b (omega arith) (omega arith) in
    b4 ∙ ap (written s start) (simp append_assoc)

-- ---- the check

-- what was written is read there
written_there : (s : List ℕ) (p : ℕ) (vs : List ℕ) → p + length vs ≤ length s → take (length vs) (drop p (written s p vs)) ≡ vs
written_there s p vs h =
    ap (λ (l : List ℕ). take (length vs) (drop p l)) (written_fits s p vs h)
    ∙ ap (take (length vs)) (drop_at (take p s) (vs ++ drop (p + length vs) s) p (length-take-le p s (omega arith)))
    ∙ take-append_seam vs (drop (p + length vs) s)

pub check_written : (s t u part : List ℕ) (start j blocks sum : ℕ)
    → start + block_bytes ≤ length s
    → length part ≤ records_bytes
    → t ≡ written s start (block_body part j blocks)
    → sum ≡ word_sum (take check_offset (drop start t)) % word_limit
    → u ≡ written t (start + check_offset) (bytes_of 2 (check_target - sum))
    → u ≡ written s start (block_of part j blocks)
unfolding block_of check_word
check_written s t u part start j blocks sum room short first added second =
    let body : List ℕ = block_body part j blocks in
    let word : List ℕ = bytes_of 2 (check_word body) in
    let size : length body ≡ check_offset = length_body part j blocks short in
    let all : length (block_of part j blocks) ≡ block_bytes = length_block part j blocks short in
    let long : check_offset ≡ length body = omega arith in
    let there : take check_offset (drop start t) ≡ body =
    ap₂ (λ (k : ℕ) (l : List ℕ). take k (drop start l)) long first ∙ written_there s start body (omega arith) in
    let right : check_target - sum ≡ check_word body = ap (λ (m : ℕ). check_target - m) (added ∙ ap (λ (l : List ℕ). word_sum l % word_limit) there) in
    let check : u ≡ written t (start + check_offset) word = second ∙ ap (λ (m : ℕ). written t (start + check_offset) (bytes_of 2 m)) right in
    write_later s t u start (start + check_offset) body word first check (omega arith) (omega arith)

-- the words that are summed are there
pub block_summed : (s1 s2 s3 s4 part v2 v3 v4 : List ℕ)
    → s1 ≡ written (blank block_bytes) 0 part
    → s2 ≡ written s1 number_offset v2
    → s3 ≡ written s2 used_offset v3
    → s4 ≡ written s3 blocks_offset v4
    → check_offset ≡ length (take check_offset s4)
block_summed s1 s2 s3 s4 part v2 v3 v4 w1 w2 w3 w4 =
    let l1 : length s1 ≡ block_bytes = ap length w1 ∙ (wrote (blank block_bytes) 0 part).same_length ∙ length_blank block_bytes in
    let l2 : length s2 ≡ block_bytes = ap length w2 ∙ (wrote s1 number_offset v2).same_length ∙ l1 in
    let l3 : length s3 ≡ block_bytes = ap length w3 ∙ (wrote s2 used_offset v3).same_length ∙ l2 in
    let l4 : length s4 ≡ block_bytes = ap length w4 ∙ (wrote s3 blocks_offset v4).same_length ∙ l3 in
    sym (length-take-le check_offset s4 (omega (arith, l4)))

-- all of a block is written over zeros
pub block_made : (s1 s2 s3 s4 s5 part : List ℕ) (j blocks sum : ℕ)
    → length part ≤ records_bytes
    → s1 ≡ written (blank block_bytes) 0 part
    → s2 ≡ written s1 number_offset (bytes_of 2 (j % word_limit))
    → s3 ≡ written s2 used_offset (bytes_of 2 (length part / record_bytes))
    → s4 ≡ written s3 blocks_offset (bytes_of 2 (blocks % word_limit))
    → sum ≡ word_sum (take check_offset s4) % word_limit
    → s5 ≡ written s4 check_offset (bytes_of 2 (check_target - sum))
    → s5 ≡ block_of part j blocks
block_made s1 s2 s3 s4 s5 part j blocks sum short w1 w2 w3 w4 added w5 =
    let S : List ℕ = blank block_bytes in
    let size : length S ≡ block_bytes = length_blank block_bytes in
    let room : 0 + block_bytes ≤ length S = omega arith in
    let body = body_written S s1 s2 s3 s4 part 0 j blocks room short (over_zeros s1 part short w1) w2 w3 w4 in
    let all : length (block_of part j blocks) ≡ block_bytes = length_block part j blocks short in
    check_written S s4 s5 part 0 j blocks sum room short body added w5
    ∙ written_fits S 0 (block_of part j blocks) (omega arith)
    ∙ ap (λ (l : List ℕ). block_of part j blocks ++ l) (ap (λ (k : ℕ). drop (0 + k) S) all ∙ drop_blank block_bytes block_bytes (omega arith))
    ∙ append-nil (block_of part j blocks)

-- ---- the blocks one after the other

-- one more block after those that are there
blocks_more : (blocks k j : ℕ) (s : List ℕ)
    → blocks_from blocks (suc k) j s ≡ blocks_from blocks k j s ++ block_of (take records_bytes (drop (records_bytes * k) s)) (j + k) blocks
unfolding blocks_from
blocks_more blocks zero j s =
    append-nil (block_of (take records_bytes s) j blocks) ∙ ap (λ (i : ℕ). block_of (take records_bytes s) i blocks) (sym (add-zero j))
blocks_more blocks (suc k) j s =
    let first : List ℕ = block_of (take records_bytes s) j blocks in
    let rest : List ℕ = drop records_bytes s in
    let position : drop (records_bytes * k) rest ≡ drop (records_bytes * suc k) s =
    drop-drop (records_bytes * k) records_bytes s ∙ (let e : records_bytes + records_bytes * k ≡ records_bytes * suc k = omega arith in ap (λ (i : ℕ). drop i s) e) in
    ap (λ (l : List ℕ). first ++ l) (blocks_more blocks k (suc j) rest)
    ∙ sym (append_assoc first (blocks_from blocks k (suc j) rest) _)
    ∙ ap₂ (λ (l : List ℕ) (i : ℕ). (first ++ blocks_from blocks k (suc j) rest) ++ block_of (take records_bytes l) i blocks) position (suc-add j k ∙ sym (add-suc j k))

-- the first j blocks are written
pub record Stored (s before after : List ℕ) (blocks j : ℕ) : Type 0 where
  pub few : j ≤ blocks
  pub same_length : length after ≡ length before
  pub so_far : after ≡ written before 0 (blocks_from blocks j 0 s)

pub stored_none : (s before : List ℕ) (blocks : ℕ) → Stored s before before blocks 0
unfolding blocks_from
stored_none s before blocks = record { few = omega arith; same_length = refl; so_far = sym (written_none before 0) }

pub stored_part : (s : List ℕ) (blocks j : ℕ) → blocks ≡ blocks_for (length s) → j < blocks → records_bytes * j ≤ length s
unfolding blocks_for
stored_part s blocks j count more = omega arith

pub stored_room : (s before after : List ℕ) (blocks j : ℕ) → block_bytes * blocks ≤ length before → j < blocks → Stored s before after blocks j
    → block_bytes * j + block_bytes ≤ length after
stored_room s before after blocks j room more c = omega (arith, c.same_length)

pub stored_short : (s part : List ℕ) (j : ℕ) → part ≡ take records_bytes (drop (records_bytes * j) s) → length part ≤ records_bytes
stored_short s part j is = rw (is, length-take) (omega arith)

pub stored_more : (s before after next part made : List ℕ) (blocks j : ℕ)
    → block_bytes * blocks ≤ length before
    → j < blocks
    → Stored s before after blocks j
    → part ≡ take records_bytes (drop (records_bytes * j) s)
    → made ≡ block_of part j blocks
    → next ≡ written after (block_bytes * j) made
    → Stored s before next blocks (j + 1)
stored_more s before after next part made blocks j room more c is makes second =
    let block : List ℕ = block_of (take records_bytes (drop (records_bytes * j) s)) j blocks in
    let front : List ℕ = blocks_from blocks j 0 s in
    let both : blocks_from blocks (suc j) 0 s ≡ front ++ block =
    blocks_more blocks j 0 s ∙ ap (λ (i : ℕ). front ++ block_of (take records_bytes (drop (records_bytes * j) s)) i blocks) (zero-add j) in
    let size : length (front ++ block) ≡ block_bytes * suc j = ap length (sym both) ∙ length_blocks blocks (suc j) 0 s in
    let later : next ≡ written after (block_bytes * j) block = second ∙ ap (written after (block_bytes * j)) (makes ∙ ap (λ (p : List ℕ). block_of p j blocks) is) in
    record {
      few = omega arith;
      same_length = ap length later ∙ (wrote after (block_bytes * j) block).same_length ∙ c.same_length;
      so_far =
          rw add-one
          (write_later before after next 0 (block_bytes * j) front block c.so_far later (omega (arith, length_blocks blocks j 0 s)) (omega arith)
          ∙ ap (written before 0) (sym both));
    }

pub stored_length : (s before after : List ℕ) (blocks j : ℕ) → Stored s before after blocks j → length after ≡ length before
stored_length s before after blocks j c = c.same_length

pub stored_all : (s before after : List ℕ) (blocks j : ℕ) → blocks ≡ blocks_for (length s) → blocks ≤ j → Stored s before after blocks j → after ≡ written before 0 (file_of s)
unfolding file_of
stored_all s before after blocks j count all c =
    let done_all : j ≡ blocks = omega (arith, c.few) in
    c.so_far
    ∙ ap (λ (n : ℕ). written before 0 (blocks_from blocks n 0 s)) done_all
    ∙ ap (λ (n : ℕ). written before 0 (blocks_from n n 0 s)) count

-- the loop: so many blocks are written, and the records after theirs are left to cut
pub record Storing (s before after : List ℕ) (blocks : ℕ) (left : List ℕ) (size count : ℕ) : Type 0 where
  pub stored : Stored s before after blocks count
  pub left_is : left ≡ drop (records_bytes * count) s
  pub size_is : size ≡ records_bytes

pub storing_none : (s before : List ℕ) (blocks : ℕ) (left : List ℕ) (size count : ℕ) → left ≡ s → size ≡ records_bytes → count ≡ 0 → Storing s before before blocks left size count
storing_none s before blocks left size count all is none = rw (all, none) (record { stored = stored_none s before blocks; left_is = refl; size_is = is })

-- a part has its full size, or is all that is left
part_cut : (left part rest : List ℕ) → left ≡ part ++ rest → length part ≡ min records_bytes (length left) → (part ≡ take records_bytes left) × (rest ≡ drop records_bytes left)
part_cut left part rest both size =
    let first : take (length part) left ≡ part = ap (take (length part)) both ∙ take-append_seam part rest in
    let second : drop (length part) left ≡ rest = ap (drop (length part)) both ∙ drop_at part rest (length part) refl in
    elim (dec_le records_bytes (length left)) [
      | yes whole ↦
          let full : length part ≡ records_bytes = omega (arith, size, whole) in
          (sym first ∙ ap (λ (k : ℕ). take k left) full, sym second ∙ ap (λ (k : ℕ). drop k left) full)
      | no cut ↦
          let all : length left ≤ length part = omega (arith, size, cut) in
          let short : length left ≤ records_bytes = omega (arith, cut) in (
            sym first ∙ take_all (length part) left all ∙ sym (take_all records_bytes left short),
            sym second ∙ drop_of_length-le left all ∙ sym (drop_of_length-le left short),
          )
    ]

module _ (s before after : List ℕ) (blocks : ℕ) (left : List ℕ) (size count : ℕ) (c : Storing s before after blocks left size count) (counted : blocks ≡ blocks_for (length s)) where
  pub storing_short : (part : List ℕ) → length part ≡ min size (length left) → length part ≤ records_bytes
  storing_short part is = omega (arith, is, c.size_is)

  pub storing_more : (next part rest made : List ℕ) (size' count' j : ℕ) → block_bytes * blocks ≤ length before
      → size' ≡ size → left ≡ part ++ rest → length part ≡ min size (length left) → 0 < length left → j ≡ count → count' ≡ count + 1
      → made ≡ block_of part j blocks → next ≡ written after (block_bytes * j) made
      → Storing s before next blocks rest size' count'
  unfolding blocks_for
  storing_more next part rest made size' count' j room same both is some here up makes put =
      let long : length left ≡ length s - records_bytes * count = ap length c.left_is ∙ length-drop (records_bytes * count) s in
      let more : count < blocks = omega (arith, counted, long, some) in
      let cut = part_cut left part rest both (is ∙ ap (λ (k : ℕ). min k (length left)) c.size_is) in
      let part_is : part ≡ take records_bytes (drop (records_bytes * count) s) = cut.0 ∙ ap (take records_bytes) c.left_is in
      let past : records_bytes * count + records_bytes ≡ records_bytes * (count + 1) = omega arith in
      record {
        stored = rw up (stored_more s before after next part made blocks count room more c.stored part_is (rw here at makes) (rw here at put));
        left_is = rw up (cut.1 ∙ ap (drop records_bytes) c.left_is ∙ drop-drop records_bytes (records_bytes * count) s ∙ ap (λ (k : ℕ). drop k s) past);
        size_is = same ∙ c.size_is;
      }

  pub storing_all : length left ≡ 0 → after ≡ written before 0 (file_of s)
  unfolding blocks_for
  storing_all none =
      let long : length left ≡ length s - records_bytes * count = ap length c.left_is ∙ length-drop (records_bytes * count) s in
      stored_all s before after blocks count counted (omega (arith, counted, long, none)) c.stored

pub storing_length : (s before after : List ℕ) (blocks : ℕ) (left : List ℕ) (size count : ℕ) → Storing s before after blocks left size count → length after ≡ length before
storing_length s before after blocks left size count c = c.stored.same_length

pub ruleset stored = (storing_none, storing_short, storing_more, storing_all, storing_length)

-- ---- the ways out of `to_blocks`

module _ (s before : List ℕ) (count : ℕ) (ceil : count ≡ length s / records_bytes + min 1 (length s % records_bytes)) where
  -- as many blocks as the file has, each whole
  counted : count ≡ blocks_for (length s)
  unfolding blocks_for
  counted = omega (arith, ceil)

  size : length (file_of s) ≡ block_bytes * count
  size = length_file s ∙ ap (λ (n : ℕ). block_bytes * n) (sym counted)

  pub store_short : length before / block_bytes < count → (r : Refused) → r ≡ record { why = SpaceTooShort; position = 0 }
      → FilledBuffer (in_room (length before) (file_of s)) before before (Err r)
  store_short short r is = rw is (put_refused _ before _ (within_short (length before) (file_of s) (omega (arith, size))))

  pub store_room : count ≤ length before / block_bytes → (count ≡ blocks_for (length s)) × (block_bytes * count ≤ length before)
  store_room room = (counted, omega arith)

  pub store_done : (after : List ℕ) → count ≤ length before / block_bytes → after ≡ written before 0 (file_of s)
      → FilledBuffer (in_room (length before) (file_of s)) before after (Ok (block_bytes * count))
  store_done after room wrote = put_done _ before after (file_of s) (block_bytes * count) (within_room (length before) (file_of s) (omega (arith, size))) size wrote

pub ruleset stored_out = (store_short, store_room, store_done)
