-- A law for each way out of the file reader and writer. The reader's own buffer holds every file's
-- flat records, so the block rows never refuse for lack of room.
use Prim.Native.Nat.{ℕ, ◌≤◌, ◌<◌}
use mathlib.Core.List.{List}
use mathlib.Core.Path.{◌≡◌, refl, sym, ap, ◌∙◌}
use lib.ListN.{length, take}
use Rattle.formats.specs.Written.{written}
use Rattle.formats.specs.Results.{refusal, and_then, on_value, verdict}
use Rattle.formats.specs.Rows.{read_program}
use Rattle.formats.specs.Blocks.{flat_in, file_of, program_records, read_file, write_file, in_room, read_into, write_into}
use Rattle.formats.specs.Inner.Blocks.{most_bytes, program_into}
use Rattle.formats.proofs.Results.{then_done, then_refused, Value, passed_is, refused_is}
use Rattle.formats.proofs.Files.{within_room, within_short}
use Rattle.std.specs.Prelude.{Result as Answer, Ok, Err}
use Rattle.std.specs.Result.{IsErrAnd}
use Rattle.refusal.specs.declared.Refused.{Refused}
use Rattle.refusal.specs.declared.Refusal.TheVariants.{SpaceTooShort}
use Rattle.refusal.specs.Inner.Numbers.{number}
use Rattle.refusal.specs.Inner.Verdicts.{verdict_result}
use Rattle.refusal.specs.Inner.FilledBuffer.{FilledBuffer}
use Rattle.refusal.proofs.FilledBuffer.{put_refused, put_raised, put_done}
use Rattle.block_reader.proofs.Taken.{not_taken, taken_out, taken_inside}

-- ---- the rows header to prefix form

-- what the rows refuse is no program
rows_refuse : (r : List ℕ) (rows : Answer (Unit {0}) Refused) (e : Refused) → verdict_result rows ≡ verdict (read_program r) → rows ≡ Err e
    → read_program r ≡ refusal (number e.why) e.position
rows_refuse r rows e reported is = refused_is (read_program r) (number e.why) e.position (sym reported ∙ ap verdict_result is)

-- what they pass is one
rows_pass : (r : List ℕ) (rows : Answer (Unit {0}) Refused) → verdict_result rows ≡ verdict (read_program r) → rows ≡ Ok tt → Value (read_program r)
rows_pass r rows reported is = passed_is (read_program r) (sym reported ∙ ap verdict_result is)

module _ (r before : List ℕ) (rows : Answer (Unit {0}) Refused) (reported : verdict_result rows ≡ verdict (read_program r)) where
  -- ---- `put_program`

  pub program_refused : (e : Refused) (out : Answer ℕ Refused) → rows ≡ Err e → IsErrAnd out (λ q. q ≡ e) → FilledBuffer (program_into (length before) r) before before out
  unfolding program_into program_records
  program_refused e out is =
      put_raised _ before e out (then_refused (in_room (length before)) (ap (on_value (λ program. r)) (rows_refuse r rows e reported is)))

  -- flat records that are a program go into the buffer where it has room
  into : rows ≡ Ok tt → program_into (length before) r ≡ in_room (length before) r
  unfolding program_into program_records
  into is = then_done (in_room (length before)) (ap (on_value (λ program. r)) (rows_pass r rows reported is).is)

  pub program_short : rows ≡ Ok tt → length before < length r → (e : Refused) → e ≡ record { why = SpaceTooShort; position = 0 }
      → FilledBuffer (program_into (length before) r) before before (Err e)
  program_short is short e why = rw why (put_refused _ before _ (into is ∙ within_short (length before) r short))

  pub program_put : (after : List ℕ) → rows ≡ Ok tt → length r ≤ length before → after ≡ written before 0 r → FilledBuffer (program_into (length before) r) before after (Ok (length r))
  program_put after is room wrote = put_done _ before after r (length r) (into is ∙ within_room (length before) r room) refl wrote

  -- ---- `write_file`

  pub file_refused : (e : Refused) (out : Answer ℕ Refused) → rows ≡ Err e → IsErrAnd out (λ q. q ≡ e) → FilledBuffer (write_into (length before) r) before before out
  unfolding write_into write_file
  file_refused e out is =
      put_raised _ before e out (then_refused (in_room (length before)) (ap (on_value (λ program. file_of r)) (rows_refuse r rows e reported is)))

  pub file_put : (after : List ℕ) (filled : Answer ℕ Refused) → rows ≡ Ok tt → FilledBuffer (in_room (length before) (file_of r)) before after filled → FilledBuffer (write_into (length before) r) before after filled
  unfolding write_into write_file
  file_put after filled is put = rw (then_done (in_room (length before)) (ap (on_value (λ program. file_of r)) (rows_pass r rows reported is).is)) put

pub ruleset program_ways = (program_refused, program_short, program_put)

pub ruleset write_ways = (file_refused, file_put)

-- ---- `read_file`

module _ (s space : List ℕ) (size : length space ≡ most_bytes) (after : List ℕ) (taken : Answer ℕ Refused) (put : FilledBuffer (flat_in s) space after taken) where
  pub read_refused : (before : List ℕ) (e : Refused) (out : Answer ℕ Refused) → taken ≡ Err e → IsErrAnd out (λ q. q ≡ e) → FilledBuffer (read_into (length before) s) before before out
  unfolding read_into read_file
  read_refused before e out is =
      put_raised _ before e out (then_refused (in_room (length before)) (then_refused program_records (not_taken s space size after taken put e is)))

  pub read_put : (before last : List ℕ) (bytes : ℕ) (filled : Answer ℕ Refused) → taken ≡ Ok bytes → FilledBuffer (program_into (length before) (take bytes after)) before last filled
      → FilledBuffer (read_into (length before) s) before last filled
  unfolding read_into read_file program_into
  read_put before last bytes filled is p =
      let f = taken_out s space size after taken put bytes is in
      let same : read_into (length before) s ≡ program_into (length before) (take bytes after) =
      ap (λ r. and_then r (in_room (length before))) (then_done program_records f.is) ∙ ap (program_into (length before)) (sym f.there) in
      rw same p

pub ruleset read_ways = (read_refused, taken_inside, read_put)
