-- The translator's calls: a law for each way out of them.
use Prim.Native.Nat.{ℕ, ◌*◌, ◌≤◌, ◌<◌}
use mathlib.Core.List.{List}
use mathlib.Core.Path.{◌≡◌, sym, ap, ◌∙◌}
use native.Mathlib.Omega.{arith}
use lib.ListN.{length, take}
use Rattle.formats.specs.Records.{record_bytes}
use Rattle.formats.specs.Results.{done, verdict, refusal}
use Rattle.formats.specs.Blocks.{flat_in, in_room}
use Rattle.formats.specs.Programs.{Program}
use Rattle.formats.specs.Inner.Blocks.{most_bytes}
use Rattle.formats.proofs.Results.{Value, passed_is, refused_is, then_done, then_refused}
use Rattle.formats.proofs.Files.{within_room, within_short}
use Rattle.refusal.specs.Inner.Numbers.{number}
use Rattle.refusal.specs.Inner.FilledBuffer.{FilledBuffer}
use Rattle.refusal.specs.Inner.Verdicts.{verdict_result}
use Rattle.refusal.specs.declared.Refusal.TheVariants.{SpaceTooShort}
use Rattle.refusal.specs.declared.Refused.{Refused}
use Rattle.std.specs.Prelude.{Result as Answer, Ok, Err}
use Rattle.std.specs.Result.{IsErrAnd}
use Rattle.refusal.proofs.FilledBuffer.{put_refused, put_raised, put_done}
use Rattle.rules.specs.PassTwo.{check_records}
use Rattle.block_reader.proofs.Taken.{not_taken, taken_out, taken_inside}
use Rattle.translation.specs.Templates.{operations_of, code_of}
use Rattle.translation.specs.TranslateAndRun.{checked_records, translate_records, translate_file}
use Rattle.translation.proofs.Calls.{as_checked}
use Rattle.translate.specs.declared.Table.{Table}
use Rattle.translate.specs.Inner.Walk.{HasEntries, EmitsAll}
use Rattle.translate.proofs.Written.{length_bytes}

-- ---- `translate_records`

module _ (s code' : List ℕ) (checks : Answer (Unit {0}) Refused) (reported : verdict_result checks ≡ check_records s) where
  pub records_refused : (r : Refused) (out : Answer ℕ Refused) → checks ≡ Err r → IsErrAnd out (λ q. q ≡ r) → FilledBuffer (translate_records (length code') s) code' code' out
  unfolding translate_records
  records_refused r out is =
      put_raised _ code' r out (then_refused _ (refused_is (checked_records s) (number r.why) r.position (sym (as_checked s) ∙ sym reported ∙ ap verdict_result is)))

  module _ (u : Unit {0}) (passes : checks ≡ Ok u) where
    pub records_asked : verdict (checked_records s) ≡ done tt
    records_asked = sym (as_checked s) ∙ sym reported ∙ ap verdict_result passes

    -- the program that passes, and its code
    the_program : Value (checked_records s)
    the_program = passed_is (checked_records s) records_asked

    into : translate_records (length code') s ≡ in_room (length code') (code_of the_program.value)
    unfolding translate_records
    into = then_done (λ program. in_room (length code') (code_of program)) the_program.is

    -- the first time it is only measured
    module _ (no_entries no_code no_code' : List ℕ) (t : Table) (measured : EmitsAll s no_entries no_code no_code' t) where
      long : length (code_of the_program.value) ≡ record_bytes * t.instructions
      unfolding code_of
      long = length_bytes (operations_of the_program.value) ∙ ap (λ n. record_bytes * n) (sym (measured.counted the_program.value the_program.is))

      pub records_short : length code' < record_bytes * t.instructions → (r : Refused) → r ≡ record { why = SpaceTooShort; position = 0 } → FilledBuffer (translate_records (length code') s) code' code' (Err r)
      records_short short r is = put_refused _ code' r (into ∙ within_short (length code') _ (omega (arith, long)) ∙ ap (λ (x : Refused). refusal (number x.why) x.position) (sym is))

      pub records_ready : record_bytes * t.instructions ≤ length code' → (program : Program) → checked_records s ≡ done program
          → HasEntries t.entries program × (record_bytes * length (operations_of program) ≤ length code')
      records_ready room program e = (measured.entries_found program e, omega (arith, measured.counted program e))

      pub records_emitted : (after : List ℕ) (again : Table) → record_bytes * t.instructions ≤ length code' → EmitsAll s t.entries code' after again
          → FilledBuffer (translate_records (length code') s) code' after (Ok (record_bytes * t.instructions))
      records_emitted after again room l =
          let v = the_program in
          let fits : record_bytes * length (operations_of v.value) ≤ length code' = omega (arith, measured.counted v.value v.is) in
          put_done _ code' after (code_of v.value) (record_bytes * t.instructions) (into ∙ within_room (length code') _ (omega (arith, long))) long (l.is v.value v.is (measured.entries_found v.value v.is) fits)

pub ruleset records_ways = (records_refused, records_asked, records_short, records_emitted)

-- ---- `translate_file`

module _ (s space : List ℕ) (size : length space ≡ most_bytes) (after : List ℕ) (taken : Answer ℕ Refused) (put : FilledBuffer (flat_in s) space after taken) where
  pub file_refused : (before : List ℕ) (r : Refused) (out : Answer ℕ Refused) → taken ≡ Err r → IsErrAnd out (λ q. q ≡ r) → FilledBuffer (translate_file (length before) s) before before out
  unfolding translate_file
  file_refused before r out is = put_raised _ before r out (then_refused (translate_records (length before)) (not_taken s space size after taken put r is))

  pub file_put : (before last : List ℕ) (bytes : ℕ) (filled : Answer ℕ Refused) → taken ≡ Ok bytes → FilledBuffer (translate_records (length before) (take bytes after)) before last filled
      → FilledBuffer (translate_file (length before) s) before last filled
  unfolding translate_file
  file_put before last bytes filled is p =
      let f = taken_out s space size after taken put bytes is in
      rw (then_done (translate_records (length before)) f.is ∙ ap (translate_records (length before)) (sym f.there)) p

pub ruleset file_ways = (file_refused, taken_inside, file_put)
