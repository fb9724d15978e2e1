-- A law for each way through what comes before a run.
use Prim.Native.Nat.{ℕ, ◌≤◌, ◌<◌}
use mathlib.Core.Bool.{◌&&◌, and-false}
use mathlib.Core.List.{List}
use mathlib.Core.Path.{◌≡◌, sym, ap, ◌∙◌}
use borrow.Author.Tests.{lt-leb}
use lib.Dec.{leb}
use lib.ListN.{length}
use Rattle.formats.proofs.Results.{by_result}
use Rattle.refusal.specs.Inner.Numbers.{number}
use Rattle.refusal.specs.Inner.FilledBuffer.{FilledBuffer}
use Rattle.refusal.proofs.FilledBuffer.{put_refused}
use Rattle.refusal.proofs.Raised.{raised}
use Rattle.refusal.specs.Inner.Verdicts.{verdict_result}
use Rattle.std.specs.Prelude.{Result as Answer, Ok, Err}
use Rattle.std.specs.Result.{IsErrAnd}
use Rattle.refusal.specs.declared.Refusal.TheVariants.{SpaceTooShort}
use Rattle.refusal.specs.declared.Refused.{Refused}
use Rattle.rules.specs.PassTwo.{check_file}
use Rattle.meaning.specs.Running.{value_words, return_words}
use Rattle.translation.specs.TranslateAndRun.{prepared, translate_file}
use Rattle.translation.proofs.Calls.{not_translated, prepared_refused, prepared_short, prepared_code}
use Rattle.prepare.specs.Inner.Words.{TooFewWords}

-- ---- `too_few_words`

module _ (file : List ℕ) (checked : Answer (Unit {0}) Refused) (reported : verdict_result checked ≡ check_file file) where
  pub words_refused : (r : Refused) (out : Answer ℕ Refused) → checked ≡ Err r → IsErrAnd out (λ q. q ≡ r) → TooFewWords file out
  words_refused r out is up = rw (raised out up) (record {
    is = λ code values returns short.
        let stop = not_translated (length code) file (number r.why) r.position (sym reported ∙ ap verdict_result is) in
        put_refused _ code r (prepared_refused (length code) values returns file (number r.why) r.position stop);
  })

  pub words_short : (u : Unit {0}) (r : Refused) → checked ≡ Ok u → r ≡ record { why = SpaceTooShort; position = 0 } → TooFewWords file (Err r)
  words_short u r is at = rw at (record {
    is = λ code values returns short.
        put_refused _ code (record { why = SpaceTooShort; position = 0 }) (prepared_short (length code) values returns file (sym reported ∙ ap verdict_result is) short);
  })

pub ruleset words_ways = (words_refused, words_short)

-- ---- `prepare`

module _ (file code : List ℕ) (values returns : ℕ) (r : Answer ℕ Refused) where
  pub values_missing : values < 16384 → TooFewWords file r → FilledBuffer (prepared (length code) values returns file) code code r
  values_missing missing few = few.is code values returns (rw (lt-leb value_words values missing))

  pub returns_missing : returns < 2048 → TooFewWords file r → FilledBuffer (prepared (length code) values returns file) code code r
  returns_missing missing few =
      few.is code values returns (ap (λ b. leb value_words values && b) (lt-leb return_words returns missing) ∙ and-false (leb value_words values))

  pub words_lent : (after : List ℕ) → 16384 ≤ values → 2048 ≤ returns → FilledBuffer (translate_file (length code) file) code after r → FilledBuffer (prepared (length code) values returns file) code after r
  words_lent after hv hp put = by_result (translate_file (length code) file)
      (λ bytes e. rw (prepared_code (length code) values returns file bytes e hv hp, ← e) put)
      (λ n q e. rw (prepared_refused (length code) values returns file n q e, ← e) put)

pub ruleset prepare_ways = (values_missing, returns_missing, words_lent)
