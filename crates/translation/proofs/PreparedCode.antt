-- Code that was prepared is that of a checked program, and no state that its run comes to is
-- refused with 19: with one unit more than there are steps up to there, the whole run would be
-- (`EveryRun.never_19`).
use Prim.Native.Nat.{ℕ, ◌+◌}
use mathlib.Core.Bool.{◌&&◌}
use mathlib.Core.List.{List}
use mathlib.Core.Logic.{◌≢◌}
use mathlib.Core.Path.{◌≡◌, refl, sym, ap, ◌∙◌}
use native.Mathlib.Omega.{arith}
use borrow.Author.Tests.{le-leb, leb-true}
use lib.Dec.{leb}
use lib.ListN.{length}
use Rattle.formats.specs.Numbers.{Bytes}
use Rattle.formats.specs.Refusals.{space_too_short, cannot_perform}
use Rattle.formats.specs.Results.{done, refusal}
use Rattle.formats.specs.Programs.{Program}
use Rattle.formats.specs.Rows.{read_program}
use Rattle.formats.specs.Blocks.{flat_in, program_in, in_room}
use Rattle.formats.proofs.Results.{then_done, then_inv, value_inv, check_inv, both_held}
use Rattle.rules.specs.PassTwo.{both_passes}
use Rattle.meaning.specs.Performing.{State, start, refuses, step}
use Rattle.meaning.specs.Running.{outcome_of, of_code, value_words, return_words, stream_run}
use Rattle.meaning.specs.StreamRun.{Steps, stuck}
use Rattle.meaning.proofs.Runs.{runs}
use Rattle.translation.specs.Templates.{code_of}
use Rattle.translation.specs.TranslateAndRun.{checked_records, translate_records, translate_file, prepared, Ready}
use Rattle.translation.proofs.Calls.{called_runs, program_run}

-- the checked program whose code was prepared
pub record Own (file code : List ℕ) (values returns : ℕ) : Type 0 where
  pub program : Program
  pub ready : Ready file code values returns program

pub own_program : (file code : List ℕ) (values returns : ℕ) (bytes : List ℕ) → prepared (length code) values returns file ≡ done bytes → Own file code values returns
unfolding prepared translate_file translate_records checked_records in_room program_in
own_program file code values returns bytes e =
    let t = then_inv (translate_file (length code) file) _ bytes e in
    let lent = check_inv (leb value_words values && leb return_words returns) space_too_short 0 t.value bytes t.second in
    let both = both_held (leb value_words values) (leb return_words returns) lent.held in
    let f = then_inv (flat_in file) (translate_records (length code)) t.value t.first in
    let v = then_inv (checked_records f.value) _ t.value f.second in
    let room = check_inv (leb (length (code_of v.value)) (length code)) space_too_short 0 (code_of v.value) t.value v.second in
    let p = then_inv (read_program f.value) _ v.value v.first in
    let passed = value_inv (λ u. p.value) (both_passes p.value) v.value p.second in
    record {
      program = v.value;
      ready = record {
        in_file = then_done read_program f.first ∙ p.first ∙ ap done passed.second;
        passes = ap both_passes (sym passed.second) ∙ passed.first;
        room = leb-true _ _ room.held;
        words_lent = leb-true _ _ both.0;
        returns_lent = leb-true _ _ both.1;
      };
    }

module _ (file code : List ℕ) (values returns : ℕ) (file_bytes : Bytes file) (bytes : List ℕ) (is : prepared (length code) values returns file ≡ done bytes)
    (input output : List ℕ) (input_bytes : Bytes input) (past : List ℕ) (t : State) (led : Steps (of_code bytes input (length output)) past start t) where
  -- a run that would be refused with 19 after these steps, with one unit more
  refused_there : step (of_code bytes input (length output)) t ≡ refuses cannot_perform
      → (stream_run bytes input output (length past + 1) values returns).answer.outcome ≡ refusal cannot_perform t.read
  unfolding stream_run outcome_of
  refused_there e =
      let ready = (own_program file code values returns bytes is).ready in
      let whole = (runs (of_code bytes input (length output)) start).only_one (length past + 1) _ (stuck led (omega arith) e) in
      rw (stream_run, le-leb _ _ ready.words_lent, le-leb _ _ ready.returns_lent, ← whole) refl

  pub never_cannot : step (of_code bytes input (length output)) t ≢ refuses cannot_perform
  never_cannot e =
      let own = own_program file code values returns bytes is in
      let fuel = length past + 1 in
      let call = program_run file code values returns file_bytes input output fuel _ _ input_bytes refl refl in
      let outcome = ap (λ q. q.answer.outcome) (called_runs file input output code fuel values returns bytes is) in
      (call.any_input own.program own.ready).never_19 t.read (outcome ∙ refused_there e)
