-- What the translator and the runner give: a law for each way that a call may go, and demand 3
-- about a call that comes to its run.
use Prim.Native.Nat.{ℕ, ◌*◌, ◌≤◌}
use mathlib.Core.Bool.{Bool, true, false, ◌&&◌}
use mathlib.Core.List.{List, [], ◌++◌, append-nil, map}
use mathlib.Core.Path.{◌≡◌, refl, sym, ap, ◌∙◌}
use native.Mathlib.Omega.{arith}
use borrow.Author.Tests.{le-leb, leb-true}
use lib.Dec.{leb}
use lib.ListN.{length, length-map}
use Rattle.formats.specs.Numbers.{Bytes}
use Rattle.formats.specs.Arithmetic.{Op}
use Rattle.formats.specs.Refusals.{space_too_short, out_of_range}
use Rattle.formats.specs.Results.{Result, done, refusal, and_then, on_value, verdict, value_if}
use Rattle.formats.specs.Tokens.{Tree, Labelled, tokens}
use Rattle.formats.specs.Programs.{Program, Lawful}
use Rattle.formats.specs.Rows.{read_program}
use Rattle.formats.specs.Blocks.{flat_in, program_in, in_room, buffer_after}
use Rattle.formats.proofs.Results.{by_result, then_done, then_refused, then_inv, value_inv, check_inv, passed_is, refused_is}
use Rattle.formats.proofs.ProgramFiles.{program_files}
use Rattle.formats.proofs.Records.{length_flat}
use Rattle.formats.proofs.Rows.{flattens}
use Rattle.formats.proofs.Files.{within_room, flat_in_bytes}
use Rattle.rules.specs.PassTwo.{both_passes, check_records, check_file}
use Rattle.meaning.specs.Running.{Answer, Ran, value_words, return_words, most_calls, stream_run}
use Rattle.meaning.specs.OpenCalls.{no_result, refusal_of}
use Rattle.meaning.specs.Unfinished.{Breaks, stop_units, stop_bytes}
use Rattle.meaning.specs.Instructions.{instruction_bytes, most_instructions, instruction_of}
use Rattle.translation.specs.Templates.{operations_of, code_of}
use Rattle.translation.specs.Demand3.{Checked, Given, run_on}
use Rattle.translation.specs.TranslateAndRun.{checked_records, translate_records, translate_file, prepared, refused_before, run_file, FileRan, Ready}
use Rattle.translation.specs.Listing.{NeverShort}
use Rattle.translation.specs.StoppedRuns.{StreamStops}
use Rattle.translation.specs.ThisCall.{ThisCall, AnyCall, ProgramRun, AllRunnable}
use Rattle.translation.proofs.CodeLimits.{code_limits}
use Rattle.translation.proofs.Demand3.{demand_3}
use Rattle.translation.proofs.EveryRun.{every_run}

-- ---- what comes before a run

-- the verdict of the checks is that of reading the program and checking it
pub as_checked : (s : List ℕ) → check_records s ≡ verdict (checked_records s)
unfolding check_records checked_records
as_checked s = by (read_program s)
  where
    same : (program : Program) (r : Result (Unit {0})) → r ≡ verdict (on_value (λ u. program) r)
    same program (done u) = refl
    same program (refusal number position) = refl

    by : (r : Result Program) → and_then r both_passes ≡ verdict (and_then r (λ program. on_value (λ u. program) (both_passes program)))
    by (done program) = same program (both_passes program)
    by (refusal number position) = refl

-- what the checks refuse is not translated ..
pub not_translated : (room : ℕ) (file : List ℕ) (number position : ℕ) → check_file file ≡ refusal number position → translate_file room file ≡ refusal number position
unfolding check_file translate_file translate_records
not_translated room file number position e = by_result (flat_in file)
    (λ s h.
    let stop : check_records s ≡ refusal number position = sym (then_done check_records h) ∙ e in
    then_done (translate_records room) h ∙ then_refused _ (refused_is (checked_records s) number position (sym (as_checked s) ∙ stop)))
    (λ n q h.
    let stop : flat_in file ≡ refusal number position = refused_is (flat_in file) number position (ap verdict h ∙ sym (then_refused check_records h) ∙ e) in
    then_refused (translate_records room) stop)

-- .. and what they pass is, or has no room
pub record Translated (room : ℕ) (file : List ℕ) : Type 0 where
  pub code : List ℕ
  pub is : translate_file room file ≡ in_room room code

pub is_translated : (room : ℕ) (file : List ℕ) → check_file file ≡ done tt → Translated room file
unfolding check_file translate_file translate_records
is_translated room file e =
    let f = then_inv (flat_in file) check_records tt e in
    let v = passed_is (checked_records f.value) (sym (as_checked f.value) ∙ f.second) in
    record { code = code_of v.value; is = then_done _ f.first ∙ then_done _ v.is }

-- code that is given has room
pub has-room : (room : ℕ) (file bytes : List ℕ) → translate_file room file ≡ done bytes → length bytes ≤ room
unfolding translate_file translate_records in_room
has-room room file bytes e =
    let f = then_inv (flat_in file) (translate_records room) bytes e in
    let v = then_inv (checked_records f.value) _ bytes f.second in
    let c = check_inv (leb (length (code_of v.value)) room) space_too_short 0 (code_of v.value) bytes v.second in
    rw c.same at (leb-true (length (code_of v.value)) room c.held)

module _ (room values returns : ℕ) (file : List ℕ) where
  -- the file's refusals come first
  pub prepared_refused : (number position : ℕ) → translate_file room file ≡ refusal number position → prepared room values returns file ≡ refusal number position
  unfolding prepared
  prepared_refused number position e = then_refused _ e

  -- then 13, for the code and for work words
  pub prepared_short : check_file file ≡ done tt → (leb value_words values && leb return_words returns) ≡ false → prepared room values returns file ≡ refusal space_too_short 0
  unfolding prepared in_room
  prepared_short e short =
      let t = is_translated room file e in
      ap (λ r. and_then r then_words) t.is ∙ by (leb (length t.code) room)
    where
      then_words : List ℕ → Result (List ℕ)
      then_words code = value_if (leb value_words values && leb return_words returns) space_too_short 0 code

      by : (b : Bool) → and_then (value_if b space_too_short 0 (is_translated room file e).code) then_words ≡ refusal space_too_short 0
      by true = rw short
      by false = refl

  pub prepared_code : (bytes : List ℕ) → translate_file room file ≡ done bytes → value_words ≤ values → return_words ≤ returns → prepared room values returns file ≡ done bytes
  unfolding prepared
  prepared_code bytes e hv hr = then_done _ e ∙ (rw (le-leb value_words values hv, le-leb return_words returns hr))

-- code that is prepared is the translator's
pub record Prepared (room values returns : ℕ) (file bytes : List ℕ) : Type 0 where
  pub code : translate_file room file ≡ done bytes
  pub short_enough : length bytes ≤ room

pub prepared_inv : (room values returns : ℕ) (file bytes : List ℕ) → prepared room values returns file ≡ done bytes → Prepared room values returns file bytes
unfolding prepared
prepared_inv room values returns file bytes e =
    let t = then_inv (translate_file room file) _ bytes e in
    let c = check_inv (leb value_words values && leb return_words returns) space_too_short 0 t.value bytes t.second in
    let code : translate_file room file ≡ done bytes = t.first ∙ ap done c.same in
    record { code = code; short_enough = has-room room file bytes code }

-- ---- calls

module _ (file input output code : List ℕ) (fuel values returns : ℕ) where
  -- a call that is refused before its run
  pub called_refused : (number position : ℕ) → prepared (length code) values returns file ≡ refusal number position
      → run_file file input output code fuel values returns ≡ record { answer = refused_before number position; output = output; code = code }
  unfolding run_file
  called_refused number position e = rw (e, run_file)

  -- a call that comes to its run
  pub called_runs : (bytes : List ℕ) → prepared (length code) values returns file ≡ done bytes
      → run_file file input output code fuel values returns
      ≡ record {
        answer = (stream_run bytes input output fuel values returns).answer;
        output = (stream_run bytes input output fuel values returns).output;
        code = buffer_after code (done bytes);
      }
  unfolding run_file
  called_runs bytes e = rw (e, run_file)

-- ---- a call that comes to its run

-- where both passes accept the program of flat records, and its code has room, it is translated
pub translated : (room : ℕ) (s : List ℕ) (program : Program) → read_program s ≡ done program → both_passes program ≡ done tt → length (code_of program) ≤ room
    → translate_records room s ≡ done (code_of program)
unfolding translate_records checked_records
translated room s program e passes fits =
    then_done _ (then_done _ e ∙ ap (on_value (λ u. program)) passes) ∙ within_room room (code_of program) fits

module _ (file code : List ℕ) (values returns : ℕ) (bytes : Bytes file) (program : Program) (ready : Ready file code values returns program) where
  -- its code is what is run
  pub ready_prepared : prepared (length code) values returns file ≡ done (code_of program)
  unfolding translate_file program_in
  ready_prepared =
      let f = then_inv (flat_in file) read_program program ready.in_file in
      let t = translated (length code) f.value program f.second ready.passes ready.room in
      prepared_code (length code) values returns file (code_of program) (then_done _ f.first ∙ t) ready.words_lent ready.returns_lent

  -- its program is checked
  pub ready_checked : Checked program
  unfolding program_in
  ready_checked =
      let f = then_inv (flat_in file) read_program program ready.in_file in
      record { lawful = (flattens f.value program (flat_in_bytes file f.value bytes f.first) f.second).lawful; passes = ready.passes }

  -- the program with what its runs are given, nothing after its code
  given : Given
  given = record {
    program = program;
    checked = ready_checked;
    after_code = [];
    values = values;
    returns = returns;
    words_lent = ready.words_lent;
    returns_lent = ready.returns_lent;
  }

  -- the run is the one that demand 3 speaks of
  abbrev ran_on : (input output : List ℕ) (fuel : ℕ) → Ran
  ran_on = run_on given

  as_run : (input output : List ℕ) (fuel : ℕ) → stream_run (code_of program) input output fuel values returns ≡ run_on given input output fuel
  unfolding given
  as_run input output fuel = ap (λ (s : List ℕ). stream_run s input output fuel values returns) (sym (append-nil (code_of program)))

  -- so is what the definition of the call gives
  ready_called : (input output : List ℕ) (fuel : ℕ)
      → run_file file input output code fuel values returns
      ≡ record { answer = (ran_on input output fuel).answer; output = (ran_on input output fuel).output; code = buffer_after code (done (code_of program)) }
  ready_called input output fuel =
      called_runs file input output code fuel values returns (code_of program) ready_prepared
      ∙ ap (λ (r : Ran). record { answer = r.answer; output = r.output; code = buffer_after code (done (code_of program)) }) (as_run input output fuel)

  -- demand 3 about this call
  module _ (t : Tree) (labelled : Labelled t) (rest output : List ℕ) (fuel : ℕ) where
    -- where the evaluation breaks, this call stops there
    stops : (n : ℕ) (op : Op) (i j q : ℕ) (b : Breaks program t most_calls n op i j q) → StreamStops t (stop_units b) out_of_range (stop_bytes b) ran_on
    unfolding given refusal_of
    stops n op i j q b = (every_run given).stops t n (no_result op i j) q b labelled

    on_tree :
        ThisCall program t rest output fuel (run_file file (tokens t) output code fuel values returns) (ran_on (tokens t ++ rest) output fuel).answer
        (ran_on (tokens t ++ rest) output fuel).output
    unfolding given
    on_tree =
        let holds = demand_3 given t labelled in
        let alone : ran_on (tokens t ++ rest) output fuel ≡ ran_on (tokens t) output fuel =
        holds.nothing_after rest [] output fuel ∙ ap (λ (s : List ℕ). ran_on s output fuel) (append-nil (tokens t)) in
        record {
          read_opening = holds.read_opening rest output fuel;
          read_no_more = holds.read_no_more rest output fuel;
          written_opening = holds.written_opening rest output fuel;
          written_no_more = holds.written_no_more rest output fuel;
          none_other = holds.none_other rest output fuel;
          same_answer = ap (λ (r : Ran). r.answer) alone ∙ ap (λ (r : FileRan). r.answer) (sym (ready_called (tokens t) output fuel));
          same_output = ap (λ (r : Ran). r.output) alone ∙ ap (λ (r : FileRan). r.output) (sym (ready_called (tokens t) output fuel));
          suffices = λ n v ends enough space. holds.suffices n v ends rest output fuel enough space;
          none_suffices = λ none. holds.none_suffices none rest output fuel;
          breaks = λ n op i j q b more fits. (stops n op i j q b).enough rest output fuel more fits;
          breaks_fewer = λ n op i j q b few fits. (stops n op i j q b).fewer rest output fuel few fits;
          broken_opening = λ n op i j q b. (stops n op i j q b).written_opening rest output fuel;
          broken_is_meant = λ position e. (every_run given).broken_is_meant t rest output fuel position labelled e;
        }

  any_run : (input output : List ℕ) (fuel : ℕ) → Bytes input → AnyCall program input output (ran_on input output fuel).answer (ran_on input output fuel).output
  unfolding given
  any_run input output fuel bs =
      let holds = every_run given in
      record {
        never_19 = λ position. holds.never_19 input output fuel position bs;
        ended_is_meant = holds.ended_is_meant input output fuel bs;
        one_for_one = λ first known sort ended. holds.one_for_one first input output fuel known sort bs ended;
      }

  -- the call's answer, and the output at exit, are those
  module _ (input output : List ℕ) (fuel : ℕ) (answer : Answer) (after : List ℕ)
      (answered : answer ≡ (run_file file input output code fuel values returns).answer)
      (left : after ≡ (run_file file input output code fuel values returns).output) where
    its_answer : answer ≡ (ran_on input output fuel).answer
    its_answer = answered ∙ ap (λ (r : FileRan). r.answer) (ready_called input output fuel)

    its_output : after ≡ (ran_on input output fuel).output
    its_output = left ∙ ap (λ (r : FileRan). r.output) (ready_called input output fuel)

    this_call : (t : Tree) (rest : List ℕ) → Labelled t → input ≡ tokens t ++ rest
        → ThisCall program t rest output fuel (run_file file (tokens t) output code fuel values returns) answer after
    this_call t rest labelled is = rw (its_answer, its_output, is) (on_tree t labelled rest output fuel)

    any_call : Bytes input → AnyCall program input output answer after
    any_call bs = rw (its_answer, its_output) (any_run input output fuel bs)

-- all that is promised of a run of a program file
pub program_run : (file code : List ℕ) (values returns : ℕ) → Bytes file
    → (input output : List ℕ) (fuel : ℕ) (answer : Answer) (after : List ℕ) → Bytes input
    → answer ≡ (run_file file input output code fuel values returns).answer
    → after ≡ (run_file file input output code fuel values returns).output
    → ProgramRun file input output code fuel values returns answer after
program_run file code values returns file_bytes input output fuel answer after input_bytes answered left =
    record {
      demand_3 = λ program ready. this_call file code values returns file_bytes program ready input output fuel answer after answered left;
      any_input = λ program ready. any_call file code values returns file_bytes program ready input output fuel answer after answered left input_bytes;
    }

-- ---- room for every program's code

code_fits : (program : Program) → Lawful program → length (code_of program) ≤ instruction_bytes * most_instructions
unfolding code_of
code_fits program lawful =
    omega (arith, length_flat (map instruction_of (operations_of program)), length-map (operations_of program) instruction_of, (code_limits program lawful).few)

-- every checked program can be run
pub all_runnable : AllRunnable
all_runnable program checked =
    let own = program_files.one_file program checked.lawful in
    record {
      file = own.file;
      bytes = own.bytes;
      ready = λ code values returns room hv hr. record {
        in_file = own.holds;
        passes = checked.passes;
        room = omega (arith, code_fits program checked.lawful);
        words_lent = hv;
        returns_lent = hr;
      };
    }

-- and every one can be listed
pub never_short : NeverShort
unfolding translate_file translate_records checked_records
never_short file bytes = by_result (flat_in file)
    (λ s h. then_done (translate_records full) h ∙ by_program s (flat_in_bytes file s bytes h) ∙ sym (ap (on_value code_of) (then_done checked_records h)))
    (λ n q h. then_refused (translate_records full) h ∙ sym (ap (on_value code_of) (then_refused checked_records h)))
  where
    full : ℕ
    full = instruction_bytes * most_instructions

    by_program : (s : List ℕ) → Bytes s → translate_records full s ≡ on_value code_of (checked_records s)
    by_program s bs = by_result (checked_records s)
        (λ program e.
        let r = then_inv (read_program s) _ program e in
        let o = value_inv (λ u. r.value) (both_passes r.value) program r.second in
        let lawful = (flattens s program bs (r.first ∙ ap done o.second)).lawful in
        then_done (λ p. in_room full (code_of p)) e ∙ within_room full (code_of program) (code_fits program lawful) ∙ sym (ap (on_value code_of) e))
        (λ n q e. then_refused (λ p. in_room full (code_of p)) e ∙ sym (ap (on_value code_of) e))
