-- What the translator and the runner give: from a program file to its code, and from a program file
-- and token bytes to the run's answer. The runner is checker, translator and stream run in one
-- call.
use Rattle.std.specs.Prelude.{ℕ, ◌≤◌, ◌&&◌, List, ◌≡◌, leb, length}
use Rattle.formats.specs.Refusals.{space_too_short}
use Rattle.formats.specs.Results.{Result, done, refusal, and_then, on_value, value_if}
use Rattle.formats.specs.Programs.{Program}
use Rattle.formats.specs.Rows.{read_program}
use Rattle.formats.specs.Blocks.{flat_in, program_in, in_room, buffer_after}
use Rattle.rules.specs.PassTwo.{both_passes}
use Rattle.meaning.specs.Running.{Answer, value_words, return_words, stream_run}
use Rattle.translation.specs.Templates.{code_of}

-- ---- the translator

-- The program that flat records hold, where both passes accept it.
unfoldable pub checked_records : List ℕ → Result Program
checked_records s = and_then (read_program s) (λ program. on_value (λ u. program) (both_passes program))

-- 01, Checking: "the translator needs both passes, then tests 13." The code of flat records, with
-- so many bytes of code buffer.
unfoldable pub translate_records : ℕ → List ℕ → Result (List ℕ)
translate_records room s = and_then (checked_records s) (λ program. in_room room (code_of program))

-- The code of a program file: the block rows first.
unfoldable pub translate_file : ℕ → List ℕ → Result (List ℕ)
translate_file room file = and_then (flat_in file) (translate_records room)

-- ---- the runner

-- What a call gives: its answer, and every byte of the output and of the code buffer.
pub record FileRan : Type 0 where
  pub answer : Answer
  pub output : List ℕ
  pub code : List ℕ

-- The code, if all that comes before the run passes, in this order: the rows of the file, both
-- passes, then 13 for each lent buffer.
unfoldable pub prepared : (room values returns : ℕ) (file : List ℕ) → Result (List ℕ)
prepared room values returns file =
    and_then (translate_file room file) (λ code. value_if (leb value_words values && leb return_words returns) space_too_short 0 code)

-- 01, What the lent buffers hold: "A run refused before its first instruction .. answers 0 in every
-- count."
abbrev pub refused_before : ℕ → ℕ → Answer
refused_before number position = record { outcome = refusal number position; units = 0; bytes_read = 0; bytes_written = 0; number = 0 }

-- The code goes to the start of the code buffer and stays, whatever the run answers; the run is
-- that of the code alone. 01, What the lent buffers hold: "A refusal leaves every output buffer
-- untouched, save the stream run's".
unfoldable pub run_file : (file input output code : List ℕ) (fuel values returns : ℕ) → FileRan
run_file file input output code fuel values returns =
    elim (prepared (length code) values returns file) [
      | done bytes ↦
          record {
            answer = (stream_run bytes input output fuel values returns).answer;
            output = (stream_run bytes input output fuel values returns).output;
            code = buffer_after code (done bytes);
          }
      | refusal number position ↦ record { answer = refused_before number position; output = output; code = code }
    ]

-- A call that comes to its run: the file holds this program, both passes accept it, and every lent
-- buffer is long enough.
pub record Ready (file code : List ℕ) (values returns : ℕ) (program : Program) : Type 0 where
  pub in_file : program_in file ≡ done program
  pub passes : both_passes program ≡ done tt
  pub room : length (code_of program) ≤ length code
  pub words_lent : value_words ≤ values
  pub returns_lent : return_words ≤ returns
