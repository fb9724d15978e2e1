-- 01, The source run: from a program file and token bytes to its answer and its output.
use Rattle.std.specs.Prelude.{ℕ, suc, true, false, ◌&&◌, List, length, leb}
use Rattle.formats.specs.Refusals.{space_too_short, output_full}
use Rattle.formats.specs.Results.{Result, done, refusal, and_then, value_if}
use Rattle.formats.specs.Tokens.{Tree, first_tree}
use Rattle.formats.specs.Measures.{Measures, first_measures, no_measures, measures_or0}
use Rattle.formats.specs.Programs.{Program}
use Rattle.formats.specs.Blocks.{program_in}
use Rattle.formats.specs.Written.{written}
use Rattle.rules.specs.PassOne.{pass_one}
use Rattle.meaning.specs.Running.{value_words, return_words, most_calls}
use Rattle.meaning.specs.Evaluation.{Value, result_bytes, result_number}
use Rattle.meaning.specs.OpenCalls.{Reason, no_fuel, no_call, no_result, refusal_of, Outcome, gives, stops, begins, evaluation, with_fuel}

-- 01, The source run: "The source run's gives expressions begun, bytes written and the number".
-- N5's tips and depth are given beside it, by `passed_on`.
pub record SourceAnswer : Type 0 where
  -- ended, or the refusal's number and position
  pub outcome : Result (Unit {0})
  pub begun : ℕ
  pub bytes_written : ℕ
  pub number : ℕ

-- What a call of the source run gives: its answer, and every byte of the output.
pub record SourceRan : Type 0 where
  pub answer : SourceAnswer
  pub output : List ℕ

-- 01, The source run: "refused, the last two are 0". 01, What the lent buffers hold: "A refusal
-- leaves every output buffer untouched".
abbrev pub refused_after : ℕ → ℕ → ℕ → List ℕ → SourceRan
refused_after begun number position output =
    record { answer = record { outcome = refusal number position; begun = begun; bytes_written = 0; number = 0 }; output = output }

-- An evaluation that ended: the value's bytes are written from the output's start, its number is
-- reported.
abbrev pub ended_after : ℕ → Value → List ℕ → SourceRan
ended_after begun v output =
    record {
      answer = record { outcome = done tt; begun = begun; bytes_written = length (result_bytes v); number = result_number v };
      output = written output 0 (result_bytes v);
    }

-- 01, The source run: "17 output shorter than the result, after evaluation", at 0.
unfoldable pub reported : ℕ → Value → List ℕ → SourceRan
reported begun v output =
    elim (leb (length (result_bytes v)) (length output)) [
      | true ↦ ended_after begun v output
      | false ↦ refused_after begun output_full 0 output
    ]

-- The position of an evaluation's refusal. 01, The table of refusals: "14 fuel used up, 18 a call
-- with 1,024 open ..": "source run 0". N3: 21 is "at the Add record in the source run".
unfoldable pub position_of : Reason → ℕ → ℕ
position_of no_fuel r = 0
position_of no_call r = 0
position_of (no_result op i j) r = r

-- What an evaluation's outcome is reported as, where so many expressions have begun before.
unfoldable pub report_from : ℕ → Outcome Value → List ℕ → SourceRan
report_from begun (gives v) output = reported begun v output
report_from begun (stops why r) output = refused_after begun (refusal_of why) (position_of why r) output
report_from begun (begins o) output = report_from (suc begun) o output

-- What the checks give: a program that passes pass one, and a tree.
pub record SourceInput : Type 0 where
  pub program : Program
  pub tree : Tree

-- All that comes before the evaluation, in this order: the rows of the file, pass one, 13, the tree
-- reader. 01, Checking: "The source run needs pass one only". 01, The order of the tests: "The runs
-- test 13 before tree or fuel." 01, The source run: "The source run applies the tree reader before
-- it evaluates."
unfoldable pub check_source : (file input : List ℕ) (values returns : ℕ) → Result SourceInput
check_source file input values returns =
    and_then
    (program_in file)
    (λ program. and_then
    (pass_one program)
    (λ u. and_then
    (value_if (leb value_words values && leb return_words returns) space_too_short 0 (tt {0}))
    (λ w. and_then (first_tree input) (λ t. done (record { program = program; tree = t })))))

-- The source run, with so many value words and return words lent. 01, What the lent buffers hold:
-- "A run refused before its first .. expression answers 0 in every count."
unfoldable pub source_run : (file input output : List ℕ) (fuel values returns : ℕ) → SourceRan
source_run file input output fuel values returns =
    elim (check_source file input values returns) [
      | done c ↦ report_from 0 (with_fuel fuel (evaluation c.program most_calls c.tree)) output
      | refusal number position ↦ refused_after 0 number position output
    ]

-- N5: "A refusal of .. the source run gives 0 for both", also one that comes after the tree was
-- accepted.
unfoldable pub unless_refused : (outcome : Result (Unit {0})) → Measures → Measures
unless_refused (done u) m = m
unless_refused (refusal number position) m = no_measures

-- N5: "The source run's answer passes both on": what the reader measured of the tree that was
-- evaluated. A run that ended has read its tree.
abbrev pub passed_on : (outcome : Result (Unit {0})) (input : List ℕ) → Measures
passed_on outcome input = unless_refused outcome (measures_or0 (first_measures input))
