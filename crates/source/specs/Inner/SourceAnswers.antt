-- What a call of the source run answers.
use Rattle.std.specs.Prelude.{ℕ, suc, ◌≤◌, true, false, List, [], ◌≡◌, leb, length, Result as Answer, Ok, Err}
use Rattle.formats.specs.Refusals.{output_full}
use Rattle.formats.specs.Measures.{Measures, no_measures}
use Rattle.formats.specs.Results.{done, refusal}
use Rattle.formats.specs.Written.{written}
use Rattle.refusal.specs.Inner.Answered.{answered}
use Rattle.refusal.specs.declared.Refused.{Refused}
use Rattle.meaning.specs.Running.{value_words, return_words}
use Rattle.meaning.specs.OpenCalls.{refusal_of, Outcome, gives, stops, begins, with_fuel}
use Rattle.meaning.specs.SourceRun.{SourceRan, refused_after, position_of, unless_refused, passed_on, SourceAnswer as Due}
use Rattle.meaning.specs.WorkWords.{before_source, WorkWords}
use Rattle.stepwise.specs.Inner.Steps.{begin}
use Rattle.stepwise.specs.Inner.Outcomes.{Reported, Comes}
use Rattle.tree.specs.Inner.TreeResults.{measured}
use Rattle.source.specs.declared.Ended.{Ended}
use Rattle.source.specs.declared.SourceAnswer.{SourceAnswer}

-- The bytes written, 0 on a refusal.
abbrev pub written_in : Answer Ended Refused → ℕ
written_in (Ok e) = e.value.written
written_in (Err why) = 0

-- The number, 0 on a refusal.
abbrev pub number_in : Answer Ended Refused → ℕ
number_in (Ok e) = e.value.number
number_in (Err why) = 0

-- The measures of the tree, all 0 on a refusal.
abbrev pub measures_in : Answer Ended Refused → Measures
measures_in (Ok e) = measured e.measures
measures_in (Err why) = no_measures

-- The answer, as 01, The source run, has it.
abbrev pub source_answer : SourceAnswer → Due
source_answer a = record { outcome = answered (λ e. tt) a.outcome; begun = a.begun; bytes_written = written_in a.outcome; number = number_in a.outcome }

-- The answer of a run that is refused after `begun` expressions.
pub record RefusedAs (number position begun : ℕ) (r : SourceAnswer) : Type 0 where
  pub answer : source_answer r ≡ record { outcome = refusal number position; begun = begun; bytes_written = 0; number = 0 }
  pub measures : measures_in r.outcome ≡ no_measures

-- An evaluation on a tree with these measures gives what is due: its answer, every byte of the
-- output, and the measures, unless it is refused. None of its refusals is one that comes before the
-- evaluation.
pub record Gave (due : SourceRan) (m : Measures) (output' : List ℕ) (r : SourceAnswer) : Type 0 where
  pub answer : source_answer r ≡ due.answer
  pub output : output' ≡ due.output
  pub measures : measures_in r.outcome ≡ unless_refused due.answer.outcome m
  pub late : (number position : ℕ) → due.answer.outcome ≡ refusal number position → before_source number ≡ false

-- ---- the outcome of the steps

-- The result's bytes are written from the output's start on, and its number is reported; 17 where
-- they do not fit.
unfoldable pub reported_result : ℕ → Reported → List ℕ → SourceRan
reported_result begun t output =
    elim (leb (length t.bytes) (length output)) [
      | true ↦
          record {
            answer = record { outcome = done tt; begun = begun; bytes_written = length t.bytes; number = t.number };
            output = written output 0 t.bytes;
          }
      | false ↦ refused_after begun output_full 0 output
    ]

-- What a source run gives whose steps come to this outcome, after `begun` expressions.
unfoldable pub report_steps : ℕ → Outcome Reported → List ℕ → SourceRan
report_steps begun (gives t) output = reported_result begun t output
report_steps begun (stops why r) output = refused_after begun (refusal_of why) (position_of why r) output
report_steps begun (begins o) output = report_steps (suc begun) o output

-- Whatever enough words hold, the steps from this record on come to the outcome.
pub record Always (T input : List ℕ) (first : ℕ) (o : Outcome Reported) : Type 0 where
  pub comes : (words returns : List ℕ) → value_words ≤ length words → return_words ≤ length returns
      → Comes T input [] (begin first (record { words = words; returns = returns; calls = 0; tree = 0; known = 0; end = 0 })) o

-- The evaluation over a table gives what the outcome of the steps says.
pub record Evaluates (T input : List ℕ) (m : Measures) (first fuel : ℕ) (output output' values values' returns returns' : List ℕ) (r : SourceAnswer) : Type 0 where
  pub gave : (o : Outcome Reported) → Always T input first o → value_words ≤ length values → return_words ≤ length returns
      → Gave (report_steps 0 (with_fuel fuel o) output) m output' r
  pub long_values : length values' ≡ length values
  pub long_returns : length returns' ≡ length returns

-- ---- the call

-- The answer of a call whose error is a refusal before the evaluation: nothing has begun.
abbrev pub answer_of : Answer SourceAnswer Refused → SourceAnswer
answer_of (Ok a) = a
answer_of (Err why) = record { outcome = Err why; begun = 0 }

-- A call: its answer, what it passes on of the tree, every byte of the output, and the work words,
-- which are unspecified after a run and untouched where the call is refused before it.
pub record Sourced (due : SourceRan) (input output' values values' returns returns' : List ℕ) (r : SourceAnswer) : Type 0 where
  pub answer : source_answer r ≡ due.answer
  pub measures : measures_in r.outcome ≡ passed_on due.answer.outcome input
  pub output : output' ≡ due.output
  pub words : WorkWords before_source due.answer.outcome values values' returns returns'
