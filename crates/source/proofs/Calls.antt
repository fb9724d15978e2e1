-- The whole call: a law for each way out.
use Prim.Native.Nat.{ℕ, zero, suc, ◌+◌, ◌*◌, ◌≤◌, ◌<◌}
use mathlib.Core.Bool.{true, false, false≢true}
use mathlib.Core.List.{List}
use mathlib.Core.Logic.{◌⊎◌}
use mathlib.Core.Path.{◌≡◌, refl, sym, ap, ◌∙◌}
use native.Mathlib.Omega.{arith}
use borrow.Author.Tests.{le-leb}
use lib.Dec.{leb}
use lib.ListN.{length, take}
use Rattle.formats.specs.Numbers.{Bytes}
use Rattle.formats.specs.Refusals.{space_too_short}
use Rattle.formats.specs.Results.{Result, done, refusal, and_then, value_if}
use Rattle.formats.specs.Records.{record_at}
use Rattle.formats.specs.Tokens.{Tree, first_tree}
use Rattle.formats.specs.Measures.{first_measures, measures_or0}
use Rattle.formats.specs.Programs.{Program}
use Rattle.formats.specs.Inner.Limits.{most_records}
use Rattle.formats.specs.Rows.{read_program}
use Rattle.formats.specs.Inner.Fields.{header_in}
use Rattle.formats.specs.Blocks.{flat_in, program_in}
use Rattle.formats.specs.Inner.Blocks.{most_bytes}
use Rattle.formats.proofs.Results.{then_done, then_refused, then_inv, check_inv, passed_is, refused_is}
use Rattle.formats.proofs.Endings.{read_by, stopped-by}
use Rattle.formats.proofs.Files.{flat_in_bytes}
use Rattle.formats.proofs.ProgramFiles.{program_files}
use Rattle.rules.specs.PassOne.{pass_one}
use Rattle.walks.proofs.Walks.{program_held}
use Rattle.refusal.specs.Inner.Numbers.{number as number_of}
use Rattle.refusal.specs.Inner.FilledBuffer.{FilledBuffer}
use Rattle.refusal.specs.Inner.Verdicts.{verdict_result}
use Rattle.refusal.specs.declared.Refusal.TheVariants.{SpaceTooShort}
use Rattle.refusal.specs.declared.Refused.{Refused}
use Rattle.std.specs.Prelude.{Result as Answer, Ok, Err}
use Rattle.block_reader.proofs.Taken.{not_taken, taken_out, taken_inside}
use Rattle.tree.specs.declared.Measures.{Measures}
use Rattle.tree.specs.Inner.TreeResults.{measured, tree_result as tree_answered}
use Rattle.decode.specs.Inner.Decoding.{table_words, decoded, or_else, Decodes}
use Rattle.meaning.specs.Running.{value_words, return_words, most_calls}
use Rattle.meaning.specs.OpenCalls.{Outcome, gives, stops, begins, followed_by, with_fuel, evaluation}
use Rattle.meaning.specs.Evaluation.{Value as Val}
use Rattle.meaning.specs.SourceRun.{SourceRan, SourceInput, refused_after, check_source, source_run, unless_refused, reported as reported_value, report_from}
use Rattle.meaning.specs.Meaning.{PassesOne}
use Rattle.meaning.specs.WorkWords.{before_source, WorkWords}
use Rattle.meaning.proofs.SourceChecks.{file_stops, pass_one_stops, space_stops, tree_left}
use Rattle.stepwise.specs.Inner.Rows.{row_words, tabled}
use Rattle.stepwise.specs.Inner.Outcomes.{Reported, reported_of}
use Rattle.stepwise.proofs.Whole.{comes}
use Rattle.source.specs.declared.SourceAnswer.{SourceAnswer}
use Rattle.source.specs.Inner.SourceAnswers.{RefusedAs, reported_result, report_steps, Always, Evaluates, answer_of, Sourced}

-- ---- the evaluation's outcome and that of the steps are reported alike

report_same : (o : Outcome Val) (fuel begun : ℕ) (output : List ℕ) → report_steps begun (with_fuel fuel (followed_by o reported_of)) output ≡ report_from begun (with_fuel fuel o) output
unfolding report_steps report_from with_fuel followed_by reported_result reported_value
report_same (gives v) zero begun output = refl
report_same (gives v) (suc fuel) begun output = refl
report_same (stops why r) zero begun output = refl
report_same (stops why r) (suc fuel) begun output = refl
report_same (begins o) zero begun output = refl
report_same (begins o) (suc fuel) begun output = report_same o fuel (suc begun) output

-- ---- the flat records

-- a table and a first record replaced by equal ones
as_always : (T U input : List ℕ) (first start : ℕ) (o : Outcome Reported) → T ≡ U → start ≡ first → Always U input start o → Always T input first o
as_always T U input first start o e f a = rw (e, ← f) a

-- work words that are untouched
untouched : (outcome : Result (Unit {0})) (values returns : List ℕ) → WorkWords before_source outcome values values returns returns
untouched outcome values returns =
    record { values_length = refl; returns_length = refl; values_kept = λ number position e b. refl; returns_kept = λ number position e b. refl }

-- work words of an evaluation
used : (outcome : Result (Unit {0})) (values values' returns returns' : List ℕ) → length values' ≡ length values → length returns' ≡ length returns
    → ((number position : ℕ) → outcome ≡ refusal number position → before_source number ≡ false)
    → WorkWords before_source outcome values values' returns returns'
used outcome values values' returns returns' v p late =
    record {
      values_length = v;
      returns_length = p;
      values_kept = λ number position e b. absurd (false≢true (sym (late number position e) ∙ b));
      returns_kept = λ number position e b. absurd (false≢true (sym (late number position e) ∙ b));
    }

-- a call that is refused before the evaluation
module _ (file input output values returns : List ℕ) (fuel : ℕ) where
  -- What the call gives.
  abbrev due : SourceRan
  due = source_run file input output fuel (length values) (length returns)

  refused-before : (why : Refused) → check_source file input (length values) (length returns) ≡ refusal (number_of why.why) why.position
      → Sourced due input output values values returns returns (answer_of (Err why))
  unfolding source_run unless_refused
  refused-before why e =
      let gives_it : due ≡ refused_after 0 (number_of why.why) why.position output = rw (source_run, e) in
      rw gives_it (record { answer = refl; measures = refl; output = refl; words = untouched (refusal (number_of why.why) why.position) values returns })

  -- a call whose checks pass
  ran : (c : SourceInput) → check_source file input (length values) (length returns) ≡ done c
      → due ≡ report_from 0 (with_fuel fuel (evaluation c.program most_calls c.tree)) output
  unfolding source_run
  ran c e = rw (source_run, e)

-- The call on every file that has these flat records.
pub record OfFile (flat input output output' values values' returns returns' : List ℕ) (fuel : ℕ) (r : SourceAnswer) : Type 0 where
  pub is : (file : List ℕ) → flat_in file ≡ done flat → Sourced (due file input output values returns fuel) input output' values values' returns returns' r

-- The program of the flat records passes, its rows are in the table, and there are enough work
-- words: the steps come to the program's outcome on each tree.
pub record Ready (s after input values returns : List ℕ) (first : ℕ) : Type 0 where
  pub program : Program
  pub reads : read_program s ≡ done program
  pub passes : pass_one program ≡ done tt
  pub value-words : value_words ≤ length values
  pub return-words : return_words ≤ length returns
  pub always : (t : Tree) → first_tree input ≡ done t → Always after input first (followed_by (evaluation program most_calls t) reported_of)

module _ (s table after input output values returns : List ℕ) (fuel : ℕ) (size : length table ≡ table_words) (v : Answer (Unit {0}) Refused) (d : Decodes s table after v) where
  -- the program of a file with these flat records
  in_file : (file : List ℕ) → flat_in file ≡ done s → program_in file ≡ read_program s
  unfolding program_in
  in_file file e = then_done read_program e

  -- the table is long enough, so a refusal is the program's own
  data Refuses (number position : ℕ) : Type 0 where
    by_rows : read_program s ≡ refusal number position → Refuses number position
    by_pass : (program : Program) → read_program s ≡ done program → pass_one program ≡ refusal number position → Refuses number position

  refuses : (number position : ℕ) → decoded s table ≡ refusal number position → Refuses number position
  unfolding decoded
  refuses number position e = of_rows (read_program s) refl e
    where
      of_pass : (program : Program) → read_program s ≡ done program → (p : Result (Unit {0})) → pass_one program ≡ p
          → and_then p (λ u. value_if (leb table_words (length table)) space_too_short 0 (tabled table program)) ≡ refusal number position
          → Refuses number position
      of_pass program reads (refusal n q) is e = by_pass program reads (is ∙ cc)
      of_pass program reads (done u) is e =
          let long : table_words ≤ length table = omega arith in
          let fits : leb table_words (length table) ≡ true = le-leb table_words (length table) long in
          let none : done (tabled table program) ≡ refusal number position = rw fits at e in
          let z : ◌≡◌ {A = ℕ} 0 1 = cc in
          absurd (omega arith)

      of_rows : (r : Result Program) → read_program s ≡ r
          → and_then r (λ program. and_then (pass_one program) (λ u. value_if (leb table_words (length table)) space_too_short 0 (tabled table program))) ≡ refusal number position
          → Refuses number position
      of_rows (refusal n q) is e = by_rows (is ∙ cc)
      of_rows (done program) is e = of_pass program is (pass_one program) refl e

  pub records_refused : (why : Refused) → v ≡ Err why → OfFile s input output output values values returns returns fuel (answer_of (Err why))
  records_refused why is =
      record {
        is = λ file e.
            refused-before file input output values returns fuel why
            (by file e (refuses (number_of why.why) why.position (refused_is (decoded s table) (number_of why.why) why.position (sym d.said_so ∙ ap verdict_result is))));
      }
    where
      by : (file : List ℕ) → flat_in file ≡ done s → Refuses (number_of why.why) why.position → check_source file input (length values) (length returns) ≡ refusal (number_of why.why) why.position
      by file e (by_rows h) = file_stops file input (length values) (length returns) (number_of why.why) why.position (in_file file e ∙ h)
      by file e (by_pass program reads h) =
          pass_one_stops file input (length values) (length returns) program (in_file file e ∙ reads) (number_of why.why) why.position h

  module _ (u : Unit {0}) (passed : v ≡ Ok u) where
    -- the program, whose rows the table has
    record Prepared : Type 0 where
      program : Program
      reads : read_program s ≡ done program
      passes : pass_one program ≡ done tt
      rows : after ≡ tabled table program

    prepared : Prepared
    unfolding decoded or_else
    prepared =
        let whole = passed_is (decoded s table) (sym d.said_so ∙ ap verdict_result passed) in
        let p = then_inv (read_program s) _ whole.value whole.is in
        let u = then_inv (pass_one p.value) _ whole.value p.second in
        let c = check_inv (leb table_words (length table)) space_too_short 0 (tabled table p.value) whole.value u.second in
        record {
          program = p.value;
          reads = p.first;
          passes = u.first;
          rows = d.after_is ∙ ap (λ (x : Result (List ℕ)). or_else x table) whole.is ∙ sym c.same;
        }

    -- too few work words
    pub records_few : (why : Refused) → (length values < value_words) ⊎ (length returns < return_words)
        → why ≡ record { why = SpaceTooShort; position = 0 }
        → OfFile s input output output values values returns returns fuel (answer_of (Err why))
    records_few why few is =
        rw is
        (record {
          is = λ file e.
              refused-before file input output values returns fuel (record { why = SpaceTooShort; position = 0 })
              (space_stops file input (length values) (length returns) prepared.program (in_file file e ∙ prepared.reads) prepared.passes few);
        })

    module _ (vs : value_words ≤ length values) (ps : return_words ≤ length returns) (t : Answer Measures Refused) (read : tree_answered t ≡ first_measures input) where
      only_tree : (file : List ℕ) → flat_in file ≡ done s
          → check_source file input (length values) (length returns) ≡ and_then (first_tree input) (λ t. done (record { program = prepared.program; tree = t }))
      only_tree file e = tree_left file input (length values) (length returns) prepared.program (in_file file e ∙ prepared.reads) prepared.passes vs ps

      pub records_no_tree : (why : Refused) → t ≡ Err why → OfFile s input output output values values returns returns fuel (answer_of (Err why))
      records_no_tree why is =
          record {
            is = λ file e.
                refused-before file input output values returns fuel why
                (only_tree file e ∙ then_refused _ (stopped-by input (number_of why.why) why.position (sym read ∙ ap tree_answered is)));
          }

    -- all is ready for the evaluation
    pub records_ready : (first : ℕ) → Bytes s → Bytes input → value_words ≤ length values → return_words ≤ length returns → first ≡ 1 + (header_in s).functions
        → Ready s after input values returns first
    unfolding header_in record_at
    records_ready first bytes input_bytes vs ps position =
        let p = prepared in
        let program = p.program in
        let passes_one : PassesOne program = record { lawful = (program_files.flattens s program bytes p.reads).lawful; passes = p.passes } in
        let at : suc (length program.functions) ≡ first = omega (arith, (program_held s program bytes p.reads).functions) in
        let long : row_words * most_records ≤ length table = omega arith in
        record {
          program = program;
          reads = p.reads;
          passes = p.passes;
          value-words = vs;
          return-words = ps;
          always = λ t reads.
              as_always after (tabled table program) input first (suc (length program.functions)) (followed_by (evaluation program most_calls t) reported_of) p.rows at
              (record { comes = λ words returns v q. comes program input table words returns t passes_one input_bytes reads long v q });
        }

pub records_run :
    (s after input output values returns : List ℕ) (first fuel : ℕ) (m : Measures) (t : Answer Measures Refused) (output' values' returns' : List ℕ) (r : SourceAnswer)
    → Ready s after input values returns first
    → tree_answered t ≡ first_measures input
    → t ≡ Ok m
    → Evaluates after input (measured m) first fuel output output' values values' returns returns' r
    → OfFile s input output output' values values' returns returns' fuel r
unfolding program_in measures_or0
records_run s after input output values returns first fuel m t output' values' returns' r ready read is e =
    let found : first_measures input ≡ done (measured m) = sym read ∙ ap tree_answered is in
    let tree = read_by input (measured m) found in
    let outcome : Outcome Val = evaluation ready.program most_calls tree.it in
    let g = e.gave (followed_by outcome reported_of) (ready.always tree.it tree.is) ready.value-words ready.return-words in
    record {
      is = λ file f.
          let left = tree_left file input (length values) (length returns) ready.program (then_done read_program f ∙ ready.reads) ready.passes
          ready.value-words ready.return-words in
          let same = ran file input output values returns fuel (record { program = ready.program; tree = tree.it }) (left ∙ then_done _ tree.is)
          ∙ sym (report_same outcome fuel 0 output) in
          rw same (record {
            answer = g.answer;
            measures = g.measures ∙ ap (unless_refused _) (sym (ap measures_or0 found));
            output = g.output;
            words = used _ values values' returns returns' e.long_values e.long_returns g.late;
          });
    }

pub ruleset records_ways = (records_refused, records_no_tree)

-- the first node's record, as a word
pub first_fits : (s : List ℕ) (first : ℕ) → Bytes s → first ≡ 1 + (header_in s).functions → first < 65536
unfolding header_in record_at
first_fits s first bytes position = omega (arith, bytes 1)

-- ---- the file

module _ (file space : List ℕ) (size : length space ≡ most_bytes) (after : List ℕ) (taken : Answer ℕ Refused) (put : FilledBuffer (flat_in file) space after taken)
    (input output values returns : List ℕ) (fuel : ℕ)
  where
    pub file_refused : (why : Refused) → taken ≡ Err why
        → Sourced (due file input output values returns fuel) input output values values returns returns (answer_of (Err why))
    unfolding program_in
    file_refused why is =
        refused-before file input output values returns fuel why
        (file_stops file input (length values) (length returns) (number_of why.why) why.position
        (then_refused read_program (not_taken file space size after taken put why is)))

    pub file_run : (bytes : ℕ) (output' values' returns' : List ℕ) (r : SourceAnswer) → taken ≡ Ok bytes
        → OfFile (take bytes after) input output output' values values' returns returns' fuel r
        → Sourced (due file input output values returns fuel) input output' values values' returns returns' r
    file_run bytes output' values' returns' r is o =
        let f = taken_out file space size after taken put bytes is in
        o.is file (f.is ∙ ap done (sym f.there))

    pub file_bytes : (bytes : ℕ) → taken ≡ Ok bytes → Bytes file → Bytes (take bytes after)
    file_bytes bytes is all =
        let f = taken_out file space size after taken put bytes is in
        flat_in_bytes file (take bytes after) all (f.is ∙ ap done (sym f.there))

pub ruleset file_ways = (file_refused, taken_inside, file_run)

-- ---- `run`

module _ (due : SourceRan) (input output values values' returns returns' : List ℕ) (r : Answer SourceAnswer Refused)
    (s : Sourced due input output values values' returns returns' (answer_of r))
  where
    pub call_answers : (a : SourceAnswer) → r ≡ Ok a → Sourced due input output values values' returns returns' a
    call_answers a is = rw is at s

    pub call_refused : (why : Refused) (a : SourceAnswer) → r ≡ Err why → RefusedAs (number_of why.why) why.position 0 a
        → Sourced due input output values values' returns returns' a
    call_refused why a is e =
        let t : Sourced due input output values values' returns returns' (answer_of (Err why)) = rw is at s in
        record { answer = e.answer ∙ t.answer; measures = e.measures ∙ t.measures; output = t.output; words = t.words }

pub ruleset call_ways = (call_answers, call_refused)
