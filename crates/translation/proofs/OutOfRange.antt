-- N3, both runs of an evaluation that breaks at a sum: the proof of specs/OutOfRange.antt.
--
-- What holds of the evaluation and of the source run is among the statements of meaning; what holds
-- of the stream run, among those of every call (ThisCall).
use Prim.Native.Nat.{ℕ}
use mathlib.Core.List.{List, ◌++◌}
use mathlib.Core.Path.{◌≡◌, refl, sym, ap, ◌∙◌}
use native.Mathlib.Omega.{arith}
use lib.ListN.{length, drop, take-append-drop}
use Rattle.formats.specs.Numbers.{Bytes}
use Rattle.formats.specs.Arithmetic.{Op}
use Rattle.formats.specs.Results.{done}
use Rattle.formats.specs.Tokens.{Tree, tokens, first_tree}
use Rattle.formats.specs.Programs.{Program}
use Rattle.formats.proofs.Reader.{tree_reader}
use Rattle.meaning.specs.Running.{most_calls}
use Rattle.meaning.specs.OpenCalls.{no_result}
use Rattle.meaning.specs.Unfinished.{Breaks}
use Rattle.meaning.specs.Meaning.{PassesOne, HeldTo, SourceBreaks}
use Rattle.meaning.specs.SourceRun.{source_run}
use Rattle.meaning.proofs.Meaning.{meaning}
use Rattle.translation.specs.OutOfRange.{OutOfRangeHolds}
use Rattle.translation.specs.ThisCall.{ThisCall}
use Rattle.translation.specs.TranslateAndRun.{run_file, Ready}
use Rattle.translation.proofs.Bodies.{passes_one}
use Rattle.translation.proofs.Calls.{ready_checked, program_run}

module _ (file input code : List ℕ) (values returns : ℕ) (program : Program) (t : Tree) (file_bytes : Bytes file) (input_bytes : Bytes input)
    (ready : Ready file code values returns program) (reads : first_tree input ≡ done t)
  where
    its_pass : PassesOne program
    its_pass = passes_one program (ready_checked file code values returns file_bytes program ready)

    holds : HeldTo program t
    holds = meaning.held program t its_pass

    -- the source run refuses it
    in_source :
        (n : ℕ) (op : Op) (i j q : ℕ) → Breaks program t most_calls n op i j q
        → (output : List ℕ)
        → SourceBreaks n q output (λ fuel. source_run file input output fuel values returns)
    in_source n op i j q b output =
        (meaning.source_runs file input output values returns file_bytes).breaks program t n op i j q
        (record {
          holds = ready.in_file;
          passes = its_pass.passes;
          value_space = ready.words_lent;
          return_space = ready.returns_lent;
          reads = reads;
        })
        b

    -- the call of the stream run on this input
    in_stream :
        (output : List ℕ) (fuel : ℕ)
        → ThisCall program t (drop (length (tokens t)) input) output fuel (run_file file (tokens t) output code fuel values returns)
        (run_file file input output code fuel values returns).answer
        (run_file file input output code fuel values returns).output
    in_stream output fuel =
        let gave = tree_reader.gives input t input_bytes reads in
        let rest = drop (length (tokens t)) input in
        let begins : input ≡ tokens t ++ rest =
        sym (take-append-drop (length (tokens t)) input) ∙ ap (λ (front : List ℕ). front ++ rest) gave.own-bytes in
        (program_run file code values returns file_bytes input output fuel _ _ input_bytes refl refl).demand_3 program ready t rest gave.labelled begins

pub out-of-range : OutOfRangeHolds
out-of-range file input code values returns program t file_bytes input_bytes ready reads n op i j q b =
    let held = holds file input code values returns program t file_bytes input_bytes ready reads in
    let source = in_source file input code values returns program t file_bytes input_bytes ready reads n op i j q b in
    let stream = in_stream file input code values returns program t file_bytes input_bytes ready reads in
    record {
      no_value = λ o m v ends. held.ended_not_broken o m v most_calls n op i j q ends b;
      source = λ output fuel enough. (source output).enough fuel enough;
      at_operation = held.at_operation most_calls n op i j q b;
      stream = λ output fuel more fits. (stream output fuel).breaks n op i j q b more fits;
      source_fewer = λ output fuel few. (source output).short fuel few;
      stream_fewer = λ output fuel few fits. (stream output fuel).breaks_fewer n op i j q b few fits;
      bounded = omega (arith, held.four_each_stopped most_calls n (no_result op i j) q b);
    }
