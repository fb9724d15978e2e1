-- Demand 3, N3 and what holds on any input, said of one call: of what it answered, and of the
-- output at exit. The contracts of `runner: run`, `run_calls: run` and `hogvax_run` carry both
-- (`ProgramRun`).
--
-- `before` is the output at entry and `after` the output at exit; `answer` is what the call
-- answered. The words are those of Demand3.
use Rattle.std.specs.Prelude.{ℕ, ◌+◌, ◌*◌, ◌≤◌, ◌<◌, List, ◌++◌, ◌≢◌, ◌≡◌, length, take, drop}
use Rattle.std.proofs.Math.Option.{some}
use Rattle.formats.specs.Numbers.{Bytes}
use Rattle.formats.specs.Arithmetic.{Op}
use Rattle.formats.specs.Buffers.{Opens}
use Rattle.formats.specs.Records.{nth}
use Rattle.formats.specs.Refusals.{fuel_used_up, cannot_perform, out_of_range}
use Rattle.formats.specs.Results.{done, refusal}
use Rattle.formats.specs.Tokens.{Tree, Labelled, tokens}
use Rattle.formats.specs.Programs.{tree_valued, Function, Program}
use Rattle.meaning.specs.Instructions.{instruction_bytes, most_instructions}
use Rattle.meaning.specs.Running.{Answer, Ran, value_words, return_words, most_calls}
use Rattle.meaning.specs.Evaluation.{Value, Ends, result_bytes}
use Rattle.meaning.specs.Unfinished.{Breaks, stop_units, stop_bytes}
use Rattle.translation.specs.Demand3.{Checked}
use Rattle.translation.specs.EndedRuns.{Whole, Meant, OneForOne}
use Rattle.translation.specs.StoppedRuns.{RefusedAfterUnits, StoppedAfter, BrokenRun}
use Rattle.translation.specs.TranslateAndRun.{FileRan, run_file, Ready}

-- Answer and output at exit, as what a run gives.
abbrev pub ran_with : Answer → List ℕ → Ran
ran_with answer after = record { answer = answer; output = after }

-- "When any checked program is run over the stream on any tree's tokens, with anything after them,
-- any fuel and any output length:" a call on the tokens of t and the rest after them. `alone` is
-- what the definition gives on the tokens of t alone.
pub record ThisCall (program : Program) (t : Tree) (rest before : List ℕ) (fuel : ℕ) (alone : FileRan) (answer : Answer) (after : List ℕ) : Type 0 where
  -- "the bytes read are opening bytes of that tree, none or all included;"
  pub read_opening : Opens (take answer.bytes_read (tokens t ++ rest)) (tokens t)
  pub read_no_more : answer.bytes_read ≤ length (tokens t)
  -- "the bytes written are opening bytes of the source's result where it has one;" with however
  -- many calls open
  pub written_opening : (o n : ℕ) (v : Value) → Ends program t o n v → Opens (take answer.bytes_written after) (result_bytes v)
  pub written_no_more : (o n : ℕ) (v : Value) → Ends program t o n v → answer.bytes_written ≤ length (result_bytes v)
  -- (no other byte of the output is written, whether the source has a result or not)
  pub none_other : drop answer.bytes_written after ≡ drop answer.bytes_written before
  -- "and neither answers nor output depend on what stands after the tree."
  pub same_answer : answer ≡ alone.answer
  pub same_output : after ≡ alone.output
  -- "If the source evaluation ends after n expressions with at most 1,024 calls open at once, every
  -- fuel from 4n + 1 up suffices, given output space for the result:" the run is `Whole`.
  pub suffices :
      (n : ℕ) (v : Value)
      → Ends program t most_calls n v
      → 4 * n + 1 ≤ fuel
      → length (result_bytes v) ≤ length before
      → Whole t v before (ran_with answer after)
  -- "For every other evaluation, endless ones included, no fuel suffices."
  pub none_suffices : ((n : ℕ) (v : Value) → Ends program t most_calls n v → ⊥) → answer.outcome ≢ done tt
  -- N3: "on a tree the reader accepts, where at most 1,024 calls are open, both runs with enough
  -- fuel and output space refuse it": with 21, "at bytes read in the stream run". (The stream run
  -- asks for no reader: the tree may be of any depth.)
  pub breaks :
      (n : ℕ) (op : Op) (i j q : ℕ) (b : Breaks program t most_calls n op i j q)
      → stop_units b < fuel
      → length (stop_bytes b) ≤ length before
      → StoppedAfter (stop_units b) out_of_range (stop_bytes b) before (ran_with answer after)
  -- Every smaller fuel gives 14.
  pub breaks_fewer :
      (n : ℕ) (op : Op) (i j q : ℕ) (b : Breaks program t most_calls n op i j q)
      → fuel ≤ stop_units b
      → length (stop_bytes b) ≤ length before
      → RefusedAfterUnits fuel fuel_used_up (ran_with answer after)
  -- Whatever fuel and output space are, what is written opens what the code has written where the
  -- evaluation breaks.
  pub broken_opening :
      (n : ℕ) (op : Op) (i j q : ℕ) (b : Breaks program t most_calls n op i j q)
      → Opens (take answer.bytes_written after) (stop_bytes b)
  -- 21 comes in no other case.
  pub broken_is_meant : (position : ℕ) → answer.outcome ≡ refusal out_of_range position → BrokenRun program t before fuel (ran_with answer after)

-- A call on any input, trees or not (the statements of EveryRun).
pub record AnyCall (program : Program) (input before : List ℕ) (answer : Answer) (after : List ℕ) : Type 0 where
  -- 01, Instructions that cannot be performed: "19 never follows translated code."
  pub never_19 : (position : ℕ) → answer.outcome ≢ refusal cannot_perform position
  -- It ends only on an input that begins with a tree, and then it gives what the program means.
  pub ended_is_meant : answer.outcome ≡ done tt → Meant program input before (ran_with answer after)
  -- Where function 0 gives a tree: one whole tree read for one whole tree written.
  pub one_for_one :
      (first : Function)
      → nth program.functions 0 ≡ some first
      → first.sort ≡ tree_valued
      → answer.outcome ≡ done tt
      → OneForOne input (ran_with answer after)

-- All that is promised of a run of a program file: what every call that checks, translates and runs
-- carries, public or exported. The buffers are those at entry; `answer` is what the call answered,
-- `after` the output at exit.
pub record ProgramRun (file input output code : List ℕ) (fuel values returns : ℕ) (answer : Answer) (after : List ℕ) : Type 0 where
  -- Demand 3: where the file's program is checked and the work space lent, for every tree that
  -- begins the input, whatever stands after it.
  pub demand_3 :
      (program : Program)
      → Ready file code values returns program
      → (t : Tree) (rest : List ℕ)
      → Labelled t
      → input ≡ tokens t ++ rest
      → ThisCall program t rest output fuel (run_file file (tokens t) output code fuel values returns) answer after
  -- What holds on any input, trees or not.
  pub any_input : (program : Program) → Ready file code values returns program → AnyCall program input output answer after

-- A program that can be run so: it has a file, and with code buffer and work space of the lengths
-- in 01, Limits, the call comes to its run.
pub record Runnable (program : Program) : Type 0 where
  pub file : List ℕ
  pub bytes : Bytes file
  pub ready :
      (code : List ℕ) (values returns : ℕ)
      → instruction_bytes * most_instructions ≤ length code
      → value_words ≤ values
      → return_words ≤ returns
      → Ready file code values returns program

-- Every checked program is one.
abbrev pub AllRunnable : Type 0
AllRunnable = (program : Program) → Checked program → Runnable program
