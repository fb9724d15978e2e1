-- Demand 3, sentence by sentence. The statement is `Demand3Holds`, at the end; `demand_3` in
-- proofs/Demand3.antt is its proof.
--
-- 01, The code and the evaluation: "Demand 3 runs the translator's code for a program both passes
-- accept, work space lent; its 4n + 1 is meant where it fits 64 bits." Here fuel is any number.
--
-- N3: "the bound on fuel is for evaluations whose sums all fit". Only such an evaluation ends, so
-- the premise of `suffices` says it; one that breaks at a sum is an "other evaluation" here, and
-- OutOfRange.antt says with which refusal.
--
-- Its words. A program's code: `code_of` (Templates), by 01, Templates. The stream run:
-- `stream_run` (meaning, Running), its answer and every byte of the output. The source evaluation:
-- `Ends program t o n v` (meaning, Evaluation) says that it ends with the value v after n
-- expressions, with at most o calls open at once, the first included; it is endless where there are
-- no such o, n and v, and it breaks under no bound (meaning, Meaning: `Endless`). `most_calls` is
-- 1,024. The source's result: `result_bytes v`, a tree's tokens, none for a number; `result_number
-- v`, the number, 0 for a tree. `Opens vs s`: vs are opening bytes of s, none or all included.
-- `written_by`: the output's first bytes, as many as the answer says are written; `untouched_by`:
-- the bytes after those.
use Rattle.std.specs.Prelude.{ℕ, ◌+◌, ◌*◌, ◌≤◌, List, ◌++◌, ◌≢◌, ◌≡◌, length}
use Rattle.formats.specs.Buffers.{Opens}
use Rattle.formats.specs.Results.{done}
use Rattle.formats.specs.Tokens.{Tree, Labelled, tokens}
use Rattle.formats.specs.Programs.{Program, Lawful}
use Rattle.rules.specs.PassTwo.{both_passes}
use Rattle.meaning.specs.Running.{Ran, value_words, return_words, most_calls, stream_run}
use Rattle.meaning.specs.Running.{written_by, untouched_by}
use Rattle.meaning.specs.Evaluation.{Value, Ends, result_bytes}
use Rattle.translation.specs.Templates.{code_of}
use Rattle.meaning.specs.Running.{read_by}
use Rattle.translation.specs.EndedRuns.{Whole}

-- "any checked program": one within the limits of 01, Lawful programs, that both passes accept.
pub record Checked (program : Program) : Type 0 where
  pub lawful : Lawful program
  pub passes : both_passes program ≡ done tt

-- A checked program, with what its runs are given besides input, output and fuel: a code buffer
-- that begins with its code, and at least the work space of 01, Work words.
pub record Given : Type 0 where
  pub program : Program
  pub checked : Checked program
  pub after_code : List ℕ
  pub values : ℕ
  pub returns : ℕ
  pub words_lent : value_words ≤ values
  pub returns_lent : return_words ≤ returns

-- The stream run of that program's code.
abbrev pub run_on : Given → (input output : List ℕ) (fuel : ℕ) → Ran
run_on given input output fuel = stream_run (code_of given.program ++ given.after_code) input output fuel given.values given.returns

-- "When any checked program is run over the stream on any tree's tokens, with anything after them,
-- any fuel and any output length:" `run` is the run of the program's code on an input, with an
-- output and a fuel.
pub record Demand3 (program : Program) (t : Tree) (run : (input output : List ℕ) (fuel : ℕ) → Ran) : Type 0 where
  -- "the bytes read are opening bytes of that tree, none or all included;"
  pub read_opening : (rest output : List ℕ) (fuel : ℕ) → Opens (read_by (run (tokens t ++ rest) output fuel) (tokens t ++ rest)) (tokens t)
  pub read_no_more : (rest output : List ℕ) (fuel : ℕ) → (run (tokens t ++ rest) output fuel).answer.bytes_read ≤ length (tokens t)
  -- "the bytes written are opening bytes of the source's result where it has one;" with however
  -- many calls open
  pub written_opening :
      (rest output : List ℕ) (fuel o n : ℕ) (v : Value)
      → Ends program t o n v
      → Opens (written_by (run (tokens t ++ rest) output fuel)) (result_bytes v)
  pub written_no_more :
      (rest output : List ℕ) (fuel o n : ℕ) (v : Value)
      → Ends program t o n v
      → (run (tokens t ++ rest) output fuel).answer.bytes_written ≤ length (result_bytes v)
  -- (no other byte of the output is written, whether the source has a result or not)
  pub none_other :
      (rest output : List ℕ) (fuel : ℕ)
      → untouched_by (run (tokens t ++ rest) output fuel) (run (tokens t ++ rest) output fuel).output
      ≡ untouched_by (run (tokens t ++ rest) output fuel) output
  -- "and neither answers nor output depend on what stands after the tree."
  pub nothing_after : (rest rest' output : List ℕ) (fuel : ℕ) → run (tokens t ++ rest) output fuel ≡ run (tokens t ++ rest') output fuel
  -- "If the source evaluation ends after n expressions with at most 1,024 calls open at once, every
  -- fuel from 4n + 1 up suffices, given output space for the result:" the run is `Whole`.
  pub suffices :
      (n : ℕ) (v : Value)
      → Ends program t most_calls n v
      → (rest output : List ℕ) (fuel : ℕ)
      → 4 * n + 1 ≤ fuel
      → length (result_bytes v) ≤ length output
      → Whole t v output (run (tokens t ++ rest) output fuel)
  -- "For every other evaluation, endless ones included, no fuel suffices." Nor does any output
  -- space.
  pub none_suffices :
      ((n : ℕ) (v : Value) → Ends program t most_calls n v → ⊥)
      → (rest output : List ℕ) (fuel : ℕ)
      → (run (tokens t ++ rest) output fuel).answer.outcome ≢ done tt

-- It holds of every checked program, and every tree of 32-bit labels, however deep.
abbrev pub Demand3Holds : Type 0
Demand3Holds = (given : Given) (t : Tree) → Labelled t → Demand3 given.program t (run_on given)
