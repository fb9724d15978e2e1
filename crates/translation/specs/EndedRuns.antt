-- What a run that ended gives: the whole result, and that is what the program means; where the
-- result is a tree, one whole tree is written for one whole tree read.
use Rattle.std.specs.Prelude.{ℕ, List, ◌≡◌, length, drop}
use Rattle.formats.specs.Results.{done}
use Rattle.formats.specs.Tokens.{Tree, tokens, Labelled}
use Rattle.meaning.specs.Running.{Ran, written_by, most_calls, read_by}
use Rattle.meaning.specs.Evaluation.{Value, result_bytes, result_number, Ends}
use Rattle.formats.specs.Buffers.{Opens}
use Rattle.formats.specs.Programs.{Program}

-- What a run on the tree t gives where the fuel suffices: v is the value, `output` the output
-- before the run.
pub record Whole (t : Tree) (v : Value) (output : List ℕ) (ran : Ran) : Type 0 where
  -- "the run ends unrefused,"
  pub unrefused : ran.answer.outcome ≡ done tt
  -- "the whole tree has been read, nothing past it,"
  pub whole_read : ran.answer.bytes_read ≡ length (tokens t)
  -- "and the whole result written,"
  pub whole_written : ran.answer.bytes_written ≡ length (result_bytes v)
  pub result : written_by ran ≡ result_bytes v
  pub untouched : drop (length (result_bytes v)) ran.output ≡ drop (length (result_bytes v)) output
  -- "or the same number given and nothing written." (A number's `result_bytes` are none; a tree's
  -- `result_number` is 0.)
  pub same_number : ran.answer.number ≡ result_number v

-- What a run that ended came from: the input begins with a tree, the evaluation on it ends, and the
-- run gave its value.
pub record Meant (program : Program) (input output : List ℕ) (ran : Ran) : Type 0 where
  pub on_tree : Tree
  pub labelled : Labelled on_tree
  pub opens : Opens (tokens on_tree) input
  pub expressions : ℕ
  pub value : Value
  pub ends : Ends program on_tree most_calls expressions value
  pub whole : Whole on_tree value output ran

-- The bytes read are the tokens of one tree, and the bytes written are the tokens of one tree.
pub record OneForOne (input : List ℕ) (ran : Ran) : Type 0 where
  pub tree_read : Tree
  pub read_labelled : Labelled tree_read
  pub read_is : read_by ran input ≡ tokens tree_read
  pub tree_written : Tree
  pub written_labelled : Labelled tree_written
  pub written_is : written_by ran ≡ tokens tree_written
