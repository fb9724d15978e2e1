-- N5, as far as it speaks of the source run: the statements. They are proved in
-- proofs/SourceMeasures.antt.
use Rattle.std.specs.Prelude.{ℕ, List, ◌≡◌}
use Rattle.formats.specs.Results.{done, refusal}
use Rattle.formats.specs.Tokens.{Tree}
use Rattle.formats.specs.Programs.{Program}
use Rattle.formats.specs.Measures.{Measures, measures_of, no_measures}
use Rattle.meaning.specs.SourceRun.{source_run, passed_on}
use Rattle.meaning.specs.Meaning.{Passed}

-- A program and a tree that pass every check before the evaluation; m holds the tree's measures.
pub record MeasuredTree (file input : List ℕ) (values returns : ℕ) (m : Measures) : Type 0 where
  pub program : Program
  pub tree : Tree
  pub passed : Passed file input values returns program tree
  pub measures : m ≡ measures_of tree

-- What a call on this input passes on.
abbrev pub passed_on_by : (file input output : List ℕ) (fuel values returns : ℕ) → Measures
passed_on_by file input output fuel values returns = passed_on (source_run file input output fuel values returns).answer.outcome input

-- N5, sentence by sentence.
pub record SourceMeasures : Type 0 where
  -- "The source run's answer passes both on": where it ended, those of the tree that it evaluated,
  -- whatever stands after the tree ..
  pub ended :
      (file input output : List ℕ) (fuel values returns : ℕ) (program : Program) (t : Tree)
      → Passed file input values returns program t
      → (source_run file input output fuel values returns).answer.outcome ≡ done tt
      → passed_on_by file input output fuel values returns ≡ measures_of t
  -- .. and there is such a tree
  pub measured :
      (file input output : List ℕ) (fuel values returns : ℕ)
      → (source_run file input output fuel values returns).answer.outcome ≡ done tt
      → MeasuredTree file input values returns (passed_on_by file input output fuel values returns)
  -- "A refusal of the reader or the source run gives 0 for both."
  pub refused :
      (file input output : List ℕ) (fuel values returns number position : ℕ)
      → (source_run file input output fuel values returns).answer.outcome ≡ refusal number position
      → passed_on_by file input output fuel values returns ≡ no_measures
