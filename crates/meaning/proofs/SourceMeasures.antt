-- The proof of the statement of specs/SourceMeasures: what a source run passes on of its tree.
use Prim.Native.Nat.{ℕ}
use mathlib.Core.List.{List}
use mathlib.Core.Path.{◌≡◌, refl, ap, ap₂}
use Rattle.formats.specs.Results.{Result, done, refusal}
use Rattle.formats.specs.Tokens.{Tree, first_tree}
use Rattle.formats.specs.Measures.{measures_of, no_measures, measures_or0}
use Rattle.formats.proofs.Measures.{of_tree}
use Rattle.formats.proofs.Results.{done_not}
use Rattle.meaning.specs.SourceRun.{SourceInput, check_source, source_run, unless_refused, passed_on}
use Rattle.meaning.specs.SourceMeasures.{MeasuredTree, passed_on_by, SourceMeasures}
use Rattle.meaning.proofs.SourceChecks.{done_passed}

-- an end passes on what was measured of the tree that the reader gave
all_on : (outcome : Result (Unit {0})) (input : List ℕ) (t : Tree) → first_tree input ≡ done t → outcome ≡ done tt → passed_on outcome input ≡ measures_of t
unfolding unless_refused measures_or0
all_on outcome input t read e = ap₂ unless_refused e (ap measures_or0 (of_tree input t read))

-- a refusal passes nothing on
nothing_on : (outcome : Result (Unit {0})) (input : List ℕ) (number position : ℕ) → outcome ≡ refusal number position → passed_on outcome input ≡ no_measures
unfolding unless_refused
nothing_on outcome input number position e = ap (λ o. passed_on o input) e

-- a call that ended has passed its checks
by_checks : (file input output : List ℕ) (fuel values returns : ℕ) (r : Result SourceInput) → check_source file input values returns ≡ r
    → (source_run file input output fuel values returns).answer.outcome ≡ done tt
    → MeasuredTree file input values returns (passed_on_by file input output fuel values returns)
unfolding source_run
by_checks file input output fuel values returns (done c) is e =
    let p = done_passed file input values returns c is in
    record { program = c.program; tree = c.tree; passed = p; measures = all_on _ input c.tree p.reads e }
by_checks file input output fuel values returns (refusal n q) is e = done_not {number = n} {position = q} e (rw (source_run, is))

pub source_measures : SourceMeasures
source_measures =
    record {
      ended = λ file input output fuel values returns program t passed e. all_on _ input t passed.reads e;
      measured = λ file input output fuel values returns e. by_checks file input output fuel values returns (check_source file input values returns) refl e;
      refused = λ file input output fuel values returns number position e. nothing_on _ input number position e;
    }
