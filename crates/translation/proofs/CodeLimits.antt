-- The limits of a program's code: the proof of `CodeLimitsHold` (specs/CodeLimits), put together.
use Rattle.translation.specs.CodeLimits.{CodeLimitsHold}
use Rattle.translation.proofs.AsCounted.{as_counted}
use Rattle.translation.proofs.InPlace.{in_place}
use Rattle.translation.proofs.Operands.{few_instructions, operands_fit}
use Rattle.translation.proofs.WordCounts.{word_counts}

pub code_limits : CodeLimitsHold
code_limits program lawful = record {
  few = few_instructions program lawful;
  fit = operands_fit program lawful;
  in_place = in_place program;
  as_counted = as_counted program;
  words = word_counts program lawful;
}
