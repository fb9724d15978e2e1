-- The tree reader's answer as 01, The tree reader, and N5 have it: each case with its number and
-- values.
use Rattle.formats.specs.Measures.{Measures}
use Rattle.std.specs.Prelude.{Result as Answer}
use Rattle.formats.specs.Results.{Result}
use Rattle.refusal.specs.Inner.Answered.{answered}
use Rattle.refusal.specs.declared.Refused.{Refused}
use Rattle.tree.specs.declared.Measures.{Measures as Found}

-- What was measured, as numbers.
abbrev pub measured : Found → Measures
measured m = record { bytes = m.bytes; tips = m.tips; depth = m.depth }

-- A tree: its measures. A refusal: its number and its position.
abbrev pub tree_result : Answer Found Refused → Result Measures
tree_result r = answered measured r
