-- `records::offset_of` meets its contract: past the end all fields read as 0.
use native.Mathlib.Omega.{arith}
use Rattle.records.proofs.Laws.{stands}
use Rattle.records.proofs.offset_of.Goals as goal

pub returns : goal.returns
returns c = stands _ _ _ _ _ c.min.ensures c.saturating_mul.ensures (omega arith)
