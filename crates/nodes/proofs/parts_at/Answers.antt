-- `nodes::parts_at` meets its contract: a record that is refused has none.
use Rattle.std.proofs.Common.{rules}
use Rattle.nodes.proofs.Nodes.{parts_or_none}
use Rattle.nodes.proofs.parts_at.Goals as goal

pub returns : goal.returns
returns c = parts_or_none _ _ _ c.record_at.ensures _ _ c.map_or.ensures (λ d counted. search rules)
