-- `nodes::node_row` meets its contract. Before each turn of the loop the nodes below record k have
-- passed, so those from k on decide.
use Rattle.formats.specs.Results.{verdict}
use Rattle.formats.specs.Rows.{node_row}
use Rattle.formats.specs.Inner.Fields.{header_in, node_in}
use Rattle.formats.proofs.Results.{Passing}
use Rattle.nodes.proofs.node_row.Given as goal

abbrev pub invariant-loop-k : goal.invariant-loop-k
invariant-loop-k l = Passing (node_in l.flat) (verdict (node_row (header_in l.flat) l.flat)) l.end l.k
