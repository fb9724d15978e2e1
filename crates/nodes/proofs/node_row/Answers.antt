-- `nodes::node_row` meets its contract. Before each turn of the loop the nodes below record k have
-- passed, so those from k on decide.
use Rattle.nodes.proofs.Nodes.{nodes_checked}
use Rattle.nodes.proofs.node_row.Goals as goal

pub loop-k-preserved : goal.loop-k-preserved
loop-k-preserved c = search (nodes_checked, c.in_ok-record_at.was)
