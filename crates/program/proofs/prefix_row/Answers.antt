-- `program::prefix_row` meets its contract. Before each turn of the loop the functions below j are
-- one expression each, so those from j on, whose records begin at the first, decide.
use mathlib.Core.Path.{◌∙◌}
use Rattle.program.proofs.Bodies.{bodies_checked}
use Rattle.program.proofs.prefix_row.Goals as goal

pub loop-j-init : goal.loop-j-init
loop-j-init c = search (bodies_checked, c.from-functions.ensures ∙ c.functions_in.ensures)

pub returns-then-not-one_expression : goal.returns-then-not-one_expression
returns-then-not-one_expression c = search (bodies_checked, c.from.ensures ∙ c.count.ensures)

pub loop-j-preserved : goal.loop-j-preserved
loop-j-preserved c = search (bodies_checked, c.from.ensures ∙ c.count.ensures)

pub returns : goal.returns
returns c = search bodies_checked
