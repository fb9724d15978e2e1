-- `named_trees::part_of` meets its contract. A tree ends within its bytes, so its end is within the
-- input.
use Rattle.std.proofs.Common.{rules}
use Rattle.named_trees.proofs.Offsets.{parts, part_within, part_read}
use Rattle.named_trees.proofs.part_of.Goals as goal

pub returns-then-input-node : goal.returns-then-input-node
returns-then-input-node c = search parts

pub returns-then-j-eq0 : goal.returns-then-j-eq0
returns-then-j-eq0 c = search parts

pub returns-then-left-known : goal.returns-then-left-known
returns-then-left-known c = search parts

pub map_or-requires : goal.map_or-requires
map_or-requires c = λ m is κs cs.
    let within = part_within c.args.input.now c.args.known c.args.end c.args.node c.args.j
    c.if-input-node.false c.if-j-eq0.false c.if-left-known.false _ c.tree_answer.ensures m is in
    search (rules, within)

pub returns : goal.returns
returns c =
    part_read c.args.input.now c.args.known c.args.end c.args.node c.args.j
    c.if-input-node.false c.if-j-eq0.false c.if-left-known.false _ c.tree_answer.ensures
    _ _ c.map_or.ensures (λ m given. search rules)
