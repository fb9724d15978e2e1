-- `tree_calls::tree` meets its contract: what the tree reader found is answered.
use Rattle.std.proofs.Common.{rules}
use Rattle.tree_calls.proofs.Laws.{tree_answered}
use Rattle.tree_calls.proofs.tree.Goals as goal

pub returns : goal.returns
returns c =
    tree_answered _ (λ m none. search rules) _ _ _ _ _ _ _ _ c.tree_answer-found.ensures c.number_and_position-number.ensures.number c.number_and_position-number.ensures.position
    c.unwrap_or_default-measures.ensures
    c.store_row.ensures
