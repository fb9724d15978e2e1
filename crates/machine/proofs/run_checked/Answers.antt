-- `machine::run_checked` meets its contract: value words or return words are missing; or what is
-- done in the first of them is done in all.
use borrow.Author.Rules.{rules}
use Rattle.operations.proofs.RunLaws.{too-short, short_returns_first, done_in_first}
use Rattle.machine.proofs.run_checked.Goals.{in_default-via-in-None-1, in_default-via-in-Some+in-None-1}
use Rattle.machine.proofs.run_checked.Goals as goal

pub returns : goal.returns
returns c =
    let h = c.in-Some in
    let g = c.in-Some-first_chunk_mut in
    done_in_first _ _ _ _ _ _ _ _ h.ensures.cases.enough g.ensures.cases.enough h.ensures.cases.same g.ensures.cases.same _ _ _ _ c.run_checked_in.ensures

pub returns-2 : goal.returns-2
returns-2 c = elim c.in_default.branch [
  | in_default-via-in-None-1 w ↦ rw (w.values-is, w.returns-is) (search (rules, too-short))
  | in_default-via-in-Some+in-None-1 w ↦
      let h = w.in-Some in
      rw (w.values-is, w.returns-is)
      (short_returns_first _ _ _ _ _ _ _ _ c.at.ensures c.refused.ensures _ h.ensures.cases.enough h.ensures.cases.same (search rules))
]
