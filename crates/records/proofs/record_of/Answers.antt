-- `records::record_of` meets its contract: a law for each arm of the match.
use Rattle.records.proofs.Laws.{arms}
use Rattle.records.proofs.record_of.Goals as goal

pub returns-in-0 : goal.returns-in-0
returns-in-0 c = search arms

pub returns-in-1 : goal.returns-in-1
returns-in-1 c = search arms

pub returns-in-2 : goal.returns-in-2
returns-in-2 c = search arms

pub returns-in-3 : goal.returns-in-3
returns-in-3 c = search arms

pub returns-in-4 : goal.returns-in-4
returns-in-4 c = search arms

pub returns-in-5 : goal.returns-in-5
returns-in-5 c = search arms

pub returns-in-6 : goal.returns-in-6
returns-in-6 c = search arms

pub returns-in-7 : goal.returns-in-7
returns-in-7 c = search arms

pub returns-in-8 : goal.returns-in-8
returns-in-8 c = search arms

pub returns-in_default : goal.returns-in_default
returns-in_default c = search arms
