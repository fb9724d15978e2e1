-- `prepare::prepare` meets its contract: the translator says what comes before the run.
use Rattle.prepare.proofs.Laws.{words_lent}
use Rattle.prepare.proofs.prepare.Goals as goal

pub returns : goal.returns
returns c = search words_lent
