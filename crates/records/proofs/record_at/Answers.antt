-- `records::record_at` meets its contract: the fields are read at the offset of record k, and are
-- those of a node of the program that the header describes.
use Rattle.records.proofs.Laws.{read_there}
use Rattle.records.proofs.record_at.Goals as goal

pub returns : goal.returns
returns c = search read_there
