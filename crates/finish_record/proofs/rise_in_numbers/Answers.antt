-- `finish_record::rise_in_numbers` meets its contract.
use Rattle.finish_record.proofs.Rises.{rise_numbers}
use Rattle.finish_record.proofs.rise_in_numbers.Goals as goal

pub returns : goal.returns
returns c = search rise_numbers
