-- `open_call::open_in_numbers` meets its contract.
use Rattle.open_call.proofs.Opens.{open_numbers}
use Rattle.open_call.proofs.open_in_numbers.Goals as goal

pub returns : goal.returns
returns c = search open_numbers
