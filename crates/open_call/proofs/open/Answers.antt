-- `open_call::open` meets its contract.
use Rattle.open_call.proofs.Opens.{opening_ways}
use Rattle.open_call.proofs.open.Goals as goal

pub returns-then-r-ge-RECORD_LIMIT : goal.returns-then-r-ge-RECORD_LIMIT
returns-then-r-ge-RECORD_LIMIT c = search opening_ways

pub returns-then-s-ge-MOST_WAITING : goal.returns-then-s-ge-MOST_WAITING
returns-then-s-ge-MOST_WAITING c = search opening_ways

pub returns : goal.returns
returns c = search opening_ways
