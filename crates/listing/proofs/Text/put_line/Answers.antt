-- `Text::put_line` meets its contract: the five fields are put one after the other.
use Rattle.listing.proofs.Fields.{line_ways}
use Rattle.listing.proofs.Text.put_line.Goals as goal

pub put_field-requires : goal.put_field-requires
put_field-requires c = search line_ways

pub put_field-requires-2 : goal.put_field-requires-2
put_field-requires-2 c = search line_ways

pub put_field-requires-3 : goal.put_field-requires-3
put_field-requires-3 c = search line_ways

pub put_field-requires-4 : goal.put_field-requires-4
put_field-requires-4 c = search line_ways

pub put_signed-requires : goal.put_signed-requires
put_signed-requires c = search line_ways

pub returns : goal.returns
returns c = search line_ways
