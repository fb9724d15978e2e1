-- `Text::put_signed` meets its contract: the newline is put after the digits.
use Rattle.listing.proofs.Fields.{signed_ways}
use Rattle.listing.proofs.Text.put_signed.Goals as goal

pub put_word-requires : goal.put_word-requires
put_word-requires c = search signed_ways

pub put_word-requires-2 : goal.put_word-requires-2
put_word-requires-2 c = search signed_ways

pub returns : goal.returns
returns c = search signed_ways
