-- `Text::put_field` meets its contract: the character is put after the digits.
use Rattle.listing.proofs.Fields.{field_ways}
use Rattle.listing.proofs.Text.put_field.Goals as goal

pub put_word-requires : goal.put_word-requires
put_word-requires c = search field_ways

pub put_word-requires-2 : goal.put_word-requires-2
put_word-requires-2 c = search field_ways

pub returns : goal.returns
returns c = search field_ways
