-- `Text::put_refusal` meets its contract: the word, the number and the position are put one
-- after the other.
use Rattle.formats.specs.Characters.{ascii}
use Rattle.translation.specs.ListingText.{refused_word}
use Rattle.listing.proofs.Texts.{refusal_ways}
use Rattle.listing.proofs.Text.put_refusal.Goals as goal

pub put_word-requires : goal.put_word-requires
unfolding refused_word ascii
put_word-requires c = search refusal_ways

pub put_field-requires : goal.put_field-requires
unfolding refused_word ascii
put_field-requires c = search refusal_ways

pub put_field-requires-2 : goal.put_field-requires-2
unfolding refused_word ascii
put_field-requires-2 c = search refusal_ways

pub returns : goal.returns
unfolding refused_word ascii
returns c = search refusal_ways
