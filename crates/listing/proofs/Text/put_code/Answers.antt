-- `Text::put_code` meets its contract: the word, the count and the lines are put one after the
-- other.
use borrow.Author.Rules.{rules}
use Rattle.translation.specs.Listing.{instructions_in}
use Rattle.formats.specs.Characters.{ascii}
use Rattle.translation.specs.ListingText.{code_word}
use Rattle.listing.proofs.Texts.{code_ways}
use Rattle.listing.proofs.Text.put_code.Goals as goal

pub put_word-requires : goal.put_word-requires
unfolding instructions_in code_word ascii
put_word-requires c = search code_ways

pub put_field-requires : goal.put_field-requires
unfolding instructions_in code_word ascii
put_field-requires c = search code_ways

pub put_lines-requires : goal.put_lines-requires
unfolding instructions_in code_word ascii
put_lines-requires c = search (rules, code_ways)

pub returns : goal.returns
unfolding instructions_in code_word ascii
returns c = search code_ways
