-- What the functions of the listing program promise each other.
use Rattle.std.specs.Prelude.{ℕ, ◌*◌}
use Rattle.meaning.specs.Instructions.{instruction_bytes, most_instructions}
use Rattle.translation.specs.Listing.{listing_line as a_line, ListingLine as LineOfListing}
use Rattle.listing.specs.declared.Line.{Line}

-- The longest code. 01, Limits: "At most 4,128 instructions".
abbrev pub most_code : ℕ
most_code = instruction_bytes * most_instructions

-- The line of the definition that has these numbers.
abbrev pub shown : Line → LineOfListing
shown l = a_line l.address l.opcode l.byte1 l.operand l.number
