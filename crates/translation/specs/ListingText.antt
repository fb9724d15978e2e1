-- 01, The listing: a listing as the bytes that are printed.
use Rattle.std.specs.Prelude.{ℕ, suc, List, [], ◌∷◌, ◌++◌, ℤ, pos, negsuc}
use Rattle.formats.specs.Characters.{newline, space, minus, ascii}
use Rattle.formats.specs.Decimal.{decimal}
use Rattle.translation.specs.Listing.{ListingLine, listing_line, Listing, listed, refused_listing}

-- A number in decimal, and the character after it.
unfoldable pub field : ℕ → ℕ → List ℕ
field n after = decimal n ++ (after ∷ [])

-- A number with a sign, and a newline.
unfoldable pub signed_field : ℤ → List ℕ
signed_field (pos n) = field n newline
signed_field (negsuc n) = minus ∷ field (suc n) newline

-- 01, The listing: "prints, a line each, address, opcode, byte 1, operand, number".
unfoldable pub line_text : ListingLine → List ℕ
line_text (listing_line address opcode byte1 operand number) =
    field address space ++ (field opcode space ++ (field byte1 space ++ (field operand space ++ signed_field number)))

unfoldable pub lines_text : List ListingLine → List ℕ
lines_text [] = []
lines_text (l ∷ ls) = line_text l ++ lines_text ls

-- The first word of a listing, and of a refused file's line, each with a space after it.
unfoldable pub code_word : List ℕ
code_word = ascii "code "

unfoldable pub refused_word : List ℕ
refused_word = ascii "refused "

-- 01, The listing: "after a heading with the count (a refused file gives one line: refused, number,
-- position)".
unfoldable pub text : Listing → List ℕ
text (listed count lines) = code_word ++ (field count newline ++ lines_text lines)
text (refused_listing number position) = refused_word ++ (field number space ++ field position newline)
