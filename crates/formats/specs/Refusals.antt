-- 01, The table of refusals: the numbers, each with its condition.
use Rattle.std.specs.Prelude.{ℕ}

-- the file's length is not 1 to 17 whole blocks
abbrev pub file_length : ℕ
file_length = 1

-- a block's check does not hold
abbrev pub block_check : ℕ
block_check = 2

-- another field of a block is wrong, or an unused record is not zero
abbrev pub block_field : ℕ
block_field = 3

-- a field of the header is wrong, or the record count
abbrev pub header_field : ℕ
header_field = 4

-- a field of a function record is wrong, or the sum of the counts
abbrev pub function_field : ℕ
function_field = 5

-- a node's kind is above 8, an unused field is not zero, or b is not below F
abbrev pub node_field : ℕ
node_field = 6

-- a function's records aren't exactly one expression
abbrev pub prefix_form : ℕ
prefix_form = 7

-- a number where a tree is expected, or a tree where a number is
abbrev pub wrong_type : ℕ
wrong_type = 8

-- a name that is not bound
abbrev pub not_bound : ℕ
not_bound = 9

-- one word more where 16 stand above the frame's base
abbrev pub too_many_words : ℕ
too_many_words = 10

-- a tree that is not the head of the pending list, unequal lists, or trees left
abbrev pub out_of_order : ℕ
out_of_order = 11

-- a Case with 16 trees pending
abbrev pub too_many_pending : ℕ
too_many_pending = 12

-- a code, file or work buffer that is too short
abbrev pub space_too_short : ℕ
space_too_short = 13

-- the fuel is used up
abbrev pub fuel_used_up : ℕ
fuel_used_up = 14

-- the input ended
abbrev pub input_ended : ℕ
input_ended = 15

-- a byte that is not 1 or 2 where a tag is due
abbrev pub not_a_tag : ℕ
not_a_tag = 16

-- the output is full, or shorter than the result
abbrev pub output_full : ℕ
output_full = 17

-- a call with 1,024 open
abbrev pub too_many_calls : ℕ
too_many_calls = 18

-- an instruction that can't be performed
abbrev pub cannot_perform : ℕ
cannot_perform = 19

-- a node tag under 1,024 others
abbrev pub too_deep : ℕ
too_deep = 20

-- the exact sum lies outside −2147483648 to 2147483647
abbrev pub out_of_range : ℕ
out_of_range = 21
