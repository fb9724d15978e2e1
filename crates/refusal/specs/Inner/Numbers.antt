-- Each refusal has the number that 01, The table of refusals, gives it.
use Rattle.std.specs.Prelude.{ℕ}
use Rattle.refusal.specs.declared.Refusal.{Refusal}
use Rattle.refusal.specs.declared.Refusal.TheVariants.{FileLength, BlockCheck, BlockField, HeaderField, FunctionField, NodeField, PrefixForm, WrongType, NotBound, TooManyWords}
use Rattle.refusal.specs.declared.Refusal.TheVariants.{OutOfOrder, TooManyPending, SpaceTooShort, FuelUsedUp, InputEnded, NotATag, OutputFull, TooManyCalls, CannotPerform, TooDeep, OutOfRange}
use Rattle.formats.specs.Refusals.{file_length, block_check, block_field, header_field, function_field, node_field, prefix_form, wrong_type, not_bound, too_many_words}
use Rattle.formats.specs.Refusals.{out_of_order, too_many_pending, space_too_short, fuel_used_up, input_ended, not_a_tag, output_full, too_many_calls, cannot_perform, too_deep, out_of_range}

abbrev pub number : Refusal → ℕ
number FileLength = file_length
number BlockCheck = block_check
number BlockField = block_field
number HeaderField = header_field
number FunctionField = function_field
number NodeField = node_field
number PrefixForm = prefix_form
number WrongType = wrong_type
number NotBound = not_bound
number TooManyWords = too_many_words
number OutOfOrder = out_of_order
number TooManyPending = too_many_pending
number SpaceTooShort = space_too_short
number FuelUsedUp = fuel_used_up
number InputEnded = input_ended
number NotATag = not_a_tag
number OutputFull = output_full
number TooManyCalls = too_many_calls
number CannotPerform = cannot_perform
number TooDeep = too_deep
number OutOfRange = out_of_range
