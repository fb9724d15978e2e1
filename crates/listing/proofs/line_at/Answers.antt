-- `listing::line_at` meets its contract: instruction k stands whole in the code, and its fields are
-- read where the definition has them.
use native.Mathlib.Omega.{arith}
use Rattle.translation.specs.Listing.{instructions_in}
use Rattle.listing.proofs.Lines.{line_shown}
use Rattle.listing.proofs.line_at.Goals as goal

pub overflow_mul-p : goal.overflow_mul-p
unfolding instructions_in
overflow_mul-p c = omega arith

pub overflow_add-p : goal.overflow_add-p
unfolding instructions_in
overflow_add-p c = omega arith

pub overflow_add-p-2 : goal.overflow_add-p-2
unfolding instructions_in
overflow_add-p-2 c = omega arith

pub overflow_add-p-3 : goal.overflow_add-p-3
unfolding instructions_in
overflow_add-p-3 c = omega arith

pub returns : goal.returns
returns c = search line_shown
