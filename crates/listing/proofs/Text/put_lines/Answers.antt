-- `Text::put_lines` meets its contract, by the laws of a turn.
use native.Mathlib.Omega.{arith}
use borrow.Author.Rules.{rules}
use Rattle.translation.specs.Listing.{instructions_in}
use Rattle.listing.proofs.Lines.{lines_start, lines_ways}
use Rattle.listing.proofs.Text.put_lines.Goals as goal

pub loop-k-init : goal.loop-k-init
loop-k-init c = lines_start _ _ _ (λ i. omega (arith, c.type_inv.code i)) c.requires.0 c.requires.1

pub line_at-requires : goal.line_at-requires
unfolding instructions_in
line_at-requires c = search rules

pub put_line-requires : goal.put_line-requires
unfolding instructions_in
put_line-requires c = search lines_ways

pub loop-k-preserved : goal.loop-k-preserved
unfolding instructions_in
loop-k-preserved c = search lines_ways

pub returns : goal.returns
unfolding instructions_in
returns c = search lines_ways
