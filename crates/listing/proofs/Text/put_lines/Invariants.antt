-- The invariant of `Text::put_lines`: the first k lines are put, and there is room for all.
use Rattle.listing.proofs.Lines.{Going}
use Rattle.listing.proofs.Text.put_lines.Given as goal

abbrev pub invariant-loop-k : goal.invariant-loop-k
invariant-loop-k l = Going l.code l.initial.self.bytes l.self.bytes l.initial.self.len l.k l.self.len
