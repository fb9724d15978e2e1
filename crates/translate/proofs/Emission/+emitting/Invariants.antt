-- The measure of the calls {emit, emit_parts}: the records left, doubled, so that at the same
-- record the parts are above the first of them.
use Rattle.std.proofs.Common.{◌+◌, ◌-◌, ◌*◌}
use Rattle.translate.proofs.Emission.+emitting.Given as goal

abbrev pub decreases-emit : goal.decreases-emit
decreases-emit l = 2 * (l.self.now.end - l.k)

abbrev pub decreases-emit_parts : goal.decreases-emit_parts
decreases-emit_parts l = 2 * (l.self.now.end - l.k) + 1
