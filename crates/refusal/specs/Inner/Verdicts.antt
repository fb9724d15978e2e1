-- The answer of a check, as 01, Where each refusal arises, has it: passed, or the refusal's number
-- and its position.
use Rattle.std.specs.Prelude.{Result as Answer}
use Rattle.formats.specs.Results.{Result}
use Rattle.refusal.specs.Inner.Answered.{answered}
use Rattle.refusal.specs.declared.Refused.{Refused}

abbrev pub verdict_result : Answer (Unit {0}) Refused → Result (Unit {0})
verdict_result r = answered (λ u. u) r
