-- What a call answers, as 01, Where each refusal arises, has it: its value, or the refusal's number
-- and its position.
use Rattle.std.specs.Prelude.{Result as Answer, Ok, Err}
use Rattle.formats.specs.Results.{Result, done, refusal}
use Rattle.refusal.specs.Inner.Numbers.{number}
use Rattle.refusal.specs.declared.Refused.{Refused}

abbrev pub answered : {A B : Type 0} → (A → B) → Answer A Refused → Result B
answered f (Ok x) = done (f x)
answered f (Err r) = refusal (number r.why) r.position
