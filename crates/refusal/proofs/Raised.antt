-- A refusal that goes up by `?`: what is returned is that refusal.
use mathlib.Core.Path.{◌≡◌, ap, ◌∙◌}
use Rattle.std.specs.Prelude.{Result as Answer, Err}
use Rattle.std.specs.Result.{IsErrAnd}
use Rattle.std.proofs.lemmas.Result.{err_from_is_err_and}
use Rattle.refusal.specs.declared.Refused.{Refused}

pub raised : {T : Type 0} {r : Refused} (out : Answer T Refused) → IsErrAnd out (λ q. q ≡ r) → out ≡ Err r
raised out up = let p = err_from_is_err_and out up in p.1 ∙ ap Err p.2
