-- Laws of `FilledBuffer`: a refusal leaves the buffer untouched, and bytes are written to its
-- start.
use Prim.Native.Nat.{ℕ}
use mathlib.Core.List.{List}
use mathlib.Core.Path.{◌≡◌, refl, sym, ap}
use lib.ListN.{length}
use Rattle.formats.specs.Results.{Result, done, refusal}
use Rattle.formats.specs.Blocks.{buffer_after}
use Rattle.formats.specs.Written.{written}
use Rattle.refusal.specs.Inner.Numbers.{number}
use Rattle.refusal.specs.Inner.FilledBuffer.{FilledBuffer}
use Rattle.std.specs.Prelude.{Result as Answer, Ok, Err}
use Rattle.std.specs.Result.{IsErrAnd}
use Rattle.refusal.proofs.Raised.{raised}
use Rattle.refusal.specs.declared.Refused.{Refused}

pub put_refused : (due : Result (List ℕ)) (before : List ℕ) (r : Refused) → due ≡ refusal (number r.why) r.position → FilledBuffer due before before (Err r)
unfolding buffer_after
put_refused due before r e = rw e (record { answer = refl; buffer = refl })

-- a refusal that goes up by `?`
pub put_raised : (due : Result (List ℕ)) (before : List ℕ) (r : Refused) (out : Answer ℕ Refused) → due ≡ refusal (number r.why) r.position → IsErrAnd out (λ q. q ≡ r) → FilledBuffer due before before out
put_raised due before r out e up = rw (raised out up) (put_refused due before r e)

pub put_done : (due : Result (List ℕ)) (before after bytes : List ℕ) (n : ℕ) → due ≡ done bytes → length bytes ≡ n → after ≡ written before 0 bytes → FilledBuffer due before after (Ok n)
unfolding buffer_after
put_done due before after bytes n e size wrote = rw e (record { answer = ap done (sym size); buffer = wrote })
