-- `listing::main` needs nothing but its bounds: the text that is put is within its bytes.
use native.Mathlib.Omega.{arith}
use Rattle.listing.proofs.Fields.{put_length}
use Rattle.listing.proofs.main.Goals as goal

pub as_bytes-requires : goal.as_bytes-requires
as_bytes-requires c = let same = put_length _ _ _ _ _ c.put_listing.ensures in omega (arith, same, c.put_listing.ensures.inside)
