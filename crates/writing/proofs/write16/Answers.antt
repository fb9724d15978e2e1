-- `writing::write16` meets its contract: the bytes written are the number's.
use Rattle.std.proofs.Common.{arith}
use Rattle.std.proofs.lemmas.Bool.Decides.{nat_tests}
use Rattle.writing.proofs.Placed.{two_bytes_at}
use Rattle.writing.proofs.write16.Goals as goal

pub returns : goal.returns
returns c = two_bytes_at _ _ _ _ _ _ _ c.write_bytes.ensures c.to_le_bytes.ensures (grind (arith, nat_tests)) (omega arith)
