-- `record_rows::first_record` meets its contract. Counts are of 16 bits each, so the sum fits.
use native.Mathlib.Omega.{arith}
use Rattle.record_rows.proofs.Halves.{first_is, first_low}
use Rattle.record_rows.proofs.first_record.Goals as goal

pub overflow_add-result : goal.overflow_add-result
overflow_add-result c = omega (arith, first_is c.args.flat.now c.args.b, first_low c.args.flat.now c.args.b (λ i. omega (arith, c.type_inv.flat i)))
