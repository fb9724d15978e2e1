-- `source::evaluate` meets its contract: the first walk gives the answer, and the second
-- one writes the result.
use Prim.Native.Nat.{◌<◌}
use native.Mathlib.Omega.{arith}
use lib.ListN.{length}
use Rattle.result_bytes.specs.Inner.Bytes.{count_limit}
use Rattle.source.proofs.Runs.{evaluates}
use Rattle.source.proofs.evaluate.Goals as goal

pub returns-in-Err : goal.returns-in-Err
returns-in-Err c = search evaluates

pub returns-then-output-value : goal.returns-then-output-value
returns-then-output-value c =
    let short : length c.args.output.now < count_limit = omega arith in
    search (evaluates, short)

pub returns-then-value-ne0 : goal.returns-then-value-ne0
returns-then-value-ne0 c = search evaluates

pub returns-else-value-ne0 : goal.returns-else-value-ne0
returns-else-value-ne0 c =
    let short : length c.args.output.now < count_limit = omega arith in
    search (evaluates, short)
