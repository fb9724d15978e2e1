-- `translate::emit_all` meets its contract: the entries of the functions before j are in the table,
-- and these functions are emitted where there is room.
use mathlib.Core.Path.{refl}
use native.Mathlib.Omega.{arith}
use Rattle.formats.specs.Numbers.{Bytes}
use Rattle.translate.proofs.Loops.{all_first, emitting_all}
use Rattle.translate.proofs.emit_all.Goals as goal

pub loop-j-init : goal.loop-j-init
loop-j-init c = let bytes : Bytes c.args.flat.now = λ i. omega (arith, c.type_inv.flat i) in
    all_first _ _ _ _ _ _ _ bytes c.requires (search emitting_all) (search emitting_all) (search emitting_all) refl refl

pub loop-j-preserved : goal.loop-j-preserved
loop-j-preserved c = search emitting_all

pub returns : goal.returns
returns c = search emitting_all

pub bounds-table-from : goal.bounds-table-from
bounds-table-from c = search emitting_all

pub unwrap-emitted-requires : goal.unwrap-emitted-requires
unwrap-emitted-requires c = search emitting_all

pub overflow_add-table : goal.overflow_add-table
overflow_add-table c = search emitting_all
