-- `decode::decode_all` meets its contract: before each turn the rows of the functions below j are
-- written.
use Rattle.std.proofs.Common.{refl, ◌∙◌}
use native.Mathlib.Omega.{arith}
use Rattle.formats.specs.Numbers.{Bytes}
use Rattle.decode.proofs.All.{fill_first, fill_found, fill_more, filling}
use Rattle.decode.proofs.decode_all.Goals as goal

pub loop-j-init : goal.loop-j-init
loop-j-init c = let bytes : Bytes c.args.flat.now = λ i. omega (arith, c.type_inv.flat i) in
    fill_first _ _ _ _ _ _ bytes c.requires refl (c.from-functions.ensures ∙ c.functions_in.ensures) c.first_node-k.ensures c.nodes_end.ensures

pub decode_at-requires : goal.decode_at-requires
decode_at-requires c = search filling

pub unwrap-k-requires : goal.unwrap-k-requires
unwrap-k-requires c = fill_found _ _ _ _ _ _ _ _ c.loop-j.invariant _ c.start.ensures c.loop-j-test.true _ _ _ c.decode_at.ensures

pub loop-j-preserved : goal.loop-j-preserved
loop-j-preserved c = fill_more _ _ _ _ _ _ _ _ c.loop-j.invariant _ c.start.ensures c.loop-j-test.true _ _ _ c.decode_at.ensures _ c.unwrap-k.ensures

pub returns : goal.returns
returns c = search filling
