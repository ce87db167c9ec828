use Rattle.std.proofs.Common.{◌≡◌, List, [], length, ap, sym, ◌∙◌, arith}
use Rattle.algebra.proofs.Nested.{length-lists}
use Rattle.p3_air.proofs.First.{list_read, one_list_more, lists_to_the_end}
use Rattle.p3_uni_stark_identity.proofs.chunks.have_dimension.Goals as goal

pub returns-then-len-DIMENSION : goal.returns-then-len-DIMENSION
returns-then-len-DIMENSION g c all =
    let chunks = c.args.chunks.now in
    let chunk = c.index-chunks-i.result in
    let test = c.loop-i-test.true in
    let here = all c.loop-i.i [] (omega (arith, test, length-lists chunks)) in
    let same = ap length (list_read chunks c.loop-i.i chunk test c.index-chunks-i.is) in
    omega (arith, chunk.ok.0, c.len.ensures, c.if-len-DIMENSION.true, c.DIMENSION.ensures, here, same)

pub loop-i-preserved : goal.loop-i-preserved
loop-i-preserved g c =
    let Fits : List g.row.EF.Denot → Type 0 =
    λ values. length values ≡ g.EF.ExtensionField.DIMENSION in
    let chunk = c.index-chunks-i.result in
    let here : length chunk.items ≡ g.EF.ExtensionField.DIMENSION =
    omega (arith, chunk.ok.0, c.len.ensures, c.if-len-DIMENSION.false, c.DIMENSION.ensures) in
    one_list_more Fits c.args.chunks.now c.loop-i.i chunk c.loop-i-test.true c.index-chunks-i.is
    c.loop-i.invariant here

pub returns : goal.returns
returns g c =
    let Fits : List g.row.EF.Denot → Type 0 =
    λ values. length values ≡ g.EF.ExtensionField.DIMENSION in
    lists_to_the_end Fits c.args.chunks.now c.loop-i.i c.loop-i-test.false c.loop-i.invariant
