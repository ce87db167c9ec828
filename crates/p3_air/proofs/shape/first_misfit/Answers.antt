use Rattle.std.proofs.Common.{◌≡◌, List, length, arith}
use Rattle.p3_air.proofs.First.{one_list_more, lists_to_the_end}
use Rattle.p3_air.proofs.shape.first_misfit.Goals as goal

pub loop-i-preserved : goal.loop-i-preserved
loop-i-preserved g c =
    let Fits : List g.row.F.Denot → Type 0 = λ row. length row ≡ c.args.width in
    let row = c.index-rows-i.result in
    let here : length row.items ≡ c.args.width =
    omega (arith, row.ok.0, c.len.ensures, c.if-len-width.false) in
    one_list_more Fits c.args.rows.now c.loop-i.i row c.loop-i-test.true
    c.index-rows-i.is c.loop-i.invariant here

pub returns : goal.returns
returns g c =
    let Fits : List g.row.F.Denot → Type 0 = λ row. length row ≡ c.args.width in
    lists_to_the_end Fits c.args.rows.now c.loop-i.i c.loop-i-test.false c.loop-i.invariant
