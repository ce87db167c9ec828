use Rattle.std.proofs.Common.{◌<◌, List, length, arith}
use Rattle.p3_air.proofs.First.{one_list_more, lists_to_the_end}
use Rattle.p3_air.proofs.shape.first_empty.Goals as goal

pub loop-i-preserved : goal.loop-i-preserved
loop-i-preserved g c =
    let Some' : List g.row.F.Denot → Type 0 = λ column. 0 < length column in
    let column = c.index-columns-i.result in
    let here : 0 < length column.items = omega (arith, column.ok.0, c.len.ensures, c.if-len-eq0.false) in
    one_list_more Some' c.args.columns.now c.loop-i.i column c.loop-i-test.true
    c.index-columns-i.is c.loop-i.invariant here

pub returns : goal.returns
returns g c =
    let Some' : List g.row.F.Denot → Type 0 = λ column. 0 < length column in
    lists_to_the_end Some' c.args.columns.now c.loop-i.i c.loop-i-test.false c.loop-i.invariant
