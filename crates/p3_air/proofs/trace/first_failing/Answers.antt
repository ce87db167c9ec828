use Rattle.std.proofs.lemmas.List.Elements.{All-more}
use Rattle.p3_air.specs.Satisfied.{HoldsOn}
use Rattle.p3_air.proofs.First.{to_the_end}
use Rattle.p3_air.proofs.trace.first_failing.Goals as goal

pub loop-i-preserved : goal.loop-i-preserved
loop-i-preserved g c =
    let Holds = HoldsOn g.F.Field.ops c.args.height c.args.row c.args.values.now in
    All-more Holds c.args.constraints.now c.loop-i.i _ c.loop-i-test.true c.loop-i.invariant
    c.if-fails.ensures

pub returns : goal.returns
returns g c =
    let Holds = HoldsOn g.F.Field.ops c.args.height c.args.row c.args.values.now in
    to_the_end Holds c.args.constraints.now c.loop-i.i c.loop-i-test.false c.loop-i.invariant
