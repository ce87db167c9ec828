use Rattle.std.proofs.Common.{◌<◌, ◌≤◌, length, arith}
use Rattle.p3_air.specs.declared.air.Constraint.{Constraint}
use Rattle.p3_air.proofs.First.{one_more, to_the_end}
use Rattle.p3_air.proofs.air.Air.check.Goals as goal

pub loop-constraint-preserved : goal.loop-constraint-preserved
loop-constraint-preserved g c =
    let air = c.args.self.now in
    let Known : Constraint → Type 0 = λ c. c.node < length air.nodes.items in
    let here : c.index.result.now.node < length air.nodes.items = omega arith in
    let there : c.loop-constraint.constraint < length air.constraints.items = omega arith in
    one_more Known air.constraints.items c.loop-constraint.constraint c.index.result.now there
    c.index.ensures c.loop-constraint.invariant here

pub returns : goal.returns
returns g c =
    let air = c.args.self.now in
    let Known : Constraint → Type 0 = λ c. c.node < length air.nodes.items in
    let end : length air.constraints.items ≤ c.loop-constraint.constraint = omega arith in
    record {
      nodes = c.in_default.ensures;
      constraints = to_the_end Known air.constraints.items c.loop-constraint.constraint end
          c.loop-constraint.invariant;
    }
