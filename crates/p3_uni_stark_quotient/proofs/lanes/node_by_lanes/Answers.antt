use Rattle.std.proofs.Common.{ℕ}
use Rattle.p3_air.specs.declared.air.Node.TheVariants.{Constant}
use Rattle.p3_air.specs.declared.evaluation.Window.{Window}
use Rattle.p3_air.specs.Nodes.{Meaning, values_in}
use Rattle.p3_air.specs.Shapes.{entries_of}
use Rattle.p3_uni_stark_quotient.specs.Lanes.{lane_entries}
use Rattle.p3_uni_stark_quotient.proofs.NodeLanes.{value_of_kind, value_of_sum, value_of_difference}
use Rattle.p3_uni_stark_quotient.proofs.NodeLanes.{value_of_product, value_of_negative}
use Rattle.p3_uni_stark_quotient.proofs.lanes.node_by_lanes.Given.{Over}
use Rattle.p3_uni_stark_quotient.proofs.lanes.node_by_lanes.Goals as goal

-- what nodes mean in one lane of the window
abbrev seen : (g : Over) → Window g.row.F.Denot g.row.P.Denot → (l : ℕ)
    → Meaning g.row.F.Denot g.row.F.Denot
seen g window l =
    values_in g.F.Field.ops (λ x. x) g.F.Field.ops.zero
    (lane_entries g.P.PackedField.lane l (entries_of window))

pub returns-in-Add : goal.returns-in-Add
returns-in-Add g c l within =
    let x = c.index-earlier-a in
    let y = c.index-earlier-b in
    value_of_sum (λ v. g.P.PackedField.lane v l) (seen g c.args.window.now l) c.args.layout.now
    c.args.earlier.now c.args.node c.requires.grounded c.in-Add.a c.in-Add.b x.result y.result
    (g.P.PackedField.lane c.add.result l) c.in-Add.is x.is y.is
    (g.met.P.PackedField.add_law x.result y.result c.add.result c.add.ensures l within)

pub returns-in-Sub : goal.returns-in-Sub
returns-in-Sub g c l within =
    let x = c.index-earlier-a-in-Sub in
    let y = c.index-earlier-b-in-Sub in
    value_of_difference (λ v. g.P.PackedField.lane v l) (seen g c.args.window.now l) c.args.layout.now
    c.args.earlier.now c.args.node c.requires.grounded c.in-Sub.a c.in-Sub.b x.result y.result
    (g.P.PackedField.lane c.sub.result l) c.in-Sub.is x.is y.is
    (g.met.P.PackedField.sub_law x.result y.result c.sub.result c.sub.ensures l within)

pub returns-in-Mul : goal.returns-in-Mul
returns-in-Mul g c l within =
    let x = c.index-earlier-a-in-Mul in
    let y = c.index-earlier-b-in-Mul in
    value_of_product (λ v. g.P.PackedField.lane v l) (seen g c.args.window.now l) c.args.layout.now
    c.args.earlier.now c.args.node c.requires.grounded c.in-Mul.a c.in-Mul.b x.result y.result
    (g.P.PackedField.lane c.mul.result l) c.in-Mul.is x.is y.is
    (g.met.P.PackedField.mul_law x.result y.result c.mul.result c.mul.ensures l within)

pub returns-in-Neg : goal.returns-in-Neg
returns-in-Neg g c l within =
    let x = c.index-earlier-a-in-Neg in
    value_of_negative (λ v. g.P.PackedField.lane v l) (seen g c.args.window.now l)
    c.args.layout.now c.args.earlier.now c.args.node c.requires.grounded c.in-Neg.a x.result
    (g.P.PackedField.lane c.neg.result l) c.in-Neg.is x.is
    (g.met.P.PackedField.neg_law x.result c.neg.result c.neg.ensures l within)

pub returns-in-Constant : goal.returns-in-Constant
returns-in-Constant g c l within =
    value_of_kind (λ v. g.P.PackedField.lane v l) (seen g c.args.window.now l) c.args.layout.now
    c.args.earlier.now c.args.node c.requires.grounded (Constant c.in-Constant.value)
    (g.P.PackedField.lane c.broadcast.result l) c.in-Constant.is (c.broadcast.ensures l within)
