use Rattle.p3_air.specs.declared.air.Node.TheVariants.{Constant}
use Rattle.p3_air.specs.declared.evaluation.Window.{Window}
use Rattle.p3_air.specs.Nodes.{Meaning, values_in}
use Rattle.p3_air.specs.Shapes.{entries_of}
use Rattle.p3_air.proofs.NodeValues.{value_of_kind, value_of_sum, value_of_difference, value_of_product}
use Rattle.p3_air.proofs.evaluation.node_value.Given.{Over}
use Rattle.p3_air.proofs.evaluation.node_value.Goals as goal

-- what nodes mean in the window
abbrev seen : (g : Over) → Window g.row.F.Denot g.row.EF.Denot
    → Meaning g.row.F.Denot g.row.EF.Denot
seen g window =
    values_in g.EF.Field.ops g.EF.ExtensionField.lift g.F.Field.ops.zero (entries_of window)

pub returns-in-Add : goal.returns-in-Add
returns-in-Add g c =
    let x = c.index-earlier-a in
    let y = c.index-earlier-b in
    value_of_sum (seen g c.args.window.now) c.args.layout.now c.args.earlier.now c.args.node
    c.requires.grounded c.in-Add.a c.in-Add.b x.result y.result c.add.result c.in-Add.is x.is y.is
    (g.met.EF.Field.add_law x.result y.result c.add.result c.add.ensures)

pub returns-in-Sub : goal.returns-in-Sub
returns-in-Sub g c =
    let x = c.index-earlier-a-in-Sub in
    let y = c.index-earlier-b-in-Sub in
    value_of_difference (seen g c.args.window.now) c.args.layout.now c.args.earlier.now
    c.args.node c.requires.grounded c.in-Sub.a c.in-Sub.b x.result y.result c.sub.result
    c.in-Sub.is x.is y.is (g.met.EF.Field.sub_law x.result y.result c.sub.result c.sub.ensures)

pub returns-in-Mul : goal.returns-in-Mul
returns-in-Mul g c =
    let x = c.index-earlier-a-in-Mul in
    let y = c.index-earlier-b-in-Mul in
    value_of_product (seen g c.args.window.now) c.args.layout.now c.args.earlier.now
    c.args.node c.requires.grounded c.in-Mul.a c.in-Mul.b x.result y.result c.mul.result
    c.in-Mul.is x.is y.is (g.met.EF.Field.mul_law x.result y.result c.mul.result c.mul.ensures)

pub returns-in-Constant : goal.returns-in-Constant
returns-in-Constant g c =
    value_of_kind (seen g c.args.window.now) c.args.layout.now c.args.earlier.now c.args.node
    c.requires.grounded (Constant c.in-Constant.value) c.from_base.result c.in-Constant.is
    c.from_base.ensures
