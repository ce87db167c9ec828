use Rattle.std.proofs.Common.{◌<◌, length, get_or, ap, ◌∙◌, arith}
use Rattle.p3_converse.proofs.NewtonForm.{newton_start, newton_step, length-weights_of, weights-entry}
use Rattle.p3_converse.proofs.newton.to_newton_form.Goals as goal

pub loop-t-init : goal.loop-t-init
loop-t-init g c = newton_start g.F.Field.ops g.met.F.Field.laws c.args.points.now c.requires.distinct c.args.values.now c.requires.count

pub offset_bounds-weights-t : goal.offset_bounds-weights-t
offset_bounds-weights-t g c = omega (arith, ap length c.requires.weights, length-weights_of g.F.Field.ops c.args.points.now)

pub bounds-weights-t : goal.bounds-weights-t
bounds-weights-t g c = omega (arith, ap length c.requires.weights, length-weights_of g.F.Field.ops c.args.points.now)

pub loop-t-preserved : goal.loop-t-preserved
loop-t-preserved g c =
    let F = g.F.Field.ops in
    let field = g.met.F.Field in
    let points = c.args.points.now in
    let here = c.loop-t in
    let y = c.index-values-t.result in
    let p = c.index-points-t.result in
    let e = c.newton_value-so_far.result in
    let w = c.index-weights-t.result in
    let inside : here.t < length points = omega arith in
    newton_step F field.laws points c.requires.distinct c.args.values.now here.values here.t y p e w c.mul.result
    c.requires.count inside c.index-values-t.is c.index-points-t.is c.newton_value-so_far.ensures
    (weights-entry F field.laws points c.requires.distinct here.t w p inside (c.index-weights-t.is ∙ ap (λ ws. get_or ws here.t w) c.requires.weights) c.index-points-t.is)
    (field.mul_law c.sub.result w c.mul.result c.mul.ensures ∙ ap (λ v. F.mul v w) (field.sub_law y e c.sub.result c.sub.ensures))
    here.invariant
