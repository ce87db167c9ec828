use Rattle.std.proofs.Common.{◌≡◌, ◌+◌, ◌-◌, ◌*◌, ℕ, List, length, ap, ◌∙◌, arith}
use Rattle.algebra.specs.Interpolation.{interpolant}
use Rattle.p3_converse.specs.Positions.{part}
use Rattle.p3_converse.proofs.Concatenated.{written_part, written_step, length-part}
use Rattle.p3_converse.proofs.newton.interpolate_each.Goals as goal

pub loop-m-preserved : goal.loop-m-preserved
loop-m-preserved g c =
    let F = g.F.Field.ops in
    let points = c.args.points.now in
    let a = length points in
    let given = c.args.values.now in
    let here = c.loop-m in
    let written : ℕ → List g.row.F.Denot = λ m. interpolant F points (part given m a) in
    let inside : (here.m * a + a) - here.m * a ≡ a = omega arith in
    written_step a c.args.count given written here.m ((here.m * a + a) - here.m * a) here.values c.interpolate.new.values c.loop-m-test.true inside
    (c.interpolate.ensures ∙ ap (λ ys. interpolant F points ys) (written_part a c.args.count given written here.m here.values here.invariant))
    (c.interpolate.auto.values ∙ length-part a c.args.count given written here.m here.values c.loop-m-test.true here.invariant.lengths)
    here.invariant
