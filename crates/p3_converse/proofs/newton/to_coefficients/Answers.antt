use Rattle.std.proofs.Common.{◌≡◌, ◌<◌, ◌+◌, ◌-◌, ◌++◌, take, drop, ap, ◌∙◌, arith, length}
use Rattle.std.proofs.lemmas.List.{take_rest}
use Rattle.p3_converse.specs.Newton.{expanded}
use Rattle.p3_converse.proofs.NewtonForm.{put_rest, expanded_step}
use Rattle.p3_converse.proofs.newton.to_coefficients.Goals as goal

pub loop-s-preserved : goal.loop-s-preserved
loop-s-preserved g c =
    let F = g.F.Field.ops in
    let points = c.args.points.now in
    let given = c.args.coefficients.now in
    let entries = c.loop-s.coefficients in
    let j = c.loop-s.s - 1 in
    let next : c.loop-s.s ≡ j + 1 = omega arith in
    let inside : j < length given = omega arith in
    put_rest entries c.add_multiple.new.coefficients j
    ∙ expanded_step F g.met.F.Field.laws.ring points given entries c.add_multiple.new.coefficients j c.index-points-s.result inside c.requires.count c.index-points-s.is
    (c.loop-s.invariant ∙ ap (λ s. take s given ++ expanded F (drop s points) (drop s given)) next)
    (λ y q e. c.add_multiple.ensures y q (take_rest entries j ∙ e))
