use Rattle.std.proofs.Common.{◌∙◌}
use Rattle.p3_converse.proofs.NewtonForm.{expanded_interpolant}
use Rattle.p3_converse.proofs.newton.interpolate.Goals as goal

pub returns : goal.returns
returns g c =
    c.to_coefficients.ensures
    ∙ expanded_interpolant g.F.Field.ops g.met.F.Field.laws c.args.points.now c.requires.distinct c.args.values.now c.to_newton_form.new.values
    c.requires.count (c.to_newton_form.auto.values ∙ c.requires.count) c.to_newton_form.ensures
