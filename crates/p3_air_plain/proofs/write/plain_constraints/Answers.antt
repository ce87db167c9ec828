use Rattle.p3_air_plain.specs.Forms.{constraint_form}
use Rattle.p3_air_plain.proofs.Mapped.{images_end}
use Rattle.p3_air_plain.proofs.write.plain_constraints.Goals as goal

pub returns : goal.returns
returns c =
    images_end constraint_form c.args.constraints.now c.loop-constraint.constraint-index
    c.loop-constraint.forms.items c.loop-constraint-test.false c.loop-constraint.invariant
