use Rattle.std.proofs.Common.{◌≡◌, map, take}
use Rattle.p3_air_plain.specs.Forms.{constraint_form}
use Rattle.p3_air_plain.proofs.write.plain_constraints.Given as goal

abbrev pub invariant-loop-constraint : goal.invariant-loop-constraint
invariant-loop-constraint l =
    l.forms.items ≡ map constraint_form (take l.constraint-index l.constraints)
