use Rattle.std.proofs.Common.{◌≡◌, map, take}
use Rattle.p3_air_plain.specs.Forms.{constraint_form}
use Rattle.p3_air_plain.proofs.read.constraints_of.Given as goal

abbrev pub invariant-loop-form : goal.invariant-loop-form
invariant-loop-form l =
    map constraint_form l.constraints.items ≡ take l.form-index l.forms
