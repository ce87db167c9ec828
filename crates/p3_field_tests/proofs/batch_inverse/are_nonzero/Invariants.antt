use Rattle.std.proofs.Common.{◌≢◌, All, take}
use Rattle.p3_field_tests.proofs.batch_inverse.are_nonzero.Given as goal

abbrev pub invariant-loop-element : goal.invariant-loop-element
invariant-loop-element g l = All (λ x. x ≢ g.F.Field.ops.zero) (take l.element-index l.elements)
