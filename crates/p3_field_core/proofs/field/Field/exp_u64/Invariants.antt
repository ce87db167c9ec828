use Rattle.std.proofs.Common.{◌≡◌}
use Rattle.algebra.specs.Field.{pow}
use Rattle.p3_field_core.proofs.field.Field.exp_u64.Given as goal

-- what is left from here gives what the whole gives from the start
abbrev pub invariant-loop-remaining : goal.invariant-loop-remaining
invariant-loop-remaining g l =
    g.Self.Field.ops.mul l.product (pow g.Self.Field.ops l.base l.remaining)
    ≡ pow g.Self.Field.ops l.fn.self l.fn.power

abbrev pub decreases-loop-remaining : goal.decreases-loop-remaining
decreases-loop-remaining g l = l.remaining
