use Rattle.p3_field_core.proofs.Halving.{not_halved, halved_once_more}
use Rattle.p3_field_core.proofs.field.Field.div_2exp_u64.Goals as goal

pub loop-init : goal.loop-init
loop-init g c = not_halved g.Self.Field.ops g.met.Self.Field.laws.ring c.args.self

pub loop-preserved : goal.loop-preserved
loop-preserved g c =
    halved_once_more g.Self.Field.ops g.met.Self.Field.laws.ring c.loop.counter c.args.self
    c.loop.quotient c.halve-quotient.result c.halve-quotient.ensures c.loop.invariant
