use Rattle.std.proofs.Common.{◌^◌, ap, sym, ◌∙◌, arith, add-one}
use Rattle.algebra.specs.Field.{pow}
use Rattle.algebra.proofs.Powers.{pow-one, pow-double}
use Rattle.p3_field_core.proofs.field.Field.exp_power_of_2.Goals as goal

pub loop-init : goal.loop-init
loop-init g c = sym (pow-one g.Self.Field.ops g.met.Self.Field.laws.ring c.args.self)

pub loop-preserved : goal.loop-preserved
loop-preserved g c =
    c.square-power.ensures
    ∙ ap (λ x. g.Self.Field.ops.mul x x) c.loop.invariant
    ∙ sym (pow-double g.Self.Field.ops g.met.Self.Field.laws.ring c.args.self c.loop.counter)
    ∙ ap (λ k. pow g.Self.Field.ops c.args.self (2 ^ k)) (sym (add-one c.loop.counter))

pub returns : goal.returns
returns g c = c.loop.invariant ∙ ap (λ k. pow g.Self.Field.ops c.args.self (2 ^ k)) (omega arith)
