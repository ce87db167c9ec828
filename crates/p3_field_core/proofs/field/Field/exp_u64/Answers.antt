use Rattle.std.proofs.Common.{ap, sym, ◌∙◌, arith}
use Rattle.algebra.specs.Field.{pow}
use Rattle.algebra.proofs.RingLaws.{one_mul}
use Rattle.algebra.proofs.Powers.{pow-zero, even_step, odd_step}
use Rattle.p3_field_core.proofs.field.Field.exp_u64.Goals as goal
use Rattle.p3_field_core.proofs.field.Field.exp_u64.Goals.{then-remaining-eq1, else-remaining-eq1}

pub loop-remaining-init : goal.loop-remaining-init
loop-remaining-init g c =
    let field = g.met.Self.Field in
    ap (λ one. g.Self.Field.ops.mul one (pow g.Self.Field.ops c.args.self c.args.power))
    (c.ONE-product.ensures ∙ field.one_law)
    ∙ one_mul g.Self.Field.ops field.laws.ring (pow g.Self.Field.ops c.args.self c.args.power)

pub loop-remaining-preserved : goal.loop-remaining-preserved
loop-remaining-preserved g c =
    let field = g.met.Self.Field in
    let here = c.loop-remaining in
    elim c.if-remaining-eq1.branch [
      | then-remaining-eq1 w ↦
          rw (
            w.product-is,
            field.mul_law here.product here.base w.mul-product.result
                w.mul-product.ensures,
            c.square-base.ensures,
          )
          (odd_step g.Self.Field.ops field.laws.ring here.product here.base here.remaining
          w.if-remaining-eq1.true ∙ here.invariant)
      | else-remaining-eq1 w ↦
          rw (w.product-is, c.square-base.ensures)
          (even_step g.Self.Field.ops field.laws.ring here.product here.base here.remaining
          (omega (arith, w.if-remaining-eq1)) ∙ here.invariant)
    ]

pub returns : goal.returns
returns g c =
    let field = g.met.Self.Field in
    let here = c.loop-remaining in
    sym (ap (λ p. g.Self.Field.ops.mul here.product p)
    (ap (λ n. pow g.Self.Field.ops here.base n) (omega arith)
    ∙ pow-zero g.Self.Field.ops here.base) ∙ field.laws.mul_one here.product)
    ∙ here.invariant
