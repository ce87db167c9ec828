use Rattle.std.proofs.Common.{◌≡◌, ℕ, ◌+◌, ◌-◌, drop, length, ap, ◌∙◌, arith}
use Rattle.algebra.specs.Polynomial.{val}
use Rattle.algebra.proofs.Horner.{horner_none, horner_more}
use Rattle.p3_fri_queries.proofs.final_value.evaluate.Goals as goal

pub loop-k-init : goal.loop-k-init
loop-k-init g c =
    horner_none g.F.Field.ops g.met.F.Field.laws c.args.coefficients.now c.args.point c.ZERO-value.result
    (length c.args.coefficients.now) (omega arith) (c.ZERO-value.ensures ∙ g.met.F.Field.zero_law)

pub loop-k-preserved : goal.loop-k-preserved
loop-k-preserved g c =
    let F = g.F.Field.ops in
    let cs = c.args.coefficients.now in
    let k = c.loop-k.k - 1 in
    let e : c.loop-k.k ≡ k + 1 = omega arith in
    horner_more F g.met.F.Field.laws cs c.args.point c.index-coefficients-k.result c.loop-k.value c.add-value.result
    k (omega arith) c.index-coefficients-k.is
    (c.loop-k.invariant ∙ ap (λ (n : ℕ). val F (drop n cs) c.args.point) e)
    (g.met.F.Field.add_law _ _ _ c.add-value.ensures
    ∙ ap (λ m. F.add c.index-coefficients-k.result m) (g.met.F.Field.mul_law _ _ _ c.mul.ensures))
