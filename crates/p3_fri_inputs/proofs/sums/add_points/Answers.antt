use Rattle.std.proofs.Common.{◌≡◌, ℕ, ◌+◌, ◌-◌, drop, ◌++◌, ap, ap₂, ◌∙◌, arith}
use Rattle.algebra.specs.Polynomial.{val}
use Rattle.p3_fri_inputs.proofs.Horner.{at_points, points_step, points_end}
use Rattle.p3_fri_inputs.proofs.sums.add_points.Goals as goal

pub loop-k-init : goal.loop-k-init
loop-k-init g c alpha x points row later are at_row step from =
    from ∙ ap (λ ts. val g.EF.Field.ops ts alpha)
    (points_end g.EF.Field.ops g.met.EF.Field.laws alpha x row later points c.args.claimed.now
    c.args.inverses.now are)

pub loop-k-preserved : goal.loop-k-preserved
loop-k-preserved g c alpha x points row later are at_row step from =
    let K = g.EF.Field.ops in
    let field = g.met.EF.Field in
    let k = c.loop-k.k - 1 in
    let next : c.loop-k.k ≡ k + 1 = omega arith in
    let y = c.index-claimed-k.result in
    let i = c.index-inverses-k.result in
    field.add_law _ _ c.add-sum.result c.add-sum.ensures
    ∙ ap₂ (λ a b. K.add a b)
    (field.mul_law _ i c.mul.result c.mul.ensures
    ∙ ap (λ a. K.mul a i) (field.sub_law y c.args.at_row c.sub.result c.sub.ensures))
    (field.mul_law c.args.step c.loop-k.sum c.mul-in-loop-k.result c.mul-in-loop-k.ensures)
    ∙ points_step K field.laws alpha x row later points c.args.claimed.now
    c.args.inverses.now are k y i c.args.at_row c.args.step c.loop-k.sum (omega arith) c.index-claimed-k.is
    c.index-inverses-k.is at_row step
    (c.loop-k.invariant alpha x points row later are at_row step from
    ∙ ap (λ (n : ℕ). val K (at_points K field.laws alpha x row (drop n points) ++ later) alpha) next)

pub returns : goal.returns
returns g c alpha x points row later are at_row step from =
    let K = g.EF.Field.ops in
    let last : c.loop-k.k ≡ 0 = omega arith in
    c.loop-k.invariant alpha x points row later are at_row step from
    ∙ ap (λ (n : ℕ).
    val K (at_points K g.met.EF.Field.laws alpha x row (drop n points) ++ later) alpha) last
