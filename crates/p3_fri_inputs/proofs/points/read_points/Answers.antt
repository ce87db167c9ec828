use Rattle.std.proofs.Common.{◌≡◌, ◌-◌, ◌∙◌, length, sym, ap, ap₂, refl, arith}
use Rattle.algebra.specs.Field.{pow}
use Rattle.p3_fri_inputs.proofs.Reading.{unshifted, unshifted_top, read_next}
use Rattle.p3_fri_inputs.proofs.points.read_points.Goals as goal

pub loop-h-init : goal.loop-h-init
loop-h-init g c =
    let F = g.F.Field.ops in
    let top = c.args.log_global_max_height in
    let position = c.args.position in
    let w = g.F.TwoAdicField.root in
    let shift = g.F.Field.GENERATOR in
    let laws = g.met.F.Field.laws in
    let roots = g.met.F.TwoAdicField.roots_law in
    let n = length c.args.read.now in
    let last : n - 1 ≡ top = omega (arith, c.requires.heights) in
    record {
      long = refl;
      done = λ h d m l. absurd (omega (arith, m, l, c.requires.heights));
      next = λ q. c.exp_u64-point.ensures
          ∙ ap₂ (λ x i. pow F x i) c.two_adic_generator.ensures c.reverse_bits_len-exponent.ensures
          ∙ unshifted_top F laws g.F.TwoAdicField.TWO_ADICITY w roots shift top position _ refl
          ∙ ap (λ h. unshifted F w shift top position h) (sym last);
    }

pub loop-h-preserved : goal.loop-h-preserved
loop-h-preserved g c =
    let F = g.F.Field.ops in
    let top = c.args.log_global_max_height in
    let position = c.args.position in
    let w = g.F.TwoAdicField.root in
    let shift = g.F.Field.GENERATOR in
    let laws = g.met.F.Field.laws in
    let roots = g.met.F.TwoAdicField.roots_law in
    let n = length c.args.read.now in
    let k = c.loop-h.h in
    read_next F laws g.F.TwoAdicField.TWO_ADICITY w roots shift top position n k c.loop-h.read
    c.loop-h.point c.mul.result c.square-point.result (omega arith) (omega arith)
    c.requires.heights c.requires.within_two_adicity c.loop-h.invariant
    (g.met.F.Field.mul_law c.GENERATOR.result c.loop-h.point c.mul.result c.mul.ensures
    ∙ ap (λ x. F.mul x c.loop-h.point) c.GENERATOR.ensures)
    c.square-point.ensures
