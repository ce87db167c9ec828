use Rattle.std.proofs.Common.{◌%◌, ◌^◌, ◌≤◌, arith, sym, ap, ◌∙◌, length, map}
use Rattle.std.proofs.Math.Pow.{pow_mono}
use Rattle.std.proofs.lemmas.List.{length-map}
use Rattle.algebra.specs.Polynomial.{val}
use Rattle.algebra.proofs.Points.{lifted_roots}
use Rattle.p3_periodic.proofs.Periods.{exponent_within, is_value}
use Rattle.p3_periodic.proofs.evaluator.column_at_point.Goals as goal

pub power_to_period-power-requires : goal.power_to_period-power-requires
power_to_period-power-requires g c =
    exponent_within c.args.log_rows c.log2_strict_usize-log_period.result
    (ap (λ p. 2 ^ c.args.log_rows % p) c.log2_strict_usize-log_period.ensures.power
    ∙ c.requires.period.divides)

pub idft_algebra-requires-clause-within_two_adicity :
    goal.idft_algebra-requires-clause-within_two_adicity
idft_algebra-requires-clause-within_two_adicity g c =
    let k = c.log2_strict_usize-log_period.result in
    let lift = g.EF.ExtensionField.lift in
    let within : k ≤ c.args.log_rows = exponent_within c.args.log_rows k
    (ap (λ p. 2 ^ c.args.log_rows % p) c.log2_strict_usize-log_period.ensures.power
    ∙ c.requires.period.divides) in
    let below : k ≤ g.F.TwoAdicField.TWO_ADICITY =
    omega (arith, within, c.requires.within_two_adicity) in
    omega (
      arith,
      pow_mono below,
      c.in_ok-lifted.lifted.ok.0,
      ap length c.in_ok-lifted.ensures,
      length-map c.args.column.now lift,
      c.log2_strict_usize-log_period.ensures.power,
    )

pub returns : goal.returns
returns g c =
    let F = g.F.Field.ops in
    let K = g.EF.Field.ops in
    let lift = g.EF.ExtensionField.lift in
    let root = g.F.TwoAdicField.root in
    let top = g.F.TwoAdicField.TWO_ADICITY in
    let k = c.log2_strict_usize-log_period.result in
    let power = c.log2_strict_usize-log_period.ensures.power in
    let within : k ≤ c.args.log_rows = exponent_within c.args.log_rows k
    (ap (λ p. 2 ^ c.args.log_rows % p) power ∙ c.requires.period.divides) in
    let below : k ≤ top = omega (arith, within, c.requires.within_two_adicity) in
    let counted = ap length c.in_ok-lifted.ensures ∙ length-map c.args.column.now lift
    ∙ sym power in
    is_value K g.met.EF.Field.laws top (λ j. lift (root j))
    (lifted_roots F K lift g.met.F.Field.laws g.met.EF.Field.laws g.met.EF.ExtensionField.lift_law
    top root g.met.F.TwoAdicField.roots_law)
    k c.args.log_rows (map lift c.args.column.now) c.in_ok-lifted.lifted.items
    c.in_ok-coefficients.coefficients.items c.args.point c.power_to_period-power.result
    c.evaluate.result below (length-map c.args.column.now lift ∙ sym power)
    c.in_ok-lifted.ensures
    (c.in_ok-coefficients.ensures k (c.in_ok-lifted.lifted.ok.0 ∙ counted))
    c.power_to_period-power.ensures
    (c.evaluate.ensures
    ∙ ap (λ cs. val K cs c.power_to_period-power.result) c.deref.ensures.value)
