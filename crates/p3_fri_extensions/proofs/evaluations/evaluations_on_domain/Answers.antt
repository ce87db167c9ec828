use Rattle.std.proofs.Common.{◌≡◌, ◌≤◌, ◌-◌, ◌^◌, length, arith, sym, subst, ◌∙◌}
use Rattle.std.proofs.Math.Pow.{pow_mono}
use Rattle.std.proofs.lemmas.Result.{IfOk-weaker}
use Rattle.p3_field_core.specs.Coset.{coset_points}
use Rattle.p3_matrix.specs.Matrix.{rows}
use Rattle.p3_dft.specs.Evaluations.{AreEvaluations}
use Rattle.p3_dft.proofs.Batches.{exponent_within}
use Rattle.p3_fri_extensions.specs.Committed.{AreFirstValues, AreCommittedValues}
use Rattle.p3_fri_extensions.proofs.Recovered.{length-first, first_are_committed}
use Rattle.p3_fri_extensions.proofs.Recovered.{transformed_are_committed}
use Rattle.p3_fri_extensions.proofs.evaluations.evaluations_on_domain.Goals as goal

pub first_values-requires-clause-within : goal.first_values-requires-clause-within
first_values-requires-clause-within g c =
    let m = c.log_size-then-log_size-log_height.result in
    let log = c.log2_strict_usize-log_height in
    let small : m ≤ log.result =
    omega (
      arith,
      c.log_size-then-log_size-log_height.ensures,
      c.log_size.ensures,
      c.if-log_size-log_height.true,
    ) in
    omega (arith, pow_mono small, log.ensures.power, c.height.ensures)

pub returns-then-log_size-log_height : goal.returns-then-log_size-log_height
returns-then-log_size-log_height g c =
    let F = g.F.Field.ops in
    let root = g.F.TwoAdicField.root in
    let top = g.F.TwoAdicField.TWO_ADICITY in
    let shift = g.F.Field.GENERATOR in
    let log = c.log2_strict_usize-log_height in
    let m = c.args.domain.log_size in
    let words = c.args.words.now in
    let height : 2 ^ log.result ≡ length (rows words) = log.ensures.power ∙ c.height.ensures in
    let within : log.result ≤ top =
    exponent_within log.result top _ height c.requires.within_two_adicity in
    let small : m ≤ log.result =
    omega (arith, c.log_size.ensures, c.if-log_size-log_height.true) in
    let same : shift ≡ c.args.domain.shift =
    sym c.GENERATOR.ensures ∙ sym (c.is_same.ensures.0 c.if-is_same.true) ∙ c.shift.ensures in
    IfOk-weaker c.first_values.result
    (AreFirstValues c.log_size-then-log_size-log_height.result words)
    (AreCommittedValues F root shift c.args.log_blowup c.args.domain.shift m words)
    (λ values first.
    subst (λ s. AreCommittedValues F root shift c.args.log_blowup s m words values) same
    (first_are_committed F g.met.F.Field.laws top root g.met.F.TwoAdicField.roots_law shift
    c.args.log_blowup log.result within words (sym height) m values small
    (subst (λ n. AreFirstValues n words values) c.log_size-then-log_size-log_height.ensures first)))
    c.first_values.ensures

pub first_values-requires-2-clause-within : goal.first_values-requires-2-clause-within
first_values-requires-2-clause-within g c =
    let d = c.saturating_sub-log_degree.result in
    let log = c.log2_strict_usize-log_height in
    let few : d ≤ log.result = omega (arith, c.saturating_sub-log_degree.ensures) in
    omega (arith, pow_mono few, log.ensures.power, c.height.ensures)

pub coset_idft_batch-requires-clause-power_of_two :
    goal.coset_idft_batch-requires-clause-power_of_two
coset_idft_batch-requires-clause-power_of_two g c =
    let d = c.saturating_sub-log_degree.result in
    let log = c.log2_strict_usize-log_height in
    let words = c.args.words.now in
    let height : 2 ^ log.result ≡ length (rows words) = log.ensures.power ∙ c.height.ensures in
    let few : d ≤ log.result = omega (arith, c.saturating_sub-log_degree.ensures) in (
      d,
      length-first log.result d words c.in_ok-values.values (sym height) few
          c.in_ok-values.ensures,
    )

pub coset_idft_batch-requires-clause-within_two_adicity :
    goal.coset_idft_batch-requires-clause-within_two_adicity
coset_idft_batch-requires-clause-within_two_adicity g c =
    let top = g.F.TwoAdicField.TWO_ADICITY in
    let d = c.saturating_sub-log_degree.result in
    let log = c.log2_strict_usize-log_height in
    let words = c.args.words.now in
    let height : 2 ^ log.result ≡ length (rows words) = log.ensures.power ∙ c.height.ensures in
    let within : log.result ≤ top =
    exponent_within log.result top _ height c.requires.within_two_adicity in
    let few : d ≤ log.result = omega (arith, c.saturating_sub-log_degree.ensures) in
    let low : d ≤ top = omega (arith, few, within) in
    let size = length-first log.result d words c.in_ok-values.values (sym height) few
    c.in_ok-values.ensures in
    omega (arith, pow_mono low, size)

pub fit_to_domain-requires : goal.fit_to_domain-requires
fit_to_domain-requires g c =
    let d = c.saturating_sub-log_degree.result in
    let log = c.log2_strict_usize-log_height in
    let words = c.args.words.now in
    let height : 2 ^ log.result ≡ length (rows words) = log.ensures.power ∙ c.height.ensures in
    let few : d ≤ log.result = omega (arith, c.saturating_sub-log_degree.ensures) in
    let size = length-first log.result d words c.in_ok-values.values (sym height) few
    c.in_ok-values.ensures in
    (d, sym (c.in_ok-coefficients.ensures d size).height ∙ size)

pub coset_dft_batch-requires-clause-within_two_adicity :
    goal.coset_dft_batch-requires-clause-within_two_adicity
coset_dft_batch-requires-clause-within_two_adicity g c =
    omega (arith, pow_mono c.args.domain.within_two_adicity, c.in_ok-fitted.ensures.height)

pub returns : goal.returns
returns g c =
    let F = g.F.Field.ops in
    let root = g.F.TwoAdicField.root in
    let top = g.F.TwoAdicField.TWO_ADICITY in
    let shift = g.F.Field.GENERATOR in
    let d = c.saturating_sub-log_degree.result in
    let log = c.log2_strict_usize-log_height in
    let s = c.args.domain.shift in
    let m = c.args.domain.log_size in
    let words = c.args.words.now in
    let values = c.in_ok-values.values in
    let coefficients = c.in_ok-coefficients.coefficients in
    let fitted = c.in_ok-fitted.fitted in
    let height : 2 ^ log.result ≡ length (rows words) = log.ensures.power ∙ c.height.ensures in
    let within : log.result ≤ top =
    exponent_within log.result top _ height c.requires.within_two_adicity in
    let few : d ≤ log.result = omega (arith, c.saturating_sub-log_degree.ensures) in
    let size = length-first log.result d words values (sym height) few c.in_ok-values.ensures in
    IfOk-weaker c.coset_dft_batch.result
    (λ answer. AreEvaluations F (coset_points F (root m) c.shift-2.result m) fitted answer)
    (AreCommittedValues F root shift c.args.log_blowup s m words)
    (λ answer made.
    transformed_are_committed F g.met.F.Field.laws top root g.met.F.TwoAdicField.roots_law shift
    c.args.log_blowup log.result within words (sym height) g.met.F.Field.generator_law s d m
    c.saturating_sub-log_degree.ensures c.args.domain.within_two_adicity values coefficients fitted
    answer c.in_ok-values.ensures
    (subst (λ t. AreEvaluations F (coset_points F (root d) t d) coefficients values)
    c.GENERATOR-2.ensures (c.in_ok-coefficients.ensures d size))
    c.in_ok-fitted.ensures
    (subst (λ t. AreEvaluations F (coset_points F (root m) t m) fitted answer) c.shift-2.ensures
    made))
    (c.coset_dft_batch.ensures m c.in_ok-fitted.ensures.height)
