use Rattle.std.proofs.Common.{◌≡◌, ◌^◌, length, arith}
use Rattle.std.proofs.Math.Pow.{pow_mono}
use Rattle.p3_matrix.specs.Matrix.{rows}
use Rattle.p3_fri_openings.specs.Rounds.{log_height}
use Rattle.p3_fri_openings.proofs.Log2.{pow-log2}
use Rattle.p3_fri_openings_tests.proofs.extended.values_on.Goals as goal

pub evaluations_on_domain-requires-clause-power_of_two :
    goal.evaluations_on_domain-requires-clause-power_of_two
evaluations_on_domain-requires-clause-power_of_two g c =
    (c.has_coset.ensures c.if-not-has_coset.false).power

pub evaluations_on_domain-requires-clause-within_two_adicity :
    goal.evaluations_on_domain-requires-clause-within_two_adicity
evaluations_on_domain-requires-clause-within_two_adicity g c =
    let coset = c.has_coset.ensures c.if-not-has_coset.false in
    let e : 2 ^ log_height c.args.words.now ≡ length (rows c.args.words.now) =
    pow-log2 (length (rows c.args.words.now)) coset.power.0 coset.power.1 in
    omega (arith, pow_mono coset.within, e)
