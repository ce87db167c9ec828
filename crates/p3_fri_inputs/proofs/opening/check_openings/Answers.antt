use Rattle.std.proofs.Common.{inr}
use Rattle.std.proofs.lemmas.Result.{MatchResult-weaker}
use Rattle.p3_fri_relation.specs.Heights.{matrices_of}
use Rattle.p3_fri_relation.specs.Views.{claims_of}
use Rattle.p3_fri_inputs.proofs.Assembly.{with_points}
use Rattle.p3_fri_inputs.proofs.opening.check_openings.Goals as goal

pub returns-in-Some : goal.returns-in-Some
returns-in-Some g c = inr (λ alpha. c.in-Some.ensures)

pub returns-in-Some-first_uneven : goal.returns-in-Some-first_uneven
returns-in-Some-first_uneven g c = inr (λ alpha. c.in-Some-first_uneven.ensures)

pub returns : goal.returns
returns g c =
    let claims = c.args.setting.now.claims.now in
    MatchResult-weaker c.verify_commitments.result c.verify_commitments.ensures
    (λ unit opened. (
      with_points (matrices_of (claims_of (λ domain. domain.log_size) claims))
          c.in_default.ensures c.in_default-first_uneven.ensures,
      opened,
    ))
    (λ e fault. fault)
