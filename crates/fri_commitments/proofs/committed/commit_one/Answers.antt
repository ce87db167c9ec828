use Rattle.std.proofs.Common.{subst, sym}
use Rattle.fri_records.specs.Failures.{MatchRequestError}
use Rattle.fri_commitments.specs.Committed.{RefusesMatrices}
use Rattle.fri_numbers.proofs.Failed.{request_weaker}
use Rattle.fri_commitments.proofs.committed.commit_one.Goals as goal

pub returns-in-Err-Refused-clause-refused : goal.returns-in-Err-Refused-clause-refused
returns-in-Err-Refused-clause-refused g c =
    let refuses = RefusesMatrices (g.P.Pcs.rules c.args.scheme.now) (g.P.UnivariateStarkPcs.stark_rules c.args.scheme.now)
    c.args.batch.preprocessed c.args.batch.evaluations.items in
    let refused = subst (λ f. MatchRequestError ⊥ refuses f) c.in-Err-Refused.field-0-is
    c.in-Err-Refused.ensures.refused in
    request_weaker _ _ _ _ (λ never. never) (λ e h. (subst (λ x. refuses x) (sym h.0) refused, h.1))
    c.refusal.result c.refusal.ensures
