use Rattle.std.proofs.Common.{subst, sym}
use Rattle.fri_records.specs.Failures.{MatchRequestError}
use Rattle.fri_commitments.specs.Refusals.{RefusesRead}
use Rattle.fri_numbers.proofs.Failed.{request_weaker}
use Rattle.fri_commitments.proofs.Committing.{refuses_but_memory}
use Rattle.fri_commitments.proofs.committed.commit_all.Goals as goal

pub commit_each-requires-clause-room : goal.commit_each-requires-clause-room
commit_each-requires-clause-room g c = c.requires.room

pub commit_each-requires-clause-since : goal.commit_each-requires-clause-since
commit_each-requires-clause-since g c = c.requires.since

pub returns-in-Err-Refused-clause-refused : goal.returns-in-Err-Refused-clause-refused
returns-in-Err-Refused-clause-refused g c =
    let refuses = RefusesRead g.P.Pcs.rules g.P.UnivariateStarkPcs.stark_rules (λ _. ⊥)
    (λ s. g.P.Pcs.Keeps c.args.scheme.now s) c.args.batches.items in
    let refused = subst (λ f. MatchRequestError ⊥ refuses f) c.in-Err-Refused.field-0-is
    c.in-Err-Refused.ensures.refused in
    request_weaker _ _ _ _ (λ never. never)
    (λ e h. refuses_but_memory g.P.Pcs.rules g.P.UnivariateStarkPcs.stark_rules g.P.MadeScheme.IsMemory e
    (λ s. g.P.Pcs.Keeps c.args.scheme.now s) c.args.batches.items h.1
    (subst (λ x. refuses x) (sym h.0) refused))
    c.refusal.result c.refusal.ensures
