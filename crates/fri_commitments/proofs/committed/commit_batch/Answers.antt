use Rattle.std.proofs.lemmas.Result.{IfOk-from_err}
use Rattle.std.proofs.Common.{map, ap, ◌∙◌}
use Rattle.fri_numbers.proofs.Failed.{request_wants}
use Rattle.fri_commitments.proofs.committed.commit_batch.Goals as goal

pub returns-clause-committed : goal.returns-clause-committed
returns-clause-committed g c = record {
  commits = c.in-Ok.ensures.commits;
  domains = c.in_ok-domains.ensures ∙ ap (λ es. map (λ e. e.0) es) c.deref.ensures.value;
}

-- where nothing is answered nothing is said of the answer
pub returns-in_err-domains-clause-committed : goal.returns-in_err-domains-clause-committed
returns-in_err-domains-clause-committed g c = IfOk-from_err c.from_residual.result _ c.from_residual.ensures.0

pub returns-in_err-domains-clause-refused : goal.returns-in_err-domains-clause-refused
returns-in_err-domains-clause-refused g c = request_wants c.from_residual.result _ _ c.from_residual.ensures.1
