use Rattle.std.proofs.lemmas.Result.{IfOk-from_err}
use Rattle.p3_fri_prover.proofs.prover.rounds.CommittedRounds.push.Goals as goal

-- where nothing is answered nothing is said of the answer
pub returns-in_err-push-2-clause-commitments : goal.returns-in_err-push-2-clause-commitments
returns-in_err-push-2-clause-commitments g c =
    IfOk-from_err c.from_residual-in_err-push-2.result _ c.from_residual-in_err-push-2.ensures.0

pub returns-in_err-push-2-clause-prover_data : goal.returns-in_err-push-2-clause-prover_data
returns-in_err-push-2-clause-prover_data g c =
    IfOk-from_err c.from_residual-in_err-push-2.result _ c.from_residual-in_err-push-2.ensures.0

pub returns-in_err-push-2-clause-witnesses : goal.returns-in_err-push-2-clause-witnesses
returns-in_err-push-2-clause-witnesses g c =
    IfOk-from_err c.from_residual-in_err-push-2.result _ c.from_residual-in_err-push-2.ensures.0

pub returns-in_err-push-2-clause-word : goal.returns-in_err-push-2-clause-word
returns-in_err-push-2-clause-word g c =
    IfOk-from_err c.from_residual-in_err-push-2.result _ c.from_residual-in_err-push-2.ensures.0

pub returns-in_err-push-3-clause-commitments : goal.returns-in_err-push-3-clause-commitments
returns-in_err-push-3-clause-commitments g c =
    IfOk-from_err c.from_residual-in_err-push-3.result _ c.from_residual-in_err-push-3.ensures.0

pub returns-in_err-push-3-clause-prover_data : goal.returns-in_err-push-3-clause-prover_data
returns-in_err-push-3-clause-prover_data g c =
    IfOk-from_err c.from_residual-in_err-push-3.result _ c.from_residual-in_err-push-3.ensures.0

pub returns-in_err-push-3-clause-witnesses : goal.returns-in_err-push-3-clause-witnesses
returns-in_err-push-3-clause-witnesses g c =
    IfOk-from_err c.from_residual-in_err-push-3.result _ c.from_residual-in_err-push-3.ensures.0

pub returns-in_err-push-3-clause-word : goal.returns-in_err-push-3-clause-word
returns-in_err-push-3-clause-word g c =
    IfOk-from_err c.from_residual-in_err-push-3.result _ c.from_residual-in_err-push-3.ensures.0
