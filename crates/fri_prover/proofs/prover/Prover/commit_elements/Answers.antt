use Rattle.std.proofs.lemmas.Result.{IfOk-from_err}
use Rattle.std.proofs.Common.{refl}
use Rattle.fri_numbers.specs.Elements.{batch_of}
use Rattle.fri_prover.proofs.prover.Prover.commit_elements.Goals as goal

pub returns-clause-committed : goal.returns-clause-committed
returns-clause-committed g c =
    c.keep.ensures.committed (batch_of g.F.PrimeField64.canonical c.args.matrices)
    (record { evaluations = c.in_ok-evaluations.ensures.listed; preprocessed = refl })

pub returns-clause-kept : goal.returns-clause-kept
returns-clause-kept g c = λ batches has.
    c.keep.ensures.kept batches (batch_of g.F.PrimeField64.canonical c.args.matrices) has
    (record { evaluations = c.in_ok-evaluations.ensures.listed; preprocessed = refl })

-- where nothing is answered nothing is said of the answer
pub returns-in_err-evaluations-clause-committed : goal.returns-in_err-evaluations-clause-committed
returns-in_err-evaluations-clause-committed g c = IfOk-from_err c.from_residual.result _ c.from_residual.ensures.0

pub returns-in_err-evaluations-clause-kept : goal.returns-in_err-evaluations-clause-kept
returns-in_err-evaluations-clause-kept g c = λ _ _. IfOk-from_err c.from_residual.result _ c.from_residual.ensures.0

pub returns-in_err-evaluations-clause-commitments : goal.returns-in_err-evaluations-clause-commitments
returns-in_err-evaluations-clause-commitments g c = IfOk-from_err c.from_residual.result _ c.from_residual.ensures.0
