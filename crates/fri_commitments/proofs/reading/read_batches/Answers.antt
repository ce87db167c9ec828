use Rattle.std.proofs.lemmas.Result.{IfOk-from_err}
use Rattle.fri_commitments.proofs.reading.read_batches.Goals as goal

-- where nothing is answered nothing is said of the answer
pub returns-in_err-preprocessing-clause-read : goal.returns-in_err-preprocessing-clause-read
returns-in_err-preprocessing-clause-read g c = IfOk-from_err c.from_residual.result _ c.from_residual.ensures.0

pub returns-in_err-preprocessing-clause-well_formed : goal.returns-in_err-preprocessing-clause-well_formed
returns-in_err-preprocessing-clause-well_formed g c = IfOk-from_err c.from_residual.result _ c.from_residual.ensures.0

pub returns-in_err-listed_batches-clause-read : goal.returns-in_err-listed_batches-clause-read
returns-in_err-listed_batches-clause-read g c = IfOk-from_err c.from_residual-in_err-listed_batches.result _ c.from_residual-in_err-listed_batches.ensures.0

pub returns-in_err-listed_batches-clause-well_formed : goal.returns-in_err-listed_batches-clause-well_formed
returns-in_err-listed_batches-clause-well_formed g c = IfOk-from_err c.from_residual-in_err-listed_batches.result _ c.from_residual-in_err-listed_batches.ensures.0
