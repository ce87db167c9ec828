use Rattle.std.proofs.lemmas.Result.{IfOk-from_err}
use Rattle.fri_numbers.proofs.claims.point_claims.Goals as goal

-- where nothing is answered nothing is said of the answer
pub returns-in_err-point_numbers : goal.returns-in_err-point_numbers
returns-in_err-point_numbers g c = IfOk-from_err c.from_residual.result _ c.from_residual.ensures.0

pub returns-in_err-all_numbers : goal.returns-in_err-all_numbers
returns-in_err-all_numbers g c = IfOk-from_err c.from_residual-in_err-all_numbers.result _ c.from_residual-in_err-all_numbers.ensures.0
