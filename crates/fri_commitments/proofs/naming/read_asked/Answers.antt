use Rattle.std.proofs.lemmas.Result.{IfOk-from_err}
use Rattle.fri_numbers.proofs.Failed.{read_wants}
use Rattle.fri_commitments.proofs.naming.read_asked.Goals as goal

-- where nothing is answered nothing is said of the answer
pub returns-in_err-points-clause-points : goal.returns-in_err-points-clause-points
returns-in_err-points-clause-points g c = IfOk-from_err c.from_residual.result _ c.from_residual.ensures.0

pub returns-in_err-points-clause-state : goal.returns-in_err-points-clause-state
returns-in_err-points-clause-state g c = IfOk-from_err c.from_residual.result _ c.from_residual.ensures.0

pub returns-in_err-points-clause-context : goal.returns-in_err-points-clause-context
returns-in_err-points-clause-context g c = IfOk-from_err c.from_residual.result _ c.from_residual.ensures.0

pub returns-in_err-bytes-clause-points : goal.returns-in_err-bytes-clause-points
returns-in_err-bytes-clause-points g c = IfOk-from_err c.from_residual-in_err-bytes.result _ c.from_residual-in_err-bytes.ensures.0

pub returns-in_err-bytes-clause-state : goal.returns-in_err-bytes-clause-state
returns-in_err-bytes-clause-state g c = IfOk-from_err c.from_residual-in_err-bytes.result _ c.from_residual-in_err-bytes.ensures.0

pub returns-in_err-bytes-clause-context : goal.returns-in_err-bytes-clause-context
returns-in_err-bytes-clause-context g c = IfOk-from_err c.from_residual-in_err-bytes.result _ c.from_residual-in_err-bytes.ensures.0

pub returns-in_err-stated-clause-points : goal.returns-in_err-stated-clause-points
returns-in_err-stated-clause-points g c = IfOk-from_err c.from_residual-in_err-stated.result _ c.from_residual-in_err-stated.ensures.0

pub returns-in_err-stated-clause-state : goal.returns-in_err-stated-clause-state
returns-in_err-stated-clause-state g c = IfOk-from_err c.from_residual-in_err-stated.result _ c.from_residual-in_err-stated.ensures.0

pub returns-in_err-stated-clause-context : goal.returns-in_err-stated-clause-context
returns-in_err-stated-clause-context g c = IfOk-from_err c.from_residual-in_err-stated.result _ c.from_residual-in_err-stated.ensures.0

pub returns-in_err-stated-clause-refused : goal.returns-in_err-stated-clause-refused
returns-in_err-stated-clause-refused g c = read_wants c.from_residual-in_err-stated.result _ c.from_residual-in_err-stated.ensures.1

pub returns-in_err-challenger-clause-points : goal.returns-in_err-challenger-clause-points
returns-in_err-challenger-clause-points g c = IfOk-from_err c.from_residual-in_err-challenger.result _ c.from_residual-in_err-challenger.ensures.0

pub returns-in_err-challenger-clause-state : goal.returns-in_err-challenger-clause-state
returns-in_err-challenger-clause-state g c = IfOk-from_err c.from_residual-in_err-challenger.result _ c.from_residual-in_err-challenger.ensures.0

pub returns-in_err-challenger-clause-context : goal.returns-in_err-challenger-clause-context
returns-in_err-challenger-clause-context g c = IfOk-from_err c.from_residual-in_err-challenger.result _ c.from_residual-in_err-challenger.ensures.0

pub returns-in_err-challenger-clause-refused : goal.returns-in_err-challenger-clause-refused
returns-in_err-challenger-clause-refused g c = read_wants c.from_residual-in_err-challenger.result _ c.from_residual-in_err-challenger.ensures.1
