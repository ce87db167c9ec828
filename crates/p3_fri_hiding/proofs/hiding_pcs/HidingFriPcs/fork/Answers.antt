use Rattle.std.proofs.lemmas.Result.{IfOk-from_err}
use Rattle.p3_fri_hiding.proofs.hiding_pcs.HidingFriPcs.fork.Goals as goal

-- of what is answered no refusal is said
pub returns-clause-refused : goal.returns-clause-refused
returns-clause-refused g c = tt

-- where nothing is answered nothing is said of the answer
pub returns-in_err-fri-clause-forked : goal.returns-in_err-fri-clause-forked
returns-in_err-fri-clause-forked g c =
    IfOk-from_err c.from_residual-in_err-fri.result _ c.from_residual-in_err-fri.ensures.0

pub returns-in_err-fri-clause-past : goal.returns-in_err-fri-clause-past
returns-in_err-fri-clause-past g c =
    IfOk-from_err c.from_residual-in_err-fri.result _ c.from_residual-in_err-fri.ensures.0

pub returns-in_err-mmcs-clause-forked : goal.returns-in_err-mmcs-clause-forked
returns-in_err-mmcs-clause-forked g c =
    IfOk-from_err c.from_residual-in_err-mmcs.result _ c.from_residual-in_err-mmcs.ensures.0

pub returns-in_err-mmcs-clause-past : goal.returns-in_err-mmcs-clause-past
returns-in_err-mmcs-clause-past g c =
    IfOk-from_err c.from_residual-in_err-mmcs.result _ c.from_residual-in_err-mmcs.ensures.0
