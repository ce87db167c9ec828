use Rattle.std.proofs.Common.{arith}
use Rattle.p3_fri_plain.proofs.Extensions.{extension_faultless}
use Rattle.std.proofs.lemmas.Result.{IfOk-from_err}
use Rattle.p3_fri_plain.proofs.elements.ExtensionElementPlain.from_plain.Goals as goal

pub returns-clause-faultless : goal.returns-clause-faultless
returns-clause-faultless g c =
    extension_faultless g.F.PrimeField64.ORDER_U64 g.EF.ExtensionField.DIMENSION
    c.args.form.now.items (omega arith) c.in_ok-coefficients.ensures.faultless

-- where nothing is answered nothing is said of the answer
pub returns-in_err-coefficients-clause-faultless : goal.returns-in_err-coefficients-clause-faultless
returns-in_err-coefficients-clause-faultless g c =
    IfOk-from_err c.from_residual.result _ c.from_residual.ensures.0

pub returns-in_err-coefficients-clause-ok : goal.returns-in_err-coefficients-clause-ok
returns-in_err-coefficients-clause-ok g c =
    IfOk-from_err c.from_residual.result _ c.from_residual.ensures.0
