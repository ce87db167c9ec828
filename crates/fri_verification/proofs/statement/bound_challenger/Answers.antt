use Rattle.std.proofs.Common.{map, ap, ◌∙◌}
use Rattle.std.proofs.lemmas.Result.{IfOk-from_err}
use Rattle.fri_verification.specs.Bound.{bound_by, commitment_stated}
use Rattle.fri_verification.proofs.statement.bound_challenger.Goals as goal

pub returns : goal.returns
returns g c =
    c.in_ok-absorb_statement.ensures.absorbed
    ∙ ap (λ q. bound_by g.F.PrimeField64.ORDER_U64 g.F.PrimeField64.canonical g.F.Field.ops c.args.begun
    c.args.context.now q (map (commitment_stated (λ x. map g.F.PrimeField64.canonical (g.EF.ExtensionField.coefficients x))
    (λ d. g.F.PrimeField64.canonical d.shift) (λ d. d.log_size)) c.args.commitments.now))
    c.fri_parameters.ensures

-- where nothing is answered nothing is said of the answer
pub returns-in_err-absorb_statement : goal.returns-in_err-absorb_statement
returns-in_err-absorb_statement g c = IfOk-from_err c.from_residual.result _ c.from_residual.ensures.0
