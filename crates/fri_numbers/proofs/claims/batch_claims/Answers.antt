use Rattle.std.proofs.Common.{◌≡◌, ◌<◌, length, get_or, subst}
use Rattle.std.proofs.lemmas.Result.{IfOk-from_err}
use Rattle.p3_pcs.specs.Claims.{matrix_claim}
use Rattle.fri_numbers.specs.Claims.{matrix_by, matrix_listed}
use Rattle.fri_numbers.proofs.Images.{of_image_more}
use Rattle.fri_numbers.proofs.claims.batch_claims.Goals as goal

pub loop-matrix-preserved : goal.loop-matrix-preserved
loop-matrix-preserved g c =
    let whole = c.deref-matrix-items.ensures.value in
    of_image_more (matrix_by g.N.Numbered.numbers_of g.N.Numbered.shift_of g.N.Numbered.log_size_of) matrix_claim matrix_listed
    c.loop-matrix.matrices.items c.push.new.self.items c.args.opening.now.matrices.items
    c.loop-matrix.matrix-index c.in_ok-matrix_claims.field-0 c.matrix-item.result
    (subst (λ ys. c.loop-matrix.matrix-index < length ys) whole c.loop-matrix-test.true)
    (subst (λ ys. c.matrix-item.result ≡ get_or ys c.loop-matrix.matrix-index c.matrix-item.result)
    whole c.matrix-item.is)
    c.in_ok-push.ensures.items c.in_ok-matrix_claims.ensures c.loop-matrix.invariant

-- where nothing is answered nothing is said of the answer
pub returns-in_err-matrices : goal.returns-in_err-matrices
returns-in_err-matrices g c = IfOk-from_err c.from_residual.result _ c.from_residual.ensures.0

pub returns-in_err-matrix_claims : goal.returns-in_err-matrix_claims
returns-in_err-matrix_claims g c = IfOk-from_err c.from_residual-in_err-matrix_claims.result _ c.from_residual-in_err-matrix_claims.ensures.0

pub returns-in_err-push : goal.returns-in_err-push
returns-in_err-push g c = IfOk-from_err c.from_residual-in_err-push.result _ c.from_residual-in_err-push.ensures.0

pub returns-in_err-hex_of : goal.returns-in_err-hex_of
returns-in_err-hex_of g c = IfOk-from_err c.from_residual-in_err-hex_of.result _ c.from_residual-in_err-hex_of.ensures.0
