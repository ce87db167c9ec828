use Rattle.std.proofs.Common.{◌≡◌, ◌<◌, ◌≤◌, List, All, map, length, ap₂, get_or, subst, sym}
use Rattle.std.proofs.lemmas.Result.{IfOk-from_err}
use Rattle.p3_pcs.specs.Claims.{matrix_claim}
use Rattle.fri_numbers.specs.Claims.{MatrixNumbers, matrix_by, matrix_listed}
use Rattle.fri_numbers.specs.Claimed.{IsMatrixClaimBy}
use Rattle.fri_numbers.proofs.Failed.{malformed_part, read_wants}
use Rattle.fri_numbers.proofs.Images.{image_all, image_more}
use Rattle.fri_numbers.proofs.Listed.{not_all}
use Rattle.fri_numbers.proofs.claims.commitment_opening.Goals as goal

pub returns-in_err-matrix_opening-clause-refused :
    goal.returns-in_err-matrix_opening-clause-refused
returns-in_err-matrix_opening-clause-refused g c =
    malformed_part _ _ _ _ c.from_residual-in_err-matrix_opening.ensures.1
    c.in_err-matrix_opening.ensures.refused
    (λ fails whole. not_all (IsMatrixClaimBy g.N.Numbered.IsPoint g.N.Numbered.IsDomain) matrix_listed _ c.loop-index.index c.matrix-item.result
    c.loop-index-test.true c.matrix-item.is fails
    (subst (λ ms. All (IsMatrixClaimBy g.N.Numbered.IsPoint g.N.Numbered.IsDomain) (map matrix_listed ms)) (sym c.deref-matrix-items.ensures.value) whole.matrices))

pub loop-index-preserved : goal.loop-index-preserved
loop-index-preserved g c =
    let whole = c.deref-matrix-items.ensures.value in
    image_more (matrix_by g.N.Numbered.numbers_of g.N.Numbered.shift_of g.N.Numbered.log_size_of) matrix_claim matrix_listed
    c.loop-index.matrices.items c.push.new.self.items c.args.claims.now.matrices.items
    c.loop-index.index c.in_ok-matrix_opening.field-0 c.matrix-item.result
    (subst (λ ys. c.loop-index.index < length ys) whole c.loop-index-test.true)
    (subst (λ ys. c.matrix-item.result ≡ get_or ys c.loop-index.index c.matrix-item.result) whole
    c.matrix-item.is)
    c.in_ok-push.ensures.items c.in_ok-matrix_opening.ensures.numbers c.loop-index.invariant

-- where nothing is answered nothing is said of the answer
pub returns-in_err-matrices-clause-numbers : goal.returns-in_err-matrices-clause-numbers
returns-in_err-matrices-clause-numbers g c = IfOk-from_err c.from_residual.result _ c.from_residual.ensures.0

pub returns-in_err-matrices-clause-refused : goal.returns-in_err-matrices-clause-refused
returns-in_err-matrices-clause-refused g c = read_wants c.from_residual.result _ c.from_residual.ensures.1

pub returns-in_err-matrix_opening-clause-numbers : goal.returns-in_err-matrix_opening-clause-numbers
returns-in_err-matrix_opening-clause-numbers g c = IfOk-from_err c.from_residual-in_err-matrix_opening.result _ c.from_residual-in_err-matrix_opening.ensures.0

pub returns-in_err-push-clause-numbers : goal.returns-in_err-push-clause-numbers
returns-in_err-push-clause-numbers g c = IfOk-from_err c.from_residual-in_err-push.result _ c.from_residual-in_err-push.ensures.0

pub returns-in_err-push-clause-refused : goal.returns-in_err-push-clause-refused
returns-in_err-push-clause-refused g c = read_wants c.from_residual-in_err-push.result _ c.from_residual-in_err-push.ensures.1

pub returns-clause-numbers : goal.returns-clause-numbers
returns-clause-numbers g c =
    ap₂ (λ k (ms : List MatrixNumbers). record { commitment = k; matrices = ms }) (cc (c.in-Ok.ensures, c.as_str.ensures.value))
    (image_all (λ ms. map matrix_listed ms) c.args.claims.now.matrices.items c.loop-index.index
    (subst (λ ys. length ys ≤ c.loop-index.index) c.deref-matrix-items.ensures.value c.loop-index-test.false)
    c.loop-index.invariant)
