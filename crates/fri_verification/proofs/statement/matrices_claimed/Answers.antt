use Rattle.std.proofs.Common.{ap, ◌∙◌, map}
use Rattle.std.proofs.lemmas.Result.{IfOk-from_err}
use Rattle.p3_pcs.specs.Claims.{point_claim, matrix_claim}
use Rattle.fri_verification.specs.Bound.{width_claimed, matrix_claimed, matrix_stated}
use Rattle.fri_numbers.specs.Claims.{point_by, matrix_by}
use Rattle.fri_verification.proofs.Bound.{points_stated, opened_same, matrices_ended}
use Rattle.fri_numbers.proofs.Kept.{same_more}
use Rattle.fri_verification.proofs.statement.matrices_claimed.Goals as goal

pub loop-matrix-preserved : goal.loop-matrix-preserved
loop-matrix-preserved g c =
    let m = c.matrix-item.result in
    same_more (matrix_stated g.N.Numbered.numbers_of g.N.Numbered.shift_of g.N.Numbered.log_size_of) (λ n. matrix_claimed (matrix_by g.N.Numbered.numbers_of g.N.Numbered.shift_of g.N.Numbered.log_size_of (matrix_claim n)))
    c.loop-matrix.all.items c.push.new.self.items c.args.matrices.now c.loop-matrix.matrix-index _ m
    c.loop-matrix-test.true c.matrix-item.is c.in_ok-push.ensures.items
    (opened_same (g.N.Numbered.shift_of m.domain) (g.N.Numbered.log_size_of m.domain) _ _ _ _
    (c.width_of.ensures ∙ ap (λ ps. width_claimed (map (point_by g.N.Numbered.numbers_of) (map point_claim ps))) c.deref.ensures.value)
    (ap (λ ps. map g.N.Numbered.numbers_of ps) (c.in_ok-points_claimed.ensures
    ∙ ap (λ ps. map (λ p. p.point) ps) c.deref-in-loop-matrix.ensures.value)
    ∙ points_stated g.N.Numbered.numbers_of m.points.items))
    c.loop-matrix.invariant

pub returns : goal.returns
returns g c = matrices_ended g.N.Numbered.numbers_of g.N.Numbered.shift_of g.N.Numbered.log_size_of (map (matrix_stated g.N.Numbered.numbers_of g.N.Numbered.shift_of g.N.Numbered.log_size_of) c.loop-matrix.all.items) c.args.matrices.now
    c.loop-matrix.matrix-index c.loop-matrix-test.false c.loop-matrix.invariant

-- where nothing is answered nothing is said of the answer
pub returns-in_err-all : goal.returns-in_err-all
returns-in_err-all g c = IfOk-from_err c.from_residual.result _ c.from_residual.ensures.0

pub returns-in_err-points_claimed : goal.returns-in_err-points_claimed
returns-in_err-points_claimed g c = IfOk-from_err c.from_residual-in_err-points_claimed.result _ c.from_residual-in_err-points_claimed.ensures.0

pub returns-in_err-push : goal.returns-in_err-push
returns-in_err-push g c = IfOk-from_err c.from_residual-in_err-push.result _ c.from_residual-in_err-push.ensures.0
