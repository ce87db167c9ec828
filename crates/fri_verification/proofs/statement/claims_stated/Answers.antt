use Rattle.std.proofs.Common.{map, ap, ◌∙◌}
use Rattle.std.proofs.lemmas.Result.{IfOk-from_err}
use Rattle.fri_verification.proofs.Bound.{claims_ended}
use Rattle.p3_pcs.specs.Claims.{claim, matrix_claim}
use Rattle.fri_verification.specs.Bound.{batch_claimed, matrix_claimed, commitment_stated}
use Rattle.fri_numbers.specs.Claims.{batch_by, matrix_by}
use Rattle.fri_numbers.proofs.Kept.{same_more}
use Rattle.fri_verification.proofs.statement.claims_stated.Goals as goal

pub loop-opening-preserved : goal.loop-opening-preserved
loop-opening-preserved g c =
    let o = c.opening-item.result in
    same_more (commitment_stated g.N.Numbered.numbers_of g.N.Numbered.shift_of g.N.Numbered.log_size_of)
    (λ n. batch_claimed (batch_by g.N.Numbered.numbers_of g.N.Numbered.shift_of g.N.Numbered.log_size_of (claim n)))
    c.loop-opening.all.items c.push.new.self.items c.args.claims.now c.loop-opening.opening-index _ o
    c.loop-opening-test.true c.opening-item.is c.in_ok-push.ensures.items
    (ap (λ ms. record { digest = o.commitment; matrices = ms })
    (c.in_ok-matrices_claimed.ensures
    ∙ ap (λ ms. map matrix_claimed (map (matrix_by g.N.Numbered.numbers_of g.N.Numbered.shift_of g.N.Numbered.log_size_of) (map matrix_claim ms)))
    c.deref.ensures.value))
    c.loop-opening.invariant

pub returns : goal.returns
returns g c = claims_ended g.N.Numbered.numbers_of g.N.Numbered.shift_of g.N.Numbered.log_size_of (map (commitment_stated g.N.Numbered.numbers_of g.N.Numbered.shift_of g.N.Numbered.log_size_of) c.loop-opening.all.items) c.args.claims.now
    c.loop-opening.opening-index c.loop-opening-test.false c.loop-opening.invariant

-- where nothing is answered nothing is said of the answer
pub returns-in_err-all : goal.returns-in_err-all
returns-in_err-all g c = IfOk-from_err c.from_residual.result _ c.from_residual.ensures.0

pub returns-in_err-matrices_claimed : goal.returns-in_err-matrices_claimed
returns-in_err-matrices_claimed g c = IfOk-from_err c.from_residual-in_err-matrices_claimed.result _ c.from_residual-in_err-matrices_claimed.ensures.0

pub returns-in_err-push : goal.returns-in_err-push
returns-in_err-push g c = IfOk-from_err c.from_residual-in_err-push.result _ c.from_residual-in_err-push.ensures.0
