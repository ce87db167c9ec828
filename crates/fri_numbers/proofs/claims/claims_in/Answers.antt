use Rattle.std.proofs.Common.{map}
use Rattle.std.proofs.lemmas.Result.{IfOk-from_err}
use Rattle.p3_pcs.specs.Claims.{claim}
use Rattle.fri_numbers.specs.Claims.{batch_by, batch_listed}
use Rattle.fri_numbers.specs.Claimed.{IsClaimBy}
use Rattle.fri_numbers.proofs.Failed.{malformed_part, read_wants}
use Rattle.fri_numbers.proofs.Images.{image_all, image_more}
use Rattle.fri_numbers.proofs.Listed.{not_all}
use Rattle.fri_numbers.proofs.claims.claims_in.Goals as goal

pub returns-in_err-commitment_opening-clause-refused :
    goal.returns-in_err-commitment_opening-clause-refused
returns-in_err-commitment_opening-clause-refused g c =
    malformed_part _ _ _ _ c.from_residual-in_err-commitment_opening.ensures.1
    c.in_err-commitment_opening.ensures.refused
    (λ fails whole. not_all (IsClaimBy g.N.Numbered.IsPoint g.N.Numbered.IsDomain) batch_listed _ c.loop-index.index c.index-claims-index.result
    c.loop-index-test.true c.index-claims-index.is fails whole)

pub returns-clause-numbers : goal.returns-clause-numbers
returns-clause-numbers g c =
    image_all (map batch_listed) c.args.claims.now c.loop-index.index c.loop-index-test.false
    c.loop-index.invariant

pub loop-index-preserved : goal.loop-index-preserved
loop-index-preserved g c =
    image_more (batch_by g.N.Numbered.numbers_of g.N.Numbered.shift_of g.N.Numbered.log_size_of) claim batch_listed
    c.loop-index.openings.items c.push.new.self.items c.args.claims.now c.loop-index.index
    c.in_ok-commitment_opening.field-0 c.index-claims-index.result c.loop-index-test.true c.index-claims-index.is
    c.in_ok-push.ensures.items c.in_ok-commitment_opening.ensures.numbers c.loop-index.invariant

-- where nothing is answered nothing is said of the answer
pub returns-in_err-openings-clause-numbers : goal.returns-in_err-openings-clause-numbers
returns-in_err-openings-clause-numbers g c = IfOk-from_err c.from_residual.result _ c.from_residual.ensures.0

pub returns-in_err-openings-clause-refused : goal.returns-in_err-openings-clause-refused
returns-in_err-openings-clause-refused g c = read_wants c.from_residual.result _ c.from_residual.ensures.1

pub returns-in_err-commitment_opening-clause-numbers : goal.returns-in_err-commitment_opening-clause-numbers
returns-in_err-commitment_opening-clause-numbers g c = IfOk-from_err c.from_residual-in_err-commitment_opening.result _ c.from_residual-in_err-commitment_opening.ensures.0

pub returns-in_err-push-clause-numbers : goal.returns-in_err-push-clause-numbers
returns-in_err-push-clause-numbers g c = IfOk-from_err c.from_residual-in_err-push.result _ c.from_residual-in_err-push.ensures.0

pub returns-in_err-push-clause-refused : goal.returns-in_err-push-clause-refused
returns-in_err-push-clause-refused g c = read_wants c.from_residual-in_err-push.result _ c.from_residual-in_err-push.ensures.1
