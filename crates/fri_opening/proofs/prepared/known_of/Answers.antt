use Rattle.std.proofs.lemmas.Result.{IfOk-from_err}
use Rattle.std.proofs.Common.{map, refl, ◌∙◌}
use Rattle.fri_numbers.proofs.Images.{image_all}
use Rattle.fri_numbers.proofs.Kept.{same_more}
use Rattle.fri_opening.proofs.prepared.known_of.Goals as goal

pub loop-committed-preserved : goal.loop-committed-preserved
loop-committed-preserved g c =
    let kept = c.committed-item.result in
    record {
      commitments = same_more (λ k. k.commitment) (λ k. k.commitment) c.loop-committed.known.items
          c.push.new.self.items c.args.all.now c.loop-committed.committed-index _ kept
          c.loop-committed-test.true c.committed-item.is c.in_ok-push.ensures.items refl
          c.loop-committed.invariant.commitments;
      domains = same_more (λ k. k.domains.items) (λ k. k.domains.items) c.loop-committed.known.items
          c.push.new.self.items c.args.all.now c.loop-committed.committed-index _ kept
          c.loop-committed-test.true c.committed-item.is c.in_ok-push.ensures.items
          (c.in_ok-from_slice.ensures.items ∙ c.deref.ensures.value)
          c.loop-committed.invariant.domains;
    }

pub returns-clause-commitments : goal.returns-clause-commitments
returns-clause-commitments g c =
    image_all (λ ks. map (λ k. k.commitment) ks) c.args.all.now c.loop-committed.committed-index
    c.loop-committed-test.false c.loop-committed.invariant.commitments

pub returns-clause-domains : goal.returns-clause-domains
returns-clause-domains g c =
    image_all (λ ks. map (λ k. k.domains.items) ks) c.args.all.now c.loop-committed.committed-index
    c.loop-committed-test.false c.loop-committed.invariant.domains

-- where nothing is answered nothing is said of the answer
pub returns-in_err-known-clause-commitments : goal.returns-in_err-known-clause-commitments
returns-in_err-known-clause-commitments g c = IfOk-from_err c.from_residual.result _ c.from_residual.ensures.0

pub returns-in_err-known-clause-domains : goal.returns-in_err-known-clause-domains
returns-in_err-known-clause-domains g c = IfOk-from_err c.from_residual.result _ c.from_residual.ensures.0

pub returns-in_err-from_slice-clause-commitments : goal.returns-in_err-from_slice-clause-commitments
returns-in_err-from_slice-clause-commitments g c = IfOk-from_err c.from_residual-in_err-from_slice.result _ c.from_residual-in_err-from_slice.ensures.0

pub returns-in_err-from_slice-clause-domains : goal.returns-in_err-from_slice-clause-domains
returns-in_err-from_slice-clause-domains g c = IfOk-from_err c.from_residual-in_err-from_slice.result _ c.from_residual-in_err-from_slice.ensures.0

pub returns-in_err-push-clause-commitments : goal.returns-in_err-push-clause-commitments
returns-in_err-push-clause-commitments g c = IfOk-from_err c.from_residual-in_err-push.result _ c.from_residual-in_err-push.ensures.0

pub returns-in_err-push-clause-domains : goal.returns-in_err-push-clause-domains
returns-in_err-push-clause-domains g c = IfOk-from_err c.from_residual-in_err-push.result _ c.from_residual-in_err-push.ensures.0
