use Rattle.std.proofs.Common.{◌||◌, ◌∙◌, eqb, take, ap, sym, refl}
use Rattle.std.specs.List.{list_any}
use Rattle.std.proofs.lemmas.List.Folds.{list_any_more}
use Rattle.p3_fri_verifier.specs.Claimed.{has_size}
use Rattle.p3_fri_verifier.proofs.Sizes.{unset}
use Rattle.p3_fri_verifier.proofs.claimed.claimed_sizes.Goals as goal

pub loop-claim-init : goal.loop-claim-init
loop-claim-init g c = record { count = refl; so_far = λ size. unset 64 size }

pub loop-claim-preserved : goal.loop-claim-preserved
loop-claim-preserved g c =
    let claims = c.args.claims.now in
    let i = c.loop-claim.claim-index in
    record {
      count = c.mark_sizes.auto.sizes ∙ c.loop-claim.invariant.count;
      so_far = λ size.
          c.mark_sizes.ensures size
          ∙ ap (λ before. before || list_any (λ m. eqb m.domain.log_size size) c.as_slice.result.now) (c.loop-claim.invariant.so_far size)
          ∙ ap (λ ms. has_size (λ domain. domain.log_size) (take i claims) size || list_any (λ m. eqb m.domain.log_size size) ms)
          (c.as_slice.ensures.value ∙ ap (λ claim. claim.matrices.items) c.claim-item.is)
          ∙ sym (list_any_more (λ claim. list_any (λ m. eqb m.domain.log_size size) claim.matrices.items) claims i
          c.claim-item.result c.loop-claim-test.true);
    }
