use Rattle.p3_fri_ffi.specs.declared.any_prover.AnyProver.TheVariants as any
use Rattle.p3_fri_ffi.proofs.Provers.{kept_ok, kept_err}
use Rattle.p3_fri_ffi.proofs.any_prover.AnyProver.commit.Goals as goal

pub returns-in-BabyBear-clause-committed : goal.returns-in-BabyBear-clause-committed
returns-in-BabyBear-clause-committed c =
    rw c.in-BabyBear.is (kept_ok (λ p. any.BabyBear p) _ _ _ _ c.commit_batch.ensures.committed)

pub returns-in-BabyBear-clause-unchanged : goal.returns-in-BabyBear-clause-unchanged
returns-in-BabyBear-clause-unchanged c =
    rw c.in-BabyBear.is (kept_err (λ p. any.BabyBear p) _ _ _ _ c.commit_batch.ensures.unchanged)

pub returns-in-KoalaBear-clause-committed : goal.returns-in-KoalaBear-clause-committed
returns-in-KoalaBear-clause-committed c =
    rw c.in-KoalaBear.is (kept_ok (λ p. any.KoalaBear p) _ _ _ _ c.commit_batch-in-KoalaBear.ensures.committed)

pub returns-in-KoalaBear-clause-unchanged : goal.returns-in-KoalaBear-clause-unchanged
returns-in-KoalaBear-clause-unchanged c =
    rw c.in-KoalaBear.is (kept_err (λ p. any.KoalaBear p) _ _ _ _ c.commit_batch-in-KoalaBear.ensures.unchanged)

pub returns-in-Goldilocks-clause-committed : goal.returns-in-Goldilocks-clause-committed
returns-in-Goldilocks-clause-committed c =
    rw c.in-Goldilocks.is (kept_ok (λ p. any.Goldilocks p) _ _ _ _ c.commit_batch-in-Goldilocks.ensures.committed)

pub returns-in-Goldilocks-clause-unchanged : goal.returns-in-Goldilocks-clause-unchanged
returns-in-Goldilocks-clause-unchanged c =
    rw c.in-Goldilocks.is (kept_err (λ p. any.Goldilocks p) _ _ _ _ c.commit_batch-in-Goldilocks.ensures.unchanged)
