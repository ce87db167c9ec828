use Rattle.p3_fri_ffi.specs.declared.any_prover.AnyProver.TheVariants as any
use Rattle.p3_fri_ffi.proofs.Provers.{has_ok, kept}
use Rattle.p3_fri_ffi.proofs.any_prover.AnyProver.open.Goals as goal

pub returns-in-BabyBear-clause-answered : goal.returns-in-BabyBear-clause-answered
returns-in-BabyBear-clause-answered c =
    rw c.in-BabyBear.is (has_ok (λ p. any.BabyBear p) _ _ _ c.open_asked.ensures.answered)

pub returns-in-BabyBear-clause-kept : goal.returns-in-BabyBear-clause-kept
returns-in-BabyBear-clause-kept c =
    rw c.in-BabyBear.is (kept (λ p. any.BabyBear p) _ _ _ c.open_asked.ensures.kept)

pub returns-in-KoalaBear-clause-answered : goal.returns-in-KoalaBear-clause-answered
returns-in-KoalaBear-clause-answered c =
    rw c.in-KoalaBear.is (has_ok (λ p. any.KoalaBear p) _ _ _ c.open_asked-in-KoalaBear.ensures.answered)

pub returns-in-KoalaBear-clause-kept : goal.returns-in-KoalaBear-clause-kept
returns-in-KoalaBear-clause-kept c =
    rw c.in-KoalaBear.is (kept (λ p. any.KoalaBear p) _ _ _ c.open_asked-in-KoalaBear.ensures.kept)

pub returns-in-Goldilocks-clause-answered : goal.returns-in-Goldilocks-clause-answered
returns-in-Goldilocks-clause-answered c =
    rw c.in-Goldilocks.is (has_ok (λ p. any.Goldilocks p) _ _ _ c.open_asked-in-Goldilocks.ensures.answered)

pub returns-in-Goldilocks-clause-kept : goal.returns-in-Goldilocks-clause-kept
returns-in-Goldilocks-clause-kept c =
    rw c.in-Goldilocks.is (kept (λ p. any.Goldilocks p) _ _ _ c.open_asked-in-Goldilocks.ensures.kept)
