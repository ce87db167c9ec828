use Rattle.std.proofs.Common.{◌+◌, ◌∙◌, All, ap, sym, subst}
use Rattle.p3_fri_hiding_tests.specs.Fits.{Fits}
use Rattle.p3_fri_hiding_tests.proofs.Each.{single}
use Rattle.p3_fri_hiding_tests.proofs.LargerDomains.{both_twice}
use Rattle.p3_fri_hiding_tests.proofs.Maskable.{equal_chunks}
use Rattle.p3_fri_hiding_tests.proofs.openings.stark.stark_columns.Goals as goal

pub returns-clause-preprocessed : goal.returns-clause-preprocessed
returns-clause-preprocessed g c =
    subst (λ es. All (λ e. Fits 2 e.0.log_size e.1) es) (sym c.one-preprocessed.ensures)
    (single (λ e. Fits 2 e.0.log_size e.1) _ c.evaluation.ensures)

pub returns-clause-quotient : goal.returns-clause-quotient
returns-clause-quotient g c =
    equal_chunks _ (λ d. d.shift) (λ d. d.log_size) 27 2 _ _ c.two-quotient.ensures
    c.chunks-first.ensures

pub returns-clause-quotient_domains : goal.returns-clause-quotient_domains
returns-clause-quotient_domains g c =
    both_twice (λ d. d.log_size) _ _ _ _ _ _ c.two-quotient.ensures c.two-quotient_domains.ensures
    (c.coset-of_first.ensures.size ∙ ap (λ n. n + 1) c.log_size.ensures)
    (c.coset-of_second.ensures.size ∙ ap (λ n. n + 1) c.log_size-2.ensures)
