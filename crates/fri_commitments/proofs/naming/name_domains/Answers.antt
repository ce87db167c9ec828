use Rattle.std.proofs.Common.{◌<◌, ◌≤◌, false, refl, sym, subst, ap, ap₂, ◌∙◌}
use Rattle.fri_numbers.specs.Listed.{domain_by, domain_committed}
use Rattle.fri_commitments.proofs.Keeping.{more_alike, all_alike, alike_at}
use Rattle.fri_commitments.proofs.naming.name_domains.Goals as goal

pub loop-index-preserved : goal.loop-index-preserved
loop-index-preserved g c =
    more_alike (λ d. domain_by (g.N.Numbered.shift_of d) (g.N.Numbered.log_size_of d)) (λ m. domain_committed false m.domain) c.args.domains.now
    c.args.matrices.now c.loop-index.index c.index-domains-index.result c.index-matrices-index.result
    (subst (λ n. c.loop-index.index < n) (sym c.if-domains-matrices.false) c.loop-index-test.true)
    c.loop-index-test.true c.index-domains-index.is c.index-matrices-index.is
    (ap₂ domain_by
    (sym c.domain_numbers-kept.ensures.shift ∙ sym c.if-matrix-kept.false)
    (sym c.domain_numbers-kept.ensures.log_size ∙ sym c.if-matrix-kept-2.false))
    c.loop-index.invariant

pub returns-then-matrix-kept : goal.returns-then-matrix-kept
returns-then-matrix-kept g c = (
  λ t. cc,
  λ e. absurd (c.if-matrix-kept.true (ap (λ d. d.shift) (sym (alike_at (λ d. domain_by (g.N.Numbered.shift_of d) (g.N.Numbered.log_size_of d))
      (λ m. domain_committed false m.domain) c.args.domains.now c.args.matrices.now c.loop-index.index
      c.index-domains-index.result c.index-matrices-index.result
      (subst (λ n. c.loop-index.index < n) (sym c.if-domains-matrices.false) c.loop-index-test.true)
      c.loop-index-test.true c.index-domains-index.is c.index-matrices-index.is e))
      ∙ sym c.domain_numbers-kept.ensures.shift)),
)

pub returns-then-matrix-kept-2 : goal.returns-then-matrix-kept-2
returns-then-matrix-kept-2 g c = (
  λ t. cc,
  λ e. absurd (c.if-matrix-kept-2.true (ap (λ d. d.log_size) (sym (alike_at (λ d. domain_by (g.N.Numbered.shift_of d) (g.N.Numbered.log_size_of d))
      (λ m. domain_committed false m.domain) c.args.domains.now c.args.matrices.now c.loop-index.index
      c.index-domains-index.result c.index-matrices-index.result
      (subst (λ n. c.loop-index.index < n) (sym c.if-domains-matrices.false) c.loop-index-test.true)
      c.loop-index-test.true c.index-domains-index.is c.index-matrices-index.is e))
      ∙ sym c.domain_numbers-kept.ensures.log_size)),
)

pub returns : goal.returns
returns g c = (
  λ t. all_alike (λ d. domain_by (g.N.Numbered.shift_of d) (g.N.Numbered.log_size_of d)) (λ m. domain_committed false m.domain) c.args.domains.now
      c.args.matrices.now c.loop-index.index
      (subst (λ n. n ≤ c.loop-index.index) (sym c.if-domains-matrices.false) c.loop-index-test.false)
      c.loop-index-test.false c.loop-index.invariant,
  λ e. refl,
)
