use Rattle.std.proofs.Common.{◌<◌, ◌≤◌, false, map, refl, sym, subst, ap, ◌∙◌}
use Rattle.fri_numbers.specs.Listed.{domain_by, domain_committed}
use Rattle.fri_commitments.proofs.Keeping.{more_alike, all_alike, alike_at}
use Rattle.fri_commitments.proofs.naming.name_known.Goals as goal

pub loop-index-preserved : goal.loop-index-preserved
loop-index-preserved g c =
    more_alike (λ k. map (λ d. domain_by (g.N.Numbered.shift_of d) (g.N.Numbered.log_size_of d)) k.domains.items)
    (λ b. map (λ m. domain_committed false m.domain) b.matrices.items) c.args.known.now c.args.asked.now
    c.loop-index.index c.index-known-index.result c.index-asked-index.result
    (subst (λ n. c.loop-index.index < n) (sym c.if-known-asked.false) c.loop-index-test.true)
    c.loop-index-test.true c.index-known-index.is c.index-asked-index.is
    (ap (λ ds. map (λ d. domain_by (g.N.Numbered.shift_of d) (g.N.Numbered.log_size_of d)) ds)
    (ap (λ k. k.domains.items) c.index-known-index.is ∙ sym c.deref.ensures.value)
    ∙ c.if-not-name_domains.ensures.0 refl
    ∙ ap (λ ms. map (λ m. domain_committed false m.domain) ms) c.deref-in-loop-index.ensures.value)
    c.loop-index.invariant

pub returns-then-not-name_domains : goal.returns-then-not-name_domains
returns-then-not-name_domains g c = (
  λ t. cc,
  λ e. c.if-not-name_domains.ensures.1
      (ap (λ ds. map (λ d. domain_by (g.N.Numbered.shift_of d) (g.N.Numbered.log_size_of d)) ds)
      (sym (ap (λ k. k.domains.items) c.index-known-index.is ∙ sym c.deref.ensures.value))
      ∙ alike_at (λ k. map (λ d. domain_by (g.N.Numbered.shift_of d) (g.N.Numbered.log_size_of d)) k.domains.items)
      (λ b. map (λ m. domain_committed false m.domain) b.matrices.items) c.args.known.now c.args.asked.now
      c.loop-index.index c.index-known-index.result c.index-asked-index.result
      (subst (λ n. c.loop-index.index < n) (sym c.if-known-asked.false) c.loop-index-test.true)
      c.loop-index-test.true c.index-known-index.is c.index-asked-index.is e
      ∙ sym (ap (λ ms. map (λ m. domain_committed false m.domain) ms) c.deref-in-loop-index.ensures.value)),
)

pub returns : goal.returns
returns g c = (
  λ t. all_alike (λ k. map (λ d. domain_by (g.N.Numbered.shift_of d) (g.N.Numbered.log_size_of d)) k.domains.items)
      (λ b. map (λ m. domain_committed false m.domain) b.matrices.items) c.args.known.now c.args.asked.now
      c.loop-index.index
      (subst (λ n. n ≤ c.loop-index.index) (sym c.if-known-asked.false) c.loop-index-test.false)
      c.loop-index-test.false c.loop-index.invariant,
  λ e. refl,
)
