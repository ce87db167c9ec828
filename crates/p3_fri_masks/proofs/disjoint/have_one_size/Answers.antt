use Rattle.std.proofs.Common.{◌<◌, length, map, sym, ◌∙◌, arith, below_more}
use Rattle.std.proofs.lemmas.List.{get_or_default, length-map}
use Rattle.p3_fri_masks.proofs.Apart.{passed, refused, size_at}
use Rattle.p3_fri_masks.proofs.disjoint.have_one_size.Goals as goal

pub returns-then-log_size : goal.returns-then-log_size
returns-then-log_size g c =
    let F = g.F.Field.ops in
    let domains = c.args.domains.now in
    let i = c.loop-domain.domain-index in
    let below : i < length domains = omega arith in
    let some : 0 < length domains = omega (arith, below) in
    refused (λ sizes. c.if-log_size.true
    (c.log_size.ensures
    ∙ sym (size_at F (λ d. d.shift) (λ d. d.log_size) domains i c.domain-item.result below c.domain-item.is)
    ∙ sizes i 0 (omega (arith, below, length-map domains (λ d. d.log_size)))
    ∙ size_at F (λ d. d.shift) (λ d. d.log_size) domains 0 c.index-domains-0.result some c.index-domains-0.is
    ∙ sym c.log_size-in-loop-domain.ensures))

pub loop-domain-preserved : goal.loop-domain-preserved
loop-domain-preserved g c =
    let F = g.F.Field.ops in
    let domains = c.args.domains.now in
    let i = c.loop-domain.domain-index in
    let below : i < length domains = omega arith in
    let some : 0 < length domains = omega (arith, below) in
    below_more _ _ c.loop-domain.invariant
    (size_at F (λ d. d.shift) (λ d. d.log_size) domains i c.domain-item.result below c.domain-item.is
    ∙ sym c.log_size.ensures ∙ c.if-log_size.false ∙ c.log_size-in-loop-domain.ensures
    ∙ sym (size_at F (λ d. d.shift) (λ d. d.log_size) domains 0 c.index-domains-0.result some c.index-domains-0.is))

pub returns : goal.returns
returns g c =
    let log_sizes = map (λ d. d.log_size) c.args.domains.now in
    passed (λ k d l. get_or_default log_sizes k d 0 l
    ∙ c.loop-domain.invariant k (omega (arith, l, length-map c.args.domains.now (λ d. d.log_size))))
