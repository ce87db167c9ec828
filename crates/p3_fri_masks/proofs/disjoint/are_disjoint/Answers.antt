use Rattle.std.proofs.Common.{map, sym, ◌∙◌, below_more, rules}
use Rattle.std.proofs.lemmas.Bool.{false≢true}
use Rattle.p3_fri_masks.specs.QuotientMasks.{IsOffOthers}
use Rattle.p3_fri_masks.proofs.Apart.{passed, refused, off_others_of, disjoint_of}
use Rattle.p3_fri_masks.proofs.disjoint.are_disjoint.Goals as goal

pub returns-then-not-is_off_others : goal.returns-then-not-is_off_others
returns-then-not-is_off_others g c =
    refused (λ disjoint. false≢true (sym c.if-not-is_off_others.true
    ∙ c.is_off_others.ensures.1 (off_others_of g.F.Field.ops (λ d. d.shift) (λ d. d.log_size)
    c.args.domains.now disjoint c.loop-index.index c.loop-index-test.true)))

pub loop-index-preserved : goal.loop-index-preserved
loop-index-preserved g c =
    let domains = c.args.domains.now in
    below_more
    (IsOffOthers g.F.Field.ops (map (λ d. d.log_size) domains) (map (λ d. d.shift) domains))
    c.loop-index.index c.loop-index.invariant
    (c.is_off_others.ensures.0 c.if-not-is_off_others.false)

pub returns : goal.returns
returns g c =
    passed (disjoint_of g.F.Field.ops (λ d. d.shift) (λ d. d.log_size) c.args.domains.now
    c.loop-index.index (search rules) c.loop-index.invariant c.loop-index-test.false)
