use Rattle.std.proofs.Common.{rules}
use Rattle.p3_fri_masks.proofs.Apart.{one_more_off, off_all}
use Rattle.p3_fri_masks.proofs.disjoint.is_off_each.Goals as goal

pub loop-domain-preserved : goal.loop-domain-preserved
loop-domain-preserved g c = search (
  rules,
  one_more_off g.F.Field.ops (λ d. d.shift) (λ d. d.log_size) c.args.domains.now c.args.point,
)

pub returns : goal.returns
returns g c =
    off_all g.F.Field.ops (λ d. d.shift) (λ d. d.log_size) c.args.domains.now c.args.point
    c.loop-domain.domain-index c.loop-domain.invariant c.loop-domain-test.false
