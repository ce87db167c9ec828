use Rattle.std.proofs.Common.{◌≢◌, All, take}
use Rattle.algebra.specs.Cosets.{vanishing}
use Rattle.p3_fri_masks.proofs.disjoint.is_off_each.Given as goal

-- the point is off the cosets before the index
abbrev pub invariant-loop-domain : goal.invariant-loop-domain
invariant-loop-domain g l =
    let F = g.F.Field.ops in
    All (λ d. vanishing F d.shift d.log_size l.point ≢ F.zero) (take l.domain-index l.domains)
