use Rattle.std.proofs.Common.{ℕ, ◌<◌, map}
use Rattle.p3_fri_masks.specs.QuotientMasks.{IsOffOthers}
use Rattle.p3_fri_masks.proofs.disjoint.are_disjoint.Given as goal

-- the cosets before the index have been tested
abbrev pub invariant-loop-index : goal.invariant-loop-index
invariant-loop-index g l = (i : ℕ) → i < l.index → IsOffOthers g.F.Field.ops
    (map (λ d. d.log_size) l.domains) (map (λ d. d.shift) l.domains) i
