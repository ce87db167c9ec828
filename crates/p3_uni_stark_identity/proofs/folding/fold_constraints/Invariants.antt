use Rattle.std.proofs.Common.{◌≡◌, take}
use Rattle.p3_uni_stark_identity.specs.Folding.{folded_by}
use Rattle.p3_uni_stark_identity.proofs.folding.fold_constraints.Given as goal

-- the sum of the constraints so far
abbrev pub invariant-loop-constraint : goal.invariant-loop-constraint
invariant-loop-constraint g l = l.sum ≡ folded_by g.EF.Field.ops l.fn.selectors l.fn.values
    (take l.constraint-index l.fn.constraints) l.fn.alpha
