use Rattle.std.proofs.Common.{◌≡◌, All, take, length}
use Rattle.algebra.specs.Nested.{lists}
use Rattle.p3_uni_stark_identity.proofs.chunks.have_dimension.Given as goal

abbrev pub invariant-loop-i : goal.invariant-loop-i
invariant-loop-i g l =
    All (λ values. length values ≡ g.EF.ExtensionField.DIMENSION) (take l.i (lists l.chunks))
