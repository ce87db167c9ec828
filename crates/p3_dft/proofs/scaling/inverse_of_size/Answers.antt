use Rattle.std.proofs.Common.{ap, ◌∙◌}
use Rattle.algebra.specs.Field.{multiple}
use Rattle.p3_dft.proofs.Sizes.{size_of_none, size_halved}
use Rattle.p3_dft.proofs.scaling.inverse_of_size.Goals as goal

pub loop-init : goal.loop-init
loop-init g c =
    let F = g.F.Field.ops in
    ap (λ x. F.mul (multiple F 1) x) (c.ONE-inverse.ensures ∙ g.met.F.Field.one_law) ∙ size_of_none F g.met.F.Field.laws.ring

pub loop-preserved : goal.loop-preserved
loop-preserved g c = size_halved g.F.Field.ops g.met.F.Field.laws.ring c.loop.counter c.loop.inverse c.halve-inverse.result c.halve-inverse.ensures c.loop.invariant
