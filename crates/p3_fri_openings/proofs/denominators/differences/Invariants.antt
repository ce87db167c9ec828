use Rattle.std.proofs.Common.{◌≡◌, map, take}
use Rattle.algebra.specs.Field.{sub}
use Rattle.p3_fri_openings.proofs.denominators.differences.Given as goal

abbrev pub invariant-loop-x : goal.invariant-loop-x
invariant-loop-x g l = l.differences.items
    ≡ map (λ x. sub g.EF.Field.ops l.point (g.EF.ExtensionField.lift x)) (take l.x-index l.points)
