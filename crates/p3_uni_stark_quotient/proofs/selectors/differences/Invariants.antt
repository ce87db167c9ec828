use Rattle.std.proofs.Common.{◌≡◌, map, take}
use Rattle.algebra.specs.Field.{sub}
use Rattle.p3_uni_stark_quotient.proofs.selectors.differences.Given as goal

abbrev pub invariant-loop-value : goal.invariant-loop-value
invariant-loop-value g l = l.differences.items
    ≡ map (λ x. sub g.F.Field.ops x l.fn.subtrahend) (take l.value-index l.fn.values)
