use Rattle.std.proofs.Common.{◌≡◌, take}
use Rattle.algebra.specs.Polynomial.{val}
use Rattle.p3_fri_relation.proofs.ladder.Ladder.combine.Given as goal

abbrev pub invariant-loop-k : goal.invariant-loop-k
invariant-loop-k g l = l.sum ≡ val g.EF.Field.ops (take l.k l.values) l.self.alpha
