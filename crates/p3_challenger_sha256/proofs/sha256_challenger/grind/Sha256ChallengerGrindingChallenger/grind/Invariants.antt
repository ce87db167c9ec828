use Rattle.std.proofs.Common.{◌≡◌, ◌<◌, ℕ, false}
use Rattle.algebra.specs.Field.{FieldOps, multiple}
use Rattle.p3_challenger_sha256.proofs.Grinds.{passes}
use Rattle.p3_challenger_sha256.proofs.sha256_challenger.grind.Sha256ChallengerGrindingChallenger.grind.Given as goal

abbrev pub order : goal.Over → ℕ
order g = g.F.PrimeField64.ORDER_U64

abbrev pub canonical : (g : goal.Over) → g.row.F.Denot → ℕ
canonical g = g.F.PrimeField64.canonical

abbrev pub ops : (g : goal.Over) → FieldOps g.row.F.Denot
ops g = g.F.Field.ops

abbrev pub invariant-loop-number : goal.invariant-loop-number
invariant-loop-number g l = record {
  same : l.self ≡ l.fn.self;
  kept : l.before ≡ l.fn.self.state;
  failed : (k : ℕ) → k < l.number
      → passes (order g) (canonical g) (ops g) l.fn.self l.bits (multiple (ops g) k) ≡ false;
}
