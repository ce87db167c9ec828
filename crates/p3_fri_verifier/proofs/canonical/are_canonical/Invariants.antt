use Rattle.std.proofs.Common.{◌≡◌, take}
use Rattle.std.specs.Prelude.{All}
use Rattle.p3_fri_verifier.proofs.canonical.are_canonical.Given as goal

abbrev pub invariant-loop-witness : goal.invariant-loop-witness
invariant-loop-witness g l = l.bits ≡ 0 → All (λ w. w ≡ g.F.Field.ops.zero) (take l.witness-index l.witnesses)
