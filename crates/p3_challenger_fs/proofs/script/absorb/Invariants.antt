use Rattle.std.proofs.Common.{◌≡◌, map, drop}
use Rattle.algebra.specs.Field.{multiple}
use Rattle.p3_challenger_core.specs.Run.{observed_all}
use Rattle.p3_challenger_fs.proofs.script.absorb.Given as goal

abbrev pub invariant-loop-byte : goal.invariant-loop-byte
invariant-loop-byte g l =
    observed_all g.C.CanObserve.observed l.challenger
    (map (λ b. multiple g.F.Field.ops b) (drop l.byte-index l.bytes))
    ≡ observed_all g.C.CanObserve.observed l.initial.challenger
    (map (λ b. multiple g.F.Field.ops b) l.bytes)
