use Rattle.std.proofs.Common.{All, take}
use Rattle.p3_uni_stark_verifier.specs.Chunks.{IsBelow}
use Rattle.p3_uni_stark_verifier.proofs.chunks.all_below.Given as goal

abbrev pub invariant-loop-i : goal.invariant-loop-i
invariant-loop-i l = All (IsBelow l.zk l.degrees l.bound) (take l.i l.constraints)
