use Rattle.std.proofs.Common.{ℕ, ◌<◌, ◌^◌, All}
use Rattle.p3_uni_stark_verifier.specs.Chunks.{IsBelow}
use Rattle.p3_uni_stark_verifier.proofs.chunks.log_num_chunks.Given as goal

abbrev pub invariant-loop-log : goal.invariant-loop-log
invariant-loop-log l = (j : ℕ) → j < l.log → ¬ All (IsBelow l.zk l.degrees (2 ^ j)) l.constraints
