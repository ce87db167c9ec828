use Rattle.std.proofs.Common.{◌≡◌, ◌<◌, ℕ, [], length, slice_index_or}
use Rattle.algebra.specs.Nested.{nested}
use Rattle.p3_mmcs.specs.Tree.{leaf}
use Rattle.p3_mmcs.proofs.sha256_mmcs.eights.leaves_of_eight.Given as goal

abbrev pub invariant-loop-lane : goal.invariant-loop-lane
invariant-loop-lane g l = record {
  eight : length l.leaves ≡ 8;
  each : (k : ℕ) → k < l.lane → slice_index_or l.leaves k []
      ≡ leaf g.T.ElementBytes.bytes (slice_index_or (nested l.opened_values) k []);
}
