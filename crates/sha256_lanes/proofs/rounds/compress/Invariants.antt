use Rattle.std.proofs.Common.{ℕ, List, ◌<◌, ◌*◌}
use Rattle.sha256_lanes.specs.Words.{HoldsBlock}
use Rattle.sha256_lanes.specs.Hash.{lane_hash, AreRoundsAt}
use Rattle.sha256_lanes.proofs.rounds.compress.Given as goal

abbrev pub invariant-turns : goal.invariant-turns
invariant-turns l = (block : List ℕ) (lane : ℕ) → lane < 8 → HoldsBlock l.fn.window lane block
    → AreRoundsAt block (lane_hash l.state lane) lane l.window (16 * l.turn) l.v (16 * l.turn)
