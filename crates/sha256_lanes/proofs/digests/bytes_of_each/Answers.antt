use Rattle.std.proofs.Common.{ℕ, ◌<◌, length-set, ◌∙◌, arith}
use Rattle.sha2.specs.Sha256.{digest_bytes}
use Rattle.sha256_lanes.specs.Hash.{lane_hash}
use Rattle.sha256_lanes.proofs.Pieces.{digests_next, same_bytes}
use Rattle.sha256_lanes.proofs.digests.bytes_of_each.Goals as goal

pub lanes-preserved : goal.lanes-preserved
lanes-preserved c =
    let l = c.lanes.l in
    let below : l < 8 = omega arith in (
      length-set c.lanes.digests l c.bytes_of.result ∙ c.lanes.invariant.0,
      digests_next (λ (lane : ℕ). digest_bytes (lane_hash c.args.hash lane) 8) c.lanes.digests l c.bytes_of.result (omega arith)
          c.lanes.invariant.1
          (c.bytes_of.ensures ∙ same_bytes (c.to_array-a.ensures l below) (c.to_array-b.ensures l below) (c.to_array-c.ensures l below)
          (c.to_array-d.ensures l below) (c.to_array-e.ensures l below) (c.to_array-f.ensures l below)
          (c.to_array-g.ensures l below) (c.to_array-h.ensures l below)),
    )
