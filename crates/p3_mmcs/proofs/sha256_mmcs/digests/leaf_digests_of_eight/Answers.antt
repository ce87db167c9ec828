use Rattle.std.proofs.Common.{◌≡◌, ◌≤◌, ◌+◌, ◌-◌, ◌*◌, ◌∷◌, length, arith, ◌∙◌}
use Rattle.std.specs.List.{flat_map}
use Rattle.std.proofs.lemmas.Nat.{row_fits}
use Rattle.std.proofs.lemmas.List.Edits.{length-between}
use Rattle.p3_mmcs.specs.Batch.{opened_rows}
use Rattle.p3_mmcs.specs.Tree.{row_bytes}
use Rattle.p3_mmcs.proofs.Buffers.{length_written, messages_more}
use Rattle.p3_mmcs.proofs.sha256_mmcs.digests.leaf_digests_of_eight.Goals as goal

pub loop-lane-preserved : goal.loop-lane-preserved
loop-lane-preserved g c =
    let len = c.args.len in
    let lane = c.loop-lane.lane in
    let messages = c.loop-lane.messages in
    let message = c.write_leaf_at.new.out in
    let here = c.loop-lane.invariant in
    let room : lane * len + len ≤ length messages =
    omega (arith, here.len, row_fits lane len 8 len c.loop-lane-test.true (omega arith)) in
    let one : (lane + 1) * len - lane * len ≡ len = omega arith in
    let long : length message ≡ len =
    c.write_leaf_at.auto.out
    ∙ length-between messages (lane * len) ((lane + 1) * len) (omega (arith, room)) ∙ one in
    record {
      len =
          length_written messages message (lane * len) ((lane + 1) * len - lane * len)
          (omega (arith, room, one)) (omega (arith, long, one)) ∙ here.len;
      each =
          messages_more len lane messages message room long
          (λ k. 0 ∷ flat_map (row_bytes g.T.ElementBytes.bytes)
          (opened_rows c.args.matrices.now (c.args.first + k))) here.each c.write_leaf_at.ensures;
    }
