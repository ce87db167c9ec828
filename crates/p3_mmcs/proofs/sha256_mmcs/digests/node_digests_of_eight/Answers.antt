use Rattle.std.proofs.Common.{◌≡◌, ◌≤◌, ◌+◌, ◌-◌, ◌*◌, [], ◌∷◌, ◌++◌, length, slice_index_or, arith, ◌∙◌}
use Rattle.std.proofs.lemmas.List.Edits.{length-between}
use Rattle.p3_mmcs.proofs.Buffers.{length_written, messages_more}
use Rattle.p3_mmcs.proofs.sha256_mmcs.digests.node_digests_of_eight.Goals as goal

pub loop-lane-preserved : goal.loop-lane-preserved
loop-lane-preserved c =
    let lane = c.loop-lane.lane in
    let messages = c.loop-lane.messages in
    let message = c.write_node.new.out in
    let here = c.loop-lane.invariant in
    let room : lane * 65 + 65 ≤ length messages =
    omega (arith, here.len, c.loop-lane-test.true) in
    let one : (lane + 1) * 65 - lane * 65 ≡ 65 = omega arith in
    let long : length message ≡ 65 =
    c.write_node.auto.out
    ∙ length-between messages (lane * 65) ((lane + 1) * 65) (omega (arith, room)) ∙ one in
    record {
      len =
          length_written messages message (lane * 65) ((lane + 1) * 65 - lane * 65)
          (omega (arith, room, one)) (omega (arith, long, one)) ∙ here.len;
      each =
          messages_more 65 lane messages message room long
          (λ k. 1 ∷ slice_index_or c.args.children.now (2 * k) []
          ++ slice_index_or c.args.children.now (2 * k + 1) []) here.each c.write_node.ensures;
    }
