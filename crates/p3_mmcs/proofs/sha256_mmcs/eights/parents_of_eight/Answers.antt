use Rattle.std.proofs.Common.{◌≡◌, ◌≤◌, ◌<◌, ◌+◌, ◌-◌, ◌*◌, [], ◌∷◌, length, slice_index_or, arith}
use Rattle.std.proofs.Common.{ap, sym, subst, ◌∙◌}
use Rattle.std.proofs.lemmas.List.Edits.{length-between}
use Rattle.sha2.specs.Sha256.{sha256}
use Rattle.sha256_lanes.specs.Lanes.{message_of}
use Rattle.algebra.specs.Nested.{lists}
use Rattle.p3_mmcs.specs.Siblings.{children_of}
use Rattle.p3_mmcs.proofs.Buffers.{length_written, messages_more}
use Rattle.p3_mmcs.proofs.Eights.{parent_is}
use Rattle.p3_mmcs.proofs.Slices.{lists_read}
use Rattle.p3_mmcs.proofs.sha256_mmcs.eights.parents_of_eight.Goals as goal

pub bounds-path-level : goal.bounds-path-level
bounds-path-level c =
    let lane = c.loop-lane.lane in
    let path_is =
    lists_read c.args.paths.now lane c.index-paths-lane.result c.as_slice-path.result.now
    (omega (arith, c.loop-lane-test.true, c.requires.paths)) c.index-paths-lane.is
    c.as_slice-path.ensures.value in
    subst (λ path. c.args.level < length path) path_is
    (c.requires.level lane c.loop-lane-test.true)

pub loop-lane-preserved : goal.loop-lane-preserved
loop-lane-preserved c =
    let lane = c.loop-lane.lane in
    let messages = c.loop-lane.messages in
    let message = c.write_parent.new.out in
    let here = c.loop-lane.invariant in
    let path_is =
    lists_read c.args.paths.now lane c.index-paths-lane.result c.as_slice-path.result.now
    (omega (arith, c.loop-lane-test.true, c.requires.paths)) c.index-paths-lane.is
    c.as_slice-path.ensures.value in
    let room : lane * 65 + 65 ≤ length messages =
    omega (arith, here.len, c.loop-lane-test.true) in
    let one : (lane + 1) * 65 - lane * 65 ≡ 65 = omega arith in
    let long : length message ≡ 65 =
    c.write_parent.auto.out
    ∙ length-between messages (lane * 65) ((lane + 1) * 65) (omega (arith, room)) ∙ one in
    record {
      len =
          length_written messages message (lane * 65) ((lane + 1) * 65 - lane * 65)
          (omega (arith, room, one)) (omega (arith, long, one)) ∙ here.len;
      each =
          messages_more 65 lane messages message room long
          (λ k. 1 ∷ children_of (slice_index_or c.args.indices.now k 0)
          (slice_index_or c.args.digests.now k [])
          (slice_index_or (slice_index_or (lists c.args.paths.now) k []) c.args.level []))
          here.each
          (c.write_parent.ensures
          ∙ ap (λ path. 1 ∷ children_of (slice_index_or c.args.indices.now lane 0)
          (slice_index_or c.args.digests.now lane []) (slice_index_or path c.args.level []))
          (sym path_is));
    }

pub returns : goal.returns
returns c k l =
    c.digests_of_eight.ensures k l
    ∙ ap (λ ms. sha256 (message_of 65 k ms)) c.as_slice.ensures
    ∙ ap sha256 (c.loop-lane.invariant.each k (omega (arith, l, c.loop-lane-test.false)))
    ∙ parent_is (slice_index_or c.args.indices.now k 0) (slice_index_or c.args.digests.now k [])
    (slice_index_or (slice_index_or (lists c.args.paths.now) k []) c.args.level [])

pub offset_bounds-path-level : goal.offset_bounds-path-level
offset_bounds-path-level c = omega (arith, c.as_slice-path.type_inv, bounds-path-level c)
