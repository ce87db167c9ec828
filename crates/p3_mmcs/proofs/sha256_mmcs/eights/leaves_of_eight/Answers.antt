use Rattle.std.proofs.Common.{arith, sym, ap, ◌∙◌, slice_index_or, []}
use Rattle.std.proofs.lemmas.List.{length-set}
use Rattle.algebra.specs.Nested.{nested}
use Rattle.p3_mmcs.specs.Tree.{leaf}
use Rattle.p3_mmcs.proofs.Eights.{entries_more}
use Rattle.p3_mmcs.proofs.Slices.{nested_read}
use Rattle.p3_mmcs.proofs.sha256_mmcs.eights.leaves_of_eight.Goals as goal

pub loop-lane-preserved : goal.loop-lane-preserved
loop-lane-preserved g c =
    let lane = c.loop-lane.lane in
    let bytes = g.T.ElementBytes.bytes in
    let sets = c.args.opened_values.now in
    let here = c.loop-lane.invariant in
    let set_is =
    nested_read sets lane c.index-opened_values-lane.result c.as_slice-rows.result.now
    (omega (arith, c.loop-lane-test.true, c.requires)) c.index-opened_values-lane.is
    c.as_slice-rows.ensures.value in
    record {
      eight = length-set c.loop-lane.leaves lane c.leaf_digest.result ∙ here.eight;
      each =
          entries_more (λ k. leaf bytes (slice_index_or (nested sets) k []))
          c.loop-lane.leaves lane c.leaf_digest.result []
          (omega (arith, c.loop-lane-test.true, here.eight)) here.each
          (c.leaf_digest.ensures ∙ ap (leaf bytes) (sym set_is));
    }
