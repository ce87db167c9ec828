use Rattle.std.proofs.Common.{◌<◌, ◌*◌, ◌^◌, arith, sym, ap, ◌∙◌, ◌++◌, ◌∷◌, []}
use Rattle.algebra.specs.Polynomial.{tabulate}
use Rattle.algebra.proofs.Lists.{tabulate-next}
use Rattle.p3_mmcs.specs.Batch.{max_height, dimensions_of}
use Rattle.p3_mmcs.specs.Tree.{leaf_at}
use Rattle.p3_mmcs.proofs.Heights.{max_height-power, power_half, power_some}
use Rattle.p3_mmcs.proofs.Trees.{tabulate_more}
use Rattle.p3_mmcs.proofs.sha256_mmcs.tree.leaves_by_eights.Goals as goal

pub overflow_sub-height : goal.overflow_sub-height
overflow_sub-height g c =
    omega (
      arith,
      c.requires.greatest,
      power_some _
          (max_height-power (dimensions_of c.args.matrices.now) c.requires.heights),
    )

pub overflow_add-height : goal.overflow_add-height
overflow_add-height g c =
    let greatest = max_height (dimensions_of c.args.matrices.now) in
    let fits : greatest < 2 ^ 64 = omega (arith, c.requires.greatest, c.ranges.height) in
    let half = power_half greatest
    (max_height-power (dimensions_of c.args.matrices.now) c.requires.heights) fits in
    omega (arith, c.requires.greatest, half)

pub loop-group-preserved : goal.loop-group-preserved
loop-group-preserved g c =
    let leaves = leaf_at g.T.ElementBytes.bytes c.args.matrices.now in
    c.in_ok-extend_from_slice.ensures.items
    ∙ ap (λ ds. ds ++ c.as_slice.result.now) c.loop-group.invariant
    ∙ ap (λ ds. tabulate (8 * c.loop-group.group) leaves ++ ds) c.as_slice.ensures
    ∙ tabulate_more (8 * c.loop-group.group) 8 leaves c.leaf_digests_of_eight-eight.result []
    (omega arith) c.leaf_digests_of_eight-eight.ensures
    ∙ ap (λ n. tabulate n leaves) (omega arith)

pub loop-index-preserved : goal.loop-index-preserved
loop-index-preserved g c =
    c.in_ok-push.ensures.items
    ∙ ap (λ ds. ds ++ c.leaf_digest_through.result ∷ []) c.loop-index.invariant
    ∙ ap (λ d. tabulate c.loop-index.index (leaf_at g.T.ElementBytes.bytes c.args.matrices.now)
    ++ d ∷ []) c.leaf_digest_through.ensures
    ∙ sym (tabulate-next c.loop-index.index (leaf_at g.T.ElementBytes.bytes c.args.matrices.now))
