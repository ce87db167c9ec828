use Rattle.std.proofs.Common.{◌<◌, ◌^◌, arith, sym, ap, ◌∙◌, ◌++◌, ◌∷◌, []}
use Rattle.algebra.specs.Polynomial.{tabulate}
use Rattle.algebra.proofs.Lists.{tabulate-next}
use Rattle.p3_mmcs.specs.Batch.{max_height, dimensions_of}
use Rattle.p3_mmcs.specs.Tree.{leaf_at}
use Rattle.p3_mmcs.proofs.Heights.{max_height-power, power_half, power_some}
use Rattle.p3_mmcs.proofs.sha256_mmcs.tree.leaves_one_by_one.Goals as goal

pub overflow_sub-height : goal.overflow_sub-height
overflow_sub-height g c =
    omega (
      arith,
      c.requires.greatest,
      power_some _
          (max_height-power (dimensions_of c.args.matrices.now) c.requires.heights),
    )

pub overflow_add-height : goal.overflow_add-height
overflow_add-height g c =
    let greatest = max_height (dimensions_of c.args.matrices.now) in
    let fits : greatest < 2 ^ 64 = omega (arith, c.requires.greatest, c.ranges.height) in
    let half = power_half greatest
    (max_height-power (dimensions_of c.args.matrices.now) c.requires.heights) fits in
    omega (arith, c.requires.greatest, half)

pub loop-index-preserved : goal.loop-index-preserved
loop-index-preserved g c =
    c.in_ok-push.ensures.items
    ∙ ap (λ ds. ds ++ c.leaf_digest_at.result ∷ []) c.loop-index.invariant
    ∙ ap (λ d. tabulate c.loop-index.index (leaf_at g.T.ElementBytes.bytes c.args.matrices.now)
    ++ d ∷ []) c.leaf_digest_at.ensures
    ∙ sym (tabulate-next c.loop-index.index (leaf_at g.T.ElementBytes.bytes c.args.matrices.now))
