use Rattle.std.proofs.Common.{◌≡◌, ◌*◌}
use Rattle.algebra.specs.Polynomial.{tabulate}
use Rattle.p3_mmcs.specs.Tree.{leaf_at}
use Rattle.p3_mmcs.proofs.sha256_mmcs.tree.leaves_by_eights.Given as goal

abbrev pub invariant-loop-group : goal.invariant-loop-group
invariant-loop-group g l = l.digests.items
    ≡ tabulate (8 * l.group) (leaf_at g.T.ElementBytes.bytes l.matrices)

abbrev pub invariant-loop-index : goal.invariant-loop-index
invariant-loop-index g l = l.digests.items
    ≡ tabulate l.index (leaf_at g.T.ElementBytes.bytes l.matrices)
