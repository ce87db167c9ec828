use Rattle.std.proofs.Common.{◌≡◌}
use Rattle.algebra.specs.Polynomial.{tabulate}
use Rattle.p3_mmcs.specs.Tree.{leaf_at}
use Rattle.p3_mmcs.proofs.sha256_mmcs.tree.leaves_one_by_one.Given as goal

abbrev pub invariant-loop-index : goal.invariant-loop-index
invariant-loop-index g l = l.digests.items
    ≡ tabulate l.index (leaf_at g.T.ElementBytes.bytes l.matrices)
