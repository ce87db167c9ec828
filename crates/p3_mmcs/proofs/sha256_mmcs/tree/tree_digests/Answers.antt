use Rattle.std.proofs.Common.{length, arith, ap, ◌∙◌}
use Rattle.algebra.proofs.Lists.{length-tabulate}
use Rattle.p3_mmcs.specs.Batch.{dimensions_of}
use Rattle.p3_mmcs.specs.Tree.{leaf_at}
use Rattle.p3_mmcs.proofs.Heights.{max_height-power, power_some}
use Rattle.p3_mmcs.proofs.Trees.{tree_over}
use Rattle.p3_mmcs.proofs.sha256_mmcs.tree.tree_digests.Goals as goal

pub push_parents-requires : goal.push_parents-requires
push_parents-requires g c = record {
  some =
      omega (
        arith,
        c.requires.greatest,
        power_some _
            (max_height-power (dimensions_of c.args.matrices.now) c.requires.heights),
      );
  leaves = ap length c.in_ok-digests.ensures
      ∙ length-tabulate c.args.height (leaf_at g.T.ElementBytes.bytes c.args.matrices.now);
}

pub returns : goal.returns
returns g c =
    tree_over (leaf_at g.T.ElementBytes.bytes c.args.matrices.now) c.args.height
    c.in_ok-digests.digests.items c.push_parents.new.digests.items c.in_ok-digests.ensures
    c.in_ok-push_parents.ensures
