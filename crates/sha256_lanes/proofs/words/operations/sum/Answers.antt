use Rattle.std.proofs.Common.{mod-lt, pow_pos}
use Rattle.sha256_lanes.proofs.Lanewise.{zipped_eight, zipped_small}
use Rattle.sha256_lanes.proofs.words.operations.sum.Goals as goal

pub invariant_of-result : goal.invariant_of-result
invariant_of-result c = record {
  eight = zipped_eight _ c.args.x.lanes c.args.y.lanes c.args.x.eight c.args.y.eight;
  small = zipped_small _ c.args.x.lanes c.args.y.lanes c.args.x.eight c.args.y.eight (λ l lt. mod-lt _ (pow_pos 32));
}
