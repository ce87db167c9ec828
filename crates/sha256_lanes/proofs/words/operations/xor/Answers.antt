use Rattle.std.proofs.lemmas.Nat.{xor_lt}
use Rattle.sha256_lanes.proofs.Lanewise.{zipped_eight, zipped_small}
use Rattle.sha256_lanes.proofs.words.operations.xor.Goals as goal

pub invariant_of-result : goal.invariant_of-result
invariant_of-result c = record {
  eight = zipped_eight _ c.args.x.lanes c.args.y.lanes c.args.x.eight c.args.y.eight;
  small = zipped_small _ c.args.x.lanes c.args.y.lanes c.args.x.eight c.args.y.eight
      (λ l lt. xor_lt 32 _ _ (c.args.x.small l) (c.args.y.small l));
}
