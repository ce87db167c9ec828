use Rattle.std.proofs.Common.{◌*◌, ◌%◌, ◌^◌, refl, mod-lt, pow_pos}
use Rattle.std.specs.Prelude.{replicate}
use Rattle.sha256_lanes.proofs.Lanewise.{zipped_eight, zipped_small, splat_at}
use Rattle.sha256_lanes.proofs.words.operations.shifted_left.Goals as goal

pub invariant_of-result : goal.invariant_of-result
invariant_of-result c = record {
  eight = zipped_eight (λ n k. n * 2 ^ k % 2 ^ 32) c.args.x.lanes (replicate 8 c.args.bits) c.args.x.eight refl;
  small = zipped_small (λ n k. n * 2 ^ k % 2 ^ 32) c.args.x.lanes (replicate 8 c.args.bits) c.args.x.eight refl
      (λ l lt. mod-lt _ (pow_pos 32));
}

pub returns : goal.returns
returns c = splat_at (λ n k. n * 2 ^ k % 2 ^ 32) c.args.x.lanes c.args.bits c.args.x.eight
