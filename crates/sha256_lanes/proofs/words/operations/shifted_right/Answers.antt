use Rattle.std.proofs.Common.{◌<◌, slice_index, refl, subst, sym, arith}
use Rattle.std.specs.Prelude.{replicate}
use Rattle.std.proofs.lemmas.Nat.{shr_le}
use Rattle.sha256_lanes.proofs.Lanewise.{each_small, zipped_eight, splat_at}
use Rattle.sha256_lanes.proofs.words.operations.shifted_right.Goals as goal

pub invariant_of-result : goal.invariant_of-result
invariant_of-result c = record {
  eight = zipped_eight _ c.args.x.lanes (replicate 8 c.args.bits) c.args.x.eight refl;
  small = each_small _ (zipped_eight _ c.args.x.lanes (replicate 8 c.args.bits) c.args.x.eight refl)
      (λ l lt. subst (λ n. n < 4294967296) (sym (splat_at _ c.args.x.lanes c.args.bits c.args.x.eight l lt))
      (omega (arith, shr_le (slice_index c.args.x.lanes l) c.args.bits, c.args.x.small l)));
}

pub returns : goal.returns
returns c = splat_at _ c.args.x.lanes c.args.bits c.args.x.eight
