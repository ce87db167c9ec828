use Rattle.std.proofs.Common.{◌≡◌, ◌≢◌, ◌++◌, map, take}
use Rattle.algebra.specs.Field.{sub}
use Rattle.p3_pcs.specs.Claims.{point_claim}
use Rattle.p3_fri_inputs.proofs.Places.{HoldsBelow}
use Rattle.p3_fri_inputs.proofs.points.push_distances.Given as goal

abbrev pub invariant-loop-k : goal.invariant-loop-k
invariant-loop-k g l =
    let x = g.EF.ExtensionField.lift l.fn.read in record {
      apart : HoldsBelow point_claim (λ z. z.point ≢ x) l.points l.k;
      pushed : l.differences.items ≡ l.fn.differences.items
          ++ map (λ z. sub g.EF.Field.ops z.point x) (take l.k (map point_claim l.points));
    }
