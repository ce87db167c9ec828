use Rattle.std.proofs.Common.{All, get_or, take, ℕ, ◌++◌, ◌≡◌}
use Rattle.p3_fri_inputs.proofs.Places.{HoldsBelow}
use Rattle.p3_fri_inputs.specs.Claims.{IsApart, claim_of, distances}
use Rattle.p3_fri_relation.specs.Views.{claims_of}
use Rattle.std.specs.List.{flat_map}
use Rattle.p3_fri_inputs.proofs.points.push_claims.Given as goal

abbrev pub invariant-loop-batch : goal.invariant-loop-batch
invariant-loop-batch g l =
    let x = λ (h : ℕ). g.EF.ExtensionField.lift (get_or l.read h g.F.Field.ops.zero) in record {
      apart : HoldsBelow (claim_of (λ domain. domain.log_size)) (λ c. All (IsApart l.log_blowup x) c.matrices) l.claims
          l.batch;
      pushed : l.differences.items ≡ l.fn.differences.items
          ++ flat_map (λ c. distances g.EF.Field.ops l.log_blowup x c.matrices)
          (take l.batch (claims_of (λ domain. domain.log_size) l.claims));
    }
