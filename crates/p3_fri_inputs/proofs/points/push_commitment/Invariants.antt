use Rattle.p3_fri_inputs.proofs.Places.{HoldsBelow}
use Rattle.p3_fri_inputs.specs.Claims.{IsApart, claim_of, distances}
use Rattle.std.proofs.Common.{get_or, take, ℕ, ◌++◌, ◌≡◌}
use Rattle.p3_fri_relation.specs.Views.{matrix_claim}
use Rattle.p3_fri_inputs.proofs.points.push_commitment.Given as goal

abbrev pub invariant-loop-k : goal.invariant-loop-k
invariant-loop-k g l =
    let x = λ (h : ℕ). g.EF.ExtensionField.lift (get_or l.read h g.F.Field.ops.zero) in record {
      apart : HoldsBelow (matrix_claim (λ domain. domain.log_size)) (IsApart l.log_blowup x) l.claim.matrices.items l.k;
      pushed : l.differences.items ≡ l.fn.differences.items
          ++ distances g.EF.Field.ops l.log_blowup x (take l.k (claim_of (λ domain. domain.log_size) l.claim).matrices);
    }
