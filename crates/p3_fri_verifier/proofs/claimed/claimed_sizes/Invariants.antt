use Rattle.std.proofs.Common.{◌≡◌, ℕ, get_or, take, length, false}
use Rattle.p3_fri_verifier.specs.Claimed.{has_size}
use Rattle.p3_fri_verifier.proofs.claimed.claimed_sizes.Given as goal

abbrev pub invariant-loop-claim : goal.invariant-loop-claim
invariant-loop-claim g l = record {
  count : length l.sizes ≡ 64;
  so_far : (size : ℕ) → get_or l.sizes size false
      ≡ has_size (λ domain. domain.log_size) (take l.claim-index l.claims) size;
}
