use Rattle.std.proofs.Common.{◌≡◌, take}
use Rattle.algebra.specs.Nested.{nested}
use Rattle.p3_fri_pcs_transcript.specs.Counts.{counts_of_claims}
use Rattle.p3_fri_pcs_transcript.proofs.pcs_transcript.counts.count_claims.Given as goal

abbrev pub invariant-loop-claim : goal.invariant-loop-claim
invariant-loop-claim g l = nested l.counts.items ≡ counts_of_claims (take l.claim-index l.claims)
