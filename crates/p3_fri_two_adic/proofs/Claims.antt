-- Refusals that leave a verifier's challenger.
use Rattle.std.proofs.Common.{◌≡◌, Result, Ok, Err, refl}
use Rattle.std.specs.Prelude.{IfErr}
use Rattle.p3_fri_folding.specs.declared.pow_phase.PowPhase.{PowPhase}
use Rattle.p3_fri_relation.specs.declared.error.FriError.{FriError}
use Rattle.p3_fri_relation.specs.declared.error.FriError.TheVariants.{NonCanonicalPowWitness}
use Rattle.p3_fri_opening_verifier.specs.Accepted.{LeavesVerifier}

-- what holds where a refusal names a witness holds of the refusals that leave the challenger
pub unmoved_from : {A B X : Type 0} (result : Result Unit (FriError A B))
    → ((phase : PowPhase) → result ≡ Err (NonCanonicalPowWitness phase) → X)
    → IfErr result (λ e. LeavesVerifier e → X)
unmoved_from (Ok v) f = tt
unmoved_from (Err (NonCanonicalPowWitness phase)) f = λ leaves. f phase refl
unmoved_from (Err _) f = λ leaves. absurd leaves
