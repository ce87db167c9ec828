-- What is accepted over a prover's parameters is in the verifier's range.
use Rattle.std.specs.Prelude.{◌≡◌, ◌≢◌, ◌<◌, ◌≤◌, ℕ, List, [], ◌∷◌, All}
use Rattle.std.proofs.Common.{refl, sym, subst, arith}
use Rattle.p3_fri_relation.specs.Setting.{Setting, Parameters, Proof, CommitmentClaim}
use Rattle.p3_fri_relation.specs.Setting.{final_height}
use Rattle.p3_fri_relation.specs.Acceptance.{Accepts}
use Rattle.p3_fri_relation.specs.Heights.{matrices_of, log_height}
use Rattle.p3_fri_two_adic.specs.Ranges.{InProverRange, InVerifierRange}
use Rattle.p3_fri_two_adic.proofs.Ranges.{in_verifier_range}

-- some matrix is within the two-adicity and as tall as the final word, which so is below 64
final_height_low : {A : Type 0} (final most : ℕ) (height : A → ℕ) (ms : List A) → most < 64
    → ms ≢ [] → All (λ m. final ≤ height m) ms → All (λ m. height m ≤ most) ms → final < 64
final_height_low final most height [] low some tall within = absurd (some refl)
final_height_low final most height (m ∷ ms) low some tall within =
    omega (arith, low, tall 0 m (omega arith), within 0 m (omega arith))

pub verifier_range : {F E C Com Path InCom InPath : Type 0}
    (s : Setting F E C Com Path InCom InPath) → s.fields.two_adicity < 64 → (p q : Parameters)
    → p ≡ q → (claims : List (CommitmentClaim E InCom)) (proof : Proof F E Com Path InPath) (c : C)
    → InProverRange p s.fields.two_adicity 63 → Accepts s q claims proof c
    → InVerifierRange p s.fields.two_adicity 63
verifier_range s low p q same claims proof c range holds =
    let accepts = subst (λ t. Accepts s t claims proof c) (sym same) holds in
    let within = accepts.accepts.instance_of.in_range in
    in_verifier_range p s.fields.two_adicity 63 range
    (final_height_low (final_height p) s.fields.two_adicity (log_height p.log_blowup)
    (matrices_of claims) low within.some_matrix within.tall_enough within.within_two_adicity)
