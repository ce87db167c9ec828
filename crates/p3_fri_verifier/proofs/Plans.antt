-- The log arities of a schedule, and the heights that it is made for; and the openings of as many
-- commitments as are claimed.
use Rattle.std.proofs.Common.{◌≡◌, ◌↔◌, ℕ, ◌<◌, ◌∙◌, List, [], ◌∷◌, length, inl, inr, sym, ap, subst, arith}
use Rattle.std.specs.Prelude.{All}
use Rattle.std.proofs.lemmas.Bool.Decides.{leb_tells}
use Rattle.std.proofs.lemmas.List.{length-map}
use Rattle.std.proofs.lemmas.List.Sums.{get_or-le-sum_by}
use Rattle.p3_mmcs.specs.declared.openings.CommitmentOpening.{CommitmentOpening}
use Rattle.p3_fri_folding.specs.Schedule.{schedule, tallest, LeadsDown}
use Rattle.p3_fri_folding.proofs.Rounds.{schedule-nil, schedule-low}
use Rattle.p3_fri_relation.specs.declared.error.FriError.{FriError}
use Rattle.p3_fri_relation.specs.declared.proof.BatchMultiOpening.{BatchMultiOpening}
use Rattle.p3_fri_relation.specs.Views.{claims_of, inputs_opened}
use Rattle.p3_fri_verifier.specs.Counts.{HasInputs, InputCountFault}
use Rattle.p3_fri_inputs.specs.Claims.{claim_of}

-- the rounds of a schedule are within its tallest height, whatever its final height and its cap
pub small_rounds : (heights : List ℕ) (final cap : ℕ) (rounds : List ℕ) → rounds ≡ schedule heights final cap
    → (final < tallest heights → LeadsDown heights final rounds) → tallest heights < 64
    → All (λ a. a < 64) rounds
small_rounds [] final cap rounds is leads low k d within =
    absurd (omega (arith, within, ap length (is ∙ schedule-nil final cap)))
small_rounds (top ∷ further) final cap rounds is leads low k d within = elim (leb_tells top final) [
  | inl w ↦ absurd (omega (arith, within, ap length (is ∙ schedule-low top further final cap w.1)))
  | inr w ↦ (
      let bound = get_or-le-sum_by (λ r. r) rounds k d within in
      let whole = (leads w.1).total in omega (arith, bound, whole, low))
]

-- openings by the number of claims, as values and as lists
module _ {F M Com Data Path Err E InCom Domain : Type 0} (log_size : Domain → ℕ) (num_queries : ℕ)
    (claims : List (CommitmentOpening E InCom Domain)) {given inputs : List (BatchMultiOpening F M Com Data Path Err)}
    (same : given ≡ inputs) where
  as_claimed : length claims ≡ length (claims_of log_size claims)
  as_claimed = sym (length-map claims (claim_of log_size))

  pub inputs_claimed : HasInputs num_queries (length claims) (inputs_opened given)
      ↔ HasInputs num_queries (length (claims_of log_size claims)) (inputs_opened inputs)
  inputs_claimed = (
    (λ h. subst (λ (n : ℕ). HasInputs num_queries n (inputs_opened inputs)) as_claimed
        (subst (λ os. HasInputs num_queries (length claims) (inputs_opened os)) same h)),
    (λ h. subst (λ os. HasInputs num_queries (length claims) (inputs_opened os)) (sym same)
        (subst (λ (n : ℕ). HasInputs num_queries n (inputs_opened inputs)) (sym as_claimed) h)),
  )

  pub fault_claimed : {A B : Type 0} (e : FriError A B) → InputCountFault num_queries (length claims) (inputs_opened given) e
      → InputCountFault num_queries (length (claims_of log_size claims)) (inputs_opened inputs) e
  fault_claimed e h =
      subst (λ (n : ℕ). InputCountFault num_queries n (inputs_opened inputs) e) as_claimed
      (subst (λ os. InputCountFault num_queries (length claims) (inputs_opened os) e) same h)
