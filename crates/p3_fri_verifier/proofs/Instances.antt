-- Parameters and claims are those of an instance where the parameters and the log heights are, each
-- by itself, and what is wrong with these is with the instance.
use Rattle.std.proofs.Common.{◌≡◌, ◌≢◌, ℕ, suc, ◌≤◌, List, [], ◌∷◌, length, refl, sym, ◌∙◌}
use Rattle.std.proofs.Common.{arith}
use Rattle.p3_fri_folding.specs.Schedule.{tallest, schedule}
use Rattle.p3_fri_relation.specs.declared.error.FriError.{FriError}
use Rattle.p3_fri_relation.specs.declared.error.FriError.TheVariants.{NoCommittedMatrices}
use Rattle.p3_fri_relation.specs.declared.error.FriError.TheVariants.{GlobalMaxHeightTooLarge}
use Rattle.p3_fri_relation.specs.declared.error.FriError.TheVariants.{FinalFoldHeightMismatch}
use Rattle.p3_fri_relation.specs.declared.error.FriError.TheVariants.{UnconsumedReducedOpenings}
use Rattle.p3_fri_relation.specs.Setting.{Parameters, MatrixClaim, CommitmentClaim, final_height}
use Rattle.p3_fri_relation.specs.Heights.{matrices_of, log_height, heights_of}
use Rattle.p3_fri_relation.specs.Heights.{heights_below}
use Rattle.p3_fri_relation.specs.Acceptance.{IsInRange, top_height, log_arities}
use Rattle.p3_fri_relation.specs.Faults.{InstanceFault}
use Rattle.p3_fri_verifier.specs.Claimed.{ArePositive, AreHeightsInRange, HeightFault}
use Rattle.p3_fri_relation.proofs.ClaimedHeights.{greatest_height-bounds, has_height-greatest}
use Rattle.p3_fri_relation.proofs.ClaimedHeights.{some_has_height, heights_below-fall}
use Rattle.p3_fri_relation.proofs.ClaimedHeights.{strictly_falling, heights_of-first}
use Rattle.p3_fri_relation.proofs.ClaimedHeights.{heights_of-tallest}
use Rattle.p3_fri_verifier.proofs.Heights.{all_from_heights, all_to_heights}
use Rattle.p3_fri_verifier.proofs.LowHeights.{unconsumed, no_rounds}

none_without_matrices : {E : Type 0} (b : ℕ) (ms : List (MatrixClaim E)) → ms ≡ [] → heights_of b ms ≡ []
none_without_matrices b ms e = rw e refl

no_matrices : {E : Type 0} (b : ℕ) (ms : List (MatrixClaim E)) → heights_of b ms ≡ [] → ms ≡ []
no_matrices b [] none = refl
no_matrices b (m ∷ ms) none = let first = heights_of-first b (m ∷ ms) (λ e. cc) in cc

module _ {E InCom : Type 0} (p : Parameters) (claims : List (CommitmentClaim E InCom)) (two_adicity : ℕ) where
  abbrev matrices : List (MatrixClaim E)
  matrices = matrices_of claims

  module _ (heights : List ℕ) (are : heights ≡ heights_of p.log_blowup (matrices_of claims)) (bound : ℕ) (is_bound : bound ≡ two_adicity) where
    tallest-is : tallest heights ≡ top_height p claims
    tallest-is = rw are (heights_of-tallest p.log_blowup matrices)

    pub heights_from : IsInRange p claims two_adicity → AreHeightsInRange (final_height p) bound heights
    heights_from ranged = record {
      some_height = λ none. ranged.some_matrix (no_matrices p.log_blowup matrices (sym are ∙ none));
      within_two_adicity = within;
      tall_enough = rw are (all_to_heights p.log_blowup matrices (λ h. final_height p ≤ h) ranged.tall_enough);
    }
      where
        within : tallest heights ≤ bound
        within =
            let some = some_has_height p.log_blowup matrices (top_height p claims) (has_height-greatest p.log_blowup matrices ranged.some_matrix) in
            let high : log_height p.log_blowup some.1 ≤ two_adicity = rw some.3 at (ranged.within_two_adicity some.0 some.1 some.2) in
            let read = some.4 in
            omega (arith, tallest-is, read, high, is_bound)

    pub range_from : ArePositive p → AreHeightsInRange (final_height p) bound heights → IsInRange p claims two_adicity
    range_from positive ranged = record {
      queries = positive.queries;
      blowup = positive.blowup;
      cap = positive.cap;
      some_matrix = λ none. ranged.some_height (are ∙ none_without_matrices p.log_blowup matrices none);
      tall_enough = all_from_heights p.log_blowup matrices (λ h. final_height p ≤ h) (rw are at ranged.tall_enough);
      within_two_adicity = λ k d within. omega (arith, greatest_height-bounds p.log_blowup matrices k d within, ranged.within_two_adicity, tallest-is, is_bound);
    }

    -- the rounds of the schedule are those of these heights
    rounds-are : log_arities p claims ≡ schedule heights (final_height p) p.max_log_arity
    rounds-are = rw are refl

    pub height_fault : {A B : Type 0} (e : FriError A B) → HeightFault (final_height p) bound heights e → InstanceFault p claims two_adicity e
    height_fault NoCommittedMatrices none = no_matrices p.log_blowup matrices (sym are ∙ none)
    height_fault (GlobalMaxHeightTooLarge top greatest) (top_is, greatest_is, above) = (top_is ∙ tallest-is, greatest_is ∙ is_bound, above)
    height_fault (FinalFoldHeightMismatch expected got) (expected_is, got_is, low) =
        let none : log_arities p claims ≡ [] = rounds-are ∙ no_rounds heights (final_height p) p.max_log_arity (omega (arith, expected_is, got_is, low)) in
        record {
          expected_is = expected_is;
          got_is = rw none (omega (arith, got_is, tallest-is));
          differ = λ same. omega (arith, same, low);
        }
    height_fault (UnconsumedReducedOpenings next remaining) (place, after, left, first) =
        let b = p.log_blowup in
        let some : matrices_of claims ≢ [] = (λ none. absurd (no_place (are ∙ none_without_matrices b matrices none))) in
        let top = top_height p claims in
        let falls = heights_below-fall b matrices top in
        rw (← are) (unconsumed heights top (heights_below b matrices top) (final_height p) p.max_log_arity place next remaining
        (are ∙ heights_of-first b matrices some)
        (strictly_falling (suc top) (top ∷ heights_below b matrices top) (omega arith, falls)) falls after left first)
      where
        no_place : heights ≡ [] → ⊥
        no_place none = let l : length heights ≡ 0 = rw none refl in omega (arith, l, first.within)
    height_fault _ fault = absurd fault
