-- Claims as the transcript around the test sees them, and that transcript's replay by its two parts.
use Rattle.std.proofs.Common.{◌≡◌, ℕ, List, [], ◌∷◌, ◌++◌, length, map, refl, sym, ap, ◌∙◌}
use Rattle.std.specs.List.{flat_map}
use Rattle.std.proofs.lemmas.Grind.{flat_map-append}
use Rattle.p3_fri_relation.specs.Heights.{matrices_of}
use Rattle.algebra.specs.Nested.{joined}
use Rattle.p3_mmcs.specs.declared.openings.PointOpening.{PointOpening}
use Rattle.p3_mmcs.specs.declared.openings.MatrixOpening.{MatrixOpening}
use Rattle.p3_mmcs.specs.declared.openings.CommitmentOpening.{CommitmentOpening}
use Rattle.p3_fri_pcs_transcript.specs.Counts.{counts_of_claims, claimed_at_points}
use Rattle.p3_fri_pcs_transcript.specs.Counts.{claimed_in_matrices, all_claimed}
use Rattle.p3_fri_pcs_transcript.specs.Counts.{claimed_lists_at_points, claimed_lists_in_matrices}
use Rattle.p3_fri_pcs_transcript.specs.Counts.{lists_of_claims}
use Rattle.p3_fri_relation.specs.Setting.{Parameters}
use Rattle.p3_fri_relation.specs.Acceptance.{pcs_numbers, values_claimed}
use Rattle.p3_pcs.specs.Claims.{point_claim}
use Rattle.p3_fri_relation.specs.Views.{matrix_claim, claims_of}

module _ {E : Type 0} where
  counts-at_points : (points : List (PointOpening E)) → map (λ z. length z.values) (map point_claim points) ≡ claimed_at_points points
  counts-at_points [] = refl
  counts-at_points (z ∷ points) = ap (λ rest. length z.values.items ∷ rest) (counts-at_points points)

  values-at_points : (points : List (PointOpening E)) → flat_map (λ z. z.values) (map point_claim points) ≡ joined (claimed_lists_at_points points)
  values-at_points [] = refl
  values-at_points (z ∷ points) = ap (λ rest. z.values.items ++ rest) (values-at_points points)

module _ {E Domain : Type 0} (log_size : Domain → ℕ) where
  counts-in_matrices : (matrices : List (MatrixOpening E Domain))
      → map (λ m. map (λ z. length z.values) m.points) (map (matrix_claim log_size) matrices) ≡ claimed_in_matrices matrices
  counts-in_matrices [] = refl
  counts-in_matrices (m ∷ matrices) =
      ap (λ first. first ∷ map (λ o. map (λ z. length z.values) o.points) (map (matrix_claim log_size) matrices)) (counts-at_points m.points.items)
      ∙ ap (λ rest. claimed_at_points m.points.items ∷ rest) (counts-in_matrices matrices)

  values-in_matrices : (matrices : List (MatrixOpening E Domain))
      → flat_map (λ m. flat_map (λ z. z.values) m.points) (map (matrix_claim log_size) matrices) ≡ joined (claimed_lists_in_matrices matrices)
  values-in_matrices [] = refl
  values-in_matrices (m ∷ matrices) =
      ap (λ first. first ++ flat_map (λ o. flat_map (λ z. z.values) o.points) (map (matrix_claim log_size) matrices)) (values-at_points m.points.items)
      ∙ ap (λ rest. joined (claimed_lists_at_points m.points.items) ++ rest) (values-in_matrices matrices)
      ∙ sym (flat_map-append (λ part. part) (claimed_lists_at_points m.points.items) (claimed_lists_in_matrices matrices))

module _ {E InCom Domain : Type 0} (log_size : Domain → ℕ) where
  -- the counts that the transcript is bound to are those of the claims
  pub counts-of_claims : (p : Parameters) (claims : List (CommitmentOpening E InCom Domain))
      → (pcs_numbers p (claims_of log_size claims)).counts ≡ counts_of_claims claims
  counts-of_claims p [] = refl
  counts-of_claims p (c ∷ claims) =
      ap (λ first. first ∷ (pcs_numbers p (claims_of log_size claims)).counts) (counts-in_matrices log_size c.matrices.items)
      ∙ ap (λ rest. claimed_in_matrices c.matrices.items ∷ rest) (counts-of_claims p claims)

  -- and so are the values that it absorbs
  pub values-of_claims : (claims : List (CommitmentOpening E InCom Domain))
      → values_claimed (claims_of log_size claims) ≡ all_claimed claims
  values-of_claims [] = refl
  values-of_claims (c ∷ claims) =
      flat_map-append (λ m. flat_map (λ z. z.values) m.points) (map (matrix_claim log_size) c.matrices.items) (matrices_of (claims_of log_size claims))
      ∙ ap (λ first. first ++ values_claimed (claims_of log_size claims)) (values-in_matrices log_size c.matrices.items)
      ∙ ap (λ rest. joined (claimed_lists_in_matrices c.matrices.items) ++ rest) (values-of_claims claims)
      ∙ sym (flat_map-append (λ part. part) (claimed_lists_in_matrices c.matrices.items) (lists_of_claims claims))
