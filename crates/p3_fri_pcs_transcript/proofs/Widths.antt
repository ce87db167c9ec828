-- The numbers of values are the lengths of their lists.
use Rattle.std.proofs.Common.{◌≡◌, ℕ, List, [], ◌∷◌, ◌++◌, length, map, refl, sym, ap, ap₂, ◌∙◌, Vec, Global}
use Rattle.std.proofs.lemmas.List.{map-append}
use Rattle.algebra.specs.Nested.{lists, joined}
use Rattle.p3_mmcs.specs.declared.openings.PointOpening.{PointOpening}
use Rattle.p3_mmcs.specs.declared.openings.MatrixOpening.{MatrixOpening}
use Rattle.p3_mmcs.specs.declared.openings.CommitmentOpening.{CommitmentOpening}
use Rattle.p3_fri_pcs_transcript.specs.Counts.{counts_at_points, counts_in_matrices, counts_of_values, lists_in_matrices, lists_of_values, claimed_at_points, claimed_in_matrices, counts_of_claims, claimed_lists_at_points, claimed_lists_in_matrices, lists_of_claims}
use Rattle.p3_fri_pcs_transcript.specs.Steps.{widths}

-- the lengths of lists, and of more
lengths_both : {E : Type 0} (counts others : List ℕ) (first left : List (List E)) → counts ≡ map length first → others ≡ map length left → counts ++ others ≡ map length (first ++ left)
lengths_both counts others first left is are = ap₂ (λ (a b : List ℕ). a ++ b) is are ∙ sym (map-append length first left)

module _ {E : Type 0} where
  points_counted : (points : List (Vec E Global)) → counts_at_points points ≡ map length (lists points)
  points_counted [] = refl
  points_counted (p ∷ ps) = ap (λ counts. length p.items ∷ counts) (points_counted ps)

  matrices_counted : (matrices : List (Vec (Vec E Global) Global)) → joined (counts_in_matrices matrices) ≡ map length (lists_in_matrices matrices)
  matrices_counted [] = refl
  matrices_counted (m ∷ ms) = lengths_both _ _ (lists m.items) (lists_in_matrices ms) (points_counted m.items) (matrices_counted ms)

  pub values_counted : (commitments : List (Vec (Vec (Vec E Global) Global) Global)) → widths (counts_of_values commitments) ≡ map length (lists_of_values commitments)
  values_counted [] = refl
  values_counted (c ∷ cs) = lengths_both _ _ (lists_in_matrices c.items) (lists_of_values cs) (matrices_counted c.items) (values_counted cs)

  claimed_points_counted : (points : List (PointOpening E)) → claimed_at_points points ≡ map length (claimed_lists_at_points points)
  claimed_points_counted [] = refl
  claimed_points_counted (p ∷ ps) = ap (λ counts. length p.values.items ∷ counts) (claimed_points_counted ps)

  module _ {Domain : Type 0} where
    claimed_matrices_counted : (matrices : List (MatrixOpening E Domain)) → joined (claimed_in_matrices matrices) ≡ map length (claimed_lists_in_matrices matrices)
    claimed_matrices_counted [] = refl
    claimed_matrices_counted (m ∷ ms) = lengths_both _ _ (claimed_lists_at_points m.points.items) (claimed_lists_in_matrices ms) (claimed_points_counted m.points.items) (claimed_matrices_counted ms)

    pub claims_counted : {Com : Type 0} (claims : List (CommitmentOpening E Com Domain)) → widths (counts_of_claims claims) ≡ map length (lists_of_claims claims)
    claims_counted [] = refl
    claims_counted (c ∷ cs) = lengths_both _ _ (claimed_lists_in_matrices c.matrices.items) (lists_of_claims cs) (claimed_matrices_counted c.matrices.items) (claims_counted cs)
