-- The values of the committed polynomials are values for each point, and what is opened with them.
use Rattle.std.proofs.Common.{◌≡◌, ℕ, List, [], ◌∷◌, length, map, refl, ap, ap₂}
use Rattle.std.proofs.lemmas.List.{length-map}
use Rattle.std.specs.List.{AllZip}
use Rattle.algebra.specs.Nested.{lists}
use Rattle.algebra.proofs.Lists.{Each, All_from_each}
use Rattle.p3_matrix.specs.declared.dense.RowMajorMatrix.{RowMajorMatrix}
use Rattle.p3_matrix.specs.Matrix.{matrix_width}
use Rattle.p3_pcs.specs.Claims.{zip_with}
use Rattle.p3_fri_relation.specs.Setting.{Fields}
use Rattle.p3_fri_openings.specs.declared.round.OpeningRound.{OpeningRound}
use Rattle.p3_fri_openings.specs.Committed.{committed_values}
use Rattle.p3_fri_openings.specs.Opened.{values_asked}
use Rattle.p3_fri_openings.specs.Rounds.{ask}
use Rattle.p3_fri_openings.proofs.Committed.{width_of_values}
use Rattle.p3_pcs.specs.Claims.{point_claims}
use Rattle.p3_fri_batch.specs.Words.{claim_at}
use Rattle.p3_fri_batch.specs.Rounds.{HasValues, HaveValues, opened_at, opened_by_round}
use Rattle.p3_fri_batch.specs.Rounds.{opened_honestly}

claims_of_values : {E : Type 0} (g : E → List E) (zs : List E)
    → point_claims zs (map g zs) ≡ map (λ z. claim_at z (g z)) zs
claims_of_values g [] = refl
claims_of_values g (z ∷ zs) = ap (λ cs. claim_at z (g z) ∷ cs) (claims_of_values g zs)

module _ {F E : Type 0} (f : Fields F E) (log_blowup : ℕ) where
  -- the values of a matrix's polynomials, and the matrix opened with them
  abbrev pub values_there : RowMajorMatrix F → (points : List E) → List (List E)
  values_there matrix points = map (committed_values f log_blowup matrix) points

  round_opened : (matrices : List (RowMajorMatrix F)) (points : List (List E))
      → zip_with opened_at (zip_with ask matrices points) (zip_with values_there matrices points)
      ≡ zip_with (opened_honestly f log_blowup) matrices points
  round_opened [] points = refl
  round_opened (m ∷ matrices) [] = refl
  round_opened (m ∷ matrices) (zs ∷ points) =
      ap₂ (λ cs os. record { matrix = m; claims = cs } ∷ os)
      (claims_of_values (committed_values f log_blowup m) zs) (round_opened matrices points)

  -- by round
  pub rounds_opened : (rounds : List (OpeningRound F E))
      → opened_by_round rounds (map (values_asked f log_blowup) rounds)
      ≡ map (λ r. zip_with (opened_honestly f log_blowup) r.matrices.now (lists r.points.now)) rounds
  rounds_opened [] = refl
  rounds_opened (r ∷ rounds) =
      ap₂ (λ os oss. os ∷ oss) (round_opened r.matrices.now (lists r.points.now))
      (rounds_opened rounds)

  widths_of_values : (matrix : RowMajorMatrix F) (points : List E)
      → Each (λ ys. length ys ≡ matrix_width matrix) (values_there matrix points)
  widths_of_values matrix [] = tt
  widths_of_values matrix (z ∷ points) =
      (width_of_values f log_blowup matrix z, widths_of_values matrix points)

  round_has_values : (matrices : List (RowMajorMatrix F)) (points : List (List E))
      → AllZip HasValues (zip_with ask matrices points) (zip_with values_there matrices points)
  round_has_values [] points = tt
  round_has_values (m ∷ matrices) [] = tt
  round_has_values (m ∷ matrices) (zs ∷ points) = (
    record {
      counts = length-map zs (committed_values f log_blowup m);
      widths = All_from_each (λ ys. length ys ≡ matrix_width m) (values_there m zs)
          (widths_of_values m zs);
    },
    round_has_values matrices points,
  )

  -- there are values for each point of each matrix
  pub rounds_have_values : (rounds : List (OpeningRound F E))
      → AllZip HaveValues rounds (map (values_asked f log_blowup) rounds)
  rounds_have_values [] = tt
  rounds_have_values (r ∷ rounds) =
      (round_has_values r.matrices.now (lists r.points.now), rounds_have_values rounds)
