-- The matrices of rounds with the values claimed at their points.
use Rattle.std.specs.Prelude.{◌≡◌, ℕ, List, length, All, map}
use Rattle.std.specs.List.{AllZip}
use Rattle.algebra.specs.Nested.{lists, joined}
use Rattle.p3_matrix.specs.Matrix.{matrix_width}
use Rattle.p3_matrix.specs.declared.dense.RowMajorMatrix.{RowMajorMatrix}
use Rattle.p3_pcs.specs.Claims.{zip_with}
use Rattle.p3_fri_openings.specs.declared.denominators.PointDenominators.{PointDenominators}
use Rattle.p3_fri_openings.specs.declared.round.OpeningRound.{OpeningRound}
use Rattle.p3_fri_openings.specs.Denominators.{HasPointsCovered}
use Rattle.p3_fri_openings.specs.Rounds.{Asked, HasCoset, asked_in}
use Rattle.p3_fri_openings.specs.Committed.{committed_values}
use Rattle.p3_fri_batch.specs.declared.opened.OpenedMatrix.{OpenedMatrix}
use Rattle.p3_pcs.specs.Claims.{point_claims}
use Rattle.p3_fri_batch.specs.Words.{Opened, claim_at}
use Rattle.p3_fri_relation.specs.Setting.{Fields}

module _ {F E : Type 0} where
  abbrev pub opened_at : Asked F E → (values : List (List E)) → Opened F E
  opened_at a values = record { matrix = a.matrix; claims = point_claims a.points values }

  -- the matrices of a round with these values, by matrix, point and column
  abbrev pub opened_in : OpeningRound F E → (values : List (List (List E))) → List (Opened F E)
  opened_in round values = zip_with opened_at (asked_in round) values

  -- by round
  abbrev pub opened_by_round : List (OpeningRound F E) → (values : List (List (List (List E))))
      → List (List (Opened F E))
  opened_by_round rounds values = zip_with opened_in rounds values

  -- those of all rounds, in order
  abbrev pub opened_of : List (OpeningRound F E) → (values : List (List (List (List E))))
      → List (Opened F E)
  opened_of rounds values = joined (opened_by_round rounds values)

  -- there are values for each point of a matrix, and at each one for each column
  pub record HasValues (a : Asked F E) (values : List (List E)) : Type 0 where
    pub counts : length values ≡ length a.points
    pub widths : All (λ ys. length ys ≡ matrix_width a.matrix) values

  abbrev pub HaveValues : OpeningRound F E → (values : List (List (List E))) → Type 0
  HaveValues round values = AllZip HasValues (asked_in round) values

  -- a matrix that is lent together with its points and values
  abbrev pub asked_of : OpenedMatrix F E → Asked F E
  asked_of m = record { matrix = m.matrix.now; points = m.points.now }

  abbrev pub as_opened : OpenedMatrix F E → Opened F E
  as_opened m = opened_at (asked_of m) (lists m.values.now)

  -- its quotients can be taken: it stands on a coset, and its values and inverse differences are at
  -- hand
  pub record IsReady (two_adicity : ℕ) (table : List (PointDenominators E)) (m : OpenedMatrix F E)
      : Type 0 where
    pub coset : HasCoset two_adicity m.matrix.now
    pub values : HasValues (asked_of m) (lists m.values.now)
    pub covered : HasPointsCovered table (asked_of m)

module _ {F E : Type 0} (f : Fields F E) (log_blowup : ℕ) where
  -- a matrix, opened at these points to its committed polynomials' values
  abbrev pub opened_honestly : RowMajorMatrix F → (points : List E) → Opened F E
  opened_honestly matrix points = record {
    matrix = matrix;
    claims = map (λ z. claim_at z (committed_values f log_blowup matrix z)) points;
  }
