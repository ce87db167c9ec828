-- Requests to open committed data, and what is opened for them.
use Rattle.std.specs.Prelude.{◌≡◌, ◌≢◌, ℕ, List, [], length, All}
use Rattle.p3_matrix.specs.declared.dense.RowMajorMatrix.{RowMajorMatrix}
use Rattle.p3_pcs.specs.Claims.{zip_with}
use Rattle.p3_pcs.specs.Requests.{Request}
use Rattle.p3_fri_relation.specs.Setting.{Fields, Parameters}
use Rattle.p3_fri_openings.specs.Rounds.{HasCoset, ask}
use Rattle.p3_fri_openings.specs.Refusals.{AreTallEnough, HasPointsOff}
use Rattle.p3_fri_openings.specs.Held.{HoldsWords}
use Rattle.p3_fri_batch.specs.Words.{Opened}
use Rattle.p3_fri_batch.specs.Rounds.{opened_honestly}

-- where data is committed to as these matrices
module _ {F E D : Type 0} (f : Fields F E) (committed : D → List (RowMajorMatrix F)) where
  -- what is opened for a request
  abbrev pub round_opened : (log_blowup : ℕ) → Request D E → List (Opened F E)
  round_opened log_blowup r = zip_with (opened_honestly f log_blowup) (committed r.datum) r.points

  -- an honest request that passes the prover's checks: it has a list of points for each matrix and
  -- in each a point, each matrix stands on a coset, is tall enough and holds words of low degree,
  -- and no point lies in the matrix's coset
  pub record IsHonestRequest (p : Parameters) (r : Request D E) : Type 0 where
    pub lists_of_points : length r.points ≡ length (committed r.datum)
    pub some_point : All (λ points. points ≢ []) r.points
    pub cosets : All (HasCoset f.two_adicity) (committed r.datum)
    pub tall_enough : AreTallEnough p (committed r.datum)
    pub words : All (HoldsWords f p.log_blowup) (committed r.datum)
    pub off : All (HasPointsOff f) (zip_with ask (committed r.datum) r.points)
