-- Requests to open committed data, and the rounds that they come to.
use Rattle.std.specs.Prelude.{List}
use Rattle.algebra.specs.Nested.{lists}
use Rattle.p3_matrix.specs.declared.dense.RowMajorMatrix.{RowMajorMatrix}
use Rattle.p3_pcs.specs.declared.requests.OpeningRequest.{OpeningRequest}
use Rattle.p3_pcs.specs.Requests.{Request}
use Rattle.p3_fri_openings.specs.declared.round.OpeningRound.{OpeningRound}

module _ {F E : Type 0} where
  -- a round's matrices, with their points
  abbrev pub round_request : OpeningRound F E → Request (List (RowMajorMatrix F)) E
  round_request round =
      record { datum = round.matrices.now; points = lists round.points.now }

  -- the matrices of the request's data, with its points
  abbrev pub matrices_request : {D : Type 0} → (committed : D → List (RowMajorMatrix F))
      → OpeningRequest D E → Request (List (RowMajorMatrix F)) E
  matrices_request committed r =
      record { datum = committed r.prover_data.now; points = lists r.points.items }
