-- Requests that may be opened, told by their matrices alone.
use Rattle.std.specs.Prelude.{◌≡◌, ◌≢◌, List, [], length, All}
use Rattle.std.specs.List.{flat_map}
use Rattle.p3_pcs.specs.declared.requests.OpeningRequest.{OpeningRequest}

-- each matrix stands on a coset, each datum has a list of points for each of its matrices, and
-- there is some matrix
pub record MayBeOpened {A D E : Type 0} (HasCoset : A → Type 0) (committed : D → List A)
    (requests : List (OpeningRequest D E)) : Type 0 where
  pub cosets : All (λ r. All HasCoset (committed r.prover_data.now)) requests
  pub points : All (λ r. length r.points.items ≡ length (committed r.prover_data.now)) requests
  pub some_matrix : flat_map (λ r. committed r.prover_data.now) requests ≢ []
