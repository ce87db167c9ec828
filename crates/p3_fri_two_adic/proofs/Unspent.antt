-- Requests whose data stay as they are.
use Rattle.std.proofs.Common.{◌≡◌, List, [], ◌∷◌, map, refl, ap}
use Rattle.p3_pcs.specs.declared.requests.OpeningRequest.{OpeningRequest}
use Rattle.p3_pcs.specs.Requests.{with_data}

pub data_kept : {D EF : Type 0} (requests : List (OpeningRequest D EF))
    → requests ≡ map (with_data (λ d. d)) requests
data_kept [] = refl
data_kept (r ∷ requests) = ap (λ rest. r ∷ rest) (data_kept requests)
