-- Data that changes places with the data behind requests.
use Rattle.std.specs.Prelude.{List, [], ◌∷◌}
use Rattle.p3_pcs.specs.declared.requests.OpeningRequest.{OpeningRequest}
use Rattle.p3_pcs.specs.Requests.{with_data}
use Rattle.fri_commitments.specs.declared.committed.Committed.{Committed}

module _ {D Dom EF : Type 0} where
  -- requests, each with the data that is kept in its place behind it
  abbrev pub lent_to : List (OpeningRequest D EF) → List (Committed D Dom)
      → List (OpeningRequest D EF)
  lent_to [] cs = []
  lent_to (r ∷ rs) [] = r ∷ rs
  lent_to (r ∷ rs) (c ∷ cs) = with_data (λ _. c.«data») r ∷ lent_to rs cs

  -- what is kept, each with the data behind the request in its place
  abbrev pub taken_from : List (OpeningRequest D EF) → List (Committed D Dom)
      → List (Committed D Dom)
  taken_from rs [] = []
  taken_from [] (c ∷ cs) = c ∷ cs
  taken_from (r ∷ rs) (c ∷ cs) = record c { «data» = r.prover_data.now } ∷ taken_from rs cs
