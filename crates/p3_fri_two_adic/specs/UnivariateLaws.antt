-- Heights of traces, and requests that may be opened with preprocessing, in the plain scheme.
use Rattle.std.specs.Prelude.{◌≡◌, ◌≤◌, ◌↔◌, ℕ, zero, suc, List, [], ◌∷◌, map, All}
use Rattle.std.specs.Prelude.{Option, Some, None}
use Rattle.std.proofs.Common.{arith}
use Rattle.algebra.proofs.Lists.{Each, each_from_All, All_from_each}
use Rattle.p3_pcs.specs.Requests.{Held, Request, AreOpenable}
use Rattle.p3_stark_pcs.specs.Heights.{IsTraceHeight}
use Rattle.p3_stark_pcs.specs.Preprocessing.{ArePreprocessedAt, CanBeOpened, AreOpenableAt}
use Rattle.p3_fri_two_adic.specs.Held.{IsSubgroupSize}

pub trace_heights : (two_adicity n : ℕ)
    → IsSubgroupSize two_adicity n ↔ IsTraceHeight 0 two_adicity n
trace_heights two_adicity n = (
  (λ s. record {
    log_height = s.log_size;
    power = s.size;
    at_least = omega arith;
    at_most = s.within;
  }),
  (λ h. record { log_size = h.log_height; size = h.power; within = h.at_most }),
)

module _ {D : Type 0} (CanOpen : D → Type 0) where
  each_named : (n : ℕ) (ds : List D) → ArePreprocessedAt CanOpen CanOpen n ds → Each CanOpen ds
  each_named n [] h = absurd h
  each_named zero (d ∷ ds) h = (h.0, each_from_All CanOpen ds h.1)
  each_named (suc n) (d ∷ ds) h = (h.0, each_named n ds h.1)

  each_opened : (index : Option ℕ) (ds : List D) → CanBeOpened CanOpen CanOpen index ds
      → Each CanOpen ds
  each_opened None ds h = each_from_All CanOpen ds h
  each_opened (Some n) ds h = each_named n ds h

module _ {D EF : Type 0} (CanOpen : D → Type 0) where
  each_request : (requests : List (Request D EF)) → Each CanOpen (map (λ r. r.datum) requests)
      → Each (λ (r : Request D EF). CanOpen r.datum) requests
  each_request [] h = tt
  each_request (r ∷ requests) h = (h.0, each_request requests h.1)

  -- to a scheme that opens all data alike the index says nothing
  pub openable_at : (held : D → List (Held EF)) (index : Option ℕ)
      (requests : List (Request D EF)) → AreOpenableAt CanOpen CanOpen held index requests
      → AreOpenable CanOpen held requests
  openable_at held index requests h = record {
    data_openable = All_from_each (λ (r : Request D EF). CanOpen r.datum) requests
        (each_request requests (each_opened CanOpen index (map (λ r. r.datum) requests)
        h.data_openable));
    points = h.points;
    some_matrix = h.some_matrix;
  }
