-- Requests to a scheme that hides, and the requests inside them.
use Rattle.std.proofs.Common.{◌≡◌, ℕ, ◌+◌, ◌<◌, ◌≤◌, List, map, length, take, All}
use Rattle.std.proofs.Common.{get_or, sym, ap, ◌∙◌, arith, subst}
use Rattle.std.proofs.lemmas.List.{length-map}
use Rattle.algebra.proofs.Lists.{entry_of_map, map-map}
use Rattle.p3_matrix.specs.declared.dense.RowMajorMatrix.{RowMajorMatrix}
use Rattle.p3_pcs.specs.declared.requests.OpeningRequest.{OpeningRequest}
use Rattle.p3_pcs.specs.Requests.{Request, request, with_data}
use Rattle.p3_fri_folding.specs.declared.error.FriProverError.{FriProverError}
use Rattle.p3_fri_relation.specs.Setting.{Fields}
use Rattle.p3_fri_openings.specs.declared.round.OpeningRound.{OpeningRound}
use Rattle.p3_fri_openings.specs.First.{FirstAt}
use Rattle.p3_fri_openings.specs.Requests.{round_request, matrices_request}
use Rattle.p3_fri_openings.specs.Refusals.{HasPointsOff, RoundPointRefusal}
use Rattle.p3_fri_openings.proofs.First.{first_at, one_more, to_the_end, at_item}
use Rattle.p3_fri_opening_prover.specs.Refusals.{PointsRefusal, asked_of}
use Rattle.p3_fri_opening_prover.proofs.Asked.{on_here}
use Rattle.p3_fri_hiding_openings.specs.declared.data.HidingFriPcsProverData.{HidingFriPcsProverData}
use Rattle.p3_fri_hiding_openings.specs.Requests.{inside, inner_request, after_opening}

module _ {T E : Type 0} (requests : List (OpeningRequest (HidingFriPcsProverData T) E)) where
  -- the requests inside, seen with their memory or without
  pub inside_same : map request (map inner_request requests) ≡ map inside (map request requests)
  inside_same =
      map-map request inner_request requests ∙ sym (map-map inside request requests)

  -- a mark changes nothing inside
  pub inside_marked : (marked : List (OpeningRequest (HidingFriPcsProverData T) E))
      → marked ≡ map (with_data after_opening) requests
      → map request (map inner_request marked) ≡ map inside (map request requests)
  inside_marked marked is =
      ap (λ rs. map request (map inner_request rs)) is
      ∙ ap (map request) (map-map inner_request (with_data after_opening) requests)
      ∙ inside_same

  length_inside : length (map inside (map request requests)) ≡ length requests
  length_inside = length-map (map request requests) inside ∙ length-map requests request

  -- going through them
  module _ (i : ℕ) (r : OpeningRequest (HidingFriPcsProverData T) E) (below : i < length requests)
      (is : r ≡ get_or requests i r) where
    below_inside : i < length (map inside (map request requests))
    below_inside = omega (arith, below, length_inside)

    read_inside : inside (request r)
        ≡ get_or (map inside (map request requests)) i (inside (request r))
    read_inside =
        entry_of_map inside (map request requests) i (request r)
        (omega (arith, below, length-map requests request))
        (entry_of_map request requests i r below is)

    pub inside_at : (P : Request T E → Type 0) → All P (map inside (map request requests))
        → P (inside (request r))
    inside_at P all =
        at_item P (map inside (map request requests)) i (inside (request r)) below_inside
        read_inside all

    pub inside_more : (P : Request T E → Type 0)
        → All P (take i (map inside (map request requests))) → P (inside (request r))
        → All P (take (i + 1) (map inside (map request requests)))
    inside_more P before here =
        one_more P (map inside (map request requests)) i (inside (request r)) below_inside
        read_inside before here

    pub inside_first : (P R : Request T E → Type 0)
        → All P (take i (map inside (map request requests))) → R (inside (request r))
        → FirstAt P R (map inside (map request requests)) i
    inside_first P R before here =
        first_at P R (map inside (map request requests)) i (inside (request r)) below_inside
        read_inside before here

    -- the first point in a coset is that of a round which is made of one request
    pub inside_on : {F : Type 0} (f : Fields F E) (committed : T → List (RowMajorMatrix F))
        (round : OpeningRound F E)
        → round_request round ≡ matrices_request committed (inner_request r)
        → All (λ q. All (HasPointsOff f) (asked_of committed q))
        (take i (map inside (map request requests)))
        → (e : FriProverError) → RoundPointRefusal f i round e
        → PointsRefusal committed f (map inside (map request requests)) e
    inside_on f committed round same before e refused =
        subst (λ asked. PointsRefusal committed f asked e) inside_same
        (on_here f committed round (inner_request r) same (map inner_request requests) i
        (omega (arith, below, length-map requests inner_request))
        (entry_of_map inner_request requests i r below is)
        (subst (λ asked. All (λ q. All (HasPointsOff f) (asked_of committed q)) (take i asked))
        (sym inside_same) before)
        e refused)

  pub inside_end : (i : ℕ) (P : Request T E → Type 0) → length requests ≤ i
      → All P (take i (map inside (map request requests)))
      → All P (map inside (map request requests))
  inside_end i P end all =
      to_the_end P (map inside (map request requests)) i (omega (arith, end, length_inside)) all
