-- Requests and the rounds that come of them: what is tested of requests, and what it says of rounds.
use Rattle.std.proofs.Common.{◌≡◌, ◌≢◌, ◌+◌, ◌<◌, ℕ, suc, List, [], ◌∷◌, map, length, take}
use Rattle.std.proofs.Common.{All, get_or, refl, sym, ap, ap₂, ◌∙◌, arith, subst}
use Rattle.std.specs.List.{flat_map}
use Rattle.std.proofs.lemmas.List.{length-map, length-append, nil_from_length}
use Rattle.algebra.specs.Nested.{joined}
use Rattle.algebra.proofs.Lists.{Each, each_from_All, map-map}
use Rattle.p3_matrix.specs.declared.dense.RowMajorMatrix.{RowMajorMatrix}
use Rattle.p3_pcs.specs.declared.requests.OpeningRequest.{OpeningRequest}
use Rattle.p3_pcs.specs.Claims.{zip_with}
use Rattle.p3_pcs.specs.Requests.{Request, request, AreOpenable}
use Rattle.p3_fri_folding.specs.declared.error.FriProverError.{FriProverError}
use Rattle.p3_fri_folding.specs.declared.error.FriProverError.TheVariants.{InputHeightTooSmall}
use Rattle.p3_fri_folding.specs.declared.error.FriProverError.TheVariants.{FinalHeightOverflow}
use Rattle.p3_fri_folding.specs.declared.error.FriProverError.TheVariants.{PointInEvaluationDomain}
use Rattle.p3_fri_folding.specs.declared.error.FriProverError.TheVariants.{NoPowWitness, OutOfMemory}
use Rattle.p3_fri_relation.specs.Setting.{Fields, Parameters}
use Rattle.p3_fri_openings.specs.declared.round.OpeningRound.{OpeningRound}
use Rattle.p3_fri_openings.specs.Opened.{values_asked}
use Rattle.p3_fri_openings.specs.Requests.{round_request, matrices_request}
use Rattle.p3_fri_openings.specs.Rounds.{HasCoset, IsRound, ask, log_height}
use Rattle.p3_fri_openings.specs.Refusals.{AreTallEnough, ArePointsOff, HasPointsOff}
use Rattle.p3_fri_openings.specs.First.{FirstAt}
use Rattle.p3_fri_relation.specs.TallEnough.{HeightRefusal}
use Rattle.p3_fri_openings.specs.Refusals.{RoundHeightRefusal, RoundPointRefusal}
use Rattle.p3_fri_openings.specs.Refusals.{IsFirstPoint}
use Rattle.p3_fri_batch.specs.Rounds.{opened_of, opened_honestly}
use Rattle.p3_fri_openings.specs.Held.{held_in, held_of}
use Rattle.p3_fri_completeness.specs.Requests.{round_opened}
use Rattle.p3_fri_completeness.proofs.Rounds.{opened_by_request}
use Rattle.p3_fri_opening_prover.specs.Refusals.{IsFirstLow, PointsRefusal, asked_of}
use Rattle.p3_fri_opening_prover.specs.Refusals.{CheckRefusal, GatherRefusal}
use Rattle.p3_fri_opening_prover.proofs.Transported.{all_same, any_at, mapped_first}

-- some matrix is opened, where requests hold some
module _ {F E D : Type 0} (f : Fields F E) (b : ℕ) (committed : D → List (RowMajorMatrix F)) where
  abbrev held : Request D E → ℕ
  held r = length (held_of f committed b r.datum)

  count_here : (ms : List (RowMajorMatrix F)) (points : List (List E)) → length points ≡ length ms
      → length (zip_with (opened_honestly f b) ms points) ≡ length ms
  count_here [] points count = refl
  count_here (m ∷ ms) [] count = omega (arith, count)
  count_here (m ∷ ms) (zs ∷ points) count =
      ap (λ n. suc n) (count_here ms points (omega (arith, count)))

  count_asked : (rs : List (Request D E)) → Each (λ r. length r.points ≡ held r) rs
      → length (joined (map (round_opened f committed b) rs))
      ≡ length (flat_map (λ r. held_of f committed b r.datum) rs)
  count_asked [] are = refl
  count_asked (r ∷ rs) are =
      length-append (round_opened f committed b r) (joined (map (round_opened f committed b) rs))
      ∙ ap₂ (λ m n. m + n)
      (count_here (committed r.datum) r.points
      (are.0 ∙ length-map (committed r.datum) (held_in f b))
      ∙ sym (length-map (committed r.datum) (held_in f b)))
      (count_asked rs are.1)
      ∙ sym (length-append (held_of f committed b r.datum)
      (flat_map (λ r. held_of f committed b r.datum) rs))

  some_asked : (rs : List (Request D E)) → Each (λ r. length r.points ≡ held r) rs
      → flat_map (λ r. held_of f committed b r.datum) rs ≢ []
      → joined (map (round_opened f committed b) rs) ≢ []
  some_asked rs are some none =
      some (nil_from_length (flat_map (λ r. held_of f committed b r.datum) rs)
      (sym (count_asked rs are) ∙ ap length none))

module _ {F E D : Type 0} (f : Fields F E) (p : Parameters)
    (committed : D → List (RowMajorMatrix F)) (rounds : List (OpeningRound F E))
    (requests : List (OpeningRequest D E))
    (same : map round_request rounds ≡ map (matrices_request committed) requests) where
  abbrev asked : List (Request D E)
  asked = map request requests

  abbrev Seen : Type 0
  Seen = Request (List (RowMajorMatrix F)) E

  abbrev seen : Request D E → Seen
  seen r = record { datum = committed r.datum; points = r.points }

  looks : map round_request rounds ≡ map seen asked
  looks = same ∙ sym (map-map seen request requests)

  -- the same matrices
  pub data_seen : map (λ (r : OpeningRequest D E). committed r.prover_data.now) requests
      ≡ map (λ (r : OpeningRound F E). r.matrices.now) rounds
  data_seen =
      sym (map-map (λ (v : Seen). v.datum) (matrices_request committed) requests)
      ∙ ap (λ vs. map (λ (v : Seen). v.datum) vs) (sym same)
      ∙ map-map (λ (v : Seen). v.datum) round_request rounds

  module _ (openable : AreOpenable (λ d. All (HasCoset f.two_adicity) (committed d))
      (held_of f committed p.log_blowup) asked) where
    -- the rounds may be opened
    pub are_rounds : All (IsRound f.two_adicity) rounds
    are_rounds k r l =
        let P : Seen → Type 0 =
        λ v. (length v.points ≡ length v.datum) × All (HasCoset f.two_adicity) v.datum in
        let each : All (λ (q : Request D E). P (seen q)) asked = λ i q h. (
          openable.points i q h ∙ length-map _ (held_in f p.log_blowup),
          openable.data_openable i q h,
        ) in
        let is = all_same seen round_request asked rounds (sym looks) P each k r l in
        record {
          lists_of_points = sym (length-map _ (λ v. v.items)) ∙ is.0;
          cosets = is.1;
        }

    -- and some matrix is
    pub some_matrix :
        opened_of rounds (map (values_asked f p.log_blowup) rounds) ≢ []
    some_matrix = subst (λ oss. joined oss ≢ [])
        (sym (opened_by_request f p.log_blowup committed rounds requests same))
        (some_asked f p.log_blowup committed asked
        (each_from_All (λ r. length r.points ≡ length (held_of f committed p.log_blowup r.datum))
        asked openable.points)
        openable.some_matrix)

  -- what the checks say of the requests, they say of the rounds
  pub tall_rounds : All (λ (q : Request D E). AreTallEnough p (committed q.datum)) asked
      → All (λ r. AreTallEnough p r.matrices.now) rounds
  tall_rounds tall =
      all_same seen round_request asked rounds (sym looks) (λ v. AreTallEnough p v.datum) tall

  pub off_rounds : All (λ (q : Request D E). All (HasPointsOff f) (asked_of committed q)) asked
      → All (ArePointsOff f) rounds
  off_rounds off =
      all_same seen round_request asked rounds (sym looks)
      (λ v. All (HasPointsOff f) (zip_with ask v.datum v.points)) off

-- a round that is made of one request may be opened
pub round_here : {F E D : Type 0} (adicity : ℕ) (committed : D → List (RowMajorMatrix F))
    (round : OpeningRound F E) (r : OpeningRequest D E)
    → round_request round ≡ matrices_request committed r
    → length (request r).points ≡ length (committed (request r).datum)
    → All (HasCoset adicity) (committed (request r).datum) → IsRound adicity round
round_here adicity committed round r same count cosets = record {
  lists_of_points = sym (length-map round.points.now (λ v. v.items))
      ∙ ap (λ v. length v.points) same ∙ count ∙ sym (ap (λ v. length v.datum) same);
  cosets = subst (λ v. All (HasCoset adicity) v.datum) (sym same) cosets;
}

-- and stands at a place of a list
module _ {F E D : Type 0} (f : Fields F E) (committed : D → List (RowMajorMatrix F))
    (round : OpeningRound F E) (r : OpeningRequest D E)
    (same : round_request round ≡ matrices_request committed r) where
  pub off_here : ArePointsOff f round → All (HasPointsOff f) (asked_of committed (request r))
  off_here off = subst (λ v. All (HasPointsOff f) (zip_with ask v.datum v.points)) same off

  module _ (requests : List (OpeningRequest D E)) (i : ℕ) (inside : i < length requests)
      (is : r ≡ get_or requests i r)
      (before : All (λ r. All (HasPointsOff f) (asked_of committed r))
      (take i (map request requests))) where
    pub on_here : (e : FriProverError) → RoundPointRefusal f i round e
        → PointsRefusal committed f (map request requests) e
    on_here (PointInEvaluationDomain a b d) h =
        let Passes : Request D E → Type 0 = λ r. All (HasPointsOff f) (asked_of committed r) in
        let Refused : Request D E → Type 0 =
        λ r. FirstAt (HasPointsOff f) (IsFirstPoint f d) (asked_of committed r) b in
        subst (λ k. FirstAt Passes Refused (map request requests) k) (sym h.0)
        (mapped_first request requests i r inside is Passes Refused before
        (subst (λ v. FirstAt (HasPointsOff f) (IsFirstPoint f d) (zip_with ask v.datum v.points) b)
        same h.1))
    on_here (InputHeightTooSmall h final) r = absurd r
    on_here FinalHeightOverflow r = absurd r
    on_here (NoPowWitness phase) r = absurd r
    on_here OutOfMemory r = absurd r

-- why the checks refuse
module _ {F E D : Type 0} (f : Fields F E) (p : Parameters)
    (committed : D → List (RowMajorMatrix F)) (requests : List (Request D E)) where
  -- a refusal for a height is one of some matrix
  some_low : (e : FriProverError) → IsFirstLow committed p e requests
      → (h : ℕ) × HeightRefusal p h e
  some_low e r =
      let found = any_at (λ (q : Request D E). RoundHeightRefusal p e (committed q.datum)) requests
      r.round r.first.within r.first.here in
      let here = found.4 in
      let matrix = any_at (λ m. HeightRefusal p (log_height m) e) (committed found.1.datum)
      here.matrix here.first.within here.first.here in
      (log_height matrix.1, matrix.4)

  pub low_refused : (e : FriProverError) → IsFirstLow committed p e requests
      → CheckRefusal f p committed requests e
  low_refused OutOfMemory r = let low = some_low OutOfMemory r in absurd low.1
  low_refused (PointInEvaluationDomain a b d) r =
      let low = some_low (PointInEvaluationDomain a b d) r in absurd low.1
  low_refused (InputHeightTooSmall h final) r = r
  low_refused FinalHeightOverflow r = r
  low_refused (NoPowWitness phase) r = let low = some_low (NoPowWitness phase) r in absurd low.1

  pub on_refused : All (λ r. AreTallEnough p (committed r.datum)) requests → (e : FriProverError)
      → PointsRefusal committed f requests e → CheckRefusal f p committed requests e
  on_refused tall OutOfMemory r = absurd r
  on_refused tall (PointInEvaluationDomain a b d) r = (tall, r)
  on_refused tall (InputHeightTooSmall h final) r = absurd r
  on_refused tall FinalHeightOverflow r = absurd r
  on_refused tall (NoPowWitness phase) r = absurd r

  pub gather_refused : (e : FriProverError) → CheckRefusal f p committed requests e
      → GatherRefusal f p committed requests e
  gather_refused OutOfMemory r = absurd r
  gather_refused (PointInEvaluationDomain a b d) r = r
  gather_refused (InputHeightTooSmall h final) r = r
  gather_refused FinalHeightOverflow r = r
  gather_refused (NoPowWitness phase) r = r

  -- as many lists of points as matrices
  pub points_counted : All (λ r. length r.points ≡ length (held_of f committed p.log_blowup r.datum))
      requests → All (λ r. length r.points ≡ length (committed r.datum)) requests
  points_counted counts k r l =
      counts k r l ∙ length-map (committed _) (held_in f p.log_blowup)
