-- The claims of honest requests are those of honest matrices, and what is opened of the data is
-- what
-- is opened of them.
use Rattle.std.proofs.Common.{◌≡◌, ◌≢◌, ℕ, suc, ◌+◌, ◌-◌, ◌/◌, ◌^◌, List, [], ◌∷◌, map}
use Rattle.std.proofs.Common.{length, get_or, refl, sym, ap, ap₂, ◌∙◌, arith, subst, inl, inr}
use Rattle.std.specs.List.{All, AllZip, flat_map, zip}
use Rattle.std.proofs.lemmas.Bool.Decides.{leb_tells}
use Rattle.std.proofs.lemmas.List.{length-map, length-append, nil_from_length}
use Rattle.std.proofs.lemmas.List.Elements.{All-map}
use Rattle.algebra.specs.Nested.{joined}
use Rattle.algebra.specs.Words.{IsCosetWord}
use Rattle.algebra.proofs.Lists.{Each, each_from_All, head_eq, tail_eq, each-append}
use Rattle.p3_matrix.specs.declared.dense.RowMajorMatrix.{RowMajorMatrix}
use Rattle.p3_matrix.specs.Matrix.{rows}
use Rattle.p3_dft.specs.Evaluations.{column}
use Rattle.p3_pcs.specs.Claims.{zip_with, point_claims, matrix_claims}
use Rattle.p3_pcs.specs.Requests.{Request, AreOpenable, AreHonest, honest_claims, FitDomains}
use Rattle.p3_fri_relation.specs.Setting.{Fields, Parameters, CommitmentClaim, Opening}
use Rattle.p3_fri_relation.specs.Setting.{InputOpening}
use Rattle.p3_fri_openings.specs.Rounds.{log_height, HasCoset, ask}
use Rattle.p3_fri_relation.specs.TallEnough.{IsTallEnough}
use Rattle.p3_fri_openings.specs.Refusals.{AreTallEnough, IsOff, HasPointsOff}
use Rattle.p3_fri_openings.specs.Committed.{committed_values}
use Rattle.p3_fri_openings.proofs.Log2.{log2_is, pow-divided}
use Rattle.p3_fri_batch.specs.Words.{Opened, IsOpenedWord, claim_at}
use Rattle.p3_fri_batch.specs.Claimed.{IsClaimOf, AreClaimsOf, matrices_in}
use Rattle.p3_fri_batch.specs.Rounds.{opened_honestly}
use Rattle.p3_fri_prover.specs.Openings.{OpensBatch}
use Rattle.p3_fri_completeness.specs.Honest.{IsHonest}
use Rattle.p3_fri_openings.specs.Held.{held_in, HoldsWords, held_of}
use Rattle.p3_fri_openings.specs.SchemeClaims.{matrix_claim, relation_claims}
use Rattle.p3_fri_completeness.specs.Requests.{round_opened, IsHonestRequest}
use Rattle.p3_field_core.proofs.IndexPowers.{exponents_agree}

module _ {F E : Type 0} (f : Fields F E) (p : Parameters) where
  abbrev b : ℕ
  b = p.log_blowup

  module _ (matrix : RowMajorMatrix F) (held : HoldsWords f p.log_blowup matrix) where
    log_is : log_height matrix ≡ held.log_size + p.log_blowup
    log_is = sym (log2_is (length (rows matrix)) (held.log_size + p.log_blowup) (sym held.height))

    -- a domain of the size that is held is that of the claim
    claimed_size : (n : ℕ) → 2 ^ n ≡ length (rows matrix) / 2 ^ p.log_blowup → n + p.log_blowup
        ≡ log_height matrix
    claimed_size n e =
        let same = exponents_agree n held.log_size
        (e ∙ ap (λ m. m / 2 ^ p.log_blowup) held.height ∙ pow-divided held.log_size p.log_blowup) in
        omega (arith, same, log_is)

    opened_word : (points : List E) → All (IsOff f (log_height matrix)) points
        → IsOpenedWord f p.log_blowup (log_height matrix) (log_height matrix - p.log_blowup)
        (opened_honestly f p.log_blowup matrix points)
    opened_word points off = record {
      height = held.height ∙ ap (λ n. 2 ^ n) (sym log_is);
      columns = λ j l.
          let e : held.log_size ≡ held.log_size + p.log_blowup - p.log_blowup = omega arith in
          subst (λ n. IsCosetWord f.base f.root f.shift n (2 ^ (n - p.log_blowup))
          (column f.base matrix j)) (sym log_is)
          (subst (λ k. IsCosetWord f.base f.root f.shift (held.log_size + p.log_blowup) (2 ^ k)
          (column f.base matrix j)) e
          (held.columns j l));
      honest = All-map (λ z. z.values ≡ committed_values f p.log_blowup matrix z.point)
          (λ z. claim_at z (committed_values f p.log_blowup matrix z)) points (λ k d l. refl);
      off = All-map (λ z. IsOff f (log_height matrix) z.point)
          (λ z. claim_at z (committed_values f p.log_blowup matrix z)) points off;
    }

    -- it is opened honestly
    honest_matrix : (points : List E) → HasCoset f.two_adicity matrix → IsTallEnough p
        (log_height matrix)
        → points ≢ [] → All (IsOff f (log_height matrix)) points
        → IsHonest f p (opened_honestly f p.log_blowup matrix points)
    honest_matrix points coset tall some off = record {
      tall_enough = elim (leb_tells 1 p.log_final_poly_len) [
        | inl w ↦ (let above = tall w.1 in omega (arith, above))
        | inr w ↦ omega (arith, w.1, log_is)
      ];
      within_two_adicity = coset.within;
      some_point = λ none. some (nil_from_length points
          (sym (length-map points (λ z. claim_at z (committed_values f p.log_blowup matrix z)))
          ∙ ap length none));
      word = opened_word points off;
    }

  -- the matrices of a request
  honest_in : (ms : List (RowMajorMatrix F)) (lists : List (List E)) → length lists ≡ length ms
      → Each (λ points. points ≢ []) lists → Each (HasCoset f.two_adicity) ms
      → Each (λ m. IsTallEnough p (log_height m)) ms → Each (HoldsWords f p.log_blowup) ms
      → Each (HasPointsOff f) (zip_with ask ms lists)
      → Each (IsHonest f p) (zip_with (opened_honestly f p.log_blowup) ms lists)
  honest_in [] lists count some cosets tall held off = tt
  honest_in (m ∷ ms) [] count some cosets tall held off = tt
  honest_in (m ∷ ms) (points ∷ lists) count some cosets tall held off = (
    honest_matrix m held.0 points cosets.0 tall.0 some.0 off.0,
    honest_in ms lists (omega (arith, count)) some.1 cosets.1 tall.1 held.1 off.1,
  )

  count_in : (ms : List (RowMajorMatrix F)) (lists : List (List E)) → length lists ≡ length ms
      → length (zip_with (opened_honestly f p.log_blowup) ms lists) ≡ length ms
  count_in [] lists count = refl
  count_in (m ∷ ms) [] count = omega (arith, count)
  count_in (m ∷ ms) (points ∷ lists) count = ap (λ n. suc n)
      (count_in ms lists (omega (arith, count)))

  matrices_same : (ms : List (RowMajorMatrix F)) (lists : List (List E)) → length lists ≡ length ms
      → matrices_in (zip_with (opened_honestly f p.log_blowup) ms lists) ≡ ms
  matrices_same [] lists count = refl
  matrices_same (m ∷ ms) [] count = absurd (omega (arith, count))
  matrices_same (m ∷ ms) (points ∷ lists) count = ap (λ rest. m ∷ rest)
      (matrices_same ms lists (omega (arith, count)))

  -- the claims at the points of a matrix
  points_same : (matrix : RowMajorMatrix F) (points : List E)
      → point_claims points (map (committed_values f p.log_blowup matrix) points)
      ≡ map (λ z. claim_at z (committed_values f p.log_blowup matrix z)) points
  points_same matrix [] = refl
  points_same matrix (z ∷ points) =
      ap (λ rest. claim_at z (committed_values f p.log_blowup matrix z) ∷ rest)
      (points_same matrix points)

  module _ {Domain : Type 0} (log_size : Domain → ℕ) where
    -- those of a request's matrices are claims of them
    claims_in : (domains : List Domain) (ms : List (RowMajorMatrix F)) (lists : List (List E))
        → map (λ d. 2 ^ log_size d) domains ≡ map (λ m. m.size) (map (held_in f p.log_blowup) ms)
        → length lists ≡ length ms → Each (HoldsWords f p.log_blowup) ms
        → AllZip (IsClaimOf p.log_blowup)
        (map (matrix_claim log_size) (matrix_claims domains lists
        (zip_with (λ m points. map m.values_at points) (map (held_in f p.log_blowup) ms) lists)))
        (zip_with (opened_honestly f p.log_blowup) ms lists)
    claims_in [] [] lists fit count held = tt
    claims_in [] (m ∷ ms) lists fit count held = absurd cc
    claims_in (d ∷ domains) [] lists fit count held = absurd cc
    claims_in (d ∷ domains) (m ∷ ms) [] fit count held = absurd (omega (arith, count))
    claims_in (d ∷ domains) (m ∷ ms) (points ∷ lists) fit count held = (
      record {
        height = claimed_size m held.0 (log_size d) (head_eq fit);
        points = points_same m
            points;
      },
      claims_in domains ms lists (tail_eq fit) (omega (arith, count)) held.1,
    )

module _ {F E D Com Domain : Type 0} (f : Fields F E) (p : Parameters)
    (committed : D → List (RowMajorMatrix F))
    (commitment_of : D → Com) (log_size : Domain → ℕ) where
  abbrev Honest : Request D E → Type 0
  Honest = IsHonestRequest f committed p

  abbrev rounds_of : List (Request D E) → List (List (Opened F E))
  rounds_of requests = map (round_opened f committed p.log_blowup) requests

  abbrev claims_of : List (List Domain) → List (Request D E) → List (CommitmentClaim E Com)
  claims_of domains requests =
      relation_claims log_size
      (honest_claims (held_of f committed p.log_blowup) commitment_of domains requests)

  abbrev pub Fit : List (List Domain) → List (Request D E) → Type 0
  Fit domains requests = FitDomains (held_of f committed p.log_blowup)
      (λ d. 2 ^ log_size d) domains requests

  -- the claims of honest requests are those of what is opened
  pub requests_claimed : (domains : List (List Domain)) (requests : List (Request D E))
      → Fit domains requests → Each Honest requests
      → AreClaimsOf p.log_blowup (claims_of domains requests) (rounds_of requests)
  requests_claimed [] [] fit h = tt
  requests_claimed [] (r ∷ requests) fit h = absurd cc
  requests_claimed (ds ∷ domains) [] fit h = absurd cc
  requests_claimed (ds ∷ domains) (r ∷ requests) fit h = (
    claims_in f p log_size ds (committed r.datum) r.points (head_eq fit) h.0.lists_of_points
        (each_from_All (HoldsWords f p.log_blowup) (committed r.datum) h.0.words),
    requests_claimed domains requests (tail_eq fit) h.1,
  )

  -- as many as requests
  pub requests_counted : (domains : List (List Domain)) (requests : List (Request D E))
      → Fit domains requests → length (claims_of domains requests) ≡ length requests
  requests_counted [] [] fit = refl
  requests_counted [] (r ∷ requests) fit = absurd cc
  requests_counted (ds ∷ domains) [] fit = absurd cc
  requests_counted (ds ∷ domains) (r ∷ requests) fit =
      ap (λ n. suc n) (requests_counted domains requests (tail_eq fit))

  -- what is opened is opened honestly
  pub requests_honest : (requests : List (Request D E)) → Each Honest requests
      → Each (IsHonest f p) (joined (rounds_of requests))
  requests_honest [] h = tt
  requests_honest (r ∷ requests) h =
      each-append (IsHonest f p) (round_opened f committed p.log_blowup r)
      (joined (rounds_of requests))
      (honest_in f p (committed r.datum) r.points h.0.lists_of_points
      (each_from_All (λ points. points ≢ []) r.points h.0.some_point)
      (each_from_All (HasCoset f.two_adicity) (committed r.datum) h.0.cosets)
      (each_from_All (λ m. IsTallEnough p (log_height m)) (committed r.datum) h.0.tall_enough)
      (each_from_All (HoldsWords f p.log_blowup) (committed r.datum) h.0.words)
      (each_from_All (HasPointsOff f) (zip_with ask (committed r.datum) r.points) h.0.off))
      (requests_honest requests h.1)

  -- some matrix is
  opened_count : (requests : List (Request D E)) → Each Honest requests
      → length (joined (rounds_of requests)) ≡ length (flat_map
      (λ r. held_of f committed p.log_blowup r.datum) requests)
  opened_count [] h = refl
  opened_count (r ∷ requests) h =
      length-append (round_opened f committed p.log_blowup r) (joined (rounds_of requests))
      ∙ ap₂ (λ m n. m + n)
      (count_in f p (committed r.datum) r.points h.0.lists_of_points
      ∙ sym (length-map (committed r.datum) (held_in f p.log_blowup)))
      (opened_count requests h.1)
      ∙ sym (length-append (held_of f committed p.log_blowup r.datum)
      (flat_map (λ r. held_of f committed p.log_blowup r.datum) requests))

  pub some_opened : (requests : List (Request D E)) → Each Honest requests
      → flat_map (λ r. held_of f committed p.log_blowup r.datum) requests ≢ []
      → joined (rounds_of requests) ≢ []
  some_opened requests h some none =
      some (nil_from_length (flat_map (λ r. held_of f committed p.log_blowup r.datum) requests)
      (sym (opened_count requests h) ∙ ap length none))

  module _ {InPath : Type 0} (opens : Opening F Com InPath) (top : ℕ) (positions : List ℕ) where
    abbrev OpensClaim : CommitmentClaim E Com × List (Opened F E) → InputOpening F InPath → Type 0
    OpensClaim (claim, ms) o = OpensBatch opens top positions (matrices_in ms) claim.commitment o

    abbrev OpensRequest : Request D E → InputOpening F InPath → Type 0
    OpensRequest r o = OpensBatch opens top positions (committed r.datum) (commitment_of r.datum) o

    -- what is opened of the data is what is opened of the claims
    pub requests_opened : (domains : List (List Domain)) (requests : List (Request D E))
        (inputs : List (InputOpening F InPath)) → Fit domains requests → Each Honest requests
        → AllZip OpensRequest requests inputs
        → AllZip OpensClaim (zip (claims_of domains requests) (rounds_of requests)) inputs
    requests_opened [] [] inputs fit h opened = opened
    requests_opened [] (r ∷ requests) inputs fit h opened = absurd cc
    requests_opened (ds ∷ domains) [] inputs fit h opened = absurd cc
    requests_opened (ds ∷ domains) (r ∷ requests) [] fit h opened = absurd opened
    requests_opened (ds ∷ domains) (r ∷ requests) (o ∷ inputs) fit h opened = (
      subst (λ ms. OpensBatch opens top positions ms (commitment_of r.datum) o)
          (sym (matrices_same f p (committed r.datum) r.points h.0.lists_of_points)) opened.0,
      requests_opened domains requests inputs (tail_eq fit) h.1 opened.1,
    )

-- requests that may be opened, of honest data, which pass the prover's checks
pub honest_requests : {F E D : Type 0} (f : Fields F E) (p : Parameters)
    (committed : D → List (RowMajorMatrix F)) (requests : List (Request D E))
    → AreOpenable (λ d. All (HasCoset f.two_adicity) (committed d))
    (held_of f committed p.log_blowup)
    requests
    → AreHonest (λ d. All (HoldsWords f p.log_blowup) (committed d)) requests
    → All (λ r. AreTallEnough p (committed r.datum)) requests
    → All (λ r. All (HasPointsOff f) (zip_with ask (committed r.datum) r.points)) requests
    → All (IsHonestRequest f committed p) requests
honest_requests f p committed requests openable honest tall off k d l = record {
  lists_of_points = openable.points k d l
      ∙ length-map (committed (get_or requests k d).datum) (held_in f p.log_blowup);
  some_point = honest.points k d l;
  cosets = openable.data_openable k d l;
  tall_enough = tall k d l;
  words = honest.data_honest k d l;
  off = off k d l;
}
