-- What is absorbed of honest claims is what a prover absorbs of the values that it opens.
use Rattle.std.proofs.Common.{◌≡◌, ℕ, ◌^◌, List, [], ◌∷◌, ◌++◌, map, length, refl, sym}
use Rattle.std.proofs.Common.{ap, ap₂}
use Rattle.std.proofs.Common.{◌∙◌, arith, Some}
use Rattle.std.specs.Global.{Global}
use Rattle.std.specs.List.{flat_map}
use Rattle.std.specs.declared.vec.Vec.{Vec}
use Rattle.std.proofs.lemmas.Grind.{flat_map-append}
use Rattle.algebra.specs.Nested.{lists, nested, joined}
use Rattle.algebra.proofs.Lists.{Each, head_eq, tail_eq}
use Rattle.p3_matrix.specs.declared.dense.RowMajorMatrix.{RowMajorMatrix}
use Rattle.p3_pcs.specs.Claims.{PointClaim, zip_with, point_claims, matrix_claims, opened_values}
use Rattle.p3_pcs.specs.Requests.{Request, honest_claims, honest_values}
use Rattle.p3_fri_pcs_transcript.specs.Counts.{lists_in_matrices, lists_of_values, all_values}
use Rattle.p3_fri_pcs_transcript.specs.Steps.{pcs_stream}
use Rattle.p3_fri_pcs_transcript.specs.Replay.{BatchReplay, claims_replay}
use Rattle.p3_fri_relation.specs.Setting.{Fields, Setting, Parameters, CommitmentClaim, Proof}
use Rattle.p3_fri_relation.specs.Heights.{matrices_of}
use Rattle.p3_fri_relation.specs.Acceptance.{pcs_numbers, values_claimed, batch_replayed}
use Rattle.p3_fri_openings.specs.Held.{held_in, held_of}
use Rattle.p3_fri_openings.specs.SchemeClaims.{matrix_claim, relation_claims}
use Rattle.p3_fri_completeness.specs.Requests.{IsHonestRequest}
use Rattle.p3_fri_completeness.proofs.Requests.{Fit}

-- values by matrix and point: how many there are at each point, and all of them in order
module _ {E : Type 0} where
  abbrev pub counts_in : List (List (List E)) → List (List ℕ)
  counts_in values = map (λ points. map (λ ys. length ys) points) values

  abbrev pub all_in : List (List (List E)) → List E
  all_in values = flat_map (λ points. joined points) values

  -- those in vectors are those in lists

  values_of_matrices : (matrices : List (Vec (Vec E Global) Global))
      → joined (lists_in_matrices matrices) ≡ all_in (nested matrices)
  values_of_matrices [] = refl
  values_of_matrices (points ∷ matrices) =
      flat_map-append (λ part. part) (lists points.items) (lists_in_matrices matrices)
      ∙ ap (λ rest. joined (lists points.items) ++ rest) (values_of_matrices matrices)

  pub values_of_all : (values : List (Vec (Vec (Vec E Global) Global) Global))
      → all_values values ≡ flat_map all_in (opened_values values)
  values_of_all [] = refl
  values_of_all (matrices ∷ values) =
      flat_map-append (λ part. part) (lists_in_matrices matrices.items) (lists_of_values values)
      ∙ ap₂ (λ xs ys. xs ++ ys) (values_of_matrices matrices.items) (values_of_all values)

-- honest claims of one matrix, and of one request
module _ {E : Type 0} (g : E → List E) where
  counts_at_honest : (points : List E)
      → map (λ (z : PointClaim E). length z.values) (point_claims points (map g points))
      ≡ map (λ ys. length ys) (map g points)
  counts_at_honest [] = refl
  counts_at_honest (z ∷ points) = ap (λ ns. length (g z) ∷ ns) (counts_at_honest points)

  values_at_honest : (points : List E)
      → flat_map (λ (z : PointClaim E). z.values) (point_claims points (map g points))
      ≡ joined (map g points)
  values_at_honest [] = refl
  values_at_honest (z ∷ points) = ap (λ ys. g z ++ ys) (values_at_honest points)

module _ {F E Domain : Type 0} (f : Fields F E) (b : ℕ) (log_size : Domain → ℕ) where
  abbrev values_in : List (RowMajorMatrix F) → List (List E) → List (List (List E))
  values_in ms lists = zip_with (λ m points. map m.values_at points) (map (held_in f b) ms) lists

  counts_of_request : (domains : List Domain) (ms : List (RowMajorMatrix F)) (lists : List (List E))
      → map (λ d. 2 ^ log_size d) domains ≡ map (λ m. m.size) (map (held_in f b) ms)
      → length lists ≡ length ms
      → map (λ m. map (λ z. length z.values) m.points)
      (map (matrix_claim log_size) (matrix_claims domains lists (values_in ms lists)))
      ≡ counts_in (values_in ms lists)
  counts_of_request [] [] lists fit count = refl
  counts_of_request [] (m ∷ ms) lists fit count = absurd cc
  counts_of_request (d ∷ domains) [] lists fit count = absurd cc
  counts_of_request (d ∷ domains) (m ∷ ms) [] fit count = absurd (omega (arith, count))
  counts_of_request (d ∷ domains) (m ∷ ms) (points ∷ lists) fit count =
      ap₂ (λ n ns. n ∷ ns) (counts_at_honest (held_in f b m).values_at points)
      (counts_of_request domains ms lists (tail_eq fit) (omega (arith, count)))

  values_of_request : (domains : List Domain) (ms : List (RowMajorMatrix F)) (lists : List (List E))
      → map (λ d. 2 ^ log_size d) domains ≡ map (λ m. m.size) (map (held_in f b) ms)
      → length lists ≡ length ms
      → flat_map (λ m. flat_map (λ z. z.values) m.points)
      (map (matrix_claim log_size) (matrix_claims domains lists (values_in ms lists)))
      ≡ all_in (values_in ms lists)
  values_of_request [] [] lists fit count = refl
  values_of_request [] (m ∷ ms) lists fit count = absurd cc
  values_of_request (d ∷ domains) [] lists fit count = absurd cc
  values_of_request (d ∷ domains) (m ∷ ms) [] fit count = absurd (omega (arith, count))
  values_of_request (d ∷ domains) (m ∷ ms) (points ∷ lists) fit count =
      ap₂ (λ xs ys. xs ++ ys) (values_at_honest (held_in f b m).values_at points)
      (values_of_request domains ms lists (tail_eq fit) (omega (arith, count)))

module _ {F E D InCom Domain : Type 0} (f : Fields F E) (p : Parameters)
    (committed : D → List (RowMajorMatrix F)) (commitment_of : D → InCom)
    (log_size : Domain → ℕ) where
  abbrev claims_of : List (List Domain) → List (Request D E) → List (CommitmentClaim E InCom)
  claims_of domains requests = relation_claims log_size
      (honest_claims (held_of f committed p.log_blowup) commitment_of domains requests)

  abbrev values_of : List (Request D E) → List (List (List (List E)))
  values_of requests = map (honest_values (held_of f committed p.log_blowup)) requests

  counts_of_claims : (domains : List (List Domain)) (requests : List (Request D E))
      → Fit f p committed commitment_of log_size domains requests
      → Each (IsHonestRequest f committed p) requests
      → (pcs_numbers p (claims_of domains requests)).counts ≡ map counts_in (values_of requests)
  counts_of_claims [] [] fit h = refl
  counts_of_claims [] (r ∷ requests) fit h = absurd cc
  counts_of_claims (ds ∷ domains) [] fit h = absurd cc
  counts_of_claims (ds ∷ domains) (r ∷ requests) fit h =
      ap₂ (λ n ns. n ∷ ns)
      (counts_of_request f p.log_blowup log_size ds (committed r.datum) r.points (head_eq fit)
      h.0.lists_of_points)
      (counts_of_claims domains requests (tail_eq fit) h.1)

  values_of_claims : (domains : List (List Domain)) (requests : List (Request D E))
      → Fit f p committed commitment_of log_size domains requests
      → Each (IsHonestRequest f committed p) requests
      → values_claimed (claims_of domains requests) ≡ flat_map all_in (values_of requests)
  values_of_claims [] [] fit h = refl
  values_of_claims [] (r ∷ requests) fit h = absurd cc
  values_of_claims (ds ∷ domains) [] fit h = absurd cc
  values_of_claims (ds ∷ domains) (r ∷ requests) fit h =
      flat_map-append (λ m. flat_map (λ z. z.values) m.points)
      (map (matrix_claim log_size) (matrix_claims ds r.points
      (honest_values (held_of f committed p.log_blowup) r)))
      (matrices_of (claims_of domains requests))
      ∙ ap₂ (λ xs ys. xs ++ ys)
      (values_of_request f p.log_blowup log_size ds (committed r.datum) r.points (head_eq fit)
      h.0.lists_of_points)
      (values_of_claims domains requests (tail_eq fit) h.1)

-- the batch's transcript of values by commitment, matrix and point
module _ {F E C Com Path InCom InPath : Type 0} (s : Setting F E C Com Path InCom InPath)
    (p : Parameters) (c : C) (witness : F) where
  abbrev pub begun : (values : List (List (List (List E)))) → BatchReplay C E
  begun values = claims_replay s.moves s.fields.coefficients s.fields.base p.batch_pow_bits
      (pcs_stream s.fields.degree
      (record { counts = map counts_in values; batch_pow_bits = p.batch_pow_bits })) c
      (flat_map all_in values) (Some witness)

module _ {F E D C Com Path InCom InPath Domain : Type 0} (s : Setting F E C Com Path InCom InPath)
    (p : Parameters) (committed : D → List (RowMajorMatrix F)) (commitment_of : D → InCom)
    (log_size : Domain → ℕ) (c : C) (proof : Proof F E Com Path InPath) where
  -- that of the honest values is that of the honest claims
  pub begun_of_claims : (domains : List (List Domain)) (requests : List (Request D E))
      → Fit s.fields p committed commitment_of log_size domains requests
      → Each (IsHonestRequest s.fields committed p) requests
      → begun s p c proof.batch_witness
      (map (honest_values (held_of s.fields committed p.log_blowup)) requests)
      ≡ batch_replayed s p
      (claims_of s.fields p committed commitment_of log_size domains requests) proof c
  begun_of_claims domains requests fit h =
      ap₂ (λ counts ys. claims_replay s.moves s.fields.coefficients s.fields.base p.batch_pow_bits
      (pcs_stream s.fields.degree
      (record { counts = counts; batch_pow_bits = p.batch_pow_bits })) c ys
      (Some proof.batch_witness))
      (sym (counts_of_claims s.fields p committed commitment_of log_size domains requests fit h))
      (sym (values_of_claims s.fields p committed commitment_of log_size domains requests fit h))
