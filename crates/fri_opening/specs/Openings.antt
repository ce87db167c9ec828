-- What comes of opening batches of matrices that records list.
use Rattle.std.specs.Prelude.{◌≡◌, ℕ, Bool, List, map, Ok}
use Rattle.algebra.specs.Nested.{lists}
use Rattle.p3_pcs.specs.Claims.{zip_with}
use Rattle.p3_pcs.specs.Requests.{Held, Request}
use Rattle.p3_pcs.specs.Scheme.{Scheme}
use Rattle.p3_stark_pcs.specs.Scheme.{StarkScheme}
use Rattle.fri_records.specs.declared.records.Matrix.{Matrix}
use Rattle.fri_records.specs.declared.records.Batch.{Batch}
use Rattle.fri_statement.specs.Setting.{SchemeFields}
use Rattle.fri_commitments.specs.declared.committed.Committed.{Committed}
use Rattle.fri_numbers.specs.Numbers.{extension_of, extension_numbers}
use Rattle.fri_numbers.specs.Claims.{PointNumbers, MatrixNumbers, BatchNumbers}
use Rattle.fri_numbers.specs.Listed.{domain_committed}
use Rattle.fri_commitments.specs.Committed.{IsCommittedTo}
use Rattle.std.specs.List.{AllZip}
use Rattle.p3_challenger_sha256.specs.declared.sha256_challenger.Sha256Challenger.{Sha256Challenger}
use Rattle.fri_records.specs.declared.records.BatchClaims.{BatchClaims}
use Rattle.fri_numbers.specs.Claims.{batch_listed}

module _ {F E : Type 0} (f : SchemeFields F E) where
  -- what is claimed at a point of polynomials: their values there
  abbrev pub values_opened : Held E → List ℕ → PointNumbers
  values_opened h z =
      record { point = z; values = map (extension_numbers f) (h.values_at (extension_of f z)) }

  -- what is claimed of a matrix that is opened, whose committed polynomials these are: on the
  -- domain on which it was committed to, at each of its points, their values there
  abbrev pub matrix_opened : (hides : Bool) → Held E → Matrix → MatrixNumbers
  matrix_opened hides h m = record {
    shift = (domain_committed hides m.domain).shift;
    log_size = (domain_committed hides m.domain).log_size;
    points = map (values_opened h) (lists m.points.items);
  }

  module _ {Dom C D Proof Error ProverError : Type 0}
      (r : Scheme E C F Dom (List ℕ) D Proof Error ProverError)
      (t : StarkScheme E F Dom D ProverError) (hides : Bool) (shift_of : Dom → F)
      (log_size_of : Dom → ℕ) where
    -- what is claimed of a batch: the commitment to it, and of each of its matrices the values of
    -- the polynomials that were committed to
    pub record IsOpenedBy (claimed : BatchNumbers) (batch : Batch) : Type 0 where
      pub commitment : List ℕ
      pub datum : D
      pub written : claimed.commitment ≡ Ok commitment
      pub committed : IsCommittedTo f r t hides shift_of log_size_of commitment datum batch
      pub matrices : claimed.matrices ≡ zip_with (matrix_opened hides)
          (r.committed_polynomials datum) batch.matrices.items

-- a request to open a datum at these points
abbrev pub request_for : {D E : Type 0} → D → List (List E) → Request D E
request_for datum points = record { datum = datum; points = points }

-- requests to open what is kept, each at its points
abbrev pub requests_for : {D Dom E : Type 0} → List (Committed D Dom) → List (List (List E))
    → List (Request D E)
requests_for kept points = zip_with (λ c zs. request_for c.data zs) kept points

module _ {F E : Type 0} (f : SchemeFields F E) {P Dom D Proof Error ProverError : Type 0}
    (rules : P → Scheme E (Sha256Challenger F) F Dom (List ℕ) D Proof Error ProverError)
    (shift_of : Dom → F) (log_size_of : Dom → ℕ) (IsScheme : P → Type 0) where
  module _ (hides : Bool) (stark_rules : P → StarkScheme E F Dom D ProverError)
      (batches : List Batch) where
    -- the scheme's openings of the batches
    pub record AreOpenings (records : List BatchClaims) : Type 0 where
      pub scheme : P
      pub is_of : IsScheme scheme
      pub opened : AllZip (IsOpenedBy f (rules scheme) (stark_rules scheme) hides shift_of
          log_size_of) (map batch_listed records) batches
