-- What the plain scheme keeps of a batch, and which requests it refuses to open.
use Rattle.std.specs.Prelude.{◌≢◌, ℕ, List, map, All}
use Rattle.std.specs.Prelude.{string_bytes, false}
use Rattle.std.specs.List.{AllZip}
use Rattle.std.specs.declared.alloc.Global.{Global}
use Rattle.std.specs.declared.vec.Vec.{Vec}
use Rattle.p3_field_core.specs.declared.element_bytes.ElementBytes.{Ghosts}
use Rattle.p3_challenger_sha256.specs.declared.sha256_challenger.Sha256Challenger.{Sha256Challenger}
use Rattle.p3_challenger_sha256.specs.Sha256.{start, least_witness}
use Rattle.p3_mmcs.specs.declared.sha256_mmcs.prover_data.Sha256ProverData.{Sha256ProverData}
use Rattle.p3_mmcs.specs.ProverData.{matrices_of, root_over}
use Rattle.p3_pcs.specs.Claims.{zip_with}
use Rattle.p3_pcs.specs.Requests as plain
use Rattle.p3_stark_pcs.specs.Evaluations.{HasPolynomials}
use Rattle.p3_fri_folding.specs.declared.error.FriProverError.{FriProverError}
use Rattle.p3_fri_folding.specs.declared.error.FriProverError.TheVariants.{OutOfMemory}
use Rattle.p3_fri_relation.specs.Setting as setting
use Rattle.p3_fri_openings.specs.Rounds.{HasCoset}
use Rattle.p3_fri_openings.specs.Held.{held_of, HoldsWords}
use Rattle.p3_fri_opening_prover.specs.Setting.{OpeningSetting}
use Rattle.p3_fri_two_adic.specs.Refusals.{OpenRefusal}
use Rattle.fri_records.specs.declared.records.Batch.{Batch}
use Rattle.fri_records.specs.declared.records.Request.{Request}
use Rattle.fri_records.specs.Records.{parameters_in}
use Rattle.fri_statement.specs.Setting.{SchemeFields, sha256_setting}
use Rattle.fri_verification.specs.Bound.{context_listed, batch_asked, bound}
use Rattle.fri_requests.specs.Matrices.{held_listed}
use Rattle.fri_opening.specs.Openings.{request_for}
use Rattle.fri_commitments.specs.Requests.{CanOpen, points_listed}

-- over trees whose elements have so many bytes each, of the inputs and of the rounds
module _ {F E : Type 0} (f : SchemeFields F E) (input_length : ℕ) where
  -- elements by their bytes, and what is kept of a batch then
  abbrev pub input_bytes : Ghosts F
  input_bytes = record { LEN = input_length; bytes = f.bytes }

  abbrev pub InputData : Type 0
  InputData = Sha256ProverData F input_bytes

  -- what the plain scheme keeps of a batch: data that may be opened and is of low degree, of the
  -- polynomials of the matrices that the batch lists
  pub record KeepsBatch (log_blowup : ℕ) (datum : InputData) (batch : Batch) : Type 0 where
    pub openable : All (HasCoset f.relation.two_adicity) (matrices_of datum)
    pub low_degree : All (HoldsWords f.relation log_blowup) (matrices_of datum)
    pub polynomials : AllZip HasPolynomials (held_of f.relation matrices_of log_blowup datum)
        (map (held_listed f) batch.matrices.items)

  module _ (round_length : ℕ) where
    abbrev pub round_bytes : Ghosts E
    round_bytes = record { LEN = round_length; bytes = f.extension_bytes }

    -- what the scheme's openings stand on with these parameters: trees over both fields, and the
    -- least witness that passes
    abbrev pub sha256_opening : setting.Parameters → OpeningSetting F E (Sha256Challenger F)
        InputData (Sha256ProverData E round_bytes)
        (List ℕ) (Vec (Vec (List ℕ) Global) Global) (List ℕ) (Vec (Vec (List ℕ) Global) Global)
    sha256_opening p = record {
      setting = sha256_setting f;
      parameters = p;
      committed = matrices_of;
      commitment_of = root_over;
      round_committed = matrices_of;
      round_commitment_of = root_over;
      solution = least_witness f.order f.canonical f.relation.base;
      most_bits = 63;
      max_log_height = f.relation.two_adicity;
    }

    -- why the scheme refuses to open data from a challenger's state on, other than for want of
    -- memory
    pub record Refuses (p : setting.Parameters) (c : Sha256Challenger F)
        (requests : List (plain.Request InputData E)) (e : FriProverError) : Type 0 where
      pub stands : OpenRefusal (sha256_opening p) c requests e
      pub not_memory : e ≢ OutOfMemory

    -- a request that can be opened, and isn't: what is kept of its batches, at the points that they
    -- list, the plain scheme refuses to open for this reason, from the state that is bound to the
    -- request
    pub record IsRefusedRequest (request : Request) (e : FriProverError) : Type 0 where
      pub request_opens : CanOpen f false request
      pub kept : List InputData
      pub keeps : AllZip (KeepsBatch request.parameters.log_blowup) kept request.commitments.items
      pub refused : Refuses (parameters_in request.parameters)
          (bound f start (context_listed (string_bytes request.context))
          (parameters_in request.parameters)
          (zip_with (batch_asked false) (map root_over kept) request.commitments.items))
          (zip_with request_for kept (points_listed f request.commitments.items)) e
