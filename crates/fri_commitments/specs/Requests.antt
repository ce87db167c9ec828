-- Which requests can be committed to and opened.
use Rattle.std.specs.Prelude.{◌≢◌, ℕ, List, [], map, All}
use Rattle.std.specs.Prelude.{string_bytes, Bool, Option}
use Rattle.std.specs.List.{flat_map}
use Rattle.algebra.specs.Nested.{lists}
use Rattle.fri_records.specs.declared.records.Matrix.{Matrix}
use Rattle.fri_records.specs.declared.records.Batch.{Batch}
use Rattle.fri_records.specs.declared.records.Request.{Request}
use Rattle.fri_numbers.specs.Numbers.{extension_of}
use Rattle.fri_records.specs.Records.{AreProvers}
use Rattle.fri_statement.specs.Setting.{SchemeFields}
use Rattle.fri_verification.specs.Bound.{IsContext}
use Rattle.fri_commitments.specs.Preprocessing.{NamesPreprocessed}
use Rattle.fri_numbers.specs.Shapes.{IsMatrix, HasPoints}

-- `P` of each matrix of each batch
abbrev pub AllMatrices : (Matrix → Type 0) → List Batch → Type 0
AllMatrices P batches = All (λ b. All P b.matrices.items) batches

-- batches of such matrices, of which at most one is preprocessed
pub record AreBatchesOf (IsListed : Matrix → Type 0) (batches : List Batch) : Type 0 where
  pub matrices : AllMatrices IsListed batches
  pub preprocessed : (index : Option ℕ) × NamesPreprocessed index batches

module _ {F E : Type 0} (f : SchemeFields F E) where
  -- the same over these fields
  abbrev pub AreBatches : (hides : Bool) (log_blowup : ℕ) → List Batch → Type 0
  AreBatches hides log_blowup batches = AreBatchesOf (IsMatrix f hides log_blowup) batches

  -- the request can be committed to
  pub record CanCommit (hides : Bool) (request : Request) : Type 0 where
    pub parameters : AreProvers f.relation.two_adicity request.parameters
    pub batches : AreBatches hides request.parameters.log_blowup request.commitments.items

  -- and opened: the context is bytes, each matrix has points, and there is some matrix
  pub record CanOpen (hides : Bool) (request : Request) : Type 0 where
    pub context : IsContext (string_bytes request.context)
    pub committed : CanCommit hides request
    pub points : AllMatrices (HasPoints f) request.commitments.items
    pub some_matrix : flat_map (λ b. b.matrices.items) request.commitments.items ≢ []

  -- the points that batches list, matrix by matrix
  abbrev pub points_listed : List Batch → List (List (List E))
  points_listed batches =
      map (λ b. map (λ m. map (extension_of f) (lists m.points.items)) b.matrices.items) batches
