-- What a proof is bound to: the statement that records make, and the state in which the opening
-- begins.
use Rattle.std.specs.Prelude.{ℕ, Bool, List, [], ◌∷◌, map, length, IsOk}
use Rattle.std.specs.Result.{result_unwrap_or}
use Rattle.algebra.specs.Field.{FieldOps}
use Rattle.algebra.specs.Nested.{lists}
use Rattle.hex.specs.Hex.{decode_of}
use Rattle.p3_challenger_sha256.specs.declared.sha256_challenger.Sha256Challenger.{Sha256Challenger}
use Rattle.p3_fri_relation.specs.Setting as setting
use Rattle.fri_statement.specs.Setting.{SchemeFields}
use Rattle.fri_statement.specs.declared.stated.StatedMatrix.{StatedMatrix}
use Rattle.fri_statement.specs.declared.stated.StatedCommitment.{StatedCommitment}
use Rattle.fri_statement.specs.Statement.{OpenedMatrix, OpenedCommitment, statement_absorbed}
use Rattle.fri_records.specs.declared.records.Parameters.{Parameters}
use Rattle.fri_records.specs.declared.records.Matrix.{Matrix}
use Rattle.fri_records.specs.declared.records.Batch.{Batch}
use Rattle.fri_records.specs.declared.records.BatchClaims.{BatchClaims}
use Rattle.fri_records.specs.Records.{parameters_in}
use Rattle.fri_numbers.specs.Claims.{PointNumbers, MatrixNumbers, BatchNumbers, batch_listed}
use Rattle.fri_numbers.specs.Listed.{domain_committed}

-- a context is the hex text of bytes
abbrev pub IsContext : (text : List ℕ) → Type 0
IsContext text = IsOk (decode_of text)

-- these bytes
abbrev pub context_listed : (text : List ℕ) → List ℕ
context_listed text = result_unwrap_or (decode_of text) []

-- as many columns as values at the first point
abbrev pub width_claimed : List PointNumbers → ℕ
width_claimed [] = 0
width_claimed (p ∷ _) = length p.values

-- what claims state
abbrev pub matrix_claimed : MatrixNumbers → OpenedMatrix
matrix_claimed m = record {
  shift = m.shift;
  log_size = m.log_size;
  width = width_claimed m.points;
  points = map (λ p. p.point) m.points;
}

abbrev pub batch_claimed : BatchNumbers → OpenedCommitment
batch_claimed b = record {
  digest = result_unwrap_or b.commitment [];
  matrices = map matrix_claimed b.matrices;
}

-- what a request states, once its batches have commitments
abbrev pub matrix_asked : (hides : Bool) → Matrix → OpenedMatrix
matrix_asked hides m = record {
  shift = (domain_committed hides m.domain).shift;
  log_size = (domain_committed hides m.domain).log_size;
  width = m.width;
  points = lists m.points.items;
}

abbrev pub batch_asked : (hides : Bool) (commitment : List ℕ) → Batch → OpenedCommitment
batch_asked hides commitment batch = record {
  digest = commitment;
  matrices = map (matrix_asked hides) batch.matrices.items;
}

module _ {E Dom : Type 0} (numbers_of : E → List ℕ) (shift_of log_size_of : Dom → ℕ) where
  -- what is stated, by the numbers of points and of domains
  abbrev pub matrix_stated : StatedMatrix E Dom → OpenedMatrix
  matrix_stated m = record {
    shift = shift_of m.domain;
    log_size = log_size_of m.domain;
    width = m.width;
    points = map numbers_of m.points.items;
  }

  abbrev pub commitment_stated : StatedCommitment E Dom → OpenedCommitment
  commitment_stated c = record {
    digest = c.commitment;
    matrices = map matrix_stated c.matrices.items;
  }

-- the state of a challenger over a prime field that has absorbed a statement, from the state in
-- which it began
abbrev pub bound_by : {F : Type 0} (order : ℕ) (canonical : F → ℕ) (base : FieldOps F)
    (begun : Sha256Challenger F) (context : List ℕ) → setting.Parameters
    → List OpenedCommitment → Sha256Challenger F
bound_by order canonical base begun context p commitments =
    statement_absorbed order canonical base begun
    (record { context = context; parameters = p; commitments = commitments })

module _ {F E : Type 0} (f : SchemeFields F E) where
  -- the same over these fields
  abbrev pub bound : (begun : Sha256Challenger F) (context : List ℕ) → setting.Parameters
      → List OpenedCommitment → Sha256Challenger F
  bound begun context p commitments =
      bound_by f.order f.canonical f.relation.base begun context p commitments

  -- the statement of these records
  abbrev pub state_bound : (begun : Sha256Challenger F) (context : List ℕ) → Parameters
      → List BatchClaims → Sha256Challenger F
  state_bound begun context parameters records =
      bound begun (context_listed context) (parameters_in parameters)
      (map batch_claimed (map batch_listed records))
