-- What the plain scheme claims of batches of matrices that records list.
use Rattle.std.specs.Prelude.{◌≡◌, ℕ, false, List, map, Ok}
use Rattle.fri_records.specs.declared.records.Matrix.{Matrix}
use Rattle.fri_records.specs.declared.records.Batch.{Batch}
use Rattle.fri_statement.specs.Setting.{SchemeFields}
use Rattle.fri_numbers.specs.Claims.{MatrixNumbers, BatchNumbers}
use Rattle.fri_requests.specs.Matrices.{held_listed}
use Rattle.fri_requests.specs.Commitments.{IsCommitmentTo}
use Rattle.fri_opening.specs.Openings.{matrix_opened}

module _ {F E : Type 0} (f : SchemeFields F E) where
  -- of the plain scheme: on a matrix' domain, the values of its columns' polynomials
  abbrev pub opened_numbers : Matrix → MatrixNumbers
  opened_numbers m = matrix_opened f false (held_listed f m) m

  -- of a batch: a commitment to it, and of each of its matrices those values
  pub record IsOpened (log_blowup : ℕ) (claimed : BatchNumbers) (batch : Batch) : Type 0 where
    pub commitment : List ℕ
    pub written : claimed.commitment ≡ Ok commitment
    pub committed : IsCommitmentTo f log_blowup commitment batch
    pub matrices : claimed.matrices ≡ map opened_numbers batch.matrices.items
