-- The statement that a call's arguments make.
use Rattle.std.specs.Prelude.{ℕ, List, map}
use Rattle.p3_fri_relation.specs.Setting.{Parameters}
use Rattle.fri_statement.specs.declared.stated.StatedMatrix.{StatedMatrix}
use Rattle.fri_statement.specs.declared.stated.StatedCommitment.{StatedCommitment}
use Rattle.fri_statement.specs.Numbers.{PrimeFields, coefficient_numbers}
use Rattle.fri_statement.specs.Statement.{OpenedMatrix, OpenedCommitment, Statement}

module _ {F E Dom : Type 0} (f : PrimeFields F E) (shift_of : Dom → F) (log_size_of : Dom → ℕ) where
  abbrev pub opened_matrix : StatedMatrix E Dom → OpenedMatrix
  opened_matrix m = record {
    shift = f.canonical (shift_of m.domain);
    log_size = log_size_of m.domain;
    width = m.width;
    points = map (coefficient_numbers f) m.points.items;
  }

  abbrev pub opened_commitment : StatedCommitment E Dom → OpenedCommitment
  opened_commitment c =
      record { digest = c.commitment; matrices = map opened_matrix c.matrices.items }

  abbrev pub statement_of : (context : List ℕ) → Parameters → List (StatedCommitment E Dom)
      → Statement
  statement_of context parameters commitments = record {
    context = context;
    parameters = parameters;
    commitments = map opened_commitment commitments;
  }
