use Rattle.std.proofs.Common.{◌≡◌, ◌∷◌, [], map, take}
use Rattle.std.specs.List.{flat_map}
use Rattle.p3_challenger_fs.specs.Separator.{description}
use Rattle.fri_statement.specs.Numbers.{PrimeFields}
use Rattle.fri_statement.specs.Stated.{opened_matrix}
use Rattle.fri_statement.specs.Statement.{matrix_label}
use Rattle.fri_statement.proofs.Pushes.{with_labels}
use Rattle.fri_statement.proofs.absorption.push_matrices.Given as goal

abbrev pub fields : (g : goal.Over) → PrimeFields g.row.F.Denot g.row.EF.Denot
fields g = record {
  base = g.F.Field.ops;
  order = g.F.PrimeField64.ORDER_U64;
  canonical = g.F.PrimeField64.canonical;
  degree = g.EF.ExtensionField.DIMENSION;
  coefficients = g.EF.ExtensionField.coefficients;
  of_coefficients = g.EF.ExtensionField.of_coefficients;
}

abbrev pub invariant-loop-matrix : goal.invariant-loop-matrix
invariant-loop-matrix g l = description l.separator ≡ with_labels (description l.fn.separator)
    (flat_map (λ m. matrix_label m ∷ [])
    (map (opened_matrix (fields g) (λ d. d.shift) (λ d. d.log_size)) (take l.matrix-index l.matrices)))
