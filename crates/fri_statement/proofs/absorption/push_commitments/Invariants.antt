use Rattle.std.proofs.Common.{◌≡◌, map, take}
use Rattle.std.specs.List.{flat_map}
use Rattle.p3_challenger_fs.specs.Separator.{description}
use Rattle.fri_statement.specs.Numbers.{PrimeFields}
use Rattle.fri_statement.specs.Stated.{opened_commitment}
use Rattle.fri_statement.specs.Statement.{commitment_labels}
use Rattle.fri_statement.proofs.Pushes.{with_labels}
use Rattle.fri_statement.proofs.absorption.push_commitments.Given as goal

abbrev pub fields : (g : goal.Over) → PrimeFields g.row.F.Denot g.row.EF.Denot
fields g = record {
  base = g.F.Field.ops;
  order = g.F.PrimeField64.ORDER_U64;
  canonical = g.F.PrimeField64.canonical;
  degree = g.EF.ExtensionField.DIMENSION;
  coefficients = g.EF.ExtensionField.coefficients;
  of_coefficients = g.EF.ExtensionField.of_coefficients;
}

abbrev pub invariant-loop-commitment : goal.invariant-loop-commitment
invariant-loop-commitment g l = description l.separator ≡ with_labels (description l.fn.separator)
    (flat_map commitment_labels (map (opened_commitment (fields g) (λ d. d.shift) (λ d. d.log_size))
    (take l.commitment-index l.commitments)))
