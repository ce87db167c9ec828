use Rattle.std.proofs.Common.{All, take}
use Rattle.std.specs.List.{AllZip}
use Rattle.algebra.specs.Field.{multiple}
use Rattle.fri_schemes.specs.Rows.{FitsRows}
use Rattle.fri_numbers.specs.Listed.{IsListedBy}
use Rattle.fri_numbers.specs.Shapes.{IsMatrixBelow}
use Rattle.fri_numbers.proofs.matrices.batch_evaluations.Given as goal

abbrev pub invariant-loop-index : goal.invariant-loop-index
invariant-loop-index g l = record {
  fit : All (λ e. FitsRows g.F.TwoAdicField.TWO_ADICITY l.hides l.log_blowup e.0.log_size e.1) l.all.items;
  listed : AllZip (IsListedBy (λ n. multiple g.F.Field.ops n) (λ d. g.F.PrimeField64.canonical d.shift) (λ d. d.log_size) l.hides) l.all.items
      (take l.index l.batch.matrices.items);
  well_formed : All (IsMatrixBelow g.F.PrimeField64.ORDER_U64 g.F.TwoAdicField.TWO_ADICITY l.hides l.log_blowup) (take l.index l.batch.matrices.items);
}
