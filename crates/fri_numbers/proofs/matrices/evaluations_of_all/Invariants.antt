use Rattle.std.proofs.Common.{◌≡◌, ◌++◌, All, length, false}
use Rattle.std.specs.List.{AllZip}
use Rattle.algebra.specs.Field.{multiple}
use Rattle.fri_schemes.specs.Rows.{FitsRows}
use Rattle.fri_numbers.specs.Listed.{IsListedBy}
use Rattle.fri_numbers.specs.Elements.{record_of}
use Rattle.fri_numbers.specs.Shapes.{IsMatrixBelow}
use Rattle.fri_numbers.proofs.matrices.evaluations_of_all.Given as goal

abbrev pub invariant-loop-matrix : goal.invariant-loop-matrix
invariant-loop-matrix g l = record {
  fit : All (λ e. FitsRows g.F.TwoAdicField.TWO_ADICITY false l.log_blowup e.0.log_size e.1) l.all.items;
  listed : AllZip (λ e m. IsListedBy (λ n. multiple g.F.Field.ops n) (λ d. g.F.PrimeField64.canonical d.shift) (λ d. d.log_size) false e
      (record_of g.F.PrimeField64.canonical m)) l.all.items l.yielded;
  well_formed : All (λ m. IsMatrixBelow g.F.PrimeField64.ORDER_U64 g.F.TwoAdicField.TWO_ADICITY false l.log_blowup
      (record_of g.F.PrimeField64.canonical m)) l.yielded;
  whole : l.yielded ++ l.matrix-iterator.rest.items ≡ l.fn.matrices.items;
  count : l.matrix-iterator.rest.len ≡ length l.matrix-iterator.rest.items;
}
