use Rattle.std.proofs.Common.{All, take}
use Rattle.std.specs.List.{AllZip}
use Rattle.algebra.specs.Field.{multiple}
use Rattle.fri_schemes.specs.Rows.{FitsRows}
use Rattle.fri_commitments.specs.Committed.{ListsBy}
use Rattle.fri_numbers.specs.Shapes.{IsMatrixBelow}
use Rattle.fri_commitments.specs.Requests.{AllMatrices}
use Rattle.fri_commitments.proofs.reading.listed_batches.Given as goal

abbrev pub invariant-loop-index : goal.invariant-loop-index
invariant-loop-index g l = record {
  listed : AllZip (ListsBy (λ n. multiple g.F.Field.ops n) (λ d. g.F.PrimeField64.canonical d.shift) (λ d. d.log_size) l.hides) l.all.items (take l.index l.batches);
  fit : All (λ b. All (λ e. FitsRows g.F.TwoAdicField.TWO_ADICITY l.hides l.log_blowup e.0.log_size e.1) b.evaluations.items) l.all.items;
  well_formed : AllMatrices (IsMatrixBelow g.F.PrimeField64.ORDER_U64 g.F.TwoAdicField.TWO_ADICITY l.hides l.log_blowup) (take l.index l.batches);
}
