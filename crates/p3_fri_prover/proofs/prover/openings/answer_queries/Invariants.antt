use Rattle.std.proofs.Common.{◌≡◌, ◌∷◌, [], ◌<◌, ℕ, length, map, get_or}
use Rattle.algebra.specs.Nested.{lists}
use Rattle.p3_matrix.specs.declared.dense.RowMajorMatrix.{RowMajorMatrix}
use Rattle.p3_fri_prover.specs.Openings.{index_into, OpensRows}
use Rattle.p3_fri_prover.proofs.prover.openings.answer_queries.Given as goal

abbrev pub invariant-loop-round : goal.invariant-loop-round
invariant-loop-round g l = record {
  count : length l.openings.items ≡ l.round;
  now : l.indices.items ≡ map (λ q. index_into l.log_arities q l.round) l.positions;
  each : (k : ℕ) (o : _) → k < l.round → (datum : g.row.M-ProverData.Denot)
      (matrix : RowMajorMatrix g.row.EF.Denot)
      → g.M.Mmcs.committed (get_or l.prover_data k datum) ≡ matrix ∷ []
      → OpensRows (g.M.Mmcs.opens l.mmcs) (get_or l.log_arities k 0) matrix
      (map (λ q. index_into l.log_arities q k) l.positions)
      (g.M.Mmcs.commitment_of (get_or l.prover_data k datum))
      (lists (get_or l.openings.items k o).sibling_values.items)
      (get_or l.openings.items k o).opening_proof;
}
