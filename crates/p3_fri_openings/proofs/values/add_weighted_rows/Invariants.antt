use Rattle.std.proofs.Common.{◌≡◌, ◌<◌, ◌*◌, ℕ, get_or, length}
use Rattle.p3_matrix.specs.Matrix.{rows}
use Rattle.p3_fri_openings.specs.Sums.{weighted_sum}
use Rattle.p3_fri_openings.proofs.values.add_weighted_rows.Given as goal

abbrev pub invariant-loop-block : goal.invariant-loop-block
invariant-loop-block g l =
    (j : ℕ) (d : g.row.EF.Denot) → j < length l.fn.sums → get_or l.sums j d
    ≡ g.EF.Field.ops.add (get_or l.fn.sums j d) (weighted_sum g.F.Field.ops g.EF.Field.ops
    g.EF.ExtensionField.lift (128 * l.block) l.coset l.inverses (rows l.matrix) j)
