use Rattle.std.proofs.Common.{◌≡◌}
use Rattle.std.proofs.lemmas.Result.{IfOk-weaker, IfErr-weaker}
use Rattle.algebra.specs.Nested.{lists}
use Rattle.p3_matrix.specs.Matrix.{rows as matrix_rows, matrix_width}
use Rattle.p3_uni_stark_system.proofs.Held.{held_renamed}
use Rattle.p3_uni_stark_system.proofs.Keys.{columns_fault}
use Rattle.p3_uni_stark_system.proofs.preprocessing.commit_rows.Goals as goal

pub returns-clause-held : goal.returns-clause-held
returns-clause-held g c =
    IfOk-weaker c.commit_matrix.result _ _ (λ p h.
    held_renamed (g.P.Pcs.rules c.commit_matrix.new.scheme) g.P.UnivariateStarkPcs.ZK
    (λ k d. (d.shift ≡ g.F.Field.ONE) × (d.log_size ≡ k))
    (g.P.UnivariateStarkPcs.stark_rules c.commit_matrix.new.scheme) c.args.log_height
    (matrix_width c.in_ok-matrix.matrix) c.args.width (matrix_rows c.in_ok-matrix.matrix)
    (lists c.args.rows.now) c.in_ok-matrix.ensures.width c.in_ok-matrix.ensures.rows
    p.key p.prover_data h) c.commit_matrix.ensures.held

pub returns-clause-refused : goal.returns-clause-refused
returns-clause-refused g c =
    IfErr-weaker c.commit_matrix.result _ _ (λ e h.
    columns_fault (g.P.UnivariateStarkPcs.stark_rules c.args.scheme.now)
    g.P.UnivariateStarkPcs.ZK (λ k d. (d.shift ≡ g.F.Field.ONE) × (d.log_size ≡ k))
    c.args.log_height c.in_ok-matrix.matrix (lists c.args.rows.now) c.in_ok-matrix.ensures.rows
    e h) c.commit_matrix.ensures.refused
