use Rattle.std.proofs.Common.{◌<◌, ◌≤◌, refl, sym, subst, ◌∙◌}
use Rattle.p3_matrix.specs.Matrix.{matrix_width}
use Rattle.fri_commitments.proofs.Keeping.{more_alike, all_alike, alike_at}
use Rattle.fri_commitments.proofs.naming.name_widths.Goals as goal

pub loop-index-preserved : goal.loop-index-preserved
loop-index-preserved g c =
    more_alike (λ k. matrix_width k) (λ m. m.width) c.args.kept.now c.args.matrices.now c.loop-index.index
    c.index-kept-index.result c.index-matrices-index.result
    (subst (λ n. c.loop-index.index < n) (sym c.if-kept-matrices.false) c.loop-index-test.true)
    c.loop-index-test.true c.index-kept-index.is c.index-matrices-index.is
    (sym c.width-width.ensures.columns ∙ sym c.if-matrix-width.false)
    c.loop-index.invariant

pub returns-then-matrix-width : goal.returns-then-matrix-width
returns-then-matrix-width g c = (
  λ t. cc,
  λ e. absurd (c.if-matrix-width.true (sym (alike_at (λ k. matrix_width k) (λ m. m.width) c.args.kept.now c.args.matrices.now
      c.loop-index.index c.index-kept-index.result c.index-matrices-index.result
      (subst (λ n. c.loop-index.index < n) (sym c.if-kept-matrices.false) c.loop-index-test.true)
      c.loop-index-test.true c.index-kept-index.is c.index-matrices-index.is e)
      ∙ sym c.width-width.ensures.columns)),
)

pub returns : goal.returns
returns g c = (
  λ t. all_alike (λ k. matrix_width k) (λ m. m.width) c.args.kept.now c.args.matrices.now c.loop-index.index
      (subst (λ n. n ≤ c.loop-index.index) (sym c.if-kept-matrices.false) c.loop-index-test.false)
      c.loop-index-test.false c.loop-index.invariant,
  λ e. refl,
)
