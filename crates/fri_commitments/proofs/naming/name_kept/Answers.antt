use Rattle.std.proofs.Common.{◌<◌, ◌≤◌, map, refl, sym, subst}
use Rattle.p3_matrix.specs.Matrix.{matrix_width}
use Rattle.p3_mmcs.specs.ProverData.{matrices_of}
use Rattle.fri_commitments.proofs.Keeping.{more_alike, all_alike, alike_at}
use Rattle.fri_commitments.proofs.naming.name_kept.Goals as goal

pub loop-index-preserved : goal.loop-index-preserved
loop-index-preserved g c =
    more_alike (λ k. map (λ m. matrix_width m) (matrices_of k.data)) (λ b. map (λ m. m.width) b.matrices.items)
    c.args.all.now c.args.asked.now c.loop-index.index c.index-all-index.result c.index-asked-index.result
    (subst (λ n. c.loop-index.index < n) (sym c.if-all-asked.false) c.loop-index-test.true)
    c.loop-index-test.true c.index-all-index.is c.index-asked-index.is
    (c.if-not-name_datum.ensures.0 refl) c.loop-index.invariant

pub returns-then-not-name_datum : goal.returns-then-not-name_datum
returns-then-not-name_datum g c = (
  λ t. cc,
  λ e. c.if-not-name_datum.ensures.1 (alike_at (λ k. map (λ m. matrix_width m) (matrices_of k.data))
      (λ b. map (λ m. m.width) b.matrices.items) c.args.all.now c.args.asked.now c.loop-index.index
      c.index-all-index.result c.index-asked-index.result
      (subst (λ n. c.loop-index.index < n) (sym c.if-all-asked.false) c.loop-index-test.true)
      c.loop-index-test.true c.index-all-index.is c.index-asked-index.is e),
)

pub returns : goal.returns
returns g c = (
  λ t. all_alike (λ k. map (λ m. matrix_width m) (matrices_of k.data)) (λ b. map (λ m. m.width) b.matrices.items)
      c.args.all.now c.args.asked.now c.loop-index.index
      (subst (λ n. n ≤ c.loop-index.index) (sym c.if-all-asked.false) c.loop-index-test.false)
      c.loop-index-test.false c.loop-index.invariant,
  λ e. refl,
)
