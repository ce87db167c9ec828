use Rattle.std.proofs.Common.{◌≤◌, All, subst, arith}
use Rattle.std.proofs.lemmas.List.{take_all}
use Rattle.std.proofs.lemmas.List.Elements.{All-more}
use Rattle.p3_matrix.specs.Matrix.{matrix_width}
use Rattle.p3_fri_batch.proofs.opened.greatest_width.Goals as goal

pub loop-opened-preserved : goal.loop-opened-preserved
loop-opened-preserved g c =
    All-more (λ m. matrix_width m.matrix.now ≤ c.max-greatest.result) c.args.matrices.now
    c.loop-opened.opened-index c.opened-item.result c.loop-opened-test.true
    (λ k d l. omega (arith, c.loop-opened.invariant k d l, c.max-greatest.ensures))
    (subst (λ m. matrix_width m.matrix.now ≤ c.max-greatest.result) c.opened-item.is
    (omega (arith, c.width.ensures.columns, c.max-greatest.ensures)))

pub returns : goal.returns
returns g c =
    subst (λ ms. All (λ m. matrix_width m.matrix.now ≤ c.loop-opened.greatest) ms)
    (take_all c.loop-opened.opened-index c.args.matrices.now c.loop-opened-test.false)
    c.loop-opened.invariant
