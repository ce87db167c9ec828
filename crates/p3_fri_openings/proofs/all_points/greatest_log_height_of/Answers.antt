use Rattle.std.proofs.Common.{◌≡◌, ◌≤◌, inr, arith, sym, ◌∙◌}
use Rattle.p3_fri_openings.specs.Rounds.{HasCoset, log_height}
use Rattle.p3_fri_openings.proofs.Attained.{attained_next}
use Rattle.p3_fri_openings.proofs.First.{at_item, to_the_end}
use Rattle.p3_fri_openings.proofs.Log2.{log2_is}
use Rattle.p3_fri_openings.proofs.Pushed.{weaker_next}
use Rattle.p3_fri_openings.proofs.all_points.greatest_log_height_of.Goals as goal

pub loop-matrix-preserved : goal.loop-matrix-preserved
loop-matrix-preserved g c =
    let matrix = c.matrix-item.result in
    let coset = at_item (HasCoset g.F.TwoAdicField.TWO_ADICITY) c.args.matrices.now
    c.loop-matrix.matrix-index
    matrix c.loop-matrix-test.true c.matrix-item.is c.requires.cosets in
    let is = log2_is _ _ (c.log2_strict_usize.ensures.power ∙ c.height.ensures) in
    let own = coset.within in
    let old = c.loop-matrix.greatest in
    let new = c.max-greatest.result in
    record {
      greatest = weaker_next (λ m. log_height m ≤ old) (λ m. log_height m ≤ new) c.args.matrices.now
          c.loop-matrix.matrix-index matrix c.loop-matrix-test.true c.matrix-item.is
          (λ m h. omega (arith, h, c.max-greatest.ensures)) c.loop-matrix.invariant.greatest
          (omega (arith, is, c.max-greatest.ensures));
      attained = attained_next (λ n m. log_height m ≡ n) c.args.matrices.now
          c.loop-matrix.matrix-index matrix old c.log2_strict_usize.result new
          c.loop-matrix-test.true c.matrix-item.is (omega (arith, c.max-greatest.ensures))
          (λ l. omega (arith, l, c.max-greatest.ensures)) (inr (sym is))
          c.loop-matrix.invariant.attained;
      within = omega (arith, is, own, c.loop-matrix.invariant.within, c.max-greatest.ensures);
    }

pub returns-clause-greatest : goal.returns-clause-greatest
returns-clause-greatest g c =
    to_the_end (λ m. log_height m ≤ c.loop-matrix.greatest) c.args.matrices.now
    c.loop-matrix.matrix-index c.loop-matrix-test.false c.loop-matrix.invariant.greatest
