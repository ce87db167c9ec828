use Rattle.p3_fri_openings.specs.Rounds.{HasCoset}
use Rattle.p3_fri_openings.proofs.First.{one_more, to_the_end}
use Rattle.p3_fri_openings_tests.proofs.rounds.have_cosets.Goals as goal

pub loop-matrix-preserved : goal.loop-matrix-preserved
loop-matrix-preserved c =
    one_more (HasCoset 27) c.args.matrices.now
    c.loop-matrix.matrix-index c.matrix-item.result c.loop-matrix-test.true c.matrix-item.is
    c.loop-matrix.invariant
    (c.has_coset.ensures c.if-not-has_coset.false)

pub returns : goal.returns
returns c = λ t.
    to_the_end (HasCoset 27) c.args.matrices.now
    c.loop-matrix.matrix-index c.loop-matrix-test.false c.loop-matrix.invariant
