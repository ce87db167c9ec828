use Rattle.std.proofs.Common.{◌≤◌, All, arith}
use Rattle.p3_fri_openings.specs.Rounds.{HasHeight, IsRound, log_height}
use Rattle.p3_fri_openings.proofs.Attained.{attained_next}
use Rattle.p3_fri_openings.proofs.First.{at_item, to_the_end}
use Rattle.p3_fri_openings.proofs.Pushed.{weaker_next}
use Rattle.p3_fri_openings.proofs.all_points.greatest_log_height.Goals as goal

pub greatest_log_height_of-requires : goal.greatest_log_height_of-requires
greatest_log_height_of-requires g c =
    let round = at_item (IsRound g.F.TwoAdicField.TWO_ADICITY) c.args.rounds.now
    c.loop-round.round-index
    c.round-item.result c.loop-round-test.true c.round-item.is c.requires.rounds in
    record { cosets = round.cosets }

pub loop-round-preserved : goal.loop-round-preserved
loop-round-preserved g c =
    let old = c.loop-round.greatest in
    let new = c.max-greatest.result in
    record {
      greatest = weaker_next (λ r. All (λ m. log_height m ≤ old) r.matrices.now)
          (λ r. All (λ m. log_height m ≤ new) r.matrices.now) c.args.rounds.now
          c.loop-round.round-index c.round-item.result c.loop-round-test.true c.round-item.is
          (λ r h k d l. let b = h k d l in omega (arith, b, c.max-greatest.ensures))
          c.loop-round.invariant.greatest
          (λ k d l. let b = c.greatest_log_height_of.ensures.greatest k d l in
          omega (arith, b, c.max-greatest.ensures));
      attained = attained_next (λ n r. HasHeight n r) c.args.rounds.now c.loop-round.round-index
          c.round-item.result old c.greatest_log_height_of.result new c.loop-round-test.true
          c.round-item.is (omega (arith, c.max-greatest.ensures))
          (λ l. omega (arith, l, c.max-greatest.ensures))
          c.greatest_log_height_of.ensures.attained c.loop-round.invariant.attained;
      within = omega (
        arith,
        c.greatest_log_height_of.ensures.within,
        c.loop-round.invariant.within,
        c.max-greatest.ensures,
      );
    }

pub returns-clause-greatest : goal.returns-clause-greatest
returns-clause-greatest g c =
    to_the_end (λ r. All (λ m. log_height m ≤ c.loop-round.greatest) r.matrices.now)
    c.args.rounds.now
    c.loop-round.round-index c.loop-round-test.false c.loop-round.invariant.greatest
