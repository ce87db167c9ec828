use Rattle.p3_fri_openings.specs.Rounds.{HasCoset}
use Rattle.p3_fri_openings.specs.Openable.{MayBeOpened}
use Rattle.p3_fri_openings.proofs.OpenableRequests.{openable}
use Rattle.p3_fri_openings.proofs.openable.are_openable.Goals as goal

pub returns-clause-exactly : goal.returns-clause-exactly
returns-clause-exactly g c = (
  λ t. record {
    cosets = c.stand_on_cosets.ensures.0 c.if-not-stand_on_cosets.false;
    points = c.have_points.ensures.0 c.if-not-have_points.false;
    some_matrix = c.have_matrix.ensures.0 t;
  },
  λ may. c.have_matrix.ensures.1 may.some_matrix,
)

pub returns-clause-openable : goal.returns-clause-openable
returns-clause-openable g c = λ t held.
    let may : MayBeOpened (HasCoset g.F.TwoAdicField.TWO_ADICITY) g.M.Mmcs.committed
    c.args.requests.now = record {
      cosets = c.stand_on_cosets.ensures.0 c.if-not-stand_on_cosets.false;
      points = c.have_points.ensures.0 c.if-not-have_points.false;
      some_matrix = c.have_matrix.ensures.0 t;
    } in
    openable (HasCoset g.F.TwoAdicField.TWO_ADICITY) g.M.Mmcs.committed held c.args.requests.now may
