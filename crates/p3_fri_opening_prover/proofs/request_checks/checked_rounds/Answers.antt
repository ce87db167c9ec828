use Rattle.std.proofs.Common.{map}
use Rattle.p3_pcs.specs.Requests.{request}
use Rattle.p3_fri_relation.specs.Setting.{Fields}
use Rattle.p3_fri_relation.specs.Views.{parameters_of}
use Rattle.p3_fri_opening_prover.proofs.Asked.{are_rounds, tall_rounds, off_rounds}
use Rattle.p3_fri_opening_prover.proofs.Asked.{gather_refused}
use Rattle.p3_fri_opening_prover.proofs.request_checks.checked_rounds.Given.{Over}
use Rattle.p3_fri_opening_prover.proofs.request_checks.checked_rounds.Goals as goal

abbrev fields_of : (g : Over) → Fields g.row.F.Denot g.row.EF.Denot
fields_of g = record {
  base = g.F.Field.ops;
  ext = g.EF.Field.ops;
  lift = g.EF.ExtensionField.lift;
  coefficients = g.EF.ExtensionField.coefficients;
  degree = g.EF.ExtensionField.DIMENSION;
  root = g.F.TwoAdicField.root;
  two_adicity = g.F.TwoAdicField.TWO_ADICITY;
  shift = g.F.Field.GENERATOR;
}

pub returns-in-Err-clause-refused : goal.returns-in-Err-clause-refused
returns-in-Err-clause-refused g c =
    gather_refused (fields_of g) (parameters_of c.args.params.now) g.InputMmcs.Mmcs.committed
    (map request c.args.requests.now) c.in-Err.refusal c.in-Err.ensures

pub returns-in-Ok-rounds_of_requests-clause-are_rounds :
    goal.returns-in-Ok-rounds_of_requests-clause-are_rounds
returns-in-Ok-rounds_of_requests-clause-are_rounds g c =
    let made = c.in-Ok-rounds_of_requests in
    are_rounds (fields_of g) (parameters_of c.args.params.now) g.InputMmcs.Mmcs.committed
    made.rounds.items c.args.requests.now made.ensures c.requires.openable

pub returns-in-Ok-rounds_of_requests-clause-tall_enough :
    goal.returns-in-Ok-rounds_of_requests-clause-tall_enough
returns-in-Ok-rounds_of_requests-clause-tall_enough g c =
    let made = c.in-Ok-rounds_of_requests in
    tall_rounds (fields_of g) (parameters_of c.args.params.now) g.InputMmcs.Mmcs.committed
    made.rounds.items c.args.requests.now made.ensures c.in-Ok.ensures.heights

pub returns-in-Ok-rounds_of_requests-clause-off :
    goal.returns-in-Ok-rounds_of_requests-clause-off
returns-in-Ok-rounds_of_requests-clause-off g c =
    let made = c.in-Ok-rounds_of_requests in
    off_rounds (fields_of g) (parameters_of c.args.params.now) g.InputMmcs.Mmcs.committed
    made.rounds.items c.args.requests.now made.ensures c.in-Ok.ensures.points
