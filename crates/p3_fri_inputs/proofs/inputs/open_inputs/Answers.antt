use Rattle.std.proofs.lemmas.Slice.Zip.{AllZip-long}
use Rattle.p3_fri_relation.specs.Setting.{Fields}
use Rattle.p3_fri_relation.specs.Faults.{InputFault}
use Rattle.p3_fri_relation.specs.Inputs.{OpensInput}
use Rattle.p3_fri_relation.specs.Views.{claims_of, inputs_opened}
use Rattle.p3_fri_inputs.proofs.Assembly.{rows_of_opened, good_openings}
use Rattle.p3_fri_inputs.proofs.Refutations.{fault_is_exact, answer_is_exact, stands}
use Rattle.p3_fri_inputs.proofs.inputs.open_inputs.Given.{Over}
use Rattle.p3_fri_inputs.proofs.inputs.open_inputs.Goals.{In-Err}
use Rattle.p3_fri_inputs.proofs.inputs.open_inputs.Goals as goal

abbrev fields_of : (g : Over) → Fields g.row.F.Denot g.row.EF.Denot
fields_of g = record {
  base = g.F.Field.ops;
  ext = g.EF.Field.ops;
  lift = g.EF.ExtensionField.lift;
  coefficients = g.EF.ExtensionField.coefficients;
  degree = g.EF.ExtensionField.DIMENSION;
  root = g.F.TwoAdicField.root;
  two_adicity = g.F.TwoAdicField.TWO_ADICITY;
  shift = g.F.Field.GENERATOR;
}

-- what is wrong with an opening stands, whatever the challenge
refused : (g : Over) (c : In-Err g) → InputFault (fields_of g) c.args.params.now.log_blowup
    c.args.alpha c.args.log_global_max_height
    (claims_of (λ domain. domain.log_size) c.args.claims.now)
    (inputs_opened c.args.input_openings.now) (g.InputMmcs.Mmcs.opens c.args.input_mmcs.now)
    c.args.indices.now c.in-Err.error
refused g c =
    stands (fields_of g) c.args.params.now.log_blowup c.args.alpha c.args.log_global_max_height
    (claims_of (λ domain. domain.log_size) c.args.claims.now)
    (inputs_opened c.args.input_openings.now) (g.InputMmcs.Mmcs.opens c.args.input_mmcs.now)
    c.args.indices.now c.in-Err.error c.in-Err.ensures

pub returns-in-Err-clause-exact : goal.returns-in-Err-clause-exact
returns-in-Err-clause-exact g c =
    fault_is_exact (fields_of g) c.args.params.now.log_blowup c.args.alpha
    c.args.log_global_max_height (claims_of (λ domain. domain.log_size) c.args.claims.now)
    (inputs_opened c.args.input_openings.now) (g.InputMmcs.Mmcs.opens c.args.input_mmcs.now)
    (g.met.InputMmcs.Mmcs.shape_law c.args.input_mmcs.now) c.args.indices.now
    c.in-Err.error (refused g (goal.at.returns-in-Err-clause-exact g c).In-Err)

pub returns-in-Err-clause-fault : goal.returns-in-Err-clause-fault
returns-in-Err-clause-fault g c = refused g (goal.at.returns-in-Err-clause-fault g c).In-Err

pub sum_inputs-requires-clause-points : goal.sum_inputs-requires-clause-points
sum_inputs-requires-clause-points g c = c.in_default.ensures.0

pub sum_inputs-requires-clause-rows : goal.sum_inputs-requires-clause-rows
sum_inputs-requires-clause-rows g c =
    rows_of_opened (g.InputMmcs.Mmcs.opens c.args.input_mmcs.now)
    (g.met.InputMmcs.Mmcs.shape_law c.args.input_mmcs.now) c.args.params.now.log_blowup
    c.args.log_global_max_height c.args.indices.now
    (claims_of (λ domain. domain.log_size) c.args.claims.now)
    (inputs_opened c.args.input_openings.now) c.in_default.ensures.1

pub returns-clause-exact : goal.returns-clause-exact
returns-clause-exact g c =
    let cs = claims_of (λ domain. domain.log_size) c.args.claims.now in
    let inputs = inputs_opened c.args.input_openings.now in
    let b = c.args.params.now.log_blowup in
    let top = c.args.log_global_max_height in
    let indices = c.args.indices.now in
    let opens = g.InputMmcs.Mmcs.opens c.args.input_mmcs.now in
    let checked = c.in_default.ensures in
    answer_is_exact (fields_of g) b c.args.alpha top cs inputs opens
    (g.met.InputMmcs.Mmcs.shape_law c.args.input_mmcs.now) indices c.sum_inputs.result
    (λ ok. good_openings (fields_of g) b c.args.alpha top cs inputs opens indices
    (AllZip-long (OpensInput opens b top indices) cs inputs checked.1) checked.0 checked.1
    (c.sum_inputs.ensures.defined ok) (c.sum_inputs.ensures.constants ok))
    (c.sum_inputs.ensures.fault c.args.input_mmcs.now)

pub returns-clause-fault : goal.returns-clause-fault
returns-clause-fault g c = c.sum_inputs.ensures.fault c.args.input_mmcs.now
