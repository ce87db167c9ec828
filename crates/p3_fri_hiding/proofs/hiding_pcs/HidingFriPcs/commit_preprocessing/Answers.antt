use Rattle.std.proofs.Common.{true, length, map}
use Rattle.std.proofs.lemmas.Result.{IfOk-from_err, IfOk-weaker}
use Rattle.p3_matrix.specs.Matrix.{rows}
use Rattle.p3_fri_relation.specs.Setting.{Fields}
use Rattle.p3_fri_hiding.specs.Commitments.{AreExtended}
use Rattle.p3_fri_hiding.specs.Trace.{HasTrace, HasZerosBetween}
use Rattle.p3_fri_hiding.proofs.Committed.{padded_all_fit, padded_all_traced, padded_all_zero}
use Rattle.p3_fri_hiding.proofs.NewData.{if_preprocessing, if_shown}
use Rattle.p3_fri_hiding.proofs.Refused.{budget_refused, memory_refused, memory_passed_on}
use Rattle.p3_fri_hiding.proofs.Refused.{fit_of, misfit_of}
use Rattle.p3_fri_hiding.proofs.hiding_pcs.HidingFriPcs.commit_preprocessing.Given.{Over}
use Rattle.p3_fri_hiding.proofs.hiding_pcs.HidingFriPcs.commit_preprocessing.Goals as goal

abbrev fields_of : (g : Over) → Fields g.row.F.Denot g.row.EF.Denot
fields_of g = record {
  base = g.F.Field.ops;
  ext = g.EF.Field.ops;
  lift = g.EF.ExtensionField.lift;
  coefficients = g.EF.ExtensionField.coefficients;
  degree = g.EF.ExtensionField.DIMENSION;
  root = g.F.TwoAdicField.root;
  two_adicity = g.F.TwoAdicField.TWO_ADICITY;
  shift = g.F.Field.GENERATOR;
}

pub returns-in_err-check_matrices-clause-refused : goal.returns-in_err-check_matrices-clause-refused
returns-in_err-check_matrices-clause-refused g c =
    budget_refused c.args.self.now.num_random_codewords c.args.self.now.fri.num_queries
    g.EF.ExtensionField.DIMENSION (map (λ e. length (rows e.1)) c.args.evaluations.items)
    c.from_residual.result c.in_err-check_matrices.field-0.0 c.from_residual.ensures
    (misfit_of c.args.self.now.num_random_codewords c.args.self.now.fri.num_queries _ _
    c.DIMENSION.ensures _ _ c.deref.ensures.value (λ e. length (rows e.1)) c.in_err-check_matrices.field-0.0
    c.in_err-check_matrices.ensures)

pub returns-in_err-padded-clause-refused : goal.returns-in_err-padded-clause-refused
returns-in_err-padded-clause-refused g c =
    memory_refused c.args.self.now.num_random_codewords c.args.self.now.fri.num_queries
    g.EF.ExtensionField.DIMENSION (map (λ e. length (rows e.1)) c.args.evaluations.items)
    c.from_residual-in_err-padded.result c.from_residual-in_err-padded.ensures
    (fit_of c.args.self.now.num_random_codewords c.args.self.now.fri.num_queries _ _
    c.DIMENSION.ensures _ _ c.deref.ensures.value (λ e. length (rows e.1)) c.in_ok-check_matrices.ensures)

pub returns-clause-refused : goal.returns-clause-refused
returns-clause-refused g c =
    memory_passed_on c.args.self.now.num_random_codewords c.args.self.now.fri.num_queries
    g.EF.ExtensionField.DIMENSION (map (λ e. length (rows e.1)) c.args.evaluations.items)
    c.commit_extended.result c.commit_extended.ensures.refused
    (fit_of c.args.self.now.num_random_codewords c.args.self.now.fri.num_queries _ _
    c.DIMENSION.ensures _ _ c.deref.ensures.value (λ e. length (rows e.1)) c.in_ok-check_matrices.ensures)

pub returns-clause-budget : goal.returns-clause-budget
returns-clause-budget g c ok =
    fit_of c.args.self.now.num_random_codewords c.args.self.now.fri.num_queries _ _
    c.DIMENSION.ensures _ _ c.deref.ensures.value (λ e. length (rows e.1)) c.in_ok-check_matrices.ensures

pub commit_extended-requires-clause-heights : goal.commit_extended-requires-clause-heights
commit_extended-requires-clause-heights g c i d below =
    (padded_all_fit g.F.TwoAdicField.TWO_ADICITY c.args.self.now.fri.log_blowup (λ d. d.log_size)
    c.in_ok-padded.padded.items c.args.evaluations.items c.requires g.F.Field.ops.zero c.in_ok-padded.ensures i d below).height

pub commit_extended-requires-clause-within : goal.commit_extended-requires-clause-within
commit_extended-requires-clause-within g c i d below =
    (padded_all_fit g.F.TwoAdicField.TWO_ADICITY c.args.self.now.fri.log_blowup (λ d. d.log_size)
    c.in_ok-padded.padded.items c.args.evaluations.items c.requires g.F.Field.ops.zero c.in_ok-padded.ensures i d below).within

pub returns-clause-padded : goal.returns-clause-padded
returns-clause-padded g c =
    IfOk-weaker c.commit_extended.result _ _
    (λ pair words. record {
      padded = c.in_ok-padded.padded.items;
      zeros = c.in_ok-padded.ensures;
      words = words;
    })
    c.commit_extended.ensures.words

pub returns-clause-openable : goal.returns-clause-openable
returns-clause-openable g c =
    if_preprocessing (fields_of g) g.InputMmcs.Mmcs.committed c.args.self.now.fri.log_blowup
    c.args.self.now.num_random_codewords c.commit_extended.result
    c.commit_extended.ensures.data c.commit_extended.ensures.of_scheme

pub returns-clause-extends : goal.returns-clause-extends
returns-clause-extends g c =
    if_shown (fields_of g) g.InputMmcs.Mmcs.committed c.args.self.now.fri.log_blowup
    c.args.self.now.num_random_codewords c.commit_extended.result true
    (AreExtended (fields_of g) (λ d. d.shift) (λ d. d.log_size)
    c.args.self.now.fri.log_blowup c.in_ok-padded.padded.items)
    (λ m e. HasTrace (fields_of g) e.0.shift e.0.log_size e.1 m) c.args.evaluations.items
    (λ ms words. padded_all_traced (fields_of g) g.met.F.Field.laws g.met.EF.Field.laws
    g.met.EF.ExtensionField.lift_law g.met.F.TwoAdicField.roots_law g.met.F.Field.generator_law
    c.args.self.now.fri.log_blowup (λ d. d.shift) (λ d. d.log_size) (λ d. d.nonzero) ms
    c.in_ok-padded.padded.items c.args.evaluations.items c.requires words c.in_ok-padded.ensures)
    c.commit_extended.ensures.words c.commit_extended.ensures.data

pub returns-clause-zeros : goal.returns-clause-zeros
returns-clause-zeros g c =
    if_shown (fields_of g) g.InputMmcs.Mmcs.committed c.args.self.now.fri.log_blowup
    c.args.self.now.num_random_codewords c.commit_extended.result true
    (AreExtended (fields_of g) (λ d. d.shift) (λ d. d.log_size)
    c.args.self.now.fri.log_blowup c.in_ok-padded.padded.items)
    (λ m e. HasZerosBetween (fields_of g) e.0.shift e.0.log_size e.1 m) c.args.evaluations.items
    (λ ms words. padded_all_zero (fields_of g) g.met.F.Field.laws g.met.EF.Field.laws
    g.met.EF.ExtensionField.lift_law g.met.F.TwoAdicField.roots_law g.met.F.Field.generator_law
    c.args.self.now.fri.log_blowup (λ d. d.shift) (λ d. d.log_size) (λ d. d.nonzero) ms
    c.in_ok-padded.padded.items c.args.evaluations.items c.requires words c.in_ok-padded.ensures)
    c.commit_extended.ensures.words c.commit_extended.ensures.data

-- where nothing is answered nothing is said of the answer
pub returns-in_err-check_matrices-clause-padded : goal.returns-in_err-check_matrices-clause-padded
returns-in_err-check_matrices-clause-padded g c =
    IfOk-from_err c.from_residual.result _ c.from_residual.ensures.0

pub returns-in_err-check_matrices-clause-data : goal.returns-in_err-check_matrices-clause-data
returns-in_err-check_matrices-clause-data g c =
    IfOk-from_err c.from_residual.result _ c.from_residual.ensures.0

pub returns-in_err-check_matrices-clause-commitment : goal.returns-in_err-check_matrices-clause-commitment
returns-in_err-check_matrices-clause-commitment g c =
    IfOk-from_err c.from_residual.result _ c.from_residual.ensures.0

pub returns-in_err-check_matrices-clause-openable : goal.returns-in_err-check_matrices-clause-openable
returns-in_err-check_matrices-clause-openable g c =
    IfOk-from_err c.from_residual.result _ c.from_residual.ensures.0

pub returns-in_err-check_matrices-clause-honest : goal.returns-in_err-check_matrices-clause-honest
returns-in_err-check_matrices-clause-honest g c =
    IfOk-from_err c.from_residual.result _ c.from_residual.ensures.0

pub returns-in_err-check_matrices-clause-extends : goal.returns-in_err-check_matrices-clause-extends
returns-in_err-check_matrices-clause-extends g c =
    IfOk-from_err c.from_residual.result _ c.from_residual.ensures.0

pub returns-in_err-check_matrices-clause-zeros : goal.returns-in_err-check_matrices-clause-zeros
returns-in_err-check_matrices-clause-zeros g c =
    IfOk-from_err c.from_residual.result _ c.from_residual.ensures.0

pub returns-in_err-padded-clause-padded : goal.returns-in_err-padded-clause-padded
returns-in_err-padded-clause-padded g c =
    IfOk-from_err c.from_residual-in_err-padded.result _ c.from_residual-in_err-padded.ensures.0

pub returns-in_err-padded-clause-data : goal.returns-in_err-padded-clause-data
returns-in_err-padded-clause-data g c =
    IfOk-from_err c.from_residual-in_err-padded.result _ c.from_residual-in_err-padded.ensures.0

pub returns-in_err-padded-clause-commitment : goal.returns-in_err-padded-clause-commitment
returns-in_err-padded-clause-commitment g c =
    IfOk-from_err c.from_residual-in_err-padded.result _ c.from_residual-in_err-padded.ensures.0

pub returns-in_err-padded-clause-openable : goal.returns-in_err-padded-clause-openable
returns-in_err-padded-clause-openable g c =
    IfOk-from_err c.from_residual-in_err-padded.result _ c.from_residual-in_err-padded.ensures.0

pub returns-in_err-padded-clause-honest : goal.returns-in_err-padded-clause-honest
returns-in_err-padded-clause-honest g c =
    IfOk-from_err c.from_residual-in_err-padded.result _ c.from_residual-in_err-padded.ensures.0

pub returns-in_err-padded-clause-extends : goal.returns-in_err-padded-clause-extends
returns-in_err-padded-clause-extends g c =
    IfOk-from_err c.from_residual-in_err-padded.result _ c.from_residual-in_err-padded.ensures.0

pub returns-in_err-padded-clause-zeros : goal.returns-in_err-padded-clause-zeros
returns-in_err-padded-clause-zeros g c =
    IfOk-from_err c.from_residual-in_err-padded.result _ c.from_residual-in_err-padded.ensures.0
