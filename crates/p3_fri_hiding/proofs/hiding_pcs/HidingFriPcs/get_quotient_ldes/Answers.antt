use Rattle.std.proofs.Common.{length, map, refl}
use Rattle.std.proofs.lemmas.Result.{IfOk-from_err}
use Rattle.p3_matrix.specs.Matrix.{rows}
use Rattle.p3_fri_relation.specs.Setting.{Fields}
use Rattle.p3_fri_hiding.proofs.QuotientsHeld.{ldes_have_heights, ldes_hold_words, ldes_are_wide}
use Rattle.p3_fri_hiding.proofs.QuotientsHeld.{sizes_shown, recombined_shown}
use Rattle.p3_fri_hiding.proofs.Refused.{budget_refused, memory_refused, fit_of, misfit_of}
use Rattle.p3_fri_hiding.proofs.Refused.{memory_alone, in_any_case}
use Rattle.p3_fri_hiding.proofs.hiding_pcs.HidingFriPcs.get_quotient_ldes.Given.{Over}
use Rattle.p3_fri_hiding.proofs.hiding_pcs.HidingFriPcs.get_quotient_ldes.Goals as goal

abbrev fields_of : (g : Over) → Fields g.row.F.Denot g.row.EF.Denot
fields_of g = record {
  base = g.F.Field.ops;
  ext = g.EF.Field.ops;
  lift = g.EF.ExtensionField.lift;
  coefficients = g.EF.ExtensionField.coefficients;
  degree = g.EF.ExtensionField.DIMENSION;
  root = g.F.TwoAdicField.root;
  two_adicity = g.F.TwoAdicField.TWO_ADICITY;
  shift = g.F.Field.GENERATOR;
}

pub returns-in_err-check_matrices-clause-refused : goal.returns-in_err-check_matrices-clause-refused
returns-in_err-check_matrices-clause-refused g c =
    budget_refused c.args.self.now.num_random_codewords c.args.self.now.fri.num_queries
    g.EF.ExtensionField.DIMENSION
    (map (λ e. length (rows e.1)) c.args.evaluations.items) c.from_residual.result c.in_err-check_matrices.field-0.0
    c.from_residual.ensures
    (misfit_of c.args.self.now.num_random_codewords c.args.self.now.fri.num_queries _ _
    c.DIMENSION.ensures _ _ c.deref.ensures.value (λ e. length (rows e.1)) c.in_err-check_matrices.field-0.0
    c.in_err-check_matrices.ensures)

pub returns-in_err-quotient_ldes-clause-refused : goal.returns-in_err-quotient_ldes-clause-refused
returns-in_err-quotient_ldes-clause-refused g c =
    memory_refused c.args.self.now.num_random_codewords c.args.self.now.fri.num_queries
    g.EF.ExtensionField.DIMENSION
    (map (λ e. length (rows e.1)) c.args.evaluations.items) c.from_residual-in_err-quotient_ldes.result
    c.from_residual-in_err-quotient_ldes.ensures (fit_of c.args.self.now.num_random_codewords c.args.self.now.fri.num_queries _ _
    c.DIMENSION.ensures _ _ c.deref.ensures.value (λ e. length (rows e.1)) c.in_ok-check_matrices.ensures)

pub returns-clause-budget : goal.returns-clause-budget
returns-clause-budget g c ok = fit_of c.args.self.now.num_random_codewords c.args.self.now.fri.num_queries _ _
    c.DIMENSION.ensures _ _ c.deref.ensures.value (λ e. length (rows e.1)) c.in_ok-check_matrices.ensures

pub returns-clause-committable : goal.returns-clause-committable
returns-clause-committable g c =
    ldes_have_heights (fields_of g) g.met.F.Field.laws g.met.EF.Field.laws
    g.met.EF.ExtensionField.lift_law g.met.F.TwoAdicField.roots_law g.met.F.Field.generator_law
    c.args.self.now.fri.log_blowup c.args.self.now.num_random_codewords (λ d. d.shift)
    (λ d. d.log_size) (λ d. d.nonzero) c.args.evaluations.items c.requires.masked
    g.F.SampleField.from_word (g.R.Rng.stream c.args.self.now.rng)
    c.in_ok-quotient_ldes.field-0.items c.in_ok-quotient_ldes.ensures.ldes

pub returns-clause-openable : goal.returns-clause-openable
returns-clause-openable g c =
    ldes_are_wide (fields_of g) g.met.F.Field.laws g.met.EF.Field.laws
    g.met.EF.ExtensionField.lift_law g.met.F.TwoAdicField.roots_law g.met.F.Field.generator_law
    c.args.self.now.fri.log_blowup c.args.self.now.num_random_codewords (λ d. d.shift)
    (λ d. d.log_size) (λ d. d.nonzero) c.args.evaluations.items c.requires.masked
    g.F.SampleField.from_word (g.R.Rng.stream c.args.self.now.rng)
    c.in_ok-quotient_ldes.field-0.items c.in_ok-quotient_ldes.ensures.ldes

pub returns-clause-low_degree : goal.returns-clause-low_degree
returns-clause-low_degree g c =
    ldes_hold_words (fields_of g) g.met.F.Field.laws g.met.EF.Field.laws
    g.met.EF.ExtensionField.lift_law g.met.F.TwoAdicField.roots_law g.met.F.Field.generator_law
    c.args.self.now.fri.log_blowup c.args.self.now.num_random_codewords (λ d. d.shift)
    (λ d. d.log_size) (λ d. d.nonzero) c.args.evaluations.items c.requires.masked
    g.F.SampleField.from_word (g.R.Rng.stream c.args.self.now.rng)
    c.in_ok-quotient_ldes.field-0.items c.in_ok-quotient_ldes.ensures.ldes

pub returns-clause-sizes : goal.returns-clause-sizes
returns-clause-sizes g c =
    sizes_shown (fields_of g) g.met.F.Field.laws g.met.EF.Field.laws
    g.met.EF.ExtensionField.lift_law g.met.F.TwoAdicField.roots_law g.met.F.Field.generator_law
    c.args.self.now.fri.log_blowup c.args.self.now.num_random_codewords (λ d. d.shift)
    (λ d. d.log_size) (λ d. d.nonzero) c.args.evaluations.items c.requires.masked
    g.F.SampleField.from_word (g.R.Rng.stream c.args.self.now.rng)
    c.in_ok-quotient_ldes.field-0.items c.in_ok-quotient_ldes.ensures.ldes

pub returns-clause-recombined : goal.returns-clause-recombined
returns-clause-recombined g c z =
    recombined_shown (fields_of g) g.met.F.Field.laws g.met.EF.Field.laws
    g.met.EF.ExtensionField.lift_law g.met.F.TwoAdicField.roots_law g.met.F.Field.generator_law
    c.args.self.now.fri.log_blowup c.args.self.now.num_random_codewords (λ d. d.shift)
    (λ d. d.log_size) (λ d. d.nonzero) c.args.evaluations.items c.requires.masked
    g.F.SampleField.from_word (g.R.Rng.stream c.args.self.now.rng)
    c.in_ok-quotient_ldes.field-0.items c.in_ok-quotient_ldes.ensures.ldes z

pub returns-in_err-check_matrices-clause-unmoved : goal.returns-in_err-check_matrices-clause-unmoved
returns-in_err-check_matrices-clause-unmoved g c = in_any_case _ c.from_residual.result refl

pub returns-in_err-quotient_ldes-clause-unmoved : goal.returns-in_err-quotient_ldes-clause-unmoved
returns-in_err-quotient_ldes-clause-unmoved g c =
    memory_alone _ c.from_residual-in_err-quotient_ldes.result c.from_residual-in_err-quotient_ldes.ensures

-- where nothing is answered nothing is said of the answer
pub returns-in_err-check_matrices-clause-words : goal.returns-in_err-check_matrices-clause-words
returns-in_err-check_matrices-clause-words g c =
    IfOk-from_err c.from_residual.result _ c.from_residual.ensures.0

pub returns-in_err-check_matrices-clause-past : goal.returns-in_err-check_matrices-clause-past
returns-in_err-check_matrices-clause-past g c =
    IfOk-from_err c.from_residual.result _ c.from_residual.ensures.0

pub returns-in_err-check_matrices-clause-sizes : goal.returns-in_err-check_matrices-clause-sizes
returns-in_err-check_matrices-clause-sizes g c =
    IfOk-from_err c.from_residual.result _ c.from_residual.ensures.0

pub returns-in_err-check_matrices-clause-recombined : goal.returns-in_err-check_matrices-clause-recombined
returns-in_err-check_matrices-clause-recombined g c =
    IfOk-from_err c.from_residual.result _ c.from_residual.ensures.0

pub returns-in_err-check_matrices-clause-committable : goal.returns-in_err-check_matrices-clause-committable
returns-in_err-check_matrices-clause-committable g c =
    IfOk-from_err c.from_residual.result _ c.from_residual.ensures.0

pub returns-in_err-check_matrices-clause-openable : goal.returns-in_err-check_matrices-clause-openable
returns-in_err-check_matrices-clause-openable g c =
    IfOk-from_err c.from_residual.result _ c.from_residual.ensures.0

pub returns-in_err-check_matrices-clause-low_degree : goal.returns-in_err-check_matrices-clause-low_degree
returns-in_err-check_matrices-clause-low_degree g c =
    IfOk-from_err c.from_residual.result _ c.from_residual.ensures.0

pub returns-in_err-quotient_ldes-clause-words : goal.returns-in_err-quotient_ldes-clause-words
returns-in_err-quotient_ldes-clause-words g c =
    IfOk-from_err c.from_residual-in_err-quotient_ldes.result _ c.from_residual-in_err-quotient_ldes.ensures.0

pub returns-in_err-quotient_ldes-clause-past : goal.returns-in_err-quotient_ldes-clause-past
returns-in_err-quotient_ldes-clause-past g c =
    IfOk-from_err c.from_residual-in_err-quotient_ldes.result _ c.from_residual-in_err-quotient_ldes.ensures.0

pub returns-in_err-quotient_ldes-clause-sizes : goal.returns-in_err-quotient_ldes-clause-sizes
returns-in_err-quotient_ldes-clause-sizes g c =
    IfOk-from_err c.from_residual-in_err-quotient_ldes.result _ c.from_residual-in_err-quotient_ldes.ensures.0

pub returns-in_err-quotient_ldes-clause-recombined : goal.returns-in_err-quotient_ldes-clause-recombined
returns-in_err-quotient_ldes-clause-recombined g c =
    IfOk-from_err c.from_residual-in_err-quotient_ldes.result _ c.from_residual-in_err-quotient_ldes.ensures.0

pub returns-in_err-quotient_ldes-clause-committable : goal.returns-in_err-quotient_ldes-clause-committable
returns-in_err-quotient_ldes-clause-committable g c =
    IfOk-from_err c.from_residual-in_err-quotient_ldes.result _ c.from_residual-in_err-quotient_ldes.ensures.0

pub returns-in_err-quotient_ldes-clause-openable : goal.returns-in_err-quotient_ldes-clause-openable
returns-in_err-quotient_ldes-clause-openable g c =
    IfOk-from_err c.from_residual-in_err-quotient_ldes.result _ c.from_residual-in_err-quotient_ldes.ensures.0

pub returns-in_err-quotient_ldes-clause-low_degree : goal.returns-in_err-quotient_ldes-clause-low_degree
returns-in_err-quotient_ldes-clause-low_degree g c =
    IfOk-from_err c.from_residual-in_err-quotient_ldes.result _ c.from_residual-in_err-quotient_ldes.ensures.0

pub returns-clause-refused : goal.returns-clause-refused
returns-clause-refused g c = tt

pub returns-clause-unmoved : goal.returns-clause-unmoved
returns-clause-unmoved g c = tt
