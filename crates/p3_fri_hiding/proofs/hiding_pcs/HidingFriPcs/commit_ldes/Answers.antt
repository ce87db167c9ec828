use Rattle.std.proofs.Common.{◌/◌, ◌^◌, ◌∙◌, false, length, map, sym, ap, subst}
use Rattle.std.proofs.lemmas.Result.{IfOk-from_err}
use Rattle.std.specs.Prelude.{All}
use Rattle.p3_matrix.specs.Matrix.{rows}
use Rattle.p3_fri_relation.specs.Setting.{Fields}
use Rattle.p3_fri_openings.specs.Held.{held_in, HoldsWords}
use Rattle.p3_fri_openings.specs.Rounds.{HasCoset}
use Rattle.p3_fri_hiding_openings.specs.Halves.{shown_of}
use Rattle.algebra.proofs.Lists.{map-map}
use Rattle.p3_fri_hiding_openings.proofs.Ldes.{power_heights, cosets_of_ldes}
use Rattle.p3_fri_hiding_openings.specs.Data.{AreWide}
use Rattle.p3_fri_hiding.proofs.NewData.{shown_is, of_scheme, is_unopened}
use Rattle.p3_fri_hiding.proofs.Refused.{budget_refused, memory_refused, fit_of, misfit_of}
use Rattle.p3_fri_hiding.proofs.hiding_pcs.HidingFriPcs.commit_ldes.Given.{Over}
use Rattle.p3_fri_hiding.proofs.hiding_pcs.HidingFriPcs.commit_ldes.Goals as goal

abbrev fields_of : (g : Over) → Fields g.row.F.Denot g.row.EF.Denot
fields_of g = record {
  base = g.F.Field.ops;
  ext = g.EF.Field.ops;
  lift = g.EF.ExtensionField.lift;
  coefficients = g.EF.ExtensionField.coefficients;
  degree = g.EF.ExtensionField.DIMENSION;
  root = g.F.TwoAdicField.root;
  two_adicity = g.F.TwoAdicField.TWO_ADICITY;
  shift = g.F.Field.GENERATOR;
}

pub returns-in_err-check_ldes-clause-refused : goal.returns-in_err-check_ldes-clause-refused
returns-in_err-check_ldes-clause-refused g c =
    budget_refused c.args.self.now.num_random_codewords c.args.self.now.fri.num_queries
    g.EF.ExtensionField.DIMENSION
    (map (λ lde. length (rows lde) / 2 ^ c.args.self.now.fri.log_blowup / 2) c.args.ldes.items) c.from_residual.result c.in_err-check_ldes.field-0.0
    c.from_residual.ensures
    (misfit_of c.args.self.now.num_random_codewords c.args.self.now.fri.num_queries _ _
    c.DIMENSION.ensures _ _ c.deref.ensures.value (λ lde. length (rows lde) / 2 ^ c.args.self.now.fri.log_blowup / 2) c.in_err-check_ldes.field-0.0
    c.in_err-check_ldes.ensures)

pub returns-in_err-commitment-clause-refused : goal.returns-in_err-commitment-clause-refused
returns-in_err-commitment-clause-refused g c =
    memory_refused c.args.self.now.num_random_codewords c.args.self.now.fri.num_queries
    g.EF.ExtensionField.DIMENSION
    (map (λ lde. length (rows lde) / 2 ^ c.args.self.now.fri.log_blowup / 2) c.args.ldes.items) c.from_residual-in_err-commitment.result
    c.from_residual-in_err-commitment.ensures (fit_of c.args.self.now.num_random_codewords c.args.self.now.fri.num_queries _ _
    c.DIMENSION.ensures _ _ c.deref.ensures.value (λ lde. length (rows lde) / 2 ^ c.args.self.now.fri.log_blowup / 2) c.in_ok-check_ldes.ensures)

pub returns-clause-budget : goal.returns-clause-budget
returns-clause-budget g c ok = fit_of c.args.self.now.num_random_codewords c.args.self.now.fri.num_queries _ _
    c.DIMENSION.ensures _ _ c.deref.ensures.value (λ lde. length (rows lde) / 2 ^ c.args.self.now.fri.log_blowup / 2) c.in_ok-check_ldes.ensures

pub commit-requires : goal.commit-requires
commit-requires g c = record {
  heights = power_heights g.F.TwoAdicField.TWO_ADICITY c.args.self.now.fri.log_blowup
      c.args.ldes.items c.requires;
}

pub returns-clause-polynomials : goal.returns-clause-polynomials
returns-clause-polynomials g c =
    shown_is (fields_of g) g.InputMmcs.Mmcs.committed c.args.self.now.fri.log_blowup
    c.args.self.now.num_random_codewords c.new_prover_data.result c.in_ok-commitment.inner c.new_prover_data.ensures.inner
    false c.new_prover_data.ensures.preprocessed
    ∙ ap (λ ms. map (shown_of c.args.self.now.num_random_codewords)
    (map (held_in (fields_of g) c.args.self.now.fri.log_blowup) ms)) c.in_ok-commitment.ensures.matrices
    ∙ map-map (shown_of c.args.self.now.num_random_codewords)
    (held_in (fields_of g) c.args.self.now.fri.log_blowup) c.args.ldes.items

pub returns-clause-openable : goal.returns-clause-openable
returns-clause-openable g c wide =
    is_unopened (fields_of g) g.InputMmcs.Mmcs.committed c.args.self.now.fri.log_blowup
    c.args.self.now.num_random_codewords c.new_prover_data.result c.in_ok-commitment.inner c.new_prover_data.ensures.inner
    c.new_prover_data.ensures.codewords c.new_prover_data.ensures.blowup (subst (λ ms. All (HasCoset g.F.TwoAdicField.TWO_ADICITY) ms) (sym c.in_ok-commitment.ensures.matrices)
    (cosets_of_ldes g.F.TwoAdicField.TWO_ADICITY c.args.self.now.fri.log_blowup c.args.ldes.items
    c.requires))
    (subst (λ ms. AreWide c.args.self.now.num_random_codewords ms)
    (sym c.in_ok-commitment.ensures.matrices) wide)
    c.new_prover_data.ensures.preprocessed c.new_prover_data.ensures.unopened

pub returns-clause-readable : goal.returns-clause-readable
returns-clause-readable g c =
    of_scheme (fields_of g) g.InputMmcs.Mmcs.committed c.args.self.now.fri.log_blowup
    c.args.self.now.num_random_codewords c.new_prover_data.result c.in_ok-commitment.inner c.new_prover_data.ensures.inner
    c.new_prover_data.ensures.codewords c.new_prover_data.ensures.blowup (subst (λ ms. All (HasCoset g.F.TwoAdicField.TWO_ADICITY) ms) (sym c.in_ok-commitment.ensures.matrices)
    (cosets_of_ldes g.F.TwoAdicField.TWO_ADICITY c.args.self.now.fri.log_blowup c.args.ldes.items
    c.requires))

pub returns-clause-honest : goal.returns-clause-honest
returns-clause-honest g c words =
    subst (λ ms. All (HoldsWords (fields_of g) c.args.self.now.fri.log_blowup) ms)
    (sym (ap (λ t. g.InputMmcs.Mmcs.committed t) c.new_prover_data.ensures.inner
    ∙ c.in_ok-commitment.ensures.matrices)) words

-- where nothing is answered nothing is said of the answer
pub returns-in_err-check_ldes-clause-matrices : goal.returns-in_err-check_ldes-clause-matrices
returns-in_err-check_ldes-clause-matrices g c =
    IfOk-from_err c.from_residual.result _ c.from_residual.ensures.0

pub returns-in_err-check_ldes-clause-data : goal.returns-in_err-check_ldes-clause-data
returns-in_err-check_ldes-clause-data g c =
    IfOk-from_err c.from_residual.result _ c.from_residual.ensures.0

pub returns-in_err-check_ldes-clause-commitment : goal.returns-in_err-check_ldes-clause-commitment
returns-in_err-check_ldes-clause-commitment g c =
    IfOk-from_err c.from_residual.result _ c.from_residual.ensures.0

pub returns-in_err-check_ldes-clause-polynomials : goal.returns-in_err-check_ldes-clause-polynomials
returns-in_err-check_ldes-clause-polynomials g c =
    IfOk-from_err c.from_residual.result _ c.from_residual.ensures.0

pub returns-in_err-check_ldes-clause-readable : goal.returns-in_err-check_ldes-clause-readable
returns-in_err-check_ldes-clause-readable g c =
    IfOk-from_err c.from_residual.result _ c.from_residual.ensures.0

pub returns-in_err-commitment-clause-matrices : goal.returns-in_err-commitment-clause-matrices
returns-in_err-commitment-clause-matrices g c =
    IfOk-from_err c.from_residual-in_err-commitment.result _ c.from_residual-in_err-commitment.ensures.0

pub returns-in_err-commitment-clause-data : goal.returns-in_err-commitment-clause-data
returns-in_err-commitment-clause-data g c =
    IfOk-from_err c.from_residual-in_err-commitment.result _ c.from_residual-in_err-commitment.ensures.0

pub returns-in_err-commitment-clause-commitment : goal.returns-in_err-commitment-clause-commitment
returns-in_err-commitment-clause-commitment g c =
    IfOk-from_err c.from_residual-in_err-commitment.result _ c.from_residual-in_err-commitment.ensures.0

pub returns-in_err-commitment-clause-polynomials : goal.returns-in_err-commitment-clause-polynomials
returns-in_err-commitment-clause-polynomials g c =
    IfOk-from_err c.from_residual-in_err-commitment.result _ c.from_residual-in_err-commitment.ensures.0

pub returns-in_err-commitment-clause-readable : goal.returns-in_err-commitment-clause-readable
returns-in_err-commitment-clause-readable g c =
    IfOk-from_err c.from_residual-in_err-commitment.result _ c.from_residual-in_err-commitment.ensures.0

pub returns-clause-refused : goal.returns-clause-refused
returns-clause-refused g c = tt
