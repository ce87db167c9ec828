use Rattle.std.proofs.Common.{get_or, ap, ◌∙◌}
use Rattle.p3_fri_relation.specs.Setting.{Fields}
use Rattle.p3_fri_hiding_openings.proofs.Evaluated.{coset_at, within_at, evaluated}
use Rattle.p3_fri_hiding.proofs.Read.{is_matrix_of}
use Rattle.p3_fri_hiding.proofs.hiding_pcs.HidingFriPcs.get_evaluations_on_domain_no_random.Given.{Over}
use Rattle.p3_fri_hiding.proofs.hiding_pcs.HidingFriPcs.get_evaluations_on_domain_no_random.Goals as goal

abbrev fields_of : (g : Over) → Fields g.row.F.Denot g.row.EF.Denot
fields_of g = record {
  base = g.F.Field.ops;
  ext = g.EF.Field.ops;
  lift = g.EF.ExtensionField.lift;
  coefficients = g.EF.ExtensionField.coefficients;
  degree = g.EF.ExtensionField.DIMENSION;
  root = g.F.TwoAdicField.root;
  two_adicity = g.F.TwoAdicField.TWO_ADICITY;
  shift = g.F.Field.GENERATOR;
}

pub evaluations_on_domain-requires-clause-power_of_two : goal.evaluations_on_domain-requires-clause-power_of_two
evaluations_on_domain-requires-clause-power_of_two g c =
    let matrix = c.index-matrices-index.result in
    (coset_at g.F.TwoAdicField.TWO_ADICITY (g.InputMmcs.Mmcs.committed c.args.prover_data.now.inner) c.args.index
    (is_matrix_of (fields_of g) g.InputMmcs.Mmcs.committed c.args.self.now.fri.log_blowup
    c.args.self.now.num_random_codewords c.args.prover_data.now c.args.index c.requires) matrix
    (c.index-matrices-index.is ∙ ap (λ ms. get_or ms c.args.index matrix) c.committed_matrices-matrices.ensures)).power

pub evaluations_on_domain-requires-clause-within_two_adicity :
    goal.evaluations_on_domain-requires-clause-within_two_adicity
evaluations_on_domain-requires-clause-within_two_adicity g c =
    let matrix = c.index-matrices-index.result in
    within_at g.F.TwoAdicField.TWO_ADICITY (g.InputMmcs.Mmcs.committed c.args.prover_data.now.inner) c.args.index
    (is_matrix_of (fields_of g) g.InputMmcs.Mmcs.committed c.args.self.now.fri.log_blowup
    c.args.self.now.num_random_codewords c.args.prover_data.now c.args.index c.requires) matrix
    (c.index-matrices-index.is ∙ ap (λ ms. get_or ms c.args.index matrix) c.committed_matrices-matrices.ensures)

pub returns-clause-values : goal.returns-clause-values
returns-clause-values g c words =
    let matrix = c.index-matrices-index.result in
    evaluated (fields_of g) g.met.F.Field.laws g.met.EF.Field.laws
    g.met.EF.ExtensionField.lift_law g.met.F.TwoAdicField.roots_law g.met.F.Field.generator_law
    c.args.self.now.fri.log_blowup (g.InputMmcs.Mmcs.committed c.args.prover_data.now.inner) c.args.index
    (is_matrix_of (fields_of g) g.InputMmcs.Mmcs.committed c.args.self.now.fri.log_blowup
    c.args.self.now.num_random_codewords c.args.prover_data.now c.args.index c.requires) matrix
    c.in_ok-evaluations_on_domain.field-0
    (c.index-matrices-index.is ∙ ap (λ ms. get_or ms c.args.index matrix) c.committed_matrices-matrices.ensures)
    words c.args.domain.shift c.args.domain.log_size c.in_ok-evaluations_on_domain.ensures
