use Rattle.std.proofs.Common.{◌-◌, ◌<◌, ◌^◌, ℕ, map, take, get_or, sym, ap, subst, ◌∙◌}
use Rattle.std.proofs.lemmas.List.{length-map}
use Rattle.p3_field_core.specs.Coset.{coset_point}
use Rattle.p3_matrix.specs.Matrix.{rows, matrix_width}
use Rattle.p3_stark_pcs.specs.Evaluations.{HoldsEvaluations, held_at}
use Rattle.p3_fri_openings.specs.Held.{held_in}
use Rattle.p3_fri_hiding_openings.specs.Data.{hidden_columns}
use Rattle.p3_fri_relation.specs.Setting.{Fields}
use Rattle.p3_fri_hiding_openings.proofs.Evaluated.{coset_at, within_at, evaluated}
use Rattle.p3_fri_hiding.proofs.Read.{is_matrix_of, shown_at, shown_read}
use Rattle.p3_fri_hiding.proofs.hiding_pcs.HidingFriPcs.get_evaluations_on_domain.Given.{Over}
use Rattle.p3_fri_hiding.proofs.hiding_pcs.HidingFriPcs.get_evaluations_on_domain.Goals as goal

abbrev fields_of : (g : Over) → Fields g.row.F.Denot g.row.EF.Denot
fields_of g = record {
  base = g.F.Field.ops;
  ext = g.EF.Field.ops;
  lift = g.EF.ExtensionField.lift;
  coefficients = g.EF.ExtensionField.coefficients;
  degree = g.EF.ExtensionField.DIMENSION;
  root = g.F.TwoAdicField.root;
  two_adicity = g.F.TwoAdicField.TWO_ADICITY;
  shift = g.F.Field.GENERATOR;
}

pub evaluations_on_domain-requires-clause-power_of_two : goal.evaluations_on_domain-requires-clause-power_of_two
evaluations_on_domain-requires-clause-power_of_two g c =
    let matrix = c.index-matrices-index.result in
    (coset_at g.F.TwoAdicField.TWO_ADICITY (g.InputMmcs.Mmcs.committed c.args.prover_data.now.inner) c.args.index
    (is_matrix_of (fields_of g) g.InputMmcs.Mmcs.committed c.args.self.now.fri.log_blowup
    c.args.self.now.num_random_codewords c.args.prover_data.now c.args.index c.requires.whole) matrix
    (c.index-matrices-index.is ∙ ap (λ ms. get_or ms c.args.index matrix) c.committed_matrices-matrices.ensures)).power

pub evaluations_on_domain-requires-clause-within_two_adicity :
    goal.evaluations_on_domain-requires-clause-within_two_adicity
evaluations_on_domain-requires-clause-within_two_adicity g c =
    let matrix = c.index-matrices-index.result in
    within_at g.F.TwoAdicField.TWO_ADICITY (g.InputMmcs.Mmcs.committed c.args.prover_data.now.inner) c.args.index
    (is_matrix_of (fields_of g) g.InputMmcs.Mmcs.committed c.args.self.now.fri.log_blowup
    c.args.self.now.num_random_codewords c.args.prover_data.now c.args.index c.requires.whole) matrix
    (c.index-matrices-index.is ∙ ap (λ ms. get_or ms c.args.index matrix) c.committed_matrices-matrices.ensures)

-- the matrix that the index names is wider than what hides
pub without_last_cols-requires : goal.without_last_cols-requires
without_last_cols-requires g c =
    let matrix = c.index-matrices-index.result in
    record {
      more = subst (λ n. c.hidden_columns-hidden.result < n)
          (ap matrix_width (sym (c.index-matrices-index.is
          ∙ ap (λ ms. get_or ms c.args.index matrix) c.committed_matrices-matrices.ensures))
          ∙ sym c.in_ok-values.ensures.width)
          (subst (λ n. n < matrix_width (get_or (g.InputMmcs.Mmcs.committed c.args.prover_data.now.inner) c.args.index matrix))
          (sym c.hidden_columns-hidden.ensures) (c.requires.wider matrix));
    }

pub returns-clause-values : goal.returns-clause-values
returns-clause-values g c words =
    let matrix = c.index-matrices-index.result in
    let f = fields_of g in
    let held = map (held_in f c.args.self.now.fri.log_blowup) (g.InputMmcs.Mmcs.committed c.args.prover_data.now.inner) in
    let hidden = hidden_columns c.args.self.now.num_random_codewords c.args.prover_data.now in
    let point : ℕ → g.row.EF.Denot = λ i. f.lift (coset_point f.base (f.root c.args.domain.log_size) c.args.domain.shift i) in
    subst (λ h. HoldsEvaluations f.lift point (2 ^ c.args.domain.log_size) h.values_at c.in_ok-without_last_cols.field-0)
    (sym (shown_at hidden held c.args.index
    (subst (λ n. c.args.index < n) (sym (length-map (g.InputMmcs.Mmcs.committed c.args.prover_data.now.inner)
    (held_in f c.args.self.now.fri.log_blowup))) c.requires.whole.below)))
    (shown_read f.lift point (2 ^ c.args.domain.log_size) c.in_ok-values.values c.in_ok-without_last_cols.field-0 hidden
    (held_at held c.args.index)
    (evaluated (fields_of g) g.met.F.Field.laws g.met.EF.Field.laws
    g.met.EF.ExtensionField.lift_law g.met.F.TwoAdicField.roots_law g.met.F.Field.generator_law
    c.args.self.now.fri.log_blowup (g.InputMmcs.Mmcs.committed c.args.prover_data.now.inner) c.args.index
    (is_matrix_of (fields_of g) g.InputMmcs.Mmcs.committed c.args.self.now.fri.log_blowup
    c.args.self.now.num_random_codewords c.args.prover_data.now c.args.index c.requires.whole) matrix
    c.in_ok-values.values
    (c.index-matrices-index.is ∙ ap (λ ms. get_or ms c.args.index matrix) c.committed_matrices-matrices.ensures)
    words c.args.domain.shift c.args.domain.log_size c.in_ok-values.ensures)
    (c.in_ok-without_last_cols.ensures.rows
    ∙ ap (λ n. map (λ row. take (matrix_width c.in_ok-values.values - n) row) (rows c.in_ok-values.values))
    c.hidden_columns-hidden.ensures))

-- of what is answered no refusal is said
pub returns-clause-refused : goal.returns-clause-refused
returns-clause-refused g c = tt
