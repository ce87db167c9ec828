use Rattle.std.proofs.Common.{sym, subst}
use Rattle.std.specs.Prelude.{All}
use Rattle.p3_fri_relation.specs.Setting.{Fields}
use Rattle.p3_fri_openings.specs.Held.{HoldsWords}
use Rattle.p3_fri_hiding_openings.proofs.Committed.{have_cosets, hold_words}
use Rattle.p3_fri_hiding.specs.Commitments.{AreExtended}
use Rattle.p3_fri_hiding.proofs.Committed.{all_fit}
use Rattle.p3_fri_hiding.proofs.NewData.{of_scheme}
use Rattle.p3_fri_hiding.proofs.hiding_pcs.HidingFriPcs.commit_extended.Given.{Over}
use Rattle.std.proofs.lemmas.Result.{IfOk-from_err}
use Rattle.p3_fri_hiding.proofs.hiding_pcs.HidingFriPcs.commit_extended.Goals as goal

abbrev fields_of : (g : Over) → Fields g.row.F.Denot g.row.EF.Denot
fields_of g = record {
  base = g.F.Field.ops;
  ext = g.EF.Field.ops;
  lift = g.EF.ExtensionField.lift;
  coefficients = g.EF.ExtensionField.coefficients;
  degree = g.EF.ExtensionField.DIMENSION;
  root = g.F.TwoAdicField.root;
  two_adicity = g.F.TwoAdicField.TWO_ADICITY;
  shift = g.F.Field.GENERATOR;
}

pub returns-clause-words : goal.returns-clause-words
returns-clause-words g c =
    subst (λ t. AreExtended (fields_of g) (λ d. d.shift) (λ d. d.log_size)
    c.args.self.now.fri.log_blowup c.args.evaluations.items (g.InputMmcs.Mmcs.committed t))
    (sym c.new_prover_data-data.ensures.inner) c.in_ok-commitment.ensures.words

pub returns-clause-of_scheme : goal.returns-clause-of_scheme
returns-clause-of_scheme g c =
    of_scheme (fields_of g) g.InputMmcs.Mmcs.committed c.args.self.now.fri.log_blowup
    c.args.self.now.num_random_codewords c.new_prover_data-data.result c.in_ok-commitment.inner
    c.new_prover_data-data.ensures.inner c.new_prover_data-data.ensures.codewords c.new_prover_data-data.ensures.blowup
    (have_cosets (fields_of g) g.met.F.Field.laws g.met.F.TwoAdicField.roots_law
    g.met.F.Field.generator_law c.args.self.now.fri.log_blowup (λ d. d.shift) (λ d. d.log_size)
    (λ d. d.nonzero) (g.InputMmcs.Mmcs.committed c.in_ok-commitment.inner)
    c.args.evaluations.items
    (all_fit g.F.TwoAdicField.TWO_ADICITY c.args.self.now.fri.log_blowup (λ d. d.log_size)
    c.args.evaluations.items c.requires.heights c.requires.within)
    c.in_ok-commitment.ensures.words)

pub returns-clause-honest : goal.returns-clause-honest
returns-clause-honest g c =
    subst (λ t. All (HoldsWords (fields_of g) c.args.self.now.fri.log_blowup)
    (g.InputMmcs.Mmcs.committed t)) (sym c.new_prover_data-data.ensures.inner)
    (hold_words (fields_of g) g.met.F.Field.laws g.met.F.TwoAdicField.roots_law
    g.met.F.Field.generator_law c.args.self.now.fri.log_blowup (λ d. d.shift) (λ d. d.log_size)
    (λ d. d.nonzero) (g.InputMmcs.Mmcs.committed c.in_ok-commitment.inner)
    c.args.evaluations.items
    (all_fit g.F.TwoAdicField.TWO_ADICITY c.args.self.now.fri.log_blowup (λ d. d.log_size)
    c.args.evaluations.items c.requires.heights c.requires.within)
    c.in_ok-commitment.ensures.words)

-- where nothing is answered nothing is said of the answer
pub returns-in_err-commitment-clause-commitment : goal.returns-in_err-commitment-clause-commitment
returns-in_err-commitment-clause-commitment g c =
    IfOk-from_err c.from_residual.result _ c.from_residual.ensures.0
