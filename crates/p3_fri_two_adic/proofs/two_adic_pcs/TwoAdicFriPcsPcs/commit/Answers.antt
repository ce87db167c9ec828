use Rattle.p3_fri_relation.specs.Setting.{Fields}
use Rattle.p3_fri_two_adic.proofs.Committed.{have_cosets, hold_words}
use Rattle.p3_fri_two_adic.proofs.Rows.{all_extend}
use Rattle.p3_fri_two_adic.proofs.two_adic_pcs.TwoAdicFriPcsPcs.commit.Given.{Over}
use Rattle.p3_fri_two_adic.proofs.two_adic_pcs.TwoAdicFriPcsPcs.commit.Goals as goal

abbrev fields_of : (g : Over) → Fields g.row.F.Denot g.row.EF.Denot
fields_of g = record {
  base = g.F.Field.ops;
  ext = g.EF.Field.ops;
  lift = g.EF.ExtensionField.lift;
  coefficients = g.EF.ExtensionField.coefficients;
  degree = g.EF.ExtensionField.DIMENSION;
  root = g.F.TwoAdicField.root;
  two_adicity = g.F.TwoAdicField.TWO_ADICITY;
  shift = g.F.Field.GENERATOR;
}

pub returns-in-Ok-clause-openable : goal.returns-in-Ok-clause-openable
returns-in-Ok-clause-openable g c =
    have_cosets (fields_of g) g.met.F.Field.laws g.met.F.TwoAdicField.roots_law
    g.met.F.Field.generator_law c.args.self.now.fri.log_blowup
    (λ d. d.shift) (λ d. d.log_size) (λ d. d.nonzero)
    (g.InputMmcs.Mmcs.committed c.in-Ok.committed.1) c.args.evaluations.items
    c.requires.room c.in-Ok.ensures.words

pub returns-in-Ok-clause-honest : goal.returns-in-Ok-clause-honest
returns-in-Ok-clause-honest g c =
    hold_words (fields_of g) g.met.F.Field.laws g.met.F.TwoAdicField.roots_law
    g.met.F.Field.generator_law c.args.self.now.fri.log_blowup
    (λ d. d.shift) (λ d. d.log_size) (λ d. d.nonzero)
    (g.InputMmcs.Mmcs.committed c.in-Ok.committed.1) c.args.evaluations.items
    c.requires.room c.in-Ok.ensures.words

pub returns-in-Ok-clause-extends : goal.returns-in-Ok-clause-extends
returns-in-Ok-clause-extends g c =
    all_extend (fields_of g) g.met.F.Field.laws g.met.EF.Field.laws
    g.met.EF.ExtensionField.lift_law g.met.F.TwoAdicField.roots_law g.met.F.Field.generator_law c.args.self.now.fri.log_blowup
    (λ d. d.shift) (λ d. d.log_size) (λ d. d.nonzero)
    (g.InputMmcs.Mmcs.committed c.in-Ok.committed.1) c.args.evaluations.items
    c.requires.room c.in-Ok.ensures.words
