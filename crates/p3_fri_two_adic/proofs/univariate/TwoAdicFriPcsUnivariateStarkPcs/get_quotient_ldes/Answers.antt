use Rattle.std.proofs.Common.{map, ap}
use Rattle.p3_fri_relation.specs.Setting.{Fields}
use Rattle.p3_fri_two_adic.proofs.Committed.{have_lde_heights, hold_words}
use Rattle.p3_fri_two_adic.proofs.Committed.{chunks_held, sizes_held, values_held}
use Rattle.p3_fri_two_adic.specs.Chunks.{recombined_on}
use Rattle.p3_fri_two_adic.proofs.univariate.TwoAdicFriPcsUnivariateStarkPcs.get_quotient_ldes.Given.{Over}
use Rattle.p3_fri_two_adic.proofs.univariate.TwoAdicFriPcsUnivariateStarkPcs.get_quotient_ldes.Goals as goal

abbrev fields_of : (g : Over) → Fields g.row.F.Denot g.row.EF.Denot
fields_of g = record {
  base = g.F.Field.ops;
  ext = g.EF.Field.ops;
  lift = g.EF.ExtensionField.lift;
  coefficients = g.EF.ExtensionField.coefficients;
  degree = g.EF.ExtensionField.DIMENSION;
  root = g.F.TwoAdicField.root;
  two_adicity = g.F.TwoAdicField.TWO_ADICITY;
  shift = g.F.Field.GENERATOR;
}

pub returns-in-Ok-clause-committable : goal.returns-in-Ok-clause-committable
returns-in-Ok-clause-committable g c =
    have_lde_heights (fields_of g) g.met.F.Field.laws g.met.F.TwoAdicField.roots_law
    g.met.F.Field.generator_law c.args.self.now.fri.log_blowup
    (λ d. d.shift) (λ d. d.log_size) (λ d. d.nonzero)
    c.in-Ok.ldes.items c.args.evaluations.items c.requires.room c.in-Ok.ensures.words

pub returns-in-Ok-clause-low_degree : goal.returns-in-Ok-clause-low_degree
returns-in-Ok-clause-low_degree g c =
    hold_words (fields_of g) g.met.F.Field.laws g.met.F.TwoAdicField.roots_law
    g.met.F.Field.generator_law c.args.self.now.fri.log_blowup
    (λ d. d.shift) (λ d. d.log_size) (λ d. d.nonzero)
    c.in-Ok.ldes.items c.args.evaluations.items c.requires.room c.in-Ok.ensures.words

pub returns-in-Ok-clause-sizes : goal.returns-in-Ok-clause-sizes
returns-in-Ok-clause-sizes g c =
    sizes_held (fields_of g) g.met.F.Field.laws g.met.F.TwoAdicField.roots_law
    g.met.F.Field.generator_law c.args.self.now.fri.log_blowup
    (λ d. d.shift) (λ d. d.log_size) (λ d. d.nonzero)
    c.in-Ok.ldes.items c.args.evaluations.items c.requires.room c.in-Ok.ensures.words

pub returns-in-Ok-clause-chunks : goal.returns-in-Ok-clause-chunks
returns-in-Ok-clause-chunks g c =
    chunks_held (fields_of g) g.met.F.Field.laws g.met.F.TwoAdicField.roots_law
    g.met.F.Field.generator_law c.args.self.now.fri.log_blowup
    (λ d. d.shift) (λ d. d.log_size) (λ d. d.nonzero)
    c.in-Ok.ldes.items c.args.evaluations.items c.requires.room c.in-Ok.ensures.words

pub returns-in-Ok-clause-recombined : goal.returns-in-Ok-clause-recombined
returns-in-Ok-clause-recombined g c z =
    let domains = map (λ e. e.0) c.args.evaluations.items in
    ap (λ rows. recombined_on (fields_of g) (map (λ d. d.log_size) domains)
    (map (λ d. d.shift) domains) rows z)
    (values_held (fields_of g) g.met.F.Field.laws g.met.F.TwoAdicField.roots_law
    g.met.F.Field.generator_law c.args.self.now.fri.log_blowup
    (λ d. d.shift) (λ d. d.log_size) (λ d. d.nonzero)
    c.in-Ok.ldes.items c.args.evaluations.items c.requires.room c.in-Ok.ensures.words z)
