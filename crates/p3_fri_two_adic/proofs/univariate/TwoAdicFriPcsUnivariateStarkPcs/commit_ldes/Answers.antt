use Rattle.std.proofs.Common.{All, map, sym, ap, subst}
use Rattle.p3_fri_openings.specs.Rounds.{HasCoset}
use Rattle.p3_fri_relation.specs.Setting.{Fields}
use Rattle.p3_fri_openings.specs.Held.{held_in, HoldsWords}
use Rattle.p3_fri_two_adic.proofs.Ldes.{power_heights, cosets_of_ldes}
use Rattle.p3_fri_two_adic.proofs.univariate.TwoAdicFriPcsUnivariateStarkPcs.commit_ldes.Given.{Over}
use Rattle.p3_fri_two_adic.proofs.univariate.TwoAdicFriPcsUnivariateStarkPcs.commit_ldes.Goals as goal

abbrev fields_of : (g : Over) → Fields g.row.F.Denot g.row.EF.Denot
fields_of g = record {
  base = g.F.Field.ops;
  ext = g.EF.Field.ops;
  lift = g.EF.ExtensionField.lift;
  coefficients = g.EF.ExtensionField.coefficients;
  degree = g.EF.ExtensionField.DIMENSION;
  root = g.F.TwoAdicField.root;
  two_adicity = g.F.TwoAdicField.TWO_ADICITY;
  shift = g.F.Field.GENERATOR;
}

pub commit-requires : goal.commit-requires
commit-requires g c = record {
  heights = power_heights g.F.TwoAdicField.TWO_ADICITY c.args.self.now.fri.log_blowup
      c.args.ldes.items c.requires.room;
}

pub returns-in-Ok-clause-openable : goal.returns-in-Ok-clause-openable
returns-in-Ok-clause-openable g c =
    subst (λ matrices. All (HasCoset g.F.TwoAdicField.TWO_ADICITY) matrices)
    (sym c.in-Ok.ensures.matrices)
    (cosets_of_ldes g.F.TwoAdicField.TWO_ADICITY c.args.self.now.fri.log_blowup
    c.args.ldes.items c.requires.room)

pub returns-in-Ok-clause-honest : goal.returns-in-Ok-clause-honest
returns-in-Ok-clause-honest g c words =
    subst (λ matrices. All (HoldsWords (fields_of g) c.args.self.now.fri.log_blowup) matrices)
    (sym c.in-Ok.ensures.matrices) words

pub returns-in-Ok-clause-polynomials : goal.returns-in-Ok-clause-polynomials
returns-in-Ok-clause-polynomials g c =
    ap (λ matrices. map (held_in (fields_of g) c.args.self.now.fri.log_blowup) matrices)
    c.in-Ok.ensures.matrices

pub returns-in-Ok-clause-readable : goal.returns-in-Ok-clause-readable
returns-in-Ok-clause-readable g c = returns-in-Ok-clause-openable g c
