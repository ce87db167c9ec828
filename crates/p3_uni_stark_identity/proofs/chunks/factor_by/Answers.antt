use Rattle.std.proofs.Common.{ap, ◌∙◌}
use Rattle.algebra.specs.Cosets.{vanishing}
use Rattle.p3_uni_stark_identity.proofs.Domains.{off_others, factor_elsewhere}
use Rattle.p3_uni_stark_identity.proofs.chunks.factor_by.Goals as goal

pub inverse-requires : goal.inverse-requires
inverse-requires g c = record {
  nonzero = off_others g.F.Field.ops c.args.domains.now (λ d. d.shift) (λ d. d.log_size)
      c.requires.disjoint c.args.index c.args.other c.index-domains-index.result
      c.index-domains-other.result c.requires.index_there c.requires.other_there
      c.if-other-index.false c.index-domains-index.is c.index-domains-other.is
      c.vanishing_poly_at_point-at_first.result
      (c.vanishing_poly_at_point-at_first.ensures
      ∙ ap (λ x. vanishing g.F.Field.ops c.index-domains-other.result.shift
      c.index-domains-other.result.log_size x) c.first_point-first.ensures);
}

pub returns : goal.returns
returns g c = factor_elsewhere g.F.Field.ops c.args.domains.now (λ d. d.shift) (λ d. d.log_size)
    c.requires.disjoint g.met.F.Field.laws g.EF.Field.ops g.met.EF.Field.laws
    g.EF.ExtensionField.lift g.met.EF.ExtensionField.lift_law g.F.TwoAdicField.TWO_ADICITY
    g.F.TwoAdicField.root g.met.F.TwoAdicField.roots_law c.args.index c.args.other
    c.index-domains-index.result c.index-domains-other.result c.requires.index_there
    c.requires.other_there c.if-other-index.false c.index-domains-index.is
    c.index-domains-other.is c.index-domains-other.result.nonzero
    c.index-domains-other.result.within_two_adicity c.args.at_point c.scale.result
    c.vanishing_poly_at_point-at_first.result c.inverse.result
    (c.vanishing_poly_at_point-at_first.ensures
    ∙ ap (λ x. vanishing g.F.Field.ops c.index-domains-other.result.shift
    c.index-domains-other.result.log_size x) c.first_point-first.ensures)
    c.inverse.ensures c.scale.ensures
