use Rattle.std.proofs.Common.{◌≡◌, ◌^◌, ap, sym, subst, slice_index_or, ◌∙◌}
use Rattle.p3_uni_stark_identity.specs.Selectors.{AreSelectorsAt}
use Rattle.p3_domain.proofs.Points.{over_nonzero, off_over, point_over}
use Rattle.p3_domain.proofs.two_adic.TwoAdicMultiplicativeCosetPolynomialSpace.selectors_on_coset.Goals as goal

pub invariant_of-unshifted : goal.invariant_of-unshifted
invariant_of-unshifted g c =
    let F = g.F.Field.ops in
    let self = c.args.self.now in
    record {
      nonzero = over_nonzero F g.met.F.Field.laws self.shift self.nonzero c.args.coset.shift
          c.mul-shift.result c.args.coset.nonzero
          (g.met.F.Field.mul_law c.args.coset.shift c.inverse.result c.mul-shift.result
          c.mul-shift.ensures ∙ ap (λ x. F.mul c.args.coset.shift x) c.inverse.ensures);
      within_two_adicity = c.args.coset.within_two_adicity;
    }

pub selectors_on_coset-requires-clause-off : goal.selectors_on_coset-requires-clause-off
selectors_on_coset-requires-clause-off g c =
    let F = g.F.Field.ops in
    let self = c.args.self.now in
    off_over F g.met.F.Field.laws self.shift self.nonzero g.F.TwoAdicField.root self.log_size
    c.args.coset.log_size c.args.coset.shift c.mul-shift.result
    (g.met.F.Field.mul_law c.args.coset.shift c.inverse.result c.mul-shift.result
    c.mul-shift.ensures ∙ ap (λ x. F.mul c.args.coset.shift x) c.inverse.ensures)
    c.requires.off

pub returns-clause-selectors : goal.returns-clause-selectors
returns-clause-selectors g c i d l =
    let F = g.F.Field.ops in
    let self = c.args.self.now in
    subst (λ y. AreSelectorsAt F (g.F.TwoAdicField.root self.log_size) (2 ^ self.log_size) y
    (slice_index_or c.in_ok-selectors.selectors.items i d))
    (sym (point_over F g.met.F.Field.laws self.shift self.nonzero
    (g.F.TwoAdicField.root c.args.coset.log_size) c.args.coset.shift c.mul-shift.result i
    (g.met.F.Field.mul_law c.args.coset.shift c.inverse.result c.mul-shift.result
    c.mul-shift.ensures ∙ ap (λ x. F.mul c.args.coset.shift x) c.inverse.ensures)))
    (c.in_ok-selectors.ensures.selectors i d l)
