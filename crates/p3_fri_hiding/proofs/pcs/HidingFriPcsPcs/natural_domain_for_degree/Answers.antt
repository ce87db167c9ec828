use Rattle.std.proofs.Common.{◌≤◌, sym, ◌∙◌, subst}
use Rattle.p3_fri_openings.proofs.Log2.{log2_is}
use Rattle.p3_fri_hiding.proofs.pcs.HidingFriPcsPcs.natural_domain_for_degree.Goals as goal

pub invariant_of-result : goal.invariant_of-result
invariant_of-result g c = record {
  nonzero = λ zero. g.met.F.Field.laws.one_not_zero (sym (c.ONE.ensures ∙ g.met.F.Field.one_law)
      ∙ zero);
  within_two_adicity = subst (λ k. k ≤ g.F.TwoAdicField.TWO_ADICITY)
      (log2_is c.args.degree c.requires.degree.log_size (sym c.requires.degree.size)
      ∙ sym (log2_is c.args.degree c.log2_strict_usize.result c.log2_strict_usize.ensures.power))
      c.requires.degree.within;
}
