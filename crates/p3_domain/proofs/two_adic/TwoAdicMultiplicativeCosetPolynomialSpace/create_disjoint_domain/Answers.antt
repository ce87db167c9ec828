use Rattle.std.proofs.Common.{◌≡◌, ◌≢◌, ℕ, ◌^◌, ◌≤◌, sym, ap, subst, ◌∙◌, arith, rules}
use Rattle.std.proofs.Math.Pow.{pow_mono}
use Rattle.algebra.specs.Field.{pow}
use Rattle.p3_uni_stark_identity.specs.Laws.{IsOffSubgroup}
use Rattle.p3_domain.proofs.Points.{times_nonzero, off_times}
use Rattle.p3_domain.proofs.two_adic.TwoAdicMultiplicativeCosetPolynomialSpace.create_disjoint_domain.Goals as goal

pub invariant_of-other : goal.invariant_of-other
invariant_of-other g c =
    let F = g.F.Field.ops in
    let self = c.args.self.now in
    record {
      nonzero = times_nonzero F g.met.F.Field.laws self.shift self.nonzero g.F.Field.GENERATOR
          c.mul.result g.met.F.Field.generator_law
          (g.met.F.Field.mul_law self.shift c.GENERATOR-then-is_off_subgroups.result c.mul.result c.mul.ensures
          ∙ ap (λ x. F.mul self.shift x) c.GENERATOR-then-is_off_subgroups.ensures);
      within_two_adicity = subst (λ k. k ≤ g.F.TwoAdicField.TWO_ADICITY)
          c.in_ok-turn.ensures.log_size c.in_ok-turn.turn.within_two_adicity;
    }

pub returns-then-is_off_subgroups : goal.returns-then-is_off_subgroups
returns-then-is_off_subgroups g c =
    let F = g.F.Field.ops in
    let top = g.F.TwoAdicField.TWO_ADICITY in
    let self = c.args.self.now in
    let turn = c.in_ok-turn.turn in
    let log_size = c.log2_ceil_usize-log_size in
    let within : log_size.result ≤ top =
    subst (λ k. k ≤ top) c.in_ok-turn.ensures.log_size turn.within_two_adicity in
    let generator : turn.shift ≡ g.F.Field.GENERATOR =
    c.in_ok-turn.ensures.shift ∙ c.GENERATOR.ensures in
    let shift : c.mul.result ≡ F.mul self.shift g.F.Field.GENERATOR =
    g.met.F.Field.mul_law self.shift c.GENERATOR-then-is_off_subgroups.result c.mul.result c.mul.ensures
    ∙ ap (λ x. F.mul self.shift x) c.GENERATOR-then-is_off_subgroups.ensures in
    record {
      exactly = (
        λ _. record {
          roots = let enough = log_size.ensures.enough in
              let more : 2 ^ log_size.result ≤ 2 ^ top = pow_mono within in
              omega (arith, enough, more);
          outside = subst (λ x. pow F x (2 ^ top) ≢ F.one) generator
              (c.is_off_subgroups.ensures.power.0 c.if-is_off_subgroups.true);
        },
        λ _. search rules,
      );
      size = log_size.ensures;
      shift = shift;
      disjoint = off_times F g.met.F.Field.laws self.shift self.nonzero g.F.TwoAdicField.root
          self.log_size log_size.result g.F.Field.GENERATOR c.mul.result shift
          (subst (λ x. IsOffSubgroup F (g.F.TwoAdicField.root log_size.result) x self.log_size)
          generator
          (subst (λ m. IsOffSubgroup F (g.F.TwoAdicField.root m) turn.shift self.log_size)
          c.in_ok-turn.ensures.log_size
          (c.if-is_off_subgroups.ensures.off self.log_size self.within_two_adicity)));
    }
