use Rattle.std.proofs.Common.{◌≡◌, ◌+◌, ◌<◌, ◌^◌, length, map, subst, sym, ap, ap₂, ◌∙◌, arith}
use Rattle.std.proofs.lemmas.List.{length_push}
use Rattle.algebra.specs.Field.{pow, sub}
use Rattle.algebra.specs.Polynomial.{tabulate}
use Rattle.p3_field_core.specs.Coset.{coset_point}
use Rattle.p3_uni_stark_identity.specs.Selectors.{AreSelectorsAt}
use Rattle.p3_uni_stark_identity.proofs.Points.{generator_nonzero}
use Rattle.algebra.proofs.Lifting.{identity_homomorphism}
use Rattle.p3_uni_stark_quotient.proofs.Selecting.{firsts_off, lasts_off, powers_off}
use Rattle.p3_uni_stark_quotient.proofs.Selecting.{each_pushed, selectors_are, lengths_are}
use Rattle.p3_uni_stark_quotient.proofs.Selecting.{lengths_inverted, point_lengths}
use Rattle.p3_uni_stark_quotient.proofs.Selecting.{point_lengths_inverted}
use Rattle.std.proofs.lemmas.Result.{IfOk-from_err}
use Rattle.p3_uni_stark_quotient.proofs.selectors.selectors_on_coset.Goals as goal

pub inverse-last_point-requires : goal.inverse-last_point-requires
inverse-last_point-requires g c =
    let F = g.F.Field.ops in
    let L = g.met.F.Field.laws in
    record {
      nonzero = generator_nonzero F F L L (λ x. x) (identity_homomorphism F)
          g.F.TwoAdicField.TWO_ADICITY g.F.TwoAdicField.root g.met.F.TwoAdicField.roots_law
          c.args.log_size c.requires.within_two_adicity c.two_adic_generator.result
          c.two_adic_generator.ensures;
    }

pub inverted_differences-requires : goal.inverted_differences-requires
inverted_differences-requires g c =
    let F = g.F.Field.ops in
    let r = g.F.TwoAdicField.root c.args.coset.log_size in
    let k = c.args.log_size in
    let s = c.args.coset.shift in
    let N = c.size-count.result in
    let points : c.as_slice-points.result.now ≡ tabulate N (coset_point F r s) =
    c.as_slice-points.ensures.value ∙ c.in_ok-all_points.ensures
    ∙ ap (λ x. tabulate N (coset_point F x s)) c.two_adic_generator-generator.ensures in
    let powers : c.as_slice-powers.result.now
    ≡ tabulate N (λ i. F.mul (pow F s (2 ^ k)) (pow F (pow F r (2 ^ k)) i)) =
    c.as_slice-powers.ensures.value ∙ c.in_ok-all_powers.ensures
    ∙ ap₂ (λ a t. tabulate N (λ i. F.mul a (pow F t i))) c.exp_power_of_2-shift_power.ensures
    (c.exp_power_of_2-step_power.ensures
    ∙ ap (λ x. pow F x (2 ^ k)) c.two_adic_generator-generator.ensures) in
    record {
      others = powers_off F g.met.F.Field.laws g.F.TwoAdicField.TWO_ADICITY g.F.TwoAdicField.root
          g.met.F.TwoAdicField.roots_law k c.requires.within_two_adicity r s N c.requires.off
          c.as_slice-points.result.now points c.as_slice-powers.result.now powers c.ONE.result
          (c.ONE.ensures ∙ g.met.F.Field.one_law);
    }

pub inverted_differences-requires-2 : goal.inverted_differences-requires-2
inverted_differences-requires-2 g c =
    let F = g.F.Field.ops in
    let r = g.F.TwoAdicField.root c.args.coset.log_size in
    let s = c.args.coset.shift in
    let N = c.size-count.result in
    record {
      others = firsts_off F g.met.F.Field.laws g.F.TwoAdicField.TWO_ADICITY g.F.TwoAdicField.root
          g.met.F.TwoAdicField.roots_law c.args.log_size c.requires.within_two_adicity r s N
          c.requires.off c.as_slice-points.result.now
          (c.as_slice-points.ensures.value ∙ c.in_ok-all_points.ensures
          ∙ ap (λ x. tabulate N (coset_point F x s)) c.two_adic_generator-generator.ensures)
          c.ONE-2.result (c.ONE-2.ensures ∙ g.met.F.Field.one_law);
    }

pub inverted_differences-requires-3 : goal.inverted_differences-requires-3
inverted_differences-requires-3 g c =
    let F = g.F.Field.ops in
    let r = g.F.TwoAdicField.root c.args.coset.log_size in
    let s = c.args.coset.shift in
    let N = c.size-count.result in
    record {
      others = lasts_off F g.met.F.Field.laws g.F.TwoAdicField.TWO_ADICITY g.F.TwoAdicField.root
          g.met.F.TwoAdicField.roots_law c.args.log_size c.requires.within_two_adicity r s N
          c.requires.off c.as_slice-points.result.now
          (c.as_slice-points.ensures.value ∙ c.in_ok-all_points.ensures
          ∙ ap (λ x. tabulate N (coset_point F x s)) c.two_adic_generator-generator.ensures)
          c.inverse-last_point.result
          (c.inverse-last_point.ensures ∙ ap F.inv c.two_adic_generator.ensures);
    }

pub selectors_at_index-here-requires : goal.selectors_at_index-here-requires
selectors_at_index-here-requires g c =
    let F = g.F.Field.ops in
    let L = g.met.F.Field.laws in
    let top = g.F.TwoAdicField.TWO_ADICITY in
    let w = g.F.TwoAdicField.root in
    let W = g.met.F.TwoAdicField.roots_law in
    let within = c.requires.within_two_adicity in
    let r = w c.args.coset.log_size in
    let k = c.args.log_size in
    let s = c.args.coset.shift in
    let N = c.size-count.result in
    let points : c.as_slice-points.result.now ≡ tabulate N (coset_point F r s) =
    c.as_slice-points.ensures.value ∙ c.in_ok-all_points.ensures
    ∙ ap (λ x. tabulate N (coset_point F x s)) c.two_adic_generator-generator.ensures in
    let powers : c.as_slice-powers.result.now
    ≡ tabulate N (λ i. F.mul (pow F s (2 ^ k)) (pow F (pow F r (2 ^ k)) i)) =
    c.as_slice-powers.ensures.value ∙ c.in_ok-all_powers.ensures
    ∙ ap₂ (λ a t. tabulate N (λ i. F.mul a (pow F t i))) c.exp_power_of_2-shift_power.ensures
    (c.exp_power_of_2-step_power.ensures
    ∙ ap (λ x. pow F x (2 ^ k)) c.two_adic_generator-generator.ensures) in
    let test = c.loop-i-test.true in
    let n1 = lengths_are F L top w W k within r s N c.requires.off c.as_slice-points.result.now
    points c.as_slice-powers.result.now powers c.ONE.result c.as_slice-vanishing.result.now
    (c.as_slice-vanishing.ensures.value ∙ c.in_ok-all_vanishing.ensures.differences) in
    let n2 = lengths_inverted F L top w W k within r s N c.requires.off
    c.as_slice-points.result.now points c.as_slice-powers.result.now powers c.ONE.result
    c.as_slice-inv_vanishing.result.now
    (c.as_slice-inv_vanishing.ensures.value ∙ c.in_ok-all_vanishing.ensures.inverses) in
    let n3 = point_lengths_inverted F L top w W k within r s N c.requires.off
    c.as_slice-points.result.now points c.ONE-2.result c.as_slice-inv_first.result.now
    (c.as_slice-inv_first.ensures.value ∙ c.in_ok-_from_first.ensures.inverses) in
    let n4 = point_lengths F L top w W k within r s N c.requires.off
    c.as_slice-points.result.now points c.inverse-last_point.result
    c.as_slice-from_last.result.now
    (c.as_slice-from_last.ensures.value ∙ c.in_ok-all_from_last.ensures.differences) in
    let n5 = point_lengths_inverted F L top w W k within r s N c.requires.off
    c.as_slice-points.result.now points c.inverse-last_point.result
    c.as_slice-inv_last.result.now
    (c.as_slice-inv_last.ensures.value ∙ c.in_ok-all_from_last.ensures.inverses) in
    record {
      vanishing = subst (λ n. c.loop-i.i < n) (sym n1) test;
      inv_vanishing = subst (λ n. c.loop-i.i < n) (sym n2) test;
      inv_first = subst (λ n. c.loop-i.i < n) (sym n3) test;
      from_last = subst (λ n. c.loop-i.i < n) (sym n4) test;
      inv_last = subst (λ n. c.loop-i.i < n) (sym n5) test;
    }

pub loop-i-preserved : goal.loop-i-preserved
loop-i-preserved g c =
    let F = g.F.Field.ops in
    let w = g.F.TwoAdicField.root in
    let r = w c.args.coset.log_size in
    let k = c.args.log_size in
    let s = c.args.coset.shift in
    let N = c.size-count.result in
    let i = c.loop-i.i in
    let h = c.selectors_at_index-here in
    let invariant = c.loop-i.invariant in
    let one = c.ONE.ensures ∙ g.met.F.Field.one_law in
    let last = c.inverse-last_point.ensures ∙ ap F.inv c.two_adic_generator.ensures in
    let points : c.as_slice-points.result.now ≡ tabulate N (coset_point F r s) =
    c.as_slice-points.ensures.value ∙ c.in_ok-all_points.ensures
    ∙ ap (λ x. tabulate N (coset_point F x s)) c.two_adic_generator-generator.ensures in
    let powers : c.as_slice-powers.result.now
    ≡ tabulate N (λ i. F.mul (pow F s (2 ^ k)) (pow F (pow F r (2 ^ k)) i)) =
    c.as_slice-powers.ensures.value ∙ c.in_ok-all_powers.ensures
    ∙ ap₂ (λ a t. tabulate N (λ i. F.mul a (pow F t i))) c.exp_power_of_2-shift_power.ensures
    (c.exp_power_of_2-step_power.ensures
    ∙ ap (λ x. pow F x (2 ^ k)) c.two_adic_generator-generator.ensures) in
    record {
      len = ap length c.in_ok-push.ensures.items ∙ length_push c.loop-i.selectors.items h.result
          ∙ ap (λ n. n + 1) invariant.len;
      each = each_pushed
          (λ j x. AreSelectorsAt F (w k) (2 ^ k) (coset_point F r s j) x)
          c.loop-i.selectors.items c.push.new.self.items h.result i c.in_ok-push.ensures.items
          invariant.len invariant.each
          (selectors_are F g.met.F.Field.laws g.F.TwoAdicField.TWO_ADICITY w
          g.met.F.TwoAdicField.roots_law k c.requires.within_two_adicity r s N c.requires.off
          c.as_slice-points.result.now points c.as_slice-powers.result.now powers c.ONE.result
          c.inverse-last_point.result one last
          c.as_slice-vanishing.result.now c.as_slice-inv_vanishing.result.now
          c.as_slice-inv_first.result.now c.as_slice-from_last.result.now
          c.as_slice-inv_last.result.now
          (c.as_slice-vanishing.ensures.value ∙ c.in_ok-all_vanishing.ensures.differences)
          (c.as_slice-inv_vanishing.ensures.value ∙ c.in_ok-all_vanishing.ensures.inverses)
          (c.as_slice-inv_first.ensures.value ∙ c.in_ok-_from_first.ensures.inverses
          ∙ ap (λ a. map F.inv (map (λ x. sub F x a) c.as_slice-points.result.now))
          (c.ONE-2.ensures ∙ sym c.ONE.ensures))
          (c.as_slice-from_last.ensures.value ∙ c.in_ok-all_from_last.ensures.differences)
          (c.as_slice-inv_last.ensures.value ∙ c.in_ok-all_from_last.ensures.inverses)
          i c.loop-i-test.true h.result h.ensures.first h.ensures.last h.ensures.transition
          h.ensures.inverse);
    }

pub returns-clause-len : goal.returns-clause-len
returns-clause-len g c =
    let test = c.loop-i-test.false in
    let auto = c.loop-i.auto in
    let len = c.loop-i.invariant.len in
    let size = c.size-count.ensures in
    let vec = c.loop-i.selectors.ok in
    omega (arith, test, auto, len, size, vec.0)

pub returns-clause-selectors : goal.returns-clause-selectors
returns-clause-selectors g c i d l =
    let test = c.loop-i-test.false in
    let auto = c.loop-i.auto in
    let size = c.size-count.ensures in
    c.loop-i.invariant.each i d (omega (arith, test, auto, size, l))

-- where nothing is answered nothing is said of the answer
pub returns-in_err-_from_first-clause-len : goal.returns-in_err-_from_first-clause-len
returns-in_err-_from_first-clause-len g c =
    IfOk-from_err c.from_residual-in_err-_from_first.result _ c.from_residual-in_err-_from_first.ensures.0

pub returns-in_err-_from_first-clause-selectors : goal.returns-in_err-_from_first-clause-selectors
returns-in_err-_from_first-clause-selectors g c =
    IfOk-from_err c.from_residual-in_err-_from_first.result _ c.from_residual-in_err-_from_first.ensures.0

pub returns-in_err-all_from_last-clause-len : goal.returns-in_err-all_from_last-clause-len
returns-in_err-all_from_last-clause-len g c =
    IfOk-from_err c.from_residual-in_err-all_from_last.result _ c.from_residual-in_err-all_from_last.ensures.0

pub returns-in_err-all_from_last-clause-selectors : goal.returns-in_err-all_from_last-clause-selectors
returns-in_err-all_from_last-clause-selectors g c =
    IfOk-from_err c.from_residual-in_err-all_from_last.result _ c.from_residual-in_err-all_from_last.ensures.0

pub returns-in_err-all_points-clause-len : goal.returns-in_err-all_points-clause-len
returns-in_err-all_points-clause-len g c =
    IfOk-from_err c.from_residual.result _ c.from_residual.ensures.0

pub returns-in_err-all_powers-clause-len : goal.returns-in_err-all_powers-clause-len
returns-in_err-all_powers-clause-len g c =
    IfOk-from_err c.from_residual-in_err-all_powers.result _ c.from_residual-in_err-all_powers.ensures.0

pub returns-in_err-all_powers-clause-selectors : goal.returns-in_err-all_powers-clause-selectors
returns-in_err-all_powers-clause-selectors g c =
    IfOk-from_err c.from_residual-in_err-all_powers.result _ c.from_residual-in_err-all_powers.ensures.0

pub returns-in_err-all_vanishing-clause-len : goal.returns-in_err-all_vanishing-clause-len
returns-in_err-all_vanishing-clause-len g c =
    IfOk-from_err c.from_residual-in_err-all_vanishing.result _ c.from_residual-in_err-all_vanishing.ensures.0

pub returns-in_err-all_vanishing-clause-selectors : goal.returns-in_err-all_vanishing-clause-selectors
returns-in_err-all_vanishing-clause-selectors g c =
    IfOk-from_err c.from_residual-in_err-all_vanishing.result _ c.from_residual-in_err-all_vanishing.ensures.0

pub returns-in_err-push-clause-len : goal.returns-in_err-push-clause-len
returns-in_err-push-clause-len g c =
    IfOk-from_err c.from_residual-in_err-push.result _ c.from_residual-in_err-push.ensures.0

pub returns-in_err-push-clause-selectors : goal.returns-in_err-push-clause-selectors
returns-in_err-push-clause-selectors g c =
    IfOk-from_err c.from_residual-in_err-push.result _ c.from_residual-in_err-push.ensures.0

pub returns-in_err-selectors-clause-len : goal.returns-in_err-selectors-clause-len
returns-in_err-selectors-clause-len g c =
    IfOk-from_err c.from_residual-in_err-selectors.result _ c.from_residual-in_err-selectors.ensures.0

pub returns-in_err-selectors-clause-selectors : goal.returns-in_err-selectors-clause-selectors
returns-in_err-selectors-clause-selectors g c =
    IfOk-from_err c.from_residual-in_err-selectors.result _ c.from_residual-in_err-selectors.ensures.0
