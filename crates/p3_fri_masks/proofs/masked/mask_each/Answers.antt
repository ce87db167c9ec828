use Rattle.std.proofs.Common.{◌≡◌, List, All, length, refl, sym, ap, subst, arith}
use Rattle.std.specs.List.{Any}
use Rattle.p3_matrix.proofs.Words.{past_none}
use Rattle.p3_fri_masks.proofs.Batches.{none_masked, one_more_masked, past_one_more, all_left, one_fewer, none_left}
use Rattle.p3_fri_masks.specs.Masked.{IsTooWide}
use Rattle.std.proofs.lemmas.Result.{IfOk-from_err}
use Rattle.p3_fri_masks.proofs.masked.mask_each.Goals as goal

pub loop-domain-init : goal.loop-domain-init
loop-domain-init g c =
    let given = c.into_iter-domain-iterator.ensures.into_iter_gives in
    record {
      masked_so_far = none_masked g.F.SampleField.from_word c.args.num_random_codewords (g.R.Rng.stream c.args.rng.now)
          c.in_ok-masked.masked.items c.in_ok-masked.ensures.items;
      drawn = sym (past_none (g.R.Rng.stream c.args.rng.now));
      left = all_left _ c.args.evaluations.items _ c.args.evaluations.len given.0 given.1 c.args.evaluations.ok.0;
    }

pub loop-domain-preserved : goal.loop-domain-preserved
loop-domain-preserved g c =
    let step = c.in-Some.ensures.steps.0 in
    let fewer = c.in-Some.ensures.steps.1 in
    let shorter = ap length step in
    let before = c.loop-domain.invariant.left.count in
    let counted : c.next.new.self.rest.len ≡ length c.next.new.self.rest.items = omega arith in
    record {
      masked_so_far = one_more_masked g.F.SampleField.from_word c.args.num_random_codewords c.loop-domain.yielded
          (c.in-Some.domain, c.in-Some.matrix) (g.R.Rng.stream c.args.rng.now) (g.R.Rng.stream c.loop-domain.rng)
          c.loop-domain.masked.items _ (c.in-Some.domain, c.in_ok-mask.field-0) c.loop-domain.invariant.masked_so_far
          c.loop-domain.invariant.drawn refl c.in_ok-mask.ensures.masked c.in_ok-push.ensures.items;
      drawn = past_one_more g.F.SampleField.from_word c.args.num_random_codewords c.loop-domain.yielded
          (c.in-Some.domain, c.in-Some.matrix) (g.R.Rng.stream c.args.rng.now) (g.R.Rng.stream c.loop-domain.rng) _
          c.loop-domain.invariant.drawn c.in_ok-mask.ensures.past;
      left = one_fewer c.loop-domain.yielded c.loop-domain.domain-iterator.rest.items c.next.new.self.rest.items
          c.args.evaluations.items (c.in-Some.domain, c.in-Some.matrix) _ _ c.loop-domain.invariant.left
          step counted;
    }

pub returns-clause-masked : goal.returns-clause-masked
returns-clause-masked g c =
    let all = none_left c.loop-domain.yielded c.loop-domain.domain-iterator.rest.items c.args.evaluations.items
    c.loop-domain.domain-iterator.rest.len c.loop-domain.invariant.left c.in-None.ensures.steps.0 in
    rw (← all) c.loop-domain.invariant.masked_so_far

pub returns-clause-past : goal.returns-clause-past
returns-clause-past g c =
    let all = none_left c.loop-domain.yielded c.loop-domain.domain-iterator.rest.items c.args.evaluations.items
    c.loop-domain.domain-iterator.rest.len c.loop-domain.invariant.left c.in-None.ensures.steps.0 in
    rw (← all) c.loop-domain.invariant.drawn

-- what holds of none holds of no element
none : {X A : Type 0} (P : X → Type 0) (xs : List X) → All (λ x. ¬ P x) xs → Any P xs → A
none P xs all some = absurd (all some.0 some.1 some.2 (subst P (sym some.3) some.4))

pub returns-in_err-mask-clause-too_wide : goal.returns-in_err-mask-clause-too_wide
returns-in_err-mask-clause-too_wide g c wide =
    none (λ e. IsTooWide c.args.num_random_codewords e.1) c.args.evaluations.items
    (subst (λ es. All (λ e. ¬ IsTooWide c.args.num_random_codewords e.1) es)
    c.deref.ensures.value c.in_ok-check_widths.ensures) wide

pub returns-in_err-push-clause-too_wide : goal.returns-in_err-push-clause-too_wide
returns-in_err-push-clause-too_wide g c wide =
    none (λ e. IsTooWide c.args.num_random_codewords e.1) c.args.evaluations.items
    (subst (λ es. All (λ e. ¬ IsTooWide c.args.num_random_codewords e.1) es)
    c.deref.ensures.value c.in_ok-check_widths.ensures) wide

pub returns-clause-narrow : goal.returns-clause-narrow
returns-clause-narrow g c ok =
    subst (λ es. All (λ e. ¬ IsTooWide c.args.num_random_codewords e.1) es)
    c.deref.ensures.value c.in_ok-check_widths.ensures

pub returns-clause-too_wide : goal.returns-clause-too_wide
returns-clause-too_wide g c wide =
    none (λ e. IsTooWide c.args.num_random_codewords e.1) c.args.evaluations.items
    (subst (λ es. All (λ e. ¬ IsTooWide c.args.num_random_codewords e.1) es)
    c.deref.ensures.value c.in_ok-check_widths.ensures) wide

-- where nothing is answered nothing is said of the answer
pub returns-in_err-check_widths-clause-masked : goal.returns-in_err-check_widths-clause-masked
returns-in_err-check_widths-clause-masked g c =
    IfOk-from_err c.from_residual.result _ c.from_residual.ensures.0

pub returns-in_err-check_widths-clause-past : goal.returns-in_err-check_widths-clause-past
returns-in_err-check_widths-clause-past g c =
    IfOk-from_err c.from_residual.result _ c.from_residual.ensures.0

pub returns-in_err-mask-clause-masked : goal.returns-in_err-mask-clause-masked
returns-in_err-mask-clause-masked g c =
    IfOk-from_err c.from_residual-in_err-mask.result _ c.from_residual-in_err-mask.ensures.0

pub returns-in_err-mask-clause-past : goal.returns-in_err-mask-clause-past
returns-in_err-mask-clause-past g c =
    IfOk-from_err c.from_residual-in_err-mask.result _ c.from_residual-in_err-mask.ensures.0

pub returns-in_err-masked-clause-masked : goal.returns-in_err-masked-clause-masked
returns-in_err-masked-clause-masked g c =
    IfOk-from_err c.from_residual-in_err-masked.result _ c.from_residual-in_err-masked.ensures.0

pub returns-in_err-masked-clause-past : goal.returns-in_err-masked-clause-past
returns-in_err-masked-clause-past g c =
    IfOk-from_err c.from_residual-in_err-masked.result _ c.from_residual-in_err-masked.ensures.0

pub returns-in_err-push-clause-masked : goal.returns-in_err-push-clause-masked
returns-in_err-push-clause-masked g c =
    IfOk-from_err c.from_residual-in_err-push.result _ c.from_residual-in_err-push.ensures.0

pub returns-in_err-push-clause-past : goal.returns-in_err-push-clause-past
returns-in_err-push-clause-past g c =
    IfOk-from_err c.from_residual-in_err-push.result _ c.from_residual-in_err-push.ensures.0
