use Rattle.std.proofs.Common.{◌≡◌, ◌<◌, ◌∷◌, ◌∙◌, inl, inr, sym, ap, refl, arith, rules, subst, length, get_or}
use Rattle.p3_fri_folding.specs.Schedule.{IsStrictlyFalling}
use Rattle.p3_fri_relation.specs.Heights.{matrices_of}
use Rattle.std.specs.Prelude.{All}
use Rattle.p3_fri_relation.specs.Acceptance.{IsInRange, top_height}
use Rattle.p3_fri_relation.specs.Views.{claims_of, parameters_of}
use Rattle.p3_fri_relation.proofs.ClaimedHeights.{heights_of-falling}
use Rattle.p3_fri_relation.proofs.Instances.{instance_heights, instance_top, further_heights}
use Rattle.p3_fri_verifier.proofs.Plans.{small_rounds, inputs_claimed, fault_claimed}
use Rattle.p3_fri_verifier.proofs.Replays.{ok_err}
use Rattle.p3_fri_verifier.proofs.plan.make_plan.Goals as goal

pub fold_schedule-requires-clause-falling : goal.fold_schedule-requires-clause-falling
fold_schedule-requires-clause-falling g c =
    subst (λ hs. IsStrictlyFalling hs) (sym (c.deref.ensures.value ∙ c.in-Ok.ensures.heights))
    (heights_of-falling c.args.params.now.log_blowup (matrices_of (claims_of (λ d. d.log_size) c.args.claims.now)))

pub check_counts-requires-clause-small : goal.check_counts-requires-clause-small
check_counts-requires-clause-small g c =
    let p = parameters_of c.args.params.now in
    let claims = claims_of (λ d. d.log_size) c.args.claims.now in
    let two_adicity = g.F.TwoAdicField.TWO_ADICITY in
    let ranged : IsInRange p claims two_adicity = (c.in-Ok.ensures.exact (λ e. ok_err _ _ e)).0 refl in
    let bounds = instance_top p claims two_adicity ranged in
    let first = ap (λ hs. get_or hs 0 0) (c.deref.ensures.value ∙ c.in-Ok.ensures.heights
    ∙ instance_heights p claims two_adicity ranged) in
    subst (λ xs. All (λ a. a < 64) xs) (sym c.deref-2.ensures.value)
    (small_rounds c.deref.result.now _ _ c.in-Ok-fold_schedule.log_arities.items
    c.in-Ok-fold_schedule.ensures.value c.in-Ok-fold_schedule.ensures.leads_down
    (omega (arith, first, bounds.1, g.met.F.TwoAdicField.two_adicity_law)))

pub returns-clause-refusal : goal.returns-clause-refusal
returns-clause-refusal g c =
    inl (inr (inr (fault_claimed (λ d. d.log_size) c.args.params.now.num_queries c.args.claims.now
    c.deref-3.ensures.value c.in-Err-check_inputs.refusal c.in-Err-check_inputs.ensures.refusal)))

pub index-requires : goal.index-requires
index-requires g c =
    let p = parameters_of c.args.params.now in
    let claims = claims_of (λ d. d.log_size) c.args.claims.now in
    let two_adicity = g.F.TwoAdicField.TWO_ADICITY in
    let ranged : IsInRange p claims two_adicity = (c.in-Ok.ensures.exact (λ e. ok_err _ _ e)).0 refl in
    let whole : c.in-Ok.heights.items ≡ top_height p claims ∷ further_heights p claims =
    c.in-Ok.ensures.heights ∙ instance_heights p claims two_adicity ranged in
    omega (arith, c.in-Ok.heights.ok.0, ap length whole)

pub returns-in-Ok-check_inputs-clause-exact : goal.returns-in-Ok-check_inputs-clause-exact
returns-in-Ok-check_inputs-clause-exact g c other = (
  (λ _. record {
    in_range = (c.in-Ok.ensures.exact (λ e. ok_err _ _ e)).0 refl;
    counts = search rules;
    inputs = (inputs_claimed (λ d. d.log_size) c.args.params.now.num_queries c.args.claims.now c.deref-3.ensures.value).0
        (c.in-Ok-check_inputs.ensures.exact.0 refl);
  }),
  (λ _. refl),
)

pub returns-in-Ok-check_inputs-clause-top : goal.returns-in-Ok-check_inputs-clause-top
returns-in-Ok-check_inputs-clause-top g c =
    let p = parameters_of c.args.params.now in
    let claims = claims_of (λ d. d.log_size) c.args.claims.now in
    let two_adicity = g.F.TwoAdicField.TWO_ADICITY in
    let ranged : IsInRange p claims two_adicity = (c.in-Ok.ensures.exact (λ e. ok_err _ _ e)).0 refl in
    c.index.ensures ∙ ap (λ hs. get_or hs 0 c.index.result.now)
    (c.in-Ok.ensures.heights ∙ instance_heights p claims two_adicity ranged)
