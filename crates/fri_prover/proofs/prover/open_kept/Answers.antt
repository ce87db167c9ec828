use Rattle.std.proofs.lemmas.Result.{IfOk-from_err}
use Rattle.std.proofs.Common.{◌≡◌, ◌^◌, All, length, map, sym, subst, ap, ap₂, ◌∙◌}
use Rattle.std.proofs.lemmas.Result.{IfOk-weaker, IfErr-weaker}
use Rattle.algebra.specs.Nested.{nested}
use Rattle.algebra.proofs.Lists.{map-map}
use Rattle.p3_mmcs.specs.ProverData.{matrices_of, root_over}
use Rattle.p3_pcs.specs.Requests.{request, AreHonest, AreOpenable, FitDomains, honest_claims}
use Rattle.p3_fri_openings.specs.Held.{held_in, held_of, HoldsWords}
use Rattle.p3_fri_openings.specs.Rounds.{HasCoset}
use Rattle.p3_fri_relation.specs.Views.{parameters_of}
use Rattle.p3_fri_two_adic.specs.Refusals.{OpenRefusal}
use Rattle.fri_statement.specs.Setting.{SchemeFields}
use Rattle.fri_opening.specs.Lent.{taken_from}
use Rattle.fri_opening.specs.Openings.{requests_for}
use Rattle.fri_requests.specs.PlainRequests.{sha256_opening}
use Rattle.fri_numbers.proofs.Failed.{request_weaker, request_wants}
use Rattle.fri_verification.proofs.Fields.{fields_of}
use Rattle.fri_opening.proofs.Swaps.{taken_back, requests_lent}
use Rattle.fri_prover.proofs.prover.open_kept.Given.{Over}
use Rattle.fri_prover.proofs.prover.open_kept.Goals as goal
use Rattle.fri_prover.proofs.prover.open_kept.Goals.{After-open_lent-opened}

abbrev fields : (g : Over) → SchemeFields g.row.F.Denot g.row.F-Extension.Denot
fields g = fields_of g.F.Field g.F.PrimeField64 g.F.TwoAdicField g.F.ElementBytes
    g.F.Extension.Field g.F.Extension.ExtensionField g.F.Extension.ElementBytes

-- the requests that are opened are for what is kept
module _ (g : Over) (c : After-open_lent-opened g) where
  is : map request c.swap_data.new.requests ≡ requests_for c.args.all.now (nested c.args.points.items)
  is =
      ap (λ rs. map request rs) c.swap_data.ensures.lent
      ∙ requests_lent c.as_mut_slice-lent.result.now c.as_mut_slice.result.now c.args.all.now (nested c.args.points.items)
      (ap length c.as_mut_slice.ensures.value ∙ sym c.in_ok-spares.spares.ok.0 ∙ c.in_ok-spares.ensures)
      (ap (λ rs. map request rs) c.as_mut_slice-lent.ensures.value ∙ c.in_ok-requests.ensures)

pub returns-clause-kept : goal.returns-clause-kept
returns-clause-kept g c =
    c.swap_data-2.ensures.taken
    ∙ ap₂ taken_from (c.open_lent-opened.ensures.kept ∙ c.swap_data.ensures.lent) c.swap_data.ensures.taken
    ∙ taken_back c.as_mut_slice-lent.result.now c.args.all.now

pub returns-clause-claims : goal.returns-clause-claims
returns-clause-claims g c = λ honest commits.
    let same = is g (goal.at.returns-clause-claims g c).After-open_lent-opened in
    IfOk-weaker c.open_lent-opened.result _ _
    (λ o e. e ∙ ap (λ qs. honest_claims (held_of (fields g).relation matrices_of c.args.scheme.now.fri.log_blowup) root_over
    (map (λ k. k.domains.items) c.args.known.now) qs) same)
    (c.open_lent-opened.ensures.claims
    (subst (λ qs. AreHonest (λ d. All (HoldsWords (fields g).relation c.args.scheme.now.fri.log_blowup) (matrices_of d)) qs)
    (sym same) honest)
    (commits ∙ ap (λ qs. map (λ q. root_over q.datum) qs) (sym same)
    ∙ map-map (λ q. root_over q.datum) request c.swap_data.new.requests))

pub returns-clause-accepted : goal.returns-clause-accepted
returns-clause-accepted g c = λ honest commits fit.
    let same = is g (goal.at.returns-clause-accepted g c).After-open_lent-opened in
    c.open_lent-opened.ensures.accepted
    (subst (λ qs. AreHonest (λ d. All (HoldsWords (fields g).relation c.args.scheme.now.fri.log_blowup) (matrices_of d)) qs)
    (sym same) honest)
    (commits ∙ ap (λ qs. map (λ q. root_over q.datum) qs) (sym same)
    ∙ map-map (λ q. root_over q.datum) request c.swap_data.new.requests)
    (subst (λ qs. FitDomains (held_of (fields g).relation matrices_of c.args.scheme.now.fri.log_blowup) (λ d. 2 ^ d.log_size)
    (map (λ k. k.domains.items) c.args.known.now) qs) (sym same) fit)

pub returns-clause-state : goal.returns-clause-state
returns-clause-state g c = λ honest commits fit.
    let same = is g (goal.at.returns-clause-state g c).After-open_lent-opened in
    c.open_lent-opened.ensures.state
    (subst (λ qs. AreHonest (λ d. All (HoldsWords (fields g).relation c.args.scheme.now.fri.log_blowup) (matrices_of d)) qs)
    (sym same) honest)
    (commits ∙ ap (λ qs. map (λ q. root_over q.datum) qs) (sym same)
    ∙ map-map (λ q. root_over q.datum) request c.swap_data.new.requests)
    (subst (λ qs. FitDomains (held_of (fields g).relation matrices_of c.args.scheme.now.fri.log_blowup) (λ d. 2 ^ d.log_size)
    (map (λ k. k.domains.items) c.args.known.now) qs) (sym same) fit)

pub returns-clause-refused : goal.returns-clause-refused
returns-clause-refused g c =
    let same = is g (goal.at.returns-clause-refused g c).After-open_lent-opened in
    let held = held_in (fields g).relation c.args.scheme.now.fri.log_blowup in
    IfErr-weaker c.open_lent-opened.result _ _
    (request_weaker _ _ _ _
    (λ cannot can. cannot (subst (λ qs. AreOpenable (λ d. All (HasCoset g.F.TwoAdicField.TWO_ADICITY) (matrices_of d))
    (λ d. map held (matrices_of d)) qs) (sym same) can))
    (λ e h. (
      subst (λ qs. OpenRefusal (sha256_opening (fields g) g.F.ElementBytes.LEN g.F.Extension.ElementBytes.LEN
          (parameters_of c.args.scheme.now.fri)) c.args.challenger.now qs e) same h.0,
      h.1,
    )))
    c.open_lent-opened.ensures.refused

-- where nothing is answered nothing is said of the answer
pub returns-in_err-spares-clause-claims : goal.returns-in_err-spares-clause-claims
returns-in_err-spares-clause-claims g c = λ _ _. IfOk-from_err c.from_residual.result _ c.from_residual.ensures.0

pub returns-in_err-spares-clause-accepted : goal.returns-in_err-spares-clause-accepted
returns-in_err-spares-clause-accepted g c = λ _ _ _. IfOk-from_err c.from_residual.result _ c.from_residual.ensures.0

pub returns-in_err-spares-clause-state : goal.returns-in_err-spares-clause-state
returns-in_err-spares-clause-state g c = λ _ _ _. IfOk-from_err c.from_residual.result _ c.from_residual.ensures.0

pub returns-in_err-spares-clause-refused : goal.returns-in_err-spares-clause-refused
returns-in_err-spares-clause-refused g c = request_wants c.from_residual.result _ _ c.from_residual.ensures.1

pub returns-in_err-requests-clause-claims : goal.returns-in_err-requests-clause-claims
returns-in_err-requests-clause-claims g c = λ _ _. IfOk-from_err c.from_residual-in_err-requests.result _ c.from_residual-in_err-requests.ensures.0

pub returns-in_err-requests-clause-accepted : goal.returns-in_err-requests-clause-accepted
returns-in_err-requests-clause-accepted g c = λ _ _ _. IfOk-from_err c.from_residual-in_err-requests.result _ c.from_residual-in_err-requests.ensures.0

pub returns-in_err-requests-clause-state : goal.returns-in_err-requests-clause-state
returns-in_err-requests-clause-state g c = λ _ _ _. IfOk-from_err c.from_residual-in_err-requests.result _ c.from_residual-in_err-requests.ensures.0

pub returns-in_err-requests-clause-refused : goal.returns-in_err-requests-clause-refused
returns-in_err-requests-clause-refused g c = request_wants c.from_residual-in_err-requests.result _ _ c.from_residual-in_err-requests.ensures.1
