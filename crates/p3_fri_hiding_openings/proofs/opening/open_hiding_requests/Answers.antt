use Rattle.std.proofs.Common.{◌≡◌, ◌∙◌, List, map, sym, ap, subst}
use Rattle.std.proofs.lemmas.Result.{IfOk-weaker, IfErr-weaker, err_from_is_err_and}
use Rattle.p3_challenger_core.specs.Run.{moves}
use Rattle.p3_pcs.specs.Claims.{opened_values}
use Rattle.p3_pcs.specs.Requests.{Request, AreOpenable, request}
use Rattle.p3_fri_folding.specs.declared.config.FriParameters.{FriParameters}
use Rattle.p3_fri_relation.specs.Setting.{Fields, Setting}
use Rattle.p3_fri_relation.specs.Views.{parameters_of, proof_of}
use Rattle.p3_fri_opening_prover.specs.Setting.{OpeningSetting, StandsOnCosets, held}
use Rattle.p3_fri_opening_prover.specs.Opened.{IsOpened}
use Rattle.p3_fri_opening_prover.specs.Refusals.{PassesChecks}
use Rattle.p3_fri_opening_prover.proofs.Asked.{points_counted}
use Rattle.p3_fri_two_adic.specs.Accepted.{two_adic}
use Rattle.p3_fri_hiding_openings.specs.Halves.{kept_values}
use Rattle.p3_fri_hiding_openings.specs.Requests.{inside, inner_request}
use Rattle.p3_fri_hiding_openings.specs.Opening.{LeavesHidingState}
use Rattle.p3_fri_hiding_openings.proofs.Accepted.{accepted_shown, ends_shown}
use Rattle.p3_fri_hiding_openings.proofs.Accepted.{honest_shown, sizes_inside}
use Rattle.p3_fri_hiding_openings.proofs.Inside.{inside_marked}
use Rattle.p3_fri_hiding_openings.proofs.Openable.{honest_inside, openable_inside}
use Rattle.p3_fri_hiding_openings.proofs.Passed.{refused_fails}
use Rattle.p3_fri_hiding_openings.proofs.Stopped.{by_opening, by_checks, moved_at}
use Rattle.p3_fri_hiding_openings.proofs.opening.open_hiding_requests.Given.{Over}
use Rattle.p3_fri_hiding_openings.proofs.opening.open_hiding_requests.Goals.{After-mark_all}
use Rattle.p3_fri_hiding_openings.proofs.opening.open_hiding_requests.Goals.{After-split_opening}
use Rattle.p3_fri_hiding_openings.proofs.opening.open_hiding_requests.Goals as goal

abbrev fields_of : (g : Over) → Fields g.row.F.Denot g.row.EF.Denot
fields_of g = record {
  base = g.F.Field.ops;
  ext = g.EF.Field.ops;
  lift = g.EF.ExtensionField.lift;
  coefficients = g.EF.ExtensionField.coefficients;
  degree = g.EF.ExtensionField.DIMENSION;
  root = g.F.TwoAdicField.root;
  two_adicity = g.F.TwoAdicField.TWO_ADICITY;
  shift = g.F.Field.GENERATOR;
}

-- what the scheme stands on, named once
abbrev setting_at : (g : Over) → g.row.InputMmcs.Denot → g.row.M.Denot
    → Setting g.row.F.Denot g.row.EF.Denot g.row.C.Denot g.row.M-Commitment.Denot
    g.row.M-MultiProof.Denot g.row.InputMmcs-Commitment.Denot g.row.InputMmcs-MultiProof.Denot
setting_at g input_mmcs mmcs = two_adic (fields_of g)
    (moves g.C.CanObserve-1.observed g.C.CanObserve-2.observed g.C.CanSample.sampled
    g.EF.ExtensionField.of_coefficients g.EF.ExtensionField.DIMENSION
    g.C.CanSampleBits.sampled_bits)
    (g.InputMmcs.Mmcs.opens input_mmcs) (g.M.Mmcs.opens mmcs)

-- and what its openings stand on
abbrev parts_at : (g : Over) → FriParameters g.row.M.Denot → g.row.InputMmcs.Denot
    → OpeningSetting g.row.F.Denot g.row.EF.Denot g.row.C.Denot g.row.InputMmcs-ProverData.Denot
    g.row.M-ProverData.Denot g.row.M-Commitment.Denot g.row.M-MultiProof.Denot
    g.row.InputMmcs-Commitment.Denot g.row.InputMmcs-MultiProof.Denot
parts_at g params input_mmcs = record {
  setting = setting_at g input_mmcs params.mmcs;
  parameters = parameters_of params;
  committed = g.InputMmcs.Mmcs.committed;
  commitment_of = g.InputMmcs.Mmcs.commitment_of;
  round_committed = g.M.Mmcs.committed;
  round_commitment_of = g.M.Mmcs.commitment_of;
  solution = g.C.GrindingChallenger.solution;
  most_bits = g.C.CanSampleBits.MAX_SAMPLE_BITS;
  max_log_height = g.F.TwoAdicField.TWO_ADICITY;
}

-- a request for the data inside
abbrev Inner : Over → Type 0
Inner g = Request g.row.InputMmcs-ProverData.Denot g.row.EF.Denot

-- a mark changes nothing inside
same : (g : Over) (c : After-mark_all g) → map request (map inner_request c.mark_all.new.requests)
    ≡ map inside (map request c.args.requests.now)
same g c = inside_marked c.args.requests.now c.mark_all.new.requests c.mark_all.ensures

pub check_requests-requires-clause-cosets : goal.check_requests-requires-clause-cosets
check_requests-requires-clause-cosets g c =
    (openable_inside (fields_of g) g.InputMmcs.Mmcs.committed c.args.params.now.log_blowup
    c.args.num_random_codewords c.args.preprocessing (map request c.args.requests.now)
    c.requires.shape).data_openable

pub check_requests-requires-clause-points : goal.check_requests-requires-clause-points
check_requests-requires-clause-points g c =
    points_counted (fields_of g) (parameters_of c.args.params.now) g.InputMmcs.Mmcs.committed
    (map inside (map request c.args.requests.now))
    (openable_inside (fields_of g) g.InputMmcs.Mmcs.committed c.args.params.now.log_blowup
    c.args.num_random_codewords c.args.preprocessing (map request c.args.requests.now)
    c.requires.shape).points

pub returns-in_err-check_requests-clause-opened :
    goal.returns-in_err-check_requests-clause-opened
returns-in_err-check_requests-clause-opened g c passed =
    absurd (refused_fails (fields_of g) (parameters_of c.args.params.now)
    c.args.num_random_codewords g.InputMmcs.Mmcs.committed (map request c.args.requests.now)
    c.in_err-check_requests.field-0.0 c.in_err-check_requests.ensures passed)

pub open_hidden-requires-clause-openable : goal.open_hidden-requires-clause-openable
open_hidden-requires-clause-openable g c =
    let r = parts_at g c.args.params.now c.args.input_mmcs.now in
    subst (λ (asked : List (Inner g)). AreOpenable (StandsOnCosets r) (held r) asked)
    (sym (same g (goal.at.open_hidden-requires-clause-openable g c).After-mark_all))
    (openable_inside (fields_of g) g.InputMmcs.Mmcs.committed c.args.params.now.log_blowup
    c.args.num_random_codewords c.args.preprocessing (map request c.args.requests.now)
    c.requires.shape)

pub open_hidden-requires-clause-passes : goal.open_hidden-requires-clause-passes
open_hidden-requires-clause-passes g c =
    subst (λ (asked : List (Inner g)). PassesChecks (fields_of g)
    (parameters_of c.args.params.now) g.InputMmcs.Mmcs.committed asked)
    (sym (same g (goal.at.open_hidden-requires-clause-passes g c).After-mark_all))
    c.in_ok-check_requests.ensures.checks

pub returns-in_err-opening-clause-refused : goal.returns-in_err-opening-clause-refused
returns-in_err-opening-clause-refused g c =
    let residual = c.from_residual-in_err-opening in
    let made = err_from_is_err_and residual.result residual.ensures.1 in
    rw made.1
    (by_opening (parts_at g c.args.params.now c.args.input_mmcs.now)
    c.args.num_random_codewords c.args.challenger.now (map request c.args.requests.now)
    c.in_ok-check_requests.ensures (map request (map inner_request c.mark_all.new.requests))
    (same g (goal.at.returns-in_err-opening-clause-refused g c).After-mark_all)
    c.in_err-opening.field-0.0 made.0 made.2 c.in_err-opening.ensures.refused
    c.in_err-opening.ensures.not_checked)

-- what was opened inside is so of the requests as they were
opened_inside : (g : Over) (c : After-split_opening g)
    → IsOpened (parts_at g c.args.params.now c.args.input_mmcs.now)
    (map inside (map request c.args.requests.now)) c.args.challenger.now
    c.open_hidden.new.challenger (opened_values c.in_ok-opening.opening.0.items)
    (proof_of c.in_ok-opening.opening.1)
opened_inside g c =
    subst (λ (asked : List (Inner g)).
    IsOpened (parts_at g c.args.params.now c.args.input_mmcs.now) asked c.args.challenger.now
    c.open_hidden.new.challenger (opened_values c.in_ok-opening.opening.0.items)
    (proof_of c.in_ok-opening.opening.1))
    (inside_marked c.args.requests.now c.mark_all.new.requests c.mark_all.ensures)
    c.in_ok-opening.ensures.opened

pub returns-clause-values : goal.returns-clause-values
returns-clause-values g c =
    let opened = opened_inside g (goal.at.returns-clause-values g c).After-split_opening in
    IfOk-weaker c.split_opening.result _ _
    (λ halves shown. honest_shown (fields_of g) g.InputMmcs.Mmcs.committed
    c.args.params.now.log_blowup c.args.num_random_codewords c.args.preprocessing
    (map request c.args.requests.now) c.requires.shape
    (opened_values c.in_ok-opening.opening.0.items) (opened_values halves.0.items) opened.honest
    shown)
    c.split_opening.ensures.shown

pub returns-clause-kept : goal.returns-clause-kept
returns-clause-kept g c =
    let opened = opened_inside g (goal.at.returns-clause-kept g c).After-split_opening in
    IfOk-weaker c.split_opening.result _ _
    (λ halves kept. kept.0
    ∙ ap (λ values. kept_values c.args.num_random_codewords c.args.preprocessing values)
    opened.honest)
    c.split_opening.ensures.kept

pub returns-clause-accepted : goal.returns-clause-accepted
returns-clause-accepted g c honest =
    let committed = g.InputMmcs.Mmcs.committed in
    let p = parameters_of c.args.params.now in
    let r = c.args.num_random_codewords in
    let asked = map request c.args.requests.now in
    let opened = opened_inside g (goal.at.returns-clause-accepted g c).After-split_opening in
    IfOk-weaker c.split_opening.result _ _
    (λ halves kept log_sizes fits. rw kept.1
    (accepted_shown (setting_at g c.args.input_mmcs.now c.args.params.now.mmcs) p committed
    g.InputMmcs.Mmcs.commitment_of r c.args.preprocessing asked c.requires.shape
    c.in_ok-check_requests.ensures log_sizes fits
    (opened_values c.in_ok-opening.opening.0.items) (opened_values halves.1.0.items)
    opened.honest kept.0 (proof_of c.in_ok-opening.opening.1) c.args.challenger.now
    (opened.accepted (honest_inside (fields_of g) committed p.log_blowup r asked honest) log_sizes
    (sizes_inside (fields_of g) committed p.log_blowup r log_sizes asked fits))))
    c.split_opening.ensures.kept

pub returns-clause-state : goal.returns-clause-state
returns-clause-state g c honest =
    let committed = g.InputMmcs.Mmcs.committed in
    let p = parameters_of c.args.params.now in
    let r = c.args.num_random_codewords in
    let asked = map request c.args.requests.now in
    let opened = opened_inside g (goal.at.returns-clause-state g c).After-split_opening in
    IfOk-weaker c.split_opening.result _ _
    (λ halves kept log_sizes fits. rw kept.1
    (ends_shown (setting_at g c.args.input_mmcs.now c.args.params.now.mmcs) p committed
    g.InputMmcs.Mmcs.commitment_of r c.args.preprocessing asked c.requires.shape
    c.in_ok-check_requests.ensures log_sizes fits
    (opened_values c.in_ok-opening.opening.0.items) (opened_values halves.1.0.items)
    opened.honest kept.0 (proof_of c.in_ok-opening.opening.1) c.args.challenger.now
    c.open_hidden.new.challenger
    (opened.state (honest_inside (fields_of g) committed p.log_blowup r asked honest) log_sizes
    (sizes_inside (fields_of g) committed p.log_blowup r log_sizes asked fits))))
    c.split_opening.ensures.kept

pub returns-clause-refused : goal.returns-clause-refused
returns-clause-refused g c =
    IfErr-weaker c.split_opening.result _ _ (λ e is. rw is c.in_ok-check_requests.ensures)
    c.split_opening.ensures.refused

pub returns-clause-unmoved : goal.returns-clause-unmoved
returns-clause-unmoved g c =
    IfErr-weaker c.split_opening.result _ _
    (λ e is leaves. absurd (subst (λ x. LeavesHidingState x) is leaves))
    c.split_opening.ensures.refused

pub returns-clause-untouched : goal.returns-clause-untouched
returns-clause-untouched g c =
    IfErr-weaker c.split_opening.result _ _
    (λ e is leaves. absurd (subst (λ x. LeavesHidingState x) is leaves))
    c.split_opening.ensures.refused

pub returns-in_err-check_requests-clause-refused :
    goal.returns-in_err-check_requests-clause-refused
returns-in_err-check_requests-clause-refused g c =
    by_checks (parts_at g c.args.params.now c.args.input_mmcs.now) c.args.num_random_codewords
    c.args.challenger.now (map request c.args.requests.now) c.from_residual.result
    c.in_err-check_requests.field-0.0 c.from_residual.ensures.1 c.in_err-check_requests.ensures

pub returns-in_err-opening-clause-untouched : goal.returns-in_err-opening-clause-untouched
returns-in_err-opening-clause-untouched g c =
    moved_at _ c.from_residual-in_err-opening.result c.in_err-opening.field-0.0
    c.from_residual-in_err-opening.ensures.1 c.in_err-opening.ensures.not_checked

pub returns-in_err-opening-clause-unmoved : goal.returns-in_err-opening-clause-unmoved
returns-in_err-opening-clause-unmoved g c =
    moved_at _ c.from_residual-in_err-opening.result c.in_err-opening.field-0.0
    c.from_residual-in_err-opening.ensures.1 c.in_err-opening.ensures.not_checked
