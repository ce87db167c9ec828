use Rattle.std.proofs.Common.{◌<◌, ◌^◌, ◌∙◌, sym, ap, arith, subst, length, Err, refl}
use Rattle.std.specs.Prelude.{All}
use Rattle.p3_challenger_core.specs.Run.{moves}
use Rattle.p3_fri_relation.specs.Setting.{Setting}
use Rattle.p3_fri_relation.specs.TestRounds.{HasCounts}
use Rattle.p3_fri_relation.specs.Views.{claims_of, parameters_of, proof_of}
use Rattle.p3_fri_relation.proofs.Instances.{instance_top}
use Rattle.p3_fri_verifier.specs.Plans.{CanBegin}
use Rattle.p3_fri_verifier.proofs.Replays.{false_true, same_err, ok_err, refused_as}
use Rattle.p3_fri_verifier.proofs.Accepted.{can_begin, beginning_stands, same_test, work_stands}
use Rattle.p3_fri_verifier.proofs.Accepted.{IsDrawn, drawn_in_test, challenges_drawn, positions_drawn, within_word}
use Rattle.p3_fri_verifier.proofs.Accepted.{accepts_from, opened_of, openings_stand}
use Rattle.p3_fri_verifier.proofs.Accepted.{beginning_canonical, replay_canonical, openings_canonical}
use Rattle.p3_fri_verifier.proofs.verify.verify_canonical.Given.{Over}
use Rattle.p3_fri_verifier.proofs.verify.verify_canonical.Goals.{In-Ok, After-as_slice-3}
use Rattle.p3_fri_verifier.proofs.verify.verify_canonical.Goals as goal

-- what the layers below compute and accept, named once
abbrev setting_at : (g : Over) → g.row.S.Denot → g.row.M.Denot → g.row.InputMmcs.Denot
    → Setting g.row.F.Denot g.row.EF.Denot g.row.C.Denot g.row.M-Commitment.Denot g.row.M-MultiProof.Denot
    g.row.InputMmcs-Commitment.Denot g.row.InputMmcs-MultiProof.Denot
setting_at g folding mmcs input_mmcs = record {
  fields = record {
    base = g.F.Field.ops;
    ext = g.EF.Field.ops;
    lift = g.EF.ExtensionField.lift;
    coefficients = g.EF.ExtensionField.coefficients;
    degree = g.EF.ExtensionField.DIMENSION;
    root = g.F.TwoAdicField.root;
    two_adicity = g.F.TwoAdicField.TWO_ADICITY;
    shift = g.F.Field.GENERATOR;
  };
  fold = g.S.FriFoldingStrategy.row_fold folding;
  extra_bits = g.S.FriFoldingStrategy.extra_query_index_bits folding;
  moves = moves g.C.CanObserve-1.observed g.C.CanObserve-2.observed g.C.CanSample.sampled
      g.EF.ExtensionField.of_coefficients g.EF.ExtensionField.DIMENSION g.C.CanSampleBits.sampled_bits;
  opens_input = g.InputMmcs.Mmcs.opens input_mmcs;
  opens_round = g.M.Mmcs.opens mmcs;
}

-- the test can begin
begun : (g : Over) (c : In-Ok g)
    → CanBegin (parameters_of c.args.known.now.params.now) (claims_of (λ d. d.log_size) c.args.known.now.claims.now)
    (proof_of c.args.proof.now) g.F.TwoAdicField.TWO_ADICITY
begun g c = (c.in-Ok.ensures.exact (λ e. ok_err _ _ e)).0 refl

-- what is drawn is drawn in the test
drawn : (g : Over) (c : After-as_slice-3 g)
    → IsDrawn (setting_at g c.args.known.now.folding.now c.args.known.now.params.now.mmcs c.args.known.now.input_mmcs.now) (parameters_of c.args.known.now.params.now)
    (claims_of (λ d. d.log_size) c.args.known.now.claims.now) (proof_of c.args.proof.now) c.args.challenger.now
    c.as_slice-2.result.now c.as_slice-3.result.now c.draw.new.challenger
drawn g c =
    drawn_in_test (setting_at g c.args.known.now.folding.now c.args.known.now.params.now.mmcs c.args.known.now.input_mmcs.now) (parameters_of c.args.known.now.params.now)
    (claims_of (λ d. d.log_size) c.args.known.now.claims.now) (proof_of c.args.proof.now) c.args.challenger.now c.args.alpha
    c.in-Ok.ensures.schedule c.in-Ok.ensures.top c.extra_query_index_bits-extra_bits.ensures
    c.in-Ok-draw.ensures.drawn c.as_slice-2.ensures.value c.as_slice-3.ensures.value

pub draw-requires-clause-index_bits_at_most_max : goal.draw-requires-clause-index_bits_at_most_max
draw-requires-clause-index_bits_at_most_max g c = let bounds = instance_top (parameters_of c.args.known.now.params.now) (claims_of (λ d. d.log_size) c.args.known.now.claims.now)
    g.F.TwoAdicField.TWO_ADICITY (begun g (goal.at.draw-requires-clause-index_bits_at_most_max g c).In-Ok).in_range in
    omega (arith, bounds.1, c.in-Ok.ensures.top, c.requires.index_bits_at_most_max, c.extra_query_index_bits-extra_bits.ensures)

pub draw-requires-clause-log_final_poly_len_below_64 : goal.draw-requires-clause-log_final_poly_len_below_64
draw-requires-clause-log_final_poly_len_below_64 g c = omega (arith, c.requires.final_height_below_64)

pub draw-requires-clause-counts : goal.draw-requires-clause-counts
draw-requires-clause-counts g c =
    let proof = proof_of c.args.proof.now in
    subst (λ la. HasCounts (parameters_of c.args.known.now.params.now) proof la (length proof.inputs))
    (sym c.in-Ok.ensures.schedule) (begun g (goal.at.draw-requires-clause-counts g c).In-Ok).counts

pub verify_openings-requires-clause-in_range : goal.verify_openings-requires-clause-in_range
verify_openings-requires-clause-in_range g c =
    (begun g (goal.at.verify_openings-requires-clause-in_range g c).In-Ok).in_range

pub verify_openings-requires-clause-counts : goal.verify_openings-requires-clause-counts
verify_openings-requires-clause-counts g c =
    let proof = proof_of c.args.proof.now in
    subst (λ la. HasCounts (parameters_of c.args.known.now.params.now) proof la (length proof.inputs))
    (sym (c.as_slice.ensures.value ∙ c.in-Ok.ensures.schedule))
    (begun g (goal.at.verify_openings-requires-clause-counts g c).In-Ok).counts

pub verify_openings-requires-clause-schedule : goal.verify_openings-requires-clause-schedule
verify_openings-requires-clause-schedule g c = c.as_slice.ensures.value ∙ c.in-Ok.ensures.schedule

pub verify_openings-requires-clause-top : goal.verify_openings-requires-clause-top
verify_openings-requires-clause-top g c = c.in-Ok.ensures.top

pub verify_openings-requires-clause-betas : goal.verify_openings-requires-clause-betas
verify_openings-requires-clause-betas g c =
    let place = goal.at.verify_openings-requires-clause-betas g c in
    challenges_drawn (drawn g place.After-as_slice-3) (begun g place.In-Ok)
    ∙ ap length (sym (c.as_slice.ensures.value ∙ c.in-Ok.ensures.schedule))

pub verify_openings-requires-clause-positions : goal.verify_openings-requires-clause-positions
verify_openings-requires-clause-positions g c =
    positions_drawn (drawn g (goal.at.verify_openings-requires-clause-positions g c).After-as_slice-3)

pub verify_openings-requires-clause-within_word : goal.verify_openings-requires-clause-within_word
verify_openings-requires-clause-within_word g c =
    subst (λ h. All (λ position. position < 2 ^ h) c.as_slice-3.result.now) (sym c.in-Ok.ensures.top)
    (within_word (drawn g (goal.at.verify_openings-requires-clause-within_word g c).After-as_slice-3))

pub returns-in-Err-clause-exact : goal.returns-in-Err-clause-exact
returns-in-Err-clause-exact g c other = (
  (λ e. absurd (false_true e)),
  (λ a. (c.in-Err.ensures.exact (λ e. other (ap Err (same_err _ _ e)))).1
      (can_begin (setting_at g c.args.known.now.folding.now c.args.known.now.params.now.mmcs c.args.known.now.input_mmcs.now) (parameters_of c.args.known.now.params.now) (claims_of (λ d. d.log_size) c.args.known.now.claims.now)
      (proof_of c.args.proof.now) c.args.challenger.now c.args.alpha
      (g.met.InputMmcs.Mmcs.shape_law c.args.known.now.input_mmcs.now) a)),
)

pub returns-in-Err-clause-state : goal.returns-in-Err-clause-state
returns-in-Err-clause-state g c ok = absurd (false_true ok)

pub returns-in-Err-clause-refusal : goal.returns-in-Err-clause-refusal
returns-in-Err-clause-refusal g c =
    beginning_stands (setting_at g c.args.known.now.folding.now c.args.known.now.params.now.mmcs c.args.known.now.input_mmcs.now) (parameters_of c.args.known.now.params.now) (claims_of (λ d. d.log_size) c.args.known.now.claims.now)
    (proof_of c.args.proof.now) c.args.challenger.now c.args.alpha c.in-Err.refusal c.in-Err.ensures.refusal

pub returns-in-Err-clause-no_witness_named : goal.returns-in-Err-clause-no_witness_named
returns-in-Err-clause-no_witness_named g c phase is =
    beginning_canonical (parameters_of c.args.known.now.params.now) (claims_of (λ d. d.log_size) c.args.known.now.claims.now)
    (proof_of c.args.proof.now) g.F.TwoAdicField.TWO_ADICITY c.in-Err.refusal phase (same_err _ _ is) c.in-Err.ensures.refusal

pub returns-in-Err-draw-clause-exact : goal.returns-in-Err-draw-clause-exact
returns-in-Err-draw-clause-exact g c other =
    let replays = same_test (setting_at g c.args.known.now.folding.now c.args.known.now.params.now.mmcs c.args.known.now.input_mmcs.now) (parameters_of c.args.known.now.params.now)
    (claims_of (λ d. d.log_size) c.args.known.now.claims.now) (proof_of c.args.proof.now) c.args.challenger.now c.args.alpha
    c.in-Ok.ensures.schedule c.in-Ok.ensures.top c.extra_query_index_bits-extra_bits.ensures in (
      (λ e. absurd (false_true e)),
      (λ a. (c.in-Err-draw.ensures.exact (λ e. other (ap Err (same_err _ _ e)))).1
          (ap (λ r. r.passes) replays ∙ a.passes)),
    )

pub returns-in-Err-draw-clause-state : goal.returns-in-Err-draw-clause-state
returns-in-Err-draw-clause-state g c ok = absurd (false_true ok)

pub returns-in-Err-draw-clause-refusal : goal.returns-in-Err-draw-clause-refusal
returns-in-Err-draw-clause-refusal g c =
    work_stands (setting_at g c.args.known.now.folding.now c.args.known.now.params.now.mmcs c.args.known.now.input_mmcs.now) (parameters_of c.args.known.now.params.now) (claims_of (λ d. d.log_size) c.args.known.now.claims.now)
    (proof_of c.args.proof.now) c.args.challenger.now c.args.alpha c.in-Ok.ensures.schedule c.in-Ok.ensures.top
    c.extra_query_index_bits-extra_bits.ensures c.in-Err-draw.refusal c.in-Err-draw.ensures.refusal

pub returns-in-Err-draw-clause-no_witness_named : goal.returns-in-Err-draw-clause-no_witness_named
returns-in-Err-draw-clause-no_witness_named g c phase is =
    replay_canonical c.in-Err-draw.refusal phase (same_err _ _ is) c.in-Err-draw.ensures.refusal

pub returns-clause-state : goal.returns-clause-state
returns-clause-state g c _ = sym (drawn g (goal.at.returns-clause-state g c).After-as_slice-3).state_is

pub returns-clause-no_witness_named : goal.returns-clause-no_witness_named
returns-clause-no_witness_named g c phase is =
    openings_canonical (setting_at g c.args.known.now.folding.now c.args.known.now.params.now.mmcs c.args.known.now.input_mmcs.now) (parameters_of c.args.known.now.params.now) (claims_of (λ d. d.log_size) c.args.known.now.claims.now)
    (proof_of c.args.proof.now) c.args.alpha _ _ c.verify_openings.result phase is c.verify_openings.ensures.refusal

pub returns-clause-exact : goal.returns-clause-exact
returns-clause-exact g c other =
    let place = goal.at.returns-clause-exact g c in
    let exact = c.verify_openings.ensures.exact other in (
      (λ ok. accepts_from (drawn g place.After-as_slice-3) (begun g place.In-Ok) c.requires.canonical (exact.0 ok)),
      (λ a. exact.1 (opened_of (drawn g place.After-as_slice-3) a)),
    )

pub returns-clause-refusal : goal.returns-clause-refusal
returns-clause-refusal g c =
    refused_as _ _ c.verify_openings.result
    (openings_stand (drawn g (goal.at.returns-clause-refusal g c).After-as_slice-3) c.args.alpha)
    c.verify_openings.ensures.refusal
