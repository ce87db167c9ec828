use Rattle.std.proofs.Common.{◌≡◌, true, refl, sym, ap, ◌∙◌, rules}
use Rattle.std.specs.Prelude.{IsTrue}
use Rattle.std.specs.List.{flat_map}
use Rattle.p3_challenger_core.specs.Run.{moves, observed_all}
use Rattle.p3_challenger_fs.specs.Turns.{bytes_observed}
use Rattle.p3_fri_pcs_transcript.specs.Counts.{all_claimed}
use Rattle.p3_fri_pcs_transcript.specs.Shapes.{pcs_shape}
use Rattle.p3_fri_pcs_transcript.specs.Replay.{BatchReplay}
use Rattle.p3_fri_pcs_transcript.specs.Steps.{PcsNumbers}
use Rattle.p3_fri_pcs_transcript.proofs.ClaimTurns.{all_claims_left}
use Rattle.p3_fri_relation.specs.Acceptance.{batch_replayed}
use Rattle.p3_fri_relation.specs.Setting.{Setting}
use Rattle.p3_fri_relation.specs.Views.{parameters_of, claims_of, proof_of}
use Rattle.p3_fri_relation.proofs.WholeReplays.{values-of_claims}
use Rattle.p3_fri_opening_verifier.proofs.Composed.{Absorbed, batch_is, batch_passed, accepted}
use Rattle.p3_fri_opening_verifier.proofs.Composed.{accepted_inside, ends, stands_inside}
use Rattle.p3_fri_opening_verifier.proofs.Composed.{not_accepted, batch_stands, numbers_are}
use Rattle.p3_fri_opening_verifier.proofs.seeded.verify_seeded.Given.{Over}
use Rattle.p3_fri_opening_verifier.proofs.seeded.verify_seeded.Goals.{After-start-transcript, In-Ok, In-Err}
use Rattle.p3_fri_opening_verifier.proofs.seeded.verify_seeded.Goals as goal

-- what the layers below compute and accept, named once
abbrev setting_at : (g : Over) → g.row.S.Denot → g.row.M.Denot → g.row.InputMmcs.Denot
    → Setting g.row.F.Denot g.row.EF.Denot g.row.C.Denot g.row.M-Commitment.Denot
    g.row.M-MultiProof.Denot
    g.row.InputMmcs-Commitment.Denot g.row.InputMmcs-MultiProof.Denot
setting_at g folding mmcs input_mmcs = record {
  fields = record {
    base = g.F.Field.ops;
    ext = g.EF.Field.ops;
    lift = g.EF.ExtensionField.lift;
    coefficients = g.EF.ExtensionField.coefficients;
    degree = g.EF.ExtensionField.DIMENSION;
    root = g.F.TwoAdicField.root;
    two_adicity = g.F.TwoAdicField.TWO_ADICITY;
    shift = g.F.Field.GENERATOR;
  };
  fold = g.S.FriFoldingStrategy.row_fold folding;
  extra_bits = g.S.FriFoldingStrategy.extra_query_index_bits folding;
  moves = moves g.C.CanObserve-1.observed g.C.CanObserve-2.observed g.C.CanSample.sampled
      g.EF.ExtensionField.of_coefficients g.EF.ExtensionField.DIMENSION
      g.C.CanSampleBits.sampled_bits;
  opens_input = g.InputMmcs.Mmcs.opens input_mmcs;
  opens_round = g.M.Mmcs.opens mmcs;
}

-- the claims are those that the relation counts and absorbs
absorbed : (g : Over) (c : After-start-transcript g)
    → Absorbed (setting_at g c.args.known.now.folding.now c.args.known.now.params.now.mmcs c.args.known.now.input_mmcs.now)
    (parameters_of c.args.known.now.params.now) (claims_of (λ d. d.log_size) c.args.known.now.claims.now) (proof_of c.args.proof.now)
    c.args.challenger.now (pcs_shape c.args.shape) (all_claimed c.args.known.now.claims.now)
    c.start-transcript.result.challenger.now
    (observed_all g.C.CanObserve-1.observed c.start-transcript.result.challenger.now
    (flat_map g.EF.ExtensionField.coefficients (all_claimed c.args.known.now.claims.now)))
absorbed g c = record {
  numbers_are = numbers_are (λ d. d.log_size) (parameters_of c.args.known.now.params.now) c.args.known.now.claims.now
      (pcs_shape c.args.shape) c.requires.shape;
  values_are = sym (values-of_claims (λ d. d.log_size) c.args.known.now.claims.now);
  begun = c.start-transcript.ensures.starts.state
      ∙ ap (λ bytes. bytes_observed g.F.Field.ops g.C.CanObserve-1.observed
      c.args.challenger.now bytes) c.requires.stream;
  all_observed = refl;
}

-- the test begins where the batching challenge was drawn
drawn : (g : Over) (c : In-Ok g)
    → batch_replayed (setting_at g c.args.known.now.folding.now c.args.known.now.params.now.mmcs c.args.known.now.input_mmcs.now)
    (parameters_of c.args.known.now.params.now) (claims_of (λ d. d.log_size) c.args.known.now.claims.now) (proof_of c.args.proof.now)
    c.args.challenger.now
    ≡ record { passes = true; alpha = c.in-Ok.alpha; state = c.draw_alpha.new.transcript.challenger.now }
drawn g c =
    batch_passed (setting_at g c.args.known.now.folding.now c.args.known.now.params.now.mmcs c.args.known.now.input_mmcs.now)
    (parameters_of c.args.known.now.params.now) (claims_of (λ d. d.log_size) c.args.known.now.claims.now) (proof_of c.args.proof.now)
    c.args.challenger.now (pcs_shape c.args.shape) (all_claimed c.args.known.now.claims.now)
    c.start-transcript.result.challenger.now _ _ c.draw_alpha.new.transcript.challenger.now c.in-Ok.alpha
    (absorbed g (goal.at.In-Ok g c).After-start-transcript)
    (rw c.start-transcript.ensures.starts.shape at c.in-Ok.ensures.batch)
    refl

-- the proof of work isn't passed, as the relation has it
stopped : (g : Over) (c : In-Err g)
    → (shown : BatchReplay g.row.C.Denot g.row.EF.Denot)
    × (shown ≡ batch_replayed (setting_at g c.args.known.now.folding.now c.args.known.now.params.now.mmcs c.args.known.now.input_mmcs.now)
    (parameters_of c.args.known.now.params.now) (claims_of (λ d. d.log_size) c.args.known.now.claims.now) (proof_of c.args.proof.now)
    c.args.challenger.now)
    × (IsTrue shown.passes → ⊥)
stopped g c = (
  _,
  batch_is (setting_at g c.args.known.now.folding.now c.args.known.now.params.now.mmcs c.args.known.now.input_mmcs.now)
      (parameters_of c.args.known.now.params.now) (claims_of (λ d. d.log_size) c.args.known.now.claims.now) (proof_of c.args.proof.now)
      c.args.challenger.now _ _ _ _
      (absorbed g (goal.at.In-Err g c).After-start-transcript),
  λ passes. let no =
      (rw c.start-transcript.ensures.starts.shape at c.in-Err.ensures.passes).1 passes in cc,
)

pub draw_alpha-requires-clause-no_step_played : goal.draw_alpha-requires-clause-no_step_played
draw_alpha-requires-clause-no_step_played g c =
    all_claims_left g.EF.ExtensionField.DIMENSION (pcs_shape c.args.shape)
    (pcs_shape c.start-transcript.result.shape) _ c.start-transcript.ensures.starts.shape
    (c.start-transcript.ensures.steps ∙ c.requires.turns)

pub draw_alpha-requires-clause-counts : goal.draw_alpha-requires-clause-counts
draw_alpha-requires-clause-counts g c =
    sym (ap (λ (n : PcsNumbers). n.counts)
    (c.start-transcript.ensures.starts.shape ∙ c.requires.shape))

pub draw_alpha-requires-clause-at_most_max : goal.draw_alpha-requires-clause-at_most_max
draw_alpha-requires-clause-at_most_max g c =
    rw (c.start-transcript.ensures.starts.shape, c.requires.shape)
    c.requires.range.batch_bits_at_most_max

pub returns-in-Err-clause-exact : goal.returns-in-Err-clause-exact
returns-in-Err-clause-exact g c other =
    let no = stopped g (goal.at.returns-in-Err-clause-exact g c).In-Err in (
      (λ e. cc),
      (λ a. absurd (not_accepted (setting_at g c.args.known.now.folding.now c.args.known.now.params.now.mmcs c.args.known.now.input_mmcs.now)
          (parameters_of c.args.known.now.params.now) (claims_of (λ d. d.log_size) c.args.known.now.claims.now) (proof_of c.args.proof.now)
          c.args.challenger.now no.0 no.1 no.2 a)),
    )

pub returns-in-Err-clause-refusal : goal.returns-in-Err-clause-refusal
returns-in-Err-clause-refusal g c =
    let no = stopped g (goal.at.returns-in-Err-clause-refusal g c).In-Err in
    batch_stands (setting_at g c.args.known.now.folding.now c.args.known.now.params.now.mmcs c.args.known.now.input_mmcs.now)
    (parameters_of c.args.known.now.params.now) (claims_of (λ d. d.log_size) c.args.known.now.claims.now) (proof_of c.args.proof.now)
    c.args.challenger.now (pcs_shape c.args.shape) _
    c.in-Err.failure c.refused.result
    (rw c.start-transcript.ensures.starts.shape at c.in-Err.ensures.failure)
    no.0 no.1 no.2 c.refused.ensures

pub returns-in-Ok-tested-clause-exact : goal.returns-in-Ok-tested-clause-exact
returns-in-Ok-tested-clause-exact g c other = (
  (λ e. accepted (setting_at g c.args.known.now.folding.now c.args.known.now.params.now.mmcs c.args.known.now.input_mmcs.now)
      (parameters_of c.args.known.now.params.now) (claims_of (λ d. d.log_size) c.args.known.now.claims.now) (proof_of c.args.proof.now)
      c.args.challenger.now c.in-Ok.alpha c.draw_alpha.new.transcript.challenger.now
      (drawn g (goal.at.returns-in-Ok-tested-clause-exact g c).In-Ok)
      ((c.in-Ok-tested.ensures.exact (λ same. cc)).0 refl)),
  (λ a. refl),
)

pub returns-in-Ok-tested-clause-state : goal.returns-in-Ok-tested-clause-state
returns-in-Ok-tested-clause-state g c ok =
    ends (setting_at g c.args.known.now.folding.now c.args.known.now.params.now.mmcs c.args.known.now.input_mmcs.now)
    (parameters_of c.args.known.now.params.now) (claims_of (λ d. d.log_size) c.args.known.now.claims.now) (proof_of c.args.proof.now)
    c.args.challenger.now c.in-Ok.alpha c.draw_alpha.new.transcript.challenger.now
    (drawn g (goal.at.returns-in-Ok-tested-clause-state g c).In-Ok)
    c.test_inside-tested.new.transcript.challenger.now _ (c.in-Ok-tested.ensures.state refl) (search rules)

pub returns-in-Err-tested-clause-exact : goal.returns-in-Err-tested-clause-exact
returns-in-Err-tested-clause-exact g c other = (
  (λ e. cc),
  (λ a. (c.in-Err-tested.ensures.exact other).1
      (accepted_inside (setting_at g c.args.known.now.folding.now c.args.known.now.params.now.mmcs c.args.known.now.input_mmcs.now)
      (parameters_of c.args.known.now.params.now) (claims_of (λ d. d.log_size) c.args.known.now.claims.now) (proof_of c.args.proof.now)
      c.args.challenger.now c.in-Ok.alpha c.draw_alpha.new.transcript.challenger.now
      (drawn g (goal.at.returns-in-Err-tested-clause-exact g c).In-Ok) a)),
)

pub returns-in-Err-tested-clause-refusal : goal.returns-in-Err-tested-clause-refusal
returns-in-Err-tested-clause-refusal g c =
    stands_inside (setting_at g c.args.known.now.folding.now c.args.known.now.params.now.mmcs c.args.known.now.input_mmcs.now)
    (parameters_of c.args.known.now.params.now) (claims_of (λ d. d.log_size) c.args.known.now.claims.now) (proof_of c.args.proof.now)
    c.args.challenger.now c.in-Ok.alpha c.draw_alpha.new.transcript.challenger.now
    (drawn g (goal.at.returns-in-Err-tested-clause-refusal g c).In-Ok)
    c.in-Err-tested.refusal c.in-Err-tested.ensures.refusal
