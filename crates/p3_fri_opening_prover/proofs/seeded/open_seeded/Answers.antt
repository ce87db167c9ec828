use Rattle.std.proofs.Common.{◌≡◌, ◌∙◌, ap, unwrap_or, rules}
use Rattle.p3_challenger_core.specs.Run.{moves}
use Rattle.p3_challenger_fs.specs.Separator.{seed_bytes}
use Rattle.p3_pcs.specs.Claims.{opened_values}
use Rattle.p3_fri_pcs_transcript.specs.Shapes.{pcs_shape}
use Rattle.p3_fri_pcs_transcript.proofs.ClaimTurns.{all_claims_left}
use Rattle.p3_fri_relation.specs.Setting.{Setting}
use Rattle.p3_fri_relation.specs.Views.{parameters_of, proof_of}
use Rattle.p3_fri_batch.specs.Rounds.{opened_of}
use Rattle.p3_fri_opening_prover.specs.Setting.{OpeningSetting}
use Rattle.p3_fri_opening_prover.specs.declared.setting.ProverSetting.{ProverSetting}
use Rattle.p3_fri_opening_prover.proofs.Drawn.{IsClaimed, is_claimed, is_drawn, opening_made}
use Rattle.p3_fri_opening_prover.proofs.Drawn.{stopped, no_witness, is_sent, zero_at_no_bits}
use Rattle.p3_fri_opening_prover.proofs.seeded.open_seeded.Given.{Over}
use Rattle.p3_fri_opening_prover.proofs.seeded.open_seeded.Goals.{After-claimed_openings}
use Rattle.p3_fri_opening_prover.proofs.seeded.open_seeded.Goals.{After-unwrap_or}
use Rattle.p3_fri_opening_prover.proofs.seeded.open_seeded.Goals as goal

-- what the layers below compute and accept, named once
abbrev setting_at : (g : Over) → g.row.S.Denot → g.row.M.Denot → g.row.InputMmcs.Denot
    → Setting g.row.F.Denot g.row.EF.Denot g.row.C.Denot g.row.M-Commitment.Denot
    g.row.M-MultiProof.Denot g.row.InputMmcs-Commitment.Denot g.row.InputMmcs-MultiProof.Denot
setting_at g folding mmcs input_mmcs = record {
  fields = record {
    base = g.F.Field.ops;
    ext = g.EF.Field.ops;
    lift = g.EF.ExtensionField.lift;
    coefficients = g.EF.ExtensionField.coefficients;
    degree = g.EF.ExtensionField.DIMENSION;
    root = g.F.TwoAdicField.root;
    two_adicity = g.F.TwoAdicField.TWO_ADICITY;
    shift = g.F.Field.GENERATOR;
  };
  fold = g.S.FriFoldingStrategy.row_fold folding;
  extra_bits = g.S.FriFoldingStrategy.extra_query_index_bits folding;
  moves = moves g.C.CanObserve-1.observed g.C.CanObserve-2.observed g.C.CanSample.sampled
      g.EF.ExtensionField.of_coefficients g.EF.ExtensionField.DIMENSION
      g.C.CanSampleBits.sampled_bits;
  opens_input = g.InputMmcs.Mmcs.opens input_mmcs;
  opens_round = g.M.Mmcs.opens mmcs;
}

-- and what openings stand on
abbrev parts_at : (g : Over) → ProverSetting g.row.S.Denot g.row.M.Denot g.row.InputMmcs.Denot
    → OpeningSetting g.row.F.Denot g.row.EF.Denot g.row.C.Denot g.row.InputMmcs-ProverData.Denot
    g.row.M-ProverData.Denot g.row.M-Commitment.Denot g.row.M-MultiProof.Denot
    g.row.InputMmcs-Commitment.Denot g.row.InputMmcs-MultiProof.Denot
parts_at g s = record {
  setting = setting_at g s.folding.now s.params.now.mmcs s.input_mmcs.now;
  parameters = parameters_of s.params.now;
  committed = g.InputMmcs.Mmcs.committed;
  commitment_of = g.InputMmcs.Mmcs.commitment_of;
  round_committed = g.M.Mmcs.committed;
  round_commitment_of = g.M.Mmcs.commitment_of;
  solution = g.C.GrindingChallenger.solution;
  most_bits = g.C.CanSampleBits.MAX_SAMPLE_BITS;
  max_log_height = g.S.FriFoldingStrategy.max_log_height s.folding.now;
}

-- the transcript once the values are claimed
claimed : (g : Over) (c : After-claimed_openings g)
    → let ys = opened_values c.args.opened.now.values.now.items in
    IsClaimed (parts_at g c.args.setting.now)
    (opened_of c.args.opened.now.rounds.now ys) ys c.args.challenger.now
    c.claimed_openings.new.self.challenger.now
    (pcs_shape c.claimed_openings.new.self.shape).batch_pow_bits
claimed g c =
    let r = parts_at g c.args.setting.now in
    let vectors = c.args.opened.now.values.now.items in
    let begun = c.start-transcript in
    let claims = c.claimed_openings in
    is_claimed r
    (opened_of c.args.opened.now.rounds.now (opened_values vectors)) vectors c.args.challenger.now
    (pcs_shape c.args.shape) (pcs_shape begun.result.shape) (pcs_shape claims.new.self.shape)
    (seed_bytes c.args.seed) begun.result.challenger.now claims.new.self.challenger.now
    c.requires.shape begun.ensures.starts.shape claims.ensures.kept.shape c.requires.stream
    begun.ensures.starts.state claims.ensures.state

-- the witness that is sent, which is zero where none is found
sent : (g : Over) (c : After-unwrap_or g)
    → c.unwrap_or.result ≡ unwrap_or c.in-Ok.drawn.1 g.F.Field.ops.zero
sent g c =
    c.unwrap_or.ensures
    ∙ ap (λ z. unwrap_or c.in-Ok.drawn.1 z) (c.ZERO.ensures ∙ g.met.F.Field.zero_law)

pub claimed_openings-requires-clause-no_step_played :
    goal.claimed_openings-requires-clause-no_step_played
claimed_openings-requires-clause-no_step_played g c =
    all_claims_left g.EF.ExtensionField.DIMENSION (pcs_shape c.args.shape)
    (pcs_shape c.start-transcript.result.shape) _ c.start-transcript.ensures.starts.shape
    (c.start-transcript.ensures.steps ∙ c.requires.turns)

pub returns-in-Err-clause-stops :
    goal.returns-in-Err-clause-stops
returns-in-Err-clause-stops g c =
    no_witness (claimed g (goal.at.returns-in-Err-clause-stops g c).After-claimed_openings)
    c.in-Err.refusal c.in-Err.ensures.refused c.in-Err.ensures.none_passes

pub returns-in-Ok-tested-clause-opening :
    goal.returns-in-Ok-tested-clause-opening
returns-in-Ok-tested-clause-opening g c =
    let at = goal.at.returns-in-Ok-tested-clause-opening g c in
    let claims = claimed g at.After-claimed_openings in
    let carried = sent g at.After-unwrap_or in
    let drawn = is_drawn claims c.unwrap_or.result _ c.in-Ok.drawn.0
    c.batch_phase.new.self.challenger.now c.begin_delegate.result.now carried
    c.in-Ok.ensures.batch c.begin_delegate.ensures.value in
    opening_made drawn c.args.opened.now.data.now (λ d. d.prover_data.now)
    (proof_of c.in-Ok-tested.proof) c.prove_words-tested.new.challenger _
    c.in-Ok-tested.ensures.batch_witness
    (zero_at_no_bits claims c.in-Ok.drawn.1 c.unwrap_or.result carried c.in-Ok.ensures.witness)
    c.in-Ok-tested.ensures.proved c.in-Ok-tested.ensures.inputs_opened (search rules)

pub returns-in-Err-tested-clause-stops :
    goal.returns-in-Err-tested-clause-stops
returns-in-Err-tested-clause-stops g c =
    let at = goal.at.returns-in-Err-tested-clause-stops g c in
    let claims = claimed g at.After-claimed_openings in
    let carried = sent g at.After-unwrap_or in
    let drawn = is_drawn claims c.unwrap_or.result _ c.in-Ok.drawn.0
    c.batch_phase.new.self.challenger.now c.begin_delegate.result.now carried
    c.in-Ok.ensures.batch c.begin_delegate.ensures.value in
    stopped drawn c.in-Err-tested.refusal
    (is_sent claims c.in-Ok.drawn.1 c.unwrap_or.result carried c.in-Ok.ensures.witness
    c.in-Ok.ensures.found)
    c.in-Err-tested.ensures.refused
