use Rattle.std.proofs.Common.{◌≡◌, ◌∙◌, ℕ, List, length, refl, sym, ap, arith, subst, Vec}
use Rattle.std.specs.List.{AllZip}
use Rattle.std.proofs.lemmas.List.{length-map}
use Rattle.std.proofs.lemmas.Slice.Zip.{AllZip-long}
use Rattle.algebra.specs.Nested.{lists}
use Rattle.p3_challenger_core.specs.Run.{moves}
use Rattle.p3_challenger_fs.specs.Separator.{seed_bytes}
use Rattle.p3_challenger_fs.specs.Turns.{bytes_observed}
use Rattle.p3_fri_transcript.specs.Shapes.{fri_shape}
use Rattle.p3_fri_relation.specs.Setting.{Setting}
use Rattle.p3_fri_relation.specs.Views.{parameters_of, proof_of, round_opened, inputs_opened}
use Rattle.p3_fri_prover.specs.Inputs.{HaveHeights, AreInputs}
use Rattle.p3_fri_prover.specs.Openings.{OpensBatch}
use Rattle.p3_fri_prover.specs.Played.{IsPlayed}
use Rattle.p3_fri_prover.proofs.Inputs.{some_word}
use Rattle.p3_fri_prover.proofs.Concluded.{IsMade, made_of_played, zip_viewed}
use Rattle.p3_fri_prover.proofs.Concluded.{positions_of_proof, proof_is_proved}
use Rattle.p3_fri_prover.proofs.Planned.{IsPlan, places, is_numbers, planned_description}
use Rattle.p3_fri_prover.proofs.Planned.{planned_positive, planned_below_64, planned_playable}
use Rattle.p3_fri_prover.proofs.Planned.{planned_final_polynomial, planned_positions}
use Rattle.p3_fri_prover.proofs.Planned.{planned_data, planned_openable, first_input_length}
use Rattle.p3_fri_prover.proofs.Refused.{refused_plan, refused_play, refused_memory}
use Rattle.p3_fri_prover.proofs.Refused.{not_for_height}
use Rattle.p3_fri_prover.proofs.prover.prove.prove_fri.Given.{Over}
use Rattle.p3_fri_prover.proofs.prover.prove.prove_fri.Goals.{In-Ok, In-Ok-test, In-Ok-opened}
use Rattle.p3_fri_prover.proofs.prover.prove.prove_fri.Goals as goal

-- what the layers below compute and accept
abbrev setting_at : (g : Over) → g.row.S.Denot → g.row.M.Denot → g.row.InputMmcs.Denot
    → Setting g.row.F.Denot g.row.EF.Denot g.row.C.Denot g.row.M-Commitment.Denot
    g.row.M-MultiProof.Denot g.row.InputMmcs-Commitment.Denot g.row.InputMmcs-MultiProof.Denot
setting_at g folding mmcs input_mmcs = record {
  fields = record {
    base = g.F.Field.ops;
    ext = g.EF.Field.ops;
    lift = g.EF.ExtensionField.lift;
    coefficients = g.EF.ExtensionField.coefficients;
    degree = g.EF.ExtensionField.DIMENSION;
    root = g.F.TwoAdicField.root;
    two_adicity = g.F.TwoAdicField.TWO_ADICITY;
    shift = g.F.Field.GENERATOR;
  };
  fold = g.S.FriFoldingStrategy.row_fold folding;
  extra_bits = g.S.FriFoldingStrategy.extra_query_index_bits folding;
  moves = moves g.C.CanObserve-1.observed g.C.CanObserve-2.observed g.C.CanSample.sampled
      g.EF.ExtensionField.of_coefficients g.EF.ExtensionField.DIMENSION
      g.C.CanSampleBits.sampled_bits;
  opens_input = g.InputMmcs.Mmcs.opens input_mmcs;
  opens_round = g.M.Mmcs.opens mmcs;
}

-- what was planned, of which the log arities are passed on
planned : (g : Over) (c : In-Ok g) {arities : List ℕ} → arities ≡ c.in-Ok.plan.log_arities.items
    → IsPlan (parameters_of c.args.params.now) c.args.log_global_max_height
    c.extra_query_index_bits-extra_bits.result (lists c.args.inputs.items) arities
    (fri_shape c.in-Ok.plan.transcript.shape)
planned g c are_arities =
    let seen : (heights : List ℕ) → HaveHeights heights (lists c.args.inputs.items)
    → HaveHeights heights (lists c.deref.result.now) =
    λ heights h. subst (λ xs. HaveHeights heights (lists xs)) (sym c.deref.ensures.value) h in
    record {
      are = c.requires.inputs;
      capped = c.requires.in_range.cap;
      scheduled = λ heights h. are_arities ∙ c.in-Ok.ensures.log_arities heights (seen heights h);
      described = λ heights h. c.in-Ok.ensures.shape heights (seen heights h);
      tall = λ heights h. c.in-Ok.ensures.tall_enough heights (seen heights h);
    }

-- what was played by it
played : (g : Over) (c : In-Ok-test g)
    → let s = setting_at g c.args.folding.now c.args.params.now.mmcs c.args.input_mmcs.now in
    let found = c.in-Ok-test.played in
    IsPlayed g.M.Mmcs.committed g.M.Mmcs.commitment_of s.fields s.fold s.moves
    c.args.params.now.log_final_poly_len (fri_shape c.in-Ok.plan.transcript.shape)
    c.args.log_global_max_height (lists c.args.inputs.items)
    (bytes_observed s.fields.base s.moves.observe_value c.args.challenger.now
    (seed_bytes c.in-Ok.plan.transcript.seed)) g.C.GrindingChallenger.solution found.rounds.commitments.items found.rounds.witnesses.items
    found.rounds.prover_data.items found.final_poly.items found.query_witness found.indices.items
    c.play_test-test.new.challenger
played g c =
    c.in-Ok-test.ensures.played c.args.log_global_max_height (first_input_length c.requires.inputs)

-- the proof has what was played
made : (g : Over) (c : In-Ok-opened g) (heights : List ℕ)
    → HaveHeights heights (lists c.args.inputs.items)
    → IsMade g.M.Mmcs.committed g.M.Mmcs.commitment_of
    (setting_at g c.args.folding.now c.args.params.now.mmcs c.args.input_mmcs.now)
    (parameters_of c.args.params.now) heights c.args.log_global_max_height
    (lists c.args.inputs.items) c.args.challenger.now g.C.GrindingChallenger.solution
    (proof_of c.in-Ok-opened.proof) c.extra_query_index_bits-extra_bits.result c.in-Ok-test.played.rounds.prover_data.items
    c.in-Ok-test.played.indices.items c.play_test-test.new.challenger
made g c heights have =
    let opened = c.in-Ok-opened.ensures in
    made_of_played (played g (goal.at.In-Ok-opened g c).In-Ok-test)
    c.extra_query_index_bits-extra_bits.ensures
    ((planned g (goal.at.In-Ok-opened g c).In-Ok refl).described heights have)
    c.in-Ok.ensures.stream
    (ap (λ (v : Vec _ _). v.items) opened.commitments)
    (ap (λ (v : Vec _ _). v.items) opened.witnesses)
    (ap (λ (v : Vec _ _). v.items) opened.final_poly) opened.query_witness

-- each input is opened, at the positions
inputs_open : (g : Over) (c : In-Ok-opened g)
    → AllZip (λ datum o. OpensBatch (g.InputMmcs.Mmcs.opens c.args.input_mmcs.now)
    c.args.log_global_max_height
    (places c.extra_query_index_bits-extra_bits.result c.in-Ok-test.played.indices.items)
    (g.InputMmcs.Mmcs.committed datum.prover_data.now)
    (g.InputMmcs.Mmcs.commitment_of datum.prover_data.now) o) c.args.data_with_points.now
    (inputs_opened c.in-Ok-opened.proof.input_openings.items)
inputs_open g c = zip_viewed _ _ _ _ c.in-Ok-opened.ensures.inputs_opened

pub make_plan-plan-requires-clause-inputs : goal.make_plan-plan-requires-clause-inputs
make_plan-plan-requires-clause-inputs g c =
    subst (λ xs. AreInputs c.args.log_global_max_height (lists xs)) (sym c.deref.ensures.value)
    c.requires.inputs

pub make_plan-plan-requires-clause-top_below_64 : goal.make_plan-plan-requires-clause-top_below_64
make_plan-plan-requires-clause-top_below_64 g c =
    omega (arith, c.requires.within_two_adicity, g.met.F.TwoAdicField.two_adicity_law)

pub make_plan-plan-requires-clause-index_bits_fit :
    goal.make_plan-plan-requires-clause-index_bits_fit
make_plan-plan-requires-clause-index_bits_fit g c =
    omega (
      arith,
      c.requires.within_two_adicity,
      c.requires.in_range.index_bits,
      c.extra_query_index_bits-extra_bits.ensures,
      g.met.C.CanSampleBits.max_law,
    )

pub returns-in-Err-clause-refused : goal.returns-in-Err-clause-refused
returns-in-Err-clause-refused g c = λ heights have.
    refused_plan (setting_at g c.args.folding.now c.args.params.now.mmcs c.args.input_mmcs.now)
    g.M.Mmcs.committed g.M.Mmcs.commitment_of (parameters_of c.args.params.now) heights
    c.args.log_global_max_height (lists c.args.inputs.items) c.args.challenger.now
    g.C.GrindingChallenger.solution c.in-Err.refusal (c.in-Err.ensures.refused heights
    (subst (λ xs. HaveHeights heights (lists xs)) (sym c.deref.ensures.value) have))

pub play_test-test-requires-clause-some_input : goal.play_test-test-requires-clause-some_input
play_test-test-requires-clause-some_input g c =
    let words = c.args.inputs in
    let are = c.requires.inputs in
    omega (
      arith,
      words.ok.0,
      length-map words.items (λ word. word.items),
      some_word are.heights (lists words.items) are.have are.some,
    )

pub play_test-test-requires-clause-positive : goal.play_test-test-requires-clause-positive
play_test-test-requires-clause-positive g c =
    planned_positive (planned g (goal.at.play_test-test-requires-clause-positive g c).In-Ok
    c.deref-2.ensures.value)

pub play_test-test-requires-clause-below_64 : goal.play_test-test-requires-clause-below_64
play_test-test-requires-clause-below_64 g c =
    planned_below_64 (planned g (goal.at.play_test-test-requires-clause-below_64 g c).In-Ok
    c.deref-2.ensures.value)
    (omega (arith, c.requires.within_two_adicity, g.met.F.TwoAdicField.two_adicity_law))

pub play_test-test-requires-clause-can_play : goal.play_test-test-requires-clause-can_play
play_test-test-requires-clause-can_play g c =
    planned_playable (planned g (goal.at.play_test-test-requires-clause-can_play g c).In-Ok
    c.deref-2.ensures.value) (g.S.FriFoldingStrategy.max_log_height c.args.folding.now)
    (omega (arith, c.requires.within_two_adicity, c.requires.max_log_height))

pub play_test-test-requires-clause-log_final_poly_len_below_64 :
    goal.play_test-test-requires-clause-log_final_poly_len_below_64
play_test-test-requires-clause-log_final_poly_len_below_64 g c =
    let within = planned_final_polynomial
    (planned g (goal.at.play_test-test-requires-clause-log_final_poly_len_below_64 g c).In-Ok refl)
    g.F.TwoAdicField.TWO_ADICITY c.requires.within_two_adicity in
    omega (arith, within, g.met.F.TwoAdicField.two_adicity_law)

pub play_test-test-requires-clause-within_two_adicity :
    goal.play_test-test-requires-clause-within_two_adicity
play_test-test-requires-clause-within_two_adicity g c =
    planned_final_polynomial
    (planned g (goal.at.play_test-test-requires-clause-within_two_adicity g c).In-Ok refl)
    g.F.TwoAdicField.TWO_ADICITY c.requires.within_two_adicity

pub play_test-test-requires-clause-described : goal.play_test-test-requires-clause-described
play_test-test-requires-clause-described g c =
    planned_description (planned g (goal.at.play_test-test-requires-clause-described g c).In-Ok
    c.deref-2.ensures.value) g.C.CanSampleBits.MAX_SAMPLE_BITS c.requires.in_range.commit_bits
    c.requires.in_range.query_bits
    (omega (
      arith,
      c.requires.in_range.index_bits,
      c.requires.within_two_adicity,
      c.extra_query_index_bits-extra_bits.ensures,
    ))

pub returns-in-Err-test-clause-refused : goal.returns-in-Err-test-clause-refused
returns-in-Err-test-clause-refused g c = λ heights have.
    let top = c.args.log_global_max_height in
    let plan = planned g (goal.at.returns-in-Err-test-clause-refused g c).In-Ok refl in
    refused_play (setting_at g c.args.folding.now c.args.params.now.mmcs c.args.input_mmcs.now)
    g.M.Mmcs.committed g.M.Mmcs.commitment_of (parameters_of c.args.params.now) heights top
    (lists c.args.inputs.items) c.args.challenger.now g.C.GrindingChallenger.solution
    c.extra_query_index_bits-extra_bits.result
    c.extra_query_index_bits-extra_bits.ensures (fri_shape c.in-Ok.plan.transcript.shape)
    (plan.described heights have) (seed_bytes c.in-Ok.plan.transcript.seed) c.in-Ok.ensures.stream
    c.in-Err-test.refusal
    (c.in-Err-test.ensures.refused top (first_input_length c.requires.inputs))
    (plan.tall heights have)

pub returns-in-Err-test-clause-unmoved : goal.returns-in-Err-test-clause-unmoved
returns-in-Err-test-clause-unmoved g c = λ for_height.
    let top = c.args.log_global_max_height in
    let plan = planned g (goal.at.returns-in-Err-test-clause-unmoved g c).In-Ok refl in
    absurd (not_for_height
    (setting_at g c.args.folding.now c.args.params.now.mmcs c.args.input_mmcs.now)
    g.M.Mmcs.committed g.M.Mmcs.commitment_of (parameters_of c.args.params.now) plan.are.heights top
    (lists c.args.inputs.items) c.args.challenger.now g.C.GrindingChallenger.solution
    c.extra_query_index_bits-extra_bits.result
    c.extra_query_index_bits-extra_bits.ensures (fri_shape c.in-Ok.plan.transcript.shape) (is_numbers plan)
    (seed_bytes c.in-Ok.plan.transcript.seed) c.in-Ok.ensures.stream c.in-Err-test.refusal
    (c.in-Err-test.ensures.refused top (first_input_length c.requires.inputs)) for_height)

pub open_played-opened-requires-clause-extra_bits_below_64 :
    goal.open_played-opened-requires-clause-extra_bits_below_64
open_played-opened-requires-clause-extra_bits_below_64 g c =
    omega (
      arith,
      c.requires.in_range.index_bits,
      c.extra_query_index_bits-extra_bits.ensures,
      g.met.C.CanSampleBits.max_law,
    )

pub open_played-opened-requires-clause-top_below_64 :
    goal.open_played-opened-requires-clause-top_below_64
open_played-opened-requires-clause-top_below_64 g c =
    omega (arith, c.requires.within_two_adicity, g.met.F.TwoAdicField.two_adicity_law)

pub open_played-opened-requires-clause-positions :
    goal.open_played-opened-requires-clause-positions
open_played-opened-requires-clause-positions g c =
    let here = goal.at.open_played-opened-requires-clause-positions g c in
    planned_positions (planned g here.In-Ok refl) (played g here.In-Ok-test)

pub open_played-opened-requires-clause-data_for_each :
    goal.open_played-opened-requires-clause-data_for_each
open_played-opened-requires-clause-data_for_each g c =
    let here = goal.at.open_played-opened-requires-clause-data_for_each g c in
    planned_data (planned g here.In-Ok c.deref-3.ensures.value) (played g here.In-Ok-test)

pub open_played-opened-requires-clause-openable : goal.open_played-opened-requires-clause-openable
open_played-opened-requires-clause-openable g c =
    let here = goal.at.open_played-opened-requires-clause-openable g c in
    planned_openable (planned g here.In-Ok c.deref-3.ensures.value) (played g here.In-Ok-test)
    (omega (arith, c.requires.within_two_adicity, g.met.F.TwoAdicField.two_adicity_law))

pub returns-in-Ok-opened-clause-proved : goal.returns-in-Ok-opened-clause-proved
returns-in-Ok-opened-clause-proved g c = λ heights have.
    let here = goal.at.returns-in-Ok-opened-clause-proved g c in
    let openings = c.in-Ok-opened.proof.commit_phase_openings in
    proof_is_proved (made g here.In-Ok-opened heights have)
    (planned g here.In-Ok c.deref-3.ensures.value) have round_opened openings.items refl
    (sym openings.ok.0 ∙ c.in-Ok-opened.ensures.rounds_counted) c.in-Ok-opened.ensures.rounds_opened
    (g.S.FriFoldingStrategy.max_log_height c.args.folding.now)
    (length c.args.data_with_points.now) g.met.F.Field.laws g.met.EF.Field.laws
    g.met.EF.ExtensionField.lift_law g.met.F.TwoAdicField.roots_law
    (g.met.S.FriFoldingStrategy.lowers_degrees c.args.folding.now) c.requires.max_log_height
    c.requires.within_two_adicity (AllZip-long _ _ _ (inputs_open g here.In-Ok-opened))

pub returns-in-Ok-opened-clause-inputs_opened : goal.returns-in-Ok-opened-clause-inputs_opened
returns-in-Ok-opened-clause-inputs_opened g c = λ heights have.
    let here = goal.at.returns-in-Ok-opened-clause-inputs_opened g c in
    rw (positions_of_proof (made g here.In-Ok-opened heights have))
    (inputs_open g here.In-Ok-opened)

pub returns-in-Ok-opened-clause-tall_enough : goal.returns-in-Ok-opened-clause-tall_enough
returns-in-Ok-opened-clause-tall_enough g c =
    (planned g (goal.at.returns-in-Ok-opened-clause-tall_enough g c).In-Ok refl).tall

pub returns-clause-refused : goal.returns-clause-refused
returns-clause-refused g c = λ heights have.
    refused_memory (setting_at g c.args.folding.now c.args.params.now.mmcs c.args.input_mmcs.now)
    g.M.Mmcs.committed g.M.Mmcs.commitment_of (parameters_of c.args.params.now) heights
    c.args.log_global_max_height (lists c.args.inputs.items) c.args.challenger.now
    g.C.GrindingChallenger.solution ((planned g (goal.at.returns-clause-refused g c).In-Ok refl).tall heights have)

pub returns-clause-unmoved : goal.returns-clause-unmoved
returns-clause-unmoved g c = λ no. absurd no
