use Rattle.std.proofs.Common.{◌≡◌, ◌∙◌, map, sym, ap, subst}
use Rattle.std.specs.Prelude.{All}
use Rattle.std.specs.List.{AllZip}
use Rattle.p3_challenger_core.specs.Run.{moves}
use Rattle.p3_fri_folding.specs.declared.config.FriParameters.{FriParameters}
use Rattle.p3_fri_relation.specs.Setting.{Fields, Setting}
use Rattle.p3_fri_relation.specs.Views.{parameters_of, proof_of}
use Rattle.p3_fri_openings.specs.Denominators.{AreInverses, ArePointsCovered}
use Rattle.p3_fri_batch.specs.Rounds.{HaveValues, opened_of}
use Rattle.p3_fri_batch.proofs.Honest.{rounds_have_values}
use Rattle.p3_fri_opening_prover.specs.Setting.{OpeningSetting}
use Rattle.p3_fri_opening_prover.specs.Opening.{IsOpening}
use Rattle.p3_fri_opening_prover.proofs.open.open_rounds.Given.{Over}
use Rattle.p3_fri_opening_prover.proofs.open.open_rounds.Goals as goal

abbrev fields_of : (g : Over) → Fields g.row.F.Denot g.row.EF.Denot
fields_of g = record {
  base = g.F.Field.ops;
  ext = g.EF.Field.ops;
  lift = g.EF.ExtensionField.lift;
  coefficients = g.EF.ExtensionField.coefficients;
  degree = g.EF.ExtensionField.DIMENSION;
  root = g.F.TwoAdicField.root;
  two_adicity = g.F.TwoAdicField.TWO_ADICITY;
  shift = g.F.Field.GENERATOR;
}

-- what the layers below compute and accept, named once
abbrev setting_at : (g : Over) → g.row.S.Denot → g.row.M.Denot → g.row.InputMmcs.Denot
    → Setting g.row.F.Denot g.row.EF.Denot g.row.C.Denot g.row.M-Commitment.Denot
    g.row.M-MultiProof.Denot g.row.InputMmcs-Commitment.Denot g.row.InputMmcs-MultiProof.Denot
setting_at g folding mmcs input_mmcs = record {
  fields = fields_of g;
  fold = g.S.FriFoldingStrategy.row_fold folding;
  extra_bits = g.S.FriFoldingStrategy.extra_query_index_bits folding;
  moves = moves g.C.CanObserve-1.observed g.C.CanObserve-2.observed g.C.CanSample.sampled
      g.EF.ExtensionField.of_coefficients g.EF.ExtensionField.DIMENSION
      g.C.CanSampleBits.sampled_bits;
  opens_input = g.InputMmcs.Mmcs.opens input_mmcs;
  opens_round = g.M.Mmcs.opens mmcs;
}

-- and what openings stand on
abbrev parts_at : (g : Over) → g.row.S.Denot
    → FriParameters g.row.M.Denot → g.row.InputMmcs.Denot
    → OpeningSetting g.row.F.Denot g.row.EF.Denot g.row.C.Denot g.row.InputMmcs-ProverData.Denot
    g.row.M-ProverData.Denot g.row.M-Commitment.Denot g.row.M-MultiProof.Denot
    g.row.InputMmcs-Commitment.Denot g.row.InputMmcs-MultiProof.Denot
parts_at g folding params input_mmcs = record {
  setting = setting_at g folding params.mmcs input_mmcs;
  parameters = parameters_of params;
  committed = g.InputMmcs.Mmcs.committed;
  commitment_of = g.InputMmcs.Mmcs.commitment_of;
  round_committed = g.M.Mmcs.committed;
  round_commitment_of = g.M.Mmcs.commitment_of;
  solution = g.C.GrindingChallenger.solution;
  most_bits = g.C.CanSampleBits.MAX_SAMPLE_BITS;
  max_log_height = g.S.FriFoldingStrategy.max_log_height folding;
}

pub open_seeded-proved-requires-clause-values :
    goal.open_seeded-proved-requires-clause-values
open_seeded-proved-requires-clause-values g c =
    subst (λ ys. AllZip HaveValues c.args.rounds.now ys) (sym c.in-Ok.ensures.values)
    (rounds_have_values (fields_of g) c.args.params.now.log_blowup c.args.rounds.now)

pub open_seeded-proved-requires-clause-inverses :
    goal.open_seeded-proved-requires-clause-inverses
open_seeded-proved-requires-clause-inverses g c =
    subst (λ es. All (AreInverses (fields_of g)) es) (sym c.deref.ensures.value)
    c.in-Ok.ensures.inverses

pub open_seeded-proved-requires-clause-covered :
    goal.open_seeded-proved-requires-clause-covered
open_seeded-proved-requires-clause-covered g c =
    subst (λ es. All (ArePointsCovered es) c.args.rounds.now) (sym c.deref.ensures.value)
    c.in-Ok.ensures.covered

pub returns-in-Ok-proved-clause-opening :
    goal.returns-in-Ok-proved-clause-opening
returns-in-Ok-proved-clause-opening g c =
    let r = parts_at g c.args.folding.now c.args.params.now c.args.input_mmcs.now in
    let rounds = c.args.rounds.now in
    let proof = proof_of c.in-Ok-proved.proof in
    let last = c.open_seeded-proved.new.challenger in
    subst (λ ys. IsOpening r (opened_of rounds ys) ys c.args.challenger.now
    (map (λ d. d.prover_data.now) c.args.opened.now) proof last) c.in-Ok.ensures.values
    c.in-Ok-proved.ensures.opening
