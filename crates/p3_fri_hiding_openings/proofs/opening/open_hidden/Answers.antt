use Rattle.std.proofs.Common.{◌≡◌, ◌∙◌, map, sym, ap, arith}
use Rattle.p3_challenger_core.specs.Run.{moves}
use Rattle.p3_pcs.specs.Claims.{opened_values}
use Rattle.p3_fri_folding.specs.declared.config.FriParameters.{FriParameters}
use Rattle.p3_fri_relation.specs.Setting.{Fields, Setting}
use Rattle.p3_fri_relation.specs.Views.{parameters_of, proof_of}
use Rattle.p3_fri_openings.specs.Requests.{round_request, matrices_request}
use Rattle.p3_fri_completeness.specs.Honest.{AreTwoAdic}
use Rattle.p3_fri_opening_prover.specs.Setting.{OpeningSetting}
use Rattle.p3_fri_opening_prover.proofs.Asked.{data_seen, some_matrix}
use Rattle.p3_fri_opening_prover.proofs.Composed.{all_opened, all_refused}
use Rattle.p3_fri_opening_prover.proofs.Composed.{read_alike}
use Rattle.p3_fri_hiding_openings.proofs.opening.open_hidden.Given.{Over}
use Rattle.p3_fri_hiding_openings.proofs.opening.open_hidden.Goals.{After-deref, After-deref-2}
use Rattle.algebra.proofs.Lists.{map-map}
use Rattle.p3_fri_hiding_openings.specs.Requests.{inner_request}
use Rattle.p3_fri_opening_prover.proofs.Asked.{are_rounds, tall_rounds, off_rounds}
use Rattle.p3_fri_hiding_openings.proofs.opening.open_hidden.Goals as goal

abbrev fields_of : (g : Over) → Fields g.row.F.Denot g.row.EF.Denot
fields_of g = record {
  base = g.F.Field.ops;
  ext = g.EF.Field.ops;
  lift = g.EF.ExtensionField.lift;
  coefficients = g.EF.ExtensionField.coefficients;
  degree = g.EF.ExtensionField.DIMENSION;
  root = g.F.TwoAdicField.root;
  two_adicity = g.F.TwoAdicField.TWO_ADICITY;
  shift = g.F.Field.GENERATOR;
}

-- what the layers below compute and accept, named once
abbrev setting_at : (g : Over) → g.row.S.Denot → g.row.M.Denot → g.row.InputMmcs.Denot
    → Setting g.row.F.Denot g.row.EF.Denot g.row.C.Denot g.row.M-Commitment.Denot
    g.row.M-MultiProof.Denot g.row.InputMmcs-Commitment.Denot g.row.InputMmcs-MultiProof.Denot
setting_at g folding mmcs input_mmcs = record {
  fields = fields_of g;
  fold = g.S.FriFoldingStrategy.row_fold folding;
  extra_bits = g.S.FriFoldingStrategy.extra_query_index_bits folding;
  moves = moves g.C.CanObserve-1.observed g.C.CanObserve-2.observed g.C.CanSample.sampled
      g.EF.ExtensionField.of_coefficients g.EF.ExtensionField.DIMENSION
      g.C.CanSampleBits.sampled_bits;
  opens_input = g.InputMmcs.Mmcs.opens input_mmcs;
  opens_round = g.M.Mmcs.opens mmcs;
}

-- and what openings stand on
abbrev parts_at : (g : Over) → g.row.S.Denot
    → FriParameters g.row.M.Denot → g.row.InputMmcs.Denot
    → OpeningSetting g.row.F.Denot g.row.EF.Denot g.row.C.Denot g.row.InputMmcs-ProverData.Denot
    g.row.M-ProverData.Denot g.row.M-Commitment.Denot g.row.M-MultiProof.Denot
    g.row.InputMmcs-Commitment.Denot g.row.InputMmcs-MultiProof.Denot
parts_at g folding params input_mmcs = record {
  setting = setting_at g folding params.mmcs input_mmcs;
  parameters = parameters_of params;
  committed = g.InputMmcs.Mmcs.committed;
  commitment_of = g.InputMmcs.Mmcs.commitment_of;
  round_committed = g.M.Mmcs.committed;
  round_commitment_of = g.M.Mmcs.commitment_of;
  solution = g.C.GrindingChallenger.solution;
  most_bits = g.C.CanSampleBits.MAX_SAMPLE_BITS;
  max_log_height = g.S.FriFoldingStrategy.max_log_height folding;
}

two_adic : (g : Over) → AreTwoAdic (fields_of g)
two_adic g = record {
  base = g.met.F.Field.laws;
  ext = g.met.EF.Field.laws;
  lifts = g.met.EF.ExtensionField.lift_law;
  roots = g.met.F.TwoAdicField.roots_law;
  shift = g.met.F.Field.generator_law;
}

-- the rounds are those of the requests
same : (g : Over) (c : After-deref g) → map round_request c.deref.result.now
    ≡ map (matrices_request g.InputMmcs.Mmcs.committed) (map inner_request c.args.requests.now)
same g c = ap (λ rounds. map round_request rounds) c.deref.ensures.value ∙ c.in-Ok.ensures
    ∙ sym (map-map (matrices_request g.InputMmcs.Mmcs.committed) inner_request c.args.requests.now)

pub open_rounds-requires-clause-some_matrix :
    goal.open_rounds-requires-clause-some_matrix
open_rounds-requires-clause-some_matrix g c =
    some_matrix (fields_of g) (parameters_of c.args.params.now) g.InputMmcs.Mmcs.committed
    c.deref.result.now (map inner_request c.args.requests.now)
    (same g (goal.at.open_rounds-requires-clause-some_matrix g c).After-deref)
    c.requires.openable

-- the data that are opened are those of the requests
same_data : (g : Over) (c : After-deref-2 g) → map (λ d. d.prover_data.now) c.deref-2.result.now
    ≡ map (λ r. r.prover_data.now) (map inner_request c.args.requests.now)
same_data g c =
    ap (λ ds. map (λ d. d.prover_data.now) ds) c.deref-2.ensures.value
    ∙ (c.in-Ok-hidden_data.ensures
    ∙ sym (map-map (λ r. r.prover_data.now) inner_request c.args.requests.now))

pub open_rounds-requires-clause-opened :
    goal.open_rounds-requires-clause-opened
open_rounds-requires-clause-opened g c =
    read_alike g.InputMmcs.Mmcs.committed c.deref-2.result.now
    (map inner_request c.args.requests.now)
    (λ d. d.prover_data.now) (λ r. r.prover_data.now)
    (same_data g (goal.at.open_rounds-requires-clause-opened g c).After-deref-2)
    ∙ data_seen (fields_of g) (parameters_of c.args.params.now) g.InputMmcs.Mmcs.committed
    c.deref.result.now (map inner_request c.args.requests.now)
    (same g (goal.at.open_rounds-requires-clause-opened g c).After-deref)

pub returns-clause-opened : goal.returns-clause-opened
returns-clause-opened g c =
    all_opened (parts_at g c.args.folding.now c.args.params.now c.args.input_mmcs.now)
    c.deref.result.now (map inner_request c.args.requests.now)
    (same g (goal.at.returns-clause-opened g c).After-deref) (two_adic g)
    (λ bits few state. g.met.C.CanSampleBits.width_law state bits
    (omega (arith, few, c.requires.in_range.rounds.test.index_bits)))
    c.requires.in_range c.requires.openable c.requires.passes
    (map (λ d. d.prover_data.now) c.deref-2.result.now)
    (same_data g (goal.at.returns-clause-opened g c).After-deref-2) c.args.challenger.now
    c.open_rounds.new.challenger c.open_rounds.result (λ opening. opened_values opening.0.items)
    (λ opening. proof_of opening.1) c.open_rounds.ensures.values c.open_rounds.ensures.opening

pub returns-clause-refused :
    goal.returns-clause-refused
returns-clause-refused g c =
    all_refused (parts_at g c.args.folding.now c.args.params.now c.args.input_mmcs.now)
    c.deref.result.now (map inner_request c.args.requests.now)
    (same g (goal.at.returns-clause-refused g c).After-deref) c.args.challenger.now
    c.open_rounds.result c.requires.passes c.open_rounds.ensures.stops
    c.open_rounds.ensures.not_checked

pub open_rounds-requires-clause-rounds :
    goal.open_rounds-requires-clause-rounds
open_rounds-requires-clause-rounds g c =
    are_rounds (fields_of g) (parameters_of c.args.params.now) g.InputMmcs.Mmcs.committed
    c.deref.result.now (map inner_request c.args.requests.now)
    (same g (goal.at.open_rounds-requires-clause-rounds g c).After-deref) c.requires.openable

pub open_rounds-requires-clause-tall_enough :
    goal.open_rounds-requires-clause-tall_enough
open_rounds-requires-clause-tall_enough g c =
    tall_rounds (fields_of g) (parameters_of c.args.params.now) g.InputMmcs.Mmcs.committed
    c.deref.result.now (map inner_request c.args.requests.now)
    (same g (goal.at.open_rounds-requires-clause-tall_enough g c).After-deref)
    c.requires.passes.heights

pub open_rounds-requires-clause-off :
    goal.open_rounds-requires-clause-off
open_rounds-requires-clause-off g c =
    off_rounds (fields_of g) (parameters_of c.args.params.now) g.InputMmcs.Mmcs.committed
    c.deref.result.now (map inner_request c.args.requests.now)
    (same g (goal.at.open_rounds-requires-clause-off g c).After-deref) c.requires.passes.points
