use Rattle.std.proofs.Common.{◌∙◌, ap}
use Rattle.p3_challenger_core.specs.Run.{Moves, moves}
use Rattle.p3_field_core.specs.Basis.{unit_vector}
use Rattle.p3_uni_stark_verifier.specs.Setting.{StarkFields}
use Rattle.p3_uni_stark_prover.proofs.Finishing.{refuted, finished}
use Rattle.p3_uni_stark_prover.proofs.steps.finish.Given.{Over}
use Rattle.p3_uni_stark_prover.proofs.steps.finish.Goals as goal

abbrev fields_of : (g : Over) → StarkFields g.row.F.Denot g.row.EF.Denot
fields_of g = record {
  base = g.F.Field.ops;
  ext = g.EF.Field.ops;
  lift = g.EF.ExtensionField.lift;
  root = g.F.TwoAdicField.root;
  two_adicity = g.F.TwoAdicField.TWO_ADICITY;
  generator = g.F.Field.GENERATOR;
  dimension = g.EF.ExtensionField.DIMENSION;
  basis = λ e. g.EF.ExtensionField.of_coefficients
      (unit_vector g.F.Field.ops g.EF.ExtensionField.DIMENSION e);
  canonical = g.F.PrimeField64.canonical;
}

abbrev moves_of : (g : Over) → Moves g.row.C.Denot g.row.F.Denot g.row.EF.Denot g.row.Com.Denot
moves_of g = moves g.C.CanObserve-1.observed g.C.CanObserve-2.observed g.C.CanSample.sampled
    g.EF.ExtensionField.of_coefficients g.EF.ExtensionField.DIMENSION
    g.C.CanSampleBits.sampled_bits

pub returns-clause-finished : goal.returns-clause-finished
returns-clause-finished g c =
    let zeta = c.draw_zeta-zeta.result in
    let next = g.met.EF.Field.mul_law c.from_base-generator.result zeta c.mul.result c.mul.ensures
    ∙ ap (λ x. g.EF.Field.ops.mul x zeta)
    (c.from_base-generator.ensures
    ∙ ap g.EF.ExtensionField.lift c.two_adic_generator.ensures) in
    finished (fields_of g) (moves_of g) (g.P.Pcs.rules c.args.scheme.now)
    (g.P.UnivariateStarkPcs.stark_rules c.args.scheme.now) c.args.log_height c.args.num_chunks
    c.args.commitments c.args.committed.now c.requires.commitments c.args.challenger.now
    c.draw_zeta-zeta.new.challenger c.open_columns.new.challenger zeta c.mul.result
    c.draw_zeta-zeta.ensures
    (refuted c.is_on_domain.result _ c.is_on_domain.ensures c.if-is_on_domain.false)
    next c.in_ok-opened_values.opened_values c.in_ok-opened_values.opening_proof
    c.in_ok-opened_values.ensures.values c.in_ok-opened_values.ensures.accepted
    c.in_ok-opened_values.ensures.state
