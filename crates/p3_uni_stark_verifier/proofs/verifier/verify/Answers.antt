use Rattle.std.proofs.Common.{◌≡◌, Bool, Err, ap, subst}
use Rattle.std.proofs.lemmas.Bool.{false≢true}
use Rattle.p3_field_core.specs.declared.coset.TwoAdicMultiplicativeCoset.{TwoAdicMultiplicativeCoset}
use Rattle.p3_field_core.specs.Basis.{unit_vector}
use Rattle.p3_challenger_core.specs.Run.{moves}
use Rattle.p3_uni_stark_verifier.specs.Inputs.{IsReady, InputFault}
use Rattle.p3_uni_stark_verifier.specs.Setting.{StarkFields, StarkSetting, stark_setting}
use Rattle.p3_uni_stark_verifier.proofs.Accepted.{decides, ends, stands}
use Rattle.p3_uni_stark_verifier.proofs.RefusedInputs.{refused_input}
use Rattle.p3_uni_stark_verifier.proofs.verifier.verify.Given.{Over}
use Rattle.p3_uni_stark_verifier.proofs.verifier.verify.Goals as goal

abbrev Domain : Over → Type 0
Domain g = TwoAdicMultiplicativeCoset g.row.F.Denot g.row.F-Prepared.Denot g.F.TwoAdicField
    g.F.Field g.F.PartialEq g.F.Add g.F.Sub g.F.Mul g.F.Neg

abbrev fields_of : (g : Over) → StarkFields g.row.F.Denot g.row.EF.Denot
fields_of g = record {
  base = g.F.Field.ops;
  ext = g.EF.Field.ops;
  lift = g.EF.ExtensionField.lift;
  root = g.F.TwoAdicField.root;
  two_adicity = g.F.TwoAdicField.TWO_ADICITY;
  generator = g.F.Field.GENERATOR;
  dimension = g.EF.ExtensionField.DIMENSION;
  basis = λ e. g.EF.ExtensionField.of_coefficients
      (unit_vector g.F.Field.ops g.EF.ExtensionField.DIMENSION e);
  canonical = g.F.PrimeField64.canonical;
}

-- what a STARK stands on, named once
abbrev setting_at : (g : Over) → g.row.P.Denot → StarkSetting g.row.F.Denot g.row.EF.Denot
    g.row.C.Denot g.row.Com.Denot (Domain g) g.row.P-ProverData.Denot g.row.P-Proof.Denot
    g.row.P-Error.Denot g.row.P-ProverError.Denot
setting_at g scheme = stark_setting (fields_of g)
    (moves g.C.CanObserve-1.observed g.C.CanObserve-2.observed g.C.CanSample.sampled
    g.EF.ExtensionField.of_coefficients g.EF.ExtensionField.DIMENSION
    g.C.CanSampleBits.sampled_bits) g.P.UnivariateStarkPcs.ZK (g.P.Pcs.rules scheme)
    (λ k d. (d.shift ≡ g.F.Field.ONE) × (d.log_size ≡ k))

pub returns-in-Err-clause-exactly : goal.returns-in-Err-clause-exactly
returns-in-Err-clause-exactly g c =
    let refused = subst (λ (zk : Bool). InputFault g.F.TwoAdicField.TWO_ADICITY
    g.EF.ExtensionField.DIMENSION zk c.args.statement.now c.args.proof.now c.in-Err.fault)
    c.ZK.ensures c.in-Err.ensures.inputs in
    λ no_memory no_opening. (
      λ ok. absurd (false≢true ok),
      λ a. absurd (refused_input _ _ _ _ _ c.in-Err.fault (λ e. no_memory (ap (λ f. Err f) e))
          refused a.log_chunks a.ready),
    )

pub returns-clause-exactly : goal.returns-clause-exactly
returns-clause-exactly g c =
    let ready = subst (λ (zk : Bool). IsReady g.F.TwoAdicField.TWO_ADICITY g.EF.ExtensionField.DIMENSION zk
    c.args.statement.now c.args.proof.now c.in-Ok.log) c.ZK.ensures c.in-Ok.ensures.inputs in
    decides (setting_at g c.args.scheme.now) c.args.statement.now c.args.proof.now
    c.args.challenger.now _ c.in-Ok-draw_challenges.ensures.drawn c.in-Ok.log ready
    c.verify_at.result _ c.verify_at.ensures.exactly

pub returns-clause-state : goal.returns-clause-state
returns-clause-state g c ok =
    let ready = subst (λ (zk : Bool). IsReady g.F.TwoAdicField.TWO_ADICITY g.EF.ExtensionField.DIMENSION zk
    c.args.statement.now c.args.proof.now c.in-Ok.log) c.ZK.ensures c.in-Ok.ensures.inputs in
    ends (setting_at g c.args.scheme.now) c.args.statement.now c.args.proof.now
    c.args.challenger.now _ c.in-Ok-draw_challenges.ensures.drawn c.in-Ok.log ready _
    (c.verify_at.ensures.state ok)

pub returns-clause-stands : goal.returns-clause-stands
returns-clause-stands g c =
    let ready = subst (λ (zk : Bool). IsReady g.F.TwoAdicField.TWO_ADICITY g.EF.ExtensionField.DIMENSION zk
    c.args.statement.now c.args.proof.now c.in-Ok.log) c.ZK.ensures c.in-Ok.ensures.inputs in
    stands (setting_at g c.args.scheme.now) c.args.statement.now c.args.proof.now
    c.args.challenger.now _ c.in-Ok-draw_challenges.ensures.drawn c.in-Ok.log ready
    c.verify_at.result c.verify_at.ensures.stands

pub returns-clause-unmoved : goal.returns-clause-unmoved
returns-clause-unmoved g c not_ready =
    let ready = subst (λ (zk : Bool). IsReady g.F.TwoAdicField.TWO_ADICITY g.EF.ExtensionField.DIMENSION zk
    c.args.statement.now c.args.proof.now c.in-Ok.log) c.ZK.ensures c.in-Ok.ensures.inputs in
    absurd (not_ready (c.in-Ok.log, ready))
