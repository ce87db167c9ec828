use Rattle.std.proofs.Common.{◌≡◌, ℕ, Err, length, refl, ap, ◌∙◌}
use Rattle.std.proofs.lemmas.Bool.{false≢true}
use Rattle.p3_field_core.specs.declared.coset.TwoAdicMultiplicativeCoset.{TwoAdicMultiplicativeCoset}
use Rattle.p3_field_core.specs.Basis.{unit_vector}
use Rattle.p3_challenger_core.specs.Run.{moves}
use Rattle.p3_uni_stark_verifier.specs.Setting.{StarkFields, StarkSetting, stark_setting}
use Rattle.p3_uni_stark_verifier.proofs.Refused.{periodic_count}
use Rattle.p3_uni_stark_verifier.proofs.RefusedPoints.{refused_periodic, agree_at}
use Rattle.p3_uni_stark_verifier.proofs.RefusedPoints.{decided_at, stands_at}
use Rattle.p3_uni_stark_verifier.proofs.verifier.verify_at.Given.{Over}
use Rattle.p3_uni_stark_verifier.proofs.verifier.verify_at.Goals as goal

abbrev Domain : Over → Type 0
Domain g = TwoAdicMultiplicativeCoset g.row.F.Denot g.row.F-Prepared.Denot g.F.TwoAdicField
    g.F.Field g.F.PartialEq g.F.Add g.F.Sub g.F.Mul g.F.Neg

abbrev fields_of : (g : Over) → StarkFields g.row.F.Denot g.row.EF.Denot
fields_of g = record {
  base = g.F.Field.ops;
  ext = g.EF.Field.ops;
  lift = g.EF.ExtensionField.lift;
  root = g.F.TwoAdicField.root;
  two_adicity = g.F.TwoAdicField.TWO_ADICITY;
  generator = g.F.Field.GENERATOR;
  dimension = g.EF.ExtensionField.DIMENSION;
  basis = λ e. g.EF.ExtensionField.of_coefficients
      (unit_vector g.F.Field.ops g.EF.ExtensionField.DIMENSION e);
  canonical = g.F.PrimeField64.canonical;
}

-- what a STARK stands on, named once
abbrev setting_at : (g : Over) → g.row.P.Denot → StarkSetting g.row.F.Denot g.row.EF.Denot
    g.row.C.Denot g.row.Com.Denot (Domain g) g.row.P-ProverData.Denot g.row.P-Proof.Denot
    g.row.P-Error.Denot g.row.P-ProverError.Denot
setting_at g scheme = stark_setting (fields_of g)
    (moves g.C.CanObserve-1.observed g.C.CanObserve-2.observed g.C.CanSample.sampled
    g.EF.ExtensionField.of_coefficients g.EF.ExtensionField.DIMENSION
    g.C.CanSampleBits.sampled_bits) g.P.UnivariateStarkPcs.ZK (g.P.Pcs.rules scheme)
    (λ k d. (d.shift ≡ g.F.Field.ONE) × (d.log_size ≡ k))

pub returns-in-Err-clause-exactly : goal.returns-in-Err-clause-exactly
returns-in-Err-clause-exactly g c = λ no_memory no_opening. (
  λ ok. absurd (false≢true ok),
  λ holds. absurd (refused_periodic _ _ _ _ _ _ _ c.in-Err.fault
      (λ e. no_memory (ap (λ f. Err f) e)) c.in-Err.ensures.err holds),
)

pub returns-in-Err-verify_opening-clause-stands : goal.returns-in-Err-verify_opening-clause-stands
returns-in-Err-verify_opening-clause-stands g c = c.in-Err-verify_opening.ensures.stands
    c.args.log_chunks c.args.challenges.alpha

pub check_identity-requires-clause-periodic : goal.check_identity-requires-clause-periodic
check_identity-requires-clause-periodic g c =
    let lift = g.EF.ExtensionField.lift in
    ap length c.as_slice-values.ensures.value
    ∙ periodic_count g.EF.Field.ops (λ (k : ℕ). lift (g.F.TwoAdicField.root k))
    c.args.proof.now.log_height c.args.challenges.zeta lift c.args.statement.now.periodic.now
    c.in-Ok.values.items c.in-Ok.ensures.values

pub returns-clause-exactly : goal.returns-clause-exactly
returns-clause-exactly g c = λ no_memory no_opening.
    let values = c.in-Ok.values.items in
    let identity = decided_at (setting_at g c.args.scheme.now) c.args.statement.now
    c.args.proof.now c.args.log_chunks c.args.challenges.alpha c.args.challenges.zeta
    c.args.challenger.now c.check_identity.result c.ZK.result c.as_slice-values.result.now values
    c.ZK.ensures c.as_slice-values.ensures.value (c.check_identity.ensures.exactly no_memory) in (
      λ ok. record {
        off = λ e. false≢true (c.if-is_on_domain.ensures.1 e);
        periods = c.in-Ok.ensures.periods refl;
        opened = (c.in-Ok-verify_opening.ensures.exactly (λ e. cc) (λ e. cc)).0 refl;
        periodic = values;
        are_periodic = c.in-Ok.ensures.values;
        identity = identity.0 ok;
      },
      λ holds. identity.1 (agree_at _ _ _ _ _ _ _ values c.in-Ok.ensures.values holds),
    )

pub returns-clause-state : goal.returns-clause-state
returns-clause-state g c _ = c.in-Ok-verify_opening.ensures.state refl

pub returns-clause-stands : goal.returns-clause-stands
returns-clause-stands g c = stands_at (setting_at g c.args.scheme.now) c.args.statement.now
    c.args.proof.now c.args.log_chunks c.args.challenges.alpha c.args.challenges.zeta
    c.args.challenger.now c.check_identity.result c.ZK.result c.as_slice-values.result.now
    c.in-Ok.values.items c.ZK.ensures c.as_slice-values.ensures.value c.in-Ok.ensures.values
    c.check_identity.ensures.stands
