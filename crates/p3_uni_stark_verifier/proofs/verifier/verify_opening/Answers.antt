use Rattle.std.proofs.Common.{◌≡◌, ◌+◌, ℕ, Result, Err, map, refl, sym, ap, ◌∙◌}
use Rattle.std.proofs.lemmas.Bool.{false≢true}
use Rattle.p3_field_core.specs.declared.coset.TwoAdicMultiplicativeCoset.{TwoAdicMultiplicativeCoset}
use Rattle.p3_field_core.specs.Basis.{unit_vector}
use Rattle.p3_challenger_core.specs.Run.{moves}
use Rattle.p3_pcs.specs.Claims.{claim}
use Rattle.p3_uni_stark_verifier.specs.declared.error.VerificationError.TheVariants as fault
use Rattle.p3_uni_stark_verifier.specs.Chunks.{hiding_bits}
use Rattle.p3_uni_stark_verifier.specs.Claimed.{preprocessed_index}
use Rattle.p3_uni_stark_verifier.specs.Relation.{claims_at}
use Rattle.p3_uni_stark_verifier.specs.Setting.{StarkFields, StarkSetting, stark_setting}
use Rattle.p3_uni_stark_verifier.specs.Shown.{key_commitment}
use Rattle.p3_uni_stark_verifier.proofs.Claiming.{claims_made, opened_from, accepted_from}
use Rattle.p3_uni_stark_verifier.proofs.Claiming.{state_from, fault_from}
use Rattle.p3_uni_stark_verifier.proofs.Made.{same_parts}
use Rattle.p3_uni_stark_verifier.proofs.verifier.verify_opening.Given.{Over}
use Rattle.p3_uni_stark_verifier.proofs.verifier.verify_opening.Goals as goal

abbrev Domain : Over → Type 0
Domain g = TwoAdicMultiplicativeCoset g.row.F.Denot g.row.F-Prepared.Denot g.F.TwoAdicField
    g.F.Field g.F.PartialEq g.F.Add g.F.Sub g.F.Mul g.F.Neg

abbrev fields_of : (g : Over) → StarkFields g.row.F.Denot g.row.EF.Denot
fields_of g = record {
  base = g.F.Field.ops;
  ext = g.EF.Field.ops;
  lift = g.EF.ExtensionField.lift;
  root = g.F.TwoAdicField.root;
  two_adicity = g.F.TwoAdicField.TWO_ADICITY;
  generator = g.F.Field.GENERATOR;
  dimension = g.EF.ExtensionField.DIMENSION;
  basis = λ e. g.EF.ExtensionField.of_coefficients
      (unit_vector g.F.Field.ops g.EF.ExtensionField.DIMENSION e);
  canonical = g.F.PrimeField64.canonical;
}

-- what a STARK stands on, named once
abbrev setting_at : (g : Over) → g.row.P.Denot → StarkSetting g.row.F.Denot g.row.EF.Denot
    g.row.C.Denot g.row.Com.Denot (Domain g) g.row.P-ProverData.Denot g.row.P-Proof.Denot
    g.row.P-Error.Denot g.row.P-ProverError.Denot
setting_at g scheme = stark_setting (fields_of g)
    (moves g.C.CanObserve-1.observed g.C.CanObserve-2.observed g.C.CanSample.sampled
    g.EF.ExtensionField.of_coefficients g.EF.ExtensionField.DIMENSION
    g.C.CanSampleBits.sampled_bits) g.P.UnivariateStarkPcs.ZK (g.P.Pcs.rules scheme)
    (λ k d. (d.shift ≡ g.F.Field.ONE) × (d.log_size ≡ k))

abbrev refusal : (X : Type 0) {Error : Type 0} → Error → Result X Error
refusal X e = Err e

-- two refusals for one reason
same_error : {X Error : Type 0} {a b : Error} → refusal X a ≡ refusal X b → a ≡ b
same_error e = cc

-- a subgroup is determined by its size
only_one : (g : Over) (domain : Domain g) (k : ℕ) → domain.shift ≡ g.F.Field.ONE
    → domain.log_size ≡ k → (d : Domain g) → (d.shift ≡ g.F.Field.ONE) × (d.log_size ≡ k)
    → d ≡ domain
only_one g domain k shift size d is =
    same_parts g.F.Field.ops.zero g.F.TwoAdicField.TWO_ADICITY
    (λ s n p q. record { shift = s; log_size = n; nonzero = p; within_two_adicity = q })
    d.shift domain.shift d.log_size domain.log_size d.nonzero domain.nonzero
    d.within_two_adicity domain.within_two_adicity (is.0 ∙ sym shift) (is.1 ∙ sym size)

pub returns-in-Ok-verify_with_preprocessing-clause-exactly :
    goal.returns-in-Ok-verify_with_preprocessing-clause-exactly
returns-in-Ok-verify_with_preprocessing-clause-exactly g c =
    let S = setting_at g c.args.scheme.now in
    let s = c.args.statement.now in
    let p = c.args.proof.now in
    let z = c.args.point in
    let domain = c.subgroup.result in
    let lift = g.EF.ExtensionField.lift in
    let size : domain.log_size ≡ p.log_height + hiding_bits S.zk =
    c.subgroup.ensures.size ∙ c.with_hiding-log_rows.ensures
    ∙ ap (λ b. p.log_height + hiding_bits b) c.ZK.ensures in
    let next = g.met.EF.Field.mul_law c.from_base-generator.result z c.mul.result c.mul.ensures
    ∙ ap (λ x. g.EF.Field.ops.mul x z)
    (c.from_base-generator.ensures ∙ ap lift c.two_adic_generator.ensures) in
    let claims = map claim c.in-Ok.claims.items in
    let made : claims ≡ claims_at S s p domain z = claims_made S s p z domain
    c.commitment_of-preprocessed.result c.mul.result claims c.in-Ok.ensures
    c.commitment_of-preprocessed.ensures next in
    let index = c.index_of-index.result in
    let named : index ≡ preprocessed_index (key_commitment s.preprocessed) =
    c.index_of-index.ensures ∙ ap preprocessed_index c.commitment_of-preprocessed.ensures in
    let only = only_one g domain (p.log_height + hiding_bits S.zk) c.subgroup.ensures.shift size in
    let accepted = c.in-Ok-verify_with_preprocessing.ensures.exactly (λ e. cc) in
    λ no_memory no_opening. (
      λ ok. opened_from S s p z c.args.challenger.now domain (c.subgroup.ensures.shift, size) only
          claims made index named (accepted.0 refl),
      λ opened. refl,
    )

pub returns-in-Ok-verify_with_preprocessing-clause-state :
    goal.returns-in-Ok-verify_with_preprocessing-clause-state
returns-in-Ok-verify_with_preprocessing-clause-state g c =
    let S = setting_at g c.args.scheme.now in
    let s = c.args.statement.now in
    let p = c.args.proof.now in
    let z = c.args.point in
    let domain = c.subgroup.result in
    let lift = g.EF.ExtensionField.lift in
    let size : domain.log_size ≡ p.log_height + hiding_bits S.zk =
    c.subgroup.ensures.size ∙ c.with_hiding-log_rows.ensures
    ∙ ap (λ b. p.log_height + hiding_bits b) c.ZK.ensures in
    let next = g.met.EF.Field.mul_law c.from_base-generator.result z c.mul.result c.mul.ensures
    ∙ ap (λ x. g.EF.Field.ops.mul x z)
    (c.from_base-generator.ensures ∙ ap lift c.two_adic_generator.ensures) in
    let claims = map claim c.in-Ok.claims.items in
    let made : claims ≡ claims_at S s p domain z = claims_made S s p z domain
    c.commitment_of-preprocessed.result c.mul.result claims c.in-Ok.ensures
    c.commitment_of-preprocessed.ensures next in
    let index = c.index_of-index.result in
    let named : index ≡ preprocessed_index (key_commitment s.preprocessed) =
    c.index_of-index.ensures ∙ ap preprocessed_index c.commitment_of-preprocessed.ensures in
    let only = only_one g domain (p.log_height + hiding_bits S.zk) c.subgroup.ensures.shift size in
    λ ok. state_from S s p z c.args.challenger.now domain (c.subgroup.ensures.shift, size) only
    claims made index named _
    (c.in-Ok-verify_with_preprocessing.ensures.state refl)

pub returns-in-Err-verify_with_preprocessing-clause-exactly :
    goal.returns-in-Err-verify_with_preprocessing-clause-exactly
returns-in-Err-verify_with_preprocessing-clause-exactly g c =
    let S = setting_at g c.args.scheme.now in
    let s = c.args.statement.now in
    let p = c.args.proof.now in
    let z = c.args.point in
    let domain = c.subgroup.result in
    let lift = g.EF.ExtensionField.lift in
    let size : domain.log_size ≡ p.log_height + hiding_bits S.zk =
    c.subgroup.ensures.size ∙ c.with_hiding-log_rows.ensures
    ∙ ap (λ b. p.log_height + hiding_bits b) c.ZK.ensures in
    let next = g.met.EF.Field.mul_law c.from_base-generator.result z c.mul.result c.mul.ensures
    ∙ ap (λ x. g.EF.Field.ops.mul x z)
    (c.from_base-generator.ensures ∙ ap lift c.two_adic_generator.ensures) in
    let claims = map claim c.in-Ok.claims.items in
    let made : claims ≡ claims_at S s p domain z = claims_made S s p z domain
    c.commitment_of-preprocessed.result c.mul.result claims c.in-Ok.ensures
    c.commitment_of-preprocessed.ensures next in
    let index = c.index_of-index.result in
    let named : index ≡ preprocessed_index (key_commitment s.preprocessed) =
    c.index_of-index.ensures ∙ ap preprocessed_index c.commitment_of-preprocessed.ensures in
    let only = only_one g domain (p.log_height + hiding_bits S.zk) c.subgroup.ensures.shift size in
    λ no_memory no_opening. (
      λ ok. absurd (false≢true ok),
      λ opened. (c.in-Err-verify_with_preprocessing.ensures.exactly (λ e. no_opening (ap (λ o. Err (fault.InvalidOpeningArgument o)) (same_error e)))).1
          (accepted_from S s p z c.args.challenger.now domain (c.subgroup.ensures.shift, size) only
          claims made index named opened),
    )

pub returns-in-Err-verify_with_preprocessing-clause-stands :
    goal.returns-in-Err-verify_with_preprocessing-clause-stands
returns-in-Err-verify_with_preprocessing-clause-stands g c log alpha =
    let S = setting_at g c.args.scheme.now in
    let s = c.args.statement.now in
    let p = c.args.proof.now in
    let z = c.args.point in
    let domain = c.subgroup.result in
    let lift = g.EF.ExtensionField.lift in
    let size : domain.log_size ≡ p.log_height + hiding_bits S.zk =
    c.subgroup.ensures.size ∙ c.with_hiding-log_rows.ensures
    ∙ ap (λ b. p.log_height + hiding_bits b) c.ZK.ensures in
    let next = g.met.EF.Field.mul_law c.from_base-generator.result z c.mul.result c.mul.ensures
    ∙ ap (λ x. g.EF.Field.ops.mul x z)
    (c.from_base-generator.ensures ∙ ap lift c.two_adic_generator.ensures) in
    let claims = map claim c.in-Ok.claims.items in
    let made : claims ≡ claims_at S s p domain z = claims_made S s p z domain
    c.commitment_of-preprocessed.result c.mul.result claims c.in-Ok.ensures
    c.commitment_of-preprocessed.ensures next in
    let index = c.index_of-index.result in
    let named : index ≡ preprocessed_index (key_commitment s.preprocessed) =
    c.index_of-index.ensures ∙ ap preprocessed_index c.commitment_of-preprocessed.ensures in
    let only = only_one g domain (p.log_height + hiding_bits S.zk) c.subgroup.ensures.shift size in
    fault_from S s p z c.args.challenger.now domain (c.subgroup.ensures.shift, size) only
    claims made index named c.in-Err-verify_with_preprocessing.error
    c.in-Err-verify_with_preprocessing.ensures.stands
