use Rattle.std.proofs.Common.{List, map, inl, refl, sym, ap, ◌∙◌, subst, arith}
use Rattle.p3_challenger_core.specs.Run.{moves}
use Rattle.p3_pcs.specs.Claims.{claim, opened_values}
use Rattle.p3_fri_relation.specs.Setting.{Setting, CommitmentClaim}
use Rattle.p3_fri_relation.specs.Views.{parameters_of, claims_of, proof_of}
use Rattle.p3_fri_openings.specs.SchemeClaims.{relation_claims}
use Rattle.p3_fri_opening_verifier.specs.Ends.{last_state}
use Rattle.p3_fri_completeness.proofs.SeenClaims.{claims_are}
use Rattle.p3_fri_opening_verifier.specs.Accepted.{two_adic}
use Rattle.p3_fri_hiding_openings.specs.RandomValues.{MayAppend, with_random_values}
use Rattle.p3_fri_hiding_openings.specs.RandomFaults.{HidingFaults}
use Rattle.p3_fri_hiding_openings.proofs.Verified.{exactly_with, stands_with, unmoved_with}
use Rattle.p3_fri_hiding_openings.proofs.Verified.{written_back}
use Rattle.p3_fri_hiding_openings.proofs.verify.verify_with_random_values.Given.{Over}
use Rattle.p3_fri_hiding_openings.proofs.verify.verify_with_random_values.Goals as goal

-- what the scheme stands on, named once
abbrev setting_at : (g : Over) → g.row.InputMmcs.Denot → g.row.M.Denot
    → Setting g.row.F.Denot g.row.EF.Denot g.row.C.Denot g.row.M-Commitment.Denot
    g.row.M-MultiProof.Denot
    g.row.InputMmcs-Commitment.Denot g.row.InputMmcs-MultiProof.Denot
setting_at g input_mmcs mmcs = two_adic (record {
  base = g.F.Field.ops;
  ext = g.EF.Field.ops;
  lift = g.EF.ExtensionField.lift;
  coefficients = g.EF.ExtensionField.coefficients;
  degree = g.EF.ExtensionField.DIMENSION;
  root = g.F.TwoAdicField.root;
  two_adicity = g.F.TwoAdicField.TWO_ADICITY;
  shift = g.F.Field.GENERATOR;
}) (moves g.C.CanObserve-1.observed g.C.CanObserve-2.observed g.C.CanSample.sampled
    g.EF.ExtensionField.of_coefficients g.EF.ExtensionField.DIMENSION
    g.C.CanSampleBits.sampled_bits)
    (g.InputMmcs.Mmcs.opens input_mmcs) (g.M.Mmcs.opens mmcs)

pub returns-in-Err-clause-exactly : goal.returns-in-Err-clause-exactly
returns-in-Err-clause-exactly g c other =
    let k = c.args.setting.now in
    let seen = ap (claims_of (λ d. d.log_size)) c.as_mut_slice.ensures.value
    ∙ sym (claims_are (λ d. d.log_size) c.args.claims.items) in (
      (λ ok. cc),
      (λ a. (c.in-Err.ensures.exactly other).1 (subst
          (λ (cs : List (CommitmentClaim g.row.EF.Denot g.row.InputMmcs-Commitment.Denot)).
          MayAppend k.num_random_codewords k.params.now.num_queries
          g.EF.ExtensionField.DIMENSION k.preprocessing cs (opened_values c.args.random.now))
          (sym seen) a.appends)),
    )

pub returns-in-Err-clause-stands : goal.returns-in-Err-clause-stands
returns-in-Err-clause-stands g c =
    let k = c.args.setting.now in
    let seen = ap (claims_of (λ d. d.log_size)) c.as_mut_slice.ensures.value
    ∙ sym (claims_are (λ d. d.log_size) c.args.claims.items) in
    inl (subst (λ (cs : List (CommitmentClaim g.row.EF.Denot g.row.InputMmcs-Commitment.Denot)).
    HidingFaults k.num_random_codewords k.params.now.num_queries
    g.EF.ExtensionField.DIMENSION k.preprocessing cs (opened_values c.args.random.now)
    c.in-Err.refusal) seen c.in-Err.ensures.stands)

pub returns-clause-exactly : goal.returns-clause-exactly
returns-clause-exactly g c =
    let k = c.args.setting.now in
    let s = setting_at g k.input_mmcs.now k.params.now.mmcs in
    let random = opened_values c.args.random.now in
    let new = c.append_random_values-appended.new.claims in
    let seen = ap (claims_of (λ d. d.log_size)) c.as_mut_slice.ensures.value
    ∙ sym (claims_are (λ d. d.log_size) c.args.claims.items) in
    let back = c.deref.ensures.value ∙ written_back new c.args.claims.items c.args.claims.len
    (omega (arith, c.append_random_values-appended.auto.claims)) c.args.claims.ok.0 in
    let same = ap (claims_of (λ d. d.log_size)) back ∙ c.in-Ok.ensures.appended
    ∙ ap (λ (cs : List (CommitmentClaim g.row.EF.Denot g.row.InputMmcs-Commitment.Denot)).
    with_random_values cs random) seen in
    let may = subst (λ (cs : List (CommitmentClaim g.row.EF.Denot
    g.row.InputMmcs-Commitment.Denot)).
    MayAppend k.num_random_codewords k.params.now.num_queries
    g.EF.ExtensionField.DIMENSION k.preprocessing cs random)
    seen ((c.in-Ok.ensures.exactly (λ e. cc)).0 refl) in
    exactly_with s (parameters_of k.params.now) k.num_random_codewords
    k.preprocessing (relation_claims (λ d. d.log_size) (map claim c.args.claims.items))
    (claims_of (λ d. d.log_size) c.deref.result.now) random (proof_of c.args.proof.now)
    c.args.challenger.now c.verify_opening.result may same c.verify_opening.ensures.exact

pub returns-clause-state : goal.returns-clause-state
returns-clause-state g c ok =
    let k = c.args.setting.now in
    let s = setting_at g k.input_mmcs.now k.params.now.mmcs in
    let random = opened_values c.args.random.now in
    let new = c.append_random_values-appended.new.claims in
    let seen = ap (claims_of (λ d. d.log_size)) c.as_mut_slice.ensures.value
    ∙ sym (claims_are (λ d. d.log_size) c.args.claims.items) in
    let back = c.deref.ensures.value ∙ written_back new c.args.claims.items c.args.claims.len
    (omega (arith, c.append_random_values-appended.auto.claims)) c.args.claims.ok.0 in
    let same = ap (claims_of (λ d. d.log_size)) back ∙ c.in-Ok.ensures.appended
    ∙ ap (λ (cs : List (CommitmentClaim g.row.EF.Denot g.row.InputMmcs-Commitment.Denot)).
    with_random_values cs random) seen in
    c.verify_opening.ensures.state ok
    ∙ ap (λ (cs : List (CommitmentClaim g.row.EF.Denot g.row.InputMmcs-Commitment.Denot)).
    last_state s (parameters_of k.params.now) cs (proof_of c.args.proof.now)
    c.args.challenger.now) same

pub returns-clause-stands : goal.returns-clause-stands
returns-clause-stands g c =
    let k = c.args.setting.now in
    let s = setting_at g k.input_mmcs.now k.params.now.mmcs in
    let random = opened_values c.args.random.now in
    let new = c.append_random_values-appended.new.claims in
    let seen = ap (claims_of (λ d. d.log_size)) c.as_mut_slice.ensures.value
    ∙ sym (claims_are (λ d. d.log_size) c.args.claims.items) in
    let back = c.deref.ensures.value ∙ written_back new c.args.claims.items c.args.claims.len
    (omega (arith, c.append_random_values-appended.auto.claims)) c.args.claims.ok.0 in
    let same = ap (claims_of (λ d. d.log_size)) back ∙ c.in-Ok.ensures.appended
    ∙ ap (λ (cs : List (CommitmentClaim g.row.EF.Denot g.row.InputMmcs-Commitment.Denot)).
    with_random_values cs random) seen in
    let may = subst (λ (cs : List (CommitmentClaim g.row.EF.Denot
    g.row.InputMmcs-Commitment.Denot)).
    MayAppend k.num_random_codewords k.params.now.num_queries
    g.EF.ExtensionField.DIMENSION k.preprocessing cs random)
    seen ((c.in-Ok.ensures.exactly (λ e. cc)).0 refl) in
    stands_with s (parameters_of k.params.now) k.num_random_codewords
    k.preprocessing (relation_claims (λ d. d.log_size) (map claim c.args.claims.items))
    (claims_of (λ d. d.log_size) c.deref.result.now) random (proof_of c.args.proof.now)
    c.args.challenger.now c.verify_opening.result may same c.verify_opening.ensures.refusal

pub returns-clause-unmoved : goal.returns-clause-unmoved
returns-clause-unmoved g c =
    let k = c.args.setting.now in
    let s = setting_at g k.input_mmcs.now k.params.now.mmcs in
    unmoved_with s (parameters_of k.params.now) k.num_random_codewords
    k.preprocessing (relation_claims (λ d. d.log_size) (map claim c.args.claims.items))
    (claims_of (λ d. d.log_size) c.deref.result.now) (opened_values c.args.random.now)
    (proof_of c.args.proof.now) c.args.challenger.now c.verify_opening.result
    c.verify_opening.ensures.refusal c.verify_opening.ensures.unchanged
