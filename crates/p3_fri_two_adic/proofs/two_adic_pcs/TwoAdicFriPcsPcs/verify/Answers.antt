use Rattle.std.proofs.Common.{◌≡◌, List, sym, ap, ◌∙◌, subst}
use Rattle.std.specs.Prelude.{◌↔◌, IsOk, IfErr}
use Rattle.p3_challenger_core.specs.Run.{moves}
use Rattle.p3_fri_relation.specs.Setting.{Setting, CommitmentClaim}
use Rattle.p3_fri_relation.specs.Acceptance.{Accepts}
use Rattle.p3_fri_relation.specs.Faults.{StandsInScheme}
use Rattle.p3_fri_relation.specs.Views.{parameters_of, claims_of, proof_of}
use Rattle.p3_fri_opening_verifier.specs.Ends.{last_state}
use Rattle.p3_fri_opening_verifier.specs.Accepted.{two_adic}
use Rattle.p3_fri_completeness.proofs.SeenClaims.{claims_are}
use Rattle.p3_fri_two_adic.proofs.Claims.{unmoved_from}
use Rattle.p3_fri_two_adic.proofs.two_adic_pcs.TwoAdicFriPcsPcs.verify.Given.{Over}
use Rattle.p3_fri_two_adic.proofs.two_adic_pcs.TwoAdicFriPcsPcs.verify.Goals as goal

-- what the scheme stands on, named once
abbrev setting_at : (g : Over) → g.row.InputMmcs.Denot → g.row.M.Denot
    → Setting g.row.F.Denot g.row.EF.Denot g.row.C.Denot g.row.M-Commitment.Denot
    g.row.M-MultiProof.Denot
    g.row.InputMmcs-Commitment.Denot g.row.InputMmcs-MultiProof.Denot
setting_at g input_mmcs mmcs = two_adic (record {
  base = g.F.Field.ops;
  ext = g.EF.Field.ops;
  lift = g.EF.ExtensionField.lift;
  coefficients = g.EF.ExtensionField.coefficients;
  degree = g.EF.ExtensionField.DIMENSION;
  root = g.F.TwoAdicField.root;
  two_adicity = g.F.TwoAdicField.TWO_ADICITY;
  shift = g.F.Field.GENERATOR;
}) (moves g.C.CanObserve-1.observed g.C.CanObserve-2.observed g.C.CanSample.sampled
    g.EF.ExtensionField.of_coefficients g.EF.ExtensionField.DIMENSION
    g.C.CanSampleBits.sampled_bits)
    (g.InputMmcs.Mmcs.opens input_mmcs) (g.M.Mmcs.opens mmcs)

pub returns-clause-exactly : goal.returns-clause-exactly
returns-clause-exactly g c other =
    let s = setting_at g c.args.self.now.mmcs c.args.self.now.fri.mmcs in
    let same = ap (claims_of (λ d. d.log_size)) c.deref.ensures.value
    ∙ sym (claims_are (λ d. d.log_size) c.args.claims.items) in
    subst (λ (cs : List (CommitmentClaim g.row.EF.Denot g.row.InputMmcs-Commitment.Denot)).
    IsOk c.verify_opening.result ↔ Accepts s (parameters_of c.args.self.now.fri) cs
    (proof_of c.args.proof.now) c.args.challenger.now)
    same (c.verify_opening.ensures.exact other)

pub returns-clause-state : goal.returns-clause-state
returns-clause-state g c ok =
    let s = setting_at g c.args.self.now.mmcs c.args.self.now.fri.mmcs in
    let same = ap (claims_of (λ d. d.log_size)) c.deref.ensures.value
    ∙ sym (claims_are (λ d. d.log_size) c.args.claims.items) in
    subst (λ (cs : List (CommitmentClaim g.row.EF.Denot g.row.InputMmcs-Commitment.Denot)).
    c.verify_opening.new.challenger ≡ last_state s (parameters_of c.args.self.now.fri) cs
    (proof_of c.args.proof.now) c.args.challenger.now)
    same (c.verify_opening.ensures.state ok)

pub returns-clause-stands : goal.returns-clause-stands
returns-clause-stands g c =
    let s = setting_at g c.args.self.now.mmcs c.args.self.now.fri.mmcs in
    let same = ap (claims_of (λ d. d.log_size)) c.deref.ensures.value
    ∙ sym (claims_are (λ d. d.log_size) c.args.claims.items) in
    subst (λ (cs : List (CommitmentClaim g.row.EF.Denot g.row.InputMmcs-Commitment.Denot)).
    IfErr c.verify_opening.result (StandsInScheme s (parameters_of c.args.self.now.fri) cs
    (proof_of c.args.proof.now) c.args.challenger.now))
    same c.verify_opening.ensures.refusal

pub returns-clause-unmoved : goal.returns-clause-unmoved
returns-clause-unmoved g c = unmoved_from c.verify_opening.result c.verify_opening.ensures.unchanged
