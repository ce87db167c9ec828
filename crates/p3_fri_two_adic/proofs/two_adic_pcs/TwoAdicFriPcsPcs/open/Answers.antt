use Rattle.std.proofs.Common.{◌≡◌, List, map, subst}
use Rattle.std.proofs.lemmas.Result.{IfOk-weaker}
use Rattle.p3_field_core.specs.declared.coset.TwoAdicMultiplicativeCoset.{TwoAdicMultiplicativeCoset}
use Rattle.p3_challenger_core.specs.Run.{moves}
use Rattle.p3_pcs.specs.Requests.{request}
use Rattle.p3_fri_relation.specs.Setting.{Fields, Setting, CommitmentClaim}
use Rattle.p3_fri_relation.specs.Acceptance.{Accepts}
use Rattle.p3_fri_relation.specs.Views.{parameters_of, proof_of}
use Rattle.p3_fri_openings.specs.Held.{held_of}
use Rattle.p3_fri_opening_verifier.specs.Ends.{last_state}
use Rattle.p3_fri_opening_verifier.specs.Accepted.{two_adic}
use Rattle.p3_fri_two_adic.proofs.Sizes.{claims_sized, domains_sized}
use Rattle.p3_fri_two_adic.proofs.Unspent.{data_kept}
use Rattle.p3_fri_two_adic.proofs.two_adic_pcs.TwoAdicFriPcsPcs.open.Given.{Over}
use Rattle.p3_fri_two_adic.proofs.two_adic_pcs.TwoAdicFriPcsPcs.open.Goals as goal

abbrev Domain : Over → Type 0
Domain g = TwoAdicMultiplicativeCoset g.row.F.Denot g.row.F-Prepared.Denot g.F.TwoAdicField
    g.F.Field g.F.PartialEq g.F.Add g.F.Sub g.F.Mul g.F.Neg

abbrev fields_of : (g : Over) → Fields g.row.F.Denot g.row.EF.Denot
fields_of g = record {
  base = g.F.Field.ops;
  ext = g.EF.Field.ops;
  lift = g.EF.ExtensionField.lift;
  coefficients = g.EF.ExtensionField.coefficients;
  degree = g.EF.ExtensionField.DIMENSION;
  root = g.F.TwoAdicField.root;
  two_adicity = g.F.TwoAdicField.TWO_ADICITY;
  shift = g.F.Field.GENERATOR;
}

-- what the scheme stands on, named once
abbrev setting_at : (g : Over) → g.row.InputMmcs.Denot → g.row.M.Denot
    → Setting g.row.F.Denot g.row.EF.Denot g.row.C.Denot g.row.M-Commitment.Denot
    g.row.M-MultiProof.Denot
    g.row.InputMmcs-Commitment.Denot g.row.InputMmcs-MultiProof.Denot
setting_at g input_mmcs mmcs = two_adic (fields_of g)
    (moves g.C.CanObserve-1.observed g.C.CanObserve-2.observed g.C.CanSample.sampled
    g.EF.ExtensionField.of_coefficients g.EF.ExtensionField.DIMENSION
    g.C.CanSampleBits.sampled_bits)
    (g.InputMmcs.Mmcs.opens input_mmcs) (g.M.Mmcs.opens mmcs)

pub returns-clause-values : goal.returns-clause-values
returns-clause-values g c honest =
    IfOk-weaker c.open_requests.result _ _ (λ opening opened. opened.honest)
    c.open_requests.ensures.opened

pub returns-clause-accepted : goal.returns-clause-accepted
returns-clause-accepted g c honest =
    let s = setting_at g c.args.self.now.mmcs c.args.self.now.fri.mmcs in
    let p = parameters_of c.args.self.now.fri in
    let commitment_of = g.InputMmcs.Mmcs.commitment_of in
    let requests = map request c.args.requests.now in
    let held = held_of (fields_of g) g.InputMmcs.Mmcs.committed c.args.self.now.fri.log_blowup in
    IfOk-weaker c.open_requests.result _ _
    (λ opening opened domains fits.
    subst (λ (cs : List (CommitmentClaim g.row.EF.Denot g.row.InputMmcs-Commitment.Denot)). Accepts
    s p cs (proof_of opening.1) c.args.challenger.now)
    (claims_sized held commitment_of (λ (d : Domain g). d.log_size) domains requests)
    (opened.accepted honest (map (map (λ (d : Domain g). d.log_size)) domains)
    (domains_sized held commitment_of (λ (d : Domain g). d.log_size) domains requests fits)))
    c.open_requests.ensures.opened

pub returns-clause-state : goal.returns-clause-state
returns-clause-state g c honest =
    let s = setting_at g c.args.self.now.mmcs c.args.self.now.fri.mmcs in
    let p = parameters_of c.args.self.now.fri in
    let commitment_of = g.InputMmcs.Mmcs.commitment_of in
    let requests = map request c.args.requests.now in
    let held = held_of (fields_of g) g.InputMmcs.Mmcs.committed c.args.self.now.fri.log_blowup in
    IfOk-weaker c.open_requests.result _ _
    (λ opening opened domains fits.
    subst (λ (cs : List (CommitmentClaim g.row.EF.Denot g.row.InputMmcs-Commitment.Denot)).
    c.open_requests.new.challenger ≡ last_state s p cs (proof_of opening.1) c.args.challenger.now)
    (claims_sized held commitment_of (λ (d : Domain g). d.log_size) domains requests)
    (opened.state honest (map (map (λ (d : Domain g). d.log_size)) domains)
    (domains_sized held commitment_of (λ (d : Domain g). d.log_size) domains requests fits)))
    c.open_requests.ensures.opened

pub returns-clause-opened : goal.returns-clause-opened
returns-clause-opened g c passed = data_kept c.args.requests.now
