use Rattle.std.proofs.Common.{◌≡◌, ◌^◌, ℕ, List, None, map}
use Rattle.std.proofs.lemmas.Result.{IfOk-weaker}
use Rattle.p3_field_core.specs.declared.coset.TwoAdicMultiplicativeCoset.{TwoAdicMultiplicativeCoset}
use Rattle.p3_challenger_core.specs.Run.{moves}
use Rattle.p3_pcs.specs.Claims.{opened_values}
use Rattle.p3_pcs.specs.Requests.{request, honest_claims, FitDomains}
use Rattle.p3_fri_relation.specs.Setting.{Fields, Setting, CommitmentClaim}
use Rattle.p3_fri_relation.specs.Views.{parameters_of, proof_of}
use Rattle.p3_fri_openings.specs.SchemeClaims.{relation_claims}
use Rattle.p3_fri_hiding_openings.specs.Ends.{last_state}
use Rattle.p3_fri_hiding_openings.specs.Accepted.{two_adic}
use Rattle.p3_fri_hiding_openings.specs.RandomValues.{with_random_values}
use Rattle.p3_fri_hiding_openings.specs.Hiding.{HidingAccepts}
use Rattle.p3_fri_hiding_openings.specs.Data.{IsUnopened, shown_polynomials}
use Rattle.p3_fri_hiding.proofs.Domains.{on_domains}
use Rattle.p3_fri_hiding_openings.proofs.Mapped.{all_mapped}
use Rattle.p3_fri_hiding.proofs.pcs.HidingFriPcsPcs.open.Given.{Over}
use Rattle.p3_fri_hiding.proofs.pcs.HidingFriPcsPcs.open.Goals as goal

abbrev Domain : Over → Type 0
Domain g = TwoAdicMultiplicativeCoset g.row.F.Denot g.row.F-Prepared.Denot g.F.TwoAdicField
    g.F.Field g.F.PartialEq g.F.Add g.F.Sub g.F.Mul g.F.Neg

abbrev fields_of : (g : Over) → Fields g.row.F.Denot g.row.EF.Denot
fields_of g = record {
  base = g.F.Field.ops;
  ext = g.EF.Field.ops;
  lift = g.EF.ExtensionField.lift;
  coefficients = g.EF.ExtensionField.coefficients;
  degree = g.EF.ExtensionField.DIMENSION;
  root = g.F.TwoAdicField.root;
  two_adicity = g.F.TwoAdicField.TWO_ADICITY;
  shift = g.F.Field.GENERATOR;
}

-- what the scheme stands on, named once
abbrev setting_at : (g : Over) → g.row.InputMmcs.Denot → g.row.M.Denot
    → Setting g.row.F.Denot g.row.EF.Denot g.row.C.Denot g.row.M-Commitment.Denot
    g.row.M-MultiProof.Denot
    g.row.InputMmcs-Commitment.Denot g.row.InputMmcs-MultiProof.Denot
setting_at g input_mmcs mmcs = two_adic (fields_of g)
    (moves g.C.CanObserve-1.observed g.C.CanObserve-2.observed g.C.CanSample.sampled
    g.EF.ExtensionField.of_coefficients g.EF.ExtensionField.DIMENSION
    g.C.CanSampleBits.sampled_bits)
    (g.InputMmcs.Mmcs.opens input_mmcs) (g.M.Mmcs.opens mmcs)

pub open_hiding_requests-requires-clause-shape : goal.open_hiding_requests-requires-clause-shape
open_hiding_requests-requires-clause-shape g c = record {
  data_openable = all_mapped (λ r. r.datum)
      (IsUnopened (fields_of g) g.InputMmcs.Mmcs.committed c.args.self.now.fri.log_blowup
      c.args.self.now.num_random_codewords) (map request c.args.requests.now)
      c.requires.shape.data_openable;
  points = c.requires.shape.points;
  some_matrix = c.requires.shape.some_matrix;
}

pub returns-clause-accepted : goal.returns-clause-accepted
returns-clause-accepted g c honest =
    let s = setting_at g c.args.self.now.mmcs c.args.self.now.fri.mmcs in
    let p = parameters_of c.args.self.now.fri in
    let r = c.args.self.now.num_random_codewords in
    let commitment_of = g.InputMmcs.Mmcs.commitment_of in
    let requests = map request c.args.requests.now in
    let shown = shown_polynomials (fields_of g) g.InputMmcs.Mmcs.committed
    c.args.self.now.fri.log_blowup r in
    IfOk-weaker c.open_hiding_requests.result
    (λ opening. (sizes : List (List ℕ)) → FitDomains shown (λ k. 2 ^ k) sizes requests
    → HidingAccepts s p r None (relation_claims (λ k. k)
    (honest_claims shown (λ d. commitment_of d.inner) sizes requests))
    (opened_values opening.1.0.items) (proof_of opening.1.1) c.args.challenger.now)
    (λ opening. (domains : List (List (Domain g)))
    → FitDomains shown (λ (d : Domain g). 2 ^ d.log_size) domains requests
    → HidingAccepts s p r None (relation_claims (λ (d : Domain g). d.log_size)
    (honest_claims shown (λ d. commitment_of d.inner) domains requests))
    (opened_values opening.1.0.items) (proof_of opening.1.1) c.args.challenger.now)
    (λ opening. on_domains shown (λ d. commitment_of d.inner) (λ (d : Domain g). d.log_size)
    requests (λ (cs : List (CommitmentClaim g.row.EF.Denot g.row.InputMmcs-Commitment.Denot)).
    HidingAccepts s p r None cs (opened_values opening.1.0.items) (proof_of opening.1.1)
    c.args.challenger.now))
    (c.open_hiding_requests.ensures.accepted honest)

pub returns-clause-state : goal.returns-clause-state
returns-clause-state g c honest =
    let s = setting_at g c.args.self.now.mmcs c.args.self.now.fri.mmcs in
    let p = parameters_of c.args.self.now.fri in
    let r = c.args.self.now.num_random_codewords in
    let commitment_of = g.InputMmcs.Mmcs.commitment_of in
    let requests = map request c.args.requests.now in
    let shown = shown_polynomials (fields_of g) g.InputMmcs.Mmcs.committed
    c.args.self.now.fri.log_blowup r in
    IfOk-weaker c.open_hiding_requests.result
    (λ opening. (sizes : List (List ℕ)) → FitDomains shown (λ k. 2 ^ k) sizes requests
    → c.open_hiding_requests.new.challenger ≡ last_state s p
    (with_random_values (relation_claims (λ k. k)
    (honest_claims shown (λ d. commitment_of d.inner) sizes requests))
    (opened_values opening.1.0.items)) (proof_of opening.1.1) c.args.challenger.now)
    (λ opening. (domains : List (List (Domain g)))
    → FitDomains shown (λ (d : Domain g). 2 ^ d.log_size) domains requests
    → c.open_hiding_requests.new.challenger ≡ last_state s p
    (with_random_values (relation_claims (λ (d : Domain g). d.log_size)
    (honest_claims shown (λ d. commitment_of d.inner) domains requests))
    (opened_values opening.1.0.items)) (proof_of opening.1.1) c.args.challenger.now)
    (λ opening. on_domains shown (λ d. commitment_of d.inner) (λ (d : Domain g). d.log_size)
    requests (λ (cs : List (CommitmentClaim g.row.EF.Denot g.row.InputMmcs-Commitment.Denot)).
    c.open_hiding_requests.new.challenger ≡ last_state s p
    (with_random_values cs (opened_values opening.1.0.items)) (proof_of opening.1.1)
    c.args.challenger.now))
    (c.open_hiding_requests.ensures.state honest)

pub returns-clause-checked : goal.returns-clause-checked
returns-clause-checked g c = c.open_hiding_requests.ensures.checked

pub returns-clause-opened : goal.returns-clause-opened
returns-clause-opened g c = c.open_hiding_requests.ensures.opened

pub returns-clause-refused : goal.returns-clause-refused
returns-clause-refused g c = c.open_hiding_requests.ensures.refused

pub returns-clause-unopened : goal.returns-clause-unopened
returns-clause-unopened g c = c.open_hiding_requests.ensures.unopened
