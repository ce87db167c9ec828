use Rattle.std.proofs.Common.{◌≡◌, List, map, subst}
use Rattle.std.specs.Prelude.{◌↔◌, IsOk, IfErr}
use Rattle.std.specs.declared.alloc.Global.{Global}
use Rattle.std.specs.declared.vec.Vec.{Vec}
use Rattle.p3_challenger_core.specs.Run.{moves}
use Rattle.p3_pcs.specs.Claims.{claim, opened_values}
use Rattle.p3_fri_relation.specs.Setting.{Setting}
use Rattle.p3_fri_relation.specs.Views.{parameters_of, proof_of}
use Rattle.p3_fri_openings.specs.SchemeClaims.{relation_claims}
use Rattle.p3_fri_hiding_openings.specs.Ends.{last_state}
use Rattle.p3_fri_hiding_openings.specs.Accepted.{two_adic}
use Rattle.p3_fri_hiding_openings.specs.RandomValues.{with_random_values}
use Rattle.p3_fri_hiding_openings.specs.Hiding.{HidingAccepts, StandsInHidingScheme}
use Rattle.p3_fri_hiding.proofs.univariate.HidingFriPcsUnivariateStarkPcs.verify_with_preprocessing.Given.{Over}
use Rattle.p3_fri_hiding.proofs.univariate.HidingFriPcsUnivariateStarkPcs.verify_with_preprocessing.Goals as goal

-- what the scheme stands on, named once
abbrev setting_at : (g : Over) → g.row.InputMmcs.Denot → g.row.M.Denot
    → Setting g.row.F.Denot g.row.EF.Denot g.row.C.Denot g.row.M-Commitment.Denot
    g.row.M-MultiProof.Denot
    g.row.InputMmcs-Commitment.Denot g.row.InputMmcs-MultiProof.Denot
setting_at g input_mmcs mmcs = two_adic (record {
  base = g.F.Field.ops;
  ext = g.EF.Field.ops;
  lift = g.EF.ExtensionField.lift;
  coefficients = g.EF.ExtensionField.coefficients;
  degree = g.EF.ExtensionField.DIMENSION;
  root = g.F.TwoAdicField.root;
  two_adicity = g.F.TwoAdicField.TWO_ADICITY;
  shift = g.F.Field.GENERATOR;
}) (moves g.C.CanObserve-1.observed g.C.CanObserve-2.observed g.C.CanSample.sampled
    g.EF.ExtensionField.of_coefficients g.EF.ExtensionField.DIMENSION
    g.C.CanSampleBits.sampled_bits)
    (g.InputMmcs.Mmcs.opens input_mmcs) (g.M.Mmcs.opens mmcs)

-- random values as a proof holds them
abbrev Random : Over → Type 0
Random g = List (Vec (Vec (Vec g.row.EF.Denot Global) Global) Global)

pub returns-clause-exactly : goal.returns-clause-exactly
returns-clause-exactly g c other =
    let s = setting_at g c.args.self.now.mmcs c.args.self.now.fri.mmcs in
    let claims = relation_claims (λ d. d.log_size) (map claim c.args.claims.items) in
    subst (λ (random : Random g). IsOk c.verify_with_random_values.result ↔ HidingAccepts s
    (parameters_of c.args.self.now.fri) c.args.self.now.num_random_codewords c.args.preprocessing
    claims (opened_values random) (proof_of c.args.proof.now.1) c.args.challenger.now)
    c.as_slice-random.ensures.value (c.verify_with_random_values.ensures.exactly other)

pub returns-clause-state : goal.returns-clause-state
returns-clause-state g c ok =
    let s = setting_at g c.args.self.now.mmcs c.args.self.now.fri.mmcs in
    let claims = relation_claims (λ d. d.log_size) (map claim c.args.claims.items) in
    subst (λ (random : Random g). c.verify_with_random_values.new.challenger ≡ last_state s
    (parameters_of c.args.self.now.fri) (with_random_values claims (opened_values random))
    (proof_of c.args.proof.now.1) c.args.challenger.now)
    c.as_slice-random.ensures.value (c.verify_with_random_values.ensures.state ok)

pub returns-clause-stands : goal.returns-clause-stands
returns-clause-stands g c =
    let s = setting_at g c.args.self.now.mmcs c.args.self.now.fri.mmcs in
    let claims = relation_claims (λ d. d.log_size) (map claim c.args.claims.items) in
    subst (λ (random : Random g). IfErr c.verify_with_random_values.result (StandsInHidingScheme s
    (parameters_of c.args.self.now.fri) c.args.self.now.num_random_codewords c.args.preprocessing
    claims (opened_values random) (proof_of c.args.proof.now.1) c.args.challenger.now))
    c.as_slice-random.ensures.value c.verify_with_random_values.ensures.stands
